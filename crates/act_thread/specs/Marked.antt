-- What the code keeps beside the rows: two counts, and two sets of ranks.
use Rattle.std.specs.Prelude.{◌≡◌, ℕ, ◌<◌, ◌≤◌, ◌==◌, Bool, true, false, Option, Some, None, List}
use Rattle.std.specs.Prelude.{length}
use Rattle.irq_base.specs.declared.numbers.DevNo.{DevNo}
use Rattle.device_table.specs.Ranks.{IsRanking}
use Rattle.device_table.specs.RankSets.{holds}
use Rattle.device_table.specs.Rows.{at, HasOwnKeys}
use Rattle.act_thread.specs.Steps.{is_ready, is_returned}
use Rattle.act_thread.specs.Threads.{active_in, held_in, rank_at}
use Rattle.act_thread.specs.declared.rows.ThreadRow.{ThreadRow}

abbrev pub is_rank : ℕ → Option ℕ → Bool
is_rank r None = false
is_rank r (Some s) = r == s

-- a device's rank is in the set exactly if its row passes
pub record AreMarked (p : ThreadRow → Bool) (t : List (DevNo × ThreadRow))
    (ranks : List (DevNo × ℕ)) (words : List ℕ) : Type 0 where
  pub here : (d : DevNo) (row : ThreadRow) (r : ℕ) → at t d ≡ Some row → at ranks d ≡ Some r
      → holds words r ≡ p row
  pub only : (r : ℕ) → r < 256 → holds words r ≡ true
      → (d : DevNo) × (row : ThreadRow) × (at t d ≡ Some row) × (at ranks d ≡ Some r)

pub record IsKept (t : List (DevNo × ThreadRow)) (a h : ℕ) (ranks : List (DevNo × ℕ))
    (ready returned : List ℕ) : Type 0 where
  pub active : a ≡ active_in t
  pub held : h ≡ held_in t
  pub few : length t ≤ 256
  pub own : HasOwnKeys t
  pub ranking : IsRanking ranks
  pub numbered : (d : DevNo) → at ranks d ≡ rank_at t d
  pub ranked : (d : DevNo) (row : ThreadRow) → at t d ≡ Some row → (r : ℕ) × (at ranks d ≡ Some r)
  pub readies : AreMarked is_ready t ranks ready
  pub returns : AreMarked is_returned t ranks returned
