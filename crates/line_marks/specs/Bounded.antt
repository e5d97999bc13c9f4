-- How far the counts of a line can go.
use Rattle.std.specs.Prelude.{◌≡◌, ℕ, ◌+◌, ◌-◌, ◌^◌, ◌<◌, ◌≤◌, Some}
use Rattle.irq_base.specs.declared.devices.Part.{Part}
use Rattle.irq_base.specs.declared.numbers.DevNo.{DevNo}
use Rattle.device_table.specs.Rows.{at}
use Rattle.ask_counts.specs.Rows.{HasRoom}
use Rattle.ask_counts.specs.declared.rows.AskRow.{AskRow}
use Rattle.run_scripts.specs.Places.{place_at}
use Rattle.line_marks.specs.Expected.{HasRounds, HasDepth}
use Rattle.line_marks.specs.State.{StateSeen}

-- no count is above n, the number of entries; the depth, which begins at 1, is at most n + 1
pub record IsFew (n : ℕ) (s : StateSeen) : Type 0 where
  pub depth : s.desc.depth ≤ n + 1
  pub rounds : s.list.rounds ≤ n
  pub handled : s.counts.counts.threads_handled ≤ n
  pub asks : (d : DevNo) (r : AskRow) → at s.asks d ≡ Some r → (r.unserved ≤ n) × (r.fresh ≤ n)
  pub runs : (d : DevNo) (part : Part) → (place_at s.places d part).within ≤ n

-- each count has room for one more
pub record HasSpace (s : StateSeen) : Type 0 where
  pub depth : HasDepth s
  pub rounds : HasRounds s
  pub handled : s.counts.counts.threads_handled < 2 ^ 32 - 1
  pub asks : (d : DevNo) → HasRoom (at s.asks d)
  pub runs : (d : DevNo) (part : Part) → (place_at s.places d part).within + 1 < 2 ^ 32
