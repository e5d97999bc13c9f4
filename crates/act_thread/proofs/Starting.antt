-- Threads at rest.
use Rattle.std.proofs.Common.{◌≡◌, ℕ, ◌<◌, ◌≤◌, Bool, true, false, Some, None, List, [], ◌∷◌, length, refl, sym, ap, ◌∙◌, arith}
use Rattle.std.proofs.lemmas.Bool.{both_ways}
use Rattle.std.specs.List.{list_any}
use Rattle.irq_base.specs.declared.devices.DeviceDef.{DeviceDef}
use Rattle.irq_base.specs.declared.numbers.DevNo.{DevNo}
use Rattle.irq_model.specs.Lines.{is_device}
use Rattle.irq_model.specs.Valid.{HasDistinctDevices}
use Rattle.device_table.specs.Ranks.{rank_in}
use Rattle.device_table.specs.RankSets.{holds}
use Rattle.device_table.specs.Rows.{at, table_by, all_with}
use Rattle.device_table.specs.Sums.{one_if, weigh_all}
use Rattle.device_table.proofs.Lowest.{own_by}
use Rattle.device_table.proofs.Ranking.{is_ranking}
use Rattle.device_table.proofs.Tables.{at_device, at_none}
use Rattle.act_thread.specs.Marked.{AreMarked, IsKept}
use Rattle.act_thread.proofs.Numbering.{rank_all}
use Rattle.act_thread.specs.Steps.{idle_row, is_ready, is_returned, active_row}
use Rattle.act_thread.specs.declared.rows.ThreadRow.{ThreadRow}

length_by : (f : DevNo → ThreadRow) (xs : List DeviceDef) → length (table_by f xs) ≡ length xs
length_by f [] = refl
length_by f (x ∷ xs) = omega (arith, length_by f xs)

weigh_none : (w : ThreadRow → ℕ) (r : ThreadRow) → w r ≡ 0 → (xs : List DeviceDef) → weigh_all w (all_with r xs) ≡ 0
weigh_none w r h [] = refl
weigh_none w r h (x ∷ xs) = omega (arith, h, weigh_none w r h xs)

module _ (xs : List DeviceDef) where
  -- a device with a row is one of the line's, and at rest
  found : (d : DevNo) (row : ThreadRow) (b : Bool) → list_any (is_device d) xs ≡ b
      → at (all_with idle_row xs) d ≡ Some row → (list_any (is_device d) xs ≡ true) × (row ≡ idle_row)
  found d row true is h = let e : at (all_with idle_row xs) d ≡ Some idle_row = at_device (λ y. idle_row) xs d is in (is, cc)
  found d row false is h = let e : at (all_with idle_row xs) d ≡ None = at_none (λ y. idle_row) xs d is in cc

  none_marked : (p : ThreadRow → Bool) (words : List ℕ) → p idle_row ≡ false → length xs ≤ 256
      → ((r : ℕ) → r < 256 → holds words r ≡ false) → AreMarked p (all_with idle_row xs) (table_by (rank_in xs) xs)
      words
  none_marked p words at_rest few none = record {
    here = λ d row r has rank.
        let f = found d row (list_any (is_device d) xs) refl has in
        none r ((is_ranking xs few).few d r rank) ∙ sym (ap p f.1 ∙ at_rest);
    only = λ r low is. absurd (both_ways (holds words r) (none r low) is);
  }

  pub all_kept : (ready returned : List ℕ) → HasDistinctDevices xs → length xs ≤ 256
      → ((r : ℕ) → r < 256 → holds ready r ≡ false) → ((r : ℕ) → r < 256 → holds returned r ≡ false)
      → IsKept (all_with idle_row xs) 0 0 (table_by (rank_in xs) xs) ready returned
  all_kept ready returned distinct few no_ready no_returned = record {
    active = sym (weigh_none active_row idle_row refl xs);
    held = sym (weigh_none (λ r. one_if r.held) idle_row refl xs);
    few = omega (arith, length_by (λ d. idle_row) xs, few);
    own = own_by (λ d. idle_row) xs distinct;
    ranking = is_ranking xs few;
    numbered = rank_all (λ d. idle_row) xs;
    ranked = λ d row has. (rank_in xs d, at_device (rank_in xs) xs d (found d row (list_any (is_device d) xs) refl has).0);
    readies = none_marked is_ready ready refl few no_ready;
    returns = none_marked is_returned returned refl few no_returned;
  }
