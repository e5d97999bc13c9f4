-- What a row contributes to the counts; and a device keeps its rank.
use Rattle.std.proofs.Common.{◌≡◌, ℕ, ◌≤◌, Bool, true, false, Some, List, refl, sym, ◌∙◌, ap, arith}
use Rattle.std.proofs.lemmas.Map.Steps.{set_value_same}
use Rattle.irq_base.specs.declared.numbers.DevNo.{DevNo}
use Rattle.irq_model.specs.Kinds.{same_dev}
use Rattle.irq_model.proofs.Same.{dev_from_same}
use Rattle.device_table.specs.Rows.{at, put, change, changed}
use Rattle.device_table.specs.Sums.{one_if}
use Rattle.device_table.proofs.Lowest.{at_put_other}
use Rattle.act_thread.specs.Steps.{active_row}
use Rattle.act_thread.specs.declared.rows.ThreadRow.{ThreadRow}

pub at_most_two : (r : ThreadRow) → active_row r ≤ 2
at_most_two r = grind arith

pub held_few : (r : ThreadRow) → one_if r.held ≤ 2
held_few r = by_test r.held
  where
    by_test : (b : Bool) → one_if b ≤ 2
    by_test true = omega arith
    by_test false = omega arith

pub ranked_put : (t : List (DevNo × ThreadRow)) (ranks : List (DevNo × ℕ)) (d : DevNo) (old new : ThreadRow)
    → at t d ≡ Some old → ((x : DevNo) (row : ThreadRow) → at t x ≡ Some row → (r : ℕ) × (at ranks x ≡ Some r))
    → (x : DevNo) (row : ThreadRow) → at (put t d new) x ≡ Some row → (r : ℕ) × (at ranks x ≡ Some r)
ranked_put t ranks d old new there ranked x row found = by_test (same_dev d x) refl
  where
    by_test : (b : Bool) → same_dev d x ≡ b → (r : ℕ) × (at ranks x ≡ Some r)
    by_test true is = ranked x old (ap (at t) (sym (dev_from_same d x is)) ∙ there)
    by_test false is = ranked x row (sym (at_put_other t d x new is) ∙ found)

-- a step that leaves the row leaves the table
pub unchanged : (h : ThreadRow → ThreadRow) (t s : List (DevNo × ThreadRow)) (d : DevNo) (row : ThreadRow) → t ≡ s → Some row ≡ at t d → h row ≡ row
    → s ≡ change h s d
unchanged h t s d row seen found same =
    let there : at s d ≡ Some row = ap (λ (rows : List (DevNo × ThreadRow)). at rows d) (sym seen) ∙ sym found in
    sym (ap (changed h s d) there ∙ (ap (put s d) same ∙ set_value_same (same_dev d) s row there))
