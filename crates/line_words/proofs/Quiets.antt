-- Whether one of the calls from a place on turns a device's own interrupt off.
use Rattle.std.proofs.Common.{◌≡◌, ◌≤◌, ℕ, zero, suc, ◌+◌, Bool, false, ◌||◌, Some, List, [], ◌∷◌, drop, length, slice_get, refl, ap, arith}
use Rattle.std.specs.List.{list_any}
use Rattle.irq_base.specs.declared.calls.Call.{Call}
use Rattle.irq_base.specs.declared.numbers.DriverNo.{DriverNo}
use Rattle.irq_model.proofs.Lists.{next_item}
use Rattle.line_words.specs.Words.{is_quiet_call}

abbrev pub any_from : List (DriverNo × Call) → ℕ → Bool
any_from cs i = list_any (λ (c : DriverNo × Call). is_quiet_call c.1) (drop i cs)

pub any_next : (cs : List (DriverNo × Call)) (i : ℕ) (c : DriverNo × Call) → slice_get cs i ≡ Some c
    → any_from cs i ≡ (is_quiet_call c.1 || any_from cs (i + 1))
any_next cs i c is = ap (λ (xs : List (DriverNo × Call)). list_any (λ (x : DriverNo × Call). is_quiet_call x.1) xs) (next_item cs i c is)

pub any_end : (cs : List (DriverNo × Call)) (i : ℕ) → length cs ≤ i → any_from cs i ≡ false
any_end [] zero h = refl
any_end [] (suc i) h = refl
any_end (x ∷ cs) zero h = absurd (omega arith)
any_end (x ∷ cs) (suc i) h = any_end cs i (omega arith)
