-- A run that doesn't serve changes nothing.
use Rattle.std.proofs.Common.{◌≡◌, Bool, true, false, cond, Some, List, [], ◌∷◌, refl, sym, ap, ◌∙◌}
use Rattle.irq_base.specs.declared.numbers.DevNo.{DevNo}
use Rattle.irq_model.specs.Kinds.{same_dev}
use Rattle.device_table.specs.Rows.{at, put, change, changed}
use Rattle.ask_counts.specs.Rows.{served}
use Rattle.ask_counts.specs.declared.rows.AskRow.{AskRow}

some_row : (r s : AskRow) → Some r ≡ Some s → r ≡ s
some_row r s h = cc

-- the row is put in its own place
put_stands : (t : List (DevNo × AskRow)) (d : DevNo) (r : AskRow) → at t d ≡ Some r → put t d r ≡ t
put_stands [] d r h = refl
put_stands (e ∷ es) d r h = by_test (same_dev d e.0) h (put_stands es d r)
  where
    by_test : (b : Bool) → cond b (Some e.1) (at es d) ≡ Some r → (at es d ≡ Some r → put es d r ≡ es)
        → cond b ((e.0, r) ∷ es) (e ∷ put es d r) ≡ e ∷ es
    by_test true i rest = ap (λ x. (e.0, x) ∷ es) (sym (some_row e.1 r i))
    by_test false i rest = ap (λ xs. e ∷ xs) (rest i)

pub served_stands : (t : List (DevNo × AskRow)) (d : DevNo) (r : AskRow) (serves : Bool) → serves ≡ false
    → Some r ≡ at t d → t ≡ change (served serves) t d
served_stands t d r serves idle found =
    sym (ap (changed (served serves) t d) (sym found)
    ∙ (ap (λ b. put t d (served b r)) idle ∙ put_stands t d r (sym found)))
