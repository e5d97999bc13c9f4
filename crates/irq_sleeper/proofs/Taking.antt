-- A line taken out of a list.
use Rattle.std.proofs.Common.{◌≡◌, Bool, true, false, not, ◌&&◌, filter, List, refl, sym, ap, ◌∙◌}
use Rattle.std.proofs.lemmas.Map.Views.{any-filter_same}
use Rattle.irq_base.specs.declared.numbers.LineNo.{LineNo}
use Rattle.irq_model.specs.Kinds.{same_line}
use Rattle.irq_model.proofs.Same.{line_from_same}
use Rattle.irq_pm.specs.Waking.{is_among}

turned : (a b : Bool) → (a && b) ≡ (b && a)
turned true true = refl
turned true false = refl
turned false true = refl
turned false false = refl

-- the others stay
pub among_left : (line : LineNo) (old new : List LineNo) → new ≡ filter (λ x. not (same_line x line)) old
    → (other : LineNo) → is_among other new ≡ (is_among other old && not (same_line other line))
among_left line old new is other =
    ap (is_among other) is
    ∙ (any-filter_same (same_line other) (λ x. not (same_line x line)) (not (same_line other line))
    (λ x same. ap (λ (y : LineNo). not (same_line y line)) (sym (line_from_same other x same))) old
    ∙ turned (not (same_line other line)) (is_among other old))
