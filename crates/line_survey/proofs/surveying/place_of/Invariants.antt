use Rattle.std.proofs.Common.{◌≡◌, ◌<◌, ℕ, Some, slice_get}
use Rattle.line_survey.specs.declared.survey.RestRow.{RestRow}
use Rattle.line_survey.proofs.surveying.place_of.Given as goal

abbrev pub invariant-loop-i : goal.invariant-loop-i
invariant-loop-i l = (k : ℕ) → k < l.i → (r : RestRow) → slice_get l.rests k ≡ Some r → r.left ≡ l.left → ⊥
