use Rattle.std.proofs.Common.{◌<◌, ℕ}
use Rattle.line_survey.proofs.Meeting.{IsOther}
use Rattle.line_survey.proofs.wanting.has_entry.Given as goal

abbrev pub invariant-loop-place : goal.invariant-loop-place
invariant-loop-place l = (k : ℕ) → k < l.place → IsOther l.found l.entry k
