use Rattle.std.proofs.Common.{◌≡◌, drop}
use Rattle.irq_explore.specs.Surveyed.{first_cut}
use Rattle.irq_explore.proofs.exploring.found_in.Given as goal

abbrev pub invariant-loop-survey : goal.invariant-loop-survey
invariant-loop-survey l = first_cut l.surveys ≡ first_cut (drop l.survey-index l.surveys)
