use Rattle.std.proofs.Common.{◌≡◌, drop}
use Rattle.std.specs.List.{list_all}
use Rattle.line_valid.specs.DecidingRuns.{fits_answer}
use Rattle.line_valid.proofs.runs.all_answers_fit.Given as goal

abbrev pub invariant-loop-i : goal.invariant-loop-i
invariant-loop-i l = list_all (fits_answer l.def) l.def.told ≡ list_all (fits_answer l.def) (drop l.i l.def.told)
