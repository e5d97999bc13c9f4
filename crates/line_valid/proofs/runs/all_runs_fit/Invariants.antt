use Rattle.std.proofs.Common.{◌≡◌, drop}
use Rattle.std.specs.List.{list_all}
use Rattle.line_valid.specs.DecidingRuns.{fits_run}
use Rattle.line_valid.proofs.runs.all_runs_fit.Given as goal

abbrev pub invariant-loop-i : goal.invariant-loop-i
invariant-loop-i l = list_all (fits_run l.def) l.def.runs ≡ list_all (fits_run l.def) (drop l.i l.def.runs)
