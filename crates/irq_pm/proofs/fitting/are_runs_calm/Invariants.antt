use Rattle.std.proofs.Common.{◌≡◌, not, drop}
use Rattle.std.specs.List.{list_any}
use Rattle.irq_pm.specs.Sleeping.{moves_or_waits}
use Rattle.irq_pm.specs.SleptBoard.{are_runs_calm}
use Rattle.irq_pm.proofs.fitting.are_runs_calm.Given as goal

abbrev pub invariant-loop-run : goal.invariant-loop-run
invariant-loop-run l = are_runs_calm l.board ≡ not (list_any (λ r. moves_or_waits r.call) (drop l.run-index l.run-items))
