use Rattle.std.proofs.Common.{◌≡◌, drop}
use Rattle.std.specs.List.{list_any}
use Rattle.irq_model.specs.ValidRuns.{may_wait}
use Rattle.run_scripts.proofs.scripts.may_any_wait.Given as goal

abbrev pub invariant-loop-call : goal.invariant-loop-call
invariant-loop-call l = list_any may_wait l.calls ≡ list_any may_wait (drop l.call-index l.calls)
