use Rattle.std.proofs.Common.{◌≡◌, drop}
use Rattle.std.specs.List.{list_any}
use Rattle.irq_model.specs.RunBounds.{wakes_by_handler}
use Rattle.line_valid.proofs.runs.is_woken_by_handlers.Given as goal

abbrev pub invariant-loop-i : goal.invariant-loop-i
invariant-loop-i l = list_any (wakes_by_handler l.dev) l.runs ≡ list_any (wakes_by_handler l.dev) (drop l.i l.runs)
