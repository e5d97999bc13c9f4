use Rattle.std.proofs.Common.{◌≡◌, ◌++◌, drop}
use Rattle.hotplug_plan.specs.Planned.{moves_of}
use Rattle.hotplug_plan.proofs.plan.moves_of.Given as goal

abbrev pub invariant-loop-i : goal.invariant-loop-i
invariant-loop-i l = l.calls.items ++ moves_of (drop l.i l.said) ≡ moves_of l.said
