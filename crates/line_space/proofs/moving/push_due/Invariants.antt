use Rattle.std.proofs.Common.{◌≡◌, ◌++◌, drop}
use Rattle.std.specs.List.{filter}
use Rattle.line_space.specs.Stepping.{is_due_in}
use Rattle.line_space.proofs.moving.push_due.Given as goal

abbrev pub invariant-loop-actor : goal.invariant-loop-actor
invariant-loop-actor l =
    l.due.items ++ filter (is_due_in l.def l.scratch.state.state l.scratch.scripts) (drop l.actor-index l.asked)
    ≡ filter (is_due_in l.def l.scratch.state.state l.scratch.scripts) l.asked
