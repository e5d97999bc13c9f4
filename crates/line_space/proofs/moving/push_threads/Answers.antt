use Rattle.std.proofs.Common.{Vec, Global, ap, sym, ◌∙◌, arith}
use Rattle.device_table.proofs.Steps.{none_left}
use Rattle.irq_base.specs.declared.entries.Actor.{Actor}
use Rattle.line_space.proofs.Pushing.{threads_next}
use Rattle.line_space.proofs.moving.push_threads.Goals as goal
use Rattle.line_space.proofs.moving.push_threads.Goals.{in-Some+in_ok-push, in_default}

pub loop-i-preserved : goal.loop-i-preserved
loop-i-preserved c =
    elim c.match-get.branch [
      | in-Some+in_ok-push w ↦
          threads_next c.args.def.now.devices c.loop-i.i w.in-Some.device (sym w.in-Some.ensures)
          c.loop-i.actors.items c.match-get.actors.items (ap (λ (v : Vec Actor Global). v.items) w.actors-is ∙ w.in_ok-push.ensures.items)
          ∙ c.loop-i.invariant
      | in_default w ↦ none_left c.args.def.now.devices c.loop-i.i (omega (arith, c.loop-i-test.true, c.len-i-end.ensures)) (sym w.in_default.ensures)
    ]
