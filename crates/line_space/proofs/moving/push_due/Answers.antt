use Rattle.std.proofs.Common.{Vec, Global, true, false, ap, sym, append-nil, ◌∙◌}
use Rattle.irq_base.specs.declared.entries.Actor.{Actor}
use Rattle.line_space.specs.Stepping.{is_due_in}
use Rattle.line_space.proofs.Pushing.{due_told, passed_next}
use Rattle.line_space.proofs.moving.push_due.Goals as goal
use Rattle.line_space.proofs.moving.push_due.Goals.{then-is_some+in_ok-push, else-is_some}

pub loop-actor-preserved : goal.loop-actor-preserved
loop-actor-preserved c =
    let def = c.args.def.now in
    let s = c.args.scratch.now in
    let told = sym (due_told def s.state.state s.scripts _ c.due_by.result (c.due_by.ensures.due def c.requires.scripted)) ∙ sym c.is_some.ensures in
    let p = is_due_in def s.state.state s.scripts in
    elim c.if-is_some.branch [
      | then-is_some+in_ok-push w ↦
          passed_next p c.args.asked.now c.loop-actor.actor-index _ c.loop-actor-test.true true (told ∙ w.if-is_some.true)
          c.loop-actor.due.items c.if-is_some.due.items (ap (λ (v : Vec Actor Global). v.items) w.due-is ∙ w.in_ok-push.ensures.items)
          ∙ c.loop-actor.invariant
      | else-is_some w ↦
          passed_next p c.args.asked.now c.loop-actor.actor-index _ c.loop-actor-test.true false (told ∙ w.if-is_some.false)
          c.loop-actor.due.items c.if-is_some.due.items (ap (λ (v : Vec Actor Global). v.items) w.due-is ∙ sym (append-nil c.loop-actor.due.items))
          ∙ c.loop-actor.invariant
    ]
