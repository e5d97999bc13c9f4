use Rattle.std.proofs.Common.{rules, ◌≡◌, sym, subst, ◌∙◌}
use Rattle.std.proofs.lemmas.Option.{same_Some}
use Rattle.irq_base.specs.declared.entries.Actor.{Actor}
use Rattle.irq_line.specs.Answers.{Answers}
use Rattle.irq_line.specs.Hearing.{Lacks}
use Rattle.irq_line.specs.Memory.{WantsMemory}
use Rattle.callbacks.specs.contracts.before.BeforeHears as before
use Rattle.line_lock.specs.Knows.{looked}
use Rattle.line_shared.proofs.Stepped.{steps}
use Rattle.line_shared.proofs.shared.SharedLine.step.Goals as goal

pub returns-clause-steps : goal.returns-clause-steps
returns-clause-steps g c = λ who is.
    let seen = g.L.IrqLine.seen in
    let line = seen c.hold-held.result.line.value in
    let after = seen c.step_held-answer.new.held.line.value in
    let def : line.def ≡ c.args.self.now.def = search rules in
    let actor : c.in-Some.actor ≡ who = same_Some c.in-Some.actor who (sym c.in-Some.is ∙ (c.actor.ensures ∙ is)) in
    let answer = subst (λ (a : Actor). Answers line a c.step_held-answer.result after) actor c.step_held-answer.ensures.answer in
    let now : c.leave.new.pass.knows ≡ looked c.args.pass.now.knows after.entries = search rules in
    let memory = subst (λ (a : Actor). WantsMemory g.L.IrqLine.may_want line a c.step_held-answer.result) actor c.step_held-answer.ensures.memory in
    let lacking = subst (λ (a : Actor). Lacks before.TheImpl.ghosts.lacks line a c.args.before.now
    c.step_held-answer.result) actor c.step_held-answer.ensures.lacking in
    steps g.L.IrqLine.seen g.L.IrqLine.may_want before.TheImpl.ghosts.hears before.TheImpl.ghosts.lacks
    c.args.self.now.def who c.args.pass.now.knows c.leave.new.pass.knows
    c.hold-held.result.line.value after c.args.before.now c.step_held-answer.new.before c.step_held-answer.result def is c.step_held-answer.ensures.sound.0
    c.hold-held.ensures.begins c.hold-held.ensures.mine answer c.step_held-answer.ensures.heard lacking memory
    (c.step_held-answer.ensures.def ∙ def) c.step_held-answer.ensures.sound.1 now
