use Rattle.std.proofs.Common.{rules, ◌≡◌, List, [], ◌∷◌, ◌++◌, reverse, ap, ◌∙◌, arith}
use Rattle.irq_base.specs.declared.entries.Entry.{Entry}
use Rattle.irq_model.specs.Next.{next_past}
use Rattle.plain_line.proofs.Steps.{adds, due_on}
use Rattle.plain_line.proofs.line.PlainLineIrqLine.step.Goals as goal

pub returns-clause-answer : goal.returns-clause-answer
returns-clause-answer g c =
    let old = c.args.self.now in
    let entry = c.in-Some.entry in
    let room = c.in_ok-looked.ensures.room in
    let past : c.deref.result.now ≡ reverse old.entries = search rules in
    let looked : c.in_ok-entry.field-0 ≡ next_past old.def c.deref.result.now c.args.actor = search rules in
    let more = room.spare in
    let less = c.add.ensures.spare in
    adds old c.add.new.self c.args.actor entry
    (due_on old c.deref.result.now c.in_ok-entry.field-0 c.args.actor entry past looked c.in-Some.is)
    room.below (c.add.ensures.def ∙ room.def) (c.add.ensures.entries ∙ ap (λ (h : List Entry). h ++ entry ∷ []) room.entries) (omega (arith, more, less))
