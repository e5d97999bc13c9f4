use Rattle.std.proofs.Common.{◌∙◌, Err, List, ap, length, map, subst, sym}
use Rattle.std.proofs.lemmas.Result.{err_from_is_err_and}
use Rattle.irq_base.specs.declared.devices.Run.{Run}
use Rattle.callbacks.specs.Heard.{Heard}
use Rattle.irq_line.specs.declared.answers.StepRefused.{StepRefused}
use Rattle.board_core.specs.Places.{StepWants, told}
use Rattle.board_core.proofs.AtPlaces.{runs_there, stepped_at, wants_at, wants_piece}
use Rattle.board_core.proofs.places.step_place.Goals as goal

pub returns-clause-stepped : goal.returns-clause-stepped
returns-clause-stepped g c =
    stepped_at g.L.IrqLine.seen c.args.lines.now.items c.args.place c.index_mut-line.result.now
    c.step-stepped.new.self c.requires.place c.index_mut-line.ensures.value c.args.handlers.now
    c.args.order.now.items c.tell.new.order.items c.args.actor c.step-stepped.result c.step-stepped.ensures.answer
    c.step-stepped.ensures.lacking c.is_sound.ensures
    (c.tell.ensures.told ∙ ap (λ items. told c.step-stepped.result items c.args.place) c.make_room.ensures.items)

pub returns-clause-memory : goal.returns-clause-memory
returns-clause-memory g c =
    wants_at g.L.IrqLine.seen c.args.lines.now.items c.args.place c.index_mut-line.result.now
    c.step-stepped.new.self c.requires.place c.index_mut-line.ensures.value g.L.IrqLine.may_want _ c.args.actor
    c.step-stepped.result c.step-stepped.ensures.memory

pub returns-in_err-make_room-clause-memory : goal.returns-in_err-make_room-clause-memory
returns-in_err-make_room-clause-memory g c =
    let p = err_from_is_err_and c.from_residual.result c.from_residual.ensures.1 in
    subst (λ r. StepWants g.L.IrqLine.may_want (map g.L.IrqLine.seen c.args.lines.now.items)
    (length c.args.order.now.items) c.args.place c.args.actor r) (sym (p.1 ∙ ap (λ (e : StepRefused). Err e) p.2))
    (wants_piece g.L.IrqLine.seen c.args.lines.now.items g.L.IrqLine.may_want (length c.args.order.now.items) c.args.place
    c.args.actor c.requires.place c.in_err-make_room.ensures.needed)

pub returns-clause-heard : goal.returns-clause-heard
returns-clause-heard g c = subst (λ (runs : List Run). Heard g.H.Handler.hears runs c.args.handlers.now c.step-stepped.new.ears)
    (runs_there g.L.IrqLine.seen c.args.lines.now.items c.args.place c.index_mut-line.result.now
    c.step-stepped.new.self c.requires.place c.index_mut-line.ensures.value c.step-stepped.result) c.step-stepped.ensures.heard
