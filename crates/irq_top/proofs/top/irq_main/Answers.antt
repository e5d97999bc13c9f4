use Rattle.callbacks.specs.Heard.{Heard}
use Rattle.notifiers.specs.Told.{Told}
use Rattle.irq_top.proofs.Asked.{of_asked, wanted_of_asked}
use Rattle.irq_top.proofs.top.irq_main.Goals as goal

pub returns-then-not-is_quiet-clause-does : goal.returns-then-not-is_quiet-clause-does
returns-then-not-is_quiet-clause-does g c =
    of_asked (λ runs. Heard g.H.Handler.hears runs c.args.handlers.now c.act-outcome.new.handlers)
    (g.D.SharedHandler.gave c.args.shared.now) (λ placings. Told g.N.Notifier.tells placings c.args.notify.now c.act-outcome.new.notify)
    (g.S.Source.left c.args.src.now) (g.S.Source.left c.act-outcome.new.src) c.act-outcome.result.reports.reports
    (g.O.Sink.written c.args.out.now) (g.O.Sink.written c.act-outcome.new.out) c.act-outcome.result.ending _ c.in-Some.asked
    c.in-Some.ensures c.act-outcome.ensures.does

pub returns-then-not-is_quiet-clause-wanted : goal.returns-then-not-is_quiet-clause-wanted
returns-then-not-is_quiet-clause-wanted g c =
    wanted_of_asked g.M.Line.IrqLine.may_want (g.S.Source.left c.args.src.now) c.act-outcome.result.reports.reports c.act-outcome.result.ending
    _ c.in-Some.asked c.in-Some.ensures c.act-outcome.ensures.wanted

pub returns-else-not-is_quiet-clause-does : goal.returns-else-not-is_quiet-clause-does
returns-else-not-is_quiet-clause-does g c =
    of_asked (λ runs. Heard g.H.Handler.hears runs c.args.handlers.now c.act-outcome.new.handlers)
    (g.D.SharedHandler.gave c.args.shared.now) (λ placings. Told g.N.Notifier.tells placings c.args.notify.now c.act-outcome.new.notify)
    (g.S.Source.left c.args.src.now) (g.S.Source.left c.act-outcome.new.src) c.act-outcome.result.reports.reports
    (g.O.Sink.written c.args.out.now) (g.O.Sink.written c.act-outcome.new.out) c.act-outcome.result.ending _ c.in-Some.asked
    c.in-Some.ensures c.act-outcome.ensures.does

pub returns-else-not-is_quiet-clause-wanted : goal.returns-else-not-is_quiet-clause-wanted
returns-else-not-is_quiet-clause-wanted g c =
    wanted_of_asked g.M.Line.IrqLine.may_want (g.S.Source.left c.args.src.now) c.act-outcome.result.reports.reports c.act-outcome.result.ending
    _ c.in-Some.asked c.in-Some.ensures c.act-outcome.ensures.wanted
