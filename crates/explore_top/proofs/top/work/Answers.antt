use Rattle.std.proofs.Common.{List}
use Rattle.callbacks.specs.Heard.{Heard}
use Rattle.irq_base.specs.declared.devices.Run.{Run}
use Rattle.explore_top.proofs.Asked.{of_asked}
use Rattle.explore_top.proofs.top.work.Goals as goal

pub returns-in-Some-clause-does : goal.returns-in-Some-clause-does
returns-in-Some-clause-does g c =
    of_asked (λ (runs : List Run). Heard g.H.Handler.hears runs c.args.handlers.now c.act.new.handlers)
    (g.S.Source.left c.args.src.now) (g.S.Source.left c.act.new.src) (g.O.Sink.written c.args.out.now)
    (g.O.Sink.written c.act.new.out) c.act.result _ c.in-Some.asked c.in-Some.ensures c.act.ensures.does

pub returns-in-None-clause-does : goal.returns-in-None-clause-does
returns-in-None-clause-does g c = λ asked asks. absurd (c.in-None.ensures asked asks)
