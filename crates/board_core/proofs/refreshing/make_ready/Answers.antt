use Rattle.board_core.proofs.Readiness.{all_ready}
use Rattle.board_core.proofs.refreshing.make_ready.Goals as goal

pub returns : goal.returns
returns g c =
    all_ready g.L.IrqLine.seen c.args.lines.now c.args.scripts.now c.in_ok-ready.ready c.ask_lines.new.ready
    c.ask_scripts.new.ready c.in_ok-ready.ensures.lines c.in_ok-ready.ensures.drivers
    c.ask_lines.ensures.lines c.ask_lines.ensures.all c.ask_lines.ensures.drivers c.ask_scripts.ensures.drivers
    c.ask_scripts.ensures.all c.ask_scripts.ensures.lines
