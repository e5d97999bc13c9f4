use Rattle.std.proofs.Common.{List, Ok, Err, subst}
use Rattle.std.proofs.lemmas.Result.{err_from_is_err_and}
use Rattle.irq_io.specs.Whole.{WritesAll}
use Rattle.irq_hotplug.specs.declared.rows.FleetRow.{FleetRow}
use Rattle.board_report.proofs.Writing.{and_then, failed_within}
use Rattle.play_report.specs.Report.{moves_text}
use Rattle.hotplug_play.specs.Texts.{fleet_text}
use Rattle.hotplug_play.proofs.ended.PlugPlayEndedPlay.print.Goals as goal

pub returns-clause-content : goal.returns-clause-content
returns-clause-content g c =
    let sink = g.O.Sink.written in
    let before = sink c.args.out.now in
    let mid = sink c.print_fleet.new.out in
    and_then before mid (sink c.print.new.out) (fleet_text c.args.self.now.plan.now.fleet.said) (moves_text c.args.self.now.play.system.log) c.print.result
    (subst (λ (said : List FleetRow). WritesAll before mid (fleet_text said) (Ok tt)) c.said.ensures c.in_ok-print_fleet.ensures.content)
    c.print.ensures.content

pub returns-in_err-print_fleet-clause-content : goal.returns-in_err-print_fleet-clause-content
returns-in_err-print_fleet-clause-content g c =
    let p = err_from_is_err_and c.from_residual.result c.from_residual.ensures.1 in
    let before = g.O.Sink.written c.args.out.now in
    let mid = g.O.Sink.written c.print_fleet.new.out in
    let failed = c.in_err-print_fleet.field-0.0 in
    rw (p.1, p.2) (failed_within before mid (fleet_text c.args.self.now.plan.now.fleet.said) (moves_text c.args.self.now.play.system.log) failed
    (subst (λ (said : List FleetRow). WritesAll before mid (fleet_text said) (Err failed)) c.said.ensures c.in_err-print_fleet.ensures.content))
