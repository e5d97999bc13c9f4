use Rattle.std.proofs.Common.{false, get_or, ◌∙◌, arith}
use Rattle.std.proofs.lemmas.Option.{slice_get-get_or}
use Rattle.std.proofs.lemmas.Result.{err_from_is_err_and}
use Rattle.board_report.proofs.Writing.{items_failed}
use Rattle.irq_hotplug.specs.declared.rows.FleetRow.{FleetRow}
use Rattle.irq_hotplug.specs.declared.rows.FleetRow.TheVariants as rows
use Rattle.hotplug_play.specs.Rows.{row_text}
use Rattle.hotplug_play.proofs.printing.print_fleet.Goals as goal

-- what an index beyond the end would read
abbrev no_row : FleetRow
no_row = rows.Placed (record { 0 = 0 }) (record { cpu = record { 0 = 0 }; number = 0 }) 0 0 false

pub returns-in_err-write_all-clause-content : goal.returns-in_err-write_all-clause-content
returns-in_err-write_all-clause-content g c =
    let p = err_from_is_err_and c.from_residual.result c.from_residual.ensures.1 in
    let sink = g.O.Sink.written in
    let said = c.args.said.now in
    rw (p.1, p.2) (items_failed row_text (sink c.args.out.now) (sink c.loop-i.out) (sink c.write_all.new.sink) said c.loop-i.i
    (get_or said c.loop-i.i no_row) c.bytes.result.now c.in_err-write_all.field-0.0
    (slice_get-get_or said c.loop-i.i no_row (omega arith)) (c.bytes.ensures.bytes ∙ c.fleet_row.ensures)
    c.loop-i.invariant.content c.in_err-write_all.ensures.content)
