use Rattle.std.proofs.Common.{List, map, subst}
use Rattle.irq_line.specs.Seen.{LineSeen}
use Rattle.board_core.specs.Making.{AreSound}
use Rattle.board_report.specs.Reporting.{KeepRoom}
use Rattle.board_report.proofs.Handed.{done, few_told, full, hung, of_its_board, rows_told, so_far, summable_told}
use Rattle.board_report.proofs.handing.hand_out.Goals as goal

pub fill-requires-clause-lines : goal.fill-requires-clause-lines
fill-requires-clause-lines g c = of_its_board c.args.board.now c.args.system c.requires.board c.is_kept.ensures
    (map g.L.IrqLine.seen c.take_lines.result.items) c.take_lines.ensures

pub returns-clause-so_far : goal.returns-clause-so_far
returns-clause-so_far g c =
    so_far c.args.board.now c.args.system c.requires.board c.is_kept.ensures c.is_board.ensures.board
    (map g.L.IrqLine.seen c.take_lines.result.items) c.take_lines.ensures c.fill.result.reports c.fill.ensures.told

pub returns-clause-done : goal.returns-clause-done
returns-clause-done g c =
    done c.args.board.now c.args.system c.requires.board c.is_kept.ensures c.is_board.ensures.board
    (map g.L.IrqLine.seen c.take_lines.result.items) c.take_lines.ensures c.fill.result.reports c.fill.ensures.told

pub returns-clause-hung : goal.returns-clause-hung
returns-clause-hung g c =
    hung c.args.board.now c.args.system c.requires.board c.is_kept.ensures c.is_board.ensures.board
    (map g.L.IrqLine.seen c.take_lines.result.items) c.take_lines.ensures c.fill.result.reports c.fill.ensures.told

pub returns-clause-full : goal.returns-clause-full
returns-clause-full g c =
    full c.args.board.now c.args.system c.requires.board c.is_kept.ensures c.is_board.ensures.board
    (map g.L.IrqLine.seen c.take_lines.result.items) c.take_lines.ensures c.fill.result.reports c.fill.ensures.told

pub returns-clause-rows : goal.returns-clause-rows
returns-clause-rows g c =
    rows_told c.args.board.now c.args.system c.requires.board c.is_kept.ensures c.is_board.ensures.board
    (map g.L.IrqLine.seen c.take_lines.result.items) c.take_lines.ensures c.fill.result.reports c.fill.ensures.told

pub returns-clause-few : goal.returns-clause-few
returns-clause-few g c =
    few_told c.args.board.now c.args.system c.requires.board c.is_kept.ensures c.is_board.ensures.board
    (map g.L.IrqLine.seen c.take_lines.result.items) c.take_lines.ensures c.fill.result.reports c.fill.ensures.told

pub returns-clause-summable : goal.returns-clause-summable
returns-clause-summable g c =
    summable_told c.args.board.now c.args.system c.requires.board c.is_kept.ensures c.is_board.ensures.board
    (map g.L.IrqLine.seen c.take_lines.result.items) c.take_lines.ensures c.fill.result.reports c.fill.ensures.told
    (subst (λ (seen : List LineSeen). AreSound seen) c.lines.ensures c.are_sound.ensures)

pub returns-clause-room : goal.returns-clause-room
returns-clause-room g c = subst (λ (lines : List LineSeen). KeepRoom lines c.fill.result.reports) c.take_lines.ensures c.fill.ensures.room
