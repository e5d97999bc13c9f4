use Rattle.std.proofs.Common.{◌≡◌, ◌+◌, ◌≤◌, All, length, map, reverse, vec_len}
use Rattle.board_core.specs.Seen.{board_lines}
use Rattle.board_report.specs.Reporting.{IsEmptyHistory, from_last}
use Rattle.board_report.proofs.Filling.{IsFilled}
use Rattle.board_report.proofs.Rooms.{IsRoomed}
use Rattle.board_report.proofs.reporting.ReportRoom.fill.Given as goal

abbrev pub invariant-loop-i : goal.invariant-loop-i
invariant-loop-i g l = record {
  filled : IsFilled l.board (board_lines (map g.L.IrqLine.seen l.fn.lines.items)) (from_last (map g.L.IrqLine.seen l.lines.items)) l.i l.reports.reports;
  roomed : IsRoomed (map g.L.IrqLine.seen l.fn.lines.items) (reverse (map g.L.IrqLine.seen l.lines.items)) l.reports.reports;
  spare : length l.board.lines ≤ l.i + l.reports.spare;
  histories : vec_len l.empty + l.i ≡ length l.board.lines;
  empty : All IsEmptyHistory l.empty.items;
}
