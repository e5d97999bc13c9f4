use Rattle.std.proofs.Common.{Some, map, refl, reverse, sym, ◌∙◌, arith}
use Rattle.std.proofs.lemmas.List.Elements.{All-pop}
use Rattle.board_core.specs.Seen.{board_lines}
use Rattle.board_report.specs.Reporting.{IsEmptyHistory, from_last}
use Rattle.board_report.proofs.Filling.{apart, none_filled, fill_more, is_there, not_among, on_ok, turned_lines}
use Rattle.board_report.proofs.Rooms.{none_roomed, room_of_more, turned_seen}
use Rattle.board_report.proofs.reporting.ReportRoom.fill.Goals as goal

pub loop-i-init : goal.loop-i-init
loop-i-init g c =
    let f = g.L.IrqLine.seen in
    record {
      filled =
          none_filled c.args.board.now (board_lines (map f c.args.lines.items))
          (from_last (map f c.reverse.new.self.items)) c.args.self.reports.reports c.requires.lines
          (turned_lines f c.args.lines.items c.reverse.new.self.items c.reverse.ensures.items) c.requires.room.none_yet;
      roomed = none_roomed (map f c.args.lines.items) (reverse (map f c.reverse.new.self.items)) c.args.self.reports.reports
          (turned_seen f c.args.lines.items c.reverse.new.self.items c.reverse.ensures.items) c.requires.room.none_yet;
      spare = omega (arith, c.requires.room.spare);
      histories = omega (arith, c.requires.room.histories);
      empty = c.requires.room.empty;
    }

pub unreachable-requires : goal.unreachable-requires
unreachable-requires g c = is_there c.args.board.now.lines c.loop-i.i
    (omega (arith, c.lines_len-i-end.ensures, c.loop-i-test.true)) (sym c.line.ensures ∙ c.in_default.is)

pub take_history-history-requires : goal.take_history-history-requires
take_history-history-requires g c = (All-pop IsEmptyHistory c.loop-i.empty.items c.pop.new.self.items
    (Some c.in-Some-pop.spare) c.in-Some-pop.ensures.items c.loop-i.invariant.empty).1

pub loop-i-preserved : goal.loop-i-preserved
loop-i-preserved g c =
    let f = g.L.IrqLine.seen in
    record {
      filled =
          fill_more c.args.board.now c.is_board.ensures.board (board_lines (map f c.args.lines.items)) c.requires.lines
          c.loop-i.i c.in-Some.row (sym c.in-Some.ensures)
          (from_last (map f c.take_history-history.new.lines.items)) c.loop-i.reports.reports
          c.push.new.self.reports (record { line = c.in-Some.row.line; history = c.take_history-history.result })
          (on_ok _ c.push.result c.unwrap.result c.unwrap.ensures c.push.ensures.ok) refl
          (from_last (map f c.loop-i.lines.items)) c.loop-i.invariant.filled c.take_history-history.ensures.first;
      roomed =
          room_of_more (map f c.args.lines.items)
          (apart c.args.board.now c.is_board.ensures.board (board_lines (map f c.args.lines.items)) c.requires.lines
          c.loop-i.i c.in-Some.row (sym c.in-Some.ensures))
          (reverse (map f c.take_history-history.new.lines.items)) c.loop-i.reports.reports c.push.new.self.reports
          (record { line = c.in-Some.row.line; history = c.take_history-history.result })
          (on_ok _ c.push.result c.unwrap.result c.unwrap.ensures c.push.ensures.ok)
          (reverse (map f c.loop-i.lines.items)) c.loop-i.invariant.roomed
          (not_among c.args.board.now c.is_board.ensures.board (board_lines (map f c.args.lines.items)) c.requires.lines
          c.loop-i.i c.in-Some.row (sym c.in-Some.ensures) (from_last (map f c.loop-i.lines.items)) c.loop-i.reports.reports
          c.loop-i.invariant.filled)
          c.take_history-history.ensures.room;
      spare = omega arith;
      histories = omega (arith, c.in-Some-pop.ensures.len);
      empty = (All-pop IsEmptyHistory c.loop-i.empty.items c.pop.new.self.items (Some c.in-Some-pop.spare)
          c.in-Some-pop.ensures.items c.loop-i.invariant.empty).0;
    }
