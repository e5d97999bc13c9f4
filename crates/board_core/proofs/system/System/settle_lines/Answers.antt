use Rattle.std.proofs.Common.{ℕ, ◌<◌, Ok, sym, ap, ◌∙◌, subst}
use Rattle.board_core.proofs.Handing.{handed_on}
use Rattle.board_core.proofs.LowestTurns.{lowest_turn, lowest_keeps_board, lowest_keeps_layout, room_falls}
use Rattle.board_core.proofs.Room.{room_of, room_same}
use Rattle.board_core.proofs.SettledLines.{lines_as, lines_turned, settle_ends}
use Rattle.board_core.proofs.system.System.settle_lines.Goals as goal

pub loop-self-smaller : goal.loop-self-smaller
loop-self-smaller g c =
    subst (λ (n : ℕ). n < room_of c.loop-self.self)
    (sym (room_same c.turn_lowest.new.self c.shorten_log-in-Moved.new.self c.shorten_log-in-Moved.ensures.board c.shorten_log-in-Moved.ensures.lines))
    (room_falls (lowest_turn c.turn_lowest.result c.turn_lowest.ensures.turns) (c.in_ok-turn_lowest.was ∙ ap Ok c.in-Moved.is))

pub loop-self-preserved : goal.loop-self-preserved
loop-self-preserved g c =
    let t = lowest_turn c.turn_lowest.result c.turn_lowest.ensures.turns in
    let short = c.shorten_log-in-Moved.ensures in
    record {
      board = short.board ∙ (lowest_keeps_board t ∙ c.loop-self.invariant.board);
      layout = short.layout ∙ (lowest_keeps_layout t ∙ c.loop-self.invariant.layout);
      settles = lines_as g.H.Handler.hears short.lines
          (lines_turned g.H.Handler.hears c.loop-self.invariant.board c.loop-self.invariant.settles c.turn_lowest.result c.turn_lowest.ensures.turns
          c.turn_lowest.ensures.heard);
      within = short.within;
    }

pub returns-in_err-turn_lowest-clause-memory : goal.returns-in_err-turn_lowest-clause-memory
returns-in_err-turn_lowest-clause-memory g c =
    settle_ends g.L.IrqLine.may_want (lowest_turn c.turn_lowest.result c.turn_lowest.ensures.turns) c.loop-self.invariant.within
    c.in_err-turn_lowest.was (handed_on c.from_residual.ensures.1) c.turn_lowest.ensures.memory
