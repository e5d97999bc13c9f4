use Rattle.std.proofs.Common.{Ok, ap, ◌∙◌, refl}
use Rattle.board_core.proofs.Handing.{handed_on}
use Rattle.board_core.proofs.LowestTurns.{lowest_turn, lowest_keeps_board, lowest_keeps_layout, lowest_moved, lowest_done, lowest_stopped}
use Rattle.board_core.proofs.LowestTurns.{answered, ends_stopped, room_falls, same_stopped, settles_none, settles_same, settles_moved}
use Rattle.board_core.proofs.Hearing.{since_begun, since_more, step_of_turn_by}
use Rattle.board_core.proofs.Underway.{as_left}
use Rattle.board_core.proofs.Wanting.{lowest_ends, lowest_ends_play}
use Rattle.board_core.proofs.system.System.settle.Goals as goal

pub loop-smaller : goal.loop-smaller
loop-smaller g c =
    room_falls (lowest_turn c.turn_lowest.result c.turn_lowest.ensures.turns) (c.in_ok-turn_lowest.was ∙ ap Ok c.in-Moved.is)

pub loop-init : goal.loop-init
loop-init g c = record {
  board = refl;
  layout = refl;
  underway = λ picks u. u;
  moves = settles_none _;
  heard = since_begun g.H.Handler.hears c.args.self.now c.args.handlers.now;
}

pub loop-preserved : goal.loop-preserved
loop-preserved g c =
    let moved = c.in_ok-turn_lowest.was ∙ ap Ok c.in-Moved.is in
    let t = lowest_turn c.turn_lowest.result c.turn_lowest.ensures.turns in
    record {
      board = lowest_keeps_board t ∙ c.loop.invariant.board;
      layout = lowest_keeps_layout t ∙ c.loop.invariant.layout;
      underway = λ picks u. lowest_moved t (c.loop.invariant.underway picks u) moved;
      moves = settles_moved t c.loop.invariant.board moved c.loop.invariant.moves;
      heard = since_more g.H.Handler.hears _ _ _ _ c.turn_lowest.result (step_of_turn_by _ _ _ c.turn_lowest.result c.turn_lowest.ensures.turns)
          c.loop.invariant.moves _ _ _ c.loop.invariant.heard c.turn_lowest.ensures.heard;
    }

pub returns-in-NotYet-clause-play : goal.returns-in-NotYet-clause-play
returns-in-NotYet-clause-play g c = λ picks u.
    lowest_done (lowest_turn c.turn_lowest.result c.turn_lowest.ensures.turns) (c.loop.invariant.underway picks u)
    (c.in_ok-turn_lowest.was ∙ ap Ok c.in-NotYet.is)

pub returns-in_err-turn_lowest-clause-play : goal.returns-in_err-turn_lowest-clause-play
returns-in_err-turn_lowest-clause-play g c = λ picks u.
    lowest_stopped (lowest_turn c.turn_lowest.result c.turn_lowest.ensures.turns) (c.loop.invariant.underway picks u)
    c.in_err-turn_lowest.was (handed_on c.from_residual.ensures.1)

pub returns-in_err-turn_lowest-clause-end : goal.returns-in_err-turn_lowest-clause-end
returns-in_err-turn_lowest-clause-end g c =
    ends_stopped (lowest_turn c.turn_lowest.result c.turn_lowest.ensures.turns) c.in_err-turn_lowest.was (handed_on c.from_residual.ensures.1)

pub returns-in-NotYet-clause-lines : goal.returns-in-NotYet-clause-lines
returns-in-NotYet-clause-lines g c = λ picks u.
    as_left (answered (lowest_turn c.turn_lowest.result c.turn_lowest.ensures.turns) _
    (c.in_ok-turn_lowest.was ∙ ap Ok c.in-NotYet.is)).1 (c.loop.invariant.underway picks u)

pub returns-in_err-turn_lowest-clause-lines : goal.returns-in_err-turn_lowest-clause-lines
returns-in_err-turn_lowest-clause-lines g c = λ picks u.
    as_left (same_stopped (lowest_turn c.turn_lowest.result c.turn_lowest.ensures.turns) c.in_err-turn_lowest.was) (c.loop.invariant.underway picks u)

pub returns-in-NotYet-clause-moves : goal.returns-in-NotYet-clause-moves
returns-in-NotYet-clause-moves g c =
    settles_same (answered (lowest_turn c.turn_lowest.result c.turn_lowest.ensures.turns) _
    (c.in_ok-turn_lowest.was ∙ ap Ok c.in-NotYet.is)).1 c.loop.invariant.moves

pub returns-in_err-turn_lowest-clause-moves : goal.returns-in_err-turn_lowest-clause-moves
returns-in_err-turn_lowest-clause-moves g c =
    settles_same (same_stopped (lowest_turn c.turn_lowest.result c.turn_lowest.ensures.turns) c.in_err-turn_lowest.was) c.loop.invariant.moves

pub returns-in_err-turn_lowest-clause-memory : goal.returns-in_err-turn_lowest-clause-memory
returns-in_err-turn_lowest-clause-memory g c =
    lowest_ends g.L.IrqLine.may_want (lowest_turn c.turn_lowest.result c.turn_lowest.ensures.turns)
    c.in_err-turn_lowest.was (handed_on c.from_residual.ensures.1) c.turn_lowest.ensures.memory

pub returns-in_err-turn_lowest-clause-wanted : goal.returns-in_err-turn_lowest-clause-wanted
returns-in_err-turn_lowest-clause-wanted g c = λ picks u.
    lowest_ends_play g.L.IrqLine.may_want (lowest_turn c.turn_lowest.result c.turn_lowest.ensures.turns)
    (c.loop.invariant.underway picks u) c.in_err-turn_lowest.was (handed_on c.from_residual.ensures.1) c.turn_lowest.ensures.memory

pub returns-in-NotYet-clause-heard : goal.returns-in-NotYet-clause-heard
returns-in-NotYet-clause-heard g c = since_more g.H.Handler.hears _ _ _ _ c.turn_lowest.result
    (step_of_turn_by _ _ _ c.turn_lowest.result c.turn_lowest.ensures.turns) c.loop.invariant.moves _ _ _ c.loop.invariant.heard
    c.turn_lowest.ensures.heard

pub returns-in_err-turn_lowest-clause-heard : goal.returns-in_err-turn_lowest-clause-heard
returns-in_err-turn_lowest-clause-heard g c = since_more g.H.Handler.hears _ _ _ _ c.turn_lowest.result
    (step_of_turn_by _ _ _ c.turn_lowest.result c.turn_lowest.ensures.turns) c.loop.invariant.moves _ _ _ c.loop.invariant.heard
    c.turn_lowest.ensures.heard
