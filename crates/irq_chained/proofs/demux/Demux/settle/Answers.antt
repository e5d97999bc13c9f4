use Rattle.std.proofs.Common.{◌∙◌, ap, refl, Ok}
use Rattle.board_core.proofs.Handing.{handed_on}
use Rattle.irq_chained.proofs.Playing.{a_turn, lowest_moved, lowest_done, lowest_stops, lowest_falls, keeps_board, keeps_layout}
use Rattle.irq_chained.proofs.Hearing.{heard_turned}
use Rattle.irq_chained.proofs.Wanting.{lowest_ends}
use Rattle.irq_chained.proofs.demux.Demux.settle.Goals as goal

pub loop-smaller : goal.loop-smaller
loop-smaller g c = lowest_falls (a_turn c.turn_lowest.result c.turn_lowest.ensures.turns) c.is_kept.ensures.legal
    (c.in_ok-turn_lowest.was ∙ ap Ok c.in-Moved.is)

pub loop-init : goal.loop-init
loop-init g c = record { board = refl; layout = refl; underway = λ picks u. u; heard = λ first before. before }

pub loop-preserved : goal.loop-preserved
loop-preserved g c =
    let t = a_turn c.turn_lowest.result c.turn_lowest.ensures.turns in
    record {
      board = keeps_board t ∙ c.loop.invariant.board;
      layout = keeps_layout t ∙ c.loop.invariant.layout;
      underway = λ picks u. lowest_moved t (c.loop.invariant.underway picks u) (c.in_ok-turn_lowest.was ∙ ap Ok c.in-Moved.is);
      heard = λ first before. heard_turned g.H.Handler.hears _ _ _ c.turn_lowest.result c.turn_lowest.ensures.turns first _ _
          (c.loop.invariant.heard first before) c.turn_lowest.ensures.heard;
    }

pub returns-in-NotYet-clause-board : goal.returns-in-NotYet-clause-board
returns-in-NotYet-clause-board g c = keeps_board (a_turn c.turn_lowest.result c.turn_lowest.ensures.turns) ∙ c.loop.invariant.board

pub returns-in-NotYet-clause-layout : goal.returns-in-NotYet-clause-layout
returns-in-NotYet-clause-layout g c = keeps_layout (a_turn c.turn_lowest.result c.turn_lowest.ensures.turns) ∙ c.loop.invariant.layout

pub returns-in-NotYet-clause-play : goal.returns-in-NotYet-clause-play
returns-in-NotYet-clause-play g c = λ picks u. lowest_done (a_turn c.turn_lowest.result c.turn_lowest.ensures.turns)
    (c.loop.invariant.underway picks u) (c.in_ok-turn_lowest.was ∙ ap Ok c.in-NotYet.is)

pub returns-in_err-turn_lowest-clause-play : goal.returns-in_err-turn_lowest-clause-play
returns-in_err-turn_lowest-clause-play g c = λ picks u. rw (handed_on c.from_residual.ensures.1)
    (lowest_stops (a_turn c.turn_lowest.result c.turn_lowest.ensures.turns) (c.loop.invariant.underway picks u) c.in_err-turn_lowest.was)

pub returns-in-NotYet-clause-heard : goal.returns-in-NotYet-clause-heard
returns-in-NotYet-clause-heard g c = λ first before. heard_turned g.H.Handler.hears _ _ _ c.turn_lowest.result c.turn_lowest.ensures.turns
    first _ _ (c.loop.invariant.heard first before) c.turn_lowest.ensures.heard

pub returns-in_err-turn_lowest-clause-heard : goal.returns-in_err-turn_lowest-clause-heard
returns-in_err-turn_lowest-clause-heard g c = λ first before. heard_turned g.H.Handler.hears _ _ _ c.turn_lowest.result c.turn_lowest.ensures.turns
    first _ _ (c.loop.invariant.heard first before) c.turn_lowest.ensures.heard

pub returns-in_err-turn_lowest-clause-memory : goal.returns-in_err-turn_lowest-clause-memory
returns-in_err-turn_lowest-clause-memory g c = λ picks u. rw (handed_on c.from_residual.ensures.1)
    (lowest_ends g.L.IrqLine.may_want (a_turn c.turn_lowest.result c.turn_lowest.ensures.turns) (c.loop.invariant.underway picks u)
    c.in_err-turn_lowest.was c.turn_lowest.ensures.memory)
