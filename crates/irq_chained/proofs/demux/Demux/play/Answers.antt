use Rattle.std.proofs.Common.{◌∙◌, refl}
use Rattle.board_core.proofs.Handing.{handed_on}
use Rattle.irq_chained.proofs.Playing.{a_turn, fresh, pick_done, pick_stops, keeps_board, keeps_layout}
use Rattle.irq_chained.proofs.Hearing.{heard_fresh, heard_turned}
use Rattle.irq_chained.proofs.Wanting.{pick_ends}
use Rattle.irq_chained.proofs.demux.Demux.play.Goals as goal

pub loop-pick-init : goal.loop-pick-init
loop-pick-init g c = record {
  board = refl;
  layout = refl;
  underway = fresh c.args.self.now c.args.picks.now c.requires;
  heard = heard_fresh g.H.Handler.hears c.args.self.now c.requires c.args.handlers.now;
}

pub returns-in_err-turn-clause-play : goal.returns-in_err-turn-clause-play
returns-in_err-turn-clause-play g c = rw (handed_on c.from_residual.ensures.1)
    (pick_stops _ c.loop-pick-test.true c.loop-pick.invariant.underway (a_turn c.turn.result c.turn.ensures.turns) c.in_err-turn.was)

pub loop-pick-preserved : goal.loop-pick-preserved
loop-pick-preserved g c =
    let t = a_turn c.turn.result c.turn.ensures.turns in
    record {
      board = keeps_board t ∙ c.loop-pick.invariant.board;
      layout = keeps_layout t ∙ c.loop-pick.invariant.layout;
      underway = pick_done _ c.loop-pick-test.true c.loop-pick.invariant.underway t c.in_ok-turn.was;
      heard = heard_turned g.H.Handler.hears _ _ _ c.turn.result c.turn.ensures.turns _ _ _ c.loop-pick.invariant.heard c.turn.ensures.heard;
    }

pub returns-in_err-turn-clause-heard : goal.returns-in_err-turn-clause-heard
returns-in_err-turn-clause-heard g c = heard_turned g.H.Handler.hears _ _ _ c.turn.result c.turn.ensures.turns _ _ _
    c.loop-pick.invariant.heard c.turn.ensures.heard

pub returns-clause-heard : goal.returns-clause-heard
returns-clause-heard g c = c.settle.ensures.heard _ c.loop-pick.invariant.heard

pub returns-in_err-turn-clause-memory : goal.returns-in_err-turn-clause-memory
returns-in_err-turn-clause-memory g c = rw (handed_on c.from_residual.ensures.1)
    (pick_ends g.L.IrqLine.may_want _ c.loop-pick-test.true c.loop-pick.invariant.underway
    (a_turn c.turn.result c.turn.ensures.turns) c.in_err-turn.was c.turn.ensures.memory)
