use Rattle.std.proofs.Common.{◌∙◌, refl, List, subst, arith}
use Rattle.irq_base.specs.declared.entries.Actor.{Actor}
use Rattle.board_core.specs.Playing.{IsUnderway}
use Rattle.board_core.proofs.Handing.{handed_on}
use Rattle.board_core.proofs.Hearing.{heard_fresh, heard_settled, heard_turned, step_of_turn}
use Rattle.board_core.proofs.Searches.{all_dropped}
use Rattle.board_core.proofs.Underway.{fresh, pick_turn, pick_done, pick_stopped, pick_keeps_board, pick_keeps_layout}
use Rattle.board_core.proofs.Wanting.{pick_ends_play}
use Rattle.board_core.proofs.system.System.play.Goals as goal

pub loop-pick-init : goal.loop-pick-init
loop-pick-init g c = record {
  board = refl;
  layout = refl;
  underway = fresh c.args.self.now c.args.picks.now c.requires;
  heard = heard_fresh g.H.Handler.hears c.args.self.now c.requires c.args.handlers.now;
}

pub loop-pick-preserved : goal.loop-pick-preserved
loop-pick-preserved g c =
    let t = pick_turn _ c.turn.result c.loop-pick-test.true c.loop-pick.invariant.underway c.turn.ensures.turns in
    record {
      board = pick_keeps_board t ∙ c.loop-pick.invariant.board;
      layout = pick_keeps_layout t ∙ c.loop-pick.invariant.layout;
      underway = pick_done t _ c.in_ok-turn.was;
      heard = heard_turned g.H.Handler.hears _ _ _ c.turn.result (step_of_turn _ _ _ c.turn.result c.turn.ensures.turns)
          c.loop-pick.invariant.underway.lines _ _ _ c.loop-pick.invariant.heard c.turn.ensures.heard;
    }

pub returns-in_err-turn-clause-play : goal.returns-in_err-turn-clause-play
returns-in_err-turn-clause-play g c =
    pick_stopped (pick_turn _ c.turn.result c.loop-pick-test.true c.loop-pick.invariant.underway c.turn.ensures.turns)
    c.in_err-turn.was (handed_on c.from_residual.ensures.1)

pub returns-clause-lines : goal.returns-clause-lines
returns-clause-lines g c =
    let picks = c.args.picks.now in
    c.settle.ensures.lines picks
    (subst (λ (rest : List Actor). IsUnderway c.loop-pick.self picks rest)
    (all_dropped picks c.loop-pick.pick-index (omega (arith, c.loop-pick-test.false)))
    c.loop-pick.invariant.underway)

pub returns-in_err-turn-clause-memory : goal.returns-in_err-turn-clause-memory
returns-in_err-turn-clause-memory g c =
    pick_ends_play g.L.IrqLine.may_want
    (pick_turn _ c.turn.result c.loop-pick-test.true c.loop-pick.invariant.underway c.turn.ensures.turns)
    c.in_err-turn.was (handed_on c.from_residual.ensures.1) c.turn.ensures.memory

pub returns-clause-memory : goal.returns-clause-memory
returns-clause-memory g c =
    let picks = c.args.picks.now in
    c.settle.ensures.wanted picks
    (subst (λ (rest : List Actor). IsUnderway c.loop-pick.self picks rest)
    (all_dropped picks c.loop-pick.pick-index (omega (arith, c.loop-pick-test.false)))
    c.loop-pick.invariant.underway)

pub returns-in_err-turn-clause-heard : goal.returns-in_err-turn-clause-heard
returns-in_err-turn-clause-heard g c = heard_turned g.H.Handler.hears _ _ _ c.turn.result (step_of_turn _ _ _ c.turn.result c.turn.ensures.turns)
    c.loop-pick.invariant.underway.lines _ _ _ c.loop-pick.invariant.heard c.turn.ensures.heard

pub returns-clause-heard : goal.returns-clause-heard
returns-clause-heard g c = heard_settled g.H.Handler.hears _ _ c.settle.ensures.board c.settle.ensures.moves
    c.loop-pick.invariant.underway.lines _ _ _ c.loop-pick.invariant.heard c.settle.ensures.heard
