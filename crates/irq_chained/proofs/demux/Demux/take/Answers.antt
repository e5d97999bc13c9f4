use Rattle.std.proofs.Common.{subst, sym, IsTrue, slice_get, arith}
use Rattle.board_core.specs.Firsts.{is_take_due}
use Rattle.board_core.specs.Seen.{board_lines}
use Rattle.irq_chained.proofs.SeenTurns.{free_current, take_turned}
use Rattle.irq_chained.proofs.Turning.{level_cell}
use Rattle.irq_chained.specs.Chain.{cpu_0}
use Rattle.irq_chained.specs.Seen.{DemuxSeen}
use Rattle.irq_chained.proofs.Hearing.{heard_told}
use Rattle.irq_chained.proofs.Wanting.{take_wants}
use Rattle.irq_chained.proofs.demux.Demux.take.Goals as goal

pub walk_after-requires : goal.walk_after-requires
walk_after-requires g c = omega (arith, c.requires.place)

pub number_at-line-requires : goal.number_at-line-requires
number_at-line-requires g c = subst (λ (d : DemuxSeen). IsTrue
    (is_take_due cpu_0 (slice_get (board_lines d.lines) c.args.place))) (sym c.self.view_is) c.requires.due

pub show-requires-clause-level : goal.show-requires-clause-level
show-requires-clause-level g c = level_cell c.self.invariant

pub invariant_of-self : goal.invariant_of-self
invariant_of-self g c =
    (take_turned c.step_on-turn.new.self c.self.invariant c.show.ensures c.self.view_is c.is_kept.ensures.board c.is_kept.ensures.kept
    c.args.place c.args.walk c.walk_after.result c.number_at-line.result c.step_on-turn.result c.requires.walk c.requires.due
    c.requires.next c.number_at-line.ensures c.walk_after.ensures c.step_on-turn.ensures.steps).0

pub returns-clause-turns : goal.returns-clause-turns
returns-clause-turns g c =
    (take_turned c.step_on-turn.new.self c.self.invariant c.show.ensures c.self.view_is c.is_kept.ensures.board c.is_kept.ensures.kept
    c.args.place c.args.walk c.walk_after.result c.number_at-line.result c.step_on-turn.result c.requires.walk c.requires.due
    c.requires.next c.number_at-line.ensures c.walk_after.ensures c.step_on-turn.ensures.steps).1
    c.chain_turn_of.result c.chain_turn_of.ensures

pub returns-clause-heard : goal.returns-clause-heard
returns-clause-heard g c = heard_told g.H.Handler.hears c.self.invariant c.self.view_is c.step_on-turn.result c.chain_turn_of.result
    c.chain_turn_of.ensures _ _ c.step_on-turn.ensures.heard

pub returns-clause-memory : goal.returns-clause-memory
returns-clause-memory g c = take_wants g.L.IrqLine.may_want c.self.invariant c.self.view_is c.is_kept.ensures.board c.is_kept.ensures.kept
    c.args.place c.number_at-line.result c.step_on-turn.result c.chain_turn_of.result c.chain_turn_of.ensures c.requires.due c.requires.next
    c.requires.line c.number_at-line.ensures c.step_on-turn.ensures.memory

pub step_on-turn-requires : goal.step_on-turn-requires
step_on-turn-requires g c = free_current c.self.invariant c.self.view_is c.number_at-line.result c.requires.no_flow
