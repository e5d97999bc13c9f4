use Rattle.std.proofs.Common.{refl, sym, ◌∙◌}
use Rattle.irq_chained.proofs.SeenTurns.{flow_current, flow_rested, flow_turned}
use Rattle.irq_chained.proofs.Turning.{level_cell}
use Rattle.irq_chained.proofs.Hearing.{heard_told}
use Rattle.irq_chained.proofs.Wanting.{flow_wants}
use Rattle.irq_chained.proofs.demux.Demux.go_on.Goals as goal

pub show-requires-clause-level : goal.show-requires-clause-level
show-requires-clause-level g c = level_cell c.self.invariant

pub invariant_of-self : goal.invariant_of-self
invariant_of-self g c =
    (flow_turned c.step_on-turn.new.self c.self.invariant c.show.ensures c.self.view_is c.is_kept.ensures.board c.is_kept.ensures.kept
    c.args.line c.step_on-turn.result c.requires.open c.requires.flow (sym c.can_cpu_move.ensures ∙ c.if-not-can_cpu_move.false)
    c.step_on-turn.ensures.steps).0

pub returns-clause-turns : goal.returns-clause-turns
returns-clause-turns g c =
    (flow_turned c.step_on-turn.new.self c.self.invariant c.show.ensures c.self.view_is c.is_kept.ensures.board c.is_kept.ensures.kept
    c.args.line c.step_on-turn.result c.requires.open c.requires.flow (sym c.can_cpu_move.ensures ∙ c.if-not-can_cpu_move.false)
    c.step_on-turn.ensures.steps).1
    c.chain_turn_of.result c.chain_turn_of.ensures

pub returns-clause-heard : goal.returns-clause-heard
returns-clause-heard g c = heard_told g.H.Handler.hears c.self.invariant c.self.view_is c.step_on-turn.result c.chain_turn_of.result
    c.chain_turn_of.ensures _ _ c.step_on-turn.ensures.heard

pub returns-clause-memory : goal.returns-clause-memory
returns-clause-memory g c = flow_wants g.L.IrqLine.may_want c.self.invariant c.self.view_is c.is_kept.ensures.board c.is_kept.ensures.kept
    c.args.line c.step_on-turn.result c.chain_turn_of.result c.chain_turn_of.ensures c.requires.open c.requires.flow
    (sym c.can_cpu_move.ensures ∙ c.if-not-can_cpu_move.false) c.step_on-turn.ensures.memory

pub step_on-turn-requires : goal.step_on-turn-requires
step_on-turn-requires g c = flow_current c.self.invariant c.self.view_is c.args.line c.requires.flow

pub returns-then-not-can_cpu_move-clause-turns : goal.returns-then-not-can_cpu_move-clause-turns
returns-then-not-can_cpu_move-clause-turns g c = (
  flow_rested c.self.invariant c.self.view_is c.args.line c.requires.open c.requires.flow (sym c.can_cpu_move.ensures ∙ c.if-not-can_cpu_move.true),
  refl,
)
