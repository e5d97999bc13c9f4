use Rattle.std.proofs.Common.{◌≡◌, subst, sym, reverse, None, Some}
use Rattle.board_def.specs.Rules.{IsBoard}
use Rattle.irq_chained.proofs.Turning.{enter_goes, enter_kept, enter_next, not_zero, unmarked}
use Rattle.irq_chained.specs.Chain.{cpu_0, open_status}
use Rattle.irq_chained.specs.Seen.{DemuxSeen}
use Rattle.irq_chained.specs.declared.chain.ChainEntry.TheVariants as steps
use Rattle.irq_chained.specs.declared.marks.Marked.TheVariants as marks
use Rattle.irq_base.specs.declared.entries.Actor.TheVariants as actors
use Rattle.irq_chained.specs.Turned.{next_of}
use Rattle.irq_chained.proofs.Wanting.{mark_wants}
use Rattle.irq_chained.proofs.demux.Demux.enter.Goals as goal

pub invariant_of-self-in-Ok : goal.invariant_of-self-in-Ok
invariant_of-self-in-Ok g c =
    enter_kept c.self.invariant c.read_status-status.result c.log_len.result
    (subst (λ (d : DemuxSeen). open_status (reverse d.log) ≡ None) (sym c.self.view_is) c.requires)
    c.read_status-status.ensures (not_zero c.read_status-status.result c.if-status-eq0.false) c.log_len.ensures _
    c.enter.ensures c.push.new.self.items c.in-Ok.ensures.items

pub returns-in-Ok-clause-turns : goal.returns-in-Ok-clause-turns
returns-in-Ok-clause-turns g c =
    enter_goes c.self.invariant c.read_status-status.result c.log_len.result
    (subst (λ (d : DemuxSeen). open_status (reverse d.log) ≡ None) (sym c.self.view_is) c.requires)
    c.read_status-status.ensures (not_zero c.read_status-status.result c.if-status-eq0.false) c.log_len.ensures _
    c.enter.ensures c.push.new.self.items c.in-Ok.ensures.items c.args.self.now c.self.view_is

pub returns-in-Err-clause-turns : goal.returns-in-Err-clause-turns
returns-in-Err-clause-turns g c =
    let v = sym c.self.view_is in
    unmarked c.self.invariant (subst (λ (d : DemuxSeen). IsBoard d.board) v c.is_kept.ensures.board)
    (steps.Enter cpu_0 c.read_status-status.result)
    (enter_next c.self.invariant c.read_status-status.result
    (subst (λ (d : DemuxSeen). open_status (reverse d.log) ≡ None) v c.requires)
    c.read_status-status.ensures (not_zero c.read_status-status.result c.if-status-eq0.false))
    c.push.new.self.items c.in-Err.ensures.items c.args.self.now c.self.view_is

pub returns-in-Err-clause-memory : goal.returns-in-Err-clause-memory
returns-in-Err-clause-memory g c =
    let status = c.read_status-status.result in
    mark_wants g.L.IrqLine.may_want c.args.self.now (marks.Enter status)
    (subst (λ (d : DemuxSeen). next_of d (actors.Cpu cpu_0) ≡ Some (steps.Enter cpu_0 status)) c.self.view_is
    (enter_next c.self.invariant status (subst (λ (d : DemuxSeen). open_status (reverse d.log) ≡ None) (sym c.self.view_is) c.requires)
    c.read_status-status.ensures (not_zero status c.if-status-eq0.false)))
