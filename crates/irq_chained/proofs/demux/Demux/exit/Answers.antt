use Rattle.std.proofs.Common.{◌≡◌, subst, sym, Some}
use Rattle.irq_base.specs.declared.entries.Actor.TheVariants as actors
use Rattle.board_def.specs.Rules.{IsBoard}
use Rattle.irq_chained.proofs.Turning.{exit_goes, exit_kept, unmarked}
use Rattle.irq_chained.specs.Chain.{cpu_0}
use Rattle.irq_chained.specs.Seen.{DemuxSeen}
use Rattle.irq_chained.specs.Turned.{next_of}
use Rattle.irq_chained.specs.declared.chain.ChainEntry.TheVariants as steps
use Rattle.irq_chained.specs.declared.marks.Marked.TheVariants as marks
use Rattle.irq_chained.proofs.Wanting.{mark_wants}
use Rattle.irq_chained.proofs.demux.Demux.exit.Goals as goal

pub invariant_of-self-in-Ok : goal.invariant_of-self-in-Ok
invariant_of-self-in-Ok g c =
    exit_kept c.self.invariant c.log_len.result
    (subst (λ (d : DemuxSeen). next_of d (actors.Cpu cpu_0) ≡ Some (steps.Exit cpu_0)) (sym c.self.view_is)
    c.requires) c.log_len.ensures _ c.exit.ensures c.push.new.self.items c.in-Ok.ensures.items

pub returns-in-Ok-clause-turns : goal.returns-in-Ok-clause-turns
returns-in-Ok-clause-turns g c =
    exit_goes c.self.invariant c.log_len.result
    (subst (λ (d : DemuxSeen). next_of d (actors.Cpu cpu_0) ≡ Some (steps.Exit cpu_0)) (sym c.self.view_is)
    c.requires) c.log_len.ensures _ c.exit.ensures c.push.new.self.items c.in-Ok.ensures.items
    c.args.self.now c.self.view_is

pub returns-in-Err-clause-turns : goal.returns-in-Err-clause-turns
returns-in-Err-clause-turns g c =
    let v = sym c.self.view_is in
    unmarked c.self.invariant (subst (λ (d : DemuxSeen). IsBoard d.board) v c.is_kept.ensures.board)
    (steps.Exit cpu_0)
    (subst (λ (d : DemuxSeen). next_of d (actors.Cpu cpu_0) ≡ Some (steps.Exit cpu_0)) v c.requires)
    c.push.new.self.items c.in-Err.ensures.items c.args.self.now c.self.view_is

pub returns-in-Err-clause-memory : goal.returns-in-Err-clause-memory
returns-in-Err-clause-memory g c = mark_wants g.L.IrqLine.may_want c.args.self.now marks.Exit c.requires
