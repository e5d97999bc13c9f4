use Rattle.std.proofs.Common.{◌≡◌, ◌∙◌, ◌++◌, subst, sym, Option}
use Rattle.irq_base.specs.declared.entries.Actor.{Actor}
use Rattle.irq_base.specs.declared.entries.Actor.TheVariants as actors
use Rattle.board_def.specs.Rules.{IsBoard}
use Rattle.board_play.specs.Order.{cpus_of, threads_of}
use Rattle.board_core.specs.Firsts.{IsFirst}
use Rattle.irq_chained.proofs.Lowest.{after_threads, thread_is_lowest}
use Rattle.irq_chained.specs.Chain.{cpu_0, or_step}
use Rattle.irq_chained.specs.Seen.{DemuxSeen}
use Rattle.irq_chained.specs.Turned.{TurnsBy, lowest_driver_of, lowest_of, next_of}
use Rattle.irq_chained.specs.declared.chain.ChainEntry.{ChainEntry}
use Rattle.irq_chained.proofs.Wanting.{due_wants}
use Rattle.irq_chained.proofs.demux.Demux.turn_lowest.Goals as goal

pub turn_after_threads-requires : goal.turn_after_threads-requires
turn_after_threads-requires g c =
    subst (λ (d : DemuxSeen). lowest_of d ≡ or_step (next_of d (actors.Cpu cpu_0)) (lowest_driver_of d)) c.self.view_is
    (after_threads c.self.invariant
    (subst (λ (d : DemuxSeen). IsBoard d.board) (sym c.self.view_is) c.is_kept.ensures.board)
    c.lowest_thread_or_cpu.result c.lowest_thread_or_cpu.ensures
    (λ dev h. let bad = sym h ∙ c.in-Some-Cpu.is in cc))

pub turn_after_threads-requires-in-Some-Driver : goal.turn_after_threads-requires-in-Some-Driver
turn_after_threads-requires-in-Some-Driver g c =
    subst (λ (d : DemuxSeen). lowest_of d ≡ or_step (next_of d (actors.Cpu cpu_0)) (lowest_driver_of d)) c.self.view_is
    (after_threads c.self.invariant
    (subst (λ (d : DemuxSeen). IsBoard d.board) (sym c.self.view_is) c.is_kept.ensures.board)
    c.lowest_thread_or_cpu.result c.lowest_thread_or_cpu.ensures
    (λ dev h. let bad = sym h ∙ c.in-Some-Driver.is in cc))

pub turn_after_threads-requires-in-None : goal.turn_after_threads-requires-in-None
turn_after_threads-requires-in-None g c =
    subst (λ (d : DemuxSeen). lowest_of d ≡ or_step (next_of d (actors.Cpu cpu_0)) (lowest_driver_of d)) c.self.view_is
    (after_threads c.self.invariant
    (subst (λ (d : DemuxSeen). IsBoard d.board) (sym c.self.view_is) c.is_kept.ensures.board)
    c.lowest_thread_or_cpu.result c.lowest_thread_or_cpu.ensures
    (λ dev h. let bad = sym h ∙ c.in-None.is in cc))

pub returns-in-Some-Thread-clause-turns : goal.returns-in-Some-Thread-clause-turns
returns-in-Some-Thread-clause-turns g c =
    let s = c.self.inside in
    let is = subst (λ (d : DemuxSeen). lowest_of d ≡ next_of d
    (actors.Thread c.in-Some-Thread.dev)) c.self.view_is
    (thread_is_lowest c.self.invariant c.in-Some-Thread.dev
    (subst (λ (a : Actor). IsFirst s.system (threads_of s.system.board ++ cpus_of s.system.board) a)
    c.in-Some-Thread.field-0-is c.in-Some-Thread.ensures)) in
    subst (λ (o : Option ChainEntry). TurnsBy c.args.self.now o c.turn_other.result c.turn_other.new.self) (sym is) c.turn_other.ensures.turns

pub returns-in-Some-Thread-clause-memory : goal.returns-in-Some-Thread-clause-memory
returns-in-Some-Thread-clause-memory g c =
    let s = c.self.inside in
    let is = subst (λ (d : DemuxSeen). lowest_of d ≡ next_of d
    (actors.Thread c.in-Some-Thread.dev)) c.self.view_is
    (thread_is_lowest c.self.invariant c.in-Some-Thread.dev
    (subst (λ (a : Actor). IsFirst s.system (threads_of s.system.board ++ cpus_of s.system.board) a)
    c.in-Some-Thread.field-0-is c.in-Some-Thread.ensures)) in
    due_wants g.L.IrqLine.may_want c.args.self.now (lowest_of c.args.self.now) (actors.Thread c.in-Some-Thread.dev) c.turn_other.result is
    c.turn_other.ensures.memory
