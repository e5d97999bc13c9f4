use Rattle.std.proofs.Common.{◌≡◌, ◌++◌, map}
use Rattle.irq_base.specs.declared.entries.Actor.TheVariants as kinds
use Rattle.play_laws.specs.Actors.{count_up}
use Rattle.workers.proofs.crew.push_cpus.Given as goal

abbrev pub invariant-loop-cpu : goal.invariant-loop-cpu
invariant-loop-cpu l = l.crew.items ≡ l.fn.crew.items ++ map (λ n. kinds.Cpu (record { 0 = n })) (count_up 0 l.cpu)
