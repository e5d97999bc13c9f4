use Rattle.workers.proofs.Manning.{cpu_pushed}
use Rattle.workers.proofs.crew.push_cpus.Goals as goal

pub loop-cpu-preserved : goal.loop-cpu-preserved
loop-cpu-preserved c = cpu_pushed c.args.crew.now.items c.loop-cpu.crew.items c.push.new.self.items c.loop-cpu.cpu
    c.loop-cpu.invariant c.in_ok-push.ensures.items
