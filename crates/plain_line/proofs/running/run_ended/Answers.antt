use Rattle.std.proofs.Common.{sym, ap, ◌∙◌}
use Rattle.irq_line.specs.Runs.{run_ended}
use Rattle.plain_line.proofs.running.run_ended.Goals as goal

pub returns-in-Cpu : goal.returns-in-Cpu
returns-in-Cpu c = c.run_of_cpu.ensures c.in-Cpu.field-0 ∙ ap (run_ended c.args.def.now c.args.past.now) (sym c.in-Cpu.is)
