use Rattle.irq_base.specs.declared.entries.CpuEntry.TheVariants as cpus
use Rattle.irq_base.specs.declared.entries.TakeAnswer.{TakeAnswer}
use Rattle.irq_base.specs.declared.entries.Way.{Way}
use Rattle.log_read.proofs.Taking.{made, both}
use Rattle.log_read.proofs.cpus.take.Goals as goal

pub returns : goal.returns
returns c = made (λ (p : Way × TakeAnswer). cpus.Take p.0 p.1) (both c.way-way.ensures c.take_answer-answer.ensures)
