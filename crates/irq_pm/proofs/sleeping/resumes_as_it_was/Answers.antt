use Rattle.irq_pm.proofs.ResumeLaws.{resumes_as_it_was}
use Rattle.irq_pm.proofs.sleeping.resumes_as_it_was.Goals as goal

pub returns : goal.returns
returns c = record { law = resumes_as_it_was }
