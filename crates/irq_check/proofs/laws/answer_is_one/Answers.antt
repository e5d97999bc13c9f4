use Rattle.irq_check.proofs.OneAnswer.{no_fault, one_answer, one_input}
use Rattle.irq_check.proofs.laws.answer_is_one.Goals as goal

pub returns : goal.returns
returns c = record { of_log = one_answer; of_input = one_input; no_fault = no_fault }
