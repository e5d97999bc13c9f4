use Rattle.irq_words.proofs.OneCommand.{one_command}
use Rattle.irq_words.proofs.command_is_one.Goals as goal

pub returns : goal.returns
returns c = one_command
