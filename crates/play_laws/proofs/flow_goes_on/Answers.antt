use Rattle.std.proofs.Common.{reverse, ap, ◌∙◌}
use Rattle.irq_model.specs.Rounds.{is_cpu}
use Rattle.irq_model.proofs.Same.{same_self_cpu}
use Rattle.play_laws.proofs.Moves.{flow_goes_on}
use Rattle.play_laws.proofs.flow_goes_on.Goals as goal

pub returns : goal.returns
returns c = record { law = λ def h cpu valid runs legal its. flow_goes_on def (reverse h) runs legal cpu (ap (is_cpu cpu) its ∙ same_self_cpu cpu) }
