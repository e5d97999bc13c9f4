use Rattle.play_laws.proofs.Rest.{others_rest}
use Rattle.play_laws.proofs.others_rest.Goals as goal

pub returns : goal.returns
returns c = record { law = others_rest }
