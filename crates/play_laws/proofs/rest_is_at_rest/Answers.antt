use Rattle.play_laws.proofs.Rest.{rest_is_at_rest}
use Rattle.play_laws.proofs.rest_is_at_rest.Goals as goal

pub returns : goal.returns
returns c = record { law = rest_is_at_rest }
