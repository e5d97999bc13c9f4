use Rattle.std.specs.Prelude.{reverse}
use Rattle.play_laws.proofs.Hanging.{lowest_hung_is_no_driver}
use Rattle.play_laws.proofs.lowest_hung_is_no_driver.Goals as goal

pub returns : goal.returns
returns c = record { law = λ def h r valid runs legal lowest. lowest_hung_is_no_driver def (reverse h) valid runs legal r lowest }
