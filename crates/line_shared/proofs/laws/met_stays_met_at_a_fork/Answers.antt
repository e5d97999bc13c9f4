use Rattle.line_shared.proofs.MetLaws.{stays_forked}
use Rattle.line_shared.proofs.laws.met_stays_met_at_a_fork.Goals as goal

pub returns : goal.returns
returns c = record { law = λ k other who a fresh h. stays_forked k other who a fresh h }
