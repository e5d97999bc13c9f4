use Rattle.line_shared.proofs.MetLaws.{stays_met}
use Rattle.line_shared.proofs.laws.met_stays_met.Goals as goal

pub returns-clause-stays : goal.returns-clause-stays
returns-clause-stays c = λ k other new who a first m is h. stays_met k other new who m a first is h
