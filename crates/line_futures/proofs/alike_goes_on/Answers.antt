use Rattle.line_futures.proofs.Futures.{alike_after}
use Rattle.line_futures.proofs.alike_goes_on.Goals as goal

pub returns-clause-after : goal.returns-clause-after
returns-clause-after c = λ def valid g h legal other like e due. alike_after def valid g h legal other like e due
