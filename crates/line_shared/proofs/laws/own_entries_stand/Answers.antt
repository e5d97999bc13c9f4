use Rattle.line_shared.proofs.MetLaws.{all_stand}
use Rattle.line_shared.proofs.laws.own_entries_stand.Goals as goal

pub returns : goal.returns
returns c = record { law = λ who history. all_stand who history }
