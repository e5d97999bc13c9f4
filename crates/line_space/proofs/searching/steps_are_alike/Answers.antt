use Rattle.line_space.proofs.SearchLaws.{steps_anywhere}
use Rattle.line_space.proofs.searching.steps_are_alike.Goals as goal

pub returns : goal.returns
returns c = record { law = λ def valid g h found legal other same steps. steps_anywhere def valid g h found legal other same steps }
