use Rattle.line_shared.proofs.MetLaws.{places_apart}
use Rattle.line_shared.proofs.laws.places_are_apart.Goals as goal

pub returns : goal.returns
returns c = record {
  law = λ k first second a b x y m n apart in_first in_second same. places_apart k first
      second a b x y m n apart in_first in_second same;
}
