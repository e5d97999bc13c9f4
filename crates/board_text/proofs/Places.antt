-- The place of a domain's name; 0 if the name isn't there.
use Rattle.std.proofs.Common.{◌≡◌, ℕ, Option, Some, None, unwrap_or, refl}
use Rattle.board_stated.specs.Stated.{place_or_first}

pub first_or : (o : Option ℕ) → place_or_first o ≡ unwrap_or o 0
first_or (Some n) = refl
first_or None = refl
