-- Sets of ranks, as words of 64 bits.
use Rattle.std.specs.Prelude.{◌≡◌, ℕ, ◌/◌, ◌%◌, ◌<◌, ◌==◌, Bool, true, false, Option, Some, None}
use Rattle.std.specs.Prelude.{List, slice_index}
use Rattle.std.specs.Int.{bit_at}

-- the rank is in the set
abbrev pub holds : List ℕ → ℕ → Bool
holds words r = bit_at (slice_index words (r / 64)) (r % 64) == 1

-- the lowest rank that passes, or none if none does
abbrev pub IsFirst : (ℕ → Bool) → Option ℕ → Type 0
IsFirst p None = (r : ℕ) → r < 256 → p r ≡ false
IsFirst p (Some r) = (r < 256) × (p r ≡ true) × ((q : ℕ) → q < r → p q ≡ false)
