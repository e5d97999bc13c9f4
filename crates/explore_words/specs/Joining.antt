-- What a row of at most 320 bytes has when bytes are added to it.
use Rattle.std.specs.Prelude.{◌≡◌, ℕ, ◌+◌, ◌<◌, Bool, true, false, List, ◌++◌, length}

-- they stand at its end; or there was no room for them
abbrev pub Joins : List ℕ → List ℕ → Bool → List ℕ → Type 0
Joins old bytes true new = new ≡ old ++ bytes
Joins old bytes false new = 320 < length old + length bytes
