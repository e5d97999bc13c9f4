-- Contents that a source or a sink may tell, and beginnings of lists. If it doesn't tell its
-- content, nothing is said of it, not even that it never will: std's traits leave that open.
use Rattle.std.specs.Prelude.{◌≡◌, ℕ, List, ◌++◌, Option, Some, None}

-- the second list begins with the first
abbrev pub IsBeginning : List ℕ → List ℕ → Type 0
IsBeginning first all = (rest : List ℕ) × (all ≡ first ++ rest)

-- the bytes are the content that was told, if one was told
abbrev pub IsTold : Option (List ℕ) → List ℕ → Type 0
IsTold None bytes = Unit {0}
IsTold (Some told) bytes = told ≡ bytes

-- if a content was told: it is as it was
abbrev pub Stays : Option (List ℕ) → Option (List ℕ) → Type 0
Stays None now = Unit {0}
Stays (Some before) now = now ≡ Some before
