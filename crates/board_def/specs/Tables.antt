-- What the tables of a board are seen as, and what they find.
use Rattle.std.specs.Prelude.{◌≡◌, Bool, if◌then◌else◌, Option, Some, None, List, [], ◌∷◌, map}

-- the values of a map
abbrev pub values_of : {K V : Type 0} → List (K × V) → List V
values_of entries = map (λ entry. entry.1) entries

-- each value stands under its own key
abbrev pub IsKeyedBy : {K V : Type 0} → (V → K) → List (K × V) → Type 0
IsKeyedBy key [] = Unit {0}
IsKeyedBy key (entry ∷ entries) = (entry.0 ≡ key entry.1) × IsKeyedBy key entries

-- the first row with this key
abbrev pub find_row : {K V : Type 0} → (K → K → Bool) → (V → K) → List V → K → Option V
find_row eq key_of [] key = None
find_row eq key_of (row ∷ rows) key =
    if eq key (key_of row) then Some row else find_row eq key_of rows key
