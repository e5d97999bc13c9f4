-- What a search through all states of a line says of its histories.
use Rattle.std.specs.Prelude.{◌≡◌, ◌≤◌, ◌<◌, ◌⊎◌, ℕ, None, List, ◌∷◌, ◌++◌, length, reverse}
use Rattle.irq_base.specs.declared.entries.Actor.{Actor}
use Rattle.irq_base.specs.declared.entries.Entry.{Entry}
use Rattle.irq_base.specs.declared.lines.LineDef.{LineDef}
use Rattle.irq_model.specs.Legal.{IsLegalPast}
use Rattle.irq_model.specs.Next.{next_past}
use Rattle.irq_model.specs.Waits.{IsAtRest, IsHungPast}

-- the past is legal, ends with the entry, and no legal past that ends with it is shorter
pub record IsShortest (def : LineDef) (e : Entry) (past : List Entry) : Type 0 where
  pub legal : IsLegalPast def (e ∷ past)
  pub least : (h : List Entry) → IsLegalPast def (e ∷ h) → length past ≤ length h

-- no legal past ends with the entry
abbrev pub IsNever : LineDef → Entry → Type 0
IsNever def e = (h : List Entry) → IsLegalPast def (e ∷ h) → ⊥

-- no legal past of at most n entries ends with it
abbrev pub IsNotWithin : LineDef → Entry → ℕ → Type 0
IsNotWithin def e n = (h : List Entry) → IsLegalPast def (e ∷ h) → n < length (e ∷ h)

-- after the past a legal history goes on until nothing more is due, and there the line is at rest,
-- or some actor is hung
abbrev pub ComesToEnd : LineDef → List Entry → Type 0
ComesToEnd def past = (k : List Entry) × IsLegalPast def (k ++ past)
    × ((a : Actor) → next_past def (k ++ past) a ≡ None)
    × (IsAtRest def (reverse (k ++ past)) ⊎ ((a : Actor) × IsHungPast def (k ++ past) a))

-- after the past a legal history goes on until the line is at rest
abbrev pub ComesToRest : LineDef → List Entry → Type 0
ComesToRest def past = (k : List Entry) × IsLegalPast def (k ++ past)
    × IsAtRest def (reverse (k ++ past))
