-- The verdict on a line's history.
use Rattle.std.specs.Prelude.{◌≡◌, ℕ, ◌-◌, ◌≤◌, Bool, true, false, Option, Some, None, List, []}
use Rattle.std.specs.Prelude.{◌∷◌, ◌++◌, take, slice_get, reverse}
use Rattle.irq_base.specs.declared.entries.Actor.{Actor}
use Rattle.irq_base.specs.declared.entries.Entry.{Entry}
use Rattle.irq_base.specs.declared.lines.LineDef.{LineDef}
use Rattle.irq_line.specs.Answers.{Adds}
use Rattle.irq_line.specs.Seen.{LineSeen}
use Rattle.irq_model.specs.Legal.{IsDue, IsLegal}
use Rattle.irq_model.specs.Next.{next}

-- the entry with this number, counted from 1, isn't due after the entries before it; each of these
-- was due
pub record IsFirstUndue (def : LineDef) (entries : List Entry) (number : ℕ) : Type 0 where
  pub counted : 1 ≤ number
  pub before : IsLegal def (take (number - 1) entries)
  pub undue : (e : Entry) × (slice_get entries (number - 1) ≡ Some e)
      × (IsDue def e (reverse (take (number - 1) entries)) → ⊥)

-- nothing if the history is legal, else the number of its first entry that isn't due
abbrev pub Judged : LineDef → List Entry → Option ℕ → Type 0
Judged def entries None = IsLegal def entries
Judged def entries (Some number) = IsFirstUndue def entries number

-- the line's step added this entry, which was due of the actor; none: nothing was due
abbrev pub AddsDue : LineSeen → Actor → Option Entry → LineSeen → Type 0
AddsDue old who (Some entry) new = Adds old who entry new
AddsDue old who None new = (next old.def old.entries who ≡ None) × (new ≡ old)

-- the entry was due, and the line has it; or it wasn't
abbrev pub Tried : LineSeen → Entry → Bool → LineSeen → Type 0
Tried old e true new = IsDue old.def e (reverse old.entries) × (new.entries ≡ old.entries ++ e ∷ [])
Tried old e false new = IsDue old.def e (reverse old.entries) → ⊥
