-- Which legal histories are as wanted, and which of them are shortest. A past is a history, the
-- newest entry first.
use Rattle.std.specs.Prelude.{◌≡◌, ◌≤◌, ◌<◌, ℕ, List, ◌∷◌, length}
use Rattle.irq_base.specs.declared.entries.Entry.{Entry}
use Rattle.irq_base.specs.declared.lines.LineDef.{LineDef}
use Rattle.irq_model.specs.Legal.{IsLegalPast}
use Rattle.line_wanted.specs.Left.{Leaves}
use Rattle.line_wanted.specs.declared.wanted.Wanted.{Wanted}
use Rattle.line_wanted.specs.declared.wanted.Wanted.TheVariants as wants

-- the newest entry of the past is this one
abbrev pub IsNewest : Entry → List Entry → Type 0
IsNewest e past = (before : List Entry) × (past ≡ e ∷ before)

-- the past is legal and ends with the row; or it is legal, nothing more is due after it, and it
-- leaves the line so
abbrev pub Meets : LineDef → Wanted → List Entry → Type 0
Meets def (wants.Row e) past = IsLegalPast def past × IsNewest e past
Meets def (wants.Rest left) past = IsLegalPast def past × Leaves def left past

-- the past is as wanted, and none that is so is shorter
pub record IsShortest (def : LineDef) (wanted : Wanted) (past : List Entry) : Type 0 where
  pub meets : Meets def wanted past
  pub least : (h : List Entry) → Meets def wanted h → length past ≤ length h

-- no past is as wanted
abbrev pub IsNever : LineDef → Wanted → Type 0
IsNever def wanted = (h : List Entry) → Meets def wanted h → ⊥

-- no past of at most n entries is as wanted
abbrev pub IsNotWithin : LineDef → Wanted → ℕ → Type 0
IsNotWithin def wanted n = (h : List Entry) → Meets def wanted h → n < length h
