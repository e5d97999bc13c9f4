-- Which states leave the line so.
use Rattle.std.specs.Prelude.{◌≡◌, ◌<◌, ℕ, Some, None, List, slice_get}
use Rattle.irq_base.specs.declared.entries.Actor.{Actor}
use Rattle.irq_base.specs.declared.entries.Entry.{Entry}
use Rattle.irq_base.specs.declared.lines.LineDef.{LineDef}
use Rattle.irq_model.specs.Next.{next_past}
use Rattle.line_wanted.specs.Left.{Leaves}
use Rattle.line_wanted.specs.declared.left.Left.{Left}

-- nothing more is due of anybody after the past
abbrev pub IsStill : LineDef → List Entry → Type 0
IsStill def past = (a : Actor) → next_past def past a ≡ None

-- the past at the place does
abbrev pub LeavesAt : LineDef → List (List Entry) → Left → ℕ → Type 0
LeavesAt def paths left k = (p : List Entry) × (slice_get paths k ≡ Some p) × Leaves def left p

-- nothing more can happen after the past at the place; or something can
abbrev pub RestsAt : LineDef → List (List Entry) → ℕ → Type 0
RestsAt def paths k = (p : List Entry) → slice_get paths k ≡ Some p → IsStill def p

abbrev pub MovesAt : LineDef → List (List Entry) → ℕ → Type 0
MovesAt def paths k = (p : List Entry) → slice_get paths k ≡ Some p → IsStill def p → ⊥

-- it is the first such place
pub record IsFirstAt (def : LineDef) (paths : List (List Entry)) (left : Left) (k : ℕ)
    : Type 0 where
  pub there : LeavesAt def paths left k
  pub first : (j : ℕ) → j < k → LeavesAt def paths left j → ⊥
