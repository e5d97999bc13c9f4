-- The rows of the ways in which the line is left, state by state.
use Rattle.std.specs.Prelude.{◌≡◌, ◌≤◌, ◌<◌, ◌+◌, ◌⊎◌, ℕ, Some, List, [], ◌∷◌, ◌++◌, take}
use Rattle.std.specs.Prelude.{slice_get, slice_set}
use Rattle.irq_base.specs.declared.entries.Entry.{Entry}
use Rattle.irq_base.specs.declared.lines.LineDef.{LineDef}
use Rattle.line_wanted.specs.declared.left.Left.{Left}
use Rattle.line_wanted.specs.Left.{Leaves}
use Rattle.line_survey.specs.Rests.{LeavesAt, IsFirstAt}
use Rattle.line_survey.specs.Seen.{depth_at}
use Rattle.line_survey.specs.Surveyed.{AreSoMany}
use Rattle.line_survey.specs.declared.survey.RestRow.{RestRow}

-- a row for this way, and it stands at the place
abbrev pub IsRowAt : List RestRow → Left → ℕ → RestRow → Type 0
IsRowAt rows left k r = (slice_get rows k ≡ Some r) × (r.left ≡ left)

-- one more state leaves the line so: the row of this way counts it, or a new row at the end does
abbrev pub IsNoted : Left → ℕ → List RestRow → List RestRow → Type 0
IsNoted left len old new =
    ((k : ℕ) × (r : RestRow) × IsRowAt old left k r
    × (new ≡ slice_set old k (record r { states = r.states + 1 })))
    ⊎ (((k : ℕ) (r : RestRow) → slice_get old k ≡ Some r → r.left ≡ left → ⊥)
    × (new ≡ old ++ record { left = left; len = len; states = 1 } ∷ []))

-- the rows are of the first n states
pub record AreRestsTo (def : LineDef) (paths : List (List Entry)) (n : ℕ) (rows : List RestRow)
    : Type 0 where
  pub each : (k : ℕ) (r : RestRow) → slice_get rows k ≡ Some r
      → (j : ℕ) × (j < n) × IsFirstAt def paths r.left j × (r.len ≡ depth_at paths j)
  pub states : (k : ℕ) (r : RestRow) → slice_get rows k ≡ Some r
      → AreSoMany (Leaves def r.left) (take n paths) r.states
  pub all : (j : ℕ) (left : Left) → j < n → LeavesAt def paths left j
      → (k : ℕ) × (r : RestRow) × IsRowAt rows left k r
  pub once : (j k : ℕ) (a b : RestRow) → slice_get rows j ≡ Some a → slice_get rows k ≡ Some b
      → a.left ≡ b.left → j ≡ k
  pub rising : (j k : ℕ) (a b : RestRow) → j ≤ k → slice_get rows j ≡ Some a
      → slice_get rows k ≡ Some b → a.len ≤ b.len
