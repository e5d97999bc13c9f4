-- What a survey says of a line.
use Rattle.std.specs.Prelude.{◌≡◌, ◌≤◌, ◌+◌, ◌⊎◌, ℕ, Option, Some, List, [], ◌∷◌, map, take}
use Rattle.std.specs.Prelude.{length, sum, slice_get, All, Contains}
use Rattle.irq_base.specs.declared.entries.Entry.{Entry}
use Rattle.irq_base.specs.declared.lines.LineDef.{LineDef}
use Rattle.irq_model.specs.Legal.{IsDue, IsLegalPast}
use Rattle.line_wanted.specs.Left.{Leaves}
use Rattle.line_wanted.specs.Wanted.{IsShortest}
use Rattle.line_wanted.specs.declared.left.Left.{Left}
use Rattle.line_wanted.specs.declared.wanted.Wanted.{Wanted}
use Rattle.line_wanted.specs.declared.wanted.Wanted.TheVariants as wants
use Rattle.state_search.specs.Paths.{IsBelow, IsEachOnce, AreCounted}
use Rattle.state_search.specs.Seen.{cut_of}
use Rattle.state_search.specs.declared.firsts.First.{First}
use Rattle.line_survey.specs.Rests.{IsStill}
use Rattle.line_survey.specs.Seen.{LineSearchSeen, depth_at}
use Rattle.line_survey.specs.declared.survey.EntryRow.{EntryRow}
use Rattle.line_survey.specs.declared.survey.RestRow.{RestRow}
use Rattle.line_survey.specs.declared.survey.Survey.{Survey}

-- as many of the items pass as the number says
abbrev pub AreSoMany : {X : Type 0} → (X → Type 0) → List X → ℕ → Type 0
AreSoMany P [] n = n ≡ 0
AreSoMany P (x ∷ xs) n =
    (P x × (m : ℕ) × (n ≡ m + 1) × AreSoMany P xs m) ⊎ ((P x → ⊥) × AreSoMany P xs n)

-- so long is a shortest past as wanted
abbrev pub IsLeast : LineDef → Wanted → ℕ → Type 0
IsLeast def wanted n = (p : List Entry) × IsShortest def wanted p × (length p ≡ n)

module _ (def : LineDef) (cut : Option ℕ) where
  -- Each way in which a legal history leaves the line, after which nothing more is due, if it is
  -- shorter than the cut, has a row: with the length of a shortest one, and how many of the states
  -- leave it so; in the order of the lengths.
  pub record AreRests (looked : List (List Entry)) (rows : List RestRow) : Type 0 where
    pub each : All (λ r. IsLeast def (wants.Rest r.left) r.len) rows
    pub states : All (λ r. AreSoMany (Leaves def r.left) looked r.states) rows
    pub all : (h : List Entry) (left : Left) → IsLegalPast def h → Leaves def left h
        → IsBelow cut (length h) → Contains (map (λ r. r.left) rows) left
    pub once : IsEachOnce (map (λ r. r.left) rows)
    pub rising : (j k : ℕ) (a b : RestRow) → j ≤ k → slice_get rows j ≡ Some a
        → slice_get rows k ≡ Some b → a.len ≤ b.len

  -- Each entry that may come after a legal history, if that is shorter than the cut, has a row:
  -- with the length of a shortest history that ends with it; in the order of the lengths.
  pub record AreEntries (rows : List EntryRow) : Type 0 where
    pub each : All (λ r. IsLeast def (wants.Row r.entry) r.len) rows
    pub all : (e : Entry) (h : List Entry) → IsLegalPast def (e ∷ h) → IsBelow cut (length h)
        → Contains (map (λ r. r.entry) rows) e
    pub once : IsEachOnce (map (λ r. r.entry) rows)
    pub rising : (j k : ℕ) (a b : EntryRow) → j ≤ k → slice_get rows j ≡ Some a
        → slice_get rows k ≡ Some b → a.len ≤ b.len

-- the states are those that were found; moves, states in which nothing more is due, and rests are
-- of those that were looked at
pub record IsSurvey (s : LineSearchSeen) (v : Survey) : Type 0 where
  pub states : v.states ≡ length s.searched.paths
  pub moves : (ns : List ℕ) × AreCounted (IsDue s.def) s.searched.paths ns
      × (length ns ≡ s.searched.looked) × (v.moves ≡ sum ns)
  pub rest : AreSoMany (IsStill s.def) (take s.searched.looked s.searched.paths) v.rest
  pub cut : v.cut ≡ cut_of s.searched
  pub rests : AreRests s.def (cut_of s.searched) (take s.searched.looked s.searched.paths)
      v.rests.items
  pub rows : AreEntries s.def (cut_of s.searched) v.rows.items

-- the rows of the entries that were met
abbrev pub rows_of : List (List Entry) → List (First Entry) → List EntryRow
rows_of paths firsts =
    map (λ f. record { entry = f.label; len = depth_at paths f.place + 1 }) firsts
