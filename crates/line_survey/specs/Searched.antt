-- A search through the states of a line.
use Rattle.std.specs.Prelude.{◌≡◌, ◌≤◌, ℕ, length, IfSome}
use Rattle.irq_base.specs.declared.lines.LineDef.{LineDef}
use Rattle.irq_model.specs.Legal.{IsDue}
use Rattle.line_survey.specs.Seen.{LineSearchSeen}
use Rattle.line_words.specs.Node.{node}
use Rattle.state_search.specs.Paths.{LeavesOut, Searches}
use Rattle.state_search.specs.Seen.{cut_of}

-- The search went through the states of the line's legal histories: all of them, and there are at
-- most `most`; or, if it was cut, `most` of them. Then a state that comes after one of these
-- is left out, and none that is left out has a past shorter than the cut.
pub record IsSearchOf (most : ℕ) (def : LineDef) (search : LineSearchSeen) : Type 0 where
  pub of : search.def ≡ def
  pub searches : Searches (IsDue def) (node def) search.searched.paths search.searched.looked
      (cut_of search.searched)
  pub within : length search.searched.paths ≤ most
  pub cut : IfSome (cut_of search.searched) (λ _. length search.searched.paths ≡ most)
  pub left_out : LeavesOut (IsDue def) (node def) search.searched.paths search.searched.looked
