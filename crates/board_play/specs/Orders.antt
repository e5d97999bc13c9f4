-- A play by a stated order. The newest step comes first.
use Rattle.std.specs.Prelude.{◌≡◌, ◌<◌, ℕ, IfSome, Option, Some, None, List, [], ◌∷◌, length}
use Rattle.irq_base.specs.declared.entries.Actor.{Actor}
use Rattle.irq_base.specs.declared.numbers.LineNo.{LineNo}
use Rattle.board_def.specs.Seen.{BoardSeen}
use Rattle.board_play.specs.Lines.{Move, part, lines_of}
use Rattle.board_play.specs.Play.{End, Done, Full, choice}

-- a step that is a move of a line goes before the moves
abbrev pub onto : Option Move → List Move → List Move
onto None g = g
onto (Some m) g = m ∷ g

-- The order: of S is where it stands (a phase, the picks that are left), of E a step.
pub record Order (S E : Type 0) : Type 0 where
  -- the move of a line that the step is; none if it stands beside the lines, as the mark of a phase
  -- does
  pub told : E → Option Move
  -- the next step after these, and where the order stands then
  pub next : List E → S → Option (E × S)
  -- the greatest length of a line's history
  pub log : ℕ

module _ {S E : Type 0} where
  -- the moves of lines among the steps
  abbrev pub moves_in : Order S E → List E → List Move
  moves_in o [] = []
  moves_in o (e ∷ g) = onto (o.told e) (moves_in o g)

  -- the line that the step moves has room for it; a step beside the lines needs none
  abbrev pub HasRoom : Order S E → List E → E → Type 0
  HasRoom o g e = IfSome (o.told e) (λ m. length (part m.0 (moves_in o g)) < o.log)

  -- each step was the next one, from where the order began; now it stands at `at`
  abbrev pub IsMade : Order S E → S → List E → S → Type 0
  IsMade o first [] at = at ≡ first
  IsMade o first (e ∷ g) at =
      (before : S) × IsMade o first g before × (o.next g before ≡ Some (e, at)) × HasRoom o g e

  -- there is a next step, which is a move of this line, and the line's history has the greatest
  -- length
  pub record IsFullAt (o : Order S E) (g : List E) (at : S) (line : LineNo) : Type 0 where
    pub step : E
    pub after : S
    pub next_is : o.next g at ≡ Some (step, after)
    pub move : Move
    pub tells : o.told step ≡ Some move
    pub of_line : move.0 ≡ line
    pub is_long : length (part line (moves_in o g)) ≡ o.log

  abbrev pub EndsSo : Order S E → List E → S → End → Type 0
  EndsSo o g at Done = o.next g at ≡ None
  EndsSo o g at (Full line) = IsFullAt o g at line

  -- these steps are the play by the order, and so it ends
  abbrev pub IsPlayed : Order S E → S → List E → End → Type 0
  IsPlayed o first g end = (at : S) × IsMade o first g at × EndsSo o g at end

-- the order of a board's play: the picks first, then always the lowest actor that can move
abbrev pub picks_then_lowest : BoardSeen → Order (List Actor) Move
picks_then_lowest board = record {
  told = λ m. Some m;
  next = λ g left. choice board (lines_of board g) left;
  log = board.log;
}
