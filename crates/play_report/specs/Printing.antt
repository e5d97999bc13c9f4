-- Which moves and which steps have a row.
use Rattle.std.specs.Prelude.{IfSome, Option}
use Rattle.board_play.specs.Lines.{Move}
use Rattle.log_text.specs.EntryWords.{IsPrintable}

-- a move's entry has a row
abbrev pub HasRow : Move → Type 0
HasRow m = IsPrintable m.1

-- A step that moves a line has one if its entry can be written, and a step beside the lines has
-- one. `told`: the move that a step is.
abbrev pub StepHasRow : {E : Type 0} → (E → Option Move) → E → Type 0
StepHasRow told e = IfSome (told e) HasRow
