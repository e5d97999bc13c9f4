-- The lines that a sleep arms, as words.
use Rattle.std.specs.Prelude.{ℕ, ◌<◌, ◌≤◌, List, [], ◌∷◌, length, decimal}
use Rattle.irq_base.specs.declared.numbers.LineNo.{LineNo}

abbrev pub line_word : LineNo → List ℕ
line_word line = decimal line.0

-- the line's number is greater than `last`, and at most 65,535
abbrev pub IsAfter : ℕ → LineNo → Type 0
IsAfter last line = (last < line.0) × (line.0 ≤ 65535)

-- each number is greater than the one before it, the first greater than `last`
abbrev pub RiseAfter : ℕ → List LineNo → Type 0
RiseAfter last [] = Unit {0}
RiseAfter last (line ∷ lines) = IsAfter last line × RiseAfter line.0 lines

-- at most 64 lines, whose numbers rise
pub record AreArmed (lines : List LineNo) : Type 0 where
  pub few : length lines ≤ 64
  pub rise : RiseAfter 0 lines
