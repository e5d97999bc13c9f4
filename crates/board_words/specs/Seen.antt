-- What is left to be read.
use Rattle.std.specs.Prelude.{ℕ, Bool, true, false, List, [], ◌∷◌, codes}
use Rattle.std.specs.Str.{bytes_eq}
use Rattle.board_words.specs.TextLines.{text_lines, words_of}
use Rattle.board_words.specs.declared.text_lines.TextLines.{TextLines}
use Rattle.board_words.specs.declared.words.Words.{Words}

-- the text lines that are left
abbrev pub lines_left : TextLines → List (List ℕ)
lines_left lines = text_lines lines.rest.now

-- the words that are left
abbrev pub words_left : Words → List (List ℕ)
words_left words = words_of words.rest.now

-- there are no words
abbrev pub are_none : List (List ℕ) → Bool
are_none [] = true
are_none (word ∷ words) = false

-- the first word is `board`
abbrev pub is_header : List (List ℕ) → Bool
is_header [] = false
is_header (word ∷ words) = bytes_eq word (codes "board")
