-- Where a word begins and ends, and where printable bytes end.
use Rattle.std.specs.Prelude.{ℕ, Bool, not, ◌||◌}
use Rattle.board_words.specs.TextLines.{is_blank, is_hash, is_printable}

-- a word, or a comment, begins at the byte
abbrev pub starts_word : ℕ → Bool
starts_word b = not (is_blank b)

-- no word goes on at the byte
abbrev pub ends_word : ℕ → Bool
ends_word b = is_blank b || is_hash b

-- the byte isn't printable
abbrev pub ends_printable : ℕ → Bool
ends_printable b = not (is_printable b)
