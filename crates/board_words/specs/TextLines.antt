-- The text lines of a text, and the words of a text line.
use Rattle.std.specs.Prelude.{ℕ, Bool, false, not, ◌&&◌, ◌||◌, ◌==◌, nat_le, if◌then◌else◌, List}
use Rattle.std.specs.Prelude.{[], ◌∷◌}
use Rattle.std.specs.List.{list_all}

abbrev pub is_line_feed : ℕ → Bool
is_line_feed b = b == 10

-- a space, a tab or a carriage return
abbrev pub is_blank : ℕ → Bool
is_blank b = (b == 32) || ((b == 9) || (b == 13))

-- `#`
abbrev pub is_hash : ℕ → Bool
is_hash b = b == 35

-- the byte joins the first of the texts
abbrev pub onto_first : ℕ → List (List ℕ) → List (List ℕ)
onto_first b [] = (b ∷ []) ∷ []
onto_first b (text ∷ texts) = (b ∷ text) ∷ texts

-- the text lines without their line feeds; the bytes after the last line feed are a text line,
-- unless there are none
abbrev pub text_lines : List ℕ → List (List ℕ)
text_lines [] = []
text_lines (b ∷ bs) = if is_line_feed b then [] ∷ text_lines bs else onto_first b (text_lines bs)

-- 0x20 to 0x7E
abbrev pub is_printable : ℕ → Bool
is_printable b = nat_le 32 b && nat_le b 126

-- a byte that may stand in a text line: a tab, a carriage return, or 0x20 to 0x7E
abbrev pub is_allowed : ℕ → Bool
is_allowed b = (b == 9) || ((b == 13) || (nat_le 32 b && nat_le b 126))

abbrev pub has_bad_byte : List ℕ → Bool
has_bad_byte line = not (list_all is_allowed line)

-- the bytes before `#`
abbrev pub without_comment : List ℕ → List ℕ
without_comment [] = []
without_comment (b ∷ bs) = if is_hash b then [] else b ∷ without_comment bs

-- the bytes begin within a word
abbrev pub is_within_word : List ℕ → Bool
is_within_word [] = false
is_within_word (b ∷ bs) = not (is_blank b)

-- the words between the blanks
abbrev pub split_at_blanks : List ℕ → List (List ℕ)
split_at_blanks [] = []
split_at_blanks (b ∷ bs) =
    if is_blank b then split_at_blanks bs
    else if is_within_word bs then onto_first b (split_at_blanks bs)
    else (b ∷ []) ∷ split_at_blanks bs

-- the words of a text line
abbrev pub words_of : List ℕ → List (List ℕ)
words_of line = split_at_blanks (without_comment line)
