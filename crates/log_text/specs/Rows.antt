-- The rows of a log, as bytes.
use Rattle.std.specs.Prelude.{ℕ, List, ◌∷◌, ◌++◌, codes, decimal}
use Rattle.std.specs.List.{join_with_byte, flat_map}
use Rattle.irq_base.specs.declared.numbers.LineNo.{LineNo}
use Rattle.irq_base.specs.declared.entries.Entry.{Entry}
use Rattle.log_text.specs.EntryWords.{entry_words}

-- the words with one space, 32, between each two, ended by a line feed
abbrev pub row_of : List (List ℕ) → List ℕ
row_of words = join_with_byte 32 words ++ codes "\n"

-- the row of an entry of the line
abbrev pub entry_text : LineNo → Entry → List ℕ
entry_text line e = row_of (decimal line.0 ∷ entry_words e)

-- the rows of a line's history, the oldest entry's first
abbrev pub history_text : LineNo → List Entry → List ℕ
history_text line es = flat_map (entry_text line) es
