-- The board of a text, or its first fault.
use Rattle.std.specs.Prelude.{ℕ, ◌+◌, ◌*◌, Bool, false, not, ◌&&◌, nat_lt, if◌then◌else◌, Option}
use Rattle.std.specs.Prelude.{Some, None, Result, Ok, Err, List, [], ◌∷◌, codes, length}
use Rattle.std.specs.List.{list_any}
use Rattle.board_def.specs.Seen.{BoardSeen}
use Rattle.board_words.specs.Forms.{is, fault_of_words}
use Rattle.board_words.specs.TextLines.{text_lines, words_of, has_bad_byte}
use Rattle.board_words.specs.Statements.{statement_of}
use Rattle.board_words.specs.declared.faults.FaultKind.{FaultKind}
use Rattle.board_words.specs.declared.faults.FaultKind.TheVariants as faults
use Rattle.board_words.specs.declared.statements.Statement.{Statement}
use Rattle.board_stated.specs.FaultsAfter.{fault_after, is_empty}
use Rattle.board_stated.specs.Stated.{board_of}
use Rattle.board_words.specs.declared.faults.BoardFault.{BoardFault}

-- the words begin with `board`
abbrev pub begins_with_board : List (List ℕ) → Bool
begins_with_board [] = false
begins_with_board (word ∷ words) = is word (codes "board")

abbrev pub or_else : Option FaultKind → Option FaultKind → Option FaultKind
or_else (Some kind) other = Some kind
or_else None other = other

-- the first fault of a statement: that the first statement isn't a header; then the faults in
-- itself; then its faults after the statements before it
abbrev pub fault_of_statement : List Statement → List (List ℕ) → Option FaultKind
fault_of_statement past words =
    if is_empty past && not (begins_with_board words) then Some faults.NoHeader
    else or_else (fault_of_words (board_of past).version words) (fault_after past (statement_of words))

-- the first fault of a text line; a text line without words is no statement
abbrev pub fault_of_line : List Statement → List ℕ → Option FaultKind
fault_of_line past line =
    if has_bad_byte line then Some faults.BadByte
    else if is_empty (words_of line) then None
    else fault_of_statement past (words_of line)

-- the statements up to and with the text line, the newest first
abbrev pub with_line : List Statement → List ℕ → List Statement
with_line past line = if is_empty (words_of line) then past else statement_of (words_of line) ∷ past

abbrev pub with_lines : List Statement → List (List ℕ) → List Statement
with_lines past [] = past
with_lines past (line ∷ lines) = with_lines (with_line past line) lines

abbrev pub fault_or : ℕ → Option FaultKind → Option BoardFault → Option BoardFault
fault_or at (Some kind) later = Some (record { at = at; kind = kind })
fault_or at None later = later

-- the fault of the first text line that has one; the first text line counts as number `at`
abbrev pub first_fault : ℕ → List Statement → List (List ℕ) → Option BoardFault
first_fault at past [] = None
first_fault at past (line ∷ lines) =
    fault_or at (fault_of_line past line) (first_fault (at + 1) (with_line past line) lines)

abbrev pub has_words : List ℕ → Bool
has_words line = not (is_empty (words_of line))

-- a text without a statement lacks the header at its first text line; only a bad byte there comes
-- before that fault
abbrev pub fault_without_statement : List (List ℕ) → FaultKind
fault_without_statement [] = faults.NoHeader
fault_without_statement (line ∷ lines) =
    if has_bad_byte line then faults.BadByte else faults.NoHeader

abbrev pub fault_of_lines : List (List ℕ) → Option BoardFault
fault_of_lines lines =
    if list_any has_words lines then first_fault 1 [] lines
    else Some (record { at = 1; kind = fault_without_statement lines })

-- the most bytes of a text
abbrev pub longest_text : ℕ
longest_text = 1048576

-- faults of the whole text
abbrev pub whole : FaultKind → BoardFault
whole kind = record { at = 0; kind = kind }

abbrev pub board_unless : Option BoardFault → List Statement → Result BoardSeen BoardFault
board_unless (Some fault) past = Err fault
board_unless None past =
    let b = board_of past in
    if nat_lt 4000000 (b.log * length b.lines) then Err (whole faults.LogTooLarge) else Ok b

-- the statements of a text, the newest first
abbrev pub statements_of : List ℕ → List Statement
statements_of bytes = with_lines [] (text_lines bytes)

-- the board of a text, or its first fault
abbrev pub board_of_text : List ℕ → Result BoardSeen BoardFault
board_of_text bytes =
    if nat_lt longest_text (length bytes) then Err (whole faults.TooLong)
    else board_unless (fault_of_lines (text_lines bytes)) (statements_of bytes)
