-- What reading a text gives.
use Rattle.std.specs.Prelude.{◌≡◌, ℕ, false, nat_lt, Some, None, Result, Ok, Err, List, []}
use Rattle.std.specs.Prelude.{◌∷◌, length}
use Rattle.board_def.specs.Seen.{BoardSeen}
use Rattle.board_words.specs.declared.faults.FaultKind.{FaultKind}
use Rattle.board_words.specs.declared.statements.CallWords.{CallWords}
use Rattle.board_words.specs.declared.statements.Statement.{Statement}
use Rattle.board_words.specs.declared.statements.Statement.TheVariants as statements
use Rattle.board_words.specs.declared.statements.StatementRefused.{StatementRefused}
use Rattle.board_words.specs.declared.statements.StatementRefused.TheVariants as lines
use Rattle.board_stated.specs.FaultsAfter.{fault_after}
use Rattle.board_stated.specs.TextOf.{fault_of_line, with_line, first_fault, with_lines, whole}
use Rattle.board_stated.specs.TextOf.{board_unless, fault_of_lines, longest_text, statements_of}
use Rattle.board_stated.specs.TextOf.{board_of_text}
use Rattle.board_words.specs.TextLines.{text_lines}
use Rattle.board_words.specs.declared.faults.BoardFault.{BoardFault}
use Rattle.board_text.specs.Kept.{Agrees, Keeps}
use Rattle.board_text.specs.declared.reader.Reader.{Reader}
use Rattle.board_text.specs.declared.reading.BoardRefused.{BoardRefused}
use Rattle.board_text.specs.declared.reading.BoardRefused.TheVariants as texts

-- the text's board, or its first fault, unless memory was refused
abbrev pub Gives : Result BoardSeen BoardFault → Result BoardSeen BoardRefused → Type 0
Gives told (Ok board) = told ≡ Ok board
Gives told (Err (texts.Fault fault)) = told ≡ Err fault
Gives told (Err texts.NoMemory) = Unit {0}

-- a statement was taken after these: it has no fault there, and the reader keeps it too; or the
-- answer is its fault
abbrev pub Takes : List Statement → Statement → Reader → Result Unit StatementRefused → Type 0
Takes past s reader (Ok done) = (fault_after past s ≡ None) × Agrees (s ∷ past) reader
Takes past s reader (Err (lines.Fault kind)) = fault_after past s ≡ Some kind
Takes past s reader (Err lines.NoMemory) = Unit {0}

-- the call that the words say, which has no fault after these statements; or its fault
abbrev pub Makes : {Row : Type 0} → List Statement → CallWords → Row → Result Row FaultKind → Type 0
Makes past words row (Ok call) =
    (fault_after past (statements.Call words) ≡ None) × (call ≡ row)
Makes past words row (Err kind) = fault_after past (statements.Call words) ≡ Some kind

-- a text line was read after these statements: it has no fault, and the reader keeps what it says;
-- or the answer is its fault
abbrev pub ReadsLine : List Statement → List ℕ → Reader → Result Unit StatementRefused → Type 0
ReadsLine past line reader (Ok done) =
    (fault_of_line past line ≡ None) × Keeps (with_line past line) reader
ReadsLine past line reader (Err (lines.Fault kind)) = fault_of_line past line ≡ Some kind
ReadsLine past line reader (Err lines.NoMemory) = Unit {0}

-- all text lines were read: none has a fault, and the reader keeps what they say; or the answer is
-- their first fault
abbrev pub ReadsLines : List (List ℕ) → Result Reader BoardRefused → Type 0
ReadsLines all (Ok reader) = (first_fault 1 [] all ≡ None) × Keeps (with_lines [] all) reader
ReadsLines all (Err (texts.Fault fault)) = first_fault 1 [] all ≡ Some fault
ReadsLines all (Err texts.NoMemory) = Unit {0}

-- a whole text was read: no text line has a fault, and the reader keeps what they say; or the
-- answer is the text's fault
abbrev pub ReadsText : List ℕ → Result Reader BoardRefused → Type 0
ReadsText bytes (Ok reader) = (nat_lt longest_text (length bytes) ≡ false)
    × (fault_of_lines (text_lines bytes) ≡ None) × Keeps (statements_of bytes) reader
ReadsText bytes (Err (texts.Fault fault)) = board_of_text bytes ≡ Err fault
ReadsText bytes (Err texts.NoMemory) = Unit {0}

-- the text has ended after these statements: its board, or the fault of its log limit
abbrev pub Ends : List Statement → Result BoardSeen FaultKind → Type 0
Ends past (Ok board) = board_unless None past ≡ Ok board
Ends past (Err kind) = board_unless None past ≡ Err (whole kind)
