-- The board of a text has what texts of its version have.
use Rattle.std.proofs.Common.{◌≡◌, ℕ, ◌+◌, ◌*◌, Bool, true, false, not, ◌&&◌, ◌||◌, cond, nat_lt, Option, Some, None}
use Rattle.std.proofs.Common.{Result, Ok, Err, List, [], ◌∷◌, codes, length, refl, ap, subst}
use Rattle.std.specs.List.{list_any}
use Rattle.board_def.specs.Seen.{BoardSeen}
use Rattle.board_words.specs.Forms.{is, fault_of_words}
use Rattle.board_words.specs.TextLines.{text_lines, words_of, has_bad_byte}
use Rattle.board_words.specs.Statements.{statement_of}
use Rattle.board_words.specs.declared.faults.BoardFault.{BoardFault}
use Rattle.board_words.specs.declared.faults.FaultKind.{FaultKind}
use Rattle.board_words.specs.declared.faults.FaultKind.TheVariants as faults
use Rattle.board_words.specs.declared.statements.Statement.{Statement}
use Rattle.board_words.specs.declared.statements.Statement.TheVariants as statements
use Rattle.board_stated.specs.FaultsAfter.{is_empty, is_twice, fault_after}
use Rattle.board_stated.specs.Sections.{is_header}
use Rattle.board_stated.specs.Stated.{board_of}
use Rattle.board_stated.specs.TextOf.{begins_with_board, or_else, fault_of_statement, fault_of_line, with_line}
use Rattle.board_stated.specs.TextOf.{with_lines, fault_or, first_fault, has_words, fault_of_lines, longest_text, whole}
use Rattle.board_stated.specs.TextOf.{board_unless, board_of_text}
use Rattle.board_stated.proofs.Reached.{fits_after}
use Rattle.board_stated.specs.OfVersion.{IsOfItsVersion}
use Rattle.board_stated.proofs.OldRows.{AreRead, is_of_its_version}
use Rattle.board_stated.proofs.OldWords.{old_statement}

-- ---- a statement without a fault

apart : (a b : Option FaultKind) → or_else a b ≡ None → (a ≡ None) × (b ≡ None)
apart (Some kind) b h = absurd cc
apart None b h = (refl, h)

passed : (t : Bool) (kind : FaultKind) (rest : Option FaultKind) → cond t (Some kind) rest ≡ None → (t ≡ false) × (rest ≡ None)
passed true kind rest h = absurd cc
passed false kind rest h = (refl, h)

header_once : (past : List Statement) (s : Statement) → is_twice past s ≡ false → is_header s ≡ true → list_any is_header past ≡ false
header_once past (statements.Board version) once is = once
header_once past (statements.Cpus cpus) once is = absurd cc
header_once past (statements.Spurious window limit) once is = absurd cc
header_once past (statements.Log log) once is = absurd cc
header_once past (statements.Domain d) once is = absurd cc
header_once past (statements.Line l) once is = absurd cc
header_once past (statements.Device d) once is = absurd cc
header_once past (statements.Answers dev part answers) once is = absurd cc
header_once past (statements.Runs dev part) once is = absurd cc
header_once past (statements.Driver driver) once is = absurd cc
header_once past (statements.Call c) once is = absurd cc
header_once past (statements.Picks picks) once is = absurd cc

-- the first statement is a header
begins : (words : List (List ℕ)) → begins_with_board words ≡ true → is_header (statement_of words) ≡ true
begins [] h = absurd cc
begins (word ∷ words) h = header_if (is word (codes "board")) _ _ h
  where
    header_if : (t : Bool) (version : ℕ) (r : Statement) → t ≡ true → is_header (cond t (statements.Board version) r) ≡ true
    header_if true version r h = refl
    header_if false version r h = absurd cc

one_there : (a b : Bool) → b ≡ true → (a || b) ≡ true
one_there true b h = refl
one_there false b h = h

headed_by : (past : List Statement) (words : List (List ℕ)) → AreRead past → (is_empty past && not (begins_with_board words)) ≡ false
    → (is_header (statement_of words) || list_any is_header past) ≡ true
headed_by [] words read h = ap (λ t. t || false) (begins words (not_not (begins_with_board words) h))
  where
    not_not : (t : Bool) → not t ≡ false → t ≡ true
    not_not true h = refl
    not_not false h = absurd cc
headed_by (s ∷ past) words read h = one_there (is_header (statement_of words)) (list_any is_header (s ∷ past)) read.1.headed

reads_statement : (past : List Statement) (words : List (List ℕ)) → AreRead past → fault_of_statement past words ≡ None → AreRead (statement_of words ∷ past)
reads_statement past words read h =
    let s = statement_of words in
    let first = passed (is_empty past && not (begins_with_board words)) faults.NoHeader _ h in
    let both = apart (fault_of_words (board_of past).version words) (fault_after past s) first.1 in
    let fits = fits_after past s both.1 in (
      read,
      record {
        old = λ early. old_statement (board_of past).version words early both.0;
        once = header_once past s fits.once;
        headed = headed_by past words read first.0;
      },
    )

by_words : (t : Bool) (past : List Statement) (words : List (List ℕ)) → AreRead past
    → cond t None (fault_of_statement past words) ≡ None → AreRead (cond t past (statement_of words ∷ past))
by_words true past words read h = read
by_words false past words read h = reads_statement past words read h

reads_line : (past : List Statement) (line : List ℕ) → AreRead past → fault_of_line past line ≡ None → AreRead (with_line past line)
reads_line past line read h = by_words (is_empty (words_of line)) past (words_of line) read (passed (has_bad_byte line) faults.BadByte _ h).1

-- ---- text lines

no_fault_or : (at : ℕ) (kind : Option FaultKind) (later : Option BoardFault) → fault_or at kind later ≡ None → (kind ≡ None) × (later ≡ None)
no_fault_or at (Some kind) later h = absurd cc
no_fault_or at None later h = (refl, h)

reads_lines : (at : ℕ) (past : List Statement) (lines : List (List ℕ)) → AreRead past → first_fault at past lines ≡ None → AreRead (with_lines past lines)
reads_lines at past [] read h = read
reads_lines at past (line ∷ lines) read h =
    let both = no_fault_or at (fault_of_line past line) (first_fault (at + 1) (with_line past line) lines) h in
    reads_lines (at + 1) (with_line past line) lines (reads_line past line read both.0) both.1

no_fault_of : (t : Bool) (rest : Option BoardFault) (x : BoardFault) → cond t rest (Some x) ≡ None → rest ≡ None
no_fault_of true rest x h = h
no_fault_of false rest x h = absurd cc

stated : (large : Bool) (a b : BoardSeen) (x : BoardFault) → cond large (Err x) (Ok a) ≡ Ok b → a ≡ b
stated true a b x h = absurd cc
stated false a b x h = cc

unless : (lines : List (List ℕ)) (fault : Option BoardFault) (b : BoardSeen) → fault_of_lines lines ≡ fault
    → board_unless fault (with_lines [] lines) ≡ Ok b → IsOfItsVersion b
unless lines (Some fault) b is h = absurd cc
unless lines None b is h =
    let past = with_lines [] lines in
    let read : AreRead past = reads_lines 1 [] lines tt (no_fault_of (list_any has_words lines) (first_fault 1 [] lines) _ is) in
    subst IsOfItsVersion (stated (nat_lt 4000000 ((board_of past).log * length (board_of past).lines)) (board_of past) b (whole faults.LogTooLarge) h)
    (is_of_its_version past read)

within_limit : (t : Bool) (x : BoardFault) (rest : Result BoardSeen BoardFault) (b : BoardSeen) → cond t (Err x) rest ≡ Ok b → rest ≡ Ok b
within_limit true x rest b h = absurd cc
within_limit false x rest b h = h

pub text_is_of_its_version : (bytes : List ℕ) (b : BoardSeen) → board_of_text bytes ≡ Ok b → IsOfItsVersion b
text_is_of_its_version bytes b h =
    unless (text_lines bytes) (fault_of_lines (text_lines bytes)) b refl (within_limit (nat_lt longest_text (length bytes)) (whole faults.TooLong) _ b h)
