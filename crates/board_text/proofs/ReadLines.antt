-- Reading a text line.
use Rattle.std.proofs.Common.{◌≡◌, ℕ, Bool, false, cond, not, ◌&&◌, Option, Some, None, Result, Ok, Err, List, [], ◌∷◌, refl, sym, ap, subst, arith}
use Rattle.board_stated.specs.FaultsAfter.{is_empty, fault_after}
use Rattle.board_def.specs.Seen.{BoardSeen}
use Rattle.board_stated.specs.Sound.{IsWellFormed, IsSound}
use Rattle.board_stated.specs.Stated.{board_of}
use Rattle.board_stated.specs.TextOf.{begins_with_board, or_else, fault_of_statement, fault_of_line, with_line}
use Rattle.board_stated.proofs.WellFormed.{statement_is_well_formed}
use Rattle.board_text.specs.Given.{Takes, ReadsLine}
use Rattle.board_text.specs.Kept.{Agrees, Keeps}
use Rattle.board_text.specs.declared.reader.Reader.{Reader}
use Rattle.board_words.specs.Forms.{fault_of_words}
use Rattle.board_words.specs.TextLines.{words_of, has_bad_byte}
use Rattle.board_words.specs.Seen.{are_none, is_header}
use Rattle.board_words.specs.Statements.{statement_of}
use Rattle.board_words.specs.declared.faults.FaultKind.{FaultKind}
use Rattle.board_words.specs.declared.faults.FaultKind.TheVariants as faults
use Rattle.board_words.specs.declared.statements.Statement.{Statement}
use Rattle.board_words.specs.declared.statements.StatementRefused.{StatementRefused}
use Rattle.board_words.specs.declared.statements.StatementRefused.TheVariants as lines

pub none_same : (words : List (List ℕ)) → is_empty words ≡ are_none words
none_same [] = refl
none_same (word ∷ words) = grind arith

pub header_same : (words : List (List ℕ)) → begins_with_board words ≡ is_header words
header_same [] = refl
header_same (word ∷ words) = refl

told : (bad none lacks : Bool) (own after kind : Option FaultKind) → bad ≡ false → none ≡ false → lacks ≡ false → own ≡ None → kind ≡ after
    → cond bad (Some faults.BadByte) (cond none None (cond lacks (Some faults.NoHeader) (or_else own after))) ≡ kind
told bad none lacks own after kind e f g h is = rw (e, f, g, h) (sym is)

-- the fault of a line whose words have none in themselves
pub line_told : (past : List Statement) (line : List ℕ) (words : List (List ℕ)) (s : Statement)
    (kind : Option FaultKind) → words ≡ words_of line → has_bad_byte line ≡ false → are_none words ≡ false
    → (is_empty past && not (begins_with_board words)) ≡ false → fault_of_words (board_of past).version words ≡ None
    → s ≡ statement_of words → kind ≡ fault_after past s → fault_of_line past line ≡ kind
line_told past line words s kind e bad none lacks own is after =
    let there : is_empty words ≡ false = rw (none_same words) none in
    let at_end : kind ≡ fault_after past (statement_of words) = subst (λ s. kind ≡ fault_after past s) is after in
    let P : List (List ℕ) → Type 0 = λ ws. cond (has_bad_byte line) (Some faults.BadByte) (cond (is_empty ws) None (fault_of_statement past ws)) ≡ kind in
    subst P e (told (has_bad_byte line) (is_empty words) (is_empty past && not (begins_with_board words))
    (fault_of_words (board_of past).version words) (fault_after past (statement_of words)) kind bad there lacks own
    at_end)

-- the statements after it
pub line_added : (past : List Statement) (line : List ℕ) (words : List (List ℕ)) (s : Statement) → words ≡ words_of line
    → are_none words ≡ false → s ≡ statement_of words → with_line past line ≡ s ∷ past
line_added past line words s e none is =
    let there : is_empty words ≡ false = rw (none_same words) none in
    let P : List (List ℕ) → Type 0 = λ ws. cond (is_empty ws) past (statement_of ws ∷ past) ≡ s ∷ past in
    subst P e (rw (there, is) refl)

-- the next one's numbers and names are right
pub formed_next : (past : List Statement) (words : List (List ℕ)) (s : Statement) → fault_of_words (board_of past).version words ≡ None
    → s ≡ statement_of words → IsWellFormed s
formed_next past words s own is = subst IsWellFormed (sym is) (statement_is_well_formed (board_of past).version words own)

-- the version that the reader keeps is the text's
pub own_fault : (past : List Statement) (r : Reader) (words : List (List ℕ)) (o : Option FaultKind) → Agrees past r
    → fault_of_words r.board.version words ≡ o → fault_of_words (board_of past).version words ≡ o
own_fault past r words o h is = subst (λ n. fault_of_words n words ≡ o) (ap (λ (b : BoardSeen). b.version) h.board) is

-- a line is read by taking its statement
pub line_taken : (past : List Statement) (line : List ℕ) (words : List (List ℕ)) (s : Statement) (q : Reader) (result : Result Unit StatementRefused)
    → words ≡ words_of line → has_bad_byte line ≡ false → are_none words ≡ false → (is_empty past && not (begins_with_board words)) ≡ false
    → fault_of_words (board_of past).version words ≡ None → s ≡ statement_of words → IsSound past → Takes past s q result
    → ReadsLine past line q result
line_taken past line words s q (Ok done) e bad none lacks own is sound told = (
  line_told past line words s None e bad none lacks own is (sym told.0),
  subst (λ (p : List Statement). Keeps p q) (sym (line_added past line words s e none is))
      (record { agrees = told.1; sound = (sound, formed_next past words s own is, told.0) }),
)
line_taken past line words s q (Err (lines.Fault kind)) e bad none lacks own is sound told =
    line_told past line words s (Some kind) e bad none lacks own is (sym told)
line_taken past line words s q (Err lines.NoMemory) e bad none lacks own is sound told = tt
