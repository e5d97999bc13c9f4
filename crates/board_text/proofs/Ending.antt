-- The end of a text.
use Rattle.std.proofs.Common.{◌≡◌, ℕ, ◌*◌, ◌<◌, ◌≤◌, Bool, true, false, cond, nat_lt, Option, None, Ok, Err}
use Rattle.std.proofs.Common.{List, length, refl, sym, ap, subst, ◌∙◌, arith}
use Rattle.std.proofs.lemmas.Bool.Decides.{nat_tests}
use Rattle.board_def.specs.Rules.{IsBoard}
use Rattle.board_def.specs.Seen.{BoardSeen}
use Rattle.board_stated.specs.Stated.{board_of}
use Rattle.board_stated.specs.TextOf.{board_unless, whole, fault_of_lines, longest_text, statements_of, board_of_text}
use Rattle.board_words.specs.TextLines.{text_lines}
use Rattle.board_words.specs.declared.faults.BoardFault.{BoardFault}
use Rattle.board_stated.proofs.Kept.{draft_is_board}
use Rattle.board_stated.proofs.Settings.{log_range, log_kept}
use Rattle.board_words.specs.declared.faults.FaultKind.TheVariants as faults
use Rattle.board_words.specs.declared.statements.Statement.{Statement}
use Rattle.board_text.specs.Kept.{Keeps, IsKept}
use Rattle.board_text.specs.declared.reader.Reader.{Reader}

large : (t : Bool) (a : BoardSeen) (x : BoardFault) → t ≡ true → cond t (Err x) (Ok a) ≡ Err x
large t a x e = rw e refl

good : (t : Bool) (a : BoardSeen) (x : BoardFault) → t ≡ false → cond t (Err x) (Ok a) ≡ Ok a
good t a x e = rw e refl

above : (n : ℕ) → 4000000 < n → nat_lt 4000000 n ≡ true
above n h = grind (arith, nat_tests)

within : (n : ℕ) → n ≤ 4000000 → nat_lt 4000000 n ≡ false
within n h = grind (arith, nat_tests)

-- all entries, by the reader's fields
entries_of : (past : List Statement) (r : Reader) → Keeps past r → r.log * length r.board.lines ≡ (board_of past).log * length (board_of past).lines
entries_of past r h = ap (λ n. n * length r.board.lines) h.agrees.log ∙ ap (λ (b : BoardSeen). (board_of past).log * length b.lines) h.agrees.board

pub ends_large : (past : List Statement) (r : Reader) → Keeps past r → 4000000 < r.log * length r.board.lines
    → board_unless None past ≡ Err (whole faults.LogTooLarge)
ends_large past r h more = large _ (board_of past) (whole faults.LogTooLarge) (above _ (subst (λ n. 4000000 < n) (entries_of past r h) more))

-- the board with its log limit
board_with_log : (past : List Statement) (r : Reader) → Keeps past r → record r.board { log = r.log } ≡ board_of past
board_with_log past r h =
    ap (λ (b : BoardSeen). record b { log = r.log }) h.agrees.board ∙ ap (λ n. record (board_of past) { log = n }) h.agrees.log

pub ends_good : (past : List Statement) (r : Reader) (b : BoardSeen) → Keeps past r
    → r.log * length r.board.lines ≤ 4000000 → b ≡ record r.board { log = r.log } → board_unless None past ≡ Ok b
ends_good past r b h few is =
    good _ (board_of past) (whole faults.LogTooLarge) (within _ (subst (λ n. n ≤ 4000000) (entries_of past r h) few))
    ∙ ap (λ (x : BoardSeen). Ok x) (sym (is ∙ board_with_log past r h))

pub log_fits : (r : Reader) → IsKept r → r.log * length r.board.lines ≤ 4000000 → IsBoard (record r.board { log = r.log })
log_fits r h few =
    let past = h.past in
    subst IsBoard (sym (board_with_log past r h.keeps))
    (log_kept (board_of past) (draft_is_board past h.keeps.sound) (log_range past h.keeps.sound) (subst (λ n. n ≤ 4000000) (entries_of past r h.keeps) few))

-- what reading the lines gives is what reading the text gives

unless_is : (fault : Option BoardFault) (past : List Statement) → fault ≡ None → board_unless fault past ≡ board_unless None past
unless_is fault past e = ap (λ f. board_unless f past) e

-- a text whose lines have no fault is what its end says
pub text_ended : (bytes : List ℕ) → nat_lt longest_text (length bytes) ≡ false
    → fault_of_lines (text_lines bytes) ≡ None → board_of_text bytes ≡ board_unless None (statements_of bytes)
text_ended bytes short none =
    ap (λ b. cond b (Err (whole faults.TooLong)) (board_unless (fault_of_lines (text_lines bytes))
    (statements_of bytes))) short ∙ unless_is (fault_of_lines (text_lines bytes)) (statements_of bytes) none
