-- A call of the script that is written, and what is wrong with it.
use Rattle.std.proofs.Common.{◌≡◌, ℕ, Bool, true, false, not, cond, nat_lt, nat_le, ◌||◌, Option, Some, None, List, []}
use Rattle.std.proofs.Common.{◌∷◌, ◌++◌, length, refl, sym, ap, subst, ◌∙◌, arith}
use Rattle.std.proofs.lemmas.Bool.Decides.{nat_tests}
use Rattle.irq_base.specs.declared.devices.Part.{Part}
use Rattle.irq_base.specs.declared.numbers.DevNo.{DevNo}
use Rattle.board_def.specs.Rules.{IsBoard, is_bad_owner}
use Rattle.board_def.specs.Seen.{BoardSeen}
use Rattle.board_def.specs.declared.rows.RunCall.{RunCall}
use Rattle.board_def.specs.declared.rows.ScriptCall.{ScriptCall}
use Rattle.board_stated.specs.FaultsAfter.{is_empty, is_nobody, is_out_of_turn, has_flag_twice, names_nothing, has_bad_owner, may_not_call, has_bad_run}
use Rattle.board_stated.specs.FaultsAfter.{has_no_room_to_call, fault_after}
use Rattle.board_stated.specs.Sections.{section_reached, writer_of, turn_after, turn_reached}
use Rattle.board_stated.specs.Sound.{draft_of}
use Rattle.board_stated.specs.Stated.{board_of, driver_writing, call_of_words, script_call, run_call, with_statement}
use Rattle.board_stated.specs.declared.writers.Writer.{Writer}
use Rattle.board_stated.specs.declared.writers.Writer.TheVariants as writers
use Rattle.board_words.specs.declared.faults.FaultKind.{FaultKind}
use Rattle.board_words.specs.declared.faults.FaultKind.TheVariants as faults
use Rattle.board_words.specs.declared.statements.CallWords.{CallWords}
use Rattle.board_words.specs.declared.statements.Statement.{Statement}
use Rattle.board_words.specs.declared.statements.Statement.TheVariants as statements
use Rattle.board_text.specs.Kept.{place_of, stood_after, drafted, with_driver_call, with_run_call, Agrees, Keeps, IsNext, IsNoCall}
use Rattle.board_text.specs.Owned.{Owns}
use Rattle.board_text.specs.declared.owners.Owner.{Owner}
use Rattle.board_text.specs.declared.reader.Reader.{Reader}
use Rattle.board_text.specs.declared.stood.Stood.{Stood}
use Rattle.board_text.proofs.Drafts.{names_same, not_there_read, parent_read, unlazy_read, mask_read, run_read, room_read}
use Rattle.board_text.proofs.OneMore.{next_is_board, agrees_more, owns_read}

-- the fault of a call, by whether it is late, whose script it is of, and whether it names nothing
abbrev fault_by : Bool → Writer → Bool → BoardSeen → CallWords → Option FaultKind
fault_by late whose nothing b c =
    cond (late || (false || is_nobody whose)) (Some faults.OutOfOrder)
    (cond (has_flag_twice c) (Some faults.Twice)
    (cond nothing (Some faults.NotThere)
    (cond (has_bad_owner whose b (statements.Call c)) (Some faults.BadOwner)
    (cond (has_bad_run whose b (statements.Call c)) (Some faults.BadRun)
    (cond (has_no_room_to_call whose b) (Some faults.TooMany) None)))))

less_itself : (n : ℕ) → nat_lt n n ≡ false
less_itself n = grind (arith, nat_tests)

-- it is found in the reader
fault_in : (past : List Statement) (r : Reader) (c : CallWords) (whose : Writer) → Agrees past r → r.writer ≡ whose
    → fault_after past (statements.Call c) ≡ fault_by false whose (names_nothing r.board c) r.board c
fault_in past r c whose h is =
    ap (λ t. fault_by t (writer_of past) (names_nothing (board_of past) c) (board_of past) c) (less_itself (section_reached past))
    ∙ (ap (λ w. fault_by false w (names_nothing (board_of past) c) (board_of past) c) (sym h.writer ∙ is)
    ∙ (ap (λ t. fault_by false whose t (board_of past) c) (sym (names_same past c))
    ∙ (drafted_same whose ∙ ap (λ (b : BoardSeen). fault_by false whose (names_nothing b c) b c) (sym h.board))))
  where
    drafted_same : (whose : Writer) → fault_by false whose (names_nothing (draft_of past) c) (board_of past) c
        ≡ fault_by false whose (names_nothing (draft_of past) c) (draft_of past) c
    drafted_same writers.Nobody = refl
    drafted_same writers.Driver = refl
    drafted_same (writers.Runs dev part) = refl

pub nobody_fault : (past : List Statement) (r : Reader) (c : CallWords) → Agrees past r → r.writer ≡ writers.Nobody
    → fault_after past (statements.Call c) ≡ Some faults.OutOfOrder
nobody_fault past r c h is = fault_in past r c writers.Nobody h is

pub fault_read : (past : List Statement) (r : Reader) (c : CallWords) → Agrees past r → r.writer ≡ writers.Driver
    → fault_after past (statements.Call c)
    ≡ cond (has_flag_twice c) (Some faults.Twice)
    (cond (names_nothing r.board c) (Some faults.NotThere)
    (cond (is_bad_owner r.board.calls (driver_writing r.board.drivers) (call_of_words c)) (Some faults.BadOwner)
    (cond (nat_le 16384 (length r.board.calls)) (Some faults.TooMany) None)))
fault_read past r c h is = fault_in past r c writers.Driver h is

pub run_fault_read : (past : List Statement) (r : Reader) (dev : DevNo) (part : Part) (c : CallWords) → Agrees past r
    → r.writer ≡ writers.Runs dev part → fault_after past (statements.Call c)
    ≡ cond (has_flag_twice c) (Some faults.Twice)
    (cond (names_nothing r.board c) (Some faults.NotThere)
    (cond (may_not_call r.board (run_call r.board dev part c)) (Some faults.BadRun)
    (cond (has_no_room_to_call (writers.Runs dev part) r.board) (Some faults.TooMany) None)))
run_fault_read past r dev part c h is = fault_in past r c (writers.Runs dev part) h is

pub made_read : (past : List Statement) (r : Reader) (c : CallWords) → Agrees past r → script_call r.board c ≡ script_call (board_of past) c
made_read past r c h = ap (λ (b : BoardSeen). script_call b c) h.board

pub run_made_read : (past : List Statement) (r : Reader) (dev : DevNo) (part : Part) (c : CallWords) → Agrees past r
    → run_call r.board dev part c ≡ run_call (board_of past) dev part c
run_made_read past r dev part c h = ap (λ (b : BoardSeen). run_call b dev part c) h.board

-- the board with it keeps the rules

next_of : (past : List Statement) (r : Reader) (words : CallWords) → Keeps past r → fault_after past (statements.Call words) ≡ None
    → IsNext r (statements.Call words)
next_of past r words h none = record { past = past; agrees = h.agrees; sound = (h.sound, tt, none) }

pub made_is_board : (past : List Statement) (r : Reader) (words : CallWords) (call : ScriptCall) → Keeps past r → r.writer ≡ writers.Driver
    → fault_after past (statements.Call words) ≡ None → call ≡ script_call (board_of past) words → IsBoard (with_driver_call call r.board)
made_is_board past r words call h whose none is =
    subst (λ c. IsBoard (with_driver_call c r.board)) (made_read past r words h.agrees ∙ sym is)
    (subst (λ w. IsBoard (drafted w (statements.Call words) r.board)) whose
    (next_is_board r (statements.Call words) (next_of past r words h none)))

pub run_is_board : (past : List Statement) (r : Reader) (dev : DevNo) (part : Part) (words : CallWords) (call : RunCall) → Keeps past r
    → r.writer ≡ writers.Runs dev part → fault_after past (statements.Call words) ≡ None
    → call ≡ run_call (board_of past) dev part words → IsBoard (with_run_call call r.board)
run_is_board past r dev part words call h whose none is =
    subst (λ c. IsBoard (with_run_call c r.board)) (run_made_read past r dev part words h.agrees ∙ sym is)
    (subst (λ w. IsBoard (drafted w (statements.Call words) r.board)) whose
    (next_is_board r (statements.Call words) (next_of past r words h none)))

-- no other statement breaks the rule of ownership
pub no_owner : (whose : Writer) (b : BoardSeen) (s : Statement) → IsNoCall s → has_bad_owner whose b s ≡ false
no_owner writers.Nobody b s other = refl
no_owner (writers.Runs dev part) b s other = refl
no_owner writers.Driver b (statements.Call c) other = absurd (other c refl)
no_owner writers.Driver b _ other = refl

-- what is wrong with another statement, on the reader's board as on the board
pub ruleset faults_read = (not_there_read, parent_read, unlazy_read, mask_read, run_read, room_read, no_owner)

-- nor does it change the calls
pub calls_stay : (whose : Writer) (b : BoardSeen) (s : Statement) → IsNoCall s → b.calls ≡ (with_statement whose s b).calls
calls_stay whose b (statements.Call c) other = absurd (other c refl)
calls_stay whose b _ other = refl

-- and its turn is all that counts
pub turn_of : (past : List Statement) (s : Statement) → IsNoCall s → is_out_of_turn past s ≡ nat_lt (turn_after (turn_reached past) s) (turn_reached past)
turn_of past (statements.Call c) other = absurd (other c refl)
turn_of past _ other = refl

-- ---- the reader with a call more

stood_called : (past : List Statement) (words : CallWords) (s : Stood) → s ≡ stood_after past
    → record s { begun = true } ≡ stood_after (statements.Call words ∷ past)
stood_called past words s is =
    let some : is_empty (statements.Call words ∷ past) ≡ false = grind arith in
    ap (λ (t : Stood). record t { begun = true }) is ∙ ap (λ b. record (stood_after past) { begun = not b }) (sym some)

pub call_agrees : (past : List Statement) (r q : Reader) (words : CallWords) (call : ScriptCall) → Agrees past r → r.writer ≡ writers.Driver
    → call ≡ script_call (board_of past) words → q.board ≡ with_driver_call call r.board → q.log ≡ r.log → q.section ≡ r.section
    → q.writer ≡ r.writer → q.turn ≡ r.turn → q.stood ≡ record r.stood { begun = true } → Owns q.owners (r.board.calls ++ call ∷ [])
    → Agrees (statements.Call words ∷ past) q
call_agrees past r q words call h whose is board log section same turn stood owners =
    let own : call ≡ script_call r.board words = is ∙ sym (made_read past r words h) in
    agrees_more past r q (statements.Call words) h
    (board ∙ (ap (λ c. with_driver_call c r.board) own ∙ ap (λ w. drafted w (statements.Call words) r.board) (sym whose)))
    log (ap place_of section) same turn (stood ∙ stood_called past words r.stood h.stood)
    (subst (λ w. Owns q.owners (with_statement w (statements.Call words) r.board).calls) (sym whose)
    (subst (λ c. Owns q.owners (r.board.calls ++ c ∷ [])) own owners))

pub run_agrees : (past : List Statement) (r q : Reader) (dev : DevNo) (part : Part) (words : CallWords) (call : RunCall) → Agrees past r
    → r.writer ≡ writers.Runs dev part → call ≡ run_call (board_of past) dev part words → q.board ≡ with_run_call call r.board
    → q.log ≡ r.log → q.section ≡ r.section → q.writer ≡ r.writer → q.turn ≡ r.turn → q.stood ≡ record r.stood { begun = true }
    → q.owners ≡ r.owners → Agrees (statements.Call words ∷ past) q
run_agrees past r q dev part words call h whose is board log section same turn stood owners =
    let own : call ≡ run_call r.board dev part words = is ∙ sym (run_made_read past r dev part words h) in
    agrees_more past r q (statements.Call words) h
    (board ∙ (ap (λ c. with_run_call c r.board) own ∙ ap (λ w. drafted w (statements.Call words) r.board) (sym whose)))
    log (ap place_of section) same turn (stood ∙ stood_called past words r.stood h.stood)
    (subst (λ w. Owns q.owners (with_statement w (statements.Call words) r.board).calls) (sym whose)
    (subst (λ (o : List (DevNo × Owner)). Owns o r.board.calls) (sym owners) (owns_read past r h)))
