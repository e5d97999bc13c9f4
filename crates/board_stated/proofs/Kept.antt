-- The board of a text keeps the rules.
use Rattle.std.proofs.Common.{◌≡◌, ℕ, ◌+◌, ◌*◌, ◌≤◌, Bool, true, false, not, ◌&&◌, cond, nat_lt, Option, Some, None}
use Rattle.std.proofs.Common.{Result, Ok, Err, List, [], ◌∷◌, length, refl, sym, subst, arith}
use Rattle.std.specs.List.{list_any}
use Rattle.std.proofs.lemmas.Bool.{ltb-false, leb-false}
use Rattle.std.proofs.lemmas.List.Elements.{All-nil}
use Rattle.board_def.specs.Rules.{IsDomainRowAfter, IsLineAfter, IsDeviceAfter, IsDriverAfter, IsCallAfter, IsActorOf, IsBoard}
use Rattle.board_def.specs.Seen.{BoardSeen}
use Rattle.board_def.proofs.Grows.{grows_domain, grows_line, grows_device, grows_driver, grows_call}
use Rattle.domain_rules.proofs.EachAfters.{each_none}
use Rattle.board_words.specs.Forms.{fault_of_words}
use Rattle.board_words.specs.TextLines.{text_lines, words_of, has_bad_byte}
use Rattle.board_words.specs.Statements.{statement_of}
use Rattle.board_words.specs.declared.faults.FaultKind.{FaultKind}
use Rattle.board_words.specs.declared.faults.FaultKind.TheVariants as faults
use Rattle.board_words.specs.declared.statements.CallWords.{CallWords}
use Rattle.board_words.specs.declared.statements.Statement.{Statement}
use Rattle.board_words.specs.declared.statements.Statement.TheVariants as statements
use Rattle.board_stated.specs.FaultsAfter.{is_empty, is_nobody, names_nothing, has_bad_owner, has_bad_run, is_one_too_many, fault_after}
use Rattle.board_stated.specs.Sound.{IsWellFormed, IsSound, draft_of}
use Rattle.board_stated.specs.Stated.{domain_row, line_row, device_of_words, script_call, with_call, board_of}
use Rattle.board_stated.specs.Sections.{writer_of}
use Rattle.board_stated.specs.declared.writers.Writer.{Writer}
use Rattle.board_stated.specs.declared.writers.Writer.TheVariants as writers
use Rattle.board_stated.specs.TextOf.{begins_with_board, or_else, fault_of_statement, fault_of_line, with_line}
use Rattle.board_stated.specs.TextOf.{with_lines, fault_or, first_fault, has_words, fault_of_lines, longest_text, whole}
use Rattle.board_stated.specs.TextOf.{board_unless, board_of_text}
use Rattle.board_words.specs.declared.faults.BoardFault.{BoardFault}
use Rattle.board_stated.proofs.Answers.{answers_kept}
use Rattle.board_stated.proofs.Calls.{call_after, run_kept}
use Rattle.board_stated.proofs.Devices.{device_after}
use Rattle.board_stated.proofs.Domains.{domain_after}
use Rattle.board_stated.proofs.Drivers.{driver_after}
use Rattle.board_stated.proofs.Lines.{line_after}
use Rattle.board_stated.proofs.Picks.{picks_kept}
use Rattle.board_stated.proofs.Reached.{FitsAfter, fits_after, no_rows, no_answers, driver_declared}
use Rattle.board_stated.proofs.Settings.{version_kept, cpus_kept, spurious_kept, log_range, log_kept}
use Rattle.board_stated.proofs.WellFormed.{statement_is_well_formed}

-- ---- statements without a fault state a board

first_draft : IsBoard (draft_of [])
first_draft = record {
  some_cpu = omega arith;
  few_cpus = omega arith;
  small_window = omega arith;
  limit = omega arith;
  some_log = omega arith;
  small_log = omega arith;
  few_domains = omega arith;
  few_lines = omega arith;
  few_devices = omega arith;
  few_drivers = omega arith;
  few_calls = omega arith;
  few_picks = omega arith;
  entries = omega arith;
  domains = each_none IsDomainRowAfter;
  lines = each_none (IsLineAfter (draft_of []));
  devices = each_none (IsDeviceAfter (draft_of []));
  told = record { few = omega arith; short = λ d. omega arith; allowed = All-nil _ };
  runs = record { few = omega arith; short = λ d part. omega arith; allowed = All-nil _; fit = All-nil _ };
  drivers = each_none IsDriverAfter;
  calls = each_none (IsCallAfter (draft_of []));
  picks = All-nil (IsActorOf (draft_of []));
}

-- a call, by whose script is written
call_kept : (past : List Statement) (c : CallWords) (whose : Writer) → writer_of past ≡ whose → IsBoard (draft_of past)
    → is_nobody whose ≡ false → names_nothing (board_of past) c ≡ false
    → has_bad_owner whose (board_of past) (statements.Call c) ≡ false
    → has_bad_run whose (board_of past) (statements.Call c) ≡ false
    → is_one_too_many whose (board_of past) (statements.Call c) ≡ false
    → IsBoard (record (with_call whose c (board_of past)) { log = 1 })
call_kept past c writers.Nobody is board some there owner run room = absurd cc
call_kept past c writers.Driver is board some there owner run room =
    let b = draft_of past in
    grows_call b (script_call b c) board (leb-false 16384 (length b.calls) room)
    (call_after b c board (driver_declared past is) there owner)
call_kept past c (writers.Runs dev part) is board some there owner run room = run_kept (draft_of past) dev part c board there run room

-- a statement changes a setting, or adds to the list of its kind what meets its rule after the rows before it
draft_more : (past : List Statement) (s : Statement) → IsSound past → FitsAfter past s → IsWellFormed s
    → IsBoard (draft_of past) → IsBoard (draft_of (s ∷ past))
draft_more past (statements.Board version) sound fits formed board = version_kept (draft_of past) version board
draft_more past (statements.Cpus cpus) sound fits formed board =
    cpus_kept (draft_of past) cpus (no_rows past sound (omega (arith, fits.section))) board formed
draft_more past (statements.Spurious window limit) sound fits formed board = spurious_kept (draft_of past) window limit board formed
draft_more past (statements.Log log) sound fits formed board = board
draft_more past (statements.Domain d) sound fits formed board =
    let b = draft_of past in
    grows_domain b (domain_row b.domains d) board (leb-false 32 (length b.domains) fits.room) (domain_after b d formed fits.once fits.parent)
draft_more past (statements.Line l) sound fits formed board =
    let b = draft_of past in
    let few = leb-false 64 (length b.lines) fits.room in
    grows_line b (line_row b l) board few (omega (arith, few))
    (line_after b l formed board.some_cpu board.lines fits.placed fits.there fits.unlazy fits.mask)
draft_more past (statements.Device d) sound fits formed board =
    let b = draft_of past in
    let none : b.told ≡ [] = no_answers past sound (omega (arith, fits.section)) in
    grows_device b (device_of_words d) board (leb-false 256 (length b.devices) fits.room)
    (device_after b d formed board.devices none fits.placed fits.there)
draft_more past (statements.Answers dev part answers) sound fits formed board =
    answers_kept (writer_of past) (draft_of past) dev part answers board formed fits.there fits.run fits.room
draft_more past (statements.Runs dev part) sound fits formed board = board
draft_more past (statements.Driver driver) sound fits formed board =
    let b = draft_of past in
    grows_driver b driver board (leb-false 64 (length b.drivers) fits.room) (driver_after b driver formed board.drivers fits.placed)
draft_more past (statements.Call c) sound fits formed board =
    call_kept past c (writer_of past) refl board fits.turn fits.there fits.owner fits.run fits.room
draft_more past (statements.Picks picks) sound fits formed board = picks_kept (writer_of past) (draft_of past) picks board fits.there fits.room

pub draft_is_board : (past : List Statement) → IsSound past → IsBoard (draft_of past)
draft_is_board [] sound = first_draft
draft_is_board (s ∷ past) sound = draft_more past s sound.0 (fits_after past s sound.2) sound.1 (draft_is_board past sound.0)

-- ---- text lines without a fault make statements without one

neither : (a b : Option FaultKind) → or_else a b ≡ None → (a ≡ None) × (b ≡ None)
neither (Some kind) b h = absurd cc
neither None b h = (refl, h)

no_fault_or : (at : ℕ) (kind : Option FaultKind) (later : Option BoardFault) → fault_or at kind later ≡ None → (kind ≡ None) × (later ≡ None)
no_fault_or at (Some kind) later h = absurd cc
no_fault_or at None later h = (refl, h)

after_test : (t : Bool) (kind : FaultKind) (rest : Option FaultKind) → cond t (Some kind) rest ≡ None → rest ≡ None
after_test true kind rest h = absurd cc
after_test false kind rest h = h

sound_statement : (past : List Statement) (words : List (List ℕ)) → IsSound past → fault_of_statement past words ≡ None → IsSound (statement_of words ∷ past)
sound_statement past words sound h =
    let both = neither (fault_of_words (board_of past).version words) (fault_after past (statement_of words))
    (after_test (is_empty past && not (begins_with_board words)) faults.NoHeader _ h) in
    (sound, statement_is_well_formed (board_of past).version words both.0, both.1)

by_words : (t : Bool) (past : List Statement) (words : List (List ℕ)) → IsSound past
    → cond t None (fault_of_statement past words) ≡ None → IsSound (cond t past (statement_of words ∷ past))
by_words true past words sound h = sound
by_words false past words sound h = sound_statement past words sound h

sound_line : (past : List Statement) (line : List ℕ) → IsSound past → fault_of_line past line ≡ None → IsSound (with_line past line)
sound_line past line sound h = by_words (is_empty (words_of line)) past (words_of line) sound (after_test (has_bad_byte line) faults.BadByte _ h)

pub sound_lines : (at : ℕ) (past : List Statement) (lines : List (List ℕ)) → IsSound past → first_fault at past lines ≡ None → IsSound (with_lines past lines)
sound_lines at past [] sound h = sound
sound_lines at past (line ∷ lines) sound h =
    let both = no_fault_or at (fault_of_line past line) (first_fault (at + 1) (with_line past line) lines) h in
    sound_lines (at + 1) (with_line past line) lines (sound_line past line sound both.0) both.1

-- ---- the board of a text

-- what a text with a board is
pub record IsTextOf (lines : List (List ℕ)) (b : BoardSeen) : Type 0 where
  pub sound : IsSound (with_lines [] lines)
  pub states : b ≡ board_of (with_lines [] lines)
  pub entries : b.log * length b.lines ≤ 4000000

stated : (large : Bool) (a b : BoardSeen) (x : BoardFault) → cond large (Err x) (Ok a) ≡ Ok b → (large ≡ false) × (a ≡ b)
stated true a b x h = absurd cc
stated false a b x h = (refl, (let same : a ≡ b = cc in same))

no_fault_of : (t : Bool) (rest : Option BoardFault) (x : BoardFault) → cond t rest (Some x) ≡ None → rest ≡ None
no_fault_of true rest x h = h
no_fault_of false rest x h = absurd cc

unless : (lines : List (List ℕ)) (fault : Option BoardFault) (b : BoardSeen) → fault_of_lines lines ≡ fault
    → board_unless fault (with_lines [] lines) ≡ Ok b → IsTextOf lines b
unless lines (Some fault) b is h = absurd cc
unless lines None b is h =
    let past = with_lines [] lines in
    let at_end = board_of past in
    let parts = stated (nat_lt 4000000 (at_end.log * length at_end.lines)) at_end b (whole faults.LogTooLarge) h in
    record {
      sound = sound_lines 1 [] lines tt (no_fault_of (list_any has_words lines) (first_fault 1 [] lines) _ is);
      states = sym parts.1;
      entries = subst (λ (c : BoardSeen). c.log * length c.lines ≤ 4000000) parts.1 (ltb-false 4000000 (at_end.log * length at_end.lines) parts.0);
    }

within_limit : (t : Bool) (x : BoardFault) (rest : Result BoardSeen BoardFault) (b : BoardSeen) → cond t (Err x) rest ≡ Ok b → rest ≡ Ok b
within_limit true x rest b h = absurd cc
within_limit false x rest b h = h

pub text_states : (bytes : List ℕ) (b : BoardSeen) → board_of_text bytes ≡ Ok b → IsTextOf (text_lines bytes) b
text_states bytes b h =
    unless (text_lines bytes) (fault_of_lines (text_lines bytes)) b refl (within_limit (nat_lt longest_text (length bytes)) (whole faults.TooLong) _ b h)

pub text_is_board : (bytes : List ℕ) (b : BoardSeen) → board_of_text bytes ≡ Ok b → IsBoard b
text_is_board bytes b h =
    let text = text_states bytes b h in
    let past = with_lines [] (text_lines bytes) in
    let entries = subst (λ (c : BoardSeen). c.log * length c.lines ≤ 4000000) text.states text.entries in
    subst IsBoard (sym text.states) (log_kept (board_of past) (draft_is_board past text.sound) (log_range past text.sound) entries)
