-- Statements of which none says anything new state a board whose lines have no row of version 3.
use Rattle.std.proofs.Common.{◌≡◌, ◌==◌, Bool, true, false, not, ◌&&◌, List, [], ◌∷◌, ◌++◌, map, filter, All, refl, sym, ap, subst, ◌∙◌}
use Rattle.std.specs.List.{list_any}
use Rattle.std.proofs.lemmas.List.Elements.{All-nil, All-cons, All-append, All-filter, All-map}
use Rattle.irq_base.specs.declared.calls.Call.{Call}
use Rattle.irq_base.specs.declared.devices.DeviceDef.{DeviceDef}
use Rattle.irq_base.specs.declared.numbers.DriverNo.{DriverNo}
use Rattle.board_def.specs.LineOf.{line_of_row, with_driver}
use Rattle.board_def.specs.Runs.{of_run, of_told}
use Rattle.board_def.specs.Seen.{BoardSeen}
use Rattle.board_def.specs.declared.rows.LineRow.{LineRow}
use Rattle.board_def.specs.declared.rows.RunCall.{RunCall}
use Rattle.board_def.specs.declared.rows.ScriptCall.{ScriptCall}
use Rattle.board_def.specs.declared.rows.ToldRow.{ToldRow}
use Rattle.board_words.specs.Versions.{has_runs}
use Rattle.board_words.specs.declared.statements.CallWords.{CallWords}
use Rattle.board_words.specs.declared.statements.Statement.{Statement}
use Rattle.board_words.specs.declared.statements.Statement.TheVariants as statements
use Rattle.board_stated.specs.Sections.{is_header, writer_of}
use Rattle.board_stated.specs.Stated.{board_of, call_of_words, device_of_words, script_call, with_call}
use Rattle.board_stated.specs.declared.writers.Writer.{Writer}
use Rattle.board_stated.specs.declared.writers.Writer.TheVariants as writers
use Rattle.board_stated.specs.OfVersion.{HasOldRows, IsOfItsVersion, has_old_row, is_told_kind}
use Rattle.board_stated.proofs.OldWords.{is_old}

-- a run's script is written
abbrev writes_run : Writer → Bool
writes_run (writers.Runs dev part) = true
writes_run _ = false

-- the rows of such a board
pub record IsOldBoard (b : BoardSeen) (whose : Writer) : Type 0 where
  pub runs : b.runs ≡ []
  pub told : b.told ≡ []
  pub calls : All (λ (c : ScriptCall). has_old_row c.call ≡ true) b.calls
  pub kinds : All (λ (x : DeviceDef). is_told_kind x.kind ≡ false) b.devices
  pub held : All (λ (x : DeviceDef). x.held ≡ false) b.devices
  pub whose_is : writes_run whose ≡ false

-- each statement was read by the version of those before it; only the first is a header
pub record ReadsOn (past : List Statement) (s : Statement) : Type 0 where
  pub old : has_runs (board_of past).version ≡ false → is_old s ≡ true
  pub once : is_header s ≡ true → list_any is_header past ≡ false
  pub headed : list_any is_header (s ∷ past) ≡ true

abbrev pub AreRead : List Statement → Type 0
AreRead [] = Unit {0}
AreRead (s ∷ past) = AreRead past × ReadsOn past s

one : {A : Type 0} (P : A → Type 0) (x : A) → P x → All P (x ∷ [])
one P x h = All-cons P x [] h (All-nil P)

none_before : (past : List Statement) → AreRead past → list_any is_header past ≡ false → past ≡ []
none_before [] read h = refl
none_before (s ∷ past) read h = absurd (let no : true ≡ false = sym read.1.headed ∙ h in cc)

plain_parts : (told held : Bool) → (not told && not held) ≡ true → (told ≡ false) × (held ≡ false)
plain_parts false false h = (refl, refl)
plain_parts true held h = absurd cc
plain_parts false true h = absurd cc

one_call : (whose : Writer) (c : CallWords) (b : BoardSeen) → has_old_row (call_of_words c) ≡ true → IsOldBoard b whose → writes_run whose ≡ false
    → IsOldBoard (record b { calls = b.calls ++ script_call b c ∷ [] }) whose
one_call whose c b old h off = record {
  runs = h.runs;
  told = h.told;
  calls = All-append (λ (x : ScriptCall). has_old_row x.call ≡ true) b.calls (script_call b c ∷ []) h.calls
      (one (λ (x : ScriptCall). has_old_row x.call ≡ true) (script_call b c) old);
  kinds = h.kinds;
  held = h.held;
  whose_is = off;
}

call_more : (whose : Writer) (c : CallWords) (b : BoardSeen) → has_old_row (call_of_words c) ≡ true → IsOldBoard b whose
    → IsOldBoard (with_call whose c b) whose
call_more (writers.Runs dev part) c b old h = absurd (let no : true ≡ false = h.whose_is in cc)
call_more writers.Nobody c b old h = one_call writers.Nobody c b old h refl
call_more writers.Driver c b old h = one_call writers.Driver c b old h refl

version_of_call : (whose : Writer) (c : CallWords) (b : BoardSeen) → (with_call whose c b).version ≡ b.version
version_of_call writers.Nobody c b = refl
version_of_call writers.Driver c b = refl
version_of_call (writers.Runs dev part) c b = refl

-- the first statement makes a board with nothing in it
first : (past : List Statement) (version : _) → past ≡ []
    → IsOldBoard (board_of (statements.Board version ∷ past)) (writer_of (statements.Board version ∷ past))
first past version e = subst (λ (p : List Statement). IsOldBoard (board_of (statements.Board version ∷ p)) (writer_of (statements.Board version ∷ p))) (sym e)
    (record { runs = refl; told = refl; calls = All-nil _; kinds = All-nil _; held = All-nil _; whose_is = refl })

nobody : (b : BoardSeen) (whose : Writer) → IsOldBoard b whose → IsOldBoard b writers.Nobody
nobody b whose h = record { runs = h.runs; told = h.told; calls = h.calls; kinds = h.kinds; held = h.held; whose_is = refl }

old_more : (past : List Statement) (s : Statement) → AreRead past → ReadsOn past s
    → (has_runs (board_of past).version ≡ false → IsOldBoard (board_of past) (writer_of past))
    → has_runs (board_of (s ∷ past)).version ≡ false → IsOldBoard (board_of (s ∷ past)) (writer_of (s ∷ past))
old_more past (statements.Board version) read on before early = first past version (none_before past read (on.once refl))
old_more past (statements.Cpus cpus) read on before early =
    let h = before early in record { runs = h.runs; told = h.told; calls = h.calls; kinds = h.kinds; held = h.held; whose_is = refl }
old_more past (statements.Spurious window limit) read on before early =
    let h = before early in record { runs = h.runs; told = h.told; calls = h.calls; kinds = h.kinds; held = h.held; whose_is = refl }
old_more past (statements.Log log) read on before early =
    let h = before early in record { runs = h.runs; told = h.told; calls = h.calls; kinds = h.kinds; held = h.held; whose_is = refl }
old_more past (statements.Domain d) read on before early =
    let h = before early in record { runs = h.runs; told = h.told; calls = h.calls; kinds = h.kinds; held = h.held; whose_is = refl }
old_more past (statements.Line l) read on before early =
    let h = before early in record { runs = h.runs; told = h.told; calls = h.calls; kinds = h.kinds; held = h.held; whose_is = refl }
old_more past (statements.Device d) read on before early =
    let h = before early in
    let plain = plain_parts (is_told_kind d.kind) d.held (on.old early) in
    let x : DeviceDef = device_of_words d in
    record {
      runs = h.runs;
      told = h.told;
      calls = h.calls;
      kinds = All-append (λ (y : DeviceDef). is_told_kind y.kind ≡ false) (board_of past).devices (x ∷ []) h.kinds
          (one (λ (y : DeviceDef). is_told_kind y.kind ≡ false) x plain.0);
      held = All-append (λ (y : DeviceDef). y.held ≡ false) (board_of past).devices (x ∷ []) h.held (one (λ (y : DeviceDef). y.held ≡ false) x plain.1);
      whose_is = refl;
    }
old_more past (statements.Answers dev part answers) read on before early = absurd (let no : false ≡ true = on.old early in cc)
old_more past (statements.Runs dev part) read on before early = absurd (let no : false ≡ true = on.old early in cc)
old_more past (statements.Driver driver) read on before early =
    let h = before early in record { runs = h.runs; told = h.told; calls = h.calls; kinds = h.kinds; held = h.held; whose_is = refl }
old_more past (statements.Call c) read on before early =
    let then = sym (ap has_runs (version_of_call (writer_of past) c (board_of past))) ∙ early in
    call_more (writer_of past) c (board_of past) (on.old then) (before then)
old_more past (statements.Picks picks) read on before early =
    let h = before early in record { runs = h.runs; told = h.told; calls = h.calls; kinds = h.kinds; held = h.held; whose_is = refl }

old_board : (past : List Statement) → AreRead past → has_runs (board_of past).version ≡ false → IsOldBoard (board_of past) (writer_of past)
old_board [] read early = record { runs = refl; told = refl; calls = All-nil _; kinds = All-nil _; held = All-nil _; whose_is = refl }
old_board (s ∷ past) read early = old_more past s read.0 read.1 (old_board past read.0) early

-- ---- its lines

old_line : (b : BoardSeen) (whose : Writer) → IsOldBoard b whose → (row : LineRow) → HasOldRows (line_of_row b row)
old_line b whose h row =
    let own : ScriptCall → Bool = λ c. c.line.0 == row.line.0 in
    let device : DeviceDef → Bool = λ x. x.line.0 == row.line.0 in
    record {
      runs = ap (λ (rs : List RunCall). map of_run (filter (λ (r : RunCall). r.line.0 == row.line.0) rs)) h.runs;
      told = ap (λ (rs : List ToldRow). map of_told (filter (λ (r : ToldRow). r.line.0 == row.line.0) rs)) h.told;
      calls = All-map (λ (c : DriverNo × Call). has_old_row c.1 ≡ true) with_driver (filter own b.calls)
          (All-filter own (λ (c : ScriptCall). has_old_row c.call ≡ true) b.calls h.calls);
      kinds = All-filter device (λ (x : DeviceDef). is_told_kind x.kind ≡ false) b.devices h.kinds;
      held = All-filter device (λ (x : DeviceDef). x.held ≡ false) b.devices h.held;
    }

old_lines : (b : BoardSeen) (whose : Writer) → IsOldBoard b whose → (rows : List LineRow) → All HasOldRows (map (line_of_row b) rows)
old_lines b whose h [] = All-nil HasOldRows
old_lines b whose h (row ∷ rows) = All-cons HasOldRows (line_of_row b row) (map (line_of_row b) rows) (old_line b whose h row) (old_lines b whose h rows)

pub is_of_its_version : (past : List Statement) → AreRead past → IsOfItsVersion (board_of past)
is_of_its_version past read early = old_lines (board_of past) (writer_of past) (old_board past read early) (board_of past).lines
