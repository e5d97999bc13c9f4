-- What the reader keeps of the statements so far, the newest first.
use Rattle.std.specs.Prelude.{◌≡◌, ℕ, Bool, false, not, List, [], ◌∷◌, ◌++◌}
use Rattle.std.specs.List.{list_any}
use Rattle.board_def.specs.Seen.{BoardSeen}
use Rattle.board_def.specs.declared.rows.RunCall.{RunCall}
use Rattle.board_def.specs.declared.rows.ScriptCall.{ScriptCall}
use Rattle.board_words.specs.declared.statements.CallWords.{CallWords}
use Rattle.board_words.specs.declared.statements.Statement.{Statement}
use Rattle.board_words.specs.declared.statements.Statement.TheVariants as statements
use Rattle.board_stated.specs.FaultsAfter.{is_empty}
use Rattle.board_stated.specs.Sections.{section_reached, writer_of, turn_reached, is_header}
use Rattle.board_stated.specs.Sections.{is_cpus, is_spurious, is_log}
use Rattle.board_stated.specs.Sound.{IsSound, IsWellFormed, draft_of}
use Rattle.board_stated.specs.Stated.{board_of, with_statement}
use Rattle.board_stated.specs.declared.writers.Writer.{Writer}
use Rattle.board_text.specs.Owned.{Owns}
use Rattle.board_text.specs.declared.reader.Reader.{Reader}
use Rattle.board_text.specs.declared.sections.Section.{Section}
use Rattle.board_text.specs.declared.sections.Section.TheVariants as sections
use Rattle.board_text.specs.declared.stood.Stood.{Stood}

-- the place of a section
abbrev pub place_of : Section → ℕ
place_of sections.Header = 0
place_of sections.Settings = 1
place_of sections.Domains = 2
place_of sections.Lines = 3
place_of sections.Devices = 4
place_of sections.Runs = 5
place_of sections.Scripts = 6
place_of sections.Picks = 7

-- which statements have stood
abbrev pub stood_after : List Statement → Stood
stood_after past = record {
  begun = not (is_empty past);
  header = list_any is_header past;
  cpus = list_any is_cpus past;
  spurious = list_any is_spurious past;
  log = list_any is_log past;
}

-- a header or a setting that stood before
abbrev pub is_setting_again : List Statement → Statement → Bool
is_setting_again past (statements.Board version) = list_any is_header past
is_setting_again past (statements.Cpus cpus) = list_any is_cpus past
is_setting_again past (statements.Spurious window limit) = list_any is_spurious past
is_setting_again past (statements.Log log) = list_any is_log past
is_setting_again past _ = false

-- the board with what the statement adds, but for a log limit
abbrev pub drafted : Writer → Statement → BoardSeen → BoardSeen
drafted writer s b = record (with_statement writer s b) { log = b.log }

-- the board with one call more of the drivers' scripts, or of the runs'

abbrev pub with_driver_call : ScriptCall → BoardSeen → BoardSeen
with_driver_call call b = record b { calls = b.calls ++ call ∷ [] }

abbrev pub with_run_call : RunCall → BoardSeen → BoardSeen
with_run_call call b = record b { runs = b.runs ++ call ∷ [] }

abbrev pub log_after : ℕ → Statement → ℕ
log_after log (statements.Log new) = new
log_after log _ = log

-- the statement is no call
abbrev pub IsNoCall : Statement → Type 0
IsNoCall s = (c : CallWords) → s ≡ statements.Call c → ⊥

-- the reader's fields are what the statements so far come to
pub record Agrees (past : List Statement) (r : Reader) : Type 0 where
  pub board : r.board ≡ draft_of past
  pub log : r.log ≡ (board_of past).log
  pub section : place_of r.section ≡ section_reached past
  pub writer : r.writer ≡ writer_of past
  pub turn : r.turn ≡ turn_reached past
  pub stood : r.stood ≡ stood_after past
  pub owners : Owns r.owners (board_of past).calls

-- the reader's fields agree with the statements so far, and none of these has a fault
pub record Keeps (past : List Statement) (r : Reader) : Type 0 where
  pub agrees : Agrees past r
  pub sound : IsSound past

-- the reader keeps some statements
pub record IsKept (r : Reader) : Type 0 where
  pub past : List Statement
  pub keeps : Keeps past r

-- the reader keeps some statements, and the next statement has no fault after them
pub record IsNext (r : Reader) (s : Statement) : Type 0 where
  pub past : List Statement
  pub agrees : Agrees past r
  pub sound : IsSound (s ∷ past)

-- the reader keeps some statements, and the numbers and names of the next one are right
pub record IsTold (r : Reader) (s : Statement) : Type 0 where
  pub past : List Statement
  pub keeps : Keeps past r
  pub formed : IsWellFormed s
