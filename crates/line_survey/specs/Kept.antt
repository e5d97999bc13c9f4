-- What a search through the states of a line keeps, and what states are read into.
use Rattle.std.specs.Prelude.{◌≡◌, ◌≤◌, Bool, map, length}
use Rattle.irq_base.specs.contracts.entries.EntryPartialEq.TheImpl as entry_eq
use Rattle.irq_base.specs.declared.entries.Entry.{Entry}
use Rattle.irq_base.specs.declared.lines.LineDef.{LineDef}
use Rattle.irq_model.specs.Legal.{IsDue}
use Rattle.irq_model.specs.Valid.{IsValid}
use Rattle.irq_model.specs.ValidRuns.{HasValidRuns}
use Rattle.run_scripts.specs.Runs.{AreRunsOf}
use Rattle.line_state.specs.Seen.{runs_seen}
use Rattle.line_words.specs.Words.{has_more}
use Rattle.line_words.specs.Node.{node, drivers_in}
use Rattle.state_search.specs.Firsts.{AreFirsts}
use Rattle.state_search.specs.Paths.{Searches, AreCounted, LeavesOut}
use Rattle.state_search.specs.Seen.{SearchSeen, cut_of}
use Rattle.line_words.specs.Scripts.{AreScripts}
use Rattle.line_words.specs.Tables.{HasTables}
use Rattle.line_survey.specs.declared.reader.Reader.{Reader}
use Rattle.line_survey.specs.declared.searching.LineSearch.TheInside.{Inside}

-- the entries are equal
abbrev pub same_entry : Entry → Entry → Bool
same_entry = (entry_eq.eq-value).it

-- what was found is what there is of the line: the paths are its legal pasts, one to each state;
-- the numbers, the entries that are due, and how many they are, are right
pub record IsOfLine (def : LineDef) (s : SearchSeen Entry) : Type 0 where
  pub searches : Searches (IsDue def) (node def) s.paths s.looked (cut_of s)
  pub states : s.states ≡ map (node def) s.paths
  pub firsts : AreFirsts same_entry (IsDue def) s.paths (cut_of s) s.firsts
  pub counted : length s.counts ≡ s.looked
  pub counts : AreCounted (IsDue def) s.paths s.counts
  pub left_out : LeavesOut (IsDue def) (node def) s.paths s.looked
  pub few : length s.paths ≤ 100000000

-- the definition and its runs are valid
pub record IsValidLine (def : LineDef) : Type 0 where
  pub valid : IsValid def
  pub runs : HasValidRuns def

pub record IsSearch (s : Inside) : Type 0 where
  pub valid : IsValid s.def
  pub valid_runs : HasValidRuns s.def
  pub line : IsOfLine s.def s.searched

-- numbers of the line can be read into it
pub record IsReader (def : LineDef) (r : Reader) : Type 0 where
  pub more : r.more ≡ has_more def
  pub drivers : r.drivers.items ≡ drivers_in def.calls
  pub tables : HasTables def r.state.state
  pub runs : AreRunsOf def (runs_seen r.state)
  pub scripts : AreScripts def r.scripts
