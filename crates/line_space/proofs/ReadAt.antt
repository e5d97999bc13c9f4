-- What was read of a line, at a past that has those numbers.
use Rattle.std.proofs.Common.{◌≡◌, ◌<◌, ℕ, true, List, length}
use Rattle.irq_base.specs.declared.entries.Entry.{Entry}
use Rattle.irq_base.specs.declared.lines.LineDef.{LineDef}
use Rattle.irq_base.specs.declared.numbers.DriverNo.{DriverNo}
use Rattle.irq_model.specs.Legal.{IsLegalPast}
use Rattle.irq_model.specs.Valid.{IsValid}
use Rattle.irq_model.specs.ValidRuns.{HasValidRuns}
use Rattle.line_futures.specs.Canon.{canon}
use Rattle.line_marks.specs.Scripts.{IsAt}
use Rattle.line_marks.specs.State.{state_of}
use Rattle.line_state.specs.Seen.{LineStateSeen, runs_seen}
use Rattle.run_scripts.specs.Runs.{AreRunsOf}
use Rattle.line_words.specs.Tables.{HasTables}
use Rattle.line_scripts.specs.Rows.{RowSeen, place_of, within_of}
use Rattle.line_words.specs.Again.{unbitted}
use Rattle.line_words.specs.Node.{node}
use Rattle.line_words.specs.Scripts.{AreScripts}
use Rattle.line_space.specs.Reading.{IsRead}
use Rattle.line_space.specs.declared.scratch.Scratch.{Scratch}

-- the state and the scripts that were read are those of this past of the line, which may grow
pub record ReadAt (def : LineDef) (g : List Entry) (l : LineStateSeen) (scripts : List (DriverNo × RowSeen)) : Type 0 where
  pub valid : IsValid def
  pub valid_runs : HasValidRuns def
  pub legal : IsLegalPast def g
  pub few : length g < 100000000
  pub again : unbitted l.state ≡ canon (state_of def g)
  pub active : l.state.active ≡ true
  pub tables : HasTables def l.state
  pub runs : AreRunsOf def (runs_seen l)
  pub are : AreScripts def scripts
  pub places : (r : DriverNo) → IsAt def g r (place_of scripts r) (within_of scripts r)

pub read_at : {def : LineDef} {ws : List ℕ} {scratch : Scratch} {g : List Entry} → IsValid def → HasValidRuns def
    → IsRead def ws scratch → IsLegalPast def g → ws ≡ node def g → length g < 100000000 → ReadAt def g scratch.state scratch.scripts
read_at {def} {ws} {scratch} {g} valid runs read legal same few =
    record {
      valid = valid;
      valid_runs = runs;
      legal = legal;
      few = few;
      again = read.state g legal same;
      active = read.active;
      tables = read.kept.tables;
      runs = read.kept.runs;
      are = read.kept.scripts;
      places = read.places g legal same;
    }
