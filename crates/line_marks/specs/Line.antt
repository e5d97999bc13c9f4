-- What holds of a line at every moment.
use Rattle.std.specs.Prelude.{◌≡◌, ◌≤◌, List, length, reverse}
use Rattle.irq_base.specs.declared.entries.Entry.{Entry}
use Rattle.irq_base.specs.declared.lines.LineDef.{LineDef}
use Rattle.irq_base.specs.declared.numbers.DriverNo.{DriverNo}
use Rattle.irq_model.specs.Due.{calls_by}
use Rattle.irq_model.specs.Legal.{IsLegal}
use Rattle.irq_model.specs.Valid.{IsValid}
use Rattle.irq_model.specs.ValidRuns.{HasValidRuns}
use Rattle.line_scripts.specs.Rows.{RowSeen, calls_of, place_of, within_of}
use Rattle.run_scripts.specs.Runs.{RunsSeen, AreRunsOf}
use Rattle.line_marks.specs.Scripts.{IsAt}
use Rattle.line_marks.specs.State.{StateSeen, state_of}

-- the definition and its runs are valid; the history is legal and not too long, and the state, the
-- drivers' places and those of the runs are the history's
pub record IsLine (def : LineDef) (entries : List Entry) (s : StateSeen)
    (scripts : List (DriverNo × RowSeen)) (runs : RunsSeen) : Type 0 where
  pub valid : IsValid def
  pub valid_runs : HasValidRuns def
  pub legal : IsLegal def entries
  pub state : s ≡ state_of def (reverse entries)
  pub calls : (r : DriverNo) → calls_of scripts r ≡ calls_by r def.calls
  pub at : (r : DriverNo) → IsAt def (reverse entries) r (place_of scripts r) (within_of scripts r)
  pub scripted : AreRunsOf def runs
  pub places : runs.places ≡ s.places
  pub room : length entries ≤ def.log
