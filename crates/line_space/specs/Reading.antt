-- A state into which numbers were read.
use Rattle.std.specs.Prelude.{◌≡◌, ℕ, true, List}
use Rattle.irq_base.specs.declared.entries.Entry.{Entry}
use Rattle.irq_base.specs.declared.lines.LineDef.{LineDef}
use Rattle.irq_base.specs.declared.numbers.DriverNo.{DriverNo}
use Rattle.irq_model.specs.Legal.{IsLegalPast}
use Rattle.line_futures.specs.Canon.{canon}
use Rattle.line_marks.specs.Scripts.{IsAt}
use Rattle.line_marks.specs.State.{state_of}
use Rattle.run_scripts.specs.Runs.{AreRunsOf}
use Rattle.line_scripts.specs.Rows.{place_of, within_of}
use Rattle.line_state.specs.Seen.{runs_seen}
use Rattle.line_words.specs.Again.{unbitted}
use Rattle.line_words.specs.Node.{node}
use Rattle.line_words.specs.Scripts.{AreScripts}
use Rattle.line_words.specs.Tables.{HasTables}
use Rattle.line_space.specs.declared.scratch.Scratch.{Scratch}

-- numbers of the line can be read into it
pub record IsKept (def : LineDef) (s : Scratch) : Type 0 where
  pub tables : HasTables def s.state.state
  pub runs : AreRunsOf def (runs_seen s.state)
  pub scripts : AreScripts def s.scripts

-- these numbers were read: for each past that has them it is the canonical state, and the drivers
-- are at their places
pub record IsRead (def : LineDef) (ws : List ℕ) (s : Scratch) : Type 0 where
  pub kept : IsKept def s
  pub state : (past : List Entry) → IsLegalPast def past → ws ≡ node def past
      → unbitted s.state.state ≡ canon (state_of def past)
  pub active : s.state.state.active ≡ true
  pub places : (past : List Entry) → IsLegalPast def past → ws ≡ node def past → (r : DriverNo)
      → IsAt def past r (place_of s.scripts r) (within_of s.scripts r)
