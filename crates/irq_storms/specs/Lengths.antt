-- How long a legal history of a line can be, whatever its trigger.
use Rattle.std.specs.Prelude.{◌≡◌, ℕ, true, if◌then◌else◌, []}
use Rattle.irq_base.specs.declared.lines.LineDef.{LineDef}
use Rattle.irq_model.specs.Lines.{is_edge_line, is_level_line}
use Rattle.irq_model.specs.RunBounds.{run_edge_bound, run_level_bound, EnablesOnlyItsOwn}

-- where neither runs make calls nor devices are told what to answer, it is that of Bounds
abbrev pub history_bound : LineDef → ℕ
history_bound def = if is_edge_line def then run_edge_bound def else run_level_bound def

-- the line has a longest history: an edge line, since a round takes an edge that a device made; a
-- level line, if no run opens it again that was killed
abbrev pub IsBounded : LineDef → Type 0
IsBounded def = is_level_line def ≡ true → EnablesOnlyItsOwn def

-- no run makes a call, and no device is told what to answer
pub record HasPlainRuns (def : LineDef) : Type 0 where
  pub runs : def.runs ≡ []
  pub told : def.told ≡ []
