use Rattle.std.specs.Prelude.{◌≤◌, ℕ, List, length}
use Rattle.irq_base.specs.declared.entries.Entry.{Entry}
use Rattle.irq_base.specs.declared.lines.LineDef.{LineDef}
use Rattle.irq_model.specs.Legal.{IsLegal}
use Rattle.irq_model.specs.Valid.{IsValid}
use Rattle.irq_model.specs.ValidRuns.{HasValidRuns}

-- What is seen of a line: its definition, its entries, the oldest first, and how many more fit
-- without memory.
pub record LineSeen : Type 0 where
  pub def : LineDef
  pub entries : List Entry
  pub spare : ℕ

-- What holds of every line at every moment.
pub record IsSound (line : LineSeen) : Type 0 where
  pub valid : IsValid line.def
  pub runs : HasValidRuns line.def
  -- each entry was the one that was due of its actor
  pub legal : IsLegal line.def line.entries
  pub log : length line.entries ≤ line.def.log
