-- A table of the moments at which a line is masked.
use Rattle.std.specs.Prelude.{◌≡◌, ℕ, ◌+◌, ◌≤◌, Bool, false, List, length, drop, slice_index_or}
use Rattle.irq_base.specs.declared.lines.LineDef.{LineDef}
use Rattle.irq_base.specs.declared.entries.Entry.{Entry}
use Rattle.irq_model.specs.Masks.{is_masked}

-- item k says whether the line is masked after `past` from place k on; the item past the last entry
-- stands for the beginning
pub record IsMaskTable (def : LineDef) (past : List Entry) (masked : List Bool) : Type 0 where
  pub full : length masked ≡ length past + 1
  pub each : (i : ℕ) → i ≤ length past → slice_index_or masked i false ≡ is_masked def (drop i past)
