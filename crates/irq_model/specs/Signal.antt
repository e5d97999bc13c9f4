-- What the line presents to the processors, and which processor takes it (`irq_set_affinity` of
-- `kernel/irq/manage.c`, `irq_move_masked_irq` of `migration.c`).
use Rattle.std.specs.Prelude.{ℕ, suc, zero, ◌+◌, Bool, true, false, not, ◌&&◌, if◌then◌else◌}
use Rattle.std.specs.Prelude.{Option, Some, None, List, ◌∷◌}
use Rattle.std.specs.List.{list_any}
use Rattle.irq_base.specs.declared.numbers.CpuNo.{CpuNo}
use Rattle.irq_base.specs.declared.lines.LineDef.{LineDef}
use Rattle.irq_base.specs.declared.entries.Entry.{Entry}
use Rattle.irq_base.specs.declared.entries.Entry.TheVariants as by
use Rattle.irq_base.specs.declared.entries.DriverEntry.TheVariants as drivers
use Rattle.irq_base.specs.declared.entries.AffinityAnswer.TheVariants as moves
use Rattle.irq_model.specs.Places.{last_place}
use Rattle.irq_model.specs.Kinds.{is_take}
use Rattle.irq_model.specs.Lines.{is_edge_line, is_in_mask, serves}
use Rattle.irq_model.specs.Asks.{is_high}
use Rattle.irq_model.specs.Masks.{is_masked}
use Rattle.irq_model.specs.Rounds.{has_flow}
use Rattle.irq_model.specs.Edges.{is_sent}

-- an edge is sent; or the level is high, the line is open, and no interrupt is in service
abbrev pub signals : LineDef → List Entry → Bool
signals def past =
    if is_edge_line def then is_sent def past
    else (is_high def past && (not (is_masked def past) && not (serves def && has_flow def past)))

-- the newest entry of `upto` put a mask in force: a change that took effect at once, or a change
-- that waited, if a take stands after it
abbrev pub puts_in_force : List Entry → List Entry → Bool
puts_in_force after (by.Driver driver (drivers.Affinity moves.Now mask) ∷ past) = true
puts_in_force after (by.Driver driver (drivers.Affinity moves.Later mask) ∷ past) =
    list_any is_take after
puts_in_force after _ = false

abbrev pub mask_of : ℕ → List Entry → ℕ
mask_of mask (by.Driver driver (drivers.Affinity answer new) ∷ past) = new
mask_of mask _ = mask

-- the mask in force: the last that was put in force, or the line's own
abbrev pub mask_in_force : LineDef → List Entry → ℕ
mask_in_force def past = mask_of def.mask (last_place puts_in_force past)

-- the lowest of the n processors from c on that is in the mask
abbrev pub lowest_from : ℕ → ℕ → ℕ → Option CpuNo
lowest_from mask c zero = None
lowest_from mask c (suc n) =
    if is_in_mask mask c then Some (record { 0 = c }) else lowest_from mask (c + 1) n

-- the lowest of the processors 0 to cpus - 1 that is in the mask
abbrev pub lowest_in : ℕ → ℕ → Option CpuNo
lowest_in cpus mask = lowest_from mask 0 cpus

-- the processor that takes the line's interrupts
abbrev pub target : LineDef → List Entry → Option CpuNo
target def past = lowest_in def.cpus (mask_in_force def past)
