-- The affinity of a line and what its chip is aimed at, read off its past, and what an entry makes
-- of them.
use Rattle.std.specs.Prelude.{ℕ, Option, Some, None, List, [], ◌∷◌}
use Rattle.irq_base.specs.declared.entries.AffinityAnswer.TheVariants as moves
use Rattle.irq_base.specs.declared.entries.Entry.{Entry}
use Rattle.irq_base.specs.declared.entries.Entry.TheVariants as by
use Rattle.irq_base.specs.declared.entries.CpuEntry.TheVariants as cpus
use Rattle.irq_base.specs.declared.entries.DriverEntry.TheVariants as drivers
use Rattle.irq_base.specs.declared.lines.LineDef.{LineDef}
use Rattle.irq_base.specs.declared.numbers.CpuNo.{CpuNo}
use Rattle.irq_model.specs.Signal.{mask_in_force, target, lowest_in}
use Rattle.affinity.specs.Seen.{AimSeen, after_set, after_move}

-- a mask that waits for the next take: of the last change that was answered Later, if no take and
-- no other change came since
abbrev pub waiting_of : List Entry → Option ℕ
waiting_of [] = None
waiting_of (by.Driver driver (drivers.Affinity moves.Later mask) ∷ past) = Some mask
waiting_of (by.Driver driver (drivers.Affinity moves.Now mask) ∷ past) = None
waiting_of (by.Cpu cpu (cpus.Take way answer) ∷ past) = None
waiting_of (_ ∷ past) = waiting_of past

-- the mask in force, and a mask that waits
abbrev pub aim_of : LineDef → List Entry → AimSeen
aim_of def past = record {
  cpus = def.cpus;
  later = def.later;
  mask = mask_in_force def past;
  waiting = waiting_of past;
}

-- a change is put in force or waits; a take puts what waits in force (`irq_move_masked_irq`,
-- `kernel/irq/migration.c`)
abbrev pub aim_after : Entry → AimSeen → AimSeen
aim_after (by.Driver driver (drivers.Affinity answer mask)) a = after_set answer mask a
aim_after (by.Cpu cpu (cpus.Take way answer)) a = after_move a
aim_after _ a = a

-- the number of a processor; 0 if there is none
abbrev pub number_of : Option CpuNo → ℕ
number_of None = 0
number_of (Some c) = c.0

-- the chip is aimed at the target
abbrev pub aimed_of : LineDef → List Entry → ℕ
aimed_of def past = number_of (target def past)

-- the processor of an aim
abbrev pub aimed_by : AimSeen → ℕ
aimed_by a = number_of (lowest_in a.cpus a.mask)

-- the processor that the chip is aimed at after the entry; `a` is the aim before it
abbrev pub aimed_after : Entry → AimSeen → ℕ → ℕ
aimed_after (by.Driver driver (drivers.Affinity moves.Now mask)) a n
    = aimed_by (after_set moves.Now mask a)
aimed_after (by.Cpu cpu (cpus.Take way answer)) a n = aimed_by (after_move a)
aimed_after _ a n = n
