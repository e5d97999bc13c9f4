-- What an aim keeps.
use Rattle.std.specs.Prelude.{ℕ, ◌≤◌, IsSome, Option, Some, None}
use Rattle.irq_model.specs.Signal.{lowest_in}
use Rattle.affinity.specs.Seen.{AimSeen}
use Rattle.affinity.specs.declared.aim.Aim.TheInside.{Inside}

abbrev pub seen : Inside → AimSeen
seen a = record { cpus = a.cpus; later = a.later; mask = a.mask; waiting = a.waiting }

abbrev pub HasProcessor : ℕ → Option ℕ → Type 0
HasProcessor cpus None = Unit {0}
HasProcessor cpus (Some mask) = IsSome (lowest_in cpus mask)

-- each mask has a processor of the machine, which has at most 32
pub record IsAimed (a : Inside) : Type 0 where
  pub few : a.cpus ≤ 32
  pub some : IsSome (lowest_in a.cpus a.mask)
  pub waits : HasProcessor a.cpus a.waiting
