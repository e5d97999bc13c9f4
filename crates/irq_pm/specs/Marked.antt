-- The marks of a sleep that has come to its last phase.
use Rattle.std.specs.Prelude.{◌≡◌, IsSome, Option, List, ◌∷◌, ◌++◌}
use Rattle.irq_base.specs.declared.numbers.LineNo.{LineNo}
use Rattle.irq_model.specs.Places.{EachEntry}
use Rattle.irq_pm.specs.Phases.{Phase, Picking, Disabling, Asleep, Enabling, Going}
use Rattle.irq_pm.specs.SleepLog.{told}
use Rattle.irq_pm.specs.declared.entries.SleepEntry.{SleepEntry}
use Rattle.irq_pm.specs.declared.entries.SleepEntry.TheVariants as sleeps

-- each step moves a line, and none is a mark
abbrev pub AreMoves : List SleepEntry → Type 0
AreMoves g = EachEntry (λ e past. IsSome (told e)) g

-- The machine has fallen asleep once, and after that has woken once: the two marks stand in this
-- order, and all other steps move lines. The newest step comes first.
pub record SleptOnce (g : List SleepEntry) : Type 0 where
  pub before : List SleepEntry
  pub asleep : List SleepEntry
  pub line : Option LineNo
  pub awake : List SleepEntry
  pub is : g ≡ awake ++ (sleeps.Wake line ∷ (asleep ++ sleeps.Asleep ∷ before))
  pub moves_before : AreMoves before
  pub moves_asleep : AreMoves asleep
  pub moves_awake : AreMoves awake

-- the machine has woken: lines are enabled, or the board is played on
abbrev pub HasWoken : Phase → Type 0
HasWoken (Picking picks) = ⊥
HasWoken Disabling = ⊥
HasWoken Asleep = ⊥
HasWoken Enabling = Unit {0}
HasWoken Going = Unit {0}
