-- What a run's step makes of the rows.
use Rattle.std.proofs.Common.{◌≡◌, Bool, ◌&&◌, cond, Option, Some, None, unwrap_or, List, [], ◌∷◌, refl, ap}
use Rattle.irq_base.specs.declared.calls.Call.{Call}
use Rattle.irq_base.specs.declared.devices.Part.{Part}
use Rattle.irq_base.specs.declared.devices.ToldAnswer.{ToldAnswer}
use Rattle.irq_base.specs.declared.numbers.DevNo.{DevNo}
use Rattle.irq_model.specs.Kinds.{same_dev}
use Rattle.irq_model.specs.Lines.{script_in, told_in, same_part}
use Rattle.device_table.specs.Rows.{at, change, changed}
use Rattle.run_scripts.specs.Groups.{group_in}
use Rattle.run_scripts.specs.Places.{first_row, row_at, placed, advanced, row_advanced}
use Rattle.run_scripts.specs.declared.rows.RunRow.{RunRow}

-- the thread's run goes to the place after its own
pub goes_on : (t : List (DevNo × RunRow)) (d : DevNo) (completes : Bool)
    → change (placed (advanced completes (row_at t d).calls)) t d ≡ change (row_advanced completes) t d
goes_on t d completes = by_row (at t d)
  where
    by_row : (o : Option RunRow)
        → changed (placed (advanced completes (unwrap_or o first_row).calls)) t d o ≡ changed (row_advanced completes) t d o
    by_row None = refl
    by_row (Some r) = refl

-- the calls and the answers of a part are its group
pub script_is : (cs : List (DevNo × Part × Call)) (d : DevNo) (part : Part) → group_in cs d part ≡ script_in cs d part
script_is [] d part = refl
script_is (c ∷ cs) d part = ap (λ xs. cond (same_dev d c.0 && same_part part c.1) (c.2 ∷ xs) xs) (script_is cs d part)

pub told_is : (cs : List (DevNo × Part × ToldAnswer)) (d : DevNo) (part : Part) → group_in cs d part ≡ told_in cs d part
told_is [] d part = refl
told_is (c ∷ cs) d part = ap (λ xs. cond (same_dev d c.0 && same_part part c.1) (c.2 ∷ xs) xs) (told_is cs d part)
