-- No device has asked.
use Rattle.std.proofs.Common.{◌≡◌, ◌≤◌, List, [], ◌∷◌, length, refl, sym, arith}
use Rattle.irq_base.specs.declared.devices.DeviceDef.{DeviceDef}
use Rattle.device_table.specs.Rows.{all_with}
use Rattle.device_table.specs.Sums.{how_many}
use Rattle.ask_counts.specs.Rows.{no_asks, is_waiting, IsCounted}

none_waits : (xs : List DeviceDef) → how_many is_waiting (all_with no_asks xs) ≡ 0
none_waits [] = refl
none_waits (x ∷ xs) = omega (arith, none_waits xs)

as_long : (xs : List DeviceDef) → length (all_with no_asks xs) ≡ length xs
as_long [] = refl
as_long (x ∷ xs) = omega (arith, as_long xs)

pub all_counted : (xs : List DeviceDef) → length xs ≤ 256 → IsCounted (all_with no_asks xs) 0
all_counted xs few = record {
  waiting = sym (none_waits xs);
  few = omega (arith, as_long xs, few);
}
