use Rattle.std.proofs.Common.{◌≡◌, ℕ, ◌<◌, length, get_or, drop, false}
use Rattle.irq_model.specs.Masks.{is_masked}
use Rattle.plain_next.proofs.edges.mask_table.Given as goal

abbrev pub invariant-loop-i : goal.invariant-loop-i
invariant-loop-i l = record {
  full : length l.masked.items ≡ l.i;
  each : (k : ℕ) → k < l.i → get_or l.masked.items k false ≡ is_masked l.def (drop k l.past);
}
