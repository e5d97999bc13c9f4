use Rattle.std.proofs.Common.{◌≡◌, ◌<◌, ◌++◌, ℕ, drop, get_or}
use Rattle.state_search.specs.Packed.{IsSmall, packed}
use Rattle.state_search.proofs.packing.pack.Given as goal

abbrev pub invariant-loop-i : goal.invariant-loop-i
invariant-loop-i l = record {
  packed : l.bytes.items ++ packed (drop l.i l.words) ≡ packed l.words;
  small : (k d : ℕ) → k < l.i → IsSmall (get_or l.words k d);
}
