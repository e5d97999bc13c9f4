use Rattle.std.proofs.Common.{◌≡◌, ◌+◌, ◌≤◌, drop}
use Rattle.domain_rules.specs.Layout.{count_of_mapped}
use Rattle.irq_chained.proofs.fits.count_mapped.Given as goal

abbrev pub invariant-loop-i : goal.invariant-loop-i
invariant-loop-i l = record {
  so_far : l.count + count_of_mapped (drop l.i l.layout) ≡ count_of_mapped l.layout;
  most : l.count ≤ l.i;
}
