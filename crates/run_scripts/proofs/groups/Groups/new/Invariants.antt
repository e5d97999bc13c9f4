use Rattle.std.proofs.Common.{◌≡◌, take}
use Rattle.run_scripts.proofs.Laying.{laid_items, laid_spans}
use Rattle.run_scripts.proofs.groups.Groups.new.Given as goal

abbrev pub invariant-loop-i : goal.invariant-loop-i
invariant-loop-i g l = record {
  items : l.items.items ≡ laid_items l.list (take l.i l.devices);
  spans : l.spans ≡ laid_spans l.list 0 (take l.i l.devices);
}
