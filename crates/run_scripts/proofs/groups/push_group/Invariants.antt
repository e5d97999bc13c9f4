use Rattle.std.proofs.Common.{◌≡◌, ◌++◌, take}
use Rattle.run_scripts.specs.Groups.{group_in}
use Rattle.run_scripts.proofs.groups.push_group.Given as goal

abbrev pub invariant-loop-i : goal.invariant-loop-i
invariant-loop-i g l = l.items.items ≡ l.fn.items.items ++ group_in (take l.i l.list) l.dev l.part
