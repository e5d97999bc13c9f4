use Rattle.std.proofs.Common.{◌≤◌, ◌-◌, length, take}
use Rattle.act_list.specs.Stamps.{stamped, AreBegun}
use Rattle.act_list.proofs.list.place_left.Given as goal

abbrev pub invariant-loop-dev : goal.invariant-loop-dev
invariant-loop-dev l = record {
  within : l.place ≤ length l.actions.actions;
  begun : AreBegun (stamped l.stamp l.stamps) (take l.place l.actions.actions);
}

abbrev pub decreases-loop-dev : goal.decreases-loop-dev
decreases-loop-dev l = length l.actions.actions - l.place
