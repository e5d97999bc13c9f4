-- What the list keeps.
use Rattle.std.specs.Prelude.{◌+◌, ◌-◌, ◌<◌, ◌≤◌, ◌^◌, length, take}
use Rattle.act_list.specs.Lists.{ActListSeen}
use Rattle.act_list.specs.Stamps.{stamped, AreStamps, AreBegun}
use Rattle.act_list.specs.declared.list.ActList.TheInside.{Inside}

abbrev pub seen : Inside → ActListSeen
seen a = record {
  list = record {
    actions = a.actions.actions;
    begun = stamped (a.rounds + 1) a.stamps;
    rounds = a.rounds;
  };
  spare = a.actions.spare;
}

-- the stamps are of rounds so far, and all actions before the hint have begun
pub record IsKept (a : Inside) : Type 0 where
  pub few : a.rounds < 2 ^ 32 - 1
  pub stamps : AreStamps (a.rounds + 1) a.stamps
  pub within : a.hint ≤ length a.actions.actions
  pub begun : AreBegun (stamped (a.rounds + 1) a.stamps) (take a.hint a.actions.actions)
