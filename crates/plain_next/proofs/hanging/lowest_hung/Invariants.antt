use Rattle.std.proofs.Common.{take}
use Rattle.plain_next.specs.Hanging.{all_in_way}
use Rattle.plain_next.proofs.LowestHung.{IsLowestOf}
use Rattle.plain_next.proofs.hanging.lowest_hung.Given as goal

abbrev pub invariant-loop-actor : goal.invariant-loop-actor
invariant-loop-actor l = IsLowestOf l.def l.past (take l.actor-index (all_in_way l.def l.past)) l.lowest
