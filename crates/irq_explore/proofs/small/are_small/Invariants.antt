use Rattle.std.proofs.Common.{All, take}
use Rattle.log_text.specs.Formed.{HasSmallNumbers}
use Rattle.irq_explore.proofs.small.are_small.Given as goal

abbrev pub invariant-loop-i : goal.invariant-loop-i
invariant-loop-i l = record { small : All HasSmallNumbers (take l.i l.entries) }
