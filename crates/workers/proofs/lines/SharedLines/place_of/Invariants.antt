use Rattle.workers.proofs.Searching.{ArePassed}
use Rattle.workers.proofs.lines.SharedLines.place_of.Given as goal

abbrev pub invariant-loop-place : goal.invariant-loop-place
invariant-loop-place g l = ArePassed l.self-inside.lines.items l.number l.place
