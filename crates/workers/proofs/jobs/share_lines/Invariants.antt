use Rattle.std.proofs.Common.{map}
use Rattle.workers.proofs.Sharing.{AreShared}
use Rattle.workers.proofs.jobs.share_lines.Given as goal

abbrev pub invariant-loop-line : goal.invariant-loop-line
invariant-loop-line g l = AreShared (map g.L.IrqLine.seen l.yielded) l.lines.items l.numbers.items l.flows.items l.firsts.items
