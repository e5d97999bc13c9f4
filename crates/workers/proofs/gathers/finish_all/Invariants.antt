use Rattle.std.proofs.Common.{length, map}
use Rattle.workers.proofs.Finishing.{AreFinishing}
use Rattle.workers.proofs.gathers.finish_all.Given as goal

abbrev pub invariant-loop-shared : goal.invariant-loop-shared
invariant-loop-shared g l = AreFinishing l.fn.firsts.items (length l.yielded) l.firsts.items (map g.L.IrqLine.seen l.all.items)
