use Rattle.std.proofs.Common.{◌≡◌, drop}
use Rattle.line_words.proofs.Loops.{threads_put}
use Rattle.line_words.proofs.rows.put_threads.Given as goal

abbrev pub invariant-loop-i : goal.invariant-loop-i
invariant-loop-i l = threads_put (drop l.i l.devices) l.left l.state ≡ threads_put l.devices l.words l.fn.state
