use Rattle.std.proofs.Common.{◌≡◌, drop}
use Rattle.line_words.proofs.Loops.{runs_put}
use Rattle.line_words.proofs.more.put_runs.Given as goal

abbrev pub invariant-loop-i : goal.invariant-loop-i
invariant-loop-i l = runs_put (drop l.i l.devices) l.left l.state ≡ runs_put l.devices l.words l.fn.state
