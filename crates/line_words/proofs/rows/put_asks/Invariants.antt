use Rattle.std.proofs.Common.{◌≡◌, drop}
use Rattle.line_words.proofs.Loops.{asks_put}
use Rattle.line_words.proofs.rows.put_asks.Given as goal

abbrev pub invariant-loop-i : goal.invariant-loop-i
invariant-loop-i l = asks_put (drop l.i l.devices) l.left l.state ≡ asks_put l.devices l.words l.fn.state
