use Rattle.std.proofs.Common.{◌≡◌, drop}
use Rattle.line_words.proofs.Loops.{quiets_put}
use Rattle.line_words.proofs.more.put_quiets.Given as goal

abbrev pub invariant-loop-i : goal.invariant-loop-i
invariant-loop-i l = quiets_put (drop l.i l.devices) l.left l.state ≡ quiets_put l.devices l.words l.fn.state
