use Rattle.std.proofs.Common.{◌≡◌, drop}
use Rattle.line_words.proofs.Loops.{marks_put}
use Rattle.line_words.proofs.rows.put_marks.Given as goal

abbrev pub invariant-loop-i : goal.invariant-loop-i
invariant-loop-i l = marks_put (drop l.i l.devices) l.left l.state ≡ marks_put l.devices l.words l.fn.state
