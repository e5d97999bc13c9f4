use Rattle.std.proofs.Common.{◌≡◌}
use Rattle.line_words.proofs.Quiets.{any_from}
use Rattle.line_words.proofs.more.turns_off.Given as goal

abbrev pub invariant-loop-i : goal.invariant-loop-i
invariant-loop-i l = any_from l.calls 0 ≡ any_from l.calls l.i
