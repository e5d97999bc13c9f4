use Rattle.std.proofs.Common.{length}
use Rattle.irq_words.proofs.lines.+lines_after.Given as goal

abbrev pub decreases-lines_after : goal.decreases-lines_after
decreases-lines_after l = length l.words.now
