use Rattle.std.proofs.Common.{length}
use Rattle.irq_words.proofs.events.+events_after.Given as goal

abbrev pub decreases-events_after : goal.decreases-events_after
decreases-events_after l = length l.words.now
