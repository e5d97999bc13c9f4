use Rattle.explore_words.proofs.Hung.{waits_for_none}
use Rattle.explore_words.proofs.rests.read_left.Goals as goal

pub returns-in_default : goal.returns-in_default
returns-in_default c = waits_for_none c.args.words.now c.in_ok-hung.behind.now c.in_ok-standing.behind.now c.in_ok-unserved.waits.now c.in_ok-hung.hung
    c.in_ok-standing.standing.now c.in_ok-unserved.unserved.now c.in_ok-hung.ensures.0 c.in_ok-hung.ensures.1
    c.in_ok-standing.ensures c.in_ok-unserved.ensures (λ left is. c.in_default.ensures (left.stored, left.pending) tt is)
