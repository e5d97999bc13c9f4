use Rattle.std.proofs.Common.{false, refl, sym, ◌∙◌}
use Rattle.workers.specs.Forks.{CanFork}
use Rattle.workers.proofs.Forking.{AtFork, at_fork, one_more, can_here}
use Rattle.workers.proofs.forks.fork_all.Given as given
use Rattle.workers.proofs.forks.fork_all.Goals as goal
use Rattle.workers.proofs.forks.fork_all.Goals.{After-index-lines-place}

-- the line, and its first pass, which gives the pass
here : (g : given.Over) (c : After-index-lines-place g) → AtFork c.args.lines.now c.args.first c.loop-place.place c.args.actor
    c.args.firsts.now.items c.loop-place.firsts.items c.loop-place.posts.items c.index-lines-place.result c.index_mut-first_pass.result.now
here g c =
    at_fork c.loop-place.invariant c.loop-place.auto.place c.loop-place-test.true c.requires.range.1 c.requires.range.2
    c.index-lines-place.is c.index_mut-first_pass.ensures.value

can : (g : given.Over) (c : After-index-lines-place g) → CanFork c.index-lines-place.result c.args.actor c.index_mut-first_pass.result.now
can g c = can_here (here g c) c.requires.can

pub fork-pass-requires-clause-pass : goal.fork-pass-requires-clause-pass
fork-pass-requires-clause-pass g c = (can g c).of_line

pub fork-pass-requires-clause-idle : goal.fork-pass-requires-clause-idle
fork-pass-requires-clause-idle g c = (can g c).idle

pub fork-pass-requires-clause-first : goal.fork-pass-requires-clause-first
fork-pass-requires-clause-first g c = (can g c).first

pub fork-pass-requires-clause-fresh : goal.fork-pass-requires-clause-fresh
fork-pass-requires-clause-fresh g c = (can g c).fresh

pub loop-place-preserved : goal.loop-place-preserved
loop-place-preserved g c =
    let there = (goal.at.loop-place-preserved g c).After-index-lines-place in
    let of_line = (can g there).of_line in
    let e = c.fork-pass.ensures in
    one_more (here g there) c.push.new.self.items (record { pass = c.fork-pass.result; rests = false }) c.in_ok-push.ensures.items
    (record { table = e.pass.0.0 ∙ sym of_line.0; def = e.pass.0.1 ∙ sym of_line.1; idle = e.idle.0; knows = e.gave })
    (record { of_line = e.pass.1; idle = e.idle.1; knows = e.given; rests = refl })
