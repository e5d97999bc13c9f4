use Rattle.workers.specs.Forks.{Forks}
use Rattle.workers.proofs.forks.fork_all.Given as goal

abbrev pub invariant-loop-place : goal.invariant-loop-place
invariant-loop-place g l = Forks l.lines l.first l.place l.actor l.fn.firsts.items l.firsts.items l.posts.items
