use Rattle.workers.proofs.Hiring.{AreHired}
use Rattle.workers.proofs.jobs.share.Given as goal

abbrev pub invariant-loop-i : goal.invariant-loop-i
invariant-loop-i g l = AreHired l.board l.lines-inside.lines.items l.dealt.items l.i l.jobs
