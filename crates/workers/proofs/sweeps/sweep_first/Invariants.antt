use Rattle.std.proofs.Common.{◌≡◌, ℕ, ◌<◌, ◌≤◌, get_or}
use Rattle.workers.specs.Terms.{terms_of}
use Rattle.workers.specs.Shifts.{WorksJob}
use Rattle.workers.specs.Seen.{JobSeen}
use Rattle.workers.proofs.sweeps.sweep_first.Given as goal

abbrev pub invariant-loop-i : goal.invariant-loop-i
invariant-loop-i g l =
    ((k : ℕ) (d : JobSeen) → l.i ≤ k → get_or l.jobs k d ≡ get_or l.fn.jobs k d)
    × ((k : ℕ) (d : JobSeen) → k < l.i → WorksJob (terms_of g.L.IrqLine.seen g.L.IrqLine.may_want
    (g.H.SharedHandler.gave l.handlers)) l.board l.lines (get_or l.fn.jobs k d) (get_or l.jobs k d))
