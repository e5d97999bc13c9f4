use Rattle.std.proofs.Common.{◌+◌, ◌*◌, ◌≤◌, take, reverse}
use Rattle.log_summary.specs.Gained.{AreCountsOf}
use Rattle.log_summary.specs.Standings.{StandsAfter}
use Rattle.log_summary.proofs.summaries.summarize.Given as goal

-- the counts and the standing are what the entries so far come to
abbrev pub invariant-loop-i : goal.invariant-loop-i
invariant-loop-i l =
    record {
      counts : AreCountsOf (take l.i l.history.entries) l.counts;
      served : l.counts.served ≤ 4294967295 * l.i;
      standing : StandsAfter (reverse (take l.i l.history.entries)) l.standing;
      raised : l.standing.raised ≤ l.i + 1;
      lowered : l.standing.lowered ≤ l.i + 1;
    }
