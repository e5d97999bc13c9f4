use Rattle.std.proofs.Common.{subst}
use Rattle.irq_line.specs.Queries.{IsLowestThread}
use Rattle.irq_line.specs.Seen.{LineSeen}
use Rattle.plain_line.proofs.Queries.{lowest_seen}
use Rattle.plain_line.proofs.line.PlainLineIrqLine.lowest_thread.Goals as goal

pub returns : goal.returns
returns c =
    subst (λ (line : LineSeen). IsLowestThread line c.self.inside.looked.lowest) c.self.view_is
    (lowest_seen (record {
      def = c.self.inside.def;
      entries = c.self.inside.history.entries;
      spare
          = c.self.inside.history.spare;
    }) c.self.inside.looked.lowest c.self.invariant.looked.lowest)
