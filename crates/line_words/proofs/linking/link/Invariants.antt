use Rattle.std.proofs.Common.{◌≡◌, length}
use Rattle.line_words.specs.Again.{CanLinkAll}
use Rattle.line_words.specs.Reading.{linked_in, with_linked}
use Rattle.line_words.specs.Runs.{AreSameRuns}
use Rattle.line_words.specs.Tables.{AreSameTables}
use Rattle.line_words.proofs.linking.link.Given as goal

abbrev pub invariant-loop-left : goal.invariant-loop-left
invariant-loop-left l = record {
  can : CanLinkAll (linked_in l.left) l.state.state.list.actions;
  tables : AreSameTables l.fn.state.state l.state.state;
  runs : AreSameRuns l.fn.state l.state;
  goes : with_linked l.left l.state.state ≡ with_linked l.words l.fn.state.state;
}

abbrev pub decreases-loop-left : goal.decreases-loop-left
decreases-loop-left l = length l.left
