use Rattle.std.proofs.Common.{◌≡◌, take, Ok}
use Rattle.std.specs.List.{flat_map}
use Rattle.irq_io.specs.Whole.{WritesAll}
use Rattle.irq_explore.specs.SurveyTexts.{rest_text}
use Rattle.irq_explore.proofs.printed_survey.print_rests.Given as goal

abbrev pub invariant-loop-i : goal.invariant-loop-i
invariant-loop-i g l = record {
  content : WritesAll (g.O.Sink.written l.fn.out) (g.O.Sink.written l.out) (flat_map (rest_text l.line) (take l.i l.rests)) (Ok tt);
  faults : g.O.Sink.faults l.out ≡ g.O.Sink.faults l.fn.out;
}
