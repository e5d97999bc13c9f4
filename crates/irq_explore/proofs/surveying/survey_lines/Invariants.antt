use Rattle.std.proofs.Common.{All}
use Rattle.std.specs.List.{AllZip}
use Rattle.irq_explore.specs.Surveyed.{HasRows, IsSurveyOf}
use Rattle.irq_explore.proofs.Taken.{asked_to}
use Rattle.irq_explore.proofs.surveying.survey_lines.Given as goal

abbrev pub invariant-loop-i : goal.invariant-loop-i
invariant-loop-i l = record {
  surveys : AllZip (IsSurveyOf l.states) (asked_to l.board l.asked l.i) l.surveys.items;
  rows : All HasRows l.surveys.items;
}
