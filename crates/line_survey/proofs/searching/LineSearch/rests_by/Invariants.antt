use Rattle.line_survey.specs.Growing.{AreRestsTo}
use Rattle.line_survey.specs.Kept.{IsReader}
use Rattle.line_survey.proofs.searching.LineSearch.rests_by.Given as goal

abbrev pub invariant-loop-place : goal.invariant-loop-place
invariant-loop-place l = record {
  rows : AreRestsTo l.self.def l.self.searched.paths l.place l.rests.items;
  reader : IsReader l.self.def l.reader;
}
