use Rattle.std.proofs.Common.{◌≤◌, take}
use Rattle.line_survey.specs.Rests.{IsStill}
use Rattle.line_survey.specs.Surveyed.{AreSoMany}
use Rattle.line_survey.proofs.searching.LineSearch.at_rest.Given as goal

abbrev pub invariant-loop-place : goal.invariant-loop-place
invariant-loop-place l = record {
  many : AreSoMany (IsStill l.self.def) (take l.place l.self.searched.paths) l.rest;
  few : l.rest ≤ l.place;
}
