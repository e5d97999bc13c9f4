use Rattle.std.proofs.Common.{subst}
use Rattle.line_survey.specs.Kept.{IsReader}
use Rattle.line_survey.specs.Seen.{LineSearchSeen}
use Rattle.line_survey.proofs.searching.LineSearch.rests.Goals as goal

pub rests_by-requires : goal.rests_by-requires
rests_by-requires c = subst (λ (v : LineSearchSeen). IsReader v.def c.in_ok-reader.reader) c.self.view_is c.in_ok-reader.ensures
