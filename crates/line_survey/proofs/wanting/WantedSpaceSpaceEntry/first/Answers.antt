use Rattle.std.proofs.Common.{◌≡◌, [], subst}
use Rattle.std.specs.Prelude.{OnOk}
use Rattle.line_words.specs.Node.{node}
use Rattle.line_survey.specs.Wanting.{WantedSeen}
use Rattle.line_survey.proofs.wanting.WantedSpaceSpaceEntry.first.Goals as goal

pub returns-clause-first : goal.returns-clause-first
returns-clause-first c =
    subst (λ (v : WantedSeen). OnOk c.first.result (c.first.new.words.items ≡ node v.def [])) c.self.view_is c.first.ensures.first
