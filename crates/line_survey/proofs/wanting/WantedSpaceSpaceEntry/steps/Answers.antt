use Rattle.std.proofs.Common.{◌≡◌, List, sym, subst}
use Rattle.std.specs.Prelude.{OnOk}
use Rattle.irq_base.specs.declared.entries.Entry.{Entry}
use Rattle.irq_model.specs.Legal.{IsDue}
use Rattle.line_words.specs.Node.{node}
use Rattle.state_search.specs.Paths.{IsPath, AreSteps, IsReached}
use Rattle.line_survey.specs.Wanting.{WantedSeen}
use Rattle.line_survey.proofs.wanting.WantedSpaceSpaceEntry.steps.Goals as goal

pub steps-requires-clause-reached : goal.steps-requires-clause-reached
steps-requires-clause-reached c =
    subst (λ (v : WantedSeen). IsReached (IsDue v.def) (node v.def) 100000000 c.args.words.now) (sym c.self.view_is) c.requires.reached

pub returns-clause-steps : goal.returns-clause-steps
returns-clause-steps c =
    let S : WantedSeen → Type 0 = λ v. (g : List Entry) → IsPath (IsDue v.def) g → node v.def g ≡ c.args.words.now
    → AreSteps (IsDue v.def) (node v.def) g c.steps.new.found in
    subst (λ (v : WantedSeen). OnOk c.steps.result (S v)) c.self.view_is c.steps.ensures.steps
