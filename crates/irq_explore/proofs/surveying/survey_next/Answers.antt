use Rattle.std.proofs.Common.{sym, ◌∙◌}
use Rattle.irq_explore.specs.Surveying.{is_surveyed}
use Rattle.irq_explore.proofs.Taken.{one_more}
use Rattle.irq_explore.proofs.surveying.survey_next.Goals as goal

pub returns : goal.returns
returns c =
    one_more c.args.states c.args.def.now c.args.surveys.now.items c.push.new.self.items c.in_ok-survey.survey
    (is_surveyed c.args.asked c.args.def.now c.args.placement) (sym c.is_surveyed.ensures ∙ c.if-not-is_surveyed.false) c.in_ok-push.ensures.items
    c.in_ok-survey.ensures.survey c.in_ok-survey.ensures.rows
