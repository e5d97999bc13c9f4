use Rattle.irq_explore.proofs.Rowed.{have_rows}
use Rattle.irq_explore.proofs.surveying.survey_line.Goals as goal

pub returns-clause-rows : goal.returns-clause-rows
returns-clause-rows c = have_rows c.in_ok-search.search c.in_ok-survey.survey c.in_ok-survey.ensures
