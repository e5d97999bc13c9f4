use Rattle.explore_top.proofs.Outcomes.{keeps_as_explored}
use Rattle.explore_top.proofs.top.explore.Goals as goal

pub returns-clause-keeps : goal.returns-clause-keeps
returns-clause-keeps g c =
    keeps_as_explored c.args.asked.states c.explore_what-end.result c.of.result c.of.ensures c.explore_what-end.ensures.emptied
    c.explore_what-end.ensures.write_fault c.explore_what-end.ensures.silent
