use Rattle.std.proofs.Common.{List, map, subst, ◌∙◌}
use Rattle.line_lock.specs.Passes.{LockSeen}
use Rattle.workers.specs.Gathers.{AreFinal}
use Rattle.workers.proofs.Finishing.{TakenApart, home_at, gathered, are_final, kept_result, back_of, gathered_result}
use Rattle.workers.proofs.gathers.gather.Given as given
use Rattle.workers.proofs.gathers.gather.Goals as goal
use Rattle.workers.proofs.gathers.gather.Goals.{After-deref}

apart : (g : given.Over) (c : After-deref g) → TakenApart c.args.lines c.deref.result.now (record {
  board = c.jobs.inside.board.now;
  jobs = c.jobs.inside.jobs.items;
  firsts = c.jobs.inside.firsts.items;
}) c.args.jobs
apart g c = record { fit = c.requires; lines_are = c.deref.ensures.value ∙ c.lines.view_is; jobs_are = c.jobs.view_is }

pub meet_all-requires-clause-home : goal.meet_all-requires-clause-home
meet_all-requires-clause-home g c = home_at (apart g (goal.at.meet_all-requires-clause-home g c).After-deref)

pub finish_all-requires : goal.finish_all-requires
finish_all-requires g c =
    subst (λ (ls : List LockSeen). AreFinal ls c.meet_all.new.firsts.items) c.deref.ensures.value
    (are_final c.args.jobs.board c.deref.result.now c.meet_all.new.firsts.items c.meet_all.ensures.home
    (gathered (apart g (goal.at.finish_all-requires g c).After-deref) c.meet_all.ensures.gathers))

pub returns-clause-kept : goal.returns-clause-kept
returns-clause-kept g c =
    let a = apart g (goal.at.returns-clause-kept g c).After-deref in
    kept_result a (λ all. map g.L.IrqLine.seen all.items) c.finish_all.result c.is_board.ensures.board c.meet_all.ensures.home
    (gathered a c.meet_all.ensures.gathers) (back_of a c.meet_all.ensures.back) c.finish_all.ensures.lines c.finish_all.ensures.sound
    c.finish_all.ensures.known

pub returns-clause-gathered : goal.returns-clause-gathered
returns-clause-gathered g c =
    let a = apart g (goal.at.returns-clause-gathered g c).After-deref in
    gathered_result a (λ all. map g.L.IrqLine.seen all.items) c.finish_all.result c.meet_all.ensures.home
    (back_of a c.meet_all.ensures.back) c.finish_all.ensures.lines c.finish_all.ensures.known
