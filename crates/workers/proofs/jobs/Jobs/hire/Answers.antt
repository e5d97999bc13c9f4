use Rattle.std.proofs.Common.{ap, ◌∙◌}
use Rattle.workers.specs.Seen.{JobsSeen}
use Rattle.workers.proofs.Hiring.{can_give_at, hires_one, new_one}
use Rattle.workers.proofs.jobs.Jobs.hire.Goals as goal

pub fork_all-requires-clause-can : goal.fork_all-requires-clause-can
fork_all-requires-clause-can g c = can_give_at c.args.lines.now c.deref.result.now c.args.self.now
    c.self.inside.firsts.items c.args.actor (c.deref.ensures.value ∙ c.lines.view_is)
    (ap (λ (s : JobsSeen). s.firsts) c.self.view_is) c.requires.firsts c.requires.fresh

pub returns-clause-hires : goal.returns-clause-hires
returns-clause-hires g c =
    hires_one c.args.lines.now c.deref.result.now c.args.self.now c.self.inside.board.now c.self.inside.jobs.items
    c.self.inside.firsts.items c.fork_all.new.firsts.items c.args.actor c.span_of-first.result.0
    c.span_of-first.result.1 c.in_ok-posts.posts.items
    (c.deref.ensures.value ∙ c.lines.view_is) c.self.view_is c.requires.firsts c.span_of-first.ensures c.in_ok-posts.ensures _ c.in_ok-push.ensures.items

pub returns-clause-new : goal.returns-clause-new
returns-clause-new g c =
    new_one c.args.lines.now c.deref.result.now c.args.self.now c.self.inside.board.now c.self.inside.jobs.items
    c.self.inside.firsts.items c.fork_all.new.firsts.items c.args.actor c.span_of-first.result.0 c.span_of-first.result.1
    c.in_ok-posts.posts.items c.self.view_is c.in_ok-posts.ensures _ c.in_ok-push.ensures.items
