use Rattle.irq_base.specs.declared.entries.Actor.{Actor}
use Rattle.line_lock.specs.Knows.{Meets}
use Rattle.line_lock.specs.Passes.{IsPassOf}
use Rattle.std.proofs.Common.{◌≡◌, false, IsSome, Option, refl, ◌+◌, List, sym, ap, subst, arith, rules}
use Rattle.workers.specs.Seen.{PostSeen, JobSeen}
use Rattle.workers.proofs.Lists.{none_left}
use Rattle.workers.proofs.Meeting.{IsMeeting, Taken, none_met, all_met, in_lines, in_firsts, home_here, post_here, met_next}
use Rattle.workers.proofs.gathers.meet_job.Given as given
use Rattle.workers.proofs.gathers.meet_job.Goals as goal
use Rattle.workers.proofs.gathers.meet_job.Goals.{After-len}

pub loop-post-init : goal.loop-post-init
loop-post-init g c = subst (λ (j : JobSeen). IsMeeting c.args.lines.now c.args.job c.args.firsts.now.items
    c.args.firsts.now.items j.posts) (sym c.job.view_is)
    (none_met c.args.lines.now c.args.job c.args.firsts.now.items c.requires.home)

-- the pass that the loop has taken
taken : (g : given.Over) (c : After-len g) → Taken c.args.lines.now c.args.job c.args.firsts.now.items c.loop-post.firsts.items
    c.loop-post.posts.items c.pop.new.self.items c.in-Some.post (c.job.inside.first + c.len.result)
taken g c =
    let first = ap (λ (j : JobSeen). j.first) c.job.view_is in
    record {
      posted = c.requires.posted;
      meeting = c.loop-post.invariant;
      popped = c.in-Some.ensures.items;
      place_is = omega (arith, first, c.len.ensures);
    }

pub overflow_add-place : goal.overflow_add-place
overflow_add-place g c = let w = in_lines (taken g (goal.at.overflow_add-place g c).After-len) in search rules

pub index_mut-home-requires : goal.index_mut-home-requires
index_mut-home-requires g c = let w = in_firsts (taken g (goal.at.index_mut-home-requires g c).After-len) in search rules

pub offset_bounds-lines-place : goal.offset_bounds-lines-place
offset_bounds-lines-place g c = let w = in_lines (taken g (goal.at.offset_bounds-lines-place g c).After-len) in search rules

pub bounds-lines-place : goal.bounds-lines-place
bounds-lines-place g c = in_lines (taken g (goal.at.bounds-lines-place g c).After-len)

pub meet-requires : goal.meet-requires
meet-requires g c =
    let t = taken g (goal.at.meet-requires g c).After-len in
    let home = home_here t c.index-lines-place.is c.index_mut-home.ensures.value in
    let post = post_here t c.index-lines-place.is c.index_mut-home.ensures.value in
    record {
      pass = (home.of_line, subst (λ (s : PostSeen). IsPassOf c.index-lines-place.result s.pass) (sym c.post.view_is) post.of_line);
      idle = (home.idle, subst (λ (s : PostSeen). s.pass.turn ≡ false) (sym c.post.view_is) post.idle);
      first = home.first;
      actor = subst (λ (s : PostSeen). IsSome s.pass.knows.actor) (sym c.post.view_is) (subst (λ (o : Option Actor). IsSome o) (sym post.actor) refl);
    }

pub loop-post-preserved : goal.loop-post-preserved
loop-post-preserved g c =
    met_next (taken g (goal.at.loop-post-preserved g c).After-len) c.index-lines-place.is c.index_mut-home.ensures.value
    c.meet.new.pass c.meet.ensures.pass c.meet.ensures.idle
    (subst (λ (s : PostSeen). Meets c.index_mut-home.result.now.knows s.pass.knows
    c.meet.new.pass.knows) c.post.view_is c.meet.ensures.met)

pub returns : goal.returns
returns g c =
    all_met c.args.lines.now c.args.job c.args.firsts.now.items c.loop-post.firsts.items
    (subst (λ (ss : List PostSeen). IsMeeting c.args.lines.now c.args.job c.args.firsts.now.items
    c.loop-post.firsts.items ss) (none_left c.loop-post.posts.items
    (let v = c.in_default.ensures.cases in omega (arith, v.0))) c.loop-post.invariant)
