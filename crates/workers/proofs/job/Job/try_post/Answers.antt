use Rattle.std.proofs.Common.{◌∙◌, rules}
use Rattle.workers.specs.Terms.{terms_of}
use Rattle.workers.proofs.Attempting.{AtHand, at_hand, in_here, can_step, steps_post}
use Rattle.workers.proofs.job.Job.try_post.Given as given
use Rattle.workers.proofs.job.Job.try_post.Goals as goal
use Rattle.workers.proofs.job.Job.try_post.Goals.{After-self}

-- the line and the pass
abbrev here : (g : given.Over) (c : After-self g) → AtHand c.args.lines.now c.args.self.now c.args.place
here g c = at_hand (c.as_slice-all.ensures.value ∙ c.lines.view_is) c.self.view_is c.requires.posted c.requires.place

pub overflow_add-k : goal.overflow_add-k
overflow_add-k g c = let w = in_here (here g (goal.at.overflow_add-k g c).After-self) in search rules

pub offset_bounds-all-k : goal.offset_bounds-all-k
offset_bounds-all-k g c = let w = in_here (here g (goal.at.offset_bounds-all-k g c).After-self) in search rules

pub bounds-all-k : goal.bounds-all-k
bounds-all-k g c = in_here (here g (goal.at.bounds-all-k g c).After-self)

pub step-requires : goal.step-requires
step-requires g c =
    let can = can_step (here g (goal.at.step-requires g c).After-self) c.index-all-k.is c.index_mut-post.ensures.value in
    record { line = can.of_line; idle = can.idle; actor = can.actor; known = can.known }

pub returns : goal.returns
returns g c =
    let e = c.step.ensures in
    steps_post (here g (goal.at.returns g c).After-self) c.index-all-k.is c.index_mut-post.ensures.value
    (terms_of g.L.IrqLine.seen g.L.IrqLine.may_want (g.H.SharedHandler.gave c.args.handlers.now))
    (record { of_line = e.line; idle = e.idle; actor = e.actor; rests = e.rests; tries = e.tries })
