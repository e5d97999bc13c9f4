use Rattle.std.proofs.Common.{◌≡◌, ℕ, Some, List, length, slice_get, sym, ap, subst, ◌∙◌, arith}
use Rattle.board_def.specs.declared.rows.ScriptCall.{ScriptCall}
use Rattle.irq_base.specs.declared.numbers.DriverNo.{DriverNo}
use Rattle.workers.specs.Fit.{IsPlaceOf}
use Rattle.workers.specs.Seen.{JobSeen}
use Rattle.workers.specs.Attempts.{IsDriven}
use Rattle.workers.specs.Terms.{terms_of}
use Rattle.workers.proofs.Driven.{next_driven, driver_done, driver_attempted}
use Rattle.workers.proofs.Manning.{not_nowhere}
use Rattle.workers.proofs.job.Job.attempt_driver.Given as given
use Rattle.workers.proofs.job.Job.attempt_driver.Goals as goal
use Rattle.workers.proofs.job.Job.attempt_driver.Goals.{After-next_call-self-inside, In-Some}

-- the job, gone to its next call
abbrev now : (g : given.Over) (c : After-next_call-self-inside g) → JobSeen
now g c = record {
  actor = c.self.inside.actor;
  first = c.self.inside.first;
  posts = c.self.inside.posts.items;
  flow = c.self.inside.flow;
  at = c.next_call-self-inside.result;
  left = c.self.inside.left;
  end = c.self.inside.end;
}

now_is : (g : given.Over) (c : After-next_call-self-inside g) → now g c ≡ record c.args.self.now { at = c.next_call-self-inside.result }
now_is g c = ap (λ (x : JobSeen). record x { at = c.next_call-self-inside.result }) c.self.view_is

driven : (g : given.Over) (c : After-next_call-self-inside g) → IsDriven c.args.board.now c.args.lines.now c.args.driver (now g c)
driven g c =
    next_driven c.requires.boards c.requires.driven c.next_call-self-inside.result (now_is g c)
    (let a = ap (λ (x : JobSeen). x.at) c.self.view_is in let w = c.next_call-self-inside.ensures.within.0 in
    omega (arith, a, w)) (let l = ap (λ (cs : List ScriptCall). length cs) c.calls.ensures in
    let w = c.next_call-self-inside.ensures.within.1 in omega (arith, l, w))
    (λ k d from to at. c.next_call-self-inside.ensures.passed k d
    (let a = ap (λ (x : JobSeen). x.at) c.self.view_is in omega (arith, a, from)) to
    (ap (λ (cs : List ScriptCall). slice_get cs k) c.calls.ensures ∙ at))

-- the call is the driver's, about one of the lines
own : (g : given.Over) (c : In-Some g)
    → (c.in-Some.call.driver ≡ c.args.driver) × ((place : ℕ) × IsPlaceOf c.args.lines.now c.in-Some.call.line (Some place))
own g c =
    c.next_call-self-inside.ensures.own c.in-Some.call
    (ap (λ (cs : List ScriptCall). slice_get cs c.next_call-self-inside.result) c.calls.ensures ∙ (sym c.call.ensures ∙ c.in-Some.is))

pub unreachable-requires : goal.unreachable-requires
unreachable-requires g c =
    let o = own g (goal.at.unreachable-requires g c).In-Some in
    not_nowhere c.args.lines.now c.in-Some.call.line o.1.0 o.1.1 c.in_default-place_of.ensures.place

pub returns-in_default : goal.returns-in_default
returns-in_default g c =
    let there = (goal.at.returns-in_default g c).After-next_call-self-inside in
    driver_done c.requires.driven c.next_call-self-inside.result (now_is g there)
    (terms_of g.L.IrqLine.seen g.L.IrqLine.may_want (g.H.SharedHandler.gave c.args.handlers.now))
    (driven g there) (sym c.call.ensures ∙ c.in_default.is)

pub step_driver-requires-clause-driven : goal.step_driver-requires-clause-driven
step_driver-requires-clause-driven g c =
    let at = goal.at.step_driver-requires-clause-driven g c in
    subst (λ (r : DriverNo). IsDriven c.args.board.now c.args.lines.now r (now g at.After-next_call-self-inside)) (sym (own g at.In-Some).0)
    (driven g at.After-next_call-self-inside)

pub returns : goal.returns
returns g c =
    let at = goal.at.returns g c in
    driver_attempted c.requires.driven c.next_call-self-inside.result (now_is g at.After-next_call-self-inside) (own g at.In-Some).0 c.step_driver.ensures
