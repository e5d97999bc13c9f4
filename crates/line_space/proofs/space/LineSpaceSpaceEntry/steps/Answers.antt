use Rattle.std.proofs.Common.{◌≡◌, ℕ, List, ◌++◌, Option, ap, sym, subst, ◌∙◌}
use Rattle.irq_base.specs.declared.entries.Actor.{Actor}
use Rattle.irq_base.specs.declared.entries.Entry.{Entry}
use Rattle.irq_base.specs.declared.lines.LineDef.{LineDef}
use Rattle.irq_base.specs.declared.numbers.CpuNo.{CpuNo}
use Rattle.irq_base.specs.declared.numbers.DriverNo.{DriverNo}
use Rattle.irq_model.specs.Legal.{IsDue}
use Rattle.line_marks.specs.State.{state_of}
use Rattle.line_state.specs.Seen.{taker_of}
use Rattle.line_words.proofs.Whole.{if_ok}
use Rattle.line_words.specs.Node.{node}
use Rattle.line_space.proofs.Again.{flow_same, taker_same}
use Rattle.line_space.proofs.Adding.{due_only}
use Rattle.line_space.proofs.Beside.{scripted_again}
use Rattle.line_space.proofs.Firsts.{reached_is, steps_all}
use Rattle.line_space.proofs.ReadAt.{read_at}
use Rattle.line_space.specs.Stepping.{actors_by, all_steps}
use Rattle.state_search.specs.Paths.{IsPath, AreSteps, IsReached as IsReachedBy}
use Rattle.line_space.proofs.space.LineSpaceSpaceEntry.steps.Goals as goal

pub read-requires-clause-reached : goal.read-requires-clause-reached
read-requires-clause-reached c =
    let P : LineDef → Type 0 = λ d. IsReachedBy (IsDue d) (node d) 100000000 c.args.words.now in
    reached_is c.self.inside.def c.args.words.now (subst P (sym c.self.view_is) c.requires.reached)

pub add_all-requires-clause-reached : goal.add_all-requires-clause-reached
add_all-requires-clause-reached c =
    let P : LineDef → Type 0 = λ d. IsReachedBy (IsDue d) (node d) 100000000 c.args.words.now in
    reached_is c.self.inside.def c.args.words.now (subst P (sym c.self.view_is) c.requires.reached)

pub push_due-requires-clause-scripted : goal.push_due-requires-clause-scripted
push_due-requires-clause-scripted c =
    let P : LineDef → Type 0 = λ d. IsReachedBy (IsDue d) (node d) 100000000 c.args.words.now in
    let reached = reached_is c.self.inside.def c.args.words.now (subst P (sym c.self.view_is) c.requires.reached) in
    scripted_again (read_at c.self.invariant.valid c.self.invariant.valid_runs c.in_ok-read.ensures.read
    reached.1 reached.2 reached.3)

pub returns-clause-steps : goal.returns-clause-steps
returns-clause-steps c =
    let def = c.self.inside.def in
    let valid = c.self.invariant.valid in
    let ws = c.args.words.now in
    let new = c.add_all.new.found in
    let t = c.read.new.self.state.state in
    let R : LineDef → Type 0 = λ d. IsReachedBy (IsDue d) (node d) 100000000 c.args.words.now in
    let S : LineDef → Type 0 = λ d. (h : List Entry) → IsPath (IsDue d) h → node d h ≡ c.args.words.now → AreSteps (IsDue d) (node d) h c.add_all.new.found in
    let drivers = c.as_slice-drivers.ensures.value ∙ c.self.invariant.drivers in
    if_ok c.add_all.result (λ added. subst S c.self.view_is
    (steps_all def valid c.self.invariant.valid_runs ws (reached_is def ws (subst R (sym c.self.view_is) c.requires.reached))
    c.self.inside.scratch.scripts c.self.invariant.scratch.scripts c.args.found.now new c.as_slice-asked.result.now c.requires.empty
    (λ past legal same.
    let again = c.in_ok-read.ensures.read.state past legal same in
    c.as_slice-asked.ensures.value ∙ (c.in_ok-push_actors.ensures
    ∙ (ap (λ (o : Option CpuNo). actors_by def o (taker_of t) c.as_slice-drivers.result.now) (flow_same def past t again)
    ∙ (ap (λ (o : Option CpuNo). actors_by def (state_of def past).desc.flow o c.as_slice-drivers.result.now) (taker_same def past t again)
    ∙ ap (λ (rs : List DriverNo). actors_by def (state_of def past).desc.flow (taker_of (state_of def past)) rs) drivers))))
    (λ past legal same few.
    let read = read_at valid c.self.invariant.valid_runs c.in_ok-read.ensures.read legal same few in
    let due = c.as_slice-due.ensures.value ∙ c.in_ok-push_due.ensures in
    added past legal same few ∙ ap (λ (x : List (Entry × List ℕ)). c.args.found.now ++ x)
    (ap (λ (x : List Actor). all_steps def past x) due ∙ due_only read c.as_slice-asked.result.now))))
    c.add_all.ensures.found
