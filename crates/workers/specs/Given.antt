-- What the handlers gave for the runs of one actor.
use Rattle.std.specs.Prelude.{◌≡◌, ℕ, true, Some, IfSome, List, [], ◌∷◌, reverse, slice_get}
use Rattle.irq_base.specs.declared.devices.Answer.{Answer}
use Rattle.irq_base.specs.declared.devices.Run.{Run}
use Rattle.irq_base.specs.declared.entries.Actor.{Actor}
use Rattle.irq_base.specs.declared.entries.Entry.{Entry}
use Rattle.irq_base.specs.declared.lines.LineDef.{LineDef}
use Rattle.irq_model.specs.Kinds.{is_by}
use Rattle.callbacks.specs.Seen.{answer_to}
use Rattle.irq_line.specs.Runs.{run_ended}
use Rattle.line_lock.specs.Passes.{PassSeen}
use Rattle.workers.specs.Seen.{JobSeen, JobsSeen, PostSeen}

-- if the entry ends a run after this past, the run was answered by a call
abbrev pub IsGiven : (gave : Run → Answer → Type 0) → LineDef → List Entry → Entry → Type 0
IsGiven gave def past e = IfSome (run_ended def past e) (λ run. gave run (answer_to run))

-- each run that the actor ended in this past, whose newest entry comes first, was answered by a
-- call
abbrev pub AreOwnGiven : (gave : Run → Answer → Type 0) → LineDef → Actor → List Entry → Type 0
AreOwnGiven gave def who [] = Unit {0}
AreOwnGiven gave def who (e ∷ past) =
    AreOwnGiven gave def who past × (is_by who e ≡ true → IsGiven gave def past e)

-- each run that the pass's actor has ended, in what the pass has seen, was answered by a call
abbrev pub IsPassGiven : (gave : Run → Answer → Type 0) → PassSeen → Type 0
IsPassGiven gave p = (who : Actor) → p.knows.actor ≡ Some who
    → AreOwnGiven gave p.def who (reverse p.knows.seen)

-- the same of each pass of each job
abbrev pub AreJobsGiven : (gave : Run → Answer → Type 0) → JobsSeen → Type 0
AreJobsGiven gave s = (i place : ℕ) (j : JobSeen) (t : PostSeen) → slice_get s.jobs i ≡ Some j
    → slice_get j.posts place ≡ Some t → IsPassGiven gave t.pass
