-- What attempts, workers and shifts leave of jobs.
use Rattle.std.specs.Prelude.{◌≡◌, ℕ, ◌+◌, ◌<◌, ◌≤◌, ◌⊎◌, IsOk, Option, Some, None, Result, Ok, Err}
use Rattle.std.specs.Prelude.{List, length, reverse, slice_get, slice_index_or, nat_lt}
use Rattle.std.specs.Prelude.{if◌then◌else◌}
use Rattle.irq_line.specs.declared.answers.StepRefused.TheVariants as refusals
use Rattle.irq_line.specs.declared.answers.StepRefused.{StepRefused}
use Rattle.workers.specs.declared.job.Work.{Work}
use Rattle.workers.specs.declared.job.Work.TheVariants as works
use Rattle.irq_base.specs.declared.entries.Entry.{Entry}
use Rattle.irq_base.specs.declared.entries.Actor.{Actor}
use Rattle.irq_base.specs.declared.entries.Actor.TheVariants as actors
use Rattle.irq_base.specs.declared.numbers.CpuNo.{CpuNo}
use Rattle.irq_base.specs.declared.numbers.LineNo.{LineNo}
use Rattle.irq_model.specs.Rounds.{flow}
use Rattle.board_def.specs.Seen.{BoardSeen}
use Rattle.line_lock.specs.Passes.{LockSeen}
use Rattle.workers.specs.Fit.{IsJob}
use Rattle.workers.specs.Grown.{PostsGrow, made_by}
use Rattle.workers.specs.Room.{RoomAfter, RoomAfterPart, AreCounted}
use Rattle.workers.specs.Seen.{PostSeen, JobSeen, JobsSeen}
use Rattle.workers.specs.Tries.{IsIdle}
use Rattle.workers.specs.Attempts.{WaitsAt, IsFullOn, IsRefusedOn, IsWantedOn}
use Rattle.workers.specs.Terms.{Terms}

-- nothing is due of the actor on what each of its passes has seen
abbrev pub IsIdleOnAll : JobSeen → Actor → Type 0
IsIdleOnAll j who =
    (i : ℕ) (s : PostSeen) → slice_get j.posts i ≡ Some s → IsIdle s.pass.def who s.pass.knows

-- nothing is due of the processor on what the pass of its flow's line has seen: it spins there
pub record SpinsOn (j : JobSeen) (c : CpuNo) : Type 0 where
  pub place : ℕ
  pub post : PostSeen
  pub at : slice_get j.posts place ≡ Some post
  pub flow_is : flow post.pass.def (reverse post.pass.knows.seen) ≡ Some c
  pub idle : IsIdle post.pass.def (actors.Cpu c) post.pass.knows

-- Nothing is due of the actor. For a thread: on what its passes have seen. For a processor: the
-- same, or it spins. For a driver: it is past all calls, or nothing is due on what its pass of the
-- current call's line has seen.
abbrev pub IsAtRest : BoardSeen → JobSeen → Actor → Type 0
IsAtRest board j (actors.Driver r) = (length board.calls ≤ j.at) ⊎ WaitsAt board j r
IsAtRest board j (actors.Cpu c) = IsIdleOnAll j (actors.Cpu c) ⊎ SpinsOn j c
IsAtRest board j (actors.Thread d) = IsIdleOnAll j (actors.Thread d)

-- the job is right; it has the same actor, and passes of the same lines, which have seen as much or
-- more
pub record WorksOn (terms : Terms) (board : BoardSeen) (lines : List LockSeen) (old new : JobSeen)
    : Type 0 where
  pub actor : new.actor ≡ old.actor
  pub first : new.first ≡ old.first
  pub as_many : length new.posts ≡ length old.posts
  pub job : IsJob board lines new
  pub grew : PostsGrow terms.gave old.posts new.posts

-- how a worker's part of a shift ended that had come to `before`, and then as `end` of its next
-- attempts
abbrev pub with_earlier : Work → Result Work StepRefused → Result Work StepRefused
with_earlier before (Ok works.Idle) = Ok before
with_earlier before end = end

-- the terms say when memory may be refused, and what the handlers gave
module _ (terms : Terms) where
  abbrev pub ComesTo : BoardSeen → JobSeen → Result (Option Entry) StepRefused → Type 0
  ComesTo board j (Ok None) = IsAtRest board j j.actor
  ComesTo board j (Ok (Some e)) = Unit {0}
  ComesTo board j (Err refused) = IsRefusedOn terms j refused

  pub record AttemptsJob (board : BoardSeen) (lines : List LockSeen)
      (tried : Result (Option Entry) StepRefused) (old new : JobSeen) : Type 0 where
    pub works : WorksOn terms board lines old new
    pub came : ComesTo board new tried
    pub room : RoomAfter tried old new

  -- what is true of a job once its part of a shift ended so
  abbrev pub EndIsSo : BoardSeen → JobSeen → Result Work StepRefused → Type 0
  EndIsSo board j (Ok works.Idle) = IsAtRest board j j.actor
  EndIsSo board j (Ok works.Busy) = Unit {0}
  EndIsSo board j (Err refused) = IsRefusedOn terms j refused

  pub record WorksJob (board : BoardSeen) (lines : List LockSeen) (old new : JobSeen) : Type 0 where
    pub works : WorksOn terms board lines old new
    pub end : EndIsSo board new new.end
    pub room : RoomAfterPart new.end old new
    -- it made few steps, and a look is none
    pub few : new.left + made_by new.posts ≤ made_by old.posts + 65536

  -- a worker's later part of a shift: what was true of its shift before is true of it still
  pub record GoesOn (board : BoardSeen) (lines : List LockSeen) (old new : JobSeen) : Type 0 where
    pub works : WorksOn terms board lines old new
    pub counted : AreCounted old new
    pub since : (start : JobSeen) → WorksJob board lines start old → WorksJob board lines start new

  -- each job after a later sweep of a shift
  abbrev pub GoOnJobs : BoardSeen → List LockSeen → List JobSeen → List JobSeen → Type 0
  GoOnJobs board lines old new = (k : ℕ) (d : JobSeen) → k < length old
      → GoesOn board lines (slice_index_or old k d) (slice_index_or new k d)

  -- each job after a shift
  abbrev pub KeepsJobs : BoardSeen → List LockSeen → List JobSeen → List JobSeen → Type 0
  KeepsJobs board lines old new = (k : ℕ) (d : JobSeen) → k < length old
      → WorksJob board lines (slice_index_or old k d) (slice_index_or new k d)

  abbrev pub EachEndedSo : JobsSeen → Type 0
  EachEndedSo s = (i : ℕ) (j : JobSeen) → slice_get s.jobs i ≡ Some j → EndIsSo s.board j j.end

-- ---- how shifts end

-- of two refusals the one that comes first: the lower full line, then that memory was refused
abbrev pub worse_refusal : StepRefused → StepRefused → StepRefused
worse_refusal (refusals.Full a m) (refusals.Full b n) =
    if nat_lt b.0 a.0 then refusals.Full b n else refusals.Full a m
worse_refusal (refusals.Full a m) refusals.NoMemory = refusals.Full a m
worse_refusal refusals.NoMemory second = second

-- of two workers' answers the one that comes first: a refusal, then that a step was made
abbrev pub worse : Result Work StepRefused → Result Work StepRefused → Result Work StepRefused
worse (Err first) (Err second) = Err (worse_refusal first second)
worse (Err first) (Ok work) = Err first
worse (Ok work) (Err second) = Err second
worse (Ok works.Busy) (Ok work) = Ok works.Busy
worse (Ok works.Idle) (Ok work) = Ok work

-- the part of one of the first n jobs ended at this full line, and of none of them at a lower one
pub record IsLowestFull (jobs : List JobSeen) (n : ℕ) (line : LineNo) (len : ℕ) : Type 0 where
  pub place : ℕ
  pub job : JobSeen
  pub at : slice_get jobs place ≡ Some job
  pub end : job.end ≡ Err (refusals.Full line len)
  pub lowest : (k : ℕ) (j : JobSeen) (other : LineNo) (m : ℕ) → k < n → slice_get jobs k ≡ Some j
      → j.end ≡ Err (refusals.Full other m) → line.0 ≤ other.0

-- the part of one of the first n jobs ended so
pub record IsSomeEnd (jobs : List JobSeen) (n : ℕ) (end : Result Work StepRefused) : Type 0 where
  pub place : ℕ
  pub job : JobSeen
  pub below : place < n
  pub at : slice_get jobs place ≡ Some job
  pub is : job.end ≡ end

-- the part of none of the first n jobs ended at a full line; below, none was refused memory either
abbrev pub NoneFull : List JobSeen → ℕ → Type 0
NoneFull jobs n = (k : ℕ) (j : JobSeen) (other : LineNo) (m : ℕ) → k < n → slice_get jobs k ≡ Some j
    → j.end ≡ Err (refusals.Full other m) → ⊥

abbrev pub NoneRefused : List JobSeen → ℕ → Type 0
NoneRefused jobs n =
    (k : ℕ) (j : JobSeen) → k < n → slice_get jobs k ≡ Some j → IsOk j.end

-- The answer for the first n jobs: all are idle; or this is the lowest full line; or there is no
-- full line, and one was refused memory; or none was refused, and one made a step.
abbrev pub SumsUp : List JobSeen → ℕ → Result Work StepRefused → Type 0
SumsUp jobs n (Ok works.Idle) =
    (k : ℕ) (j : JobSeen) → k < n → slice_get jobs k ≡ Some j → j.end ≡ Ok works.Idle
SumsUp jobs n (Err (refusals.Full line len)) = IsLowestFull jobs n line len
SumsUp jobs n (Err refusals.NoMemory) = IsSomeEnd jobs n (Err refusals.NoMemory) × NoneFull jobs n
SumsUp jobs n (Ok works.Busy) = IsSomeEnd jobs n (Ok works.Busy) × NoneRefused jobs n

-- no worker made a step
abbrev pub MadeNone : List JobSeen → List JobSeen → Type 0
MadeNone old new = (k : ℕ) (d : JobSeen) → k < length old
    → made_by (slice_index_or new k d).posts ≡ made_by (slice_index_or old k d).posts

-- a step is due on the line with one of the jobs' passes, and the line has the greatest length
pub record IsFullFor (s : JobsSeen) (line : LineNo) (len : ℕ) : Type 0 where
  pub place : ℕ
  pub job : JobSeen
  pub at : slice_get s.jobs place ≡ Some job
  pub is : IsFullOn job line len
  -- no worker stopped at a full line with a lower number
  pub lowest : (k : ℕ) (j : JobSeen) (other : LineNo) (m : ℕ) → slice_get s.jobs k ≡ Some j
      → j.end ≡ Err (refusals.Full other m) → line.0 ≤ other.0

-- memory was refused to one of the workers, and none stopped at a full line
pub record IsWantedFor (terms : Terms) (s : JobsSeen) : Type 0 where
  pub place : ℕ
  pub job : JobSeen
  pub at : slice_get s.jobs place ≡ Some job
  pub is : IsWantedOn terms job
  pub none_full : NoneFull s.jobs (length s.jobs)

-- Nothing is due of any actor. Or, `Full`: a step is due on this line, the lowest at which a worker
-- stopped. Or, `NoMemory`: memory was refused, and the line may have wanted it.
abbrev pub Ends : (terms : Terms) → JobsSeen → Result Unit StepRefused → Type 0
Ends terms s (Ok _) =
    (i : ℕ) (j : JobSeen) → slice_get s.jobs i ≡ Some j → IsAtRest s.board j j.actor
Ends terms s (Err (refusals.Full line len)) = IsFullFor s line len
Ends terms s (Err refusals.NoMemory) = IsWantedFor terms s
