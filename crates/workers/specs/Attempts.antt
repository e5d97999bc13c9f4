-- What a worker's attempt comes to.
use Rattle.std.specs.Prelude.{◌≡◌, ℕ, ◌+◌, ◌≤◌, ◌⊎◌, true, ◌&&◌, ◌||◌, Option, Some}
use Rattle.std.specs.Prelude.{None, Result, Ok, IfErr, List, length, slice_get, slice_set}
use Rattle.std.specs.Prelude.{if◌then◌else◌}
use Rattle.irq_base.specs.declared.entries.Actor.TheVariants as actors
use Rattle.irq_base.specs.declared.entries.Entry.{Entry}
use Rattle.irq_base.specs.declared.lines.FlowKind.{FlowKind}
use Rattle.irq_base.specs.declared.numbers.DriverNo.{DriverNo}
use Rattle.irq_base.specs.declared.numbers.LineNo.{LineNo}
use Rattle.irq_line.specs.declared.answers.StepRefused.{StepRefused}
use Rattle.irq_line.specs.declared.answers.StepRefused.TheVariants as refusals
use Rattle.irq_model.specs.Kinds.{is_handle, is_leave, is_again}
use Rattle.irq_model.specs.Lines.{is_eoi_flow}
use Rattle.board_def.specs.Seen.{BoardSeen}
use Rattle.board_def.specs.declared.rows.ScriptCall.{ScriptCall}
use Rattle.line_lock.specs.Passes.{LockSeen}
use Rattle.board_play.specs.Kept.{IsUpTo}
use Rattle.workers.specs.Fit.{IsPost, ArePosted, HasOneFlow, HasItsFlow, own_lines}
use Rattle.workers.specs.Grown.{PostsGrow}
use Rattle.workers.specs.Room.{RoomAfter}
use Rattle.workers.specs.Seen.{PostSeen, JobSeen}
use Rattle.workers.specs.Tries.{IsIdle, IsFull, Tries, rests_after}
use Rattle.workers.specs.Terms.{Terms}

-- the pass with which a processor has a flow in progress, after it added the entry with the pass at
-- index `place`
abbrev pub flow_after : FlowKind → Entry → ℕ → Option ℕ → Option ℕ
flow_after flow e place before =
    if is_handle e then Some place
    else (if is_leave e || (is_eoi_flow flow && is_again e) then None else before)

-- the job has the same actor, and as many passes of the same lines, all right, which have seen as
-- much or more
pub record KeepsPosts (terms : Terms) (lines : List LockSeen) (old new : JobSeen) : Type 0 where
  pub actor : new.actor ≡ old.actor
  pub first : new.first ≡ old.first
  pub as_many : length new.posts ≡ length old.posts
  pub posted : ArePosted lines new
  pub grew : PostsGrow terms.gave old.posts new.posts

-- a step is due with one of the passes on this line, and the line has the greatest length
pub record IsFullOn (j : JobSeen) (line : LineNo) (len : ℕ) : Type 0 where
  pub place : ℕ
  pub post : PostSeen
  pub at : slice_get j.posts place ≡ Some post
  pub number : post.pass.def.line ≡ line
  pub is : IsFull post.pass.def j.actor post.pass.knows
  pub log : len ≡ post.pass.def.log

-- ---- drivers

-- the job is the driver's, and its entries are its script's calls up to its place
pub record IsDriven (board : BoardSeen) (lines : List LockSeen) (r : DriverNo) (j : JobSeen)
    : Type 0 where
  pub actor : j.actor ≡ actors.Driver r
  pub posted : ArePosted lines j
  pub first : j.first ≡ 0
  pub as_many : length j.posts ≡ length lines
  pub up_to : IsUpTo board.calls (own_lines j.posts) r j.at
  pub within : j.at ≤ length board.calls

-- the driver waits at its current call: nothing is due on what its pass of the call's line has seen
pub record WaitsAt (board : BoardSeen) (j : JobSeen) (r : DriverNo) : Type 0 where
  pub call : ScriptCall
  pub place : ℕ
  pub post : PostSeen
  pub at_call : slice_get board.calls j.at ≡ Some call
  pub own : call.driver ≡ r
  pub at_post : slice_get j.posts place ≡ Some post
  pub line : post.pass.def.line ≡ call.line
  pub rests : IsIdle post.pass.def (actors.Driver r) post.pass.knows

-- ---- what is left of the job

-- the terms say when memory may be refused, and what the handlers gave
module _ (terms : Terms) where
  -- a try with the pass at index `place`: the pass is right afterwards, and all else is as it was
  pub record StepsPost (lines : List LockSeen) (place : ℕ)
      (tried : Result (Option Entry) StepRefused) (old new : JobSeen) : Type 0 where
    pub line : LockSeen
    pub post : PostSeen
    pub after : PostSeen
    pub at_line : slice_get lines (old.first + place) ≡ Some line
    pub at_post : slice_get old.posts place ≡ Some post
    pub is : new ≡ record old { posts = slice_set old.posts place after }
    pub is_post : IsPost line old.actor after
    pub tries : Tries terms line.def old.actor post.pass.knows tried after.pass.knows
    pub rests : after.rests ≡ rests_after tried

  -- memory was refused to the actor on what one of the passes has seen
  pub record IsWantedOn (j : JobSeen) : Type 0 where
    pub place : ℕ
    pub post : PostSeen
    pub at : slice_get j.posts place ≡ Some post
    pub is : terms.wanted post.pass.def post.pass.knows.seen j.actor

  -- the actor's step was refused: a line was full, or memory was refused
  abbrev pub IsRefusedOn : JobSeen → StepRefused → Type 0
  IsRefusedOn j (refusals.Full line len) = IsFullOn j line len
  IsRefusedOn j refusals.NoMemory = IsWantedOn j

  -- a processor's try: it has a flow on at most one line; if nothing was due, the post says so, and
  -- the flow is as it was; the other passes are as they were
  pub record StepsCpu (lines : List LockSeen) (place : ℕ)
      (tried : Result (Option Entry) StepRefused) (old new : JobSeen) : Type 0 where
    pub keeps : KeepsPosts terms lines old new
    pub flow : HasOneFlow new
    pub its : HasItsFlow new
    pub rests : tried ≡ Ok None → (s : PostSeen) → slice_get new.posts place ≡ Some s
        → s.rests ≡ true
    pub still : tried ≡ Ok None → new.flow ≡ old.flow
    pub others : (i : ℕ) (s : PostSeen) → (i ≡ place → ⊥) → slice_get new.posts i ≡ Some s
        → slice_get old.posts i ≡ Some s
    pub refused : IfErr tried (IsRefusedOn new)
    pub room : RoomAfter tried old new

  -- a processor's try on the line of its last step, or none: it has a flow on at most one line; if
  -- nothing was due, the flow is as it was
  pub record TriesLast (lines : List LockSeen) (tried : Result (Option Entry) StepRefused)
      (old new : JobSeen) : Type 0 where
    pub keeps : KeepsPosts terms lines old new
    pub flow : HasOneFlow new
    pub its : HasItsFlow new
    pub still : tried ≡ Ok None → new.flow ≡ old.flow
    pub refused : IfErr tried (IsRefusedOn new)
    pub room : RoomAfter tried old new

  -- nothing was due on what any of its posts has seen; or it has a flow, and nothing was due on its
  -- line: it spins there, and looks at no other line
  abbrev pub RestsAll : JobSeen → Type 0
  RestsAll j = (i : ℕ) (s : PostSeen) → slice_get j.posts i ≡ Some s → s.rests ≡ true

  pub record RestsInFlow (j : JobSeen) : Type 0 where
    pub place : ℕ
    pub post : PostSeen
    pub in_flow : j.flow ≡ Some place
    pub at : slice_get j.posts place ≡ Some post
    pub rests : post.rests ≡ true

  -- a processor's attempt: if nothing was due, all its posts say so, or that of its flow's line
  pub record AttemptsCpu (lines : List LockSeen) (tried : Result (Option Entry) StepRefused)
      (old new : JobSeen) : Type 0 where
    pub keeps : KeepsPosts terms lines old new
    pub flow : HasOneFlow new
    pub its : HasItsFlow new
    pub rests : tried ≡ Ok None → RestsAll new ⊎ RestsInFlow new
    pub refused : IfErr tried (IsRefusedOn new)
    pub room : RoomAfter tried old new

  -- a driver's attempt: its entries are its script's calls up to its place; if nothing was due, it
  -- is past all calls, or waits at one
  pub record AttemptsDriver (board : BoardSeen) (lines : List LockSeen) (r : DriverNo)
      (tried : Result (Option Entry) StepRefused) (old new : JobSeen) : Type 0 where
    pub keeps : KeepsPosts terms lines old new
    pub up_to : IsUpTo board.calls (own_lines new.posts) r new.at
    pub within : new.at ≤ length board.calls
    pub rests : tried ≡ Ok None → (length board.calls ≤ new.at) ⊎ WaitsAt board new r
    pub refused : IfErr tried (IsRefusedOn new)
    pub room : RoomAfter tried old new
