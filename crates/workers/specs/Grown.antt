-- How what passes have seen grows.
use Rattle.std.specs.Prelude.{◌≡◌, ℕ, ◌+◌, IsSomeAnd, Some, None, List, [], ◌∷◌, ◌++◌, length}
use Rattle.std.specs.Prelude.{slice_get}
use Rattle.irq_base.specs.declared.devices.Answer.{Answer}
use Rattle.irq_base.specs.declared.devices.Run.{Run}
use Rattle.line_lock.specs.Knows.{BeginsWith}
use Rattle.line_lock.specs.Passes.{PassSeen}
use Rattle.line_lock.specs.declared.view.Placed.{Placed}
use Rattle.workers.specs.Given.{IsPassGiven}
use Rattle.workers.specs.Seen.{PostSeen, JobSeen, JobsSeen}

-- The later pass is of the same line and actor. What it has seen begins with what the earlier one
-- had seen, and its own entries begin with the earlier one's. If each run that the actor had ended
-- was answered by a call, so is each that it has ended now.
pub record Grows (gave : Run → Answer → Type 0) (old new : PostSeen) : Type 0 where
  pub table : new.pass.table ≡ old.pass.table
  pub def : new.pass.def ≡ old.pass.def
  pub actor : new.pass.knows.actor ≡ old.pass.knows.actor
  pub seen : BeginsWith new.pass.knows.seen old.pass.knows.seen
  pub mine : (rest : List Placed) × (new.pass.knows.mine ≡ old.pass.knows.mine ++ rest)
  pub given : IsPassGiven gave old.pass → IsPassGiven gave new.pass

abbrev pub PostsGrow : (gave : Run → Answer → Type 0) → List PostSeen → List PostSeen → Type 0
PostsGrow gave old new = (i : ℕ) (s : PostSeen) → slice_get old i ≡ Some s
    → IsSomeAnd (slice_get new i) (λ t. Grows gave s t)

-- the same actor's job, with passes of the same lines, which have seen as much or more
pub record JobGrows (gave : Run → Answer → Type 0) (old new : JobSeen) : Type 0 where
  pub actor : new.actor ≡ old.actor
  pub first : new.first ≡ old.first
  pub as_many : length new.posts ≡ length old.posts
  pub posts : PostsGrow gave old.posts new.posts

-- each job is there still, and grows
pub record JobsGrow (gave : Run → Answer → Type 0) (old new : List JobSeen) : Type 0 where
  pub as_many : length new ≡ length old
  pub each : (i : ℕ) (j : JobSeen) → slice_get old i ≡ Some j
      → IsSomeAnd (slice_get new i) (λ k. JobGrows gave j k)

-- how many entries the passes know as their own, that is, how many steps they have made
abbrev pub made_by : List PostSeen → ℕ
made_by [] = 0
made_by (s ∷ rest) = length s.pass.knows.mine + made_by rest

-- ---- at first

-- no pass has seen anything, a processor has no flow, and a driver is at its first call
pub record IsNewJob (j : JobSeen) : Type 0 where
  pub flow : j.flow ≡ None
  pub at : j.at ≡ 0
  pub posts : (i : ℕ) (s : PostSeen) → slice_get j.posts i ≡ Some s
      → (s.pass.knows.seen ≡ []) × (s.pass.knows.mine ≡ [])

abbrev pub HaveSeenNothing : List PassSeen → Type 0
HaveSeenNothing firsts = (k : ℕ) (p : PassSeen) → slice_get firsts k ≡ Some p → p.knows.seen ≡ []

pub record AreNew (s : JobsSeen) : Type 0 where
  pub jobs : (i : ℕ) (j : JobSeen) → slice_get s.jobs i ≡ Some j → IsNewJob j
  pub firsts : HaveSeenNothing s.firsts
