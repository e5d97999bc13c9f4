-- How first passes change when an actor gets its passes.
use Rattle.std.specs.Prelude.{◌≡◌, ℕ, ◌+◌, Bool, true, false, ◌&&◌, nat_le, nat_lt, Some, None}
use Rattle.std.specs.Prelude.{List, [], ◌∷◌, ◌++◌, map, length, slice_get}
use Rattle.irq_base.specs.declared.entries.Actor.{Actor}
use Rattle.irq_base.specs.declared.entries.Actor.TheVariants as actors
use Rattle.board_def.specs.Seen.{BoardSeen}
use Rattle.board_play.specs.Lines.{defs_of}
use Rattle.line_lock.specs.Knows.{is_among, forked, newcomer}
use Rattle.line_lock.specs.Passes.{LockSeen, PassSeen, IsPassOf}
use Rattle.workers.specs.Fit.{IsPlaceOfDevice, IsJob, AreFirsts}
use Rattle.workers.specs.Seen.{PostSeen, JobSeen, JobsSeen}

-- the first pass of the line can give a pass to the actor
pub record CanFork (line : LockSeen) (who : Actor) (p : PassSeen) : Type 0 where
  pub of_line : IsPassOf line p
  pub idle : p.turn ≡ false
  pub first : p.knows.actor ≡ None
  pub fresh : is_among who p.knows.given ≡ false

-- the post has the pass that the first pass gave to the actor
pub record IsForkOf (line : LockSeen) (who : Actor) (first : PassSeen) (s : PostSeen) : Type 0 where
  pub of_line : IsPassOf line s.pass
  pub idle : s.pass.turn ≡ false
  pub knows : s.pass.knows ≡ newcomer first.knows who
  pub rests : s.rests ≡ false

-- the first pass afterwards, whether it gave a pass or not
pub record Gave (who : Actor) (old new : PassSeen) : Type 0 where
  pub table : new.table ≡ old.table
  pub def : new.def ≡ old.def
  pub idle : new.turn ≡ false
  pub knows : new.knows ≡ forked old.knows who

abbrev pub IsLeft : Bool → Actor → PassSeen → PassSeen → Type 0
IsLeft true who old new = Gave who old new
IsLeft false who old new = new ≡ old

abbrev pub is_within : ℕ → ℕ → ℕ → Bool
is_within first end k = nat_le first k && nat_lt k end

-- one post for each line from index `first` up to, not including, `end`
pub record Forks (lines : List LockSeen) (first end : ℕ) (who : Actor) (old new : List PassSeen)
    (posts : List PostSeen) : Type 0 where
  pub as_many : length new ≡ length old
  pub count : first + length posts ≡ end
  pub each : (i : ℕ) (s : PostSeen) → slice_get posts i ≡ Some s
      → (l : LockSeen) × (p : PassSeen) × (slice_get lines (first + i) ≡ Some l)
      × (slice_get old (first + i) ≡ Some p) × IsForkOf l who p s
  pub left : (k : ℕ) (p : PassSeen) → slice_get new k ≡ Some p
      → (q : PassSeen) × (slice_get old k ≡ Some q) × IsLeft (is_within first end k) who q p

-- the lines are the board's
abbrev pub AreBoards : BoardSeen → List LockSeen → Type 0
AreBoards board lines = map (λ (l : LockSeen). l.def) lines ≡ defs_of board

-- the line of a thread's device is among the lines
abbrev pub IsThere : BoardSeen → List LockSeen → Actor → Type 0
IsThere board lines (actors.Thread dev) = (k : ℕ) × IsPlaceOfDevice board lines dev k
IsThere board lines _ = Unit {0}

-- the actor has passes of the lines from index `first` up to, not including, `end`
abbrev pub IsSpan : BoardSeen → List LockSeen → Actor → ℕ → ℕ → Type 0
IsSpan board lines (actors.Thread dev) first end =
    IsPlaceOfDevice board lines dev first × (end ≡ first + 1)
IsSpan board lines _ first end = (first ≡ 0) × (end ≡ length lines)

-- there is one more job, the actor's, and it is right
pub record Hires (lines : List LockSeen) (who : Actor) (old new : JobsSeen) : Type 0 where
  pub job : JobSeen
  pub jobs : new.jobs ≡ old.jobs ++ job ∷ []
  pub actor : job.actor ≡ who
  pub is : IsJob old.board lines job
  pub firsts : AreFirsts lines new.jobs new.firsts
