-- How first passes change when the jobs' passes come back.
use Rattle.std.specs.Prelude.{◌≡◌, ℕ, ◌+◌, ◌<◌, ◌⊎◌, false, true, IsSomeAnd, Some, None, List, []}
use Rattle.std.specs.Prelude.{map, length, slice_get, reverse}
use Rattle.irq_base.specs.declared.entries.Actor.{Actor}
use Rattle.irq_base.specs.declared.entries.Actor.TheVariants as actors
use Rattle.irq_base.specs.declared.entries.Entry.{Entry}
use Rattle.irq_base.specs.declared.lines.LineDef.{LineDef}
use Rattle.irq_base.specs.declared.numbers.DriverNo.{DriverNo}
use Rattle.irq_line.specs.Seen.{LineSeen, IsSound}
use Rattle.board_def.specs.Rules.{has_driver}
use Rattle.board_def.specs.Seen.{BoardSeen}
use Rattle.board_play.specs.Kept.{IsUpTo}
use Rattle.board_play.specs.Lines.{BoardLine}
use Rattle.line_lock.specs.Knows.{BeginsWith, is_among, IsKnown, Meets}
use Rattle.line_lock.specs.Passes.{LockSeen, PassSeen, IsPassOf}
use Rattle.line_lock.specs.Placed.{placed}
use Rattle.workers.specs.Fit.{IsJob, actors_on}
use Rattle.workers.specs.Seen.{PostSeen, JobSeen, JobsSeen}

-- a line as a board sees it
abbrev pub board_line : LineSeen → BoardLine
board_line x = record { def = x.def; past = reverse x.entries }

abbrev pub board_lines : List LineSeen → List BoardLine
board_lines lines = map board_line lines

-- a first pass of the line that may meet other passes
pub record IsHome (line : LockSeen) (p : PassSeen) : Type 0 where
  pub of_line : IsPassOf line p
  pub idle : p.turn ≡ false
  pub first : p.knows.actor ≡ None

pub record AreHome (lines : List LockSeen) (firsts : List PassSeen) : Type 0 where
  pub as_many : length firsts ≡ length lines
  pub each : (k : ℕ) (p : PassSeen) → slice_get firsts k ≡ Some p
      → IsSomeAnd (slice_get lines k) (λ l. IsHome l p)

-- the first pass met the job's pass of its line
pub record HasMetOne (lines : List LockSeen) (j : JobSeen) (k : ℕ) (old new : PassSeen)
    : Type 0 where
  pub line : LockSeen
  pub place : ℕ
  pub post : PostSeen
  pub at_line : slice_get lines k ≡ Some line
  pub at_post : slice_get j.posts place ≡ Some post
  pub is : k ≡ j.first + place
  pub met : Meets old.knows post.pass.knows new.knows

-- the job has no pass of the line, and the first pass is as it was
abbrev pub HasMetNone : JobSeen → ℕ → PassSeen → PassSeen → Type 0
HasMetNone j k old new =
    ((place : ℕ) → place < length j.posts → k ≡ j.first + place → ⊥) × (new ≡ old)

-- the first passes met all passes of the job
pub record IsMet (lines : List LockSeen) (j : JobSeen) (old new : List PassSeen) : Type 0 where
  pub home : AreHome lines new
  pub each : (k : ℕ) (p : PassSeen) → slice_get new k ≡ Some p
      → (q : PassSeen) × (slice_get old k ≡ Some q) × (HasMetOne lines j k q p ⊎ HasMetNone j k q p)

-- ---- all of them

-- a line as its first pass has seen it
abbrev pub seen_line : PassSeen → BoardLine
seen_line p = record { def = p.def; past = reverse p.knows.seen }

abbrev pub seen_lines : List PassSeen → List BoardLine
seen_lines firsts = map seen_line firsts

-- the actor was given a pass of the line, and it has come back
abbrev pub IsMetIn : Actor → PassSeen → Type 0
IsMetIn who p = (is_among who p.knows.given ≡ true) × (is_among who p.knows.out ≡ false)

-- the driver's passes have all come back
abbrev pub IsBack : List PassSeen → DriverNo → Type 0
IsBack firsts r =
    (k : ℕ) (p : PassSeen) → slice_get firsts k ≡ Some p → IsMetIn (actors.Driver r) p

-- an actor that is out on the line has one of these jobs, and was given a pass
pub record AreOut (jobs : List JobSeen) (k : ℕ) (p : PassSeen) : Type 0 where
  pub given : (who : Actor) → is_among who p.knows.out ≡ true → is_among who p.knows.given ≡ true
  pub out : (who : Actor) → is_among who p.knows.out ≡ true → is_among who (actors_on k jobs) ≡ true

-- While these jobs are left: each job is right; an actor that is out has one of them; and a driver
-- without a job is back, and its entries in what the first passes have seen are its script's calls
-- up to some place.
pub record Gathers (board : BoardSeen) (lines : List LockSeen) (jobs : List JobSeen)
    (firsts : List PassSeen) : Type 0 where
  pub each : (i : ℕ) (j : JobSeen) → slice_get jobs i ≡ Some j → IsJob board lines j
  pub out : (k : ℕ) (p : PassSeen) → slice_get firsts k ≡ Some p → AreOut jobs k p
  pub drivers : (r : DriverNo) → has_driver board.drivers r ≡ true
      → (is_among (actors.Driver r) (map (λ (j : JobSeen). j.actor) jobs) ≡ true)
      ⊎ (IsBack firsts r × ((place : ℕ) × IsUpTo board.calls (seen_lines firsts) r place))

-- nobody is out, so the lines can be taken out of their locks
pub record IsFinal (line : LockSeen) (p : PassSeen) : Type 0 where
  pub home : IsHome line p
  pub nobody : p.knows.out ≡ []

pub record AreFinal (lines : List LockSeen) (firsts : List PassSeen) : Type 0 where
  pub as_many : length firsts ≡ length lines
  pub each : (k : ℕ) (p : PassSeen) → slice_get firsts k ≡ Some p
      → IsSomeAnd (slice_get lines k) (λ l. IsFinal l p)

-- what holds of all that these passes know
abbrev pub AreKnown : List PassSeen → Type 0
AreKnown firsts = (k : ℕ) (p : PassSeen) → slice_get firsts k ≡ Some p → IsKnown p.knows

abbrev pub AreSound : List LineSeen → Type 0
AreSound lines = (i : ℕ) (x : LineSeen) → slice_get lines i ≡ Some x → IsSound x

-- ---- what is gathered

-- the entries, of a line with this definition, have all of the actor's pass: they begin with what
-- it has seen, and the actor's entries among them are those that it knows as its own
pub record HasAllOf (def : LineDef) (entries : List Entry) (who : Actor) (pass : PassSeen)
    : Type 0 where
  pub of_line : pass.def ≡ def
  pub begins : BeginsWith entries pass.knows.seen
  pub own : placed who entries ≡ pass.knows.mine

-- a job's pass of the line at place k has seen exactly these entries
pub record IsSeenIn (jobs : List JobSeen) (k : ℕ) (entries : List Entry) : Type 0 where
  pub number : ℕ
  pub place : ℕ
  pub job : JobSeen
  pub post : PostSeen
  pub at_job : slice_get jobs number ≡ Some job
  pub at_post : slice_get job.posts place ≡ Some post
  pub is : k ≡ job.first + place
  pub seen : entries ≡ post.pass.knows.seen

-- a job of the actor has a pass of the line at place k
pub record HasPass (jobs : List JobSeen) (k : ℕ) (who : Actor) : Type 0 where
  pub number : ℕ
  pub place : ℕ
  pub job : JobSeen
  pub post : PostSeen
  pub at_job : slice_get jobs number ≡ Some job
  pub at_post : slice_get job.posts place ≡ Some post
  pub is : k ≡ job.first + place
  pub actor : job.actor ≡ who

-- These jobs' passes have come back, and the first passes, which were `old`, have met them: what
-- they have seen now.
pub record AreBack (board : BoardSeen) (jobs : List JobSeen) (old new : List PassSeen)
    : Type 0 where
  pub lines : (k : ℕ) (p : PassSeen) → slice_get new k ≡ Some p
      → (q : PassSeen) × (slice_get old k ≡ Some q) × BeginsWith p.knows.seen q.knows.seen
      × ((p.knows.seen ≡ q.knows.seen) ⊎ IsSeenIn jobs k p.knows.seen)
  pub given : (k : ℕ) (p : PassSeen) → slice_get new k ≡ Some p
      → (q : PassSeen) × (slice_get old k ≡ Some q) × (p.knows.given ≡ q.knows.given)
  pub each : (i place : ℕ) (j : JobSeen) (s : PostSeen) → slice_get jobs i ≡ Some j
      → slice_get j.posts place ≡ Some s → IsSomeAnd (slice_get new (j.first + place))
      (λ p. HasAllOf p.def p.knows.seen j.actor s.pass × IsMetIn j.actor p)
  pub drivers : (i : ℕ) (j : JobSeen) (r : DriverNo) → slice_get jobs i ≡ Some j
      → j.actor ≡ actors.Driver r → IsBack new r × IsUpTo board.calls (seen_lines new) r j.at

-- a pass of the line at place k, its first one or a job's, has seen exactly these entries
abbrev pub IsSeenBy : JobsSeen → ℕ → List Entry → Type 0
IsSeenBy s k entries =
    ((p : PassSeen) × (slice_get s.firsts k ≡ Some p) × (entries ≡ p.knows.seen))
    ⊎ IsSeenIn s.jobs k entries

-- The lines have the histories that the jobs have seen, and nothing else: a line's history is what
-- one of its passes has seen, and begins with what each other has.
pub record AreGathered (s : JobsSeen) (lines : List LineSeen) : Type 0 where
  pub seen : (k : ℕ) (x : LineSeen) → slice_get lines k ≡ Some x → IsSeenBy s k x.entries
  pub firsts : (k : ℕ) (p : PassSeen) → slice_get s.firsts k ≡ Some p
      → IsSomeAnd (slice_get lines k) (λ x. BeginsWith x.entries p.knows.seen)
  pub each : (i place : ℕ) (j : JobSeen) (t : PostSeen) → slice_get s.jobs i ≡ Some j
      → slice_get j.posts place ≡ Some t → IsSomeAnd (slice_get lines (j.first + place))
      (λ x. HasAllOf x.def x.entries j.actor t.pass)
  -- each actor has a job with a pass of the line, or made none of the line's entries
  pub made : (k : ℕ) (x : LineSeen) (who : Actor) → slice_get lines k ≡ Some x
      → HasPass s.jobs k who ⊎ (placed who x.entries ≡ [])
  -- each driver's calls are made up to the place of its job
  pub drivers : (i : ℕ) (j : JobSeen) (r : DriverNo) → slice_get s.jobs i ≡ Some j
      → j.actor ≡ actors.Driver r → IsUpTo s.board.calls (board_lines lines) r j.at
