-- What it means that jobs fit their lines. Each part is a fact about one job.
use Rattle.std.specs.Prelude.{◌≡◌, ℕ, ◌+◌, Bool, true, false, ◌≤◌, ◌&&◌, nat_le, nat_lt}
use Rattle.std.specs.Prelude.{IsSomeAnd, Option, Some, None, List, [], ◌++◌, map, filter, reverse}
use Rattle.std.specs.Prelude.{length, slice_get, IsPermutation}
use Rattle.std.specs.List.{list_any}
use Rattle.irq_base.specs.Handlers.{has_thread}
use Rattle.irq_base.specs.declared.devices.DeviceDef.{DeviceDef}
use Rattle.irq_base.specs.declared.lines.FlowKind.{FlowKind}
use Rattle.irq_base.specs.declared.lines.LineDef.{LineDef}
use Rattle.irq_base.specs.declared.entries.Actor.{Actor}
use Rattle.irq_base.specs.declared.entries.Actor.TheVariants as actors
use Rattle.irq_base.specs.declared.entries.Entry.{Entry}
use Rattle.irq_base.specs.declared.numbers.CpuNo.{CpuNo}
use Rattle.irq_base.specs.declared.numbers.DevNo.{DevNo}
use Rattle.irq_base.specs.declared.numbers.LineNo.{LineNo}
use Rattle.irq_model.specs.Kinds.{same_line}
use Rattle.irq_model.specs.Legal.{IsLegal}
use Rattle.irq_model.specs.Rounds.{flow, has_flow}
use Rattle.board_def.specs.Rules.{find_device}
use Rattle.board_def.specs.Seen.{BoardSeen}
use Rattle.board_play.specs.Kept.{IsUpTo}
use Rattle.board_play.specs.Lines.{BoardLine, defs_of}
use Rattle.board_play.specs.Order.{cpus_of, drivers_of}
use Rattle.line_lock.specs.Passes.{LockSeen, PassSeen, IsPassOf}
use Rattle.line_lock.specs.Placed.{placed}
use Rattle.line_lock.specs.declared.view.Known.{Known}
use Rattle.line_lock.specs.declared.view.Placed.{Placed}
use Rattle.workers.specs.Seen.{PostSeen, JobSeen, JobsSeen}
use Rattle.workers.specs.Tries.{IsIdle}

-- ---- lines

abbrev pub numbers_of : List LockSeen → List LineNo
numbers_of lines = map (λ (l : LockSeen). l.def.line) lines

abbrev pub flows_of : List LockSeen → List FlowKind
flows_of lines = map (λ (l : LockSeen). l.def.flow) lines

-- the line with this number stands at this place; no place: there is no such line
abbrev pub IsPlaceOf : List LockSeen → LineNo → Option ℕ → Type 0
IsPlaceOf lines number None = list_any (λ (l : LockSeen). same_line number l.def.line) lines ≡ false
IsPlaceOf lines number (Some k) = IsSomeAnd (slice_get lines k) (λ l. l.def.line ≡ number)

-- the line of the board's device stands at this place
abbrev pub IsPlaceOfDevice : BoardSeen → List LockSeen → DevNo → ℕ → Type 0
IsPlaceOfDevice board lines dev k =
    IsSomeAnd (find_device board.devices dev) (λ x. IsPlaceOf lines x.line (Some k))

-- ---- one job

-- The pass is of this line and this actor, and doesn't have the turn. What it has seen is legal:
-- each entry was due after those before it; and its own entries are the actor's among them. If the
-- post rests, nothing is due on what the pass has seen.
pub record IsPost (line : LockSeen) (who : Actor) (s : PostSeen) : Type 0 where
  pub of_line : IsPassOf line s.pass
  pub idle : s.pass.turn ≡ false
  pub actor : s.pass.knows.actor ≡ Some who
  pub legal : IsLegal line.def s.pass.knows.seen
  pub own : s.pass.knows.mine ≡ placed who s.pass.knows.seen
  pub rests : s.rests ≡ true → IsIdle line.def who s.pass.knows

-- the passes are of consecutive lines, from the job's first line on
abbrev pub ArePosted : List LockSeen → JobSeen → Type 0
ArePosted lines j = (i : ℕ) (s : PostSeen) → slice_get j.posts i ≡ Some s
    → IsSomeAnd (slice_get lines (j.first + i)) (λ l. IsPost l j.actor s)

-- an actor's own entries on a line, the newest first; below, all its lines with its own entries
-- alone
abbrev pub own_past : List Placed → List Entry
own_past mine = reverse (map (λ (x : Placed). x.entry) mine)

abbrev pub own_line : PostSeen → BoardLine
own_line s = record { def = s.pass.def; past = own_past s.pass.knows.mine }

abbrev pub own_lines : List PostSeen → List BoardLine
own_lines posts = map own_line posts

-- a processor has a flow in progress on no line but the one that its job names (`flow`)
abbrev pub HasOneFlow : JobSeen → Type 0
HasOneFlow j = (i : ℕ) (s : PostSeen) → slice_get j.posts i ≡ Some s → (j.flow ≡ Some i → ⊥)
    → has_flow s.pass.def (own_past s.pass.knows.mine) ≡ false

-- by its own entries the processor has a flow in progress on the line
abbrev pub IsInFlow : LineDef → CpuNo → Known → Type 0
IsInFlow def c k = flow def (own_past k.mine) ≡ Some c

-- on the line that its job names (`flow`) a processor has a flow in progress
abbrev pub HasItsFlow : JobSeen → Type 0
HasItsFlow j = (i : ℕ) → j.flow ≡ Some i → (c : CpuNo) × (s : PostSeen) × (j.actor ≡ actors.Cpu c)
    × (slice_get j.posts i ≡ Some s) × IsInFlow s.pass.def c s.pass.knows

-- a thread has a pass of its device's line; a processor has a pass of each line, and a flow on at
-- most one; a driver has a pass of each line, and its calls are made up to its place: its own
-- entries are theirs (the law `own_are_made`)
abbrev pub IsManned : BoardSeen → List LockSeen → JobSeen → Actor → Type 0
IsManned board lines j (actors.Thread dev) =
    (length j.posts ≡ 1) × IsPlaceOfDevice board lines dev j.first
IsManned board lines j (actors.Cpu c) =
    (j.first ≡ 0) × (length j.posts ≡ length lines) × HasOneFlow j × HasItsFlow j
IsManned board lines j (actors.Driver r) = (j.first ≡ 0) × (length j.posts ≡ length lines)
    × IsUpTo board.calls (own_lines j.posts) r j.at × (j.at ≤ length board.calls)

pub record IsJob (board : BoardSeen) (lines : List LockSeen) (j : JobSeen) : Type 0 where
  pub posted : ArePosted lines j
  pub manned : IsManned board lines j j.actor

-- ---- all jobs

-- the actors that have a worker: the threads of the lines' devices, the processors and the drivers
abbrev pub has_worker : List LockSeen → DeviceDef → Bool
has_worker lines x =
    has_thread x.kind && list_any (λ (l : LockSeen). same_line x.line l.def.line) lines

abbrev pub workers_of : BoardSeen → List LockSeen → List Actor
workers_of board lines = map (λ (x : DeviceDef). actors.Thread x.dev)
    (filter (has_worker lines) board.devices) ++ (cpus_of board ++ drivers_of board)

-- the job has a pass of the line at place k
abbrev pub works_on : ℕ → JobSeen → Bool
works_on k j = nat_le j.first k && nat_lt k (j.first + length j.posts)

abbrev pub actors_on : ℕ → List JobSeen → List Actor
actors_on k jobs = map (λ (j : JobSeen). j.actor) (filter (works_on k) jobs)

-- a first pass is of its line and doesn't have the turn; it has seen nothing yet; and it has given
-- passes to exactly the actors whose jobs work on the line, and these passes are out
pub record IsFirst (line : LockSeen) (whom : List Actor) (p : PassSeen) : Type 0 where
  pub of_line : IsPassOf line p
  pub idle : p.turn ≡ false
  pub actor : p.knows.actor ≡ None
  pub nothing : p.knows.seen ≡ []
  pub given : p.knows.given ≡ whom
  pub out : p.knows.out ≡ whom

-- each line has one first pass
pub record AreFirsts (lines : List LockSeen) (jobs : List JobSeen) (firsts : List PassSeen)
    : Type 0 where
  pub as_many : length firsts ≡ length lines
  pub each : (k : ℕ) (p : PassSeen) → slice_get firsts k ≡ Some p
      → IsSomeAnd (slice_get lines k) (λ l. IsFirst l (actors_on k jobs) p)

-- the lines are the board's; each actor has one job, in whatever order; each job is right; and
-- nobody
-- else has a pass
pub record Fit (lines : List LockSeen) (s : JobsSeen) : Type 0 where
  pub defs : map (λ (l : LockSeen). l.def) lines ≡ defs_of s.board
  pub actors : IsPermutation (workers_of s.board lines) (map (λ (j : JobSeen). j.actor) s.jobs)
  pub each : (i : ℕ) (j : JobSeen) → slice_get s.jobs i ≡ Some j → IsJob s.board lines j
  pub firsts : AreFirsts lines s.jobs s.firsts
