-- Who can move, by a search over the lists.
use Rattle.std.specs.Prelude.{ℕ, ◌+◌, ◌==◌, Bool, false, not, if◌then◌else◌, nat_lt, unwrap_or}
use Rattle.std.specs.Prelude.{Option, Some, None, List, [], ◌∷◌, length, slice_get}
use Rattle.irq_base.specs.declared.numbers.CpuNo.{CpuNo}
use Rattle.irq_base.specs.declared.numbers.DevNo.{DevNo}
use Rattle.board_ready.specs.First.{first_of}
use Rattle.board_ready.specs.Seen.{ReadySeen}
use Rattle.irq_base.specs.declared.waiting.Blocks.{Blocks}
use Rattle.board_ready.specs.declared.parts.CurrentCall.{CurrentCall}
use Rattle.board_ready.specs.declared.parts.LineReadiness.{LineReadiness}
use Rattle.board_ready.specs.declared.parts.ReadyActor.{ReadyActor}
use Rattle.board_ready.specs.declared.parts.ReadyActor.TheVariants as actors
use Rattle.board_ready.specs.declared.parts.ReadyThread.{ReadyThread}
use Rattle.irq_base.specs.declared.waiting.WaitFor.{WaitFor}
use Rattle.irq_base.specs.declared.waiting.WaitFor.TheVariants as waits

-- nobody waits on the line, and nothing stands in the way
abbrev pub idle : LineReadiness
idle = record {
  thread = None;
  flow = None;
  spins = false;
  taker = None;
  blocks = record { flow = false; threads = false; mutex = false; freed = false };
}

-- of two threads the one whose device has the lower number; with equal numbers the first
abbrev pub lower : ReadyThread → ReadyThread → ReadyThread
lower a b = if nat_lt b.dev.0 a.dev.0 then b else a

abbrev pub lower_of : Option ReadyThread → Option ReadyThread → Option ReadyThread
lower_of None b = b
lower_of (Some a) None = Some a
lower_of (Some a) (Some b) = Some (lower a b)

-- the thread of the line at place k
abbrev pub thread_on : ℕ → Option DevNo → Option ReadyThread
thread_on k None = None
thread_on k (Some d) = Some (record { line = k; dev = d })

-- the lowest thread of these lines; their first line stands at place k
abbrev pub lowest_from : ℕ → List LineReadiness → Option ReadyThread
lowest_from k [] = None
lowest_from k (x ∷ xs) = lower_of (thread_on k x.thread) (lowest_from (k + 1) xs)

-- the ready thread whose device has the lowest number
abbrev pub lowest_thread : List LineReadiness → Option ReadyThread
lowest_thread lines = lowest_from 0 lines

-- it is processor c
abbrev pub is_cpu : ℕ → Option CpuNo → Bool
is_cpu c None = false
is_cpu c (Some cpu) = cpu.0 == c

-- the line's flow is on processor c; a take of the line is due of processor c
abbrev pub has_flow : ℕ → Option LineReadiness → Bool
has_flow c None = false
has_flow c (Some x) = is_cpu c x.flow

abbrev pub has_take : ℕ → Option LineReadiness → Bool
has_take c None = false
has_take c (Some x) = is_cpu c x.taker

-- the line's flow is on a processor that can't go on
abbrev pub spinner : LineReadiness → Option CpuNo
spinner x = if x.spins then x.flow else None

abbrev pub has_spinner : ℕ → Option LineReadiness → Bool
has_spinner c None = false
has_spinner c (Some x) = is_cpu c (spinner x)

-- the first line that has its flow on processor c, and the first on which a take is due of it
abbrev pub flow_line : List LineReadiness → ℕ → Option ℕ
flow_line lines c = first_of (λ k. has_flow c (slice_get lines k)) (length lines)

abbrev pub take_line : List LineReadiness → ℕ → Option ℕ
take_line lines c = first_of (λ k. has_take c (slice_get lines k)) (length lines)

-- flows go before takes
abbrev pub flow_or_take : Option ℕ → Option ℕ → Option ℕ
flow_or_take None take = take
flow_or_take (Some k) take = Some k

-- the line on which a processor moves, if it can; processors of 32 and above don't
abbrev pub cpu_line : List LineReadiness → ℕ → Option ℕ
cpu_line lines c =
    if nat_lt c 32 then flow_or_take (flow_line lines c) (take_line lines c) else None

-- it can move there, unless it spins
abbrev pub moves_on : List LineReadiness → ℕ → Option ℕ → Bool
moves_on lines c None = false
moves_on lines c (Some k) = not (has_spinner c (slice_get lines k))

abbrev pub is_cpu_ready : List LineReadiness → ℕ → Bool
is_cpu_ready lines c = moves_on lines c (cpu_line lines c)

-- the line on which it can move
abbrev pub moving_line : List LineReadiness → ℕ → Option ℕ
moving_line lines c = if is_cpu_ready lines c then cpu_line lines c else None

-- the first of processors 0 to 31 that moves; opened by name, so that a goal doesn't spell out all
-- 32
unfoldable pub lowest_cpu : List LineReadiness → Option ℕ
lowest_cpu lines = first_of (is_cpu_ready lines) 32

-- what is waited for stands in the way
abbrev pub is_barred : WaitFor → Blocks → Bool
is_barred waits.Nothing x = false
is_barred waits.Flow x = x.flow
is_barred waits.Threads x = x.threads
is_barred waits.Mutex x = x.mutex
is_barred waits.Freed x = x.freed

-- a call can go on at its line; if there is no such line it can't
abbrev pub is_open : WaitFor → Option LineReadiness → Bool
is_open wait None = false
is_open wait (Some x) = not (is_barred wait x.blocks)

abbrev pub can_go_on : List LineReadiness → Option CurrentCall → Bool
can_go_on lines None = false
can_go_on lines (Some call) = is_open call.wait (slice_get lines call.line)

-- the current call of the driver at place r
abbrev pub current_call : List (Option CurrentCall) → ℕ → Option CurrentCall
current_call drivers r = unwrap_or (slice_get drivers r) None

abbrev pub is_driver_ready : ReadySeen → ℕ → Bool
is_driver_ready s r = can_go_on s.lines (current_call s.drivers r)

abbrev pub lowest_driver : ReadySeen → Option ℕ
lowest_driver s = first_of (is_driver_ready s) (length s.drivers)

-- the order: threads, processors, drivers
abbrev pub cpu_actor : Option ℕ → Option ReadyActor
cpu_actor None = None
cpu_actor (Some c) = Some (actors.Cpu (record { 0 = c }))

abbrev pub driver_actor : Option ℕ → Option ReadyActor
driver_actor None = None
driver_actor (Some r) = Some (actors.Driver r)

abbrev pub thread_or : Option ReadyThread → Option ReadyActor → Option ReadyActor
thread_or None m = m
thread_or (Some t) m = Some (actors.Thread t)

abbrev pub lowest_thread_or_cpu : List LineReadiness → Option ReadyActor
lowest_thread_or_cpu lines = thread_or (lowest_thread lines) (cpu_actor (lowest_cpu lines))

abbrev pub or_driver : Option ReadyActor → Option ReadyActor → Option ReadyActor
or_driver None m = m
or_driver (Some first) m = Some first

abbrev pub lowest : ReadySeen → Option ReadyActor
lowest s = or_driver (lowest_thread_or_cpu s.lines) (driver_actor (lowest_driver s))

-- it is this device
abbrev pub is_device : DevNo → Option DevNo → Bool
is_device d None = false
is_device d (Some x) = x.0 == d.0

-- the line's ready thread is the device's
abbrev pub has_thread : DevNo → Option LineReadiness → Bool
has_thread d None = false
has_thread d (Some x) = is_device d x.thread

abbrev pub is_ready : ReadySeen → ReadyActor → Bool
is_ready s (actors.Thread t) = has_thread t.dev (slice_get s.lines t.line)
is_ready s (actors.Cpu cpu) = is_cpu_ready s.lines cpu.0
is_ready s (actors.Driver r) = is_driver_ready s r
