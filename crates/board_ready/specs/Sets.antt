-- The sets of numbers in which the ready actors are kept.
use Rattle.std.specs.Prelude.{◌≡◌, ℕ, zero, suc, ◌+◌, ◌*◌, ◌<◌, ◌==◌, Bool, true, false, not}
use Rattle.std.specs.Prelude.{◌&&◌, ◌||◌, is_some, Option, Some, None, List, slice_index}
use Rattle.std.specs.Prelude.{slice_index_or}
use Rattle.std.specs.Int.{bit_at}
use Rattle.board_ready.specs.First.{first_of}
use Rattle.board_ready.specs.Ready.{lower_of}
use Rattle.board_ready.specs.declared.calls.Waiting.{Waiting}
use Rattle.irq_base.specs.declared.waiting.Blocks.{Blocks}
use Rattle.board_ready.specs.declared.parts.CurrentCall.{CurrentCall}
use Rattle.board_ready.specs.declared.parts.ReadyThread.{ReadyThread}
use Rattle.irq_base.specs.declared.waiting.WaitFor.{WaitFor}
use Rattle.irq_base.specs.declared.waiting.WaitFor.TheVariants as waits

-- the number is in the word
abbrev pub has : ℕ → ℕ → Bool
has word i = bit_at word i == 1

-- the node of the tree, and the thread of the line at place k
abbrev pub node : List (Option ReadyThread) → ℕ → Option ReadyThread
node nodes i = slice_index_or nodes i None

abbrev pub leaf : List (Option ReadyThread) → ℕ → Option ReadyThread
leaf nodes k = node nodes (64 + k)

-- the lowest of n threads from place k on
abbrev pub lowest_in : (ℕ → Option ReadyThread) → ℕ → ℕ → Option ReadyThread
lowest_in f k zero = None
lowest_in f k (suc n) = lower_of (f k) (lowest_in f (k + 1) n)

-- a node is the lowest of the two below it
abbrev pub IsJoined : List (Option ReadyThread) → ℕ → Type 0
IsJoined nodes i = node nodes i ≡ lower_of (node nodes (2 * i)) (node nodes (2 * i + 1))

abbrev pub IsTree : List (Option ReadyThread) → Type 0
IsTree nodes = (i : ℕ) → 0 < i → i < 64 → IsJoined nodes i

-- the line is the processor's
abbrev pub is_of : List ℕ → ℕ → ℕ → Bool
is_of words c k = has (slice_index words c) k

-- the processors that have a line
abbrev pub AreSome : List ℕ → ℕ → Type 0
AreSome words some = (c : ℕ) → c < 64 → has some c ≡ is_some (first_of (is_of words c) 64)

-- the drivers, by the line of their call and by what it waits for
pub record CallsSeen : Type 0 where
  pub lines : List ℕ
  pub waiting : Waiting

abbrev pub on_line : CallsSeen → ℕ → ℕ
on_line s k = slice_index s.lines k

-- the set of the drivers that wait for this
abbrev pub word_for : WaitFor → Waiting → ℕ
word_for waits.Nothing w = w.nothing
word_for waits.Flow w = w.flow
word_for waits.Threads w = w.threads
word_for waits.Mutex w = w.mutex
word_for waits.Freed w = w.freed

-- both are the same thing to wait for
abbrev pub is_wait : WaitFor → WaitFor → Bool
is_wait waits.Nothing waits.Nothing = true
is_wait waits.Flow waits.Flow = true
is_wait waits.Threads waits.Threads = true
is_wait waits.Mutex waits.Mutex = true
is_wait waits.Freed waits.Freed = true
is_wait _ _ = false

-- the call is on line k; the call waits for this
abbrev pub is_on : ℕ → Option CurrentCall → Bool
is_on k None = false
is_on k (Some call) = call.line == k

abbrev pub is_waiting : WaitFor → Option CurrentCall → Bool
is_waiting w None = false
is_waiting w (Some call) = is_wait w call.wait

-- the driver waits for nothing, or for what doesn't stand in the way
abbrev pub may_go_on : Blocks → Waiting → ℕ → Bool
may_go_on x w r = has w.nothing r || (has w.flow r && not x.flow)
    || (has w.threads r && not x.threads) || (has w.mutex r && not x.mutex)
    || (has w.freed r && not x.freed)
