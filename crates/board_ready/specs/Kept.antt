-- What the ready actors keep: their sets say the same as the two lists.
use Rattle.std.specs.Prelude.{◌≡◌, ℕ, ◌<◌, Option, Some, None, List, slice_get}
use Rattle.irq_base.specs.declared.numbers.DevNo.{DevNo}
use Rattle.board_ready.specs.Sets.{has, leaf, is_of, CallsSeen, on_line, word_for, is_on}
use Rattle.board_ready.specs.Sets.{is_waiting}
use Rattle.board_ready.specs.Ready.{thread_on, has_flow, has_spinner, has_take, current_call}
use Rattle.board_ready.specs.Ready.{can_go_on}
use Rattle.board_ready.specs.declared.parts.CurrentCall.{CurrentCall}
use Rattle.board_ready.specs.declared.parts.LineReadiness.{LineReadiness}
use Rattle.board_ready.specs.declared.parts.ReadyThread.{ReadyThread}
use Rattle.irq_base.specs.declared.waiting.WaitFor.{WaitFor}

-- the ready thread of a line; none if there is no such line
abbrev pub thread_of : Option LineReadiness → Option DevNo
thread_of None = None
thread_of (Some x) = x.thread

abbrev pub AreThreads : List LineReadiness → List (Option ReadyThread) → Type 0
AreThreads lines nodes =
    (k : ℕ) → k < 64 → leaf nodes k ≡ thread_on k (thread_of (slice_get lines k))

abbrev pub AreFlows : List LineReadiness → List ℕ → Type 0
AreFlows lines words =
    (c k : ℕ) → c < 32 → k < 64 → is_of words c k ≡ has_flow c (slice_get lines k)

abbrev pub AreSpinners : List LineReadiness → List ℕ → Type 0
AreSpinners lines words =
    (c k : ℕ) → c < 32 → k < 64 → is_of words c k ≡ has_spinner c (slice_get lines k)

abbrev pub AreTakes : List LineReadiness → List ℕ → Type 0
AreTakes lines words =
    (c k : ℕ) → c < 32 → k < 64 → is_of words c k ≡ has_take c (slice_get lines k)

abbrev pub AreOnLines : List (Option CurrentCall) → CallsSeen → Type 0
AreOnLines drivers calls =
    (k r : ℕ) → k < 64 → r < 64 → has (on_line calls k) r ≡ is_on k (current_call drivers r)

abbrev pub AreWaiting : List (Option CurrentCall) → CallsSeen → Type 0
AreWaiting drivers calls = (w : WaitFor) (r : ℕ) → r < 64
    → has (word_for w calls.waiting) r ≡ is_waiting w (current_call drivers r)

-- the drivers that can go on
abbrev pub AreReady : List LineReadiness → List (Option CurrentCall) → ℕ → Type 0
AreReady lines drivers word =
    (r : ℕ) → r < 64 → has word r ≡ can_go_on lines (current_call drivers r)
