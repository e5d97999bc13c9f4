-- The sets go on saying the same as the lists.
use Rattle.std.proofs.Common.{◌≡◌, ℕ, zero, suc, ◌<◌, Bool, true, false, not, ◌&&◌, ◌||◌, cond, eqb, unwrap_or, Option}
use Rattle.std.proofs.Common.{Some, None, List, [], ◌∷◌, length, slice_get, set, replicate, refl, sym, ap, ◌∙◌}
use Rattle.std.proofs.Common.{eqb-true, arith}
use Rattle.std.proofs.lemmas.Bool.{eqb-false}
use Rattle.board_ready.specs.Kept.{thread_of, AreThreads, AreOnLines, AreWaiting, AreReady}
use Rattle.board_ready.specs.Ready.{idle, thread_on, is_barred, is_open, can_go_on, current_call}
use Rattle.board_ready.specs.Sets.{has, leaf, CallsSeen, on_line, word_for, is_wait, is_on, is_waiting, may_go_on}
use Rattle.irq_base.specs.declared.waiting.Blocks.{Blocks}
use Rattle.board_ready.specs.declared.parts.CurrentCall.{CurrentCall}
use Rattle.board_ready.specs.declared.parts.LineReadiness.{LineReadiness}
use Rattle.board_ready.specs.declared.parts.ReadyThread.{ReadyThread}
use Rattle.irq_base.specs.declared.waiting.WaitFor.{WaitFor}
use Rattle.irq_base.specs.declared.waiting.WaitFor.TheVariants as waits

module _ {X : Type 0} where
  -- an item of a list in which one was replaced
  item_same : (xs : List X) (i : ℕ) (y : X) → i < length xs → slice_get (set xs i y) i ≡ Some y
  item_same [] i y inside = absurd (omega (arith, inside))
  item_same (x ∷ xs) zero y inside = refl
  item_same (x ∷ xs) (suc i) y inside = item_same xs i y (omega (arith, inside))

  item_other : (xs : List X) (i k : ℕ) (y : X) → (k ≡ i → ⊥) → slice_get (set xs i y) k ≡ slice_get xs k
  item_other [] i k y other = refl
  item_other (x ∷ xs) zero zero y other = absurd (other refl)
  item_other (x ∷ xs) zero (suc k) y other = refl
  item_other (x ∷ xs) (suc i) zero y other = refl
  item_other (x ∷ xs) (suc i) (suc k) y other = item_other xs i k y (λ e. other (ap suc e))

  pub item_set : (xs : List X) (i k : ℕ) (y : X) → i < length xs → slice_get (set xs i y) k ≡ cond (eqb k i) (Some y) (slice_get xs k)
  item_set xs i k y inside = by_test (eqb k i) refl
    where
      by_test : (b : Bool) → eqb k i ≡ b → slice_get (set xs i y) k ≡ cond b (Some y) (slice_get xs k)
      by_test true same = ap (slice_get (set xs i y)) (eqb-true k i same) ∙ item_same xs i y inside
      by_test false other = item_other xs i k y (eqb-false k i other)

  -- an item of a list of the same ones
  pub item_fresh : {Y : Type 0} (g : Option X → Y) (x : X) (y : Y) (n k : ℕ) → g None ≡ y → g (Some x) ≡ y → g (slice_get (replicate n x) k) ≡ y
  item_fresh g x y zero k none some = none
  item_fresh g x y (suc n) zero none some = some
  item_fresh g x y (suc n) (suc k) none some = item_fresh g x y n k none some

-- one that was taken out where it was, and put in where it is
replaced : (a b x e : Bool) → (e ≡ true → x ≡ a) → cond (b && e) true (cond (a && e) false x) ≡ cond e b x
replaced a true x true h = refl
replaced true false x true h = refl
replaced false false x true h = h refl
replaced true true x false h = refl
replaced true false x false h = refl
replaced false true x false h = refl
replaced false false x false h = refl

-- the driver's call that was replaced
current_set : (drivers : List (Option CurrentCall)) (d r : ℕ) (call : Option CurrentCall) → d < length drivers
    → current_call (set drivers d call) r ≡ cond (eqb r d) call (current_call drivers r)
current_set drivers d r call inside = ap (λ (o : Option (Option CurrentCall)). unwrap_or o None) (item_set drivers d r call inside) ∙ by_test (eqb r d)
  where
    by_test : (b : Bool) → unwrap_or (cond b (Some call) (slice_get drivers r)) None ≡ cond b call (current_call drivers r)
    by_test true = refl
    by_test false = refl

-- a set of the drivers whose calls pass a test
pub drivers_set : (test : Option CurrentCall → Bool) (drivers : List (Option CurrentCall)) (d : ℕ)
    (before call : Option CurrentCall) (old new : ℕ → Bool) → d < length drivers → current_call drivers d ≡ before
    → ((r : ℕ) → r < 64 → old r ≡ test (current_call drivers r))
    → ((r : ℕ) → r < 64 → new r ≡ cond (test call && eqb r d) true (cond (test before && eqb r d) false (old r)))
    → (r : ℕ) → r < 64 → new r ≡ test (current_call (set drivers d call) r)
drivers_set test drivers d before call old new inside at_d was is r small =
    is r small
    ∙ (replaced (test before) (test call) (old r) (eqb r d) (λ same. was r small ∙ (ap (λ k. test (current_call drivers k)) (eqb-true r d same) ∙ ap test at_d))
    ∙ (ap (cond (eqb r d) (test call)) (was r small) ∙ (by_test (eqb r d) ∙ ap test (sym (current_set drivers d r call inside)))))
  where
    by_test : (b : Bool) → cond b (test call) (test (current_call drivers r)) ≡ test (cond b call (current_call drivers r))
    by_test true = refl
    by_test false = refl

-- the drivers that can go on
pub ready_driver : (lines : List LineReadiness) (drivers : List (Option CurrentCall)) (d old new : ℕ)
    (call : Option CurrentCall) → d < length drivers → AreReady lines drivers old
    → ((r : ℕ) → r < 64 → has new r ≡ cond (eqb r d) (can_go_on lines call) (has old r)) → AreReady lines (set drivers d call) new
ready_driver lines drivers d old new call inside was is r small =
    is r small ∙ (ap (cond (eqb r d) (can_go_on lines call)) (was r small)
    ∙ (by_test (eqb r d) ∙ ap (can_go_on lines) (sym (current_set drivers d r call inside))))
  where
    by_test : (b : Bool) → cond b (can_go_on lines call) (can_go_on lines (current_call drivers r)) ≡ can_go_on lines (cond b call (current_call drivers r))
    by_test true = refl
    by_test false = refl

-- a processor's lines, by a test of the lines' parts
pub lines_set : (test : Option LineReadiness → Bool) (lines : List LineReadiness) (i : ℕ)
    (before readiness : LineReadiness) (old new : ℕ → Bool) → i < length lines → slice_get lines i ≡ Some before
    → ((k : ℕ) → k < 64 → old k ≡ test (slice_get lines k))
    → ((k : ℕ) → k < 64 → new k ≡ cond (test (Some readiness) && eqb k i) true (cond (test (Some before) && eqb k i) false (old k)))
    → (k : ℕ) → k < 64 → new k ≡ test (slice_get (set lines i readiness) k)
lines_set test lines i before readiness old new inside at_i was is k small =
    is k small
    ∙ (replaced (test (Some before)) (test (Some readiness)) (old k) (eqb k i)
    (λ same. was k small ∙ (ap (λ j. test (slice_get lines j)) (eqb-true k i same) ∙ ap test at_i))
    ∙ (ap (cond (eqb k i) (test (Some readiness))) (was k small) ∙ (by_test (eqb k i) ∙ ap test (sym (item_set lines i k readiness inside)))))
  where
    by_test : (b : Bool) → cond b (test (Some readiness)) (test (slice_get lines k)) ≡ test (cond b (Some readiness) (slice_get lines k))
    by_test true = refl
    by_test false = refl

-- the threads
pub threads_set : (lines : List LineReadiness) (i : ℕ) (readiness : LineReadiness) (old new : List (Option ReadyThread))
    → i < length lines → AreThreads lines old
    → ((k : ℕ) → k < 64 → leaf new k ≡ cond (eqb k i) (thread_on i readiness.thread) (leaf old k)) → AreThreads (set lines i readiness) new
threads_set lines i readiness old new inside was is k small = is k small
    ∙ (by_test (eqb k i) refl ∙ ap (λ (o : Option LineReadiness). thread_on k (thread_of o))
    (sym (item_set lines i k readiness inside)))
  where
    by_test : (b : Bool) → eqb k i ≡ b → cond b (thread_on i readiness.thread) (leaf old k)
        ≡ thread_on k (thread_of (cond b (Some readiness) (slice_get lines k)))
    by_test true same = ap (λ j. thread_on j readiness.thread) (sym (eqb-true k i same))
    by_test false other = was k small

-- a call can go on if what it waits for doesn't stand in the way
open_by : (wait : WaitFor) (x : Blocks)
    → (is_wait waits.Nothing wait || (is_wait waits.Flow wait && not x.flow) ||
    (is_wait waits.Threads wait && not x.threads) || (is_wait waits.Mutex wait && not x.mutex) ||
    (is_wait waits.Freed wait && not x.freed))
    ≡ not (is_barred wait x)
open_by waits.Nothing x = refl
open_by waits.Flow x = alone (not x.flow)
  where
    alone : (b : Bool) → (((b || false) || false) || false) ≡ b
    alone true = refl
    alone false = refl
open_by waits.Threads x = alone (not x.threads)
  where
    alone : (b : Bool) → ((b || false) || false) ≡ b
    alone true = refl
    alone false = refl
open_by waits.Mutex x = alone (not x.mutex)
  where
    alone : (b : Bool) → (b || false) ≡ b
    alone true = refl
    alone false = refl
open_by waits.Freed x = refl

either : {u v p q : Bool} → u ≡ p → v ≡ q → (u || v) ≡ (p || q)
either {u} {v} {p} {q} a b = ap (λ z. z || v) a ∙ ap (λ z. p || z) b

open_is : (drivers : List (Option CurrentCall)) (calls : CallsSeen) (x : Blocks) (r : ℕ) (call : CurrentCall) → r < 64
    → AreWaiting drivers calls → current_call drivers r ≡ Some call
    → may_go_on x calls.waiting r ≡ not (is_barred call.wait x)
open_is drivers calls x r call small was is =
    either (either (either (either (at waits.Nothing) (ap (λ z. z && not x.flow) (at waits.Flow)))
    (ap (λ z. z && not x.threads) (at waits.Threads))) (ap (λ z. z && not x.mutex) (at waits.Mutex)))
    (ap (λ z. z && not x.freed) (at waits.Freed))
    ∙ open_by call.wait x
  where
    at : (w : WaitFor) → has (word_for w calls.waiting) r ≡ is_wait w call.wait
    at w = was w r small ∙ ap (is_waiting w) is

-- the drivers that can go on when a line's readiness is replaced
pub ready_line : (lines : List LineReadiness) (drivers : List (Option CurrentCall)) (calls : CallsSeen)
    (i old new : ℕ) (readiness : LineReadiness) → i < length lines → i < 64 → AreOnLines drivers calls
    → AreWaiting drivers calls → AreReady lines drivers old
    → ((r : ℕ) → r < 64
    → has new r ≡ cond (has (on_line calls i) r) (may_go_on readiness.blocks calls.waiting r) (has old r))
    → AreReady (set lines i readiness) drivers new
ready_line lines drivers calls i old new readiness inside few on_lines waiting was is r small =
    is r small ∙ (ap (λ b. cond b may (has old r)) (on_lines i r few small)
    ∙ (ap (cond (is_on i (current_call drivers r)) may) (was r small)
    ∙ by_call (current_call drivers r) refl))
  where
    may : Bool
    may = may_go_on readiness.blocks calls.waiting r

    moved : (call : CurrentCall) → current_call drivers r ≡ Some call → (b : Bool) → eqb call.line i ≡ b
        → cond b may (is_open call.wait (slice_get lines call.line))
        ≡ is_open call.wait (slice_get (set lines i readiness) call.line)
    moved call c true same = open_is drivers calls readiness.blocks r call small waiting c
        ∙ ap (is_open call.wait) (sym (item_set lines i call.line readiness inside
        ∙ ap (λ b. cond b (Some readiness) (slice_get lines call.line)) same))
    moved call c false other = ap (is_open call.wait) (sym
        (item_set lines i call.line readiness inside ∙ ap (λ b. cond b (Some readiness) (slice_get lines call.line))
        other))

    by_call : (call : Option CurrentCall) → current_call drivers r ≡ call
        → cond (is_on i call) may (can_go_on lines call) ≡ can_go_on (set lines i readiness) call
    by_call None c = refl
    by_call (Some call) c = moved call c (eqb call.line i) refl

-- nobody waits
abbrev no_call : Option CurrentCall
no_call = None

pub fresh_readiness : {Y : Type 0} (g : Option LineReadiness → Y) (lines : List LineReadiness) (n k : ℕ) (y : Y)
    → lines ≡ replicate n idle → g None ≡ y → g (Some idle) ≡ y → y ≡ g (slice_get lines k)
fresh_readiness g lines n k y is none some = sym (ap (λ (s : List LineReadiness). g (slice_get s k)) is ∙ item_fresh g idle y n k none some)

pub fresh_call : {Y : Type 0} (g : Option CurrentCall → Y) (drivers : List (Option CurrentCall)) (n r : ℕ)
    → drivers ≡ replicate n no_call → g None ≡ g (current_call drivers r)
fresh_call g drivers n r is = sym (ap (λ (s : List (Option CurrentCall)). g (current_call s r)) is
    ∙ item_fresh (λ (o : Option (Option CurrentCall)). g (unwrap_or o None)) no_call (g None) n r refl refl)
