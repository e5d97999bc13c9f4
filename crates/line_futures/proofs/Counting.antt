-- The rule on spurious interrupts reads of the runs of threads only whether there was one since it
-- last looked.
use Rattle.std.proofs.Common.{◌≡◌, ℕ, ◌+◌, ◌≤◌, ◌==◌, Bool, true, false, not, cond, ltb, refl, sym, ap, ◌∙◌, arith, eq-eqb}
use Rattle.irq_base.specs.declared.entries.Note.TheVariants as notes
use Rattle.irq_model.specs.Spurious.{Counts, Noted, counted, unhandled, judged, judged_by_threads, noted}
use Rattle.device_table.specs.Sums.{one_if}
use Rattle.line_futures.specs.Canon.{canon_counts}

pub counts_by : (c d : Counts) → c.irq_count ≡ d.irq_count → c.irqs_unhandled ≡ d.irqs_unhandled
    → c.threads_handled ≡ d.threads_handled → c.deferred ≡ d.deferred → c.last ≡ d.last
    → c.last_unhandled ≡ d.last_unhandled → c ≡ d
counts_by c d h i j k l m =
    (let e : ◌≡◌ {A = Counts} (record {
      irq_count = c.irq_count;
      irqs_unhandled = c.irqs_unhandled;
      threads_handled
          = c.threads_handled;
      deferred = c.deferred;
      last = c.last;
      last_unhandled = c.last_unhandled;
    }) d
    = rw (h, i, j, k, l, m) refl in e)

one_zero : (x : Bool) → (one_if (not x) == 0) ≡ x
one_zero true = refl
one_zero false = refl

-- whether the two differ, with this as their difference
abbrev pub with_threads : ℕ → Counts → Counts
with_threads n c = record c { threads_handled = n; last = 0 }

pub again_same : (c : Counts) → canon_counts (canon_counts c) ≡ canon_counts c
again_same c = ap (λ b. with_threads (one_if (not b)) c) (one_zero (c.threads_handled == c.last))

abbrev pub AreAlike : Counts → Counts → Type 0
AreAlike c d = canon_counts c ≡ canon_counts d

abbrev pub NotedAlike : Noted → Noted → Type 0
NotedAlike a b = (a.note ≡ b.note) × AreAlike a.counts b.counts

abbrev made : Bool → Bool → Bool → Counts → Noted
made z t k x = cond z (record { note = notes.Quiet; counts = x })
    (cond t (record { note = notes.Counted; counts = record x { irq_count = x.irq_count + 1 } })
    (record { note = cond k notes.Killed notes.Counted; counts = record x { irq_count = 0; irqs_unhandled = 0 } }))

counted_same : (w l : ℕ) (c d : Counts) → AreAlike c d → NotedAlike (counted w l c) (counted w l d)
counted_same w l c d h =
    let z : (c.irqs_unhandled == 0) ≡ (d.irqs_unhandled == 0) = ap (λ (x : Counts). x.irqs_unhandled == 0) h in
    let t : ltb (c.irq_count + 1) w ≡ ltb (d.irq_count + 1) w = ap (λ (x : Counts). ltb (x.irq_count + 1) w) h in
    let k : ltb l c.irqs_unhandled ≡ ltb l d.irqs_unhandled = ap (λ (x : Counts). ltb l x.irqs_unhandled) h in
    rw (z, t, k) (by_tests (d.irqs_unhandled == 0) (ltb (d.irq_count + 1) w) (ltb l d.irqs_unhandled))
  where
    by_tests : (z t k : Bool) → NotedAlike (made z t k c) (made z t k d)
    by_tests true t k = (refl, h)
    by_tests false true k = (refl, ap (λ (x : Counts). record x { irq_count = x.irq_count + 1 }) h)
    by_tests false false k = (refl, ap (λ (x : Counts). record x { irq_count = 0; irqs_unhandled = 0 }) h)

judged_same : (w l now : ℕ) (handled : Bool) (c d : Counts) → AreAlike c d → NotedAlike (judged w l now handled c) (judged w l now handled d)
judged_same w l now true c d h = counted_same w l c d h
judged_same w l now false c d h = counted_same w l (unhandled now c) (unhandled now d) (ap (unhandled now) h)

differ_none : (n : ℕ) → one_if (not (n == n)) ≡ 0
differ_none n = ap (λ b. one_if (not b)) (eq-eqb n n refl)

looked_same : (c : Counts) (n : ℕ) → AreAlike (record c { threads_handled = n; last = n }) (record c { last = c.threads_handled })
looked_same c n = ap (λ k. with_threads k c) (differ_none n ∙ sym (differ_none c.threads_handled))

by_threads_same : (w l now : ℕ) (c : Counts) → NotedAlike (judged_by_threads w l now (canon_counts c)) (judged_by_threads w l now c)
by_threads_same w l now c = rw (one_zero (c.threads_handled == c.last)) (by_test (c.threads_handled == c.last))
  where
    by_test : (b : Bool) → NotedAlike (cond b (judged w l now false (canon_counts c))
        (judged w l now true (record (canon_counts c) { last = one_if (not (c.threads_handled == c.last)) })))
        (cond b (judged w l now false c) (judged w l now true (record c { last = c.threads_handled })))
    by_test true = judged_same w l now false (canon_counts c) c (again_same c)
    by_test false = judged_same w l now true (record (canon_counts c)
        { last = one_if (not (c.threads_handled == c.last)) }) (record c { last = c.threads_handled })
        (looked_same c (one_if (not (c.threads_handled == c.last))))

pub noted_same : (w l now : ℕ) (wake handled : Bool) (c : Counts) → NotedAlike (noted w l now wake handled (canon_counts c)) (noted w l now wake handled c)
noted_same w l now false handled c = judged_same w l now handled (canon_counts c) c (again_same c)
noted_same w l now true true c = judged_same w l now true (record (canon_counts c) { deferred = false })
    (record c { deferred = false }) (ap (λ (x : Counts). record x { deferred = false }) (again_same c))
noted_same w l now true false c = by_deferred c.deferred
  where
    by_deferred : (b : Bool) → NotedAlike (cond b (judged_by_threads w l now (canon_counts c))
        (record { note = notes.Quiet; counts = record (canon_counts c) { deferred = true } }))
        (cond b (judged_by_threads w l now c) (record { note = notes.Quiet; counts = record c { deferred = true } }))
    by_deferred true = by_threads_same w l now c
    by_deferred false = (refl, ap (λ (x : Counts). record x { deferred = true }) (again_same c))

-- one more run that served
one_more : (h l : ℕ) → l ≤ h → (h + 1 == l) ≡ false
one_more h l le = grind arith

pub thread_same : (c : Counts) → c.last ≤ c.threads_handled
    → AreAlike (record (canon_counts c) { threads_handled = one_if (not (c.threads_handled == c.last)) + 1 })
    (record c { threads_handled = c.threads_handled + 1 })
thread_same c le =
    let n : ℕ = one_if (not (c.threads_handled == c.last)) in
    ap (λ b. with_threads (one_if (not b)) c) (one_more (one_if (not (c.threads_handled == c.last))) 0 (omega arith)
    ∙ sym (one_more c.threads_handled c.last le))
