-- What one end makes of the counts of the rule on spurious interrupts, as numbers.
use Rattle.std.proofs.Common.{◌≡◌, ℕ, ◌+◌, ◌-◌, ◌*◌, ◌<◌, ◌≤◌, ◌==◌, ◌⊎◌, inl, inr, Bool, true, false, not, ◌||◌, ◌&&◌}
use Rattle.std.proofs.Common.{cond, nat_lt, refl, sym, ap, ◌∙◌, subst, arith, eqb-true, le-ltb, lt-ltb}
use Rattle.std.proofs.lemmas.Bool.{ltb-true, ltb-false, eqb-false, eq-eqb}
use Rattle.irq_base.specs.declared.entries.Note.{Note}
use Rattle.irq_base.specs.declared.entries.Note.TheVariants as notes
use Rattle.irq_model.specs.Spurious.{Counts, Noted, counted, unhandled, judged, noted}
use Rattle.irq_storms.specs.Judged.{one_if, Judgement, Handled, Nothing, judged_as, is_handled_judgement}
use Rattle.irq_storms.specs.Judged.{is_nothing_judgement, is_deferred_judgement, is_late, is_forgiving, allowance}
use Rattle.irq_storms.proofs.Counting.{mark_most}

abbrev pub is_killed : Note → Bool
is_killed notes.Killed = true
is_killed _ = false

-- ---- the three ways of a count

abbrev goes_on : Counts → Noted
goes_on c = record { note = notes.Counted; counts = record c { irq_count = c.irq_count + 1 } }

abbrev closes : ℕ → Counts → Noted
closes limit c = record { note = cond (nat_lt limit c.irqs_unhandled) notes.Killed notes.Counted; counts = record c { irq_count = 0; irqs_unhandled = 0 } }

by_count : (P : Noted → Type 0) (window limit : ℕ) (c : Counts) → (c.irqs_unhandled ≡ 0 → P (record { note = notes.Quiet; counts = c }))
    → ((c.irqs_unhandled ≡ 0 → ⊥) → c.irq_count + 1 < window → P (goes_on c))
    → ((c.irqs_unhandled ≡ 0 → ⊥) → window ≤ c.irq_count + 1 → P (closes limit c)) → P (counted window limit c)
by_count P window limit c quiet more over = by_tests (c.irqs_unhandled == 0) (nat_lt (c.irq_count + 1) window) refl refl
  where
    by_tests : (z m : Bool) → (c.irqs_unhandled == 0) ≡ z → nat_lt (c.irq_count + 1) window ≡ m
        → P (cond z (record { note = notes.Quiet; counts = c }) (cond m (goes_on c) (closes limit c)))
    by_tests true m is im = quiet (eqb-true c.irqs_unhandled 0 is)
    by_tests false true is im = more (eqb-false c.irqs_unhandled 0 is) (ltb-true (c.irq_count + 1) window im)
    by_tests false false is im = over (eqb-false c.irqs_unhandled 0 is) (ltb-false (c.irq_count + 1) window im)

-- ---- what a count keeps

pub record Keeps (c : Counts) (n : Noted) : Type 0 where
  pub threads : n.counts.threads_handled ≡ c.threads_handled
  pub last : n.counts.last ≡ c.last
  pub deferred : n.counts.deferred ≡ c.deferred

counted_keeps : (window limit : ℕ) (c : Counts) → Keeps c (counted window limit c)
counted_keeps window limit c =
    by_count (λ n. Keeps c n) window limit c (λ z. record { threads = refl; last = refl; deferred = refl })
    (λ z m. record { threads = refl; last = refl; deferred = refl })
    (λ z m. record { threads = refl; last = refl; deferred = refl })

judged_keeps : (window limit at : ℕ) (b : Bool) (c : Counts) → Keeps c (judged window limit at b c)
judged_keeps window limit at true c = counted_keeps window limit c
judged_keeps window limit at false c =
    let k = counted_keeps window limit (unhandled at c) in record { threads = k.threads; last = k.last; deferred = k.deferred }

counted_small : (window limit : ℕ) (c : Counts) → c.irq_count < window → (counted window limit c).counts.irq_count < window
counted_small window limit c small = by_count (λ n. n.counts.irq_count < window) window limit c (λ z. small) (λ z m. m) (λ z m. omega (arith, small))

judged_small : (window limit at : ℕ) (b : Bool) (c : Counts) → c.irq_count < window → (judged window limit at b c).counts.irq_count < window
judged_small window limit at true c small = counted_small window limit c small
judged_small window limit at false c small = counted_small window limit (unhandled at c) small

-- ---- what the window allows

pub allowed_most : (window at : ℕ) (c : Counts) → allowance window at c ≤ 2 * window
allowed_most window at c = by_test (is_forgiving at c)
  where
    by_test : (b : Bool) → cond b (2 * window - c.irq_count) (window - c.irq_count) ≤ 2 * window
    by_test true = omega arith
    by_test false = omega arith

pub most_unless : (b : Bool) (n m : ℕ) → n ≤ m → cond b 0 n ≤ m
most_unless true n m h = omega arith
most_unless false n m h = h

no_time : (at : ℕ) → nat_lt 100 (at - at) ≡ false
no_time at = le-ltb 100 (at - at) (omega arith)

-- the two ways in which a window stands: it forgives, or all its ends were unhandled
abbrev Stands : ℕ → ℕ → ℕ → ℕ → Type 0
Stands window count u a = (a ≡ 2 * window - count) ⊎ ((a ≡ window - count) × (count + 1 ≤ u))

in_window : (window at count u a : ℕ) → count + 1 < window → Stands window count u a
    → 1 + cond (nat_lt 100 (at - at) || nat_lt u (count + 1)) (2 * window - (count + 1)) (window - (count + 1)) ≤ a
in_window window at count u a more (inl forgives) = by_test (nat_lt 100 (at - at) || nat_lt u (count + 1))
  where
    by_test : (b : Bool) → 1 + cond b (2 * window - (count + 1)) (window - (count + 1)) ≤ a
    by_test true = omega (arith, more, forgives)
    by_test false = omega (arith, more, forgives)
in_window window at count u a more (inr strict) =
    let f = le-ltb u (count + 1) (strict.1) in
    let same : cond (nat_lt 100 (at - at) || nat_lt u (count + 1)) (2 * window - (count + 1)) (window - (count + 1))
    ≡ window - (count + 1) = rw (no_time at, f) refl in
    let a_is = strict.0 in
    omega (arith, same, more, a_is)

at_close : (window limit at count u a : ℕ) → limit < window → count < window → window ≤ count + 1 → Stands window count u a
    → 1 + cond (is_killed (cond (nat_lt limit u) notes.Killed notes.Counted)) 0 (cond (nat_lt 100 (at - at) || nat_lt 0 0) (2 * window - 0) (window - 0)) ≤ a
at_close window limit at count u a lim small over (inl forgives) =
    let same : cond (nat_lt 100 (at - at) || nat_lt 0 0) (2 * window - 0) (window - 0) ≡ window - 0 = rw (no_time at) refl in
    let most = most_unless (is_killed (cond (nat_lt limit u) notes.Killed notes.Counted))
    (cond (nat_lt 100 (at - at) || nat_lt 0 0) (2 * window - 0) (window - 0)) window (omega (arith, same)) in
    omega (arith, most, small, over, forgives)
at_close window limit at count u a lim small over (inr strict) =
    let c = strict.1 in
    let kills : nat_lt limit u ≡ true = lt-ltb limit u (omega (arith, lim, over, c)) in
    let none : cond (is_killed (cond (nat_lt limit u) notes.Killed notes.Counted)) 0
    (cond (nat_lt 100 (at - at) || nat_lt 0 0) (2 * window - 0) (window - 0)) ≡ 0 = rw kills refl in
    let a_is = strict.0 in
    omega (arith, none, small, a_is)

-- after a note that kills, what a start allows beside a window: another one if it comes late
abbrev pub room_after : ℕ → ℕ → Noted → ℕ
room_after window at n = cond (is_killed n.note) (cond (is_late at n.counts) window 0) (allowance window at n.counts)

-- what is allowed after a note, which may kill the line
abbrev pub allowed_after : ℕ → ℕ → Noted → ℕ
allowed_after window at n = cond (is_killed n.note) 0 (allowance window at n.counts)

unhandled_window : (window limit at : ℕ) (c : Counts) (a : ℕ) → limit < window → c.irq_count < window
    → 1 ≤ c.irqs_unhandled → c.last_unhandled ≡ at → Stands window c.irq_count c.irqs_unhandled a
    → 1 + allowed_after window at (counted window limit c) ≤ a
unhandled_window window limit at c a lim small some same stands =
    by_count (λ n. 1 + allowed_after window at n ≤ a) window limit c (λ z. absurd (omega (arith, z, some)))
    (λ z more. subst (λ (x : ℕ). 1 + cond (nat_lt 100 (at - x) || nat_lt c.irqs_unhandled (c.irq_count + 1))
    (2 * window - (c.irq_count + 1)) (window - (c.irq_count + 1)) ≤ a) (sym same)
    (in_window window at c.irq_count c.irqs_unhandled a more stands))
    (λ z over. subst (λ (x : ℕ). 1 + cond (is_killed (cond (nat_lt limit c.irqs_unhandled) notes.Killed notes.Counted))
    0 (cond (nat_lt 100 (at - x) || nat_lt 0 0) (2 * window - 0) (window - 0)) ≤ a) (sym same)
    (at_close window limit at c.irq_count c.irqs_unhandled a lim small over stands))

-- an end that is judged nothing takes one of what was allowed
nothing_window : (window limit at : ℕ) (c : Counts) → limit < window → c.irq_count < window
    → 1 + allowed_after window at (judged window limit at false c) ≤ allowance window at c
nothing_window window limit at c lim small = by_tests (nat_lt 100 (at - c.last_unhandled)) (nat_lt c.irqs_unhandled c.irq_count) refl
  where
    by_tests : (r b : Bool) → nat_lt c.irqs_unhandled c.irq_count ≡ b
        → 1 + allowed_after window at (counted window limit
        (record c { irqs_unhandled = cond r 1 (c.irqs_unhandled + 1); last_unhandled = at })) ≤ cond (r || b)
        (2 * window - c.irq_count) (window - c.irq_count)
    by_tests true b ib = unhandled_window window limit at (record c { irqs_unhandled = 1; last_unhandled = at }) _ lim small (omega arith) refl (inl refl)
    by_tests false true ib = unhandled_window window limit at
        (record c { irqs_unhandled = c.irqs_unhandled + 1; last_unhandled = at }) _ lim small (omega arith) refl
        (inl refl)
    by_tests false false ib =
        let le = ltb-false c.irqs_unhandled c.irq_count ib in
        unhandled_window window limit at (record c { irqs_unhandled = c.irqs_unhandled + 1; last_unhandled = at }) _ lim
        small (omega arith) refl (inr (refl, omega (arith, le)))

-- a handled end gives at most one window back
handled_more : (window count u : ℕ) (l : Bool) → count < window
    → cond (l || nat_lt u (count + 1)) (2 * window - (count + 1)) (window - (count + 1))
    ≤ window + cond (l || nat_lt u count) (2 * window - count) (window - count)
handled_more window count u l small = by_tests (l || nat_lt u (count + 1)) (l || nat_lt u count)
  where
    by_tests : (a b : Bool) → cond a (2 * window - (count + 1)) (window - (count + 1)) ≤ window + cond b (2 * window - count) (window - count)
    by_tests true true = omega (arith, small)
    by_tests true false = omega (arith, small)
    by_tests false true = omega (arith, small)
    by_tests false false = omega (arith, small)

handled_close : (window count u : ℕ) (k l : Bool) → count < window
    → cond k (cond l window 0) (cond (l || nat_lt 0 0) (2 * window - 0) (window - 0)) ≤ window + cond
    (l || nat_lt u count) (2 * window - count) (window - count)
handled_close window count u true true small = omega arith
handled_close window count u true false small = omega arith
handled_close window count u false true small = omega (arith, small)
handled_close window count u false false small = omega arith

handled_room : (window limit at : ℕ) (c : Counts) → c.irq_count < window
    → room_after window at (judged window limit at true c) ≤ window + allowance window at c
handled_room window limit at c small =
    by_count (λ n. room_after window at n ≤ window + allowance window at c) window limit c (λ z. omega arith)
    (λ z more. handled_more window c.irq_count c.irqs_unhandled (is_late at c) small)
    (λ z over. handled_close window c.irq_count c.irqs_unhandled
    (is_killed (cond (nat_lt limit c.irqs_unhandled) notes.Killed notes.Counted)) (is_late at c) small)

-- an end that is judged nothing isn't late any more
same_unhandled : (window limit : ℕ) (c : Counts) → (counted window limit c).counts.last_unhandled ≡ c.last_unhandled
same_unhandled window limit c = by_count (λ n. n.counts.last_unhandled ≡ c.last_unhandled) window limit c (λ z. refl) (λ z m. refl) (λ z m. refl)

nothing_room : (window limit at : ℕ) (c : Counts) → limit < window → c.irq_count < window
    → 1 + room_after window at (judged window limit at false c) ≤ allowance window at c
nothing_room window limit at c lim small =
    let n = nothing_window window limit at c lim small in
    let late : is_late at (judged window limit at false c).counts ≡ false =
    ap (λ (l : ℕ). nat_lt 100 (at - l)) (same_unhandled window limit (unhandled at c)) ∙ no_time at in
    let same : room_after window at (judged window limit at false c) ≡ allowed_after window at (judged window limit at false c) =
    ap (λ (l : Bool). cond (is_killed (judged window limit at false c).note) (cond l window 0)
    (allowance window at (judged window limit at false c).counts)) late in
    omega (arith, n, same)

-- ---- an end

pub record EndFacts (window limit at : ℕ) (w h : Bool) (c : Counts) (n : Noted) (j : Judgement) : Type 0 where
  -- an end judged handled has a handled return of its round, or a thread that served since
  pub marks : one_if (is_handled_judgement j) + one_if (not (n.counts.threads_handled == n.counts.last)) ≤ one_if h + one_if (not (c.threads_handled == c.last))
  -- only an end whose round both woke and handled gives the deferred mark up
  pub deferred : one_if (is_deferred_judgement j) + one_if c.deferred ≤ one_if (w && h) + one_if n.counts.deferred
  pub clears : one_if (w && h) ≤ one_if (is_handled_judgement j)
  pub small : c.irq_count < window → n.counts.irq_count < window
  pub allows : limit < window → c.irq_count < window → one_if (is_nothing_judgement j) + room_after window at n ≤
      cond (is_handled_judgement j) window 0 + allowance window at c
  -- a killed line's window is empty
  pub empties : is_killed n.note ≡ true → (n.counts.irq_count ≡ 0) × (n.counts.irqs_unhandled ≡ 0)

same_marks : (window limit at : ℕ) (b : Bool) (c : Counts)
    → one_if (not ((judged window limit at b c).counts.threads_handled == (judged window limit at b c).counts.last))
    ≡ one_if (not (c.threads_handled == c.last))
same_marks window limit at b c = let k = judged_keeps window limit at b c in rw (k.threads, k.last) refl

same_deferred : (window limit at : ℕ) (b : Bool) (c : Counts) → one_if (judged window limit at b c).counts.deferred ≡ one_if c.deferred
same_deferred window limit at b c = ap one_if (judged_keeps window limit at b c).deferred

counted_empties : (window limit : ℕ) (c : Counts) → is_killed (counted window limit c).note ≡ true
    → ((counted window limit c).counts.irq_count ≡ 0) × ((counted window limit c).counts.irqs_unhandled ≡ 0)
counted_empties window limit c =
    by_count (λ n. is_killed n.note ≡ true → (n.counts.irq_count ≡ 0) × (n.counts.irqs_unhandled ≡ 0)) window limit c (λ z h. cc) (λ z m h. cc)
    (λ z m h. (refl, refl))

judged_empties : (window limit at : ℕ) (b : Bool) (c : Counts) → is_killed (judged window limit at b c).note ≡ true
    → ((judged window limit at b c).counts.irq_count ≡ 0) × ((judged window limit at b c).counts.irqs_unhandled ≡ 0)
judged_empties window limit at true c h = counted_empties window limit c h
judged_empties window limit at false c h = counted_empties window limit (unhandled at c) h

judged_nothing : (window limit at : ℕ) (w h : Bool) (c : Counts) → (w && h) ≡ false → EndFacts window limit at w h c (judged window limit at false c) Nothing
judged_nothing window limit at w h c no_clear =
    record {
      marks = (let s = same_marks window limit at false c in omega (arith, s));
      deferred = (let s = same_deferred window limit at false c in omega (arith, s));
      clears = (let n : one_if (w && h) ≡ 0 = ap one_if no_clear in omega (arith, n));
      small = judged_small window limit at false c;
      allows = λ lim small. (let n = nothing_room window limit at c lim small in omega (arith, n));
      empties = judged_empties window limit at false c;
    }

-- d: the counts that are judged; its deferred mark and its `last` may differ from those of c
same_allowance : (window at : ℕ) (c d : Counts) → d.irq_count ≡ c.irq_count → d.irqs_unhandled ≡ c.irqs_unhandled
    → d.last_unhandled ≡ c.last_unhandled → allowance window at d ≡ allowance window at c
same_allowance window at c d i j k = rw (i, j, k) refl

judged_handled : (window limit at : ℕ) (w h : Bool) (c d : Counts) → d.irq_count ≡ c.irq_count
    → d.irqs_unhandled ≡ c.irqs_unhandled → d.last_unhandled ≡ c.last_unhandled
    → 1 + one_if (not (d.threads_handled == d.last)) ≤ one_if h + one_if (not (c.threads_handled == c.last))
    → one_if c.deferred ≤ one_if (w && h) + one_if d.deferred → EndFacts window limit at w h c (judged window limit at true d) Handled
judged_handled window limit at w h c d same unhandled_is last_is marks cleared =
    record {
      marks = (let s = same_marks window limit at true d in omega (arith, s, marks));
      deferred = (let s = same_deferred window limit at true d in omega (arith, s, cleared));
      clears = mark_most (w && h);
      small = λ small. judged_small window limit at true d (omega (arith, small, same));
      allows = λ lim small. (let m = handled_room window limit at d (omega (arith, small, same)) in
          let a = same_allowance window at c d same unhandled_is last_is in omega (arith, m, a));
      empties = judged_empties window limit at true d;
    }

same_here : (n : ℕ) → (n == n) ≡ true
same_here n = eq-eqb n n refl

pub end_facts : (window limit at : ℕ) (w h : Bool) (c : Counts)
    → EndFacts window limit at w h c (noted window limit at w h c)
    (judged_as w h c.deferred (c.threads_handled == c.last))
end_facts window limit at w h c = by_tests w h c.deferred (c.threads_handled == c.last) refl refl
  where
    by_tests : (w h d s : Bool) → c.deferred ≡ d → (c.threads_handled == c.last) ≡ s
        → EndFacts window limit at w h c (cond (w && not h)
        (cond d (cond s (judged window limit at false c)
        (judged window limit at true (record c { last = c.threads_handled })))
        (record { note = notes.Quiet; counts = record c { deferred = true } }))
        (judged window limit at h (cond w (record c { deferred = false }) c))) (judged_as w h d s)
    by_tests true false true true id is = judged_nothing window limit at true false c refl
    by_tests true false true false id is =
        judged_handled window limit at true false c (record c { last = c.threads_handled }) refl refl refl
        (let now : one_if (not (c.threads_handled == c.threads_handled)) ≡ 0 = ap (λ (b : Bool). one_if (not b)) (same_here c.threads_handled) in
        let was : one_if (not (c.threads_handled == c.last)) ≡ 1 = ap (λ (b : Bool). one_if (not b)) is in
        omega (arith, now, was)) (omega arith)
    by_tests true false false s id is =
        record {
          marks = omega arith;
          deferred = (let n : one_if c.deferred ≡ 0 = ap one_if id in omega (arith, n));
          clears = omega arith;
          small = λ small. small;
          allows = λ lim small. omega arith;
          empties = λ kills. cc;
        }
    by_tests true true d s id is = judged_handled window limit at true true c (record c { deferred = false }) refl refl
        refl (omega arith) (mark_most c.deferred)
    by_tests false true d s id is = judged_handled window limit at false true c c refl refl refl (omega arith) (omega arith)
    by_tests false false d s id is = judged_nothing window limit at false false c refl
