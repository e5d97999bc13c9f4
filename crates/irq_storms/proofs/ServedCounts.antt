-- The asks of a device, served by runs as they return, or by calls.
use Rattle.std.proofs.Common.{◌≡◌, ℕ, ◌+◌, ◌≤◌, ◌==◌, min, ◌⊎◌, inl, inr, Bool, true, false, not, ◌||◌, ◌&&◌, cond, nat_lt}
use Rattle.std.proofs.Common.{Option, Some, None, List, [], ◌∷◌, refl, sym, ap, ◌∙◌, subst, arith}
use Rattle.std.proofs.lemmas.Bool.{and_parts, or_parts, ltb-true, ltb-false}
use Rattle.std.specs.List.{list_any}
use Rattle.irq_base.specs.declared.numbers.CpuNo.{CpuNo}
use Rattle.irq_base.specs.declared.numbers.DevNo.{DevNo}
use Rattle.irq_base.specs.declared.devices.Answer.{Answer}
use Rattle.irq_base.specs.declared.devices.Part.{Part}
use Rattle.irq_base.specs.declared.devices.Part.TheVariants as parts
use Rattle.irq_base.specs.declared.lines.LineDef.{LineDef}
use Rattle.irq_base.specs.declared.entries.Actor.{Actor}
use Rattle.irq_base.specs.declared.entries.Actor.TheVariants as actors
use Rattle.irq_base.specs.declared.entries.Entry.{Entry}
use Rattle.irq_base.specs.declared.entries.Entry.TheVariants as by
use Rattle.irq_base.specs.declared.entries.CpuEntry.TheVariants as cpus
use Rattle.irq_base.specs.declared.entries.ThreadEntry.TheVariants as threads
use Rattle.irq_base.specs.declared.entries.DriverEntry.TheVariants as drivers
use Rattle.irq_base.specs.declared.entries.CallEntry.TheVariants as called
use Rattle.irq_model.specs.Places.{stands, since, before, count_of}
use Rattle.irq_model.specs.Kinds.{same_dev, is_any_ask, is_ask, is_begin, is_return, is_thread_begin, is_thread_return, is_serve, is_done, made_by}
use Rattle.irq_model.specs.Lines.{kind_of}
use Rattle.irq_model.specs.Asks.{begins_run, returns_served, left_by_runs, serving, unserved_asks, taken_away}
use Rattle.irq_model.specs.Threads.{is_running}
use Rattle.irq_model.specs.Reason.{is_called}
use Rattle.irq_model.specs.Runs.{is_that_part, serves_by_word, told_of, served_by_run}
use Rattle.irq_model.specs.Legal.{IsDue, IsLegalPast}
use Rattle.irq_model.proofs.Same.{dev_from_same}
use Rattle.irq_laws.specs.Kept.{KeepsRuns}
use Rattle.irq_laws.proofs.ScriptLaws.{runs_past}
use Rattle.irq_laws.proofs.Lists.{stands_cases, both_ways}
use Rattle.irq_laws.proofs.ImpliesFlow.{return_due}
use Rattle.irq_laws.proofs.ImpliesThread.{thread_return_due, has_returned}
use Rattle.irq_laws.proofs.ImpliesDriver.{serve_due}
use Rattle.irq_storms.specs.Judged.{one_if}
use Rattle.irq_storms.specs.Tests.{serves_of, asks_served, total}
use Rattle.irq_storms.proofs.Counting.{count_more}
use Rattle.irq_storms.proofs.ThreadCounts.{dev_key}

-- ---- a run that is in progress: b its beginnings, r its returns that have served, s the calls that
-- serve, a the asks

module _ (a b r s : Entry → Bool) where
  abbrev left : List Entry → ℕ
  left past = count_of a (since r past) + count_of a (since b (before r past))

  abbrev fresh : List Entry → ℕ
  fresh past = count_of a (since s past)

  pub left_more : (e : Entry) (past : List Entry) → r e ≡ false → left (e ∷ past) ≡ left past + one_if (a e)
  left_more e past other = by_return (r e) other
    where
      by_return : (c : Bool) → c ≡ false → count_of a (cond c [] (e ∷ since r past)) + count_of a
          (since b (cond c past (before r past))) ≡ left past + one_if (a e)
      by_return true h = cc
      by_return false h = let m = count_more a e (since r past) in omega (arith, m)

  pub fresh_more : (e : Entry) (past : List Entry) → s e ≡ false → fresh (e ∷ past) ≡ fresh past + one_if (a e)
  fresh_more e past other = by_serve (s e) other
    where
      by_serve : (c : Bool) → c ≡ false → count_of a (cond c [] (e ∷ since s past)) ≡ fresh past + one_if (a e)
      by_serve true h = cc
      by_serve false h = count_more a e (since s past)

  pub over : (e : Entry) (past : List Entry) → r e ≡ true → left (e ∷ past) ≡ count_of a (since b past)
  over e past is = by_return (r e) is
    where
      by_return : (c : Bool) → c ≡ true → count_of a (cond c [] (e ∷ since r past)) + count_of a
          (since b (cond c past (before r past))) ≡ count_of a (since b past)
      by_return true h = omega arith
      by_return false h = cc

  -- while a run is in progress, the asks that are left are those that the run met and those that
  -- came since
  pub left_met : ((e : Entry) → b e ≡ true → (r e ≡ false) × (a e ≡ false)) → (past : List Entry) → stands b r past ≡ true
      → left past ≡ left (before b past) + count_of a (since b past)
  left_met apart [] h = cc
  left_met apart (e ∷ past) h = by_begin (b e) refl (stands_cases (b e) (r e) (stands b r past) h) (λ s. left_met apart past s)
    where
      by_begin : (c : Bool) → b e ≡ c → (b e ≡ true) ⊎ ((r e ≡ false) × (stands b r past ≡ true))
          → (stands b r past ≡ true → left past ≡ left (before b past) + count_of a (since b past))
          → left (e ∷ past) ≡ left (cond c past (before b past)) + count_of a (cond c [] (e ∷ since b past))
      by_begin true is s deeper =
          let p = apart e is in
          let m = left_more e past p.0 in
          let n : one_if (a e) ≡ 0 = ap one_if p.1 in
          omega (arith, m, n)
      by_begin false is (inl s) deeper = both_ways (b e) s is
      by_begin false is (inr s) deeper =
          let m = left_more e past s.0 in
          let d = deeper s.1 in
          let n = count_more a e (since b past) in
          omega (arith, m, d, n)

  -- the asks since a call has served, if none has since the run began
  pub fresh_met : ((e : Entry) → b e ≡ true → (s e ≡ false) × (a e ≡ false)) → (past : List Entry) → list_any b past ≡ true
      → list_any s (since b past) ≡ false → fresh past ≡ fresh (before b past) + count_of a (since b past)
  fresh_met apart [] h none = cc
  fresh_met apart (e ∷ past) h none = by_begin (b e) refl h none (λ t n. fresh_met apart past t n)
    where
      by_begin : (c : Bool) → b e ≡ c → (c || list_any b past) ≡ true → list_any s (cond c [] (e ∷ since b past)) ≡ false
          → (list_any b past ≡ true → list_any s (since b past) ≡ false → fresh past ≡ fresh (before b past) + count_of a (since b past))
          → fresh (e ∷ past) ≡ fresh (cond c past (before b past)) + count_of a (cond c [] (e ∷ since b past))
      by_begin true is h none deeper =
          let p = apart e is in
          let m = fresh_more e past p.0 in
          let n : one_if (a e) ≡ 0 = ap one_if p.1 in
          omega (arith, m, n)
      by_begin false is h none deeper =
          let p = or_parts (s e) (list_any s (since b past)) none in
          let m = fresh_more e past p.0 in
          let d = deeper h p.1 in
          let n = count_more a e (since b past) in
          omega (arith, m, d, n)

  -- and if some has
  pub fresh_since : (past : List Entry) → list_any s (since b past) ≡ true → fresh past ≤ count_of a (since b past)
  fresh_since [] h = cc
  fresh_since (e ∷ past) h = by_begin (b e) h (λ t. fresh_since past t)
    where
      by_serve : (c : Bool) → (c || list_any s (since b past)) ≡ true
          → (list_any s (since b past) ≡ true → fresh past ≤ count_of a (since b past))
          → count_of a (cond c [] (e ∷ since s past)) ≤ count_of a (e ∷ since b past)
      by_serve true h deeper = omega arith
      by_serve false h deeper =
          let d = deeper h in
          let m = count_more a e (since s past) in
          let n = count_more a e (since b past) in
          omega (arith, d, m, n)

      by_begin : (c : Bool) → list_any s (cond c [] (e ∷ since b past)) ≡ true
          → (list_any s (since b past) ≡ true → fresh past ≤ count_of a (since b past))
          → fresh (e ∷ past) ≤ count_of a (cond c [] (e ∷ since b past))
      by_begin true h deeper = cc
      by_begin false h deeper = by_serve (s e) h deeper

-- what began, with nothing of one kind after it, has nothing of a narrower kind after it
pub stands_before : (b q r : Entry → Bool) → ((e : Entry) → r e ≡ true → q e ≡ true) → (past : List Entry) → stands b q past ≡ true → stands b r past ≡ true
stands_before b q r narrow [] h = cc
stands_before b q r narrow (e ∷ past) h = by_tests (b e) (q e) (r e) (stands b q past) (stands b r past) (narrow e) (stands_before b q r narrow past) h
  where
    by_tests : (b q r s t : Bool) → (r ≡ true → q ≡ true) → (s ≡ true → t ≡ true) → (b || (not q && s)) ≡ true → (b || (not r && t)) ≡ true
    by_tests b q r s t i j h = grind arith

pub stands_began : (b q : Entry → Bool) (past : List Entry) → stands b q past ≡ true → list_any b past ≡ true
stands_began b q [] h = cc
stands_began b q (e ∷ past) h = by_tests (b e) (q e) (stands b q past) (list_any b past) (stands_began b q past) h
  where
    by_tests : (b q s t : Bool) → (s ≡ true → t ≡ true) → (b || (not q && s)) ≡ true → (b || t) ≡ true
    by_tests b q s t i h = grind arith

-- a run that began, with no return after it
pub still_standing : (b r o : Entry → Bool) (past : List Entry) → stands b o past ≡ true → list_any r (since b past) ≡ false → stands b r past ≡ true
still_standing b r o [] s n = cc
still_standing b r o (e ∷ past) s n = by_begin (b e) s n (λ s n. still_standing b r o past s n)
  where
    behind : (c s : Bool) → (false || (not c && s)) ≡ true → s ≡ true
    behind c s h = grind arith

    again : (c s : Bool) → c ≡ false → s ≡ true → (false || (not c && s)) ≡ true
    again c s h i = grind arith

    by_begin : (c : Bool) → (c || (not (o e) && stands b o past)) ≡ true
        → list_any r (cond c [] (e ∷ since b past)) ≡ false
        → (stands b o past ≡ true → list_any r (since b past) ≡ false → stands b r past ≡ true)
        → (c || (not (r e) && stands b r past)) ≡ true
    by_begin true s n deeper = refl
    by_begin false s n deeper =
        let p = or_parts (r e) (list_any r (since b past)) n in
        again (r e) (stands b r past) p.0 (deeper (behind (o e) (stands b o past) s) p.1)

-- ---- one device: what one more entry makes of its unserved asks

abbrev ServedMore : LineDef → DevNo → Entry → List Entry → Type 0
ServedMore def d e past = asks_served d e + unserved_asks def d (e ∷ past) ≡ unserved_asks def d past + one_if (is_ask d e)

abbrev EndsNoRun : LineDef → DevNo → Entry → Type 0
EndsNoRun def d e = (p : Part) → serving def d ≡ Some p → returns_served p d e ≡ false

left_by_part : (part : Option Part) (d : DevNo) (e : Entry) (past : List Entry)
    → ((p : Part) → part ≡ Some p → returns_served p d e ≡ false) → left_by_runs part d (e ∷ past) ≡ left_by_runs part d past + one_if (is_ask d e)
left_by_part None d e past none = count_more (is_ask d) e past
left_by_part (Some p) d e past none = left_more (is_ask d) (begins_run p d) (returns_served p d) (is_serve d) e past (none p refl)

least_more : (a b a' b' x : ℕ) → a' ≡ a + x → b' ≡ b + x → min a' b' ≡ min a b + x
least_more a b a' b' x h i = omega (arith, h, i)

-- an entry that serves nothing, whoever made it
quiet : (def : LineDef) (d : DevNo) (e : Entry) (past : List Entry) → asks_served d e ≡ 0 → is_serve d e ≡ false → EndsNoRun def d e
    → ServedMore def d e past
quiet def d e past none no_serve no_run =
    let l = left_by_part (serving def d) d e past no_run in
    let f = fresh_more (is_ask d) (is_ask d) (is_ask d) (is_serve d) e past no_serve in
    let m = least_more _ _ _ _ _ f l in
    omega (arith, none, m)

-- a call that serves all
by_call : (def : LineDef) (d : DevNo) (e : Entry) (past : List Entry) → is_serve d e ≡ true → asks_served d e ≡ unserved_asks def d past
    → one_if (is_ask d e) ≡ 0 → ServedMore def d e past
by_call def d e past is all no_ask = after (is_serve d e) is
  where
    after : (c : Bool) → c ≡ true
        → asks_served d e + min (count_of (is_ask d) (cond c [] (e ∷ since (is_serve d) past))) (left_by_runs (serving def d) d (e ∷ past))
        ≡ unserved_asks def d past + one_if (is_ask d e)
    after true h = omega (arith, all, no_ask)
    after false h = cc

-- a run returns: what it met is served
least_left : (k l f n l' f' l0 f0 : ℕ) → l' ≡ k → f' ≡ f → l ≡ l0 + k → f ≡ f0 + k → n ≡ min f0 l0 → n + min f' l' ≡ min f l
least_left k l f n l' f' l0 f0 h i j m o = omega (arith, h, i, j, m, o)

by_run : (def : LineDef) (d : DevNo) (p : Part) (e : Entry) (past : List Entry) → serving def d ≡ Some p → returns_served p d e ≡ true
    → is_serve d e ≡ false → is_ask d e ≡ false → ((f : Entry) → begins_run p d f ≡ true → (returns_served p d f ≡ false)
    × (is_serve d f ≡ false) × (is_ask d f ≡ false))
    → stands (begins_run p d) (returns_served p d) past ≡ true → list_any (is_serve d) (since (begins_run p d) past) ≡ false
    → asks_served d e ≡ unserved_asks def d (before (begins_run p d) past) → ServedMore def d e past
by_run def d p e past part is no_serve no_ask apart run none count =
    let a = is_ask d in
    let b = begins_run p d in
    let r = returns_served p d in
    let s = is_serve d in
    let o = over a b r s e past is in
    let f = fresh_more a b r s e past no_serve in
    let n : one_if (is_ask d e) ≡ 0 = ap one_if no_ask in
    let l = left_met a b r s (λ f h. ((apart f h).0, (apart f h).2)) past run in
    let g = fresh_met a b r s (λ f h. ((apart f h).1, (apart f h).2)) past (stands_began b r past run) none in
    let u : (xs : List Entry) → unserved_asks def d xs ≡ min (fresh a b r s xs) (left a b r s xs) =
    λ xs. ap (λ (q : Option Part). min (count_of (is_ask d) (since (is_serve d) xs)) (left_by_runs q d xs)) part in
    let now = u (e ∷ past) in
    let was = u past in
    let met = u (before b past) in
    let sum = least_left (count_of a (since b past)) (left a b r s past) (fresh a b r s past) (asks_served d e)
    (left a b r s (e ∷ past)) (fresh a b r s (e ∷ past))
    (left a b r s (before b past)) (fresh a b r s (before b past)) o (omega (arith, f, n)) l g (omega (arith, count, met)) in
    omega (arith, sum, now, was, n)

-- ---- a run's return

apart_run : (p : Part) (d : DevNo) (e : Entry) → begins_run p d e ≡ true → (returns_served p d e ≡ false) × (is_serve d e ≡ false) × (is_ask d e ≡ false)
apart_run parts.Primary d (by.Cpu c (cpus.Begin x)) h = (refl, refl, refl)
apart_run parts.Primary d e h = cc
apart_run parts.Thread d (by.Thread x threads.Begin) h = (refl, refl, refl)
apart_run parts.Thread d e h = cc

-- what a return took away, and from whom
pub record TookAway (def : LineDef) (p : Part) (d : DevNo) (past : List Entry) (n : ℕ) : Type 0 where
  pub part : serving def d ≡ Some p
  pub none : list_any (is_serve d) (since (begins_run p d) past) ≡ false
  pub count : n ≡ unserved_asks def d (before (begins_run p d) past)

that_part : (p : Part) (o : Option Part) → is_that_part p o ≡ true → o ≡ Some p
that_part parts.Primary (Some parts.Primary) h = refl
that_part parts.Thread (Some parts.Thread) h = refl
that_part parts.Primary (Some parts.Thread) h = cc
that_part parts.Thread (Some parts.Primary) h = cc
that_part p None h = cc

pub took_away : (def : LineDef) (p : Part) (d : DevNo) (past : List Entry) (n : ℕ) → n ≡ served_by_run def p d past → nat_lt 0 n ≡ true
    → TookAway def p d past n
took_away def p d past n is some = by_part (is_that_part p (serving def d) && serves_by_word (kind_of def d) (told_of def p d past)) refl is
  where
    by_serve : (c : Bool) → list_any (is_serve d) (since (begins_run p d) past) ≡ c → serving def d ≡ Some p
        → n ≡ cond c 0 (unserved_asks def d (before (begins_run p d) past)) → TookAway def p d past n
    by_serve true was part h = absurd (let l = ltb-true 0 n some in omega (arith, l, h))
    by_serve false was part h = record { part = part; none = was; count = h }

    by_part : (c : Bool) → (is_that_part p (serving def d) && serves_by_word (kind_of def d) (told_of def p d past)) ≡ c
        → n ≡ cond c (taken_away def p d past) 0 → TookAway def p d past n
    by_part true was h =
        by_serve (list_any (is_serve d) (since (begins_run p d) past)) refl
        (that_part p (serving def d) (and_parts (is_that_part p (serving def d)) (serves_by_word (kind_of def d) (told_of def p d past)) was).0) h
    by_part false was h = absurd (let l = ltb-true 0 n some in omega (arith, l, h))

served_one : (b : Bool) (n : ℕ) → b ≡ true → cond b n 0 ≡ n
served_one true n h = refl
served_one false n h = cc

pub not_of : (b : Bool) (n : ℕ) → b ≡ false → cond b n 0 ≡ 0
not_of true n h = cc
not_of false n h = refl

none_served : (b : Bool) (n : ℕ) → nat_lt 0 n ≡ false → cond b n 0 ≡ 0
none_served true n h = let l = ltb-false 0 n h in omega (arith, l)
none_served false n h = refl

both_false : (b c : Bool) → c ≡ false → (b && c) ≡ false
both_false b c h = grind arith

first_false : (b c : Bool) → b ≡ false → (b && c) ≡ false
first_false b c h = grind arith

both_true : (b c : Bool) → b ≡ true → c ≡ true → (b && c) ≡ true
both_true b c h i = grind arith

returns_primary : (d : DevNo) (e : Entry) → returns_served parts.Primary d e ≡ true → is_return d e ≡ true
returns_primary d (by.Cpu c (cpus.Return answer x n)) h = (and_parts (same_dev d x) (nat_lt 0 n) h).0
returns_primary d e h = cc

returns_thread : (d : DevNo) (e : Entry) → returns_served parts.Thread d e ≡ true → is_thread_return d e ≡ true
returns_thread d (by.Thread x (threads.Return handled n)) h = (and_parts (same_dev d x) (nat_lt 0 n) h).0
returns_thread d e h = cc

return_more : (def : LineDef) (c : CpuNo) (d x : DevNo) (answer : Answer) (n : ℕ) (past : List Entry) → KeepsRuns def past
    → IsDue def (by.Cpu c (cpus.Return answer x n)) past → ServedMore def d (by.Cpu c (cpus.Return answer x n)) past
return_more def c d x answer n past k due = by_tests (same_dev d x) (nat_lt 0 n) refl refl
  where
    by_tests : (b s : Bool) → same_dev d x ≡ b → nat_lt 0 n ≡ s → ServedMore def d (by.Cpu c (cpus.Return answer x n)) past
    by_tests false s other is = quiet def d (by.Cpu c (cpus.Return answer x n)) past (not_of (same_dev d x) n other) refl (λ p part. ends_none p)
      where
        ends_none : (p : Part) → returns_served p d (by.Cpu c (cpus.Return answer x n)) ≡ false
        ends_none parts.Primary = first_false (same_dev d x) (nat_lt 0 n) other
        ends_none parts.Thread = refl
    by_tests true false same none = quiet def d (by.Cpu c (cpus.Return answer x n)) past (none_served (same_dev d x) n none) refl (λ p part. ends_none p)
      where
        ends_none : (p : Part) → returns_served p d (by.Cpu c (cpus.Return answer x n)) ≡ false
        ends_none parts.Primary = both_false (same_dev d x) (nat_lt 0 n) none
        ends_none parts.Thread = refl
    by_tests true true same some =
        let u = return_due def c x answer n past due in
        let t = subst (λ (y : DevNo). TookAway def parts.Primary y past n) (sym (dev_from_same d x same))
        (took_away def parts.Primary x past n u.served_is some) in
        let called : is_called past d ≡ true = subst (λ (y : DevNo). is_called past y ≡ true) (sym (dev_from_same d x same)) (k.working x u.is_at_work).0 in
        by_run def d parts.Primary (by.Cpu c (cpus.Return answer x n)) past t.part
        (both_true (same_dev d x) (nat_lt 0 n) same some) refl refl (apart_run parts.Primary d)
        (stands_before (is_begin d) (is_return d) (returns_served parts.Primary d) (returns_primary d) past called) t.none
        (served_one (same_dev d x) n same ∙ t.count)

thread_return_more : (handled : Bool) (def : LineDef) (d x : DevNo) (n : ℕ) (past : List Entry)
    → IsDue def (by.Thread x (threads.Return handled n)) past → ServedMore def d (by.Thread x (threads.Return handled n)) past
thread_return_more handled def d x n past due = by_tests (same_dev d x) (nat_lt 0 n) refl refl
  where
    by_tests : (b s : Bool) → same_dev d x ≡ b → nat_lt 0 n ≡ s → ServedMore def d (by.Thread x (threads.Return handled n)) past
    by_tests false s other is = quiet def d (by.Thread x (threads.Return handled n)) past (not_of (same_dev d x) n other) refl (λ p part. ends_none p)
      where
        ends_none : (p : Part) → returns_served p d (by.Thread x (threads.Return handled n)) ≡ false
        ends_none parts.Primary = refl
        ends_none parts.Thread = first_false (same_dev d x) (nat_lt 0 n) other
    by_tests true false same none = quiet def d (by.Thread x (threads.Return handled n)) past (none_served (same_dev d x) n none) refl (λ p part. ends_none p)
      where
        ends_none : (p : Part) → returns_served p d (by.Thread x (threads.Return handled n)) ≡ false
        ends_none parts.Primary = refl
        ends_none parts.Thread = both_false (same_dev d x) (nat_lt 0 n) none
    by_tests true true same some =
        let u = thread_return_due def x handled n past due in
        let to_d = sym (dev_from_same d x same) in
        let t = subst (λ (y : DevNo). TookAway def parts.Thread y past n) to_d (took_away def parts.Thread x past n u.served_is some) in
        let runs = subst (λ (y : DevNo). is_running past y ≡ true) to_d u.running in
        let not_returned = subst (λ (y : DevNo). has_returned past y ≡ false) to_d u.not_returned in
        by_run def d parts.Thread (by.Thread x (threads.Return handled n)) past t.part (both_true (same_dev d x) (nat_lt 0 n) same some) refl refl
        (apart_run parts.Thread d)
        (stands_before (is_thread_begin d) (is_thread_return d) (returns_served parts.Thread d) (returns_thread d) past
        (still_standing (is_thread_begin d) (is_thread_return d) (is_done d) past runs not_returned)) t.none
        (served_one (same_dev d x) n same ∙ t.count)

-- ---- a call

call_more : (def : LineDef) (a : Actor) (d x : DevNo) (n : ℕ) (past : List Entry) → IsDue def (made_by a (called.Serve x n)) past
    → asks_served d (made_by a (called.Serve x n)) ≡ cond (same_dev d x) n 0 → is_serve d (made_by a (called.Serve x n)) ≡ same_dev d x
    → is_ask d (made_by a (called.Serve x n)) ≡ false → EndsNoRun def d (made_by a (called.Serve x n))
    → ServedMore def d (made_by a (called.Serve x n)) past
call_more def a d x n past due serves is_one no_ask no_run = by_same (same_dev d x) refl
  where
    by_same : (b : Bool) → same_dev d x ≡ b → ServedMore def d (made_by a (called.Serve x n)) past
    by_same true same =
        by_call def d (made_by a (called.Serve x n)) past (is_one ∙ same)
        (serves ∙ served_one (same_dev d x) n same ∙ serve_due def a x n past due
        ∙ ap (λ (y : DevNo). unserved_asks def y past) (sym (dev_from_same d x same))) (ap one_if no_ask)
    by_same false other = quiet def d (made_by a (called.Serve x n)) past (serves ∙ not_of (same_dev d x) n other) (is_one ∙ other) no_run

no_run_of : (p : Part) (a : Actor) (d x : DevNo) (n : ℕ) → returns_served p d (made_by a (called.Serve x n)) ≡ false
no_run_of parts.Primary (actors.Cpu c) d x n = refl
no_run_of parts.Primary (actors.Thread c) d x n = refl
no_run_of parts.Primary (actors.Driver c) d x n = refl
no_run_of parts.Thread (actors.Cpu c) d x n = refl
no_run_of parts.Thread (actors.Thread c) d x n = refl
no_run_of parts.Thread (actors.Driver c) d x n = refl

no_run_at : (p : Part) (d : DevNo) (e : Entry) → is_return d e ≡ false → is_thread_return d e ≡ false → returns_served p d e ≡ false
no_run_at parts.Primary d (by.Cpu c (cpus.Return answer x n)) h i = first_false (same_dev d x) (nat_lt 0 n) h
no_run_at parts.Primary d e h i = refl
no_run_at parts.Thread d (by.Thread x (threads.Return handled n)) h i = first_false (same_dev d x) (nat_lt 0 n) i
no_run_at parts.Thread d e h i = refl

served_more : (def : LineDef) (d : DevNo) (e : Entry) (past : List Entry) → KeepsRuns def past → IsDue def e past → ServedMore def d e past
served_more def d (by.Cpu c (cpus.Return answer x n)) past k due = return_more def c d x answer n past k due
served_more def d (by.Thread x (threads.Return handled n)) past k due = thread_return_more handled def d x n past due
served_more def d (by.CpuCall c (called.Serve x n)) past k due =
    call_more def (actors.Cpu c) d x n past due refl refl refl (λ p part. no_run_of p (actors.Cpu c) d x n)
served_more def d (by.ThreadCall y (called.Serve x n)) past k due =
    call_more def (actors.Thread y) d x n past due refl refl refl (λ p part. no_run_of p (actors.Thread y) d x n)
served_more def d (by.DriverCall r (called.Serve x n)) past k due =
    call_more def (actors.Driver r) d x n past due refl refl refl (λ p part. no_run_of p (actors.Driver r) d x n)
served_more def d e past k due = quiet def d e past refl refl (λ p part. no_run_at p d e refl refl)

none_unserved : (part : Option Part) (d : DevNo) → min 0 (left_by_runs part d []) ≡ 0
none_unserved part d = omega arith

-- the served asks and the unserved asks of a device together are its asks
pub served_exactly : (def : LineDef) (d : DevNo) (past : List Entry) → IsLegalPast def past
    → total (asks_served d) past + unserved_asks def d past ≡ count_of (is_ask d) past
served_exactly def d [] legal = let n = none_unserved (serving def d) d in omega (arith, n)
served_exactly def d (e ∷ past) legal =
    summed _ _ _ _ _ _ _ (count_more (is_ask d) e past) (served_exactly def d past legal.1) (served_more def d e past (runs_past def past legal.1) legal.0)
  where
    summed : (t u u' x c c' y : ℕ) → c' ≡ c + y → t + u ≡ c → x + u' ≡ u + y → (x + t) + u' ≡ c'
    summed t u u' x c c' y h i j = omega (arith, h, i, j)

-- ---- the entries that served something

pub some_if : (n : ℕ) → one_if (nat_lt 0 n) ≤ n
some_if n = by_test (nat_lt 0 n) refl
  where
    by_test : (b : Bool) → nat_lt 0 n ≡ b → one_if b ≤ n
    by_test true is = let l = ltb-true 0 n is in omega (arith, l)
    by_test false is = omega arith

pub serving_entries : (d : DevNo) (past : List Entry) → count_of (serves_of d) past ≤ total (asks_served d) past
serving_entries d [] = omega arith
serving_entries d (e ∷ past) =
    let m = count_more (serves_of d) e past in
    let r = serving_entries d past in
    let s = some_if (asks_served d e) in
    omega (arith, m, r, s)

-- of each device, the entries that served something and the unserved asks are at most the asks
pub served_of : (def : LineDef) (d : DevNo) (past : List Entry) → IsLegalPast def past
    → count_of (serves_of d) past + unserved_asks def d past ≤ count_of (is_ask d) past
served_of def d past legal = let a = served_exactly def d past legal in let b = serving_entries d past in omega (arith, a, b)

-- of all devices
pub key_ask : (k : ℕ) (e : Entry) → is_ask (record { 0 = k }) e ≡ (is_any_ask e && (k == dev_key e))
key_ask k (by.Driver driver (drivers.Ask makes dev)) = refl
key_ask k e = refl
