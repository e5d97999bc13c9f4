-- A device's run in progress: what was served and asked since its beginning.
use Rattle.std.proofs.Common.{◌≡◌, ℕ, ◌+◌, ◌≤◌, Bool, true, false, ◌||◌, cond, List, [], ◌∷◌, ◌++◌, filter, reverse, refl, sym, ap, ◌∙◌, arith}
use Rattle.std.proofs.lemmas.Bool.{or_right}
use Rattle.std.proofs.lemmas.Grind.{reverse_onto}
use Rattle.std.specs.List.{list_any}
use Rattle.irq_base.specs.declared.numbers.DevNo.{DevNo}
use Rattle.irq_base.specs.declared.devices.Part.{Part}
use Rattle.irq_base.specs.declared.devices.Part.TheVariants as parts
use Rattle.irq_base.specs.declared.lines.LineDef.{LineDef}
use Rattle.irq_base.specs.declared.entries.Entry.{Entry}
use Rattle.irq_base.specs.declared.entries.Entry.TheVariants as by
use Rattle.irq_base.specs.declared.entries.CpuEntry.TheVariants as cpus
use Rattle.irq_base.specs.declared.entries.ThreadEntry.TheVariants as threads
use Rattle.irq_model.specs.Places.{since, before, count_of}
use Rattle.irq_model.specs.Kinds.{is_ask, is_serve}
use Rattle.irq_model.specs.Asks.{begins_run, unserved_asks}
use Rattle.irq_model.specs.Legal.{IsLegalPast}
use Rattle.irq_storms.specs.Judged.{one_if}
use Rattle.irq_storms.specs.Tests.{asks_served, total}
use Rattle.irq_storms.proofs.Counting.{count_more}
use Rattle.irq_storms.proofs.ServedCounts.{served_exactly, fresh_since}

-- ---- the entries since a place, and those before it

pub legal_before : (def : LineDef) (b : Entry → Bool) (past : List Entry) → IsLegalPast def past → IsLegalPast def (before b past)
legal_before def b [] legal = legal
legal_before def b (e ∷ past) legal = by_test (b e) (legal_before def b past legal.1)
  where
    by_test : (c : Bool) → IsLegalPast def (before b past) → IsLegalPast def (cond c past (before b past))
    by_test true deeper = legal.1
    by_test false deeper = deeper

pub total_split : (f : Entry → ℕ) (b : Entry → Bool) → ((e : Entry) → b e ≡ true → f e ≡ 0) → (past : List Entry) → list_any b past ≡ true
    → total f past ≡ total f (since b past) + total f (before b past)
total_split f b none [] h = cc
total_split f b none (e ∷ past) h = by_test (b e) refl h (total_split f b none past)
  where
    by_test : (c : Bool) → b e ≡ c → (c || list_any b past) ≡ true
        → (list_any b past ≡ true → total f past ≡ total f (since b past) + total f (before b past))
        → f e + total f past ≡ total f (cond c [] (e ∷ since b past)) + total f (cond c past (before b past))
    by_test true is h deeper = let n = none e is in omega (arith, n)
    by_test false is h deeper = let d = deeper h in omega (arith, d)

pub count_split : (p b : Entry → Bool) → ((e : Entry) → b e ≡ true → p e ≡ false) → (past : List Entry) → list_any b past ≡ true
    → count_of p past ≡ count_of p (since b past) + count_of p (before b past)
count_split p b none [] h = cc
count_split p b none (e ∷ past) h = by_test (b e) refl h (count_split p b none past)
  where
    by_test : (c : Bool) → b e ≡ c → (c || list_any b past) ≡ true
        → (list_any b past ≡ true → count_of p past ≡ count_of p (since b past) + count_of p (before b past))
        → count_of p (e ∷ past) ≡ count_of p (cond c [] (e ∷ since b past)) + count_of p (cond c past (before b past))
    by_test true is h deeper =
        let m = count_more p e past in
        let n : one_if (p e) ≡ 0 = ap one_if (none e is) in
        omega (arith, m, n)
    by_test false is h deeper =
        let m = count_more p e past in
        let n = count_more p e (since b past) in
        let d = deeper h in
        omega (arith, m, n, d)

-- ---- a run of d

serves_none : (p : Part) (d : DevNo) (e : Entry) → begins_run p d e ≡ true → asks_served d e ≡ 0
serves_none parts.Primary d (by.Cpu c (cpus.Begin x)) h = refl
serves_none parts.Primary d e h = cc
serves_none parts.Thread d (by.Thread x threads.Begin) h = refl
serves_none parts.Thread d e h = cc

asks_none : (p : Part) (d : DevNo) (e : Entry) → begins_run p d e ≡ true → is_ask d e ≡ false
asks_none parts.Primary d (by.Cpu c (cpus.Begin x)) h = refl
asks_none parts.Primary d e h = cc
asks_none parts.Thread d (by.Thread x threads.Begin) h = refl
asks_none parts.Thread d e h = cc

abbrev pub served_since : Part → DevNo → List Entry → ℕ
served_since p d past = total (asks_served d) (since (begins_run p d) past)

abbrev pub asked_since : Part → DevNo → List Entry → ℕ
asked_since p d past = count_of (is_ask d) (since (begins_run p d) past)

-- what was unserved at its beginning, and what was asked since, is served or unserved
pub in_balance : (def : LineDef) (p : Part) (d : DevNo) (past : List Entry) → IsLegalPast def past → list_any (begins_run p d) past ≡ true
    → served_since p d past + unserved_asks def d past ≡ unserved_asks def d (before (begins_run p d) past) + asked_since p d past
in_balance def p d past legal began =
    let b = begins_run p d in
    let now = served_exactly def d past legal in
    let then = served_exactly def d (before b past) (legal_before def b past legal) in
    let t = total_split (asks_served d) b (serves_none p d) past began in
    let a = count_split (is_ask d) b (asks_none p d) past began in
    omega (arith, now, then, t, a)

-- a call that serves d within the run serves what the run met
pub serve_takes : (def : LineDef) (p : Part) (d : DevNo) (past : List Entry) → IsLegalPast def past → list_any (begins_run p d) past ≡ true
    → list_any (is_serve d) (since (begins_run p d) past) ≡ true → unserved_asks def d (before (begins_run p d) past) ≤ served_since p d past
serve_takes def p d past legal began serves =
    let i = in_balance def p d past legal began in
    let f = fresh_since (is_ask d) (begins_run p d) (is_ask d) (is_serve d) past serves in
    omega (arith, i, f)

-- ---- lists

pub any_join : (p : Entry → Bool) (xs ys : List Entry) → list_any p (xs ++ ys) ≡ (list_any p xs || list_any p ys)
any_join p [] ys = refl
any_join p (x ∷ xs) ys = by_test (p x) (any_join p xs ys)
  where
    by_test : (b : Bool) → list_any p (xs ++ ys) ≡ (list_any p xs || list_any p ys) → (b || list_any p (xs ++ ys)) ≡ ((b || list_any p xs) || list_any p ys)
    by_test true h = refl
    by_test false h = h

pub any_back : (p : Entry → Bool) (xs : List Entry) → list_any p (reverse xs) ≡ true → list_any p xs ≡ true
any_back p [] h = h
any_back p (x ∷ xs) h =
    turned (p x) (list_any p (reverse xs)) (list_any p xs) (any_back p xs)
    (sym (any_join p (reverse xs) (x ∷ [])) ∙ sym (ap (λ (l : List Entry). list_any p l) (reverse_onto xs x [])) ∙ h)
  where
    turned : (a b c : Bool) → (b ≡ true → c ≡ true) → (b || (a || false)) ≡ true → (a || c) ≡ true
    turned a b c i h = grind arith

pub any_kept : (p q : Entry → Bool) (xs : List Entry) → list_any p (filter q xs) ≡ true → list_any p xs ≡ true
any_kept p q [] h = h
any_kept p q (x ∷ xs) h = by_test (q x) h (any_kept p q xs)
  where
    by_test : (b : Bool) → list_any p (cond b (x ∷ filter q xs) (filter q xs)) ≡ true → (list_any p (filter q xs) ≡ true → list_any p xs ≡ true)
        → (p x || list_any p xs) ≡ true
    by_test true h deeper = either (p x) (list_any p (filter q xs)) (list_any p xs) deeper h
      where
        either : (a b c : Bool) → (b ≡ true → c ≡ true) → (a || b) ≡ true → (a || c) ≡ true
        either a b c i h = grind arith
    by_test false h deeper = or_right (p x) (list_any p xs) (deeper h)

-- what stands since the last of a wider kind stands since the last of a narrower one
pub any_since_narrow : (p b w : Entry → Bool) → ((e : Entry) → b e ≡ true → w e ≡ true) → (past : List Entry) → list_any p (since w past) ≡ true
    → list_any p (since b past) ≡ true
any_since_narrow p b w narrow [] h = h
any_since_narrow p b w narrow (e ∷ past) h = by_tests (b e) (w e) (narrow e) h (any_since_narrow p b w narrow past)
  where
    either : (a b c : Bool) → (b ≡ true → c ≡ true) → (a || b) ≡ true → (a || c) ≡ true
    either a b c i h = grind arith

    by_tests : (c v : Bool) → (c ≡ true → v ≡ true) → list_any p (cond v [] (e ∷ since w past)) ≡ true
        → (list_any p (since w past) ≡ true → list_any p (since b past) ≡ true) → list_any p (cond c [] (e ∷ since b past)) ≡ true
    by_tests true true i h deeper = cc
    by_tests false true i h deeper = cc
    by_tests true false i h deeper = let n = i refl in cc
    by_tests false false i h deeper = either (p e) (list_any p (since w past)) (list_any p (since b past)) deeper h
