-- Who is among some actors.
use Rattle.std.proofs.Common.{◌≡◌, ℕ, zero, suc, ◌+◌, ◌<◌, ◌≤◌, Bool, true, false, not, ◌||◌, ◌&&◌, cond, Some}
use Rattle.std.proofs.Common.{List, [], ◌∷◌, ◌++◌, length, filter, refl, sym, ap, ◌∙◌, eqb-true, append_assoc, arith}
use Rattle.std.specs.List.{list_any, slice_get}
use Rattle.std.proofs.lemmas.Bool.{eq-eqb}
use Rattle.std.proofs.lemmas.List.{length-append}
use Rattle.std.proofs.lemmas.List.Folds.{list_any-append}
use Rattle.irq_base.specs.declared.entries.Actor.{Actor}
use Rattle.irq_base.specs.declared.entries.Actor.TheVariants as actors
use Rattle.irq_base.specs.declared.numbers.CpuNo.{CpuNo}
use Rattle.irq_base.specs.declared.numbers.DevNo.{DevNo}
use Rattle.irq_base.specs.declared.numbers.DriverNo.{DriverNo}
use Rattle.irq_model.specs.Kinds.{same_actor, same_cpu, same_dev}
use Rattle.plain_next.specs.Hanging.{add_if, is_among, with_new}

-- the same actor

abbrev dev_no : ℕ → DevNo
dev_no n = record { 0 = n }

abbrev cpu_no : ℕ → CpuNo
cpu_no n = record { 0 = n }

abbrev driver_no : ℕ → DriverNo
driver_no n = record { 0 = n }

pub dev_is : (d e : DevNo) → same_dev d e ≡ true → d ≡ e
dev_is d e is = ap dev_no (eqb-true d.0 e.0 is)

pub cpu_is : (c f : CpuNo) → same_cpu c f ≡ true → c ≡ f
cpu_is c f is = ap cpu_no (eqb-true c.0 f.0 is)

pub actor_is : (a b : Actor) → same_actor a b ≡ true → a ≡ b
actor_is (actors.Thread d) (actors.Thread e) is = ap (λ x. actors.Thread x) (dev_is d e is)
actor_is (actors.Cpu c) (actors.Cpu f) is = ap (λ x. actors.Cpu x) (cpu_is c f is)
actor_is (actors.Driver r) (actors.Driver s) is = ap (λ n. actors.Driver (driver_no n)) (eqb-true r.0 s.0 is)
actor_is (actors.Thread d) (actors.Cpu f) is = absurd cc
actor_is (actors.Thread d) (actors.Driver s) is = absurd cc
actor_is (actors.Cpu c) (actors.Thread e) is = absurd cc
actor_is (actors.Cpu c) (actors.Driver s) is = absurd cc
actor_is (actors.Driver r) (actors.Thread e) is = absurd cc
actor_is (actors.Driver r) (actors.Cpu f) is = absurd cc

pub itself : (a : Actor) → same_actor a a ≡ true
itself (actors.Thread d) = eq-eqb d.0 d.0 refl
itself (actors.Cpu c) = eq-eqb c.0 c.0 refl
itself (actors.Driver r) = eq-eqb r.0 r.0 refl

-- truth by cases

pub either : (a b : Bool) → (a || b) ≡ true → (a ≡ true → b ≡ true) → b ≡ true
either true b is from = from refl
either false b is from = is

pub left_true : (a b : Bool) → a ≡ true → (a || b) ≡ true
left_true true b is = refl
left_true false b is = absurd cc

pub right_true : (a b : Bool) → b ≡ true → (a || b) ≡ true
right_true true b is = refl
right_true false b is = is

-- one more

pub among_more : (found : List Actor) (x b : Actor) → is_among (found ++ x ∷ []) b ≡ (is_among found b || same_actor x b)
among_more found x b = list_any-append (λ a. same_actor a b) found (x ∷ []) ∙ ap (λ t. is_among found b || t) (last (same_actor x b))
  where
    last : (t : Bool) → (t || false) ≡ t
    last true = refl
    last false = refl

-- where it is

pub place_of : (found : List Actor) (b : Actor) → is_among found b ≡ true → (k : ℕ) × (k < length found) × (slice_get found k ≡ Some b)
place_of [] b is = absurd cc
place_of (x ∷ found) b is = by (same_actor x b) refl is (place_of found b)
  where
    by : (t : Bool) → same_actor x b ≡ t → (t || is_among found b) ≡ true
        → (is_among found b ≡ true → (k : ℕ) × (k < length found) × (slice_get found k ≡ Some b))
        → (k : ℕ) × (k < length (x ∷ found)) × (slice_get (x ∷ found) k ≡ Some b)
    by true same is rest = (zero, omega arith, ap Some (actor_is x b same))
    by false other is rest = let r = rest is in (suc r.0, omega (arith, r.1), r.2)

pub at_place : (found : List Actor) (k : ℕ) (b : Actor) → slice_get found k ≡ Some b → is_among found b ≡ true
at_place [] k b at = absurd cc
at_place (x ∷ found) zero b at = let same : x ≡ b = cc in left_true (same_actor x b) (is_among found b) (ap (λ y. same_actor y b) same ∙ itself b)
at_place (x ∷ found) (suc k) b at = right_true (same_actor x b) (is_among found b) (at_place found k b at)

-- those that pass a test

pub among_kept : (p : Actor → Bool) (all : List Actor) (b : Actor) → (p b ≡ true → is_among all b ≡ true) → is_among (filter p all) b ≡ p b
among_kept p all b there = kept all ∙ both (p b) (is_among all b) there
  where
    both : (t u : Bool) → (t ≡ true → u ≡ true) → (t && u) ≡ t
    both true u h = h refl
    both false u h = refl

    apart : (t : Bool) → (t && false) ≡ false
    apart true = refl
    apart false = refl

    step : (x : Actor) (xs : List Actor) (k : Bool) → p x ≡ k → (s : Bool) → same_actor x b ≡ s → is_among (filter p xs) b ≡ (p b && is_among xs b)
        → is_among (cond k (x ∷ filter p xs) (filter p xs)) b ≡ (p b && (s || is_among xs b))
    step x xs true is true same rest =
        let at_b : p b ≡ true = ap p (sym (actor_is x b same)) ∙ is in
        ap (λ t. t || is_among (filter p xs) b) same ∙ sym (ap (λ t. t && (true || is_among xs b)) at_b)
    step x xs true is false other rest = ap (λ t. t || is_among (filter p xs) b) other ∙ rest
    step x xs false fails true same rest =
        let at_b : p b ≡ false = ap p (sym (actor_is x b same)) ∙ fails in
        rest ∙ (ap (λ t. t && is_among xs b) at_b ∙ sym (ap (λ t. t && (true || is_among xs b)) at_b))
    step x xs false fails false other rest = rest

    kept : (xs : List Actor) → is_among (filter p xs) b ≡ (p b && is_among xs b)
    kept [] = sym (apart (p b))
    kept (x ∷ xs) = step x xs (p x) refl (same_actor x b) refl (kept xs)

-- a loop that adds those that pass
pub filter_more : (p : Actor → Bool) (whole found xs rest : List Actor) (a : Actor) → whole ≡ found ++ filter p xs → xs ≡ a ∷ rest
    → whole ≡ add_if (p a) a found ++ filter p rest
filter_more p whole found xs rest a is split = is ∙ (ap (λ ys. found ++ filter p ys) split ∙ by (p a))
  where
    pushed : (ys : List Actor) → found ++ (a ∷ ys) ≡ (found ++ a ∷ []) ++ ys
    pushed ys = rw append_assoc

    by : (t : Bool) → found ++ cond t (a ∷ filter p rest) (filter p rest) ≡ add_if t a found ++ filter p rest
    by true = pushed (filter p rest)
    by false = refl

-- those that are new

among_if_new : (found : List Actor) (x b : Actor) → is_among (add_if (not (is_among found x)) x found) b ≡ (is_among found b || same_actor x b)
among_if_new found x b = by (is_among found x) refl
  where
    absorbed : (t u : Bool) → (u ≡ true → t ≡ true) → t ≡ (t || u)
    absorbed true u h = refl
    absorbed false true h = h refl
    absorbed false false h = refl

    by : (t : Bool) → is_among found x ≡ t → is_among (add_if (not t) x found) b ≡ (is_among found b || same_actor x b)
    by true there = absorbed (is_among found b) (same_actor x b) (λ same. ap (is_among found) (sym (actor_is x b same)) ∙ there)
    by false new = among_more found x b

pub among_new : (others found : List Actor) (b : Actor) → is_among (with_new others found) b ≡ (is_among found b || is_among others b)
among_new [] found b = by (is_among found b)
  where
    by : (t : Bool) → t ≡ (t || false)
    by true = refl
    by false = refl
among_new (x ∷ others) found b =
    among_new others (add_if (not (is_among found x)) x found) b
    ∙ (ap (λ t. t || is_among others b) (among_if_new found x b) ∙ assoc (is_among found b) (same_actor x b) (is_among others b))
  where
    assoc : (t u v : Bool) → ((t || u) || v) ≡ (t || (u || v))
    assoc true u v = refl
    assoc false u v = refl

-- what was there stays where it is

get_first : (found : List Actor) (k : ℕ) (ys : List Actor) → k < length found → slice_get (found ++ ys) k ≡ slice_get found k
get_first [] k ys h = absurd (omega (arith, h))
get_first (x ∷ found) zero ys h = refl
get_first (x ∷ found) (suc k) ys h = get_first found k ys (omega (arith, h))

if_stays : (t : Bool) (x : Actor) (found : List Actor) (k : ℕ) → k < length found
    → (slice_get (add_if t x found) k ≡ slice_get found k) × (length found ≤ length (add_if t x found))
if_stays true x found k h = (get_first found k (x ∷ []) h, omega (arith, length-append found (x ∷ [])))
if_stays false x found k h = (refl, omega arith)

pub new_stays : (others found : List Actor) (k : ℕ) → k < length found → slice_get (with_new others found) k ≡ slice_get found k
new_stays [] found k h = refl
new_stays (x ∷ others) found k h =
    let s = if_stays (not (is_among found x)) x found k h in
    new_stays others (add_if (not (is_among found x)) x found) k (omega (arith, h, s.1)) ∙ s.0

if_longer : (t : Bool) (x : Actor) (found : List Actor) → length found ≤ length (add_if t x found)
if_longer true x found = omega (arith, length-append found (x ∷ []))
if_longer false x found = omega arith

pub new_longer : (others found : List Actor) → length found ≤ length (with_new others found)
new_longer [] found = omega arith
new_longer (x ∷ others) found =
    omega (arith, if_longer (not (is_among found x)) x found, new_longer others (add_if (not (is_among found x)) x found))

-- how many of all are missing

pub missing : List Actor → List Actor → ℕ
missing [] found = 0
missing (a ∷ all) found = cond (is_among found a) (missing all found) (missing all found + 1)

missing_fewer : (all found : List Actor) (x : Actor) → missing all (found ++ x ∷ []) ≤ missing all found
unfolding missing
missing_fewer [] found x = omega arith
missing_fewer (a ∷ all) found x = by (is_among found a) (same_actor x a) (is_among (found ++ x ∷ []) a) (among_more found x a) (missing_fewer all found x)
  where
    by : (t s u : Bool) → u ≡ (t || s) → missing all (found ++ x ∷ []) ≤ missing all found
        → cond u (missing all (found ++ x ∷ [])) (missing all (found ++ x ∷ []) + 1) ≤ cond t (missing all found) (missing all found + 1)
    by true s true e less = less
    by true s false e less = absurd cc
    by false s true e less = omega (arith, less)
    by false s false e less = omega (arith, less)

missing_less : (all found : List Actor) (x : Actor) → is_among all x ≡ true → is_among found x ≡ false → missing all (found ++ x ∷ []) + 1 ≤ missing all found
unfolding missing
missing_less [] found x there new = absurd cc
missing_less (a ∷ all) found x there new = by (same_actor a x) refl there (λ t. missing_less all found x t new)
  where
    less : missing all (found ++ x ∷ []) ≤ missing all found
    less = missing_fewer all found x

    here : (t u : Bool) → t ≡ false → u ≡ true
        → cond u (missing all (found ++ x ∷ [])) (missing all (found ++ x ∷ []) + 1) + 1 ≤ cond t (missing all found) (missing all found + 1)
    here false true e f = omega (arith, less)
    here true u e f = absurd cc
    here t false e f = absurd cc

    later : (t s u : Bool) → u ≡ (t || s) → missing all (found ++ x ∷ []) + 1 ≤ missing all found
        → cond u (missing all (found ++ x ∷ [])) (missing all (found ++ x ∷ []) + 1) + 1 ≤ cond t (missing all found) (missing all found + 1)
    later true s true e rest = rest
    later true s false e rest = absurd cc
    later false s true e rest = omega (arith, rest)
    later false s false e rest = omega (arith, rest)

    by : (t : Bool) → same_actor a x ≡ t → (t || is_among all x) ≡ true
        → (is_among all x ≡ true → missing all (found ++ x ∷ []) + 1 ≤ missing all found)
        → cond (is_among (found ++ x ∷ []) a) (missing all (found ++ x ∷ [])) (missing all (found ++ x ∷ []) + 1) + 1
        ≤ cond (is_among found a) (missing all found) (missing all found + 1)
    by true same there rest = here (is_among found a) (is_among (found ++ x ∷ []) a) (ap (is_among found) (actor_is a x same) ∙ new)
        (among_more found x a ∙ right_true (is_among found a) (same_actor x a) (ap (same_actor x) (actor_is a x same) ∙ itself x))
    by false other there rest = later (is_among found a) (same_actor x a) (is_among (found ++ x ∷ []) a) (among_more found x a) (rest there)

if_room : (all found : List Actor) (x : Actor) → is_among all x ≡ true → (t : Bool) → is_among found x ≡ t
    → missing all (add_if (not t) x found) + length (add_if (not t) x found) ≤ missing all found + length found
if_room all found x there true old = omega arith
if_room all found x there false new = omega (arith, missing_less all found x there new, length-append found (x ∷ []))

-- as many as are added are missing no more
pub room : (all others found : List Actor) → ((b : Actor) → is_among others b ≡ true → is_among all b ≡ true)
    → missing all (with_new others found) + length (with_new others found) ≤ missing all found + length found
room all [] found within = omega arith
room all (x ∷ others) found within =
    let one = if_room all found x (within x (left_true (same_actor x x) (is_among others x) (itself x))) (is_among found x) refl in
    let rest = room all others (add_if (not (is_among found x)) x found) (λ b is. within b (right_true (same_actor x b) (is_among others b) is)) in
    omega (arith, one, rest)
