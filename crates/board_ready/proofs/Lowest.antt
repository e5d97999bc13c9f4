-- What callers may conclude of the thread or number that a search finds.
use Rattle.std.proofs.Common.{◌≡◌, ℕ, zero, suc, ◌+◌, ◌<◌, ◌≤◌, Bool, true, false, cond, eqb, nat_lt, Option, Some}
use Rattle.std.proofs.Common.{None, List, [], ◌∷◌, slice_get, refl, sym, ap, ◌∙◌, eqb-true, subst, arith}
use Rattle.std.proofs.lemmas.Bool.{eqb-false, ltb-true, ltb-false}
use Rattle.irq_base.specs.declared.numbers.DevNo.{DevNo}
use Rattle.board_ready.specs.First.{first_from, first_of}
use Rattle.board_ready.specs.Kept.{thread_of}
use Rattle.board_ready.specs.Ready.{lower_of, thread_on, lowest_from, lowest_thread}
use Rattle.board_ready.specs.declared.parts.LineReadiness.{LineReadiness}
use Rattle.board_ready.specs.declared.parts.ReadyThread.{ReadyThread}

-- if none is found none passes
from_nothing : (p : ℕ → Bool) (k n i : ℕ) → first_from p k n ≡ None → k ≤ i → i < k + n → p i ≡ false
from_nothing p k zero i h a b = absurd (omega (arith, a, b))
from_nothing p k (suc n) i h a b = by_test (p k) refl h (λ g less. from_nothing p (k + 1) n i g (omega (arith, less)) (omega (arith, b)))
  where
    by_test : (x : Bool) → p k ≡ x → cond x (Some k) (first_from p (k + 1) n) ≡ None → (first_from p (k + 1) n ≡ None → k < i → p i ≡ false) → p i ≡ false
    by_test true is g rest = cc
    by_test false is g rest = by_place (eqb k i) refl
      where
        by_place : (y : Bool) → eqb k i ≡ y → p i ≡ false
        by_place true e = ap p (sym (eqb-true k i e)) ∙ is
        by_place false e = let ne : k ≡ i → ⊥ = eqb-false k i e in rest g (omega (arith, a, ne))

pub first_none : (p : ℕ → Bool) (n i : ℕ) → first_of p n ≡ None → i < n → p i ≡ false
first_none p n i h less = from_nothing p 0 n i h (omega arith) (omega (arith, less))

-- what is found passes, and none before it does
from_some : (p : ℕ → Bool) (k n t : ℕ) → first_from p k n ≡ Some t → (k ≤ t) × (t < k + n) × (p t ≡ true) × ((i : ℕ) → k ≤ i → i < t → p i ≡ false)
from_some p k zero t h = cc
from_some p k (suc n) t h = by_test (p k) refl h (from_some p (k + 1) n t)
  where
    by_test : (x : Bool) → p k ≡ x → cond x (Some k) (first_from p (k + 1) n) ≡ Some t
        → (first_from p (k + 1) n ≡ Some t → (k + 1 ≤ t) × (t < k + 1 + n) × (p t ≡ true)
        × ((i : ℕ) → k + 1 ≤ i → i < t → p i ≡ false))
        → (k ≤ t) × (t < k + suc n) × (p t ≡ true) × ((i : ℕ) → k ≤ i → i < t → p i ≡ false)
    by_test true is g rest = let e : k ≡ t = cc in (omega (arith, e), omega (arith, e), ap p (sym e) ∙ is, λ i a b. absurd (omega (arith, a, b, e)))
    by_test false is g rest = let r = rest g in (omega (arith, r.0), omega (arith, r.1), r.2, λ i a b. by_place i a b (eqb k i) refl (r.3 i))
      where
        by_place : (i : ℕ) → k ≤ i → i < t → (y : Bool) → eqb k i ≡ y → (k + 1 ≤ i → i < t → p i ≡ false) → p i ≡ false
        by_place i a b true e later = ap p (sym (eqb-true k i e)) ∙ is
        by_place i a b false e later = let ne : k ≡ i → ⊥ = eqb-false k i e in later (omega (arith, a, ne)) b

pub first_some : (p : ℕ → Bool) (n t : ℕ) → first_of p n ≡ Some t → (t < n) × (p t ≡ true) × ((i : ℕ) → i < t → p i ≡ false)
first_some p n t h = let r = from_some p 0 n t h in (omega (arith, r.1), r.2, λ i less. r.3 i (omega arith) less)

-- no line has a thread
nobody_from : (lines : List LineReadiness) (k : ℕ) → lowest_from k lines ≡ None → (i : ℕ) → thread_of (slice_get lines i) ≡ None
nobody_from [] k h i = refl
nobody_from (x ∷ xs) k h i = by_thread x.thread refl (lowest_from (k + 1) xs) refl h (nobody_from xs (k + 1)) i
  where
    by_thread : (o : Option DevNo) → x.thread ≡ o → (r : Option ReadyThread) → lowest_from (k + 1) xs ≡ r
        → lower_of (thread_on k o) r ≡ None → (lowest_from (k + 1) xs ≡ None → (i : ℕ)
        → thread_of (slice_get xs i) ≡ None)
        → (i : ℕ) → thread_of (slice_get (x ∷ xs) i) ≡ None
    by_thread None is r found g rest zero = is
    by_thread None is r found g rest (suc i) = rest (found ∙ g) i
    by_thread (Some d) is None found g rest i = cc
    by_thread (Some d) is (Some u) found g rest i = cc

-- the lowest is its line's, and no line's is lower
pub record IsLowest (lines : List LineReadiness) (k : ℕ) (t : ReadyThread) : Type 0 where
  pub place : ℕ
  pub at : t.line ≡ k + place
  pub there : thread_of (slice_get lines place) ≡ Some t.dev
  pub least : (i : ℕ) (d : DevNo) → thread_of (slice_get lines i) ≡ Some d → t.dev.0 ≤ d.0

same_dev : (d e : DevNo) → Some d ≡ Some e → d.0 ≡ e.0
same_dev d e h = cc

lowest_is : (lines : List LineReadiness) (k : ℕ) (t : ReadyThread) → lowest_from k lines ≡ Some t → IsLowest lines k t
lowest_is [] k t h = cc
lowest_is (x ∷ xs) k t h = by_thread x.thread refl (lowest_from (k + 1) xs) refl h (lowest_is xs (k + 1))
  where
    later : (u : ReadyThread) → IsLowest xs (k + 1) u → ((d : DevNo) → x.thread ≡ Some d → u.dev.0 ≤ d.0) → IsLowest (x ∷ xs) k u
    later u low first = record { place = suc low.place; at = omega (arith, low.at); there = low.there; least = by_place }
      where
        by_place : (i : ℕ) (d : DevNo) → thread_of (slice_get (x ∷ xs) i) ≡ Some d → u.dev.0 ≤ d.0
        by_place zero d g = first d g
        by_place (suc i) d g = low.least i d g

    here : (e : DevNo) → x.thread ≡ Some e → ((i : ℕ) (d : DevNo) → thread_of (slice_get xs i) ≡ Some d → e.0 ≤ d.0)
        → IsLowest (x ∷ xs) k (record { line = k; dev = e })
    here e is rest = record { place = 0; at = omega arith; there = is; least = by_place }
      where
        by_place : (i : ℕ) (d : DevNo) → thread_of (slice_get (x ∷ xs) i) ≡ Some d → e.0 ≤ d.0
        by_place zero d g = omega (arith, same_dev e d (sym is ∙ g))
        by_place (suc i) d g = rest i d g

    by_order : (e : DevNo) (u : ReadyThread) (b : Bool) → nat_lt u.dev.0 e.0 ≡ b → x.thread ≡ Some e
        → IsLowest xs (k + 1) u → IsLowest (x ∷ xs) k (cond b u (record { line = k; dev = e }))
    by_order e u true less is low = later u low (λ d g. omega (arith, ltb-true u.dev.0 e.0 less, same_dev e d (sym is ∙ g)))
    by_order e u false more is low = here e is (λ i d g. omega (arith, ltb-false u.dev.0 e.0 more, low.least i d g))

    same_thread : (u : ReadyThread) → Some u ≡ Some t → IsLowest (x ∷ xs) k u → IsLowest (x ∷ xs) k t
    same_thread u e low = let same : u ≡ t = cc in subst (λ v. IsLowest (x ∷ xs) k v) same low

    by_thread : (o : Option DevNo) → x.thread ≡ o → (r : Option ReadyThread) → lowest_from (k + 1) xs ≡ r
        → lower_of (thread_on k o) r ≡ Some t → ((u : ReadyThread) → lowest_from (k + 1) xs ≡ Some u
        → IsLowest xs (k + 1) u) → IsLowest (x ∷ xs) k t
    by_thread None is r found g rest = later t (rest t (found ∙ g)) (λ d i. let bad : None ≡ Some d = sym is ∙ i in cc)
    by_thread (Some e) is None found g rest = same_thread (record { line = k; dev = e }) g
        (here e is (λ i d j. let bad : None ≡ Some d = sym (nobody_from xs (k + 1) found i) ∙ j in cc))
    by_thread (Some e) is (Some u) found g rest = same_thread
        (cond (nat_lt u.dev.0 e.0) u (record { line = k; dev = e })) g
        (by_order e u (nat_lt u.dev.0 e.0) refl is (rest u found))

pub thread_none : (lines : List LineReadiness) (k : ℕ) → lowest_thread lines ≡ None → thread_of (slice_get lines k) ≡ None
thread_none lines k h = nobody_from lines 0 h k

pub thread_some : (lines : List LineReadiness) (t : ReadyThread) → lowest_thread lines ≡ Some t → thread_of (slice_get lines t.line) ≡ Some t.dev
thread_some lines t h =
    let low = lowest_is lines 0 t h in
    ap (λ k. thread_of (slice_get lines k)) (let e : t.line ≡ low.place = omega (arith, low.at) in e) ∙ low.there

pub thread_least : (lines : List LineReadiness) (t : ReadyThread) (k : ℕ) (d : DevNo) → lowest_thread lines ≡ Some t
    → thread_of (slice_get lines k) ≡ Some d → t.dev.0 ≤ d.0
thread_least lines t k d h there = (lowest_is lines 0 t h).least k d there
