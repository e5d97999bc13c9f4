-- The first number that passes.
use Rattle.std.proofs.Common.{◌≡◌, ℕ, zero, suc, ◌+◌, ◌<◌, ◌≤◌, Bool, true, false, cond, eqb, Option, Some, None}
use Rattle.std.proofs.Common.{IfSome, refl, sym, ap, ◌∙◌, eqb-true, subst, arith}
use Rattle.std.proofs.lemmas.Bool.{eqb-false}
use Rattle.board_ready.specs.First.{first_from, first_of}

-- two tests that agree on the numbers have the same first
pub from_same : (p q : ℕ → Bool) (k n : ℕ) → ((i : ℕ) → k ≤ i → i < k + n → p i ≡ q i) → first_from p k n ≡ first_from q k n
from_same p q k zero h = refl
from_same p q k (suc n) h =
    ap (λ b. cond b (Some k) (first_from p (k + 1) n)) (h k (omega arith) (omega arith))
    ∙ ap (cond (q k) (Some k)) (from_same p q (k + 1) n (λ i a b. h i (omega (arith, a)) (omega (arith, b))))

pub same_first : (p q : ℕ → Bool) (n : ℕ) → ((i : ℕ) → i < n → p i ≡ q i) → first_of p n ≡ first_of q n
same_first p q n h = from_same p q 0 n (λ i a b. h i (omega (arith, b)))

-- none passes
pub from_none : (p : ℕ → Bool) (k n : ℕ) → ((i : ℕ) → k ≤ i → i < k + n → p i ≡ false) → first_from p k n ≡ None
from_none p k zero h = refl
from_none p k (suc n) h = ap (λ b. cond b (Some k) (first_from p (k + 1) n)) (h k (omega arith) (omega arith))
    ∙ from_none p (k + 1) n (λ i a b. h i (omega (arith, a)) (omega (arith, b)))

-- one passes, and none before it
pub from_is : (p : ℕ → Bool) (k n t : ℕ) → k ≤ t → t < k + n → p t ≡ true → ((i : ℕ) → i < t → p i ≡ false) → first_from p k n ≡ Some t
from_is p k zero t a b here none = absurd (omega (arith, a, b))
from_is p k (suc n) t a b here none = by_test (eqb k t) refl (λ less. from_is p (k + 1) n t (omega (arith, less)) (omega (arith, b)) here none)
  where
    by_test : (x : Bool) → eqb k t ≡ x → (k < t → first_from p (k + 1) n ≡ Some t) → cond (p k) (Some k) (first_from p (k + 1) n) ≡ Some t
    by_test true is rest = let e : k ≡ t = eqb-true k t is in ap (λ b. cond b (Some k) (first_from p (k + 1) n)) (ap p e ∙ here) ∙ ap Some e
    by_test false is rest =
        let ne : k ≡ t → ⊥ = eqb-false k t is in
        let less : k < t = omega (arith, a, ne) in
        ap (λ b. cond b (Some k) (first_from p (k + 1) n)) (none k less) ∙ rest less

-- numbers that don't pass may be left out at the end
pub from_cut : (p : ℕ → Bool) (k n m : ℕ) → n ≤ m → ((i : ℕ) → k + n ≤ i → i < k + m → p i ≡ false) → first_from p k m ≡ first_from p k n
from_cut p k zero m few none = from_none p k m (λ i a b. none i (omega (arith, a)) b)
from_cut p k (suc n) zero few none = absurd (omega (arith, few))
from_cut p k (suc n) (suc m) few none = ap (cond (p k) (Some k))
    (from_cut p (k + 1) n m (omega (arith, few)) (λ i a b. none i (omega (arith, a)) (omega (arith, b))))

pub first_cut : (p : ℕ → Bool) (n m : ℕ) → n ≤ m → ((i : ℕ) → n ≤ i → i < m → p i ≡ false) → first_of p m ≡ first_of p n
first_cut p n m few none = from_cut p 0 n m few (λ i a b. none i (omega (arith, a)) (omega (arith, b)))

-- two tests that agree below n, where q passes nothing from n on
pub first_within : (p q : ℕ → Bool) (n m : ℕ) → n ≤ m → ((i : ℕ) → i < n → q i ≡ p i) → ((i : ℕ) → n ≤ i → i < m → q i ≡ false) → first_of q m ≡ first_of p n
first_within p q n m few same none = first_cut q n m few none ∙ same_first q p n same

-- what is found is one of the numbers
from_below : (p : ℕ → Bool) (k n : ℕ) → IfSome (first_from p k n) (λ t. t < k + n)
from_below p k zero = tt
from_below p k (suc n) = by_test (p k) (widened (first_from p (k + 1) n) (from_below p (k + 1) n))
  where
    widened : (o : Option ℕ) → IfSome o (λ t. t < k + 1 + n) → IfSome o (λ t. t < k + suc n)
    widened None h = tt
    widened (Some t) h = omega (arith, h)

    by_test : (b : Bool) → IfSome (first_from p (k + 1) n) (λ t. t < k + suc n) → IfSome (cond b (Some k) (first_from p (k + 1) n)) (λ t. t < k + suc n)
    by_test true rest = omega arith
    by_test false rest = rest

pub found_below : (p : ℕ → Bool) (n : ℕ) (o : Option ℕ) → o ≡ first_of p n → IfSome o (λ t. t < n)
found_below p n o is = subst (λ (x : Option ℕ). IfSome x (λ t. t < n)) (sym is) (narrowed (first_of p n) (from_below p 0 n))
  where
    narrowed : (x : Option ℕ) → IfSome x (λ t. t < 0 + n) → IfSome x (λ t. t < n)
    narrowed None h = tt
    narrowed (Some t) h = omega (arith, h)
