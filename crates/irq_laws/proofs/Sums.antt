-- Sums over numbers below a bound.
use Rattle.std.proofs.Common.{◌≡◌, ℕ, zero, suc, ◌+◌, ◌<◌, ◌≤◌, ◌==◌, Bool, true, false, refl, sym, subst, arith, eqb-true}
use Rattle.std.proofs.lemmas.Bool.{false_from_ne_true, eqb-false}

abbrev pub sum_to : (ℕ → ℕ) → ℕ → ℕ
sum_to f zero = 0
sum_to f (suc n) = sum_to f n + f n

add_most : (a b c d : ℕ) → a ≤ b → c ≤ d → a + c ≤ b + d
add_most a b c d h i = omega (arith, h, i)

add_same : (a b c d : ℕ) → a ≡ b → c ≡ d → a + c ≡ b + d
add_same a b c d h i = omega (arith, h, i)

pub sum_most : (f g : ℕ → ℕ) (n : ℕ) → ((k : ℕ) → f k ≤ g k) → sum_to f n ≤ sum_to g n
sum_most f g zero h = omega arith
sum_most f g (suc n) h = add_most (sum_to f n) (sum_to g n) (f n) (g n) (sum_most f g n h) (h n)

pub sum_none : (f : ℕ → ℕ) (n : ℕ) → ((k : ℕ) → f k ≡ 0) → sum_to f n ≡ 0
sum_none f zero h = refl
sum_none f (suc n) h = add_same (sum_to f n) 0 (f n) 0 (sum_none f n h) (h n)

-- another number than a higher one
lower_differs : (k i : ℕ) → k < i → (k == i) ≡ false
lower_differs k i lt = false_from_ne_true (k == i) (λ z. let same = eqb-true k i z in omega (arith, same, lt))

same_below : (f g : ℕ → ℕ) (i n : ℕ) → n ≤ i → ((k : ℕ) → (k == i) ≡ false → f k ≡ g k) → sum_to f n ≡ sum_to g n
same_below f g i zero le others = refl
same_below f g i (suc n) le others =
    add_same (sum_to f n) (sum_to g n) (f n) (g n) (same_below f g i n (omega (arith, le)) others) (others n (lower_differs n i (omega (arith, le))))

most_below : (f g : ℕ → ℕ) (i n : ℕ) → n ≤ i → ((k : ℕ) → (k == i) ≡ false → f k ≤ g k) → sum_to f n ≤ sum_to g n
most_below f g i zero le others = omega arith
most_below f g i (suc n) le others =
    add_most (sum_to f n) (sum_to g n) (f n) (g n) (most_below f g i n (omega (arith, le)) others) (others n (lower_differs n i (omega (arith, le))))

low_or_next : (i n : ℕ) → i < suc n → (n == i) ≡ false → i < n
low_or_next i n lt h = let x = eqb-false n i h in grind arith

add_here : (a b c d m : ℕ) → a ≡ b → c ≡ d + m → a + c ≡ (b + d) + m
add_here a b c d m h i = omega (arith, h, i)

add_later : (a b c d m : ℕ) → a ≡ b + m → c ≡ d → a + c ≡ (b + d) + m
add_later a b c d m h i = omega (arith, h, i)

-- two that differ at one number
pub sum_more : (f g : ℕ → ℕ) (i m n : ℕ) → i < n → f i ≡ g i + m → ((k : ℕ) → (k == i) ≡ false → f k ≡ g k) → sum_to f n ≡ sum_to g n + m
sum_more f g i m zero lt at others = absurd (omega (arith, lt))
sum_more f g i m (suc n) lt at others = by_test (n == i) refl (λ l. sum_more f g i m n l at others)
  where
    by_test : (b : Bool) → (n == i) ≡ b → (i < n → sum_to f n ≡ sum_to g n + m) → sum_to f n + f n ≡ (sum_to g n + g n) + m
    by_test true same deeper =
        let is : n ≡ i = eqb-true n i same in
        let here : f n ≡ g n + m = subst (λ (k : ℕ). f k ≡ g k + m) (sym is) at in
        add_here (sum_to f n) (sum_to g n) (f n) (g n) m (same_below f g i n (omega (arith, is)) others) here
    by_test false other deeper = add_later (sum_to f n) (sum_to g n) (f n) (g n) m (deeper (low_or_next i n lt other)) (others n other)

most_here : (a b c d m : ℕ) → a ≤ b → c ≤ d + m → a + c ≤ (b + d) + m
most_here a b c d m h i = omega (arith, h, i)

most_later : (a b c d m : ℕ) → a ≤ b + m → c ≤ d → a + c ≤ (b + d) + m
most_later a b c d m h i = omega (arith, h, i)

-- one that is no more than another, but at one number
pub sum_most_but : (f g : ℕ → ℕ) (i m n : ℕ) → f i ≤ g i + m → ((k : ℕ) → (k == i) ≡ false → f k ≤ g k) → sum_to f n ≤ sum_to g n + m
sum_most_but f g i m zero at others = omega arith
sum_most_but f g i m (suc n) at others = by_test (n == i) refl (sum_most_but f g i m n at others)
  where
    by_test : (b : Bool) → (n == i) ≡ b → sum_to f n ≤ sum_to g n + m → sum_to f n + f n ≤ (sum_to g n + g n) + m
    by_test true same deeper =
        let is : n ≡ i = eqb-true n i same in
        let here : f n ≤ g n + m = subst (λ (k : ℕ). f k ≤ g k + m) (sym is) at in
        most_here (sum_to f n) (sum_to g n) (f n) (g n) m (most_below f g i n (omega (arith, is)) others) here
    by_test false other deeper = most_later (sum_to f n) (sum_to g n) (f n) (g n) m deeper (others n other)
