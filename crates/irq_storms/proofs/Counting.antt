-- Counts and sums over a list, and how such counts are compared key by key.
use Rattle.std.proofs.Common.{◌≡◌, ℕ, zero, suc, ◌+◌, ◌≤◌, ◌==◌, Bool, true, false, ◌&&◌, cond, nat_lt, List, [], ◌∷◌, refl, ap, ◌∙◌, arith, lt-ltb, le-ltb}
use Rattle.std.proofs.lemmas.Bool.Decides.{nat_tests}
use Rattle.irq_model.specs.Places.{count_of}
use Rattle.irq_storms.specs.Tests.{total}
use Rattle.irq_storms.specs.Judged.{one_if}

pub mark_most : (b : Bool) → one_if b ≤ 1
mark_most true = omega arith
mark_most false = omega arith

if_both : (b c : Bool) → one_if (c && b) ≡ cond b (one_if c) 0
if_both true true = refl
if_both true false = refl
if_both false true = refl
if_both false false = refl

none_below : (n w : ℕ) → cond (nat_lt n 0) w 0 ≡ 0
none_below n w = ap (λ (b : Bool). cond b w 0) (le-ltb n 0 (omega arith))

one_more_below : (n m w : ℕ) → cond (nat_lt n (suc m)) w 0 ≡ cond (nat_lt n m) w 0 + cond (m == n) w 0
one_more_below n m w = grind (arith, nat_tests)

module _ {A : Type 0} where
  pub count_more : (p : A → Bool) (x : A) (xs : List A) → count_of p (x ∷ xs) ≡ count_of p xs + one_if (p x)
  count_more p x xs = by_test (p x) (count_of p xs)
    where
      by_test : (b : Bool) (n : ℕ) → cond b (n + 1) n ≡ n + cond b 1 0
      by_test true n = refl
      by_test false n = omega arith

  pub count_ext : (p q : A → Bool) (xs : List A) → ((x : A) → p x ≡ q x) → count_of p xs ≡ count_of q xs
  count_ext p q [] h = refl
  count_ext p q (x ∷ xs) h = rw (h x, count_ext p q xs h) refl

  pub count_imply : (p q : A → Bool) (xs : List A) → ((x : A) → p x ≡ true → q x ≡ true) → count_of p xs ≤ count_of q xs
  count_imply p q [] h = omega arith
  count_imply p q (x ∷ xs) h = by_test (p x) (q x) (h x) (count_imply p q xs h)
    where
      by_test : (b c : Bool) → (b ≡ true → c ≡ true) → count_of p xs ≤ count_of q xs
          → cond b (count_of p xs + 1) (count_of p xs) ≤ cond c (count_of q xs + 1) (count_of q xs)
      by_test true true i k = omega (arith, k)
      by_test true false i k = let n = i refl in cc
      by_test false true i k = omega (arith, k)
      by_test false false i k = k

  pub count_total : (p : A → Bool) (xs : List A) → count_of p xs ≡ total (λ x. one_if (p x)) xs
  count_total p [] = refl
  count_total p (x ∷ xs) = let m = count_more p x xs in let r = count_total p xs in omega (arith, m, r)

  pub total_ext : (v w : A → ℕ) (xs : List A) → ((x : A) → v x ≡ w x) → total v xs ≡ total w xs
  total_ext v w [] h = refl
  total_ext v w (x ∷ xs) h = let a = h x in let r = total_ext v w xs h in omega (arith, a, r)

  pub total_le : (v w : A → ℕ) (xs : List A) → ((x : A) → v x ≤ w x) → total v xs ≤ total w xs
  total_le v w [] h = omega arith
  total_le v w (x ∷ xs) h = let a = h x in let r = total_le v w xs h in omega (arith, a, r)

  pub total_sum : (u v w : A → ℕ) (xs : List A) → ((x : A) → u x ≡ v x + w x) → total u xs ≡ total v xs + total w xs
  total_sum u v w [] h = refl
  total_sum u v w (x ∷ xs) h = let a = h x in let r = total_sum u v w xs h in omega (arith, a, r)

  pub total_none : (w : A → ℕ) (xs : List A) → ((x : A) → w x ≡ 0) → total w xs ≡ 0
  total_none w [] h = refl
  total_none w (x ∷ xs) h = let a = h x in let r = total_none w xs h in omega (arith, a, r)

  -- the weights of the items whose key is k, and of the items whose key is below m
  abbrev pub total_at : (A → ℕ) → (A → ℕ) → ℕ → List A → ℕ
  total_at key w k xs = total (λ x. cond (k == key x) (w x) 0) xs

  abbrev pub total_below : (A → ℕ) → (A → ℕ) → ℕ → List A → ℕ
  total_below key w m xs = total (λ x. cond (nat_lt (key x) m) (w x) 0) xs

  pub below_zero : (key w : A → ℕ) (xs : List A) → total_below key w 0 xs ≡ 0
  below_zero key w xs = total_none _ xs (λ x. none_below (key x) (w x))

  pub below_more : (key w : A → ℕ) (m : ℕ) (xs : List A) → total_below key w (suc m) xs ≡ total_below key w m xs + total_at key w m xs
  below_more key w m xs = total_sum _ _ _ xs (λ x. one_more_below (key x) m (w x))

  -- all keys are below their sum and their number
  pub below_all : (key w : A → ℕ) (m : ℕ) (xs : List A) → total (λ x. key x + 1) xs ≤ m → total_below key w m xs ≡ total w xs
  below_all key w m [] h = refl
  below_all key w m (x ∷ xs) h =
      let r = below_all key w m xs (omega (arith, h)) in
      let here : cond (nat_lt (key x) m) (w x) 0 ≡ w x = ap (λ (b : Bool). cond b (w x) 0) (lt-ltb (key x) m (omega (arith, h))) in
      omega (arith, r, here)

  some_below : (key w : A → ℕ) (m : ℕ) (xs : List A) → total_below key w m xs ≤ total w xs
  some_below key w m xs = total_le _ _ xs (λ x. no_more (nat_lt (key x) m) (w x))
    where
      no_more : (b : Bool) (n : ℕ) → cond b n 0 ≤ n
      no_more true n = omega arith
      no_more false n = omega arith

module _ {A B : Type 0} (ka : A → ℕ) (va : A → ℕ) (xs : List A) (kb : B → ℕ) (vb : B → ℕ) (ys : List B) where
  below_by_key : (m : ℕ) → ((k : ℕ) → total_at ka va k xs ≤ total_at kb vb k ys) → total_below ka va m xs ≤ total_below kb vb m ys
  below_by_key zero h = let a = below_zero ka va xs in let b = below_zero kb vb ys in omega (arith, a, b)
  below_by_key (suc m) h =
      let a = below_more ka va m xs in
      let b = below_more kb vb m ys in
      let r = below_by_key m h in
      let here = h m in
      omega (arith, a, b, r, here)

  -- what holds of each key holds of all together
  pub totals_by_key : ((k : ℕ) → total_at ka va k xs ≤ total_at kb vb k ys) → total va xs ≤ total vb ys
  totals_by_key h =
      let m = total (λ x. ka x + 1) xs in
      let a = below_all ka va m xs (omega arith) in
      let b = some_below kb vb m ys in
      let r = below_by_key m h in
      omega (arith, a, b, r)

-- the same of two sums beside each other
module _ {A B C : Type 0} (ka va : A → ℕ) (xs : List A) (kb vb : B → ℕ) (ys : List B) (kc vc : C → ℕ) (zs : List C) where
  below_two : (m : ℕ) → ((k : ℕ) → total_at ka va k xs ≤ total_at kb vb k ys + total_at kc vc k zs)
      → total_below ka va m xs ≤ total_below kb vb m ys + total_below kc vc m zs
  below_two zero h = let a = below_zero ka va xs in omega (arith, a)
  below_two (suc m) h =
      let a = below_more ka va m xs in
      let b = below_more kb vb m ys in
      let c = below_more kc vc m zs in
      let r = below_two m h in
      let here = h m in
      omega (arith, a, b, c, r, here)

  pub totals_by_two : ((k : ℕ) → total_at ka va k xs ≤ total_at kb vb k ys + total_at kc vc k zs) → total va xs ≤ total vb ys + total vc zs
  totals_by_two h =
      let m = total (λ x. ka x + 1) xs in
      let a = below_all ka va m xs (omega arith) in
      let b = some_below kb vb m ys in
      let c = some_below kc vc m zs in
      let r = below_two m h in
      omega (arith, a, b, c, r)

module _ {A : Type 0} (key : A → ℕ) (xs : List A) where
  pub at_key : (p : A → Bool) (k : ℕ) → count_of (λ x. p x && (k == key x)) xs ≡ total_at key (λ x. one_if (p x)) k xs
  at_key p k = count_total _ xs ∙ total_ext _ _ xs (λ x. if_both (k == key x) (p x))

  -- the same of counts over one list
  pub counts_by_key : (p q : A → Bool) → ((k : ℕ) → count_of (λ x. p x && (k == key x)) xs ≤ count_of
      (λ x. q x && (k == key x)) xs) → count_of p xs ≤ count_of q xs
  counts_by_key p q h =
      let r = totals_by_key key (λ x. one_if (p x)) xs key (λ x. one_if (q x)) xs
      (λ k. let a = at_key p k in let b = at_key q k in let here = h k in omega (arith, a, b, here)) in
      let a = count_total p xs in
      let b = count_total q xs in
      omega (arith, a, b, r)
