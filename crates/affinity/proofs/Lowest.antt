-- The lowest processor of a mask is its lowest bit.
use Rattle.std.proofs.Common.{◌≡◌, ℕ, zero, suc, ◌+◌, ◌<◌, ◌≤◌, ◌^◌, ◌==◌, Bool, true, false, cond, eqb, is_some}
use Rattle.std.proofs.Common.{IsSome, Option, Some, None, ltb, ◌⊎◌, inl, inr, w32, refl, sym, ap, ◌∙◌, eqb-true, subst}
use Rattle.std.proofs.Common.{arith}
use Rattle.std.proofs.lemmas.Bool.{eqb-false, cases_lt, lt-ltb, le-ltb}
use Rattle.std.proofs.lemmas.Nat.Bits.{bit_at-trailing_zeros, bit_at-zero}
use Rattle.std.specs.Int.{bit_at, trailing_zeros}
use Rattle.std.specs.Int.Count.{trailing_of_zero}
use Rattle.irq_base.specs.declared.numbers.CpuNo.{CpuNo}
use Rattle.irq_model.specs.Lines.{is_in_mask}
use Rattle.irq_model.specs.Signal.{lowest_from, lowest_in}

abbrev numbered : ℕ → CpuNo
numbered n = record { 0 = n }

pub lowest_is : (mask c n t : ℕ) → c ≤ t → t < c + n → is_in_mask mask t ≡ true
    → ((i : ℕ) → i < t → is_in_mask mask i ≡ false) → lowest_from mask c n ≡ Some (record { 0 = t })
lowest_is mask c zero t a b here none = absurd (omega (arith, a, b))
lowest_is mask c (suc n) t a b here none = by_test (eqb c t) refl (λ less. lowest_is mask (c + 1) n t (omega (arith, less)) (omega (arith, b)) here none)
  where
    by_test : (x : Bool) → eqb c t ≡ x → (c < t → lowest_from mask (c + 1) n ≡ Some (numbered t))
        → cond (is_in_mask mask c) (Some (numbered c)) (lowest_from mask (c + 1) n) ≡ Some (numbered t)
    by_test true is rest = let e : c ≡ t = eqb-true c t is in
        ap (λ b. cond b (Some (numbered c)) (lowest_from mask (c + 1) n)) (ap (is_in_mask mask) e ∙ here)
        ∙ ap (λ k. Some (numbered k)) e
    by_test false is rest =
        let ne : c ≡ t → ⊥ = eqb-false c t is in
        let less : c < t = omega (arith, a, ne) in
        ap (λ b. cond b (Some (numbered c)) (lowest_from mask (c + 1) n)) (none c less) ∙ rest less

pub lowest_none : (mask c n : ℕ) → ((i : ℕ) → i < c + n → is_in_mask mask i ≡ false) → lowest_from mask c n ≡ None
lowest_none mask c zero none = refl
lowest_none mask c (suc n) none = ap (λ b. cond b (Some (numbered c)) (lowest_from mask (c + 1) n))
    (none c (omega arith)) ∙ lowest_none mask (c + 1) n (λ i h. none i (omega (arith, h)))

-- the lowest bit of a mask that isn't empty
low : (mask : ℕ) → 0 < mask → mask < 2 ^ 32 → (trailing_zeros w32 mask < 32)
    × (bit_at mask (trailing_zeros w32 mask) ≡ 1) × ((i : ℕ) → i < trailing_zeros w32 mask → bit_at mask i ≡ 0)
low mask some small = bit_at-trailing_zeros w32 mask some small

-- no bit is below the lowest, even if there is none
none_below : (mask i : ℕ) → mask < 2 ^ 32 → i < trailing_zeros w32 mask → is_in_mask mask i ≡ false
none_below zero i small below = ap (λ n. n == 1) (bit_at-zero i)
none_below (suc m) i small below = ap (λ n. n == 1) ((low (suc m) (omega arith) small).2 i below)

found_in : (cpus mask : ℕ) → mask < 2 ^ 32 → cpus ≤ 32 → trailing_zeros w32 mask < cpus → lowest_in cpus mask ≡ Some (record { 0 = trailing_zeros w32 mask })
found_in cpus zero small few within = absurd (let e : trailing_zeros w32 0 ≡ 32 = trailing_of_zero 32 in omega (arith, e, few, within))
found_in cpus (suc m) small few within =
    let l = low (suc m) (omega arith) small in
    lowest_is (suc m) 0 cpus (trailing_zeros w32 (suc m)) (omega arith) (omega (arith, within)) (ap (λ n. n == 1) l.1)
    (λ i below. none_below (suc m) i small below)

-- the mask has a processor of the machine exactly if its lowest bit is one
pub has_lowest : (cpus mask : ℕ) → mask < 2 ^ 32 → cpus ≤ 32 → ltb (trailing_zeros w32 mask) cpus ≡ is_some (lowest_in cpus mask)
has_lowest cpus mask small few = by_order (cases_lt (trailing_zeros w32 mask) cpus)
  where
    by_order : (trailing_zeros w32 mask < cpus) ⊎ (cpus ≤ trailing_zeros w32 mask) → ltb (trailing_zeros w32 mask) cpus ≡ is_some (lowest_in cpus mask)
    by_order (inl within) = lt-ltb (trailing_zeros w32 mask) cpus within ∙ sym (ap is_some (found_in cpus mask small few within))
    by_order (inr past) = le-ltb (trailing_zeros w32 mask) cpus past
        ∙ sym (ap is_some (lowest_none mask 0 cpus (λ i h. none_below mask i small (omega (arith, past, h)))))

-- and then it is the lowest of them
pub target_is : (cpus mask : ℕ) → mask < 2 ^ 32 → cpus ≤ 32 → IsSome (lowest_in cpus mask) → Some (record { 0 = trailing_zeros w32 mask }) ≡ lowest_in cpus mask
target_is cpus mask small few some = by_order (cases_lt (trailing_zeros w32 mask) cpus)
  where
    by_order : (trailing_zeros w32 mask < cpus) ⊎ (cpus ≤ trailing_zeros w32 mask) → Some (numbered (trailing_zeros w32 mask)) ≡ lowest_in cpus mask
    by_order (inl within) = sym (found_in cpus mask small few within)
    by_order (inr past) = let none : lowest_in cpus mask
        ≡ None = lowest_none mask 0 cpus (λ i h. none_below mask i small (omega (arith, past, h))) in
        let bad : IsSome {T = CpuNo} None = subst IsSome none some in cc
