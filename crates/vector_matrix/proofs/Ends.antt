-- The words at the start, and a copy of them at the end.
use Rattle.std.proofs.Common.{◌≡◌, ℕ, zero, suc, ◌+◌, ◌<◌, ◌≤◌, List, [], ◌∷◌, length, take, replicate, set, slice_index, refl, sym, ap, ◌∙◌, arith}
use Rattle.std.proofs.lemmas.List.{get_or-set_same, get_or-set_other}
use borrow.Author.Count.{below_more}
use mathlib.Core.Option.{some, some-injective, some-ne-none}
use lib.ListN.{get_elem?}
use Rattle.atomic_table.specs.Table.{opening}
use Rattle.vector_matrix.specs.Rule.{Holds, first_view}
use Rattle.vector_matrix.proofs.Stepping.{opened}

abbrev zeros : ℕ → List ℕ
zeros m = replicate m 0

pub zero_word : (m k : ℕ) → slice_index (zeros m) k ≡ 0
zero_word zero k = refl
zero_word (suc m) zero = refl
zero_word (suc m) (suc k) = zero_word m k

taken_word : (m n k : ℕ) → slice_index (take n (zeros m)) k ≡ 0
taken_word zero zero k = refl
taken_word zero (suc n) k = refl
taken_word (suc m) zero k = refl
taken_word (suc m) (suc n) zero = refl
taken_word (suc m) (suc n) (suc k) = taken_word m n k

taken_length : (m n : ℕ) → n ≤ m → length (take n (zeros m)) ≡ n
taken_length m zero few = refl
taken_length zero (suc n) few = absurd (omega (arith, few))
taken_length (suc m) (suc n) few = ap suc (taken_length m n (omega (arith, few)))

pub fresh : (cpus : ℕ) (words : List ℕ) → words ≡ zeros 32 → cpus ≤ 32 → Holds cpus (opening (take cpus words) [] first_view)
fresh cpus words is few =
    opened cpus (take cpus words) (ap (λ (ws : List ℕ). length (take cpus ws)) is ∙ taken_length 32 cpus few)
    (λ c. ap (λ (ws : List ℕ). slice_index (take cpus ws) c) is ∙ taken_word 32 cpus c)

word_at : (ws : List ℕ) (i w : ℕ) → get_elem? ws i ≡ some w → w ≡ slice_index ws i
word_at [] i w e = absurd (some-ne-none w (sym e))
word_at (x ∷ ws) zero w e = sym (some-injective x w e)
word_at (x ∷ ws) (suc i) w e = word_at ws i w e

-- one word more is copied
pub copied : (words ws : List ℕ) (n w : ℕ) → n < length words → get_elem? ws n ≡ some w → ((k : ℕ) → k < n → slice_index words k ≡ slice_index ws k)
    → (k : ℕ) → k < n + 1 → slice_index (set words n w) k ≡ slice_index ws k
copied words ws n w inside at old =
    below_more (λ k. slice_index (set words n w) k ≡ slice_index ws k) n
    (λ k less. get_or-set_other words n k w 0 (λ e. omega (arith, e, less)) ∙ old k less)
    (get_or-set_same words n w 0 inside ∙ word_at ws n w at)

pub zeros_left : (words : List ℕ) (n w : ℕ) → ((k : ℕ) → n ≤ k → slice_index words k ≡ 0) → (k : ℕ) → n + 1 ≤ k → slice_index (set words n w) k ≡ 0
zeros_left words n w old k more = get_or-set_other words n k w 0 (λ e. omega (arith, e, more)) ∙ old k (omega (arith, more))
