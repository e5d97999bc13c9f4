-- Words of lines, one for each processor.
use Rattle.std.proofs.Common.{◌≡◌, ℕ, zero, suc, ◌<◌, ◌≤◌, ◌^◌, Bool, true, false, not, cond, eqb, is_some, List}
use Rattle.std.proofs.Common.{length, slice_index, slice_set, get_or, replicate, refl, sym, ap, ◌∙◌, eqb-true}
use Rattle.std.proofs.lemmas.Bool.{eqb-false}
use Rattle.std.proofs.lemmas.List.{get_or-set_same, get_or-set_other, get_or_past}
use Rattle.std.proofs.lemmas.Nat.Bits.{bit_at-zero}
use Rattle.board_ready.specs.First.{first_of}
use Rattle.board_ready.specs.Sets.{has, is_of, AreSome}
use Rattle.board_ready.proofs.Numbers.{some_number, no_number}

-- no word has a number
abbrev empty : ℕ
empty = 0

pub fresh_word : (n i : ℕ) → get_or (replicate n empty) i empty ≡ empty
fresh_word zero i = refl
fresh_word (suc n) zero = refl
fresh_word (suc n) (suc i) = fresh_word n i

pub nothing_in : (word i : ℕ) → word ≡ 0 → has word i ≡ false
nothing_in word i is = ap (λ w. has w i) is ∙ ap (λ n. eqb n 1) (bit_at-zero i)

pub fresh_lines : (words : List ℕ) (n : ℕ) → words ≡ replicate n 0 → (c k : ℕ) → is_of words c k ≡ false
fresh_lines words n is c k = nothing_in (slice_index words c) k (ap (λ (s : List ℕ). slice_index s c) is ∙ fresh_word n c)

pub fresh_some : (words : List ℕ) → words ≡ replicate 32 0 → AreSome words 0
fresh_some words is c small =
    let none : slice_index words c ≡ 0 = ap (λ (s : List ℕ). slice_index s c) is ∙ fresh_word 32 c in
    nothing_in 0 c refl ∙ sym (ap is_some (ap (λ w. first_of (has w) 64) none ∙ no_number 64))

-- one processor's word changes, and with it whether it has some
pub put_some : (words : List ℕ) (some after cpu word : ℕ) → cpu < length words → word < 2 ^ 64 → AreSome words some
    → ((c : ℕ) → c < 64 → has after c ≡ cond (eqb c cpu) (not (eqb word 0)) (has some c))
    → AreSome (slice_set words cpu word) after
put_some words some after cpu word inside small old is c few = is c few ∙ by_test (eqb c cpu) refl
  where
    by_test : (b : Bool) → eqb c cpu ≡ b → cond b (not (eqb word 0)) (has some c) ≡ is_some (first_of (is_of (slice_set words cpu word) c) 64)
    by_test true same =
        let e : c ≡ cpu = eqb-true c cpu same in
        some_number word small ∙ ap (λ w. is_some (first_of (has w) 64))
        (sym (ap (slice_index (slice_set words cpu word)) e ∙ get_or-set_same words cpu word 0 inside))
    by_test false other = old c few ∙ ap (λ w. is_some (first_of (has w) 64)) (sym (get_or-set_other words cpu c word 0 (eqb-false c cpu other)))

-- there are no more words than processors
pub none_past : (words : List ℕ) (some c : ℕ) → length words ≤ c → c < 64 → AreSome words some → has some c ≡ false
none_past words some c past few old = old c few ∙ ap is_some (ap (λ w. first_of (has w) 64) (get_or_past words c 0 past) ∙ no_number 64)
