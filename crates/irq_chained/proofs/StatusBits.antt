-- The status is read from a word of takes, and the first child that is left from a word of bits.
use Rattle.std.proofs.Common.{◌≡◌, ◌⊎◌, inl, inr, eqb-true, ◌-◌, ℕ, zero, suc, ◌+◌, ◌*◌, ◌/◌, ◌%◌, ◌^◌, ◌<◌, ◌≤◌, Bool}
use Rattle.std.proofs.Common.{true, false, not, ◌&&◌, ◌==◌, bit_and, w64, Option, Some, List, [], ◌∷◌, length}
use Rattle.std.proofs.Common.{slice_get, refl, sym, ap, ◌∙◌, subst, arith}
use Rattle.std.proofs.lemmas.Bool.Decides.{nat_tests}
use Rattle.std.proofs.lemmas.Nat.Bits.{bit_at-zero, bit_at-lt, bit_at_lowest, bit_at-suc, bit_at_above, same_from_bits}
use Rattle.std.proofs.lemmas.Option.{slice_get_past}
use Rattle.std.proofs.Math.Nat.{pow-succ'}
use Rattle.std.specs.Int.{bit_at, bit_not}
use Rattle.irq_laws.proofs.Lists.{both_ways}
use Rattle.board_play.specs.Lines.{BoardLine}
use Rattle.board_ready.specs.First.{first_of}
use Rattle.board_ready.specs.Sets.{has}
use Rattle.board_ready.proofs.First.{first_within, same_first}
use Rattle.board_ready.proofs.Numbers.{both_have, others_have}
use Rattle.board_core.specs.Firsts.{is_take_due}
use Rattle.board_core.proofs.Searches.{there}
use Rattle.irq_chained.specs.Chain.{bit_of, cpu_0, has_take_due, is_left, is_taken_on, status_of}
use Rattle.irq_chained.specs.Walk.{IsWalkOf, is_in_words}
use Rattle.irq_chained.specs.declared.chain.ChainEntry.{ChainEntry}
use Rattle.irq_chained.specs.declared.marks.Walk.{Walk}

lowest_of_sum : (b : Bool) (n : ℕ) → (bit_of b + 2 * n) % 2 ≡ bit_of b
lowest_of_sum true n = omega arith
lowest_of_sum false n = omega arith

rest_of_sum : (b : Bool) (n : ℕ) → (bit_of b + 2 * n) / 2 ≡ n
rest_of_sum true n = omega arith
rest_of_sum false n = omega arith

is_bit : (b : Bool) → (bit_of b == 1) ≡ b
is_bit true = refl
is_bit false = refl

-- bit k says whether the line at place k has a take due
pub status_has : (lines : List BoardLine) (k : ℕ) → has (status_of lines) k ≡ is_take_due cpu_0 (slice_get lines k)
status_has [] k = ap (λ (n : ℕ). n == 1) (bit_at-zero k)
status_has (x ∷ xs) zero =
    let b = has_take_due x in
    ap (λ (n : ℕ). n == 1) (bit_at_lowest (bit_of b + 2 * status_of xs) ∙ lowest_of_sum b (status_of xs)) ∙ is_bit b
status_has (x ∷ xs) (suc k) =
    let b = has_take_due x in
    ap (λ (n : ℕ). n == 1) (bit_at-suc (bit_of b + 2 * status_of xs) k ∙ ap (λ (n : ℕ). bit_at n k) (rest_of_sum b (status_of xs))) ∙ status_has xs k

bit_is_small : (b : Bool) → bit_of b ≤ 1
bit_is_small true = omega arith
bit_is_small false = omega arith

pub status_below : (lines : List BoardLine) → status_of lines < 2 ^ length lines
status_below [] = omega arith
status_below (x ∷ xs) =
    let p : 2 ^ suc (length xs) ≡ 2 * 2 ^ length xs = pow-succ' 2 (length xs) in
    subst (λ (n : ℕ). bit_of (has_take_due x) + 2 * status_of xs < n) (sym p) (omega (arith, status_below xs, bit_is_small (has_take_due x)))

pub status_small : (lines : List BoardLine) → length lines ≤ 32 → status_of lines < 2 ^ 32
status_small lines few = grown (length lines) few (status_below lines)
  where
    raised : (n k : ℕ) → 2 ^ n ≤ 2 ^ (n + k)
    raised n zero = subst (λ (m : ℕ). 2 ^ n ≤ 2 ^ m) (let e : n ≡ n + 0 = omega arith in e) (omega arith)
    raised n (suc k) =
        let p : 2 ^ suc (n + k) ≡ 2 * 2 ^ (n + k) = pow-succ' 2 (n + k) in
        let d = raised n k in
        let e : suc (n + k) ≡ n + suc k = omega arith in
        subst (λ (m : ℕ). 2 ^ n ≤ 2 ^ m) e (omega (arith, p, d))

    grown : (n : ℕ) → n ≤ 32 → status_of lines < 2 ^ n → status_of lines < 2 ^ 32
    grown n le less =
        let e : n + (32 - n) ≡ 32 = omega (arith, le) in
        let r : 2 ^ n ≤ 2 ^ 32 = subst (λ (m : ℕ). 2 ^ n ≤ 2 ^ m) e (raised n (32 - n)) in
        omega (arith, less, r)

-- the same truth, the same bit
same_bit : (a b i : ℕ) → has a i ≡ has b i → bit_at a i ≡ bit_at b i
same_bit a b i same = of_two (bit_at a i) (bit_at b i) (bit_at-lt a i) (bit_at-lt b i) same
  where
    of_two : (x y : ℕ) → x < 2 → y < 2 → (x == 1) ≡ (y == 1) → x ≡ y
    of_two zero zero p q h = refl
    of_two zero (suc zero) p q h = cc
    of_two (suc zero) zero p q h = cc
    of_two (suc zero) (suc zero) p q h = refl
    of_two (suc (suc x)) y p q h = absurd (omega (arith, p))
    of_two x (suc (suc y)) p q h = absurd (omega (arith, q))

-- a word of 64 bits that says of each line whether it has a take due is the status
pub word_is_status : (word : ℕ) (lines : List BoardLine) → length lines ≤ 32 → word < 2 ^ 64
    → ((k : ℕ) → k < 64 → has word k ≡ is_take_due cpu_0 (slice_get lines k)) → word ≡ status_of lines
word_is_status word lines few small each = same_from_bits word (status_of lines) (λ i. by_place i (there_or i))
  where
    there_or : (i : ℕ) → (i < 64) ⊎ (64 ≤ i)
    there_or i = grind arith

    by_place : (i : ℕ) → (i < 64) ⊎ (64 ≤ i) → bit_at word i ≡ bit_at (status_of lines) i
    by_place i (inl low) = same_bit word (status_of lines) i (each i low ∙ sym (status_has lines i))
    by_place i (inr high) =
        let s : status_of lines < 2 ^ 64 = omega (arith, status_small lines few) in
        bit_at_above word 64 i small high ∙ sym (bit_at_above (status_of lines) 64 i s high)

-- if some bit is set, some line has a take due
pub record IsAsking (lines : List BoardLine) : Type 0 where
  pub place : ℕ
  pub line : BoardLine
  pub at : slice_get lines place ≡ Some line
  pub due : has_take_due line ≡ true

pub some_asks : (lines : List BoardLine) → (status_of lines == 0) ≡ false → IsAsking lines
some_asks [] some = cc
some_asks (x ∷ xs) some = by_test (has_take_due x) refl some (λ h. some_asks xs h)
  where
    twice : (n : ℕ) → (0 + 2 * n == 0) ≡ false → (n == 0) ≡ false
    twice zero h = cc
    twice (suc n) h = grind (arith, nat_tests)

    by_test : (b : Bool) → has_take_due x ≡ b → (bit_of b + 2 * status_of xs == 0) ≡ false → ((status_of xs == 0) ≡ false → IsAsking xs) → IsAsking (x ∷ xs)
    by_test true is some rest = record { place = 0; line = x; at = refl; due = is }
    by_test false is some rest = let r = rest (twice (status_of xs) some) in record { place = suc r.place; line = r.line; at = r.at; due = r.due }

-- a line that asks makes the status more than 0
pub asked_by : (lines : List BoardLine) (k : ℕ) (x : BoardLine) → slice_get lines k ≡ Some x → has_take_due x ≡ true → (status_of lines == 0) ≡ false
asked_by lines k x at due = by_test (status_of lines == 0) refl
  where
    by_test : (b : Bool) → (status_of lines == 0) ≡ b → b ≡ false
    by_test true is_zero =
        let e : status_of lines ≡ 0 = eqb-true (status_of lines) 0 is_zero in
        let none : has (status_of lines) k ≡ false = ap (λ (n : ℕ). has n k) e ∙ ap (λ (n : ℕ). n == 1) (bit_at-zero k) in
        let some : has (status_of lines) k ≡ true = status_has lines k ∙ (ap (λ (o : Option BoardLine). is_take_due cpu_0 o) at ∙ due) in
        both_ways (has (status_of lines) k) some none
    by_test false is = refl

-- ---- the first child that is left

-- the bits of the three words
pub left_has : (status taken due k : ℕ) → taken < 2 ^ 64 → k < 64
    → has (bit_and (bit_and status (bit_not w64 taken)) due) k ≡ (has status k && (has due k && not (has taken k)))
left_has status taken due k small few =
    both_have (bit_and status (bit_not w64 taken)) due k
    ∙ (ap (λ (b : Bool). b && has due k) (both_have status (bit_not w64 taken) k
    ∙ ap (λ (b : Bool). has status k && b) (others_have taken k small few))
    ∙ turned (has status k) (not (has taken k)) (has due k))
  where
    turned : (a b c : Bool) → ((a && b) && c) ≡ (a && (c && b))
    turned true true true = refl
    turned true true false = refl
    turned true false true = refl
    turned true false false = refl
    turned false b c = refl

pub first_in_words : (status taken due word : ℕ) (o : Option ℕ) → taken < 2 ^ 64
    → word ≡ bit_and (bit_and status (bit_not w64 taken)) due → o ≡ first_of (has word) 64
    → o ≡ first_of (is_in_words status taken due) 64
first_in_words status taken due word o small is found =
    found ∙ same_first (has word) (is_in_words status taken due) 64 (λ k few. ap (λ (w : ℕ). has w k) is ∙ left_has status taken due k small few)

-- by the words, the first child that is left
pub left_place : (w : Walk) (due : ℕ) (lines : List BoardLine) (g : List ChainEntry) → due ≡ status_of lines
    → length lines ≤ 32 → IsWalkOf lines g (Some w) → first_of (is_in_words w.status w.taken due) 64
    ≡ first_of (is_left g lines w.status) (length lines)
left_place w due lines g is few walk =
    first_within (is_left g lines w.status) (is_in_words w.status w.taken due) (length lines) 64 (omega (arith, few)) same none
  where
    asks : (k : ℕ) → has due k ≡ is_take_due cpu_0 (slice_get lines k)
    asks k = ap (λ (n : ℕ). has n k) is ∙ status_has lines k

    same : (k : ℕ) → k < length lines → is_in_words w.status w.taken due k ≡ is_left g lines w.status k
    same k less =
        let x = there lines k less in
        ap (λ (b : Bool). has w.status k && (b && not (has w.taken k))) (asks k)
        ∙ ap (λ (b : Bool). has w.status k && (is_take_due cpu_0 (slice_get lines k) && not b))
        (walk.1 k x.0 x.1 ∙ ap (λ (o : Option BoardLine). is_taken_on g o) (sym x.1))

    none : (k : ℕ) → length lines ≤ k → k < 64 → is_in_words w.status w.taken due k ≡ false
    none k past few =
        ap (λ (b : Bool). has w.status k && (b && not (has w.taken k)))
        (asks k ∙ ap (λ (o : Option BoardLine). is_take_due cpu_0 o) (slice_get_past lines k past))
        ∙ nothing (has w.status k)
      where
        nothing : (b : Bool) → (b && false) ≡ false
        nothing true = refl
        nothing false = refl
