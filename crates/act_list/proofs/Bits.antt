-- Thread bits: no two one-shot actions have the same one, so with fewer than 64 of them one is
-- free.
use Rattle.std.proofs.Common.{◌≡◌, ℕ, zero, suc, ◌+◌, ◌-◌, ◌*◌, ◌/◌, ◌%◌, ◌^◌, ◌<◌, ◌≤◌, min, ◌⊎◌, inl, inr, ◌==◌, leb}
use Rattle.std.proofs.Common.{◌&&◌, Bool, true, false, cond, bit_and, bit_or, count_ones, Some, List, [], ◌∷◌, ◌++◌}
use Rattle.std.proofs.Common.{length, refl, sym, ap, subst, ◌∙◌, arith}
use Rattle.std.proofs.Math.Nat.{pow-suc}
use Rattle.std.specs.Int.{bit_at, trailing_ones, w64}
use Rattle.std.specs.Int.Count.{ones-ones}
use Rattle.std.proofs.lemmas.Bool.{cases_lt, cases_order}
use Rattle.std.specs.Map.{lookup, remove_entry}
use Rattle.std.proofs.lemmas.Nat.{and_le_l, one_shl, or_block, and_block, ones_cat, ones-le, zero_from_ones, shr_split, pow_pos, pow_below, or_lt}
use Rattle.std.proofs.lemmas.Nat.Bits.{bit_at_or, bit_at_and, bit_at_ones, bit_at_ones_above, same_from_bits, and_pow, bit_at-trailing_ones}
use Rattle.irq_base.specs.declared.calls.Flags.{Flags}
use Rattle.irq_base.specs.declared.numbers.DevNo.{DevNo}
use Rattle.irq_model.specs.Kinds.{same_dev}
use Rattle.irq_model.specs.Next.{flags_differ}
use Rattle.act_list.specs.Actions.{is_mismatch, GoWith, AreAlike, bits_from, bits_of, lowest_free, IsLowestFree}
use Rattle.act_list.specs.Actions.{is_full, bits_due, count_oneshot, HaveBits, AreKept, is_oneshot_in}
use Rattle.act_list.specs.declared.actions.Action.{Action}
use Rattle.act_list.proofs.Alike.{by_first, agree, alike_more, alike_less}

abbrev Actions : Type 0
Actions = List (DevNo × Action)

-- ---- bits of words

none : count_ones 0 ≡ 0
none = ones-ones 0

single : count_ones 1 ≡ 1
single = ones-ones 1

digits : (r s : ℕ) → r < 2 → s < 2 → count_ones (bit_or r s) + count_ones (bit_and r s) ≡ count_ones r + count_ones s
digits zero zero p q = refl
digits zero (suc zero) p q = omega arith
digits (suc zero) zero p q = refl
digits (suc zero) (suc zero) p q = refl
digits (suc (suc r)) s p q = absurd (omega (arith, p))
digits zero (suc (suc s)) p q = absurd (omega (arith, q))
digits (suc zero) (suc (suc s)) p q = absurd (omega (arith, q))

one_digit : (x y r s : ℕ) → r < 2 → s < 2 → count_ones (bit_or x y) + count_ones (bit_and x y)
    ≡ count_ones x + count_ones y → count_ones (bit_or (x * 2 ^ 1 + r) (y * 2 ^ 1 + s)) + count_ones
    (bit_and (x * 2 ^ 1 + r) (y * 2 ^ 1 + s)) ≡ count_ones (x * 2 ^ 1 + r) + count_ones (y * 2 ^ 1 + s)
one_digit x y r s p q h =
    let a = ap count_ones (or_block 1 x y r s p q) ∙ ones_cat 1 (bit_or x y) (bit_or r s) (or_lt 1 r s p q) in
    let b = ap count_ones (and_block 1 x y r s p q) ∙ ones_cat 1 (bit_and x y) (bit_and r s) (and_small r s p) in
    omega (arith, a, b, ones_cat 1 x r p, ones_cat 1 y s q, digits r s p q, h)
  where
    and_small : (u v : ℕ) → u < 2 → bit_and u v < 2
    and_small u v l = omega (arith, and_le_l u v, l)

-- the bits of both words, and those that they share
both_below : (k a b : ℕ) → a < 2 ^ k → b < 2 ^ k → count_ones (bit_or a b) + count_ones (bit_and a b) ≡ count_ones a + count_ones b
both_below zero zero zero p q = refl
both_below zero (suc a) b p q = absurd (omega (arith, p))
both_below zero zero (suc b) p q = absurd (omega (arith, q))
both_below (suc k) a b p q =
    let half = both_below k (a / 2) (b / 2) (omega (arith, p, pow-suc 2 k)) (omega (arith, q, pow-suc 2 k)) in
    let e = one_digit (a / 2) (b / 2) (a % 2) (b % 2) (omega arith) (omega arith) half in
    let x : a / 2 * 2 ^ 1 + a % 2 ≡ a = shr_split a 1 in
    let y : b / 2 * 2 ^ 1 + b % 2 ≡ b = shr_split b 1 in
    subst (λ n. count_ones (bit_or n b) + count_ones (bit_and n b) ≡ count_ones n + count_ones b) x
    (subst (λ n. count_ones (bit_or (a / 2 * 2 ^ 1 + a % 2) n) + count_ones (bit_and (a / 2 * 2 ^ 1 + a % 2) n)
    ≡ count_ones (a / 2 * 2 ^ 1 + a % 2) + count_ones n) y e)

lt_pow : (n : ℕ) → n < 2 ^ n
lt_pow zero = omega arith
lt_pow (suc n) = omega (arith, lt_pow n, pow-suc 2 n)

both : (a b : ℕ) → count_ones (bit_or a b) + count_ones (bit_and a b) ≡ count_ones a + count_ones b
both a b = both_below (a + b) a b (above a b) (subst (λ n. b < 2 ^ n) (flip b a) (above b a))
  where
    flip : (m n : ℕ) → m + n ≡ n + m
    flip m n = omega arith

    above : (m n : ℕ) → m < 2 ^ (m + n)
    above m n = omega (arith, lt_pow (m + n))

swap : (a b c : ℕ) → bit_or (bit_or a b) c ≡ bit_or (bit_or a c) b
swap a b c = same_from_bits (bit_or (bit_or a b) c) (bit_or (bit_or a c) b)
    (λ i. omega (arith, bit_at_or (bit_or a b) c i, bit_at_or a b i, bit_at_or (bit_or a c) b i, bit_at_or a c i))

-- a word of k bits that are all set
all_set : (k n : ℕ) → n < 2 ^ k → count_ones n ≡ k → n + 1 ≡ 2 ^ k
all_set zero n p e = omega (arith, p)
all_set (suc k) n p e =
    let small : n / 2 < 2 ^ k = omega (arith, p, pow-suc 2 k) in
    let parts : count_ones n ≡ count_ones (n / 2) + count_ones (n % 2) = ap count_ones (sym (shr_split n 1)) ∙ ones_cat 1 (n / 2) (n % 2) (omega arith) in
    let high = all_set k (n / 2) small (omega (arith, parts, e, ones-le k (n / 2) small, ones-le 1 (n % 2) (omega arith))) in
    let low : n % 2 ≡ 1 = last (n % 2) (omega arith) (omega (arith, parts, e, ones-le k (n / 2) small)) in
    omega (arith, high, low, pow-suc 2 k)
  where
    last : (r : ℕ) → r < 2 → 1 ≤ count_ones r → r ≡ 1
    last zero l h = absurd (omega (arith, h, none))
    last (suc zero) l h = refl
    last (suc (suc r)) l h = absurd (omega (arith, l))

one_bit : (k : ℕ) → count_ones (2 ^ k) ≡ 1
one_bit k = omega (arith, ap count_ones (whole (2 ^ k)), ones_cat k 1 0 (pow_pos k), none, single)
  where
    whole : (n : ℕ) → n ≡ 1 * n + 0
    whole n = omega arith

low_bits : (n k : ℕ) → ((i : ℕ) → i < k → bit_at n i ≡ 1) → bit_and n (2 ^ k - 1) ≡ 2 ^ k - 1
low_bits n k h = same_from_bits (bit_and n (2 ^ k - 1)) (2 ^ k - 1) (λ i. bit_at_and n (2 ^ k - 1) i ∙ by_place i (cases_lt i k))
  where
    by_place : (i : ℕ) → (i < k) ⊎ (k ≤ i) → min (bit_at n i) (bit_at (2 ^ k - 1) i) ≡ bit_at (2 ^ k - 1) i
    by_place i (inl l) = omega (arith, h i l, bit_at_ones k i l)
    by_place i (inr l) = omega (arith, bit_at_ones_above k i l)

-- ---- the bits of the actions

-- one more action
more_from : (u : ℕ) (t : Actions) (x : DevNo × Action) → bits_from u (t ++ x ∷ []) ≡ bit_or (bits_from u t) x.1.bit
more_from u [] x = refl
more_from u (e ∷ es) x = more_from (bit_or u e.1.bit) es x

have_more : (t : Actions) (x : DevNo × Action) → HaveBits t → count_ones x.1.bit ≡ bits_due x.1.flags → x.1.bit < 2 ^ 64 → HaveBits (t ++ x ∷ [])
have_more [] x h due word = (due, word, tt)
have_more (e ∷ es) x h due word = (h.0, h.1, have_more es x h.2 due word)

count_more : (t : Actions) (x : DevNo × Action) → count_oneshot (t ++ x ∷ []) ≡ count_oneshot t + bits_due x.1.flags
count_more [] x = omega arith
count_more (e ∷ es) x = omega (arith, count_more es x)

pub kept_more : (d : DevNo) (a : Action) (t : Actions) → AreKept t → is_mismatch a.flags t ≡ false
    → count_ones a.bit ≡ bits_due a.flags → a.bit < 2 ^ 64 → bit_and (bits_of t) a.bit ≡ 0 → AreKept (t ++ (d, a) ∷ [])
kept_more d a t h goes due word apart = record {
  alike = alike_more d a t h.alike goes;
  have = have_more t (d, a) h.have due word;
  apart = omega (arith, ap count_ones (more_from 0 t (d, a)), both (bits_of t) a.bit, ap count_ones apart, count_more t (d, a), h.apart, due, none);
}

-- no more bits than one-shot actions
no_more : (u : ℕ) (t : Actions) → HaveBits t → count_ones (bits_from u t) ≤ count_ones u + count_oneshot t
no_more u [] h = omega arith
no_more u (e ∷ es) h = omega (arith, no_more (bit_or u e.1.bit) es h.2, both u e.1.bit, h.0)

-- one action less
first_last : (u b : ℕ) (t : Actions) → bits_from (bit_or u b) t ≡ bit_or (bits_from u t) b
first_last u b [] = refl
first_last u b (e ∷ es) = ap (λ n. bits_from n es) (swap u b e.1.bit) ∙ first_last (bit_or u e.1.bit) b es

apart_less : (u : ℕ) (test : DevNo → Bool) (t : Actions) → HaveBits t
    → count_ones (bits_from u t) ≡ count_ones u + count_oneshot t
    → count_ones (bits_from u (remove_entry test t)) ≡ count_ones u + count_oneshot (remove_entry test t)
apart_less u test [] h is = is
apart_less u test (e ∷ es) h is = by_test (test e.0) (apart_less (bit_or u e.1.bit) test es h.2)
  where
    by_test : (b : Bool) → (count_ones (bits_from (bit_or u e.1.bit) es)
        ≡ count_ones (bit_or u e.1.bit) + count_oneshot es
        → count_ones (bits_from (bit_or u e.1.bit) (remove_entry test es))
        ≡ count_ones (bit_or u e.1.bit) + count_oneshot (remove_entry test es))
        → count_ones (bits_from u (cond b es (e ∷ remove_entry test es)))
        ≡ count_ones u + count_oneshot (cond b es (e ∷ remove_entry test es))
    by_test true rest = omega (arith, is, ap count_ones (first_last u e.1.bit es), both (bits_from u es) e.1.bit, no_more u es h.2, h.0)
    by_test false rest =
        let first : count_ones (bit_or u e.1.bit) ≡ count_ones u + bits_due e.1.flags
        = omega (arith, is, no_more (bit_or u e.1.bit) es h.2, both u e.1.bit, h.0) in
        omega (arith, first, rest (omega (arith, is, first, no_more (bit_or u e.1.bit) es h.2)))

have_less : (test : DevNo → Bool) (t : Actions) → HaveBits t → HaveBits (remove_entry test t)
have_less test [] h = tt
have_less test (e ∷ es) h = by_test (test e.0) (have_less test es h.2)
  where
    by_test : (b : Bool) → HaveBits (remove_entry test es) → HaveBits (cond b es (e ∷ remove_entry test es))
    by_test true rest = h.2
    by_test false rest = (h.0, h.1, rest)

pub kept_less : (test : DevNo → Bool) (t : Actions) → AreKept t → AreKept (remove_entry test t)
kept_less test t h = record {
  alike = alike_less test t h.alike;
  have = have_less test t h.have;
  apart = omega (arith, apart_less 0 test t h.have (omega (arith, h.apart, none)), none);
}

-- ---- one is free

words : (u : ℕ) (t : Actions) → u < 2 ^ 64 → HaveBits t → bits_from u t < 2 ^ 64
words u [] l h = l
words u (e ∷ es) l h = words (bit_or u e.1.bit) es (or_lt 64 u e.1.bit l h.1) h.2

free_below : (t : Actions) (used : ℕ) → AreKept t → used ≡ bits_of t → used < 2 ^ 64 → length t < 64
    → (trailing_ones w64 used < 64) × IsLowestFree t (2 ^ trailing_ones w64 used)
free_below t used h is word few = by_lowest (bit_at-trailing_ones w64 used some_clear)
  where
    few_oneshot : (xs : Actions) → count_oneshot xs ≤ length xs
    few_oneshot [] = omega arith
    few_oneshot (x ∷ xs) = one (x.1.flags.oneshot) (few_oneshot xs)
      where
        one : (b : Bool) → count_oneshot xs ≤ length xs → cond b 1 0 + count_oneshot xs ≤ suc (length xs)
        one true l = omega (arith, l)
        one false l = omega (arith, l)

    by_test : (used ≡ 2 ^ 64 - 1) ⊎ ((used < 2 ^ 64 - 1) ⊎ (2 ^ 64 - 1 < used)) → used + 1 < 2 ^ 64
    by_test (inl e) = absurd (omega (arith, ap count_ones e, ones-ones 64, ap count_ones is, h.apart, few_oneshot t, few))
    by_test (inr (inl l)) = omega (arith, l)
    by_test (inr (inr l)) = absurd (omega (arith, l, word))

    some_clear : used + 1 < 2 ^ 64
    some_clear = by_test (cases_order used (2 ^ 64 - 1))

    nothing : (n : ℕ) → 0 * n ≡ 0
    nothing n = omega arith

    by_lowest : (trailing_ones w64 used < 64) × (bit_at used (trailing_ones w64 used) ≡ 0)
        × ((i : ℕ) → i < trailing_ones w64 used → bit_at used i ≡ 1)
        → (trailing_ones w64 used < 64) × IsLowestFree t (2 ^ trailing_ones w64 used)
    by_lowest l = (
      l.0,
      record {
        one = one_bit (trailing_ones w64 used);
        word = pow_below (trailing_ones w64 used) 64 l.0;
        free = ap (λ n. bit_and n (2 ^ trailing_ones w64 used)) (sym is)
            ∙ (and_pow used (trailing_ones w64 used) ∙
            (ap (λ n. n * 2 ^ trailing_ones w64 used) l.1 ∙ nothing (2 ^ trailing_ones w64 used)));
        lowest = ap (λ n. bit_and n (2 ^ trailing_ones w64 used - 1)) (sym is) ∙ low_bits used (trailing_ones w64 used) l.2;
      },
    )

pub free_at : (t : Actions) (used place : ℕ) → AreKept t → used ≡ bits_of t → place ≡ trailing_ones w64 used
    → length t < 64 → (place < 64) × (1 * 2 ^ place % 2 ^ 64 ≡ lowest_free (bits_of t))
    × IsLowestFree t (1 * 2 ^ place % 2 ^ 64)
free_at t used place h is at few =
    let low = free_below t used h is (subst (λ n. n < 2 ^ 64) (sym is) (words 0 t (omega arith) h.have)) few in
    let below : place < 64 = subst (λ n. n < 64) (sym at) low.0 in
    let shifted : 1 * 2 ^ place % 2 ^ 64 ≡ 2 ^ trailing_ones w64 used = one_shl place 64 below ∙ ap (λ n. 2 ^ n) at in
    (below, shifted ∙ ap (λ n. 2 ^ trailing_ones w64 n) is, subst (IsLowestFree t) (sym shifted) low.1)

-- ---- all are in use

due_one : (f : Flags) → f.oneshot ≡ true → bits_due f ≡ 1
due_one f h = by_flag f.oneshot h
  where
    by_flag : (b : Bool) → b ≡ true → cond {A = ℕ} b 1 0 ≡ 1
    by_flag true is = refl
    by_flag false is = cc

all_oneshot : (f : Flags) (t : Actions) → GoWith f t → f.oneshot ≡ true → count_oneshot t ≡ length t
all_oneshot f [] h is = refl
all_oneshot f (e ∷ es) h is = omega (arith, due_one e.1.flags (h.1 ∙ is), all_oneshot f es h.2 is)

oneshot_all : (flags : Flags) (t : Actions) → AreAlike t → flags.oneshot ≡ true → is_mismatch flags t ≡ false → count_oneshot t ≡ length t
oneshot_all flags [] h is goes = refl
oneshot_all flags (e ∷ es) h is goes =
    let first : flags_differ flags e.1.flags ≡ false = sym (by_first flags e es h) ∙ goes in
    let same = agree flags.shared e.1.flags.shared flags.oneshot e.1.flags.oneshot first in
    let own : e.1.flags.oneshot ≡ true = sym same.1 ∙ is in
    omega (arith, due_one e.1.flags own, all_oneshot e.1.flags es h own)

pub at_most : (flags : Flags) (t : Actions) → AreKept t → flags.oneshot ≡ true → is_mismatch flags t ≡ false → length t ≤ 64
at_most flags t h is goes = omega (arith, ones-le 64 (bits_of t) (words 0 t (omega arith) h.have), h.apart, oneshot_all flags t h.alike is goes)

pub full_at : (flags : Flags) (t : Actions) → AreKept t → flags.oneshot ≡ true → is_mismatch flags t ≡ false → (length t == 64) ≡ is_full t
full_at flags t h is goes = same_test (length t) 64 (bits_of t) (2 ^ 64 - 1) back there
  where
    many : count_ones (bits_of t) ≡ length t
    many = h.apart ∙ oneshot_all flags t h.alike is goes

    there : bits_of t ≡ 2 ^ 64 - 1 → length t ≡ 64
    there e = sym many ∙ (ap count_ones e ∙ ones-ones 64)

    back : length t ≡ 64 → bits_of t ≡ 2 ^ 64 - 1
    back e = omega (arith, all_set 64 (bits_of t) (words 0 t (omega arith) h.have) (many ∙ e))

    same_test : (a b c d : ℕ) → (a ≡ b → c ≡ d) → (c ≡ d → a ≡ b) → (a == b) ≡ (c == d)
    same_test a b c d f g = grind (arith, f, g)

pub many_at : (flags : Flags) (t : Actions) (n : ℕ) → AreKept t → flags.oneshot ≡ true → is_mismatch flags t ≡ false
    → n ≡ length t → leb 64 n ≡ (flags.oneshot && (length t == 64))
many_at flags t n h is goes many = ap (leb 64) many ∙ at_bound flags.oneshot (length t) is (at_most flags t h is goes)
  where
    at_bound : (b : Bool) (m : ℕ) → b ≡ true → m ≤ 64 → leb 64 m ≡ (b && (m == 64))
    at_bound b m e l = grind arith

-- ---- the bit of an action

bits_there : (d : DevNo) (t : Actions) (a : Action) → HaveBits t → Some a ≡ lookup (same_dev d) t → count_ones a.bit ≡ bits_due a.flags
bits_there d [] a h found = cc
bits_there d (e ∷ es) a h found = by_test (same_dev d e.0) found (bits_there d es a h.2)
  where
    by_test : (b : Bool) → Some a ≡ cond b (Some e.1) (lookup (same_dev d) es)
        → (Some a ≡ lookup (same_dev d) es → count_ones a.bit ≡ bits_due a.flags) → count_ones a.bit ≡ bits_due a.flags
    by_test true is rest = let same : a ≡ e.1 = cc in subst (λ (x : Action). count_ones x.bit ≡ bits_due x.flags) (sym same) h.0
    by_test false is rest = rest is

pub no_bit : (d : DevNo) (t : Actions) (a : Action) → HaveBits t → Some a ≡ lookup (same_dev d) t → a.bit ≡ 0 → false ≡ is_oneshot_in (lookup (same_dev d) t)
no_bit d t a h found is = by_flag a.flags.oneshot (omega (arith, bits_there d t a h found, ap count_ones is, none)) ∙ ap is_oneshot_in found
  where
    by_flag : (b : Bool) → cond {A = ℕ} b 1 0 ≡ 0 → false ≡ b
    by_flag true e = absurd (omega (arith, e))
    by_flag false e = refl

has_one : (n : ℕ) (b : Bool) → count_ones n ≡ cond b 1 0 → (n ≡ 0 → ⊥) → (true ≡ b) × (count_ones n ≡ 1)
has_one n true e is = (refl, e)
has_one n false e is = absurd (is (zero_from_ones n e))

pub one_bit_there : (d : DevNo) (t : Actions) (a : Action) → HaveBits t → Some a ≡ lookup (same_dev d) t
    → (a.bit ≡ 0 → ⊥) → (true ≡ is_oneshot_in (lookup (same_dev d) t)) × (count_ones a.bit ≡ 1)
one_bit_there d t a h found is =
    let one = has_one a.bit a.flags.oneshot (bits_there d t a h found) is in
    (one.0 ∙ ap is_oneshot_in found, one.1)
