-- Each step as the table asks for it.
use Rattle.std.proofs.Common.{◌≡◌, ℕ, zero, suc, ◌+◌, ◌^◌, ◌<◌, Bool, true, false, cond, List, [], ◌∷◌, ◌++◌, length}
use Rattle.std.proofs.Common.{set, slice_index, bit_or, bit_and, w64, refl, sym, ap, ◌∙◌, subst, inl, inr, eqb, arith}
use Rattle.std.proofs.Common.{length-set}
use Rattle.std.proofs.lemmas.Bool.{false≢true}
use Rattle.std.proofs.lemmas.Nat.Bits.{bit_at-lt, bit_at-zero}
use Rattle.std.specs.Int.{bit_at, bit_not}
use mathlib.Core.Option.{some, some-injective, some-ne-none}
use lib.ListN.{get_elem?}
use Rattle.atomic_table.specs.Table.{State, Me, Act, Allows, Splits, Joins, Valid, Final, Seen, stepped, carried_after, opening}
use Rattle.atomic_table.specs.Table.Act.{keeps}
use Rattle.atomic_table.proofs.Lists.{set_else, set_again}
use Rattle.irq_base.specs.declared.numbers.CpuNo.{CpuNo}
use Rattle.vector_matrix.specs.declared.view.Vector.{Vector}
use Rattle.vector_matrix.specs.declared.view.View.{View}
use Rattle.vector_matrix.specs.Vectors.{vector_of, same_vector, is_in, count_of, without, unless_in}
use Rattle.vector_matrix.specs.Rule.{bit_of, Holds, first_view, left_view, right_view, met_view, spent_view}
use Rattle.vector_matrix.specs.Steps.{has, gaining, meeting, freeing, Claims, Frees, Learns}
use Rattle.vector_matrix.proofs.Bits.{or_same, or_other, and_same, and_other, has_bit, has_none, at_own, at_other}
use Rattle.vector_matrix.proofs.Keeping.{held_least, told_once, told_whole, others_gone, all_held, changed, forked, met_one}
use Rattle.vector_matrix.proofs.Listing.{from_same, one_same, one_other, count_push, in_one, in_put, in_counts}
use Rattle.vector_matrix.proofs.Listing.{not_counts, is_in_from, not_in_from, count_without, count_others, in_without}
use Rattle.vector_matrix.proofs.Listing.{apart_both}

module _ (cpus : ℕ) (s : State ℕ View) (rule : Holds cpus s) (id : ℕ) (v : View) (at : get_elem? s.views id ≡ some v)
    (there : v.spent ≡ false) (p : Vector) (inside : p.cpu.0 < cpus) (few : p.number < 64) where
  within : p.cpu.0 < length s.words
  within = omega (arith, rule.words, inside)

  -- ---- the vector's bit is set

  abbrev word_set : ℕ
  word_set = bit_or (slice_index s.words p.cpu.0) (2 ^ p.number)

  abbrev words_set : List ℕ
  words_set = set s.words p.cpu.0 word_set

  set_own : bit_of p words_set ≡ 1
  set_own = at_own p s.words word_set within ∙ or_same (slice_index s.words p.cpu.0) p.number few

  set_other : (q : Vector) → same_vector p q ≡ false → bit_of q words_set ≡ bit_of q s.words
  set_other q apart = at_other p q s.words word_set within apart (λ i other. or_other (slice_index s.words p.cpu.0) p.number i few other)

  -- what was set still is
  set_still : (q : Vector) → bit_of q s.words ≡ 1 → bit_of q words_set ≡ 1
  set_still q one = by_test (same_vector p q) refl
    where
      by_test : (t : Bool) → same_vector p q ≡ t → bit_of q words_set ≡ 1
      by_test true is = subst (λ x. bit_of x words_set ≡ 1) (from_same p q is) set_own
      by_test false is = set_other q is ∙ one

  -- where it was set before nothing changes
  set_alike : bit_of p s.words ≡ 1 → (q : Vector) → bit_of q words_set ≡ bit_of q s.words
  set_alike one q = by_test (same_vector p q) refl
    where
      by_test : (t : Bool) → same_vector p q ≡ t → bit_of q words_set ≡ bit_of q s.words
      by_test true is = subst (λ x. bit_of x words_set ≡ bit_of x s.words) (from_same p q is) (set_own ∙ sym one)
      by_test false is = set_other q is

  met_set : bit_of p s.words ≡ 1 → Holds cpus (record { words = words_set; homes = s.homes; views = set s.views id (meeting p v) })
  met_set one =
      changed cpus s rule id v at there words_set (meeting p v) (length-set s.words p.cpu.0 word_set) there refl refl
      (λ q. ap (λ n. n + count_of q v.holds) (set_alike one q))
      (λ q is. elim (in_one q v.met (unless_in v.holds p) is) [
        | inl t ↦ set_still q (rule.met id v q at there t)
        | inr t ↦ subst (λ x. bit_of x words_set ≡ 1) (sym (in_put p q v.holds t)) set_own
      ])
      (λ j u q e apart there_u is. set_still q (rule.met j u q e there_u is))

  -- where it was clear the claim has the vector now
  got_bits : bit_of p s.words ≡ 0 → (q : Vector) → bit_of q words_set + count_of q v.holds ≡ bit_of q s.words + count_of q (v.holds ++ p ∷ [])
  got_bits none q = by_test (same_vector q p) refl
    where
      by_test : (t : Bool) → same_vector q p ≡ t → bit_of q words_set + count_of q v.holds ≡ bit_of q s.words + count_of q (v.holds ++ p ∷ [])
      by_test true is =
          let same : p ≡ q = sym (from_same q p is) in
          let own : bit_of q words_set ≡ 1 = subst (λ x. bit_of x words_set ≡ 1) same set_own in
          let old : bit_of q s.words ≡ 0 = subst (λ x. bit_of x s.words ≡ 0) same none in
          omega (arith, count_push q p v.holds, one_same q p is)
      by_test false is = omega (arith, set_other q (apart_both q p is), count_push q p v.holds, one_other q p is)

  got_set : bit_of p s.words ≡ 0 → Holds cpus (record { words = words_set; homes = s.homes; views = set s.views id (gaining p v) })
  got_set none =
      changed cpus s rule id v at there words_set (gaining p v) (length-set s.words p.cpu.0 word_set) there refl refl
      (got_bits none) (λ q is. set_still q (rule.met id v q at there is))
      (λ j u q e apart there_u is. set_still q (rule.met j u q e there_u is))

  -- ---- the vector's bit is cleared

  module _ (firstly : v.first ≡ true) (nobody : v.out ≡ 0) (small : slice_index s.words p.cpu.0 < 2 ^ 64) where
    abbrev word_cleared : ℕ
    word_cleared = bit_and (slice_index s.words p.cpu.0) (bit_not w64 (2 ^ p.number))

    abbrev words_cleared : List ℕ
    words_cleared = set s.words p.cpu.0 word_cleared

    cleared_own : bit_of p words_cleared ≡ 0
    cleared_own = at_own p s.words word_cleared within ∙ and_same (slice_index s.words p.cpu.0) p.number few

    cleared_other : (q : Vector) → same_vector p q ≡ false → bit_of q words_cleared ≡ bit_of q s.words
    cleared_other q apart = at_other p q s.words word_cleared within apart (λ i other. and_other (slice_index s.words p.cpu.0) p.number i small few other)

    freed_bits : (q : Vector) → bit_of q words_cleared + count_of q v.holds ≡ bit_of q s.words + count_of q (without p v.holds)
    freed_bits q = by_test (same_vector p q) refl
      where
        by_test : (t : Bool) → same_vector p q ≡ t → bit_of q words_cleared + count_of q v.holds ≡ bit_of q s.words + count_of q (without p v.holds)
        by_test true is =
            let same : p ≡ q = from_same p q is in
            let own : bit_of q words_cleared ≡ 0 = subst (λ x. bit_of x words_cleared ≡ 0) same cleared_own in
            let none : count_of q (without p v.holds) ≡ 0 = subst (λ x. count_of x (without p v.holds) ≡ 0) same (count_without p v.holds) in
            omega (arith, all_held cpus s rule id v at there firstly nobody q)
        by_test false is = omega (arith, cleared_other q is, count_others p q v.holds is)

    freed : Holds cpus (record { words = words_cleared; homes = s.homes; views = set s.views id (freeing p v) })
    freed =
        changed cpus s rule id v at there words_cleared (freeing p v) (length-set s.words p.cpu.0 word_cleared) there refl refl freed_bits
        (λ q is. (let left = in_without p q v.met is in cleared_other q left.1 ∙ rule.met id v q at there left.0))
        (λ j u q e apart there_u is. absurd (false≢true (sym there_u ∙ others_gone cpus s rule id v at there firstly nobody j u e apart)))

  -- ---- what the claim is told

  free : bit_of p s.words ≡ 0 → is_in p v.holds ≡ false
  free none = not_in_from p v.holds (omega (arith, none, held_least cpus s rule id v at there p))

  own_one : bit_of p s.words ≡ 1 → v.first ≡ true → v.out ≡ 0 → is_in p v.holds ≡ true
  own_one one firstly nobody = is_in_from p v.holds (omega (arith, one, all_held cpus s rule id v at there firstly nobody p))

-- ---- the steps as the table asks for them

pub claim_step : (cpus slots id : ℕ) (me : Me ℕ View) (p : Vector) → me.0.spent ≡ false → p.cpu.0 < cpus → p.number < 64
    → Allows (Holds cpus) slots id me p.cpu.0 (λ n. bit_or n (2 ^ p.number)) (λ n after. Claims p me (has n p.number) after)
claim_step cpus slots id me p there inside few s rule size at small = by_test (has (slice_index s.words p.cpu.0) p.number) refl
  where
    by_test : (t : Bool) → has (slice_index s.words p.cpu.0) p.number ≡ t
        → (w : View) × (a : Act ℕ) × Valid s.homes me.1 a × Holds cpus (stepped s p.cpu.0 (bit_or (slice_index s.words p.cpu.0) (2 ^ p.number)) id me.1 w a)
        × Claims p me (has (slice_index s.words p.cpu.0) p.number) (w, carried_after me.1 a)
    by_test true is =
        let one = has_bit (slice_index s.words p.cpu.0) p.number is in (
          meeting p me.0,
          keeps,
          tt,
          met_set cpus s rule id me.0 at there p inside few one,
          record {
            becomes = ap (λ t. (cond t (meeting p me.0) (gaining p me.0), me.1)) (sym is);
            free = λ none. absurd (false≢true (sym none ∙ is));
            whole = λ set. own_one cpus s rule id me.0 at there p inside few one;
          },
        )
    by_test false is =
        let none = has_none (slice_index s.words p.cpu.0) p.number is in (
          gaining p me.0,
          keeps,
          tt,
          got_set cpus s rule id me.0 at there p inside few none,
          record {
            becomes = ap (λ t. (cond t (meeting p me.0) (gaining p me.0), me.1)) (sym is);
            free = λ clear. free cpus s rule id me.0 at there p inside few none;
            whole = λ set. absurd (false≢true (sym is ∙ set));
          },
        )

pub free_step : (cpus slots id : ℕ) (me : Me ℕ View) (p : Vector) → me.0.spent ≡ false → me.0.first ≡ true → me.0.out ≡ 0 → p.cpu.0 < cpus → p.number < 64
    → Allows (Holds cpus) slots id me p.cpu.0 (λ n. bit_and n (bit_not w64 (2 ^ p.number))) (λ n after. Frees p me after)
free_step cpus slots id me p there firstly nobody inside few s rule size at small
    = (freeing p me.0, keeps, tt, freed cpus s rule id me.0 at there p inside few firstly nobody small, refl)

set_read : (ns : List ℕ) (i : ℕ) → set ns i (slice_index ns i) ≡ ns
set_read [] i = refl
set_read (n ∷ ns) zero = refl
set_read (n ∷ ns) (suc i) = ap (λ xs. n ∷ xs) (set_read ns i)

pub learn_step : (cpus slots id : ℕ) (me : Me ℕ View) → me.0.spent ≡ false → Allows (Holds cpus) slots id me 0 (λ n. n) (λ n after. Learns me after)
learn_step cpus slots id me there s rule size at small =
    let P : List ℕ → Type 0 = λ ns. Holds cpus (record { words = ns; homes = s.homes; views = set s.views id me.0 }) in
    let Q : List View → Type 0 = λ vs. Holds cpus (record { words = s.words; homes = s.homes; views = vs }) in (
      me.0,
      keeps,
      tt,
      subst P (sym (set_read s.words 0)) (subst Q (sym (set_again s.views id me.0 at)) rule),
      record { becomes = refl; once = told_once cpus s rule id me.0 at there; whole = told_whole cpus s rule id me.0 at there },
    )

pub split_step : (cpus id : ℕ) (v : View) → v.spent ≡ false → v.first ≡ true → Splits (Holds cpus) id v (left_view v) right_view
split_step cpus id v there firstly s rule at = forked cpus s rule id v at there firstly

pub join_step : (cpus id other : ℕ) (v w : View) → v.spent ≡ false → v.first ≡ true → w.spent ≡ false
    → Joins (Holds cpus) id v other w (met_view v w) spent_view
join_step cpus id other v w there firstly there_w s rule at apart at_w
    = met_one cpus s rule id v at there firstly other w apart
    (sym (set_else s.views id other (met_view v w) apart) ∙ at_w) there_w

-- ---- the start and the end

pub opened : (cpus : ℕ) (words : List ℕ) → length words ≡ cpus → ((c : ℕ) → slice_index words c ≡ 0) → Holds cpus (opening words [] first_view)
opened cpus words len zeros = record {
  words = len;
  bits = λ p. ap (λ n. bit_at n p.number) (zeros p.cpu.0) ∙ bit_at-zero p.number;
  met = λ id v p e there is. absurd (false≢true (ap (λ (y : View). is_in p y.met) (only_one v id e).1 ∙ is));
  first = λ id v e firstly. (let one = only_one v id e in (one.0, ap (λ (y : View). y.out + 1) (sym one.1)));
}
  where
    only_one : (v : View) (id : ℕ) → get_elem? (first_view ∷ []) id ≡ some v → (id ≡ 0) × (first_view ≡ v)
    only_one v zero e = (refl, some-injective first_view v e)
    only_one v (suc id) e = absurd (some-ne-none v (sym e))

-- the closed words are what the only claim holds
pub ended : (cpus id : ℕ) (v : View) (words slots : List ℕ) → v.spent ≡ false → v.first ≡ true → v.out ≡ 0 → Final (Seen (Holds cpus) id v) words slots
    → (cpu : CpuNo) (n : ℕ) → has (slice_index words cpu.0) n ≡ is_in (vector_of cpu n) v.holds
ended cpus id v words slots there firstly nobody last cpu n =
    by_test (is_in (vector_of cpu n) v.holds) refl
  where
    bit : bit_at (slice_index words cpu.0) n ≡ count_of (vector_of cpu n) v.holds
    bit = ap (λ (ws : List ℕ). bit_at (slice_index ws cpu.0) n) (sym last.2)
        ∙ all_held cpus last.0 last.1.0 id v last.1.1 there firstly nobody (vector_of cpu n)

    by_test : (t : Bool) → is_in (vector_of cpu n) v.holds ≡ t → has (slice_index words cpu.0) n ≡ is_in (vector_of cpu n) v.holds
    by_test true is =
        let one : bit_at (slice_index words cpu.0) n ≡ 1 = omega (arith, bit, in_counts (vector_of cpu n) v.holds is, bit_at-lt (slice_index words cpu.0) n) in
        ap (λ b. eqb b 1) one ∙ sym is
    by_test false is = ap (λ b. eqb b 1) (bit ∙ not_counts (vector_of cpu n) v.holds is) ∙ sym is
