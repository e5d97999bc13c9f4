-- What the steps do to the claims, and that the rule is kept.
use Rattle.std.proofs.Common.{◌≡◌, ◌≢◌, ℕ, ◌+◌, ◌<◌, ◌≤◌, Bool, true, false, not, cond, List, [], ◌∷◌, ◌++◌, length}
use Rattle.std.proofs.Common.{set, slice_index, sum_by, count_by, refl, sym, ap, ◌∙◌, inl, inr, arith}
use Rattle.std.proofs.lemmas.Bool.{false≢true}
use Rattle.std.proofs.lemmas.List.Sums.{sum_by_push}
use Rattle.std.proofs.lemmas.Nat.Bits.{bit_at-lt}
use mathlib.Core.Option.{some}
use lib.ListN.{get_elem?}
use Rattle.atomic_table.specs.Table.{State}
use Rattle.atomic_table.proofs.Lists.{at_set, set_else, at_snoc}
use Rattle.vector_matrix.specs.declared.view.Vector.{Vector}
use Rattle.vector_matrix.specs.declared.view.View.{View}
use Rattle.vector_matrix.specs.Vectors.{is_in, count_of, IsEachOnce}
use Rattle.vector_matrix.specs.Rule.{bit_of, is_there, held, Holds, left_view, right_view, met_view, spent_view}
use Rattle.vector_matrix.proofs.Adding.{total_set, total_least, total_two, total_one}
use Rattle.vector_matrix.proofs.Listing.{count_both, is_in_from, in_one}

-- 1 for a claim that is there
one_there : View → ℕ
one_there v = cond (is_there v) 1 0

count_there : (views : List View) → count_by is_there views ≡ sum_by one_there views
unfolding one_there
count_there views = refl

there_one : (v : View) → v.spent ≡ false → one_there v ≡ 1
unfolding one_there
there_one v is = ap (λ t. cond (not t) 1 0) is

gone_none : (v : View) → v.spent ≡ true → one_there v ≡ 0
unfolding one_there
gone_none v is = ap (λ t. cond (not t) 1 0) is

pub held_there : (q : Vector) (v : View) → v.spent ≡ false → held q v ≡ count_of q v.holds
held_there q v is = ap (λ t. cond t 0 (count_of q v.holds)) is

held_gone : (q : Vector) (v : View) → v.spent ≡ true → held q v ≡ 0
held_gone q v is = ap (λ t. cond t 0 (count_of q v.holds)) is

module _ (cpus : ℕ) (s : State ℕ View) (rule : Holds cpus s) (id : ℕ) (v : View) (at : get_elem? s.views id ≡ some v) (there : v.spent ≡ false) where
  -- ---- what the claim may be told

  pub held_least : (q : Vector) → count_of q v.holds ≤ bit_of q s.words
  held_least q = omega (arith, total_least (held q) s.views id v at, held_there q v there, rule.bits q)

  pub told_once : IsEachOnce v.holds
  told_once q = omega (arith, held_least q, bit_at-lt (slice_index s.words q.cpu.0) q.number)

  module _ (firstly : v.first ≡ true) where
    pub is_zero : id ≡ 0
    is_zero = (rule.first id v at firstly).0

    module _ (nobody : v.out ≡ 0) where
      -- with nobody out the others are gone
      pub others_gone : (j : ℕ) (u : View) → get_elem? s.views j ≡ some u → j ≢ id → u.spent ≡ true
      others_gone j u e apart = by_test u.spent refl
        where
          by_test : (t : Bool) → u.spent ≡ t → u.spent ≡ true
          by_test true is = is
          by_test false is =
              absurd (omega (
                arith,
                total_two one_there s.views id j v u (λ h. apart (sym h)) at e,
                there_one v there,
                there_one u is,
                count_there s.views,
                (rule.first id v at firstly).1,
                nobody,
              ))

      -- and what is held it holds
      pub all_held : (q : Vector) → bit_of q s.words ≡ count_of q v.holds
      all_held q = rule.bits q ∙ (total_one (held q) s.views id v at (λ j u e apart. held_gone q u (others_gone j u e apart)) ∙ held_there q v there)

      pub told_whole : (q : Vector) → is_in q v.met ≡ true → is_in q v.holds ≡ true
      told_whole q is = is_in_from q v.holds (omega (arith, all_held q, rule.met id v q at there is))

  -- ---- the claim gets a new view

  there_same : (w : View) → w.spent ≡ false → count_by is_there (set s.views id w) ≡ count_by is_there s.views
  there_same w there_w =
      omega (arith, count_there s.views, count_there (set s.views id w), total_set one_there s.views id w v at, there_one v there, there_one w there_w)

  pub changed : (ws : List ℕ) (w : View) → length ws ≡ length s.words → w.spent ≡ false → w.first ≡ v.first → w.out ≡ v.out
      → ((q : Vector) → bit_of q ws + count_of q v.holds ≡ bit_of q s.words + count_of q w.holds)
      → ((q : Vector) → is_in q w.met ≡ true → bit_of q ws ≡ 1)
      → ((j : ℕ) (u : View) (q : Vector) → get_elem? s.views j ≡ some u → j ≢ id → u.spent ≡ false → is_in q u.met ≡ true → bit_of q ws ≡ 1)
      → Holds cpus (record { words = ws; homes = s.homes; views = set s.views id w })
  changed ws w len there_w firsts outs bits own others = record {
    words = len ∙ rule.words;
    bits = λ q. omega (arith, bits q, rule.bits q, total_set (held q) s.views id w v at, held_there q v there, held_there q w there_w);
    met = λ j u q e there_u is. elim (at_set s.views id j w u e) [
      | inl t ↦ own q (ap (λ (y : View). is_in q y.met) t.1 ∙ is)
      | inr t ↦ others j u q t.1 t.0 there_u is
    ];
    first = λ j u e firstly. elim (at_set s.views id j w u e) [
      | inl t ↦ (
          let f = rule.first id v at (sym firsts ∙ (ap (λ (y : View). y.first) t.1 ∙ firstly)) in
          let here : j ≡ 0 = t.0 ∙ f.0 in
          (here, omega (arith, ap (λ (y : View). y.out) t.1, outs, f.1, there_same w there_w))
          )
      | inr t ↦ (let f = rule.first j u t.1 firstly in (f.0, f.1 ∙ sym (there_same w there_w)))
    ];
  }

  -- ---- a fork

  pub forked : v.first ≡ true → Holds cpus (record { words = s.words; homes = s.homes; views = set s.views id (left_view v) ++ right_view ∷ [] })
  forked firstly =
      let rest : List View = set s.views id (left_view v) in
      let count : count_by is_there (rest ++ right_view ∷ []) ≡ count_by is_there s.views + 1 =
      omega (
        arith,
        count_there rest,
        count_there (rest ++ right_view ∷ []),
        sum_by_push one_there rest right_view,
        there_one right_view refl,
        there_same (left_view v) there,
      ) in
      record {
        words = rule.words;
        bits = λ q. omega (
          arith,
          rule.bits q,
          sum_by_push (held q) rest right_view,
          held_there q right_view refl,
          total_set (held q) s.views id (left_view v) v at,
          held_there q v there,
          held_there q (left_view v) there,
        );
        met = λ j u q e there_u is. elim (at_snoc rest right_view u j e) [
          | inl t ↦ elim (at_set s.views id j (left_view v) u t) [
            | inl r ↦ rule.met id v q at there (ap (λ (y : View). is_in q y.met) r.1 ∙ is)
            | inr r ↦ rule.met j u q r.1 there_u is
          ]
          | inr t ↦ absurd (false≢true (ap (λ (y : View). is_in q y.met) t ∙ is))
        ];
        first = λ j u e firstly_u. elim (at_snoc rest right_view u j e) [
          | inl t ↦ elim (at_set s.views id j (left_view v) u t) [
            | inl r ↦ (let f = rule.first id v at firstly in let here : j ≡ 0 = r.0 ∙ f.0 in (here, omega (arith, f.1, count, ap (λ (y : View). y.out) r.1)))
            | inr r ↦ absurd (r.0 ((rule.first j u r.1 firstly_u).0 ∙ sym (is_zero firstly)))
          ]
          | inr t ↦ absurd (false≢true (ap (λ (y : View). y.first) t ∙ firstly_u))
        ];
      }

  -- ---- a meeting

  module _ (firstly : v.first ≡ true) (other : ℕ) (w : View) (apart : other ≢ id)
      (at_other : get_elem? s.views other ≡ some w) (there_other : w.spent ≡ false) where
    pub some_out : 0 < v.out
    some_out = omega (
      arith,
      total_two one_there s.views id other v w (λ h. apart (sym h)) at at_other,
      there_one v
          there,
      there_one w there_other,
      count_there s.views,
      (rule.first id v at firstly).1,
    )

    -- no vector is held by both
    pub held_by_one : (q : Vector) → count_of q v.holds + count_of q w.holds ≤ 1
    held_by_one q = omega (
      arith,
      total_two (held q) s.views id other v w (λ h. apart (sym h)) at at_other,
      held_there q
          v there,
      held_there q w there_other,
      rule.bits q,
      bit_at-lt (slice_index s.words q.cpu.0) q.number,
    )

    pub met_one : Holds cpus (record { words = s.words; homes = s.homes; views = set (set s.views id (met_view v w)) other spent_view })
    met_one =
        let both : List View = set s.views id (met_view v w) in
        let there_both : get_elem? both other ≡ some w = set_else s.views id other (met_view v w) apart ∙ at_other in
        let count : count_by is_there (set both other spent_view) + 1 ≡ count_by is_there s.views =
        omega (
          arith,
          count_there both,
          count_there (set both other spent_view),
          total_set one_there both other
              spent_view w there_both,
          there_one w there_other,
          gone_none spent_view refl,
          there_same (met_view v w)
              there,
        ) in
        record {
          words = rule.words;
          bits = λ q. omega (
            arith,
            rule.bits q,
            total_set (held q) both other spent_view w there_both,
            total_set
                (held q) s.views id (met_view v w) v at,
            held_there q v there,
            held_there q w there_other,
            held_there q
                (met_view v w) there,
            held_gone q spent_view refl,
            count_both q v.holds w.holds,
          );
          met = λ j u q e there_u is. elim (at_set both other j spent_view u e) [
            | inl t ↦ absurd (false≢true (sym there_u ∙ ap (λ (y : View). y.spent) (sym t.1)))
            | inr t ↦ elim (at_set s.views id j (met_view v w) u t.1) [
              | inl r ↦ elim (in_one q v.met w.met (ap (λ (y : View). is_in q y.met) r.1 ∙ is))
                  [ inl x ↦ rule.met id v q at there x | inr x ↦ rule.met other w q at_other there_other x ]
              | inr r ↦ rule.met j u q r.1 there_u is
            ]
          ];
          first = λ j u e firstly_u. elim (at_set both other j spent_view u e) [
            | inl t ↦ absurd (false≢true (ap (λ (y : View). y.first) t.1 ∙ firstly_u))
            | inr t ↦ elim (at_set s.views id j (met_view v w) u t.1) [
              | inl r ↦ (let f = rule.first id v at firstly in let here : j ≡ 0 = r.0 ∙ f.0 in
                  (here, omega (arith, f.1, count, some_out, ap (λ (y : View). y.out) r.1)))
              | inr r ↦ absurd (r.0 ((rule.first j u r.1 firstly_u).0 ∙ sym (is_zero firstly)))
            ]
          ];
        }
