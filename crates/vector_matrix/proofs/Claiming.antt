-- What every claim keeps, and what the calls of the matrix come to.
use Rattle.std.proofs.Common.{◌≡◌, ◌⊎◌, ℕ, zero, suc, ◌+◌, ◌<◌, ◌≤◌, Bool, true, false, not, ◌||◌, MatchBool, List, []}
use Rattle.std.proofs.Common.{◌∷◌, ◌++◌, refl, sym, ap, ◌∙◌, subst, inl, inr, add-one, append-nil, append_assoc, arith}
use Rattle.std.proofs.lemmas.Bool.{false≢true, cases_lt}
use borrow.Author.Count.{below_more}
use Rattle.atomic_table.specs.Seated.{TableId}
use Rattle.atomic_table.specs.Table.{Me}
use Rattle.irq_base.specs.declared.numbers.CpuNo.{CpuNo}
use Rattle.vector_matrix.specs.declared.view.Vector.{Vector}
use Rattle.vector_matrix.specs.declared.view.View.{View}
use Rattle.vector_matrix.specs.Claims.{ClaimSeen, claim_seen, IsWhole, Gains, FindsTaken, PassedBy, IsClaim}
use Rattle.vector_matrix.specs.Rule.{first_view, left_view, right_view, met_view}
use Rattle.vector_matrix.specs.Steps.{gaining, meeting, freeing, Claims, Learns}
use Rattle.vector_matrix.specs.Vectors.{vector_of, same_vector, is_in, count_of, without, unless_in, others_below}
use Rattle.vector_matrix.proofs.Listing.{from_same, one_same, one_other, count_push, count_both, in_counts, not_counts}
use Rattle.vector_matrix.proofs.Listing.{is_in_from, in_one, in_first, in_second, in_alone, in_put, in_or_put}
use Rattle.vector_matrix.proofs.Listing.{count_without, count_others, in_without}

-- ---- one vector is claimed

met_claim : (cpus : ℕ) (v : View) (p : Vector) → IsClaim cpus (v, []) → (v.first ≡ true → v.out ≡ 0 → is_in p v.holds ≡ true) → IsClaim cpus (meeting p v, [])
met_claim cpus v p k whole = record {
  there = k.there;
  idle = refl;
  once = k.once;
  inside = k.inside;
  whole = λ firstly nobody q is. elim (in_one q v.met (unless_in v.holds p) is) [
    | inl t ↦ k.whole firstly nobody q t
    | inr t ↦ subst (λ x. is_in x v.holds ≡ true) (sym (in_put p q v.holds t)) (whole firstly nobody)
  ];
}

got_claim : (cpus : ℕ) (v : View) (p : Vector) → IsClaim cpus (v, []) → p.cpu.0 < cpus → p.number < 64
    → is_in p v.holds ≡ false → IsClaim cpus (gaining p v, [])
got_claim cpus v p k cpu number free = record {
  there = k.there;
  idle = refl;
  once = once;
  inside = λ q is. elim (in_one q v.holds (p ∷ []) is) [
    | inl t ↦ k.inside q t
    | inr t ↦ subst (λ x. (x.cpu.0 < cpus) × (x.number < 64)) (sym (in_alone q p t)) (cpu, number)
  ];
  whole = λ firstly nobody q is. in_first q v.holds (p ∷ []) (k.whole firstly nobody q is);
}
  where
    once : (q : Vector) → count_of q (v.holds ++ p ∷ []) ≤ 1
    once q = by_test (same_vector q p) refl
      where
        by_test : (t : Bool) → same_vector q p ≡ t → count_of q (v.holds ++ p ∷ []) ≤ 1
        by_test true is =
            let none : count_of q v.holds ≡ 0 = subst (λ x. count_of x v.holds ≡ 0) (sym (from_same q p is)) (not_counts p v.holds free) in
            omega (arith, count_push q p v.holds, one_same q p is, none)
        by_test false is = omega (arith, count_push q p v.holds, one_other q p is, k.once q)

pub claimed : (cpus : ℕ) (me after : Me ℕ View) (p : Vector) (set : Bool) → IsClaim cpus me → p.cpu.0 < cpus
    → p.number < 64 → Claims p me set after → IsClaim cpus after
claimed cpus me after p true k cpu number c =
    subst (IsClaim cpus) (sym (c.becomes ∙ ap (λ xs. (meeting p me.0, xs)) k.idle))
    (met_claim cpus me.0 p (subst (λ xs. IsClaim cpus (me.0, xs)) k.idle k) (c.whole refl))
claimed cpus me after p false k cpu number c =
    subst (IsClaim cpus) (sym (c.becomes ∙ ap (λ xs. (gaining p me.0, xs)) k.idle))
    (got_claim cpus me.0 p (subst (λ xs. IsClaim cpus (me.0, xs)) k.idle k) cpu number (c.free refl))

pub shown : (table : TableId) (me after : Me ℕ View) (p : Vector) (set : Bool) → Claims p me set after
    → MatchBool (not set) (Gains p (claim_seen table me.0) (claim_seen table after.0)) (FindsTaken p (claim_seen table me.0) (claim_seen table after.0))
shown table me after p true c = record {
  becomes = ap (λ (m : Me ℕ View). claim_seen table m.0) c.becomes;
  whole = λ is. c.whole refl is.0 is.1;
}
shown table me after p false c = record {
  free = c.free refl;
  becomes = ap (λ (m : Me ℕ View). claim_seen table m.0) c.becomes;
}

-- ---- the processor's vectors are gone through

pub none_passed : (cpu : CpuNo) (old : ClaimSeen) → PassedBy 0 cpu old old
none_passed cpu old = record {
  becomes = ap (λ (xs : List Vector). record old { met = xs }) (sym (append-nil old.met));
  whole = λ is u less. absurd (omega arith);
}

pub one_passed : (n : ℕ) (cpu : CpuNo) (old mid new : ClaimSeen) → PassedBy n cpu old mid → FindsTaken (vector_of cpu n) mid new → PassedBy (n + 1) cpu old new
one_passed n cpu old mid new before now = record {
  becomes =
      now.becomes ∙ (ap (λ (m : ClaimSeen). record m { met = m.met ++ unless_in m.holds (vector_of cpu n) }) before.becomes
      ∙ (ap (λ (xs : List Vector). record old { met = xs }) (append_assoc old.met (others_below n cpu old.holds) (unless_in old.holds (vector_of cpu n)))
      ∙ ap (λ k. record old { met = old.met ++ others_below k cpu old.holds }) (sym (add-one n))));
  whole = λ is. below_more (λ u. is_in (vector_of cpu u) old.holds ≡ true) n (before.whole is) (here is);
}
  where
    here : IsWhole old → is_in (vector_of cpu n) old.holds ≡ true
    here is =
        ap (λ (m : ClaimSeen). is_in (vector_of cpu n) m.holds) (sym before.becomes)
        ∙ now.whole (ap (λ (m : ClaimSeen). m.first) before.becomes ∙ is.0, ap (λ (m : ClaimSeen). m.out) before.becomes ∙ is.1)

-- what was passed by is held or was met
pub known_below : (n u : ℕ) (cpu : CpuNo) (all : List Vector) → u < n
    → (is_in (vector_of cpu u) all ≡ true) ⊎ (is_in (vector_of cpu u) (others_below n cpu all) ≡ true)
known_below zero u cpu all less = absurd (omega arith)
known_below (suc n) u cpu all less = by_place (cases_lt u n) (known_below n u cpu all)
  where
    by_place : (u < n) ⊎ (n ≤ u) → (u < n → (is_in (vector_of cpu u) all ≡ true) ⊎ (is_in (vector_of cpu u) (others_below n cpu all) ≡ true))
        → (is_in (vector_of cpu u) all ≡ true) ⊎ (is_in (vector_of cpu u) (others_below n cpu all ++ unless_in all (vector_of cpu n)) ≡ true)
    by_place (inl t) rest = elim (rest t) [
      | inl x ↦ inl x
      | inr x ↦ inr (in_first (vector_of cpu u) (others_below n cpu all) (unless_in all (vector_of cpu n)) x)
    ]
    by_place (inr t) rest =
        let same : u ≡ n = omega (arith, t, less) in
        subst (λ k. (is_in (vector_of cpu k) all ≡ true)
        ⊎ (is_in (vector_of cpu k) (others_below n cpu all ++ unless_in all (vector_of cpu n)) ≡ true)) (sym same)
        (elim (in_or_put (vector_of cpu n) all) [
          | inl x ↦ inl x
          | inr x ↦ inr (in_second (vector_of cpu n) (others_below n cpu all) (unless_in all (vector_of cpu n)) x)
        ])

or_from : (s t : Bool) → (s ≡ true) ⊎ (t ≡ true) → (s || t) ≡ true
or_from true t h = refl
or_from false t (inl e) = absurd (false≢true e)
or_from false t (inr e) = e

pub known_after : (n : ℕ) (cpu : CpuNo) (old new : ClaimSeen) (more : List Vector)
    → new ≡ record old { holds = old.holds ++ more; met = old.met ++ others_below n cpu old.holds }
    → (u : ℕ) → u < n → (is_in (vector_of cpu u) new.holds || is_in (vector_of cpu u) new.met) ≡ true
known_after n cpu old new more is u less =
    subst (λ (m : ClaimSeen). (is_in (vector_of cpu u) m.holds || is_in (vector_of cpu u) m.met) ≡ true) (sym is)
    (or_from _ _ (elim (known_below n u cpu old.holds less) [
      | inl x ↦ inl (in_first (vector_of cpu u) old.holds more x)
      | inr x ↦ inr (in_second (vector_of cpu u) old.met (others_below n cpu old.holds) x)
    ]))

pub got_free : (n : ℕ) (cpu : CpuNo) (old mid new : ClaimSeen) → PassedBy n cpu old mid
    → Gains (vector_of cpu n) mid new → is_in (vector_of cpu n) old.holds ≡ false
got_free n cpu old mid new before now = ap (λ (m : ClaimSeen). is_in (vector_of cpu n) m.holds) (sym before.becomes) ∙ now.free

pub got_after : (n : ℕ) (cpu : CpuNo) (old mid new : ClaimSeen) → PassedBy n cpu old mid → Gains (vector_of cpu n) mid new
    → new ≡ record old { holds = old.holds ++ vector_of cpu n ∷ []; met = old.met ++ others_below n cpu old.holds }
got_after n cpu old mid new before now = now.becomes ∙ ap (λ (m : ClaimSeen). record m { holds = m.holds ++ vector_of cpu n ∷ [] }) before.becomes

pub full_after : (n : ℕ) (cpu : CpuNo) (old new : ClaimSeen) → PassedBy n cpu old new
    → new ≡ record old { holds = old.holds ++ []; met = old.met ++ others_below n cpu old.holds }
full_after n cpu old new before = before.becomes ∙ ap (λ (xs : List Vector). record old
    { holds = xs; met = old.met ++ others_below n cpu old.holds }) (sym (append-nil old.holds))

-- ---- a vector is given back

pub inside_of : (cpus : ℕ) (table : TableId) (me : Me ℕ View) (old : ClaimSeen) (p : Vector)
    → claim_seen table me.0 ≡ old → IsClaim cpus me → is_in p old.holds ≡ true
    → (is_in p me.0.holds ≡ true) × (p.cpu.0 < cpus) × (p.number < 64)
inside_of cpus table me old p is k held =
    let here : is_in p me.0.holds ≡ true = ap (λ (m : ClaimSeen). is_in p m.holds) is ∙ held in
    let inside = k.inside p here in
    (here, inside.0, inside.1)

pub freed_claim : (cpus : ℕ) (me : Me ℕ View) (p : Vector) → IsClaim cpus me → IsClaim cpus (freeing p me.0, me.1)
freed_claim cpus me p k = record {
  there = k.there;
  idle = k.idle;
  once = λ q. by_test q (same_vector p q) refl;
  inside = λ q is. k.inside q (in_without p q me.0.holds is).0;
  whole = λ firstly nobody q is.
      let left = in_without p q me.0.met is in
      is_in_from q (without p me.0.holds) (omega (arith, count_others p q me.0.holds left.1, in_counts q me.0.holds (k.whole firstly nobody q left.0)));
}
  where
    by_test : (q : Vector) (t : Bool) → same_vector p q ≡ t → count_of q (without p me.0.holds) ≤ 1
    by_test q true is =
        let none : count_of q (without p me.0.holds) ≡ 0 = subst (λ x. count_of x (without p me.0.holds) ≡ 0) (from_same p q is) (count_without p me.0.holds) in
        omega (arith, none)
    by_test q false is = omega (arith, count_others p q me.0.holds is, k.once q)

-- ---- forks and meetings

pub first_claim : (cpus : ℕ) → IsClaim cpus (first_view, [])
first_claim cpus = record {
  there = refl;
  idle = refl;
  once = λ q. omega arith;
  inside = λ q is. absurd (false≢true is);
  whole = λ firstly nobody q is. is;
}

pub right_claim : (cpus : ℕ) → IsClaim cpus (right_view, [])
right_claim cpus = record {
  there = refl;
  idle = refl;
  once = λ q. omega arith;
  inside = λ q is. absurd (false≢true is);
  whole = λ firstly nobody q is. is;
}

pub left_claim : (cpus : ℕ) (me : Me ℕ View) → IsClaim cpus me → IsClaim cpus (left_view me.0, me.1)
left_claim cpus me k = record {
  there = k.there;
  idle = k.idle;
  once = k.once;
  inside = k.inside;
  whole = λ firstly nobody q is. absurd (omega (arith, nobody));
}

pub both_claim : (cpus : ℕ) (me other after : Me ℕ View) → IsClaim cpus me → IsClaim cpus other
    → Learns (met_view me.0 other.0, me.1) after → IsClaim cpus after
both_claim cpus me other after k l now =
    subst (IsClaim cpus) (sym now.becomes) (record {
      there = k.there;
      idle = k.idle;
      once = now.once;
      inside = λ q is. elim (in_one q me.0.holds other.0.holds is) [ inl t ↦ k.inside q t | inr t ↦ l.inside q t ];
      whole = now.whole;
    })

-- no vector was held by both
pub none_shared : (v w : View) (rest : List (ℕ × ℕ)) (after : Me ℕ View) → Learns (met_view v w, rest) after
    → (p : Vector) → is_in p v.holds ≡ true → is_in p w.holds ≡ false
none_shared v w rest after now p held = by_test (is_in p w.holds) refl
  where
    by_test : (t : Bool) → is_in p w.holds ≡ t → is_in p w.holds ≡ false
    by_test true is = absurd (omega (arith, now.once p, count_both p v.holds w.holds, in_counts p v.holds held, in_counts p w.holds is))
    by_test false is = is
