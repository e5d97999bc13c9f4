-- What the steps do to the passes.
use Rattle.std.proofs.Common.{◌≡◌, ◌≢◌, ◌⊎◌, ℕ, zero, suc, Bool, true, false, IfSome, Option, Some, None, List, [], ◌∷◌}
use Rattle.std.proofs.Common.{◌++◌, length, set, refl, sym, ap, subst, ◌∙◌, inl, inr, arith}
use Rattle.std.proofs.lemmas.Bool.{false≢true}
use Rattle.std.proofs.lemmas.Option.{none-some, same_Some}
use mathlib.Core.Option.{some, some-injective, some-ne-none}
use lib.ListN.{get_elem?}
use Rattle.atomic_table.proofs.Lists.{at_set, set_else, at_longer, at_last}
use Rattle.irq_base.specs.declared.entries.Actor.{Actor}
use Rattle.irq_base.specs.declared.entries.Entry.{Entry}
use Rattle.irq_base.specs.declared.lines.LineDef.{LineDef}
use Rattle.irq_model.specs.Kinds.{same_actor}
use Rattle.line_lock.specs.Placed.{placed, placed_of}
use Rattle.line_lock.specs.Knows.{BeginsWith, longer, is_among, without_of, met, Meets, IsKnown}
use Rattle.line_lock.specs.Rule.{Fits, Passes, first_view, left_view, right_view, met_view}
use Rattle.line_lock.specs.declared.view.View.{View}
use Rattle.line_lock.proofs.Actors.{same_or_not, apart_from, differs, among_old, among_new, among_either, among_neither, still_among, kept_among, gone}
use Rattle.line_lock.proofs.Placing.{begins_self, begins_more, longer_begins, longer_begins_first, longer_begins_second, none_before, between_of, all_seen}

module _ {A : Type 0} where
  pub set_there : (l : List A) (i : ℕ) (a b : A) → get_elem? l i ≡ some b → get_elem? (set l i a) i ≡ some a
  set_there [] i a b e = absurd (some-ne-none b (sym e))
  set_there (x ∷ xs) zero a b e = refl
  set_there (x ∷ xs) (suc i) a b e = set_there xs i a b e

  pub at_end : (l : List A) (a b : A) (j : ℕ) → get_elem? (l ++ a ∷ []) j ≡ some b → (get_elem? l j ≡ some b) ⊎ ((j ≡ length l) × (a ≡ b))
  at_end [] a b zero e = inr (refl, some-injective a b e)
  at_end [] a b (suc j) e = absurd (some-ne-none b (sym e))
  at_end (x ∷ xs) a b zero e = inl e
  at_end (x ∷ xs) a b (suc j) e = elim (at_end xs a b j e) [ inl t ↦ inl t | inr t ↦ inr (omega (arith, t.0), t.1) ]

  pub only_one : (a b : A) (j : ℕ) → get_elem? (a ∷ []) j ≡ some b → (j ≡ 0) × (a ≡ b)
  only_one a b zero e = (refl, some-injective a b e)
  only_one a b (suc j) e = absurd (some-ne-none b (sym e))

module _ (key : LineDef) (h : List Entry) (views : List View) (p : Passes key h views) where
  -- a pass with an actor isn't the first
  not_first : (id : ℕ) (v : View) (who : Actor) → get_elem? views id ≡ some v → v.knows.actor ≡ Some who → id ≢ 0
  not_first id v who at is here =
      let same : p.first ≡ v = some-injective p.first v (sym p.at ∙ (ap (λ k. get_elem? views k) (sym here) ∙ at)) in
      none-some who (sym p.is_first.actor ∙ (ap (λ (u : View). u.knows.actor) same ∙ is))

  -- its actor is out
  out_of : (id : ℕ) (v : View) (who : Actor) → get_elem? views id ≡ some v → v.spent ≡ false → v.knows.actor ≡ Some who → is_among who p.first.knows.out ≡ true
  out_of id v who at there is =
      let a = p.actors id v at there (not_first id v who at is) in
      subst (λ x. is_among x p.first.knows.out ≡ true) (same_Some a.0 who (sym a.1 ∙ is)) a.2

  -- a pass without an actor is the first
  pub is_zero : (id : ℕ) (v : View) → get_elem? views id ≡ some v → v.spent ≡ false → v.knows.actor ≡ None → id ≡ 0
  is_zero zero v at there firstly = refl
  is_zero (suc id) v at there firstly =
      let a = p.actors (suc id) v at there (λ e. omega (arith, e)) in
      absurd (none-some a.0 (sym firstly ∙ a.1))

  pub is_first_view : (id : ℕ) (v : View) → get_elem? views id ≡ some v → v.spent ≡ false → v.knows.actor ≡ None → p.first ≡ v
  is_first_view id v at there firstly =
      some-injective p.first v (sym p.at ∙ (ap (λ k. get_elem? views k) (sym (is_zero id v at there firstly)) ∙ at))

  -- ---- a pass with an actor takes a step, after which the history is longer by entries of its own, or the same

  module _ (longer_history : List Entry) (id : ℕ) (v w : View) (who : Actor) (at : get_elem? views id ≡ some v)
      (there : v.spent ≡ false) (is : v.knows.actor ≡ Some who) (there_after : w.spent ≡ false)
      (is_after : w.knows.actor ≡ Some who)
      (fits : Fits key longer_history w) (grows : BeginsWith longer_history h)
      (others : (b : Actor) → (b ≡ who → ⊥) → placed b longer_history ≡ placed b h) where
    same_of : (j : ℕ) (u : View) (o : Option Actor) → get_elem? views j ≡ some u → u.spent ≡ false → j ≢ id
        → u.knows.actor ≡ o → placed_of o longer_history ≡ placed_of o h
    same_of j u None at_u there_u apart e = refl
    same_of j u (Some b) at_u there_u apart e = others b (λ same. apart (p.differ j id u v who at_u at there_u there (e ∙ ap Some same) is))

    still_fits : (j : ℕ) (u : View) → get_elem? views j ≡ some u → u.spent ≡ false → j ≢ id → Fits key longer_history u
    still_fits j u at_u there_u apart =
        let f = p.seats j u at_u there_u in
        record {
          def = f.def;
          seen = begins_more longer_history h u.knows.seen grows f.seen;
          mine = f.mine ∙ sym (same_of j u u.knows.actor at_u there_u apart refl);
          within = f.within;
        }

    by_out : (b : Actor) → is_among b p.first.knows.out ≡ false → b ≡ who → ⊥
    by_out b not_out same = false≢true (sym not_out ∙ (ap (λ x. is_among x p.first.knows.out) same ∙ out_of id v who at there is))

    by_given : (b : Actor) → is_among b p.first.knows.given ≡ false → b ≡ who → ⊥
    by_given b not_given same = false≢true (sym not_given
        ∙ (ap (λ x. is_among x p.first.knows.given) same ∙ p.is_first.given who (out_of id v who at there is)))

    -- a pass with an actor, as it was before
    before : (j : ℕ) (u : View) (b : Actor) → get_elem? (set views id w) j ≡ some u → u.spent ≡ false → u.knows.actor ≡ Some b
        → (x : View) × (get_elem? views j ≡ some x) × (x.spent ≡ false) × (x.knows.actor ≡ Some b)
    before j u b e there_u e_u = elim (at_set views id j w u e) [
      | inl t ↦ (v, ap (λ k. get_elem? views k) t.0 ∙ at, there, is ∙ (sym is_after ∙ (ap (λ (y : View). y.knows.actor) t.1 ∙ e_u)))
      | inr t ↦ (u, t.1, there_u, e_u)
    ]

    back_after : (b : Actor) → is_among b p.first.knows.out ≡ true
        → (j : ℕ) × (u : View) × (get_elem? (set views id w) j ≡ some u) × (u.spent ≡ false) × (u.knows.actor ≡ Some b)
    back_after b out =
        let old = p.back b out in
        elim (same_or_not b who) [
          | inl same ↦ (id, w, set_there views id w v at, there_after, is_after ∙ ap Some (sym same))
          | inr apart ↦ (
            old.0,
            old.1,
            set_else views id old.0 w
                (λ e. apart_from b who apart (same_Some b who
                (sym old.4 ∙ (ap (λ (y : View). y.knows.actor)
                (some-injective old.1 v (sym old.2 ∙ (ap (λ k. get_elem? views k) e ∙ at))) ∙ is))))
                ∙ old.2,
            old.3,
            old.4,
          )
        ]

    pub changed : Passes key longer_history (set views id w)
    changed = record {
      seats = λ j u e there_u. elim (at_set views id j w u e) [ inl t ↦ subst (Fits key longer_history) t.1 fits | inr t ↦ still_fits j u t.1 there_u t.0 ];
      first = p.first;
      at = set_else views id 0 w (λ e. not_first id v who at is (sym e)) ∙ p.at;
      is_first = p.is_first;
      actors = λ j u e there_u away. elim (at_set views id j w u e) [
        | inl t ↦ (who, ap (λ (y : View). y.knows.actor) (sym t.1) ∙ is_after, out_of id v who at there is)
        | inr t ↦ p.actors j u t.1 there_u away
      ];
      back = back_after;
      differ = λ i j u x b e f there_u there_x e_u e_x.
          let old = before i u b e there_u e_u in
          let other = before j x b f there_x e_x in
          p.differ i j old.0 other.0 b old.1 other.1 old.2 other.2 old.3 other.3;
      strangers = λ b not_given. others b (by_given b not_given) ∙ p.strangers b not_given;
      settled = λ b given not_out. others b (by_out b not_out) ∙ p.settled b given not_out;
    }

  -- ---- the first pass gives one

  module _ (a : Actor) (v : View) (at : get_elem? views 0 ≡ some v) (there : v.spent ≡ false)
      (firstly : v.knows.actor ≡ None) (fresh : is_among a v.knows.given ≡ false) where
    old : p.first ≡ v
    old = is_first_view 0 v at there firstly

    was_given : (who : Actor) → is_among who v.knows.out ≡ true → is_among who v.knows.given ≡ true
    was_given = subst (λ (x : View). (who : Actor) → is_among who x.knows.out ≡ true → is_among who x.knows.given ≡ true) old p.is_first.given

    unseen : placed a h ≡ []
    unseen = p.strangers a (ap (λ (x : View). is_among a x.knows.given) old ∙ fresh)

    left_fits : Fits key h (left_view v a)
    left_fits = let f = p.seats 0 v at there in record { def = f.def; seen = f.seen; mine = f.mine; within = f.within }

    right_fits : Fits key h (right_view v a)
    right_fits =
        let f = p.seats 0 v at there in
        record { def = f.def; seen = f.seen; mine = sym unseen; within = sym (none_before a h v.knows.seen f.seen unseen) }

    given_after : (who : Actor) → is_among who (v.knows.out ++ a ∷ []) ≡ true → is_among who (v.knows.given ++ a ∷ []) ≡ true
    given_after who out = elim (among_either who a v.knows.out out) [
      | inl t ↦ among_old who a v.knows.given (was_given who t)
      | inr t ↦ subst (λ x. is_among x (v.knows.given ++ a ∷ []) ≡ true) (sym t) (among_new a v.knows.given)
    ]

    -- the pass is the first, an old one, or the new one
    find : (j : ℕ) (u : View) → get_elem? (set views 0 (left_view v a) ++ right_view v a ∷ []) j ≡ some u
        → ((j ≡ length (set views 0 (left_view v a))) × (right_view v a ≡ u)) ⊎ (((j ≡ 0) × (left_view v a ≡ u)) ⊎ ((j ≢ 0) × (get_elem? views j ≡ some u)))
    find j u e = elim (at_end (set views 0 (left_view v a)) (right_view v a) u j e) [
      | inl t ↦ inr (at_set views 0 j (left_view v a) u t)
      | inr t ↦ inl t
    ]

    -- a pass with an actor, which is the new one's or was out
    find_actor : (j : ℕ) (u : View) (b : Actor) → get_elem? (set views 0 (left_view v a) ++ right_view v a ∷ []) j
        ≡ some u → u.spent ≡ false → u.knows.actor ≡ Some b
        → ((j ≡ length (set views 0 (left_view v a))) × (b ≡ a)) ⊎ ((get_elem? views j ≡ some u) × (same_actor b a ≡ false))
    find_actor j u b e there_u is = elim (find j u e) [
      | inl t ↦ inl (t.0, same_Some b a (sym is ∙ ap (λ (y : View). y.knows.actor) (sym t.1)))
      | inr t ↦ elim t [
        | inl r ↦ absurd (none-some b (sym firstly ∙ (ap (λ (y : View). y.knows.actor) r.1 ∙ is)))
        | inr r ↦ inr (
          r.1,
          differs b a (λ same. false≢true
              (sym fresh ∙ (ap (λ x. is_among x v.knows.given) (sym same)
              ∙ was_given b (ap (λ (x : View). is_among b x.knows.out) (sym old) ∙ out_of j u b r.1 there_u is)))),
        )
      ]
    ]

    pub given_out : Passes key h (set views 0 (left_view v a) ++ right_view v a ∷ [])
    given_out = record {
      seats = λ j u e there_u. elim (find j u e) [
        | inl t ↦ subst (Fits key h) t.1 right_fits
        | inr t ↦ elim t [ inl r ↦ subst (Fits key h) r.1 left_fits | inr r ↦ p.seats j u r.1 there_u ]
      ];
      first = left_view v a;
      at = at_longer (set views 0 (left_view v a)) (right_view v a ∷ []) 0 (left_view v a) (set_there views 0 (left_view v a) v at);
      is_first = record { there = there; actor = firstly; given = given_after; last = tt };
      actors = λ j u e there_u away. elim (find j u e) [
        | inl t ↦ (a, ap (λ (y : View). y.knows.actor) (sym t.1), among_new a v.knows.out)
        | inr t ↦ elim t [
          | inl r ↦ absurd (away r.0)
          | inr r ↦ (let x = p.actors j u r.1 there_u away in
              (x.0, x.1, among_old x.0 a v.knows.out (ap (λ (y : View). is_among x.0 y.knows.out) (sym old) ∙ x.2)))
        ]
      ];
      back = λ b out. elim (among_either b a v.knows.out out) [
        | inl t ↦ (
            let x = p.back b (ap (λ (y : View). is_among b y.knows.out) old ∙ t) in (
              x.0,
              x.1,
              at_longer (set views 0 (left_view v a)) (right_view v a ∷ []) x.0 x.1
                  (set_else views 0 x.0 (left_view v a) (not_first x.0 x.1 b x.2 x.4) ∙ x.2),
              x.3,
              x.4,
            )
            )
        | inr t ↦ (
          length (set views 0 (left_view v a)),
          right_view v a,
          at_last (set views 0 (left_view v a))
              (right_view v a) (length (set views 0 (left_view v a))) refl,
          there,
          ap Some (sym t),
        )
      ];
      differ = λ i j u x b e f there_u there_x e_u e_x. elim (find_actor i u b e there_u e_u) [
        | inl t ↦ elim (find_actor j x b f there_x e_x) [ inl r ↦ t.0 ∙ sym r.0 | inr r ↦ absurd (apart_from b a r.1 t.1) ]
        | inr t ↦ elim (find_actor j x b f there_x e_x) [ inl r ↦ absurd (apart_from b a t.1 r.1) | inr r ↦ p.differ i j u x b t.0 r.0 there_u there_x e_u e_x ]
      ];
      strangers = λ b not_given. p.strangers b (ap (λ (y : View). is_among b y.knows.given) old ∙ (among_neither b a v.knows.given not_given).0);
      settled = λ b given not_out.
          let apart = among_neither b a v.knows.out not_out in
          elim (among_either b a v.knows.given given) [
            | inl t ↦ p.settled b (ap (λ (y : View). is_among b y.knows.given) old ∙ t)
                (ap (λ (y : View). is_among b y.knows.out) old ∙ apart.0)
                ∙ ap (λ (y : View). placed b y.knows.seen) old
            | inr t ↦ absurd (apart_from b a apart.1 t)
          ];
    }

  -- ---- the first pass meets another, which is spent

  module _ (other : ℕ) (v w gone_view : View) (b : Actor) (at : get_elem? views 0 ≡ some v) (there : v.spent ≡ false)
      (firstly : v.knows.actor ≡ None) (away : other ≢ 0) (at_other : get_elem? views other ≡ some w)
      (there_other : w.spent ≡ false) (is : w.knows.actor ≡ Some b) (spent : gone_view.spent ≡ true) where
    first_old : p.first ≡ v
    first_old = is_first_view 0 v at there firstly

    whole : List Entry
    whole = longer v.knows.seen w.knows.seen

    fits_first : Fits key h v
    fits_first = p.seats 0 v at there

    fits_other : Fits key h w
    fits_other = p.seats other w at_other there_other

    above : BeginsWith h (longer v.knows.seen w.knows.seen)
    above = longer_begins h v.knows.seen w.knows.seen fits_first.seen fits_other.seen

    begins_first : BeginsWith (longer v.knows.seen w.knows.seen) v.knows.seen
    begins_first = longer_begins_first h v.knows.seen w.knows.seen fits_first.seen fits_other.seen

    begins_second : BeginsWith (longer v.knows.seen w.knows.seen) w.knows.seen
    begins_second = longer_begins_second h v.knows.seen w.knows.seen fits_first.seen fits_other.seen

    own : placed_of w.knows.actor (longer v.knows.seen w.knows.seen) ≡ w.knows.mine
    own = between_of w.knows.actor h (longer v.knows.seen w.knows.seen) w.knows.seen above begins_second
        (sym fits_other.mine ∙ fits_other.within) ∙ sym fits_other.within

    settled_before : (who : Actor) → is_among who v.knows.given ≡ true → is_among who v.knows.out ≡ false
        → placed who h ≡ placed who v.knows.seen
    settled_before who given not_out =
        p.settled who (ap (λ (y : View). is_among who y.knows.given) first_old ∙ given)
        (ap (λ (y : View). is_among who y.knows.out) first_old ∙ not_out)
        ∙ ap (λ (y : View). placed who y.knows.seen) first_old

    settled_seen : (who : Actor) → is_among who v.knows.given ≡ true → is_among who v.knows.out ≡ false
        → placed who (longer v.knows.seen w.knows.seen) ≡ placed who v.knows.seen
    settled_seen who given not_out = between_of (Some who) h (longer v.knows.seen w.knows.seen) v.knows.seen
        above begins_first (settled_before who given not_out)

    b_out : is_among b v.knows.out ≡ true
    b_out = ap (λ (y : View). is_among b y.knows.out) (sym first_old) ∙ out_of other w b at_other there_other is

    meets : Meets v.knows w.knows (met v.knows w.knows)
    meets = record {
      whole = refl;
      begins = begins_first;
      begins_other = begins_second;
      was_out = subst (λ (o : Option Actor). IfSome o (λ who. is_among who v.knows.out ≡ true)) (sym is) b_out;
      own = own;
      settled = settled_seen;
    }

    -- what is out afterwards was out, and is another
    out_before : (who : Actor) → is_among who (without_of w.knows.actor v.knows.out) ≡ true → (is_among who v.knows.out ≡ true) × (same_actor b who ≡ false)
    out_before who out = still_among who b v.knows.out (ap (λ (o : Option Actor). is_among who (without_of o v.knows.out)) (sym is) ∙ out)

    out_after : (who : Actor) → is_among who v.knows.out ≡ true → same_actor b who ≡ false → is_among who (without_of w.knows.actor v.knows.out) ≡ true
    out_after who out apart = ap (λ (o : Option Actor). is_among who (without_of o v.knows.out)) is ∙ kept_among who b v.knows.out out apart

    not_out_after : (who : Actor) → is_among who (without_of w.knows.actor v.knows.out) ≡ false → (is_among who v.knows.out ≡ false) ⊎ (b ≡ who)
    not_out_after who not_out = gone who b v.knows.out (ap (λ (o : Option Actor). is_among who (without_of o v.knows.out)) (sym is) ∙ not_out)

    given_before : (who : Actor) → is_among who v.knows.out ≡ true → is_among who v.knows.given ≡ true
    given_before = subst (λ (x : View). (who : Actor) → is_among who x.knows.out ≡ true → is_among who x.knows.given ≡ true) first_old p.is_first.given

    after : List View
    after = set (set views 0 (met_view v w)) other gone_view

    find_met : (j : ℕ) (u : View) → get_elem? (set (set views 0 (met_view v w)) other gone_view) j ≡ some u → u.spent ≡ false
        → ((j ≡ 0) × (met_view v w ≡ u)) ⊎ ((j ≢ 0) × (j ≢ other) × (get_elem? views j ≡ some u))
    find_met j u e there_u = elim (at_set (set views 0 (met_view v w)) other j gone_view u e) [
      | inl t ↦ absurd (false≢true (sym there_u ∙ (ap (λ (y : View). y.spent) (sym t.1) ∙ spent)))
      | inr t ↦ elim (at_set views 0 j (met_view v w) u t.1) [ inl r ↦ inl r | inr r ↦ inr (r.0, t.0, r.1) ]
    ]

    -- a pass with an actor was there before, and is another
    find_other : (j : ℕ) (u : View) (who : Actor) → get_elem? (set (set views 0 (met_view v w)) other gone_view) j
        ≡ some u → u.spent ≡ false → u.knows.actor ≡ Some who
        → (get_elem? views j ≡ some u) × (same_actor b who ≡ false)
    find_other j u who e there_u is_u = elim (find_met j u e there_u) [
      | inl t ↦ absurd (none-some who (sym firstly ∙ (ap (λ (y : View). y.knows.actor) t.1 ∙ is_u)))
      | inr t ↦ (t.2, differs b who (λ same. t.1 (p.differ j other u w who t.2 at_other there_u there_other is_u (is ∙ ap Some same))))
    ]

    met_fits : Fits key h (met_view v w)
    met_fits = record {
      def = fits_first.def;
      seen = above;
      mine = fits_first.mine;
      within = fits_first.within ∙ subst (λ (o : Option Actor). placed_of o v.knows.seen
          ≡ placed_of o (longer v.knows.seen w.knows.seen)) (sym firstly) refl;
    }

    pub met_one : Passes key h (set (set views 0 (met_view v w)) other gone_view)
    met_one = record {
      seats = λ j u e there_u. elim (find_met j u e there_u) [ inl t ↦ subst (Fits key h) t.1 met_fits | inr t ↦ p.seats j u t.2 there_u ];
      first = met_view v w;
      at = set_else (set views 0 (met_view v w)) other 0 gone_view (λ e. away (sym e)) ∙ set_there views 0 (met_view v w) v at;
      is_first = record { there = there; actor = firstly; given = λ who out. given_before who (out_before who out).0; last = meets };
      actors = λ j u e there_u far. elim (find_met j u e there_u) [
        | inl t ↦ absurd (far t.0)
        | inr t ↦ (
            let x = p.actors j u t.2 there_u far in
            let apart = (find_other j u x.0 e there_u x.1).1 in
            (x.0, x.1, out_after x.0 (ap (λ (y : View). is_among x.0 y.knows.out) (sym first_old) ∙ x.2) apart)
            )
      ];
      back = λ who out.
          let apart = out_before who out in
          let x = p.back who (ap (λ (y : View). is_among who y.knows.out) first_old ∙ apart.0) in
          let far : x.0 ≢ other = λ e. apart_from b who apart.1
          (same_Some b who (sym is ∙ (ap (λ (y : View). y.knows.actor)
          (some-injective w x.1 (sym at_other ∙ (ap (λ k. get_elem? views k) (sym e) ∙ x.2))) ∙ x.4))) in (
            x.0,
            x.1,
            set_else (set views 0 (met_view v w)) other x.0 gone_view far
                ∙ (set_else views 0 x.0 (met_view v w) (not_first x.0 x.1 who x.2 x.4) ∙ x.2),
            x.3,
            x.4,
          );
      differ = λ i j u x who e f there_u there_x e_u e_x.
          p.differ i j u x who (find_other i u who e there_u e_u).0 (find_other j x who f there_x e_x).0 there_u there_x e_u e_x;
      strangers = λ who not_given. p.strangers who (ap (λ (y : View). is_among who y.knows.given) first_old ∙ not_given);
      settled = λ who given not_out. elim (not_out_after who not_out) [
        | inl t ↦ settled_before who given t ∙ sym (settled_seen who given t)
        | inr t ↦ subst (λ x. placed x h ≡ placed x (longer v.knows.seen w.knows.seen)) t
            (subst (λ (o : Option Actor). placed_of o h ≡ placed_of o (longer v.knows.seen w.knows.seen)) is (sym fits_other.mine ∙ sym own))
      ];
    }

  -- ---- what the first pass may be told

  module _ (id : ℕ) (v : View) (at : get_elem? views id ≡ some v) (there : v.spent ≡ false) (firstly : v.knows.actor ≡ None) where
    same_first : p.first ≡ v
    same_first = is_first_view id v at there firstly

    pub told_last : IfSome v.last (λ q. Meets q.0 q.1 v.knows)
    told_last = subst (λ (x : View). IfSome x.last (λ q. Meets q.0 q.1 x.knows)) same_first p.is_first.last

    pub told_known : IsKnown v.knows
    told_known =
        let f = p.seats id v at there in
        record {
          mine = f.within;
          strangers = λ who e not_given. none_before who h v.knows.seen f.seen
              (p.strangers who (ap (λ (y : View). is_among who y.knows.given) same_first ∙ not_given));
          given = subst (λ (x : View). (who : Actor) → is_among who x.knows.out ≡ true → is_among who x.knows.given ≡ true) same_first p.is_first.given;
        }

    -- with nobody out it has seen all, and no other pass is there
    pub seen_all : v.knows.out ≡ [] → h ≡ v.knows.seen
    seen_all nobody = all_seen h v.knows.seen (p.seats id v at there).seen same
      where
        not_out : (who : Actor) → is_among who p.first.knows.out ≡ false
        not_out who = ap (λ (y : View). is_among who y.knows.out) same_first ∙ ap (is_among who) nobody

        same : (who : Actor) → placed who h ≡ placed who v.knows.seen
        same who = by_test (is_among who p.first.knows.given) refl
          where
            by_test : (t : Bool) → is_among who p.first.knows.given ≡ t → placed who h ≡ placed who v.knows.seen
            by_test true given = p.settled who given (not_out who) ∙ ap (λ (y : View). placed who y.knows.seen) same_first
            by_test false given = p.strangers who given ∙ sym (none_before who h v.knows.seen (p.seats id v at there).seen (p.strangers who given))

    pub alone : v.knows.out ≡ [] → (j : ℕ) (u : View) → get_elem? views j ≡ some u → u.spent ≡ false → u ≡ v
    alone nobody j u at_u there_u = by_actor u.knows.actor refl
      where
        by_actor : (o : Option Actor) → u.knows.actor ≡ o → u ≡ v
        by_actor None e = sym (is_first_view j u at_u there_u e) ∙ same_first
        by_actor (Some who) e = absurd (false≢true (ap (is_among who) (sym nobody)
            ∙ (ap (λ (y : View). is_among who y.knows.out) (sym same_first) ∙ out_of j u who at_u there_u e)))

-- ---- the start

pub at_first : (key : LineDef) → Passes key [] (first_view key ∷ [])
at_first key = record {
  seats = λ id v e there. subst (Fits key []) (only_one (first_view key) v id e).1 (record { def = refl; seen = begins_self []; mine = refl; within = refl });
  first = first_view key;
  at = refl;
  is_first = record { there = refl; actor = refl; given = λ who out. absurd (false≢true out); last = tt };
  actors = λ id v e there away. absurd (away (only_one (first_view key) v id e).0);
  back = λ who out. absurd (false≢true out);
  differ = λ i j v w who e f there there_w is is_w. (only_one (first_view key) v i e).0 ∙ sym (only_one (first_view key) w j f).0;
  strangers = λ who not_given. refl;
  settled = λ who given not_out. refl;
}
