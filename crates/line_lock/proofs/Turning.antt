-- Each step keeps the rule.
use Rattle.std.proofs.Common.{◌≡◌, ◌≢◌, ◌⊎◌, ℕ, ◌+◌, ◌%◌, ◌^◌, ◌≤◌, ◌==◌, MatchBool, Bool, true, false, Option}
use Rattle.std.proofs.Common.{Some, None, List, [], ◌∷◌, ◌++◌, length, set, slice_index, refl, sym, ap, subst, ◌∙◌, inl}
use Rattle.std.proofs.Common.{inr, arith, length-append}
use Rattle.std.proofs.lemmas.Bool.{false≢true}
use Rattle.std.proofs.lemmas.Bool.Decides.{nat_tests}
use mathlib.Core.Option.{some, none, some-injective}
use lib.ListN.{get_elem?}
use prog.Atomic.{either}
use Rattle.atomic_table.specs.Table.{State, Me, Act, Allows, Splits, Joins, Valid, stepped, carried_after}
use Rattle.atomic_table.specs.Table.Act.{takes, keeps, gives}
use Rattle.atomic_table.proofs.Lists.{at_set, set_else, set_again, at_longer}
use Rattle.irq_base.specs.Who.{actor_of}
use Rattle.irq_base.specs.declared.entries.Actor.{Actor}
use Rattle.irq_base.specs.declared.entries.Entry.{Entry}
use Rattle.irq_base.specs.declared.lines.LineDef.{LineDef}
use Rattle.line_lock.specs.Placed.{placed, placed_of}
use Rattle.line_lock.specs.Knows.{BeginsWith, is_among}
use Rattle.line_lock.specs.Rule.{Fits, IsFree, IsTaken, Holds, left_view, right_view, met_view}
use Rattle.line_lock.specs.Steps.{holding, counted, glimpsed, idle, Took, Takes, Raises, Looks, Glances, Gives, Learns, Added, Ready}
use Rattle.line_lock.specs.Steps.Takes.{got, busy}
use Rattle.line_lock.specs.declared.view.View.{View}
use Rattle.line_lock.proofs.Placing.{begins_self, placed_other}
use Rattle.line_lock.proofs.Passing.{set_there, at_end, is_zero, changed, given_out, met_one, told_last, told_known}

module _ {T : Type 0} (def_of : T → LineDef) (entries_of : T → List Entry) where
  abbrev with_views : State (Option T) View → List View → State (Option T) View
  with_views s views = record { words = s.words; homes = s.homes; views = views }

  -- whose turn it is stays as long as the passes with the turn stay
  turn_stays : (key : LineDef) (h : List Entry) (s : State (Option T) View) (views : List View)
      → ((j : ℕ) (u : View) → get_elem? views j ≡ some u → u.turn ≡ true → get_elem? s.views j ≡ some u)
      → ((j : ℕ) (u : View) → get_elem? s.views j ≡ some u → u.turn ≡ true → get_elem? views j ≡ some u)
      → IsFree def_of entries_of key h s ⊎ IsTaken def_of entries_of h s
      → IsFree def_of entries_of key h (with_views s views) ⊎ IsTaken def_of entries_of h (with_views s views)
  turn_stays key h s views old new (inl f) =
      inl (record { words = f.words; value = f.value; home = f.home; def = f.def; entries = f.entries; idle = λ j u e. by_test j u e u.turn refl })
    where
      by_test : (j : ℕ) (u : View) → get_elem? views j ≡ some u → (t : Bool) → u.turn ≡ t → u.turn ≡ false
      by_test j u e true is = absurd (false≢true (sym (f.idle j u (old j u e is)) ∙ is))
      by_test j u e false is = is
  turn_stays key h s views old new (inr t) =
      inr (record {
        words = t.words;
        home = t.home;
        holder = t.holder;
        view = t.view;
        at
            = new t.holder t.view t.at t.turn;
        there = t.there;
        turn = t.turn;
        held = t.held;
        one
            = λ j u e b. t.one j u (old j u e b) b;
      })

  words_of : (key : LineDef) (s : State (Option T) View) (r : Holds def_of entries_of key s) → (n : ℕ) × (s.words ≡ n ∷ length r.history ∷ [])
  words_of key s r = elim r.turn [ inl f ↦ (0, f.words) | inr t ↦ (1, t.words) ]

  module _ (key : LineDef) (id : ℕ) (v : View) (s : State (Option T) View) (rule : Holds def_of entries_of key s)
      (at : get_elem? s.views id ≡ some v) (there : v.spent ≡ false) (who : Actor) (is : v.knows.actor ≡ Some who) where
    abbrev f : Fits key rule.history v
    f = rule.passes.seats id v at there

    -- ---- the turn is asked for

    Goal : Type 0
    Goal = (w : View) × (a : Act (Option T)) × Valid s.homes [] a
        × Holds def_of entries_of key (stepped s 0 (either (slice_index s.words 0 == 0) 1 (slice_index s.words 0)) id []
        w a)
        × Takes def_of entries_of (v, []) (slice_index s.words 0) (w, carried_after [] a)

    asked : (IsFree def_of entries_of key rule.history s ⊎ IsTaken def_of entries_of rule.history s) → Goal
    unfolding Goal
    asked (inl free) =
        let x = free.value in
        let w = holding v (entries_of x) in (
          w,
          takes 0 (Some x),
          ap (λ hs. get_elem? hs 0) free.home,
          record {
            history = rule.history;
            turn = inr (record {
              words = ap (λ ns. set ns 0 (either (slice_index ns 0 == 0) 1 (slice_index ns 0))) free.words;
              home = ap (λ hs. set hs 0 none) free.home;
              holder = id;
              view = w;
              at = set_there s.views id w v at;
              there = there;
              turn = refl;
              held = free.entries;
              one = λ j u e b. elim (at_set s.views id j w u e) [ inl t ↦ t.0 | inr t ↦ absurd (false≢true (sym (free.idle j u t.1) ∙ b)) ];
            });
            passes = changed key rule.history s.views rule.passes rule.history id v w who at there is there is
                (record { def = f.def; seen = f.seen; mine = f.mine; within = f.within }) (begins_self rule.history)
                (λ b apart. refl);
          },
          got (ap (λ ns. slice_index ns 0) free.words) (record {
            value = x;
            suits = record {
              def = free.def ∙ sym f.def;
              begins = (f.seen.0, free.entries ∙ f.seen.1);
              mine = f.mine ∙ ap (placed_of v.knows.actor) (sym free.entries);
            };
            then = refl;
          }),
        )
    asked (inr taken) =
        let same : set s.words 0 (either (slice_index s.words 0 == 0) 1 (slice_index s.words 0)) ≡ s.words =
        ap (λ ns. set ns 0 (either (slice_index ns 0 == 0) 1 (slice_index ns 0))) taken.words ∙ sym taken.words in
        let P : List ℕ → Type 0 = λ ns. Holds def_of entries_of key (record { words = ns; homes = s.homes; views = set s.views id v }) in
        let Q : List View → Type 0 = λ vs. Holds def_of entries_of key (record { words = s.words; homes = s.homes; views = vs }) in
        let found : slice_index s.words 0 ≡ 1 = ap (λ ns. slice_index ns 0) taken.words in (
          v,
          keeps,
          tt,
          subst P (sym same) (subst Q (sym (set_again s.views id v at)) rule),
          busy (λ e. omega (arith, e, found)) refl,
        )

    -- ---- the pass has the turn

    module _ (mine : v.turn ≡ true) where
      taken_of : (IsFree def_of entries_of key rule.history s ⊎ IsTaken def_of entries_of rule.history s) → IsTaken def_of entries_of rule.history s
      taken_of (inl free) = absurd (false≢true (sym (free.idle id v at) ∙ mine))
      taken_of (inr taken) = taken

      taken : IsTaken def_of entries_of rule.history s
      taken = taken_of rule.turn

      held : v.held ≡ rule.history
      held =
          let same : v ≡ taken.view = some-injective v taken.view (sym at ∙ (ap (λ k. get_elem? s.views k) (taken.one id v at mine) ∙ taken.at)) in
          ap (λ (y : View). y.held) same ∙ taken.held

      alone : (j : ℕ) (u : View) → get_elem? s.views j ≡ some u → u.turn ≡ true → j ≡ id
      alone j u e b = taken.one j u e b ∙ sym (taken.one id v at mine)

      words : s.words ≡ 1 ∷ length v.held ∷ []
      words = taken.words ∙ ap (λ h. 1 ∷ length h ∷ []) (sym held)

      -- it has the turn still, with a new view
      still : (h : List Entry) (ns : List ℕ) (w : View) → ns ≡ 1 ∷ length h ∷ [] → w.spent ≡ false → w.turn ≡ true → w.held ≡ h
          → IsTaken def_of entries_of h (record { words = ns; homes = s.homes; views = set s.views id w })
      still h ns w are there_w turn holds = record {
        words = are;
        home = taken.home;
        holder = id;
        view = w;
        at = set_there s.views id w v at;
        there = there_w;
        turn = turn;
        held = holds;
        one = λ j u e b. elim (at_set s.views id j w u e) [ inl t ↦ t.0 | inr t ↦ alone j u t.1 b ];
      }

      counted_fits : (h : List Entry) → Fits key h (counted v h)
      counted_fits h =
          record { def = f.def; seen = begins_self h; mine = refl; within = refl }

      raised : (x : T) (e : Entry) → entries_of x ≡ v.held ++ e ∷ [] → actor_of e ≡ who → length (entries_of x) ≤ 100000000
          → Holds def_of entries_of key (record {
            words = set s.words 1 ((slice_index s.words 1 + 1) % 2 ^ 64);
            homes
                = s.homes;
            views = set s.views id (counted v (entries_of x));
          })
      raised x e more by few =
          let grown : entries_of x ≡ rule.history ++ e ∷ [] = more ∙ ap (λ h. h ++ e ∷ []) held in
          let n : (length v.held + 1) % 2 ^ 64 ≡ length (entries_of x) = omega (arith, ap length more, length-append v.held (e ∷ []), few) in
          record {
            history = entries_of x;
            turn = inr (still (entries_of x) _ (counted v (entries_of x))
                (ap (λ ns. set ns 1 ((slice_index ns 1 + 1) % 2 ^ 64)) words ∙ ap (λ k. 1 ∷ k ∷ []) n) there mine refl);
            passes = changed key rule.history s.views rule.passes (entries_of x) id v (counted v (entries_of x)) who at
                there is there is (counted_fits (entries_of x)) (e ∷ [], grown)
                (λ b apart. ap (placed b) grown ∙ placed_other b rule.history e (λ same. apart (same ∙ by)));
          }

      looked_at : Holds def_of entries_of key (record {
        words = set s.words 1 (slice_index s.words 1);
        homes
            = s.homes;
        views = set s.views id (counted v v.held);
      })
      looked_at =
          record {
            history = v.held;
            turn = inr (still v.held _ (counted v v.held) (ap (λ ns. set ns 1 (slice_index ns 1)) words) there mine refl);
            passes = changed key rule.history s.views rule.passes v.held id v (counted v v.held) who at there is there
                is (counted_fits v.held) (subst (λ h. BeginsWith h rule.history) (sym held) (begins_self rule.history))
                (λ b apart. ap (placed b) held);
          }

      given : (x : T) → def_of x ≡ v.def → entries_of x ≡ v.held
          → Holds def_of entries_of key (record { words = set s.words 0 0; homes = set s.homes 0 (some (Some x)); views = set s.views id (idle v) })
      given x def same = record {
        history = rule.history;
        turn = inl (record {
          words = ap (λ ns. set ns 0 0) words ∙ ap (λ h. 0 ∷ length h ∷ []) held;
          value = x;
          home = ap (λ hs. set hs 0 (some (Some x))) taken.home;
          def = def ∙ f.def;
          entries = same ∙ held;
          idle = λ j u e. elim (at_set s.views id j (idle v) u e) [ inl t ↦ ap (λ (y : View). y.turn) (sym t.1) | inr t ↦ by_test j u t.1 t.0 u.turn refl ];
        });
        passes = changed key rule.history s.views rule.passes rule.history id v (idle v) who at there is there is
            (record { def = f.def; seen = f.seen; mine = f.mine; within = f.within }) (begins_self rule.history)
            (λ b apart. refl);
      }
        where
          by_test : (j : ℕ) (u : View) → get_elem? s.views j ≡ some u → j ≢ id → (t : Bool) → u.turn ≡ t → u.turn ≡ false
          by_test j u e apart true turn = absurd (apart (alone j u e turn))
          by_test j u e apart false turn = turn

  -- ---- the steps as the table asks for them

  pub take_step : (key : LineDef) (slots id : ℕ) (me : Me (Option T) View) (who : Actor) → me.1 ≡ [] → me.0.spent ≡ false → me.0.knows.actor ≡ Some who
      → Allows (Holds def_of entries_of key) slots id me 0 (λ n. either (n == 0) 1 n) (Takes def_of entries_of me)
  unfolding Goal
  take_step key slots id me who empty there is =
      subst (λ (held : List (ℕ × Option T)). Allows (Holds def_of entries_of key) slots id (me.0, held) 0
      (λ n. either (n == 0) 1 n) (Takes def_of entries_of (me.0, held))) (sym empty)
      (λ s rule size at small. asked key id me.0 s rule at there who is rule.turn)

  pub took : (me : Me (Option T) View) (found : ℕ) (after : Me (Option T) View) → Takes def_of entries_of me found after → (b : Bool) → (found == 0) ≡ b
      → MatchBool b (Took def_of entries_of me after) (after ≡ me)
  took me found after (got zero_found t) true is = t
  took me found after (got zero_found t) false is = absurd (grind (arith, nat_tests))
  took me found after (busy not_zero then) true is = absurd (grind (arith, nat_tests))
  took me found after (busy not_zero then) false is = then

  pub raise_step : (key : LineDef) (slots id : ℕ) (me : Me (Option T) View) (who : Actor) → me.0.turn ≡ true
      → me.0.spent ≡ false → me.0.knows.actor ≡ Some who → Added def_of entries_of who me
      → Allows (Holds def_of entries_of key) slots id me 1 (λ n. (n + 1) % 2 ^ 64) (λ found after. Raises def_of entries_of me after)
  raise_step key slots id me who mine there is a s rule size at small = (
    counted me.0 (entries_of a.value),
    keeps,
    tt,
    raised key id me.0 s rule at there who is mine a.value a.entry
        a.more a.by a.few,
    record { value = a.value; carried = a.carried; then = refl },
  )

  pub look_step : (key : LineDef) (slots id : ℕ) (me : Me (Option T) View) (who : Actor) → me.0.turn ≡ true → me.0.spent ≡ false → me.0.knows.actor ≡ Some who
      → Allows (Holds def_of entries_of key) slots id me 1 (λ n. n) (λ found after. Looks def_of entries_of me after)
  look_step key slots id me who mine there is s rule size at small =
      (counted me.0 me.0.held, keeps, tt, looked_at key id me.0 s rule at there who is mine, refl)

  pub glance_step : (key : LineDef) (slots id : ℕ) (me : Me (Option T) View) (who : Actor) → me.0.turn ≡ false → me.0.spent ≡ false
      → me.0.knows.actor ≡ Some who → Allows (Holds def_of entries_of key) slots id me 1 (λ n. n) (λ found after. Glances me found after)
  glance_step key slots id me who off there is s rule size at small =
      let ws = (words_of key s rule).1 in
      let same : set s.words 1 (slice_index s.words 1) ≡ s.words = ap (λ ns. set ns 1 (slice_index ns 1)) ws ∙ sym ws in
      let f = rule.passes.seats id me.0 at there in
      let w = glimpsed me.0 (slice_index s.words 1) in
      let apart : (j : ℕ) (u : View) → get_elem? s.views j ≡ some u → u.turn ≡ true → j ≢ id =
      λ j u e b z. false≢true (sym off ∙ (ap (λ (y : View). y.turn) (some-injective me.0 u (sym at ∙ (ap (λ k. get_elem? s.views k) (sym z) ∙ e))) ∙ b)) in
      let P : List ℕ → Type 0 = λ ns. Holds def_of entries_of key (record { words = ns; homes = s.homes; views = set s.views id w }) in (
        w,
        keeps,
        tt,
        subst P (sym same) (record {
          history = rule.history;
          turn = turn_stays key rule.history s (set s.views id w)
              (λ j u e b. elim (at_set s.views id j w u e) [
                | inl t ↦ absurd (false≢true (sym off ∙ (ap (λ (y : View). y.turn) t.1 ∙ b)))
                | inr t ↦ t.1
              ])
              (λ j u e b. set_else s.views id j w (apart j u e b) ∙ e) rule.turn;
          passes = changed key rule.history s.views rule.passes rule.history id me.0 w who at there is there is
              (record { def = f.def; seen = f.seen; mine = f.mine; within = f.within }) (begins_self rule.history) (λ b apart. refl);
        }),
        record {
          count = record { history = rule.history; begins = f.seen; mine = f.mine; is = ap (λ ns. slice_index ns 1) ws };
          then = refl;
        },
      )

  pub give_step : (key : LineDef) (slots id : ℕ) (me : Me (Option T) View) (who : Actor) → me.0.turn ≡ true
      → me.0.spent ≡ false → me.0.knows.actor ≡ Some who → Ready def_of entries_of me
      → Allows (Holds def_of entries_of key) slots id me 0 (λ n. 0) (λ found after. Gives def_of entries_of me after)
  give_step key slots id me who mine there is a s rule size at small =
      let B : List (ℕ × Option T) → Type 0 = λ held.
      (w : View) × (act : Act (Option T)) × Valid s.homes held act
      × Holds def_of entries_of key (stepped s 0 0 id held w act)
      × Gives def_of entries_of (me.0, held) (w, carried_after held act) in
      subst B (sym a.carried)
      (idle me.0, gives, tt, given key id me.0 s rule at there who is mine a.value a.def a.same, refl)

  pub learn_step : (key : LineDef) (slots id : ℕ) (me : Me (Option T) View) → me.0.spent ≡ false → me.0.knows.actor ≡ None
      → Allows (Holds def_of entries_of key) slots id me 0 (λ n. n) (λ found after. Learns def_of entries_of me after)
  learn_step key slots id me there firstly s rule size at small =
      let ws = (words_of key s rule).1 in
      let same : set s.words 0 (slice_index s.words 0) ≡ s.words = ap (λ ns. set ns 0 (slice_index ns 0)) ws ∙ sym ws in
      let P : List ℕ → Type 0 = λ ns. Holds def_of entries_of key (record { words = ns; homes = s.homes; views = set s.views id me.0 }) in
      let Q : List View → Type 0 = λ vs. Holds def_of entries_of key (record { words = s.words; homes = s.homes; views = vs }) in (
        me.0,
        keeps,
        tt,
        subst P (sym same) (subst Q (sym (set_again s.views id me.0 at)) rule),
        record {
          then = refl;
          last = told_last key rule.history s.views rule.passes id me.0 at there firstly;
          known = told_known key rule.history s.views rule.passes id me.0 at there firstly;
        },
      )

  pub split_step : (key : LineDef) (id : ℕ) (v : View) (who : Actor) → v.spent ≡ false → v.knows.actor ≡ None
      → v.turn ≡ false → is_among who v.knows.given ≡ false
      → Splits (Holds def_of entries_of key) id v (left_view v who) (right_view v who)
  split_step key id v who there firstly off fresh s rule at =
      let here = is_zero key rule.history s.views rule.passes id v at there firstly in
      let at_zero : get_elem? s.views 0 ≡ some v = ap (λ k. get_elem? s.views k) (sym here) ∙ at in
      subst (λ k. Holds def_of entries_of key (record {
        words = s.words;
        homes = s.homes;
        views
            = set s.views k (left_view v who) ++ right_view v who ∷ [];
      })) (sym here)
      record {
        history = rule.history;
        turn = turn_stays key rule.history s (set s.views 0 (left_view v who) ++ right_view v who ∷ [])
            (λ j u e b. elim (at_end (set s.views 0 (left_view v who)) (right_view v who) u j e) [
              | inl t ↦ elim (at_set s.views 0 j (left_view v who) u t)
                  [ inl r ↦ absurd (false≢true (sym off ∙ (ap (λ (y : View). y.turn) r.1 ∙ b))) | inr r ↦ r.1 ]
              | inr t ↦ absurd (false≢true (ap (λ (y : View). y.turn) t.1 ∙ b))
            ])
            (λ j u e b. at_longer (set s.views 0 (left_view v who)) (right_view v who ∷ []) j u
            (set_else s.views 0 j (left_view v who) (λ z. false≢true
            (sym off ∙ (ap (λ (y : View). y.turn) (some-injective v u
            (sym at_zero ∙ (ap (λ k. get_elem? s.views k) (sym z) ∙ e))) ∙ b))) ∙ e))
            rule.turn;
        passes = given_out key rule.history s.views rule.passes who v at_zero there firstly fresh;
      }

  pub join_step : (key : LineDef) (id other : ℕ) (v w gone : View) (who : Actor) → v.spent ≡ false
      → v.knows.actor ≡ None → v.turn ≡ false → w.spent ≡ false → w.knows.actor ≡ Some who → w.turn ≡ false
      → gone.spent ≡ true → gone.turn ≡ false
      → Joins (Holds def_of entries_of key) id v other w (met_view v w) gone
  join_step key id other v w gone who there firstly off there_w is off_w spent off_gone s rule at apart at_other =
      let here = is_zero key rule.history s.views rule.passes id v at there firstly in
      let at_zero : get_elem? s.views 0 ≡ some v = ap (λ k. get_elem? s.views k) (sym here) ∙ at in
      let at_w : get_elem? s.views other ≡ some w = sym (set_else s.views id other (met_view v w) apart) ∙ at_other in
      let away : other ≢ 0 = λ z. apart (z ∙ sym here) in
      let not_v : (j : ℕ) (u : View) → get_elem? s.views j ≡ some u → u.turn ≡ true → j ≢ 0 =
      λ j u e b z. false≢true (sym off ∙ (ap (λ (y : View). y.turn) (some-injective v u (sym at_zero ∙ (ap (λ k. get_elem? s.views k) (sym z) ∙ e))) ∙ b)) in
      let not_w : (j : ℕ) (u : View) → get_elem? s.views j ≡ some u → u.turn ≡ true → j ≢ other =
      λ j u e b z. false≢true (sym off_w ∙ (ap (λ (y : View). y.turn) (some-injective w u (sym at_w ∙ (ap (λ k. get_elem? s.views k) (sym z) ∙ e))) ∙ b)) in
      subst (λ k. Holds def_of entries_of key (record { words = s.words; homes = s.homes; views = set (set s.views k (met_view v w)) other gone })) (sym here)
      record {
        history = rule.history;
        turn = turn_stays key rule.history s (set (set s.views 0 (met_view v w)) other gone)
            (λ j u e b. elim (at_set (set s.views 0 (met_view v w)) other j gone u e) [
              | inl t ↦ absurd (false≢true (sym off_gone ∙ (ap (λ (y : View). y.turn) t.1 ∙ b)))
              | inr t ↦ elim (at_set s.views 0 j (met_view v w) u t.1)
                  [ inl r ↦ absurd (false≢true (sym off ∙ (ap (λ (y : View). y.turn) r.1 ∙ b))) | inr r ↦ r.1 ]
            ])
            (λ j u e b. set_else (set s.views 0 (met_view v w)) other j gone (not_w j u e b) ∙ (set_else s.views 0 j (met_view v w) (not_v j u e b) ∙ e))
            rule.turn;
        passes = met_one key rule.history s.views rule.passes other v w gone who at_zero there firstly away at_w there_w is spent;
      }
