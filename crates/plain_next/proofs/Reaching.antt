-- What is gathered of those that an actor waits for, at once or through others, is all of it.
use Rattle.std.proofs.Common.{◌≡◌, ◌↔◌, ℕ, zero, suc, ◌+◌, ◌-◌, ◌<◌, ◌≤◌, Bool, true, false, ◌||◌, Option, Some, None}
use Rattle.std.proofs.Common.{List, [], ◌∷◌, length, get_or, refl, sym, ap, subst, ◌∙◌, eqb, eqb-true, arith}
use Rattle.std.specs.List.{slice_get}
use Rattle.std.proofs.lemmas.Bool.{eqb-false}
use Rattle.irq_base.specs.declared.entries.Actor.{Actor}
use Rattle.irq_base.specs.declared.entries.Entry.{Entry}
use Rattle.irq_base.specs.declared.lines.LineDef.{LineDef}
use Rattle.irq_model.specs.Next.{next_past}
use Rattle.irq_model.specs.Waits.{WaitsFor, WaitsThrough, wanted}
use Rattle.irq_model.specs.Waits as waits
use Rattle.plain_next.specs.Hanging.{AreInWay, AreReached, IsReached, StandIn, all_in_way, is_among, with_new}
use Rattle.plain_next.proofs.Among.{among_new, at_place, left_true, missing, new_longer, new_stays, place_of, right_true, room}
use Rattle.plain_next.proofs.InWay.{all_there, so_stands, stands_so}

module _ (def : LineDef) (past : List Entry) where
  -- nobody stands in the way of one that has a step
  pub none_in_way : (a : Actor) (e : Entry) → next_past def past a ≡ Some e → AreInWay def past a []
  none_in_way a e is b = (λ there. absurd cc, λ w. let bad : None ≡ Some e = sym w.0 ∙ is in cc)

  -- else those who stand in the way of what it wants
  pub these_in_way : (a : Actor) (want : waits.Want) (found : List Actor) → next_past def past a ≡ None → want ≡ wanted def a past
      → StandIn def past want found → AreInWay def past a found
  these_in_way a want found none is stand b = (
    λ there. (none, subst (λ w. waits.StandsIn def past w b) is (stands_so def past want b (sym (stand b) ∙ there))),
    λ w. stand b ∙ so_stands def past want b (subst (λ x. waits.StandsIn def past x b) (sym is) w.1),
  )

  -- one who is waited for is listed
  pub waited_listed : (a b : Actor) → WaitsFor def past a b → is_among (all_in_way def past) b ≡ true
  waited_listed a b w = all_there def past (wanted def a past) b w.1

  pub reached_listed : (n : ℕ) (a b : Actor) → WaitsThrough def past n a b → is_among (all_in_way def past) b ≡ true
  reached_listed zero a b w = waited_listed a b w
  reached_listed (suc n) a b w = reached_listed n w.0 b w.2

  -- one wait more
  through : (n : ℕ) (a x b : Actor) → WaitsThrough def past n a x → WaitsFor def past x b → WaitsThrough def past (suc n) a b
  through zero a x b w v = (x, w, v)
  through (suc n) a x b w v = (w.0, w.1, through n w.0 x b w.2 v)

  -- what holds while they are gathered: all of these are waited for, among them those for whom the actor waits at once, and all
  -- for whom the first of these wait
  pub record IsOnWay (a : Actor) (found : List Actor) (looked : ℕ) : Type 0 where
    pub within : looked ≤ length found
    pub sound : (b : Actor) → is_among found b ≡ true → IsReached def past a b
    pub first : (b : Actor) → WaitsFor def past a b → is_among found b ≡ true
    pub closed : (k : ℕ) (x b : Actor) → k < looked → slice_get found k ≡ Some x → WaitsFor def past x b → is_among found b ≡ true

  pub begins : (a : Actor) (found : List Actor) → AreInWay def past a found → IsOnWay a found 0
  begins a found are = record {
    within = omega arith;
    sound = λ b there. (0, (are b).0 there);
    first = λ b w. (are b).1 w;
    closed = λ k x b less at w. absurd (omega (arith, less));
  }

  same_item : (x y : Actor) (o : Option Actor) → o ≡ Some x → o ≡ Some y → x ≡ y
  same_item x y o e f = let g : Some x ≡ Some y = sym e ∙ f in cc

  pub goes_on : (a x : Actor) (found next : List Actor) (looked : ℕ) → IsOnWay a found looked → slice_get found looked ≡ Some x → looked < length found
      → AreInWay def past x next → IsOnWay a (with_new next found) (looked + 1)
  goes_on a x found next looked on at inside are = record {
    within = omega (arith, inside, new_longer next found);
    sound = λ b there. by_side b (is_among found b) refl (sym (among_new next found b) ∙ there);
    first = λ b w. kept b (on.first b w);
    closed = λ k y b less at_k w. by_place k y b (omega (arith, less)) (sym (new_stays next found k (omega (arith, less, inside))) ∙ at_k) w;
  }
    where
      kept : (b : Actor) → is_among found b ≡ true → is_among (with_new next found) b ≡ true
      kept b there = among_new next found b ∙ left_true (is_among found b) (is_among next b) there

      by_side : (b : Actor) (t : Bool) → is_among found b ≡ t → (t || is_among next b) ≡ true → IsReached def past a b
      by_side b true there is = on.sound b there
      by_side b false other is =
          let r = on.sound x (at_place found looked x at) in
          (suc r.0, through r.0 a x b r.1 ((are b).0 is))

      at_last : (y b : Actor) → slice_get found looked ≡ Some y → WaitsFor def past y b → is_among (with_new next found) b ≡ true
      at_last y b at_k w =
          let same : x ≡ y = same_item x y (slice_get found looked) at at_k in
          among_new next found b ∙ right_true (is_among found b) (is_among next b) ((are b).1 (subst (λ z. WaitsFor def past z b) (sym same) w))

      by_order : (k : ℕ) (y b : Actor) (t : Bool) → eqb k looked ≡ t → k ≤ looked → slice_get found k ≡ Some y → WaitsFor def past y b
          → is_among (with_new next found) b ≡ true
      by_order k y b true same less at_k w =
          at_last y b (subst (λ i. slice_get found i ≡ Some y) (eqb-true k looked same) at_k) w
      by_order k y b false other less at_k w =
          let ne : k ≡ looked → ⊥ = eqb-false k looked other in
          kept b (on.closed k y b (omega (arith, less, ne)) at_k w)

      by_place : (k : ℕ) (y b : Actor) → k ≤ looked → slice_get found k ≡ Some y → WaitsFor def past y b → is_among (with_new next found) b ≡ true
      by_place k y b less at_k w = by_order k y b (eqb k looked) refl less at_k w

  -- at the end nobody is missing
  pub all_reached : (a : Actor) (found : List Actor) (looked : ℕ) → IsOnWay a found looked → length found ≤ looked → AreReached def past a found
  all_reached a found looked on end b = (on.sound b, λ r. all_of r.0 a b on.first r.1)
    where
      closed : (x b : Actor) → is_among found x ≡ true → WaitsFor def past x b → is_among found b ≡ true
      closed x b there w = let p = place_of found x there in on.closed p.0 x b (omega (arith, p.1, end)) p.2 w

      all_of : (n : ℕ) (x b : Actor) → ((y : Actor) → WaitsFor def past x y → is_among found y ≡ true) → WaitsThrough def past n x b
          → is_among found b ≡ true
      all_of zero x b next w = next b w
      all_of (suc n) x b next w = all_of n w.0 b (λ y v. closed w.0 y (next w.0 w.1) v) w.2

  -- each turn leaves less to do
  abbrev pub left_over : List Actor → ℕ → ℕ
  left_over found looked = missing (all_in_way def past) found + (length found - looked)

  pub less_left : (x : Actor) (found next : List Actor) (looked : ℕ) → looked < length found → AreInWay def past x next
      → left_over (with_new next found) (looked + 1) < left_over found looked
  less_left x found next looked inside are =
      let r = room (all_in_way def past) next found (λ b there. waited_listed x b ((are b).0 there)) in
      omega (arith, r, inside, new_longer next found)

  -- a turn of the loop

  item_at : (xs : List Actor) (i : ℕ) (d : Actor) → i < length xs → slice_get xs i ≡ Some (get_or xs i d)
  item_at [] i d within = absurd (omega (arith, within))
  item_at (x ∷ xs) zero d within = refl
  item_at (x ∷ xs) (suc i) d within = item_at xs i d (omega (arith, within))

  pub next_on : (a : Actor) (found next new : List Actor) (looked : ℕ) (x : Actor) → x ≡ get_or found looked x → IsOnWay a found looked
      → looked < length found → AreInWay def past x next → new ≡ with_new next found → IsOnWay a new (looked + 1)
  next_on a found next new looked x here on inside are is = subst (λ (xs : List Actor). IsOnWay a xs (looked + 1)) (sym is)
      (goes_on a x found next looked on (item_at found looked x inside ∙ ap Some (sym here)) inside are)

  pub next_less : (found next new : List Actor) (looked : ℕ) (x : Actor) → looked < length found → AreInWay def past x next → new ≡ with_new next found
      → left_over new (looked + 1) < left_over found looked
  next_less found next new looked x inside are is = subst (λ (xs : List Actor). left_over xs (looked + 1) < left_over found looked) (sym is)
      (less_left x found next looked inside are)
