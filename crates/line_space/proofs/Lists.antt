-- The entries that are due of several actors.
use Rattle.std.proofs.Common.{All, Contains, map, ◌≡◌, ◌⊎◌, inl, inr, ℕ, zero, suc, Option, Some, None, List, [], ◌∷◌, ◌++◌, refl, sym, ap, subst, ◌∙◌, arith}
use Rattle.std.proofs.lemmas.Option.{none-some}
use Rattle.std.proofs.lemmas.List.Elements.{Contains-append_left, Contains-append_right, Contains-append_cases, All-append, All-from_recursion}
use Rattle.irq_base.specs.Who.{actor_of}
use Rattle.irq_base.specs.declared.entries.Actor.{Actor}
use Rattle.irq_base.specs.declared.entries.Entry.{Entry}
use Rattle.irq_base.specs.declared.lines.LineDef.{LineDef}
use Rattle.irq_base.specs.declared.numbers.DriverNo.{DriverNo}
use Rattle.irq_model.specs.Legal.{IsDue, IsLegalPast}
use Rattle.irq_model.specs.Next.{next_past}
use Rattle.irq_model.specs.Valid.{IsValid}
use Rattle.irq_model.specs.ValidRuns.{HasValidRuns}
use Rattle.irq_laws.proofs.OwnLaws.{due_is_own_past}
use Rattle.line_scripts.specs.Rows.{RowSeen, place_of, within_of}
use Rattle.line_marks.specs.Scripts.{IsAt}
use Rattle.line_marks.specs.State.{state_of}
use Rattle.line_state.specs.Seen.{taker_of}
use Rattle.line_words.specs.Node.{node, drivers_in}
use Rattle.line_words.specs.Scripts.{AreScripts}
use Rattle.line_space.proofs.Actors.{here, later, one_is, asked}
use Rattle.line_space.proofs.Once.{IsApart, actors_apart}
use Rattle.line_space.specs.Stepping.{steps_of, led_to, all_steps, actors_by}
use Rattle.state_search.proofs.Places.{contains_from}
use Rattle.state_search.specs.Paths.{AreSteps, IsEachOnce}

module _ (def : LineDef) (g : List Entry) where
  abbrev Leads : Entry × List ℕ → Type 0
  Leads f = IsDue def f.0 g × (node def (f.0 ∷ g) ≡ f.1)

  each_of : (a : Actor) (o : Option Entry) → next_past def g a ≡ o → All Leads (led_to def g o)
  each_of a None due = All-from_recursion Leads [] tt
  each_of a (Some e) due = All-from_recursion Leads ((e, node def (e ∷ g)) ∷ []) ((ap (next_past def g) (due_is_own_past def g a e due) ∙ due, refl), tt)

  each_step : (xs : List Actor) → All Leads (all_steps def g xs)
  each_step [] = All-from_recursion Leads [] tt
  each_step (a ∷ xs) = All-append Leads (steps_of def g a) (all_steps def g xs) (each_of a (next_past def g a) refl) (each_step xs)

  abbrev entries_in : List (Entry × List ℕ) → List Entry
  entries_in fs = map (λ f. f.0) fs

  entries_append : (xs ys : List (Entry × List ℕ)) → entries_in (xs ++ ys) ≡ entries_in xs ++ entries_in ys
  entries_append [] ys = refl
  entries_append (x ∷ xs) ys = ap (λ (l : List Entry). x.0 ∷ l) (entries_append xs ys)

  has_step : (xs : List Actor) (a : Actor) (e : Entry) → Contains xs a → next_past def g a ≡ Some e → Contains (entries_in (all_steps def g xs)) e
  has_step [] a e there due = absurd (let lt = there.1 in omega (arith, lt))
  has_step (x ∷ xs) a e there due = by_place (Contains-append_cases (x ∷ []) xs a there) (λ k. has_step xs a e k due)
    where
      joined : Contains (entries_in (steps_of def g x) ++ entries_in (all_steps def g xs)) e → Contains (entries_in (all_steps def g (x ∷ xs))) e
      joined h =
          let P : List Entry → Type 0 = λ l. Contains l e in
          subst P (sym (entries_append (steps_of def g x) (all_steps def g xs))) h

      first_led : x ≡ a → Contains (entries_in (steps_of def g x)) e
      first_led same =
          let P : Option Entry → Type 0 = λ o. Contains (entries_in (led_to def g o)) e in
          subst P (sym (ap (next_past def g) same ∙ due)) (here e [])

      by_place : Contains (x ∷ []) a ⊎ Contains xs a → (Contains xs a → Contains (entries_in (all_steps def g xs)) e)
          → Contains (entries_in (all_steps def g (x ∷ xs))) e
      by_place (inl k) rest = joined (Contains-append_left (entries_in (steps_of def g x)) (entries_in (all_steps def g xs)) e (first_led (one_is x a k)))
      by_place (inr k) rest = joined (Contains-append_right (entries_in (steps_of def g x)) (entries_in (all_steps def g xs)) e (rest k))

  -- an entry that was found is due of one of the actors
  step_from : (xs : List Actor) (e : Entry) → Contains (entries_in (all_steps def g xs)) e → (a : Actor) × Contains xs a × (next_past def g a ≡ Some e)
  step_from [] e c = absurd (omega (arith, c.1))
  step_from (x ∷ xs) e c =
      let P : List Entry → Type 0 = λ l. Contains l e in
      by_place (Contains-append_cases (entries_in (steps_of def g x)) (entries_in (all_steps def g xs)) e
      (subst P (entries_append (steps_of def g x) (all_steps def g xs)) c)) (step_from xs e)
    where
      by_due : (o : Option Entry) → next_past def g x ≡ o → Contains (entries_in (led_to def g o)) e → next_past def g x ≡ Some e
      by_due None due h = absurd (omega (arith, h.1))
      by_due (Some f) due h = due ∙ ap Some (one_is f e h)

      by_place : Contains (entries_in (steps_of def g x)) e ⊎ Contains (entries_in (all_steps def g xs)) e
          → (Contains (entries_in (all_steps def g xs)) e → (a : Actor) × Contains xs a × (next_past def g a ≡ Some e))
          → (a : Actor) × Contains (x ∷ xs) a × (next_past def g a ≡ Some e)
      by_place (inl h) rest = (x, here x xs, by_due (next_past def g x) refl h)
      by_place (inr h) rest = let r = rest h in (r.0, later x r.0 xs r.1, r.2)

  once_more : (e : Entry) (es : List Entry) → (Contains es e → ⊥) → IsEachOnce es → IsEachOnce (e ∷ es)
  once_more e es new once zero zero x a b = refl
  once_more e es new once zero (suc k) x a b = absurd (new (contains_from es k e (b ∙ sym a)))
  once_more e es new once (suc j) zero x a b = absurd (new (contains_from es j e (a ∙ sym b)))
  once_more e es new once (suc j) (suc k) x a b = ap suc (once j k x a b)

  once_steps : (xs : List Actor) → IsApart xs → IsEachOnce (entries_in (all_steps def g xs))
  once_steps [] apart = λ j k x a b. absurd (none-some x a)
  once_steps (x ∷ xs) apart = by_due (next_past def g x) refl (once_steps xs apart.1)
    where
      new : (e : Entry) → next_past def g x ≡ Some e → Contains (entries_in (all_steps def g xs)) e → ⊥
      new e due c =
          let s = step_from xs e c in
          let same : s.0 ≡ x = sym (due_is_own_past def g s.0 e s.2) ∙ due_is_own_past def g x e due in
          apart.0 (subst (Contains xs) same s.1)

      by_due : (o : Option Entry) → next_past def g x ≡ o → IsEachOnce (entries_in (all_steps def g xs))
          → IsEachOnce (entries_in (led_to def g o ++ all_steps def g xs))
      by_due None due rest = rest
      by_due (Some e) due rest = once_more e (entries_in (all_steps def g xs)) (new e due) rest

  module _ (valid : IsValid def) (runs : HasValidRuns def) (legal : IsLegalPast def g)
      (scripts : List (DriverNo × RowSeen)) (are : AreScripts def scripts)
      (at_places : (r : DriverNo) → IsAt def g r (place_of scripts r) (within_of scripts r)) where
    pub are_steps : AreSteps (IsDue def) (node def) g (all_steps def g
        (actors_by def (state_of def g).desc.flow (taker_of (state_of def g)) (drivers_in def.calls)))
    are_steps = record {
      each = each_step (actors_by def (state_of def g).desc.flow (taker_of (state_of def g)) (drivers_in def.calls));
      all = λ e due. has_step (actors_by def (state_of def g).desc.flow (taker_of (state_of def g)) (drivers_in def.calls)) (actor_of e) e
          (asked def valid runs g legal scripts are at_places (actor_of e) e due) due;
      once = once_steps (actors_by def (state_of def g).desc.flow (taker_of (state_of def g)) (drivers_in def.calls)) (actors_apart def valid (state_of def g));
    }
