-- Pasts with one canonical state, after which each driver is as far, have the same future.
use Rattle.std.proofs.Common.{◌≡◌, ℕ, Bool, true, false, Option, List, [], ◌∷◌, ◌++◌, refl, sym, ap, subst, ◌∙◌}
use Rattle.irq_base.specs.Who.{actor_of}
use Rattle.irq_base.specs.declared.calls.Call.{Call}
use Rattle.irq_base.specs.declared.entries.Actor.{Actor}
use Rattle.irq_base.specs.declared.entries.Actor.TheVariants as actors
use Rattle.irq_base.specs.declared.entries.Entry.{Entry}
use Rattle.irq_base.specs.declared.lines.LineDef.{LineDef}
use Rattle.irq_base.specs.declared.numbers.DriverNo.{DriverNo}
use Rattle.irq_model.specs.Due.{calls_by, entries_by, due_call}
use Rattle.irq_model.specs.Kinds.{is_by_driver}
use Rattle.irq_model.specs.Legal.{IsDue, IsLegalPast}
use Rattle.irq_model.specs.Next.{next_past}
use Rattle.irq_model.specs.Valid.{IsValid}
use Rattle.irq_model.proofs.DueSteps.{due_laid}
use Rattle.line_marks.proofs.CpuDueIs.{cpu_due_is}
use Rattle.line_marks.proofs.DriversDueIs.{driver_is}
use Rattle.line_marks.proofs.DueIs.{thread_is}
use Rattle.line_marks.proofs.ScriptsFollow.{other_place}
use Rattle.line_marks.proofs.StateFollows.{state_follows}
use Rattle.line_marks.specs.CpuDue.{cpu_due}
use Rattle.line_marks.specs.DriversDue.{driver_due}
use Rattle.line_marks.specs.Due.{thread_due}
use Rattle.line_marks.specs.Scripts.{IsAt}
use Rattle.line_marks.specs.State.{StateSeen, state_of, state_after}
use Rattle.line_futures.specs.Canon.{canon}
use Rattle.line_futures.specs.Futures.{AreAlike}
use Rattle.line_futures.specs.Places.{place_by, within_by, SamePlaces}
use Rattle.line_futures.proofs.CanonDue.{thread_same, cpu_same, driver_same}
use Rattle.line_futures.proofs.CanonSteps.{canon_after}
use Rattle.line_futures.proofs.MadeIs.{may_follow}
use Rattle.line_futures.proofs.Placed.{has_call, moved, placed, place_is}

module _ (def : LineDef) (valid : IsValid def) where
  module _ (g h : List Entry) (legal : IsLegalPast def g) (other : IsLegalPast def h) (like : AreAlike def g h) where
    at_g : (r : DriverNo) → IsAt def g r (place_by def r g) (within_by def r g)
    at_g = placed def g legal

    -- the other past's places are these
    at_h : (r : DriverNo) → IsAt def h r (place_by def r g) (within_by def r g)
    at_h r =
        subst (λ (p : ℕ). IsAt def h r p (within_by def r g)) (sym (like.places r).0)
        (subst (λ (k : ℕ). IsAt def h r (place_by def r h) k) (sym (like.places r).1) (placed def h other r))

    call_same : (r : DriverNo) → due_call def r g ≡ due_call def r h
    call_same r =
        due_laid (calls_by r def.calls) (entries_by r g) (place_by def r g) (within_by def r g) (at_g r)
        ∙ sym (due_laid (calls_by r def.calls) (entries_by r h) (place_by def r g) (within_by def r g) (at_h r))

    pub due_same : (a : Actor) → next_past def g a ≡ next_past def h a
    due_same (actors.Thread d) =
        thread_is def g d valid legal ∙ (sym (thread_same def (state_of def g) d)
        ∙ (ap (λ (s : StateSeen). thread_due def s d) like.state
        ∙ (thread_same def (state_of def h) d ∙ sym (thread_is def h d valid other))))
    due_same (actors.Cpu c) =
        cpu_due_is def g c valid legal ∙ (sym (cpu_same def (state_of def g) c)
        ∙ (ap (λ (s : StateSeen). cpu_due def s c) like.state
        ∙ (cpu_same def (state_of def h) c ∙ sym (cpu_due_is def h c valid other))))
    due_same (actors.Driver r) =
        driver_is def g r valid legal ∙ (sym (driver_same def (state_of def g) r (due_call def r g))
        ∙ (ap (λ (s : StateSeen). driver_due def s r (due_call def r g)) like.state
        ∙ (ap (λ (o : Option (Call × ℕ)). driver_due def (canon (state_of def h)) r o) (call_same r)
        ∙ (driver_same def (state_of def h) r (due_call def r h) ∙ sym (driver_is def h r valid other)))))

    pub due_alike : (e : Entry) → IsDue def e g → IsDue def e h
    due_alike e due = sym (due_same (actor_of e)) ∙ due

    state_alike : (e : Entry) → IsDue def e g → canon (state_of def (e ∷ g)) ≡ canon (state_of def (e ∷ h))
    state_alike e due =
        ap canon (state_follows def e g valid (due, legal))
        ∙ (sym (canon_after def (state_of def g) e (may_follow def g valid legal e due))
        ∙ (ap (λ (s : StateSeen). canon (state_after def e s)) like.state
        ∙ (canon_after def (state_of def h) e (may_follow def h valid other e (due_alike e due))
        ∙ ap canon (sym (state_follows def e h valid (due_alike e due, other))))))

    places_alike : (e : Entry) → IsDue def e g → SamePlaces def (e ∷ g) (e ∷ h)
    places_alike e due r = by_whom (is_by_driver r e) refl
      where
        joined : (p k : ℕ) → IsAt def (e ∷ g) r p k → IsAt def (e ∷ h) r p k
            → (place_by def r (e ∷ g) ≡ place_by def r (e ∷ h)) × (within_by def r (e ∷ g) ≡ within_by def r (e ∷ h))
        joined p k a b =
            let x = place_is def (e ∷ g) r p k a in
            let y = place_is def (e ∷ h) r p k b in
            (x.0 ∙ sym y.0, x.1 ∙ sym y.1)

        by_whom : (b : Bool) → is_by_driver r e ≡ b → (place_by def r (e ∷ g) ≡ place_by def r (e ∷ h)) × (within_by def r (e ∷ g) ≡ within_by def r (e ∷ h))
        by_whom true by =
            let c = has_call def g r e due by in
            joined _ _ (moved def g r e (place_by def r g) (within_by def r g) c.call c.count due by c.due (at_g r))
            (moved def h r e (place_by def r g) (within_by def r g) c.call c.count (due_alike e due) by (sym (call_same r) ∙ c.due) (at_h r))
        by_whom false by = joined _ _ (other_place def g e r (place_by def r g) (within_by def r g) by (at_g r))
            (other_place def h e r (place_by def r g) (within_by def r g) by (at_h r))

    pub alike_after : (e : Entry) → IsDue def e g → AreAlike def (e ∷ g) (e ∷ h)
    alike_after e due = record { state = state_alike e due; places = places_alike e due }

  legal_before : (k g : List Entry) → IsLegalPast def (k ++ g) → IsLegalPast def g
  legal_before [] g legal = legal
  legal_before (e ∷ k) g legal = legal_before k g legal.1

  future : (k g h : List Entry) → IsLegalPast def h → AreAlike def g h → IsLegalPast def (k ++ g) → IsLegalPast def (k ++ h) × AreAlike def (k ++ g) (k ++ h)
  future [] g h other like legal = (other, like)
  future (e ∷ k) g h other like legal =
      let f = future k g h other like legal.1 in
      ((due_alike (k ++ g) (k ++ h) legal.1 f.0 f.1 e legal.0, f.0), alike_after (k ++ g) (k ++ h) legal.1 f.0 f.1 e legal.0)

  pub same_future : (k g h : List Entry) → IsLegalPast def h → AreAlike def g h → IsLegalPast def (k ++ g) → IsLegalPast def (k ++ h)
  same_future k g h other like legal = (future k g h other like legal).0
