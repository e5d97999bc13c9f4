-- After a legal history each driver is at its place.
use Rattle.std.proofs.Common.{◌≡◌, ℕ, zero, suc, ◌+◌, ◌<◌, ◌≤◌, Bool, true, false, ltb, Option, Some, None, List, []}
use Rattle.std.proofs.Common.{◌∷◌, length, drop, slice_get, refl, sym, ap, subst, ◌∙◌, arith}
use Rattle.std.proofs.lemmas.Bool.Decides.{nat_tests}
use Rattle.irq_base.specs.Who.{actor_of}
use Rattle.irq_base.specs.declared.calls.Call.{Call}
use Rattle.irq_base.specs.declared.entries.Actor.{Actor}
use Rattle.irq_base.specs.declared.entries.Actor.TheVariants as actors
use Rattle.irq_base.specs.declared.entries.Entry.{Entry}
use Rattle.irq_base.specs.declared.lines.LineDef.{LineDef}
use Rattle.irq_base.specs.declared.numbers.DriverNo.{DriverNo}
use Rattle.irq_model.specs.Due.{calls_by, entries_by, entries_of_call, due_of, due_call}
use Rattle.irq_model.specs.Kinds.{is_driver, is_by_driver}
use Rattle.irq_model.specs.Legal.{IsDue, IsLegalPast}
use Rattle.irq_model.specs.Next.{next_past, next_of_driver}
use Rattle.irq_laws.specs.Kept.{complete}
use Rattle.irq_model.proofs.DueSteps.{due_laid, laid_start}
use Rattle.irq_model.proofs.Same.{driver_from_same}
use Rattle.irq_model.specs.Laid.{Laid, with_count}
use Rattle.line_scripts.specs.Endings.{completes}
use Rattle.line_marks.proofs.ScriptsFollow.{own_place, other_place}
use Rattle.line_marks.specs.Scripts.{IsAt, place_after, within_after}
use Rattle.line_futures.specs.Places.{place_by, count_in, within_by}

not_less : (n m : ℕ) → m ≤ n → ltb n m ≡ false
not_less n m h = grind (arith, nat_tests)

less : (n m : ℕ) → n < m → ltb n m ≡ true
less n m h = grind (arith, nat_tests)

-- the complete calls before a place are as many as the place says
many : (done cs : List Call) (es : List Entry) (p k : ℕ) → Laid cs es p k → length (complete done cs es) ≡ length done + p
many done [] es zero k h = omega arith
many done [] es (suc p) k h = absurd h
many done (c ∷ cs) es zero k h =
    let l : length es ≡ k = h.0 in
    let i : k < entries_of_call c es = h.1 in
    rw (less (length es) (entries_of_call c es) (omega (arith, l, i))) (omega arith)
many done (c ∷ cs) es (suc p) k h =
    rw (not_less (length es) (entries_of_call c es) h.0) (omega (arith, many (c ∷ done) cs (drop (entries_of_call c es) es) p k h.1))

counted : (cs : List Call) (es : List Entry) (p k : ℕ) → Laid cs es p k → count_in (with_count (slice_get cs p) k) ≡ k
counted [] es zero k h = sym h.1
counted [] es (suc p) k h = absurd h
counted (c ∷ cs) es zero k h = refl
counted (c ∷ cs) es (suc p) k h = counted cs (drop (entries_of_call c es) es) p k h.1

module _ (def : LineDef) where
  -- a place is the driver's
  pub place_is : (past : List Entry) (r : DriverNo) (p k : ℕ) → IsAt def past r p k → (place_by def r past ≡ p) × (within_by def r past ≡ k)
  place_is past r p k at =
      let cs = calls_by r def.calls in
      let es = entries_by r past in
      ((let e : length (complete [] cs es) ≡ 0 + p = many [] cs es p k at in omega (arith, e)), ap count_in (due_laid cs es p k at) ∙ counted cs es p k at)

  -- who made the entry
  by_who : (r : DriverNo) (a : Actor) → is_driver r a ≡ true → a ≡ actors.Driver r
  by_who r (actors.Driver w) h = ap actors.Driver (sym (driver_from_same r w h))
  by_who r (actors.Cpu c) h = cc
  by_who r (actors.Thread d) h = cc

  own_due : (past : List Entry) (r : DriverNo) (e : Entry) → IsDue def e past → is_by_driver r e ≡ true → next_past def past (actors.Driver r) ≡ Some e
  own_due past r e due by = ap (next_past def past) (sym (by_who r (actor_of e) by)) ∙ due

  -- the call of the driver whose entry is due
  pub record HasCall (past : List Entry) (r : DriverNo) : Type 0 where
    pub call : Call
    pub count : ℕ
    pub due : due_call def r past ≡ Some (call, count)

  pub has_call : (past : List Entry) (r : DriverNo) (e : Entry) → IsDue def e past → is_by_driver r e ≡ true → HasCall past r
  has_call past r e due by = by_call (due_call def r past) refl
    where
      by_call : (o : Option (Call × ℕ)) → due_call def r past ≡ o → HasCall past r
      by_call None none = absurd (let i : ◌≡◌ {A = Option Entry} None (Some e) = ap (λ (o : Option (Call × ℕ)). next_of_driver def r past o) (sym none)
          ∙ own_due past r e due by in let x : ⊥ = cc i in x)
      by_call (Some (c, n)) some = record { call = c; count = n; due = some }

  -- the place after one more entry
  pub moved : (past : List Entry) (r : DriverNo) (e : Entry) (p k : ℕ) (c : Call) (n : ℕ) → IsDue def e past
      → is_by_driver r e ≡ true → due_call def r past ≡ Some (c, n) → IsAt def past r p k
      → IsAt def (e ∷ past) r (place_after (completes c e) p) (within_after (completes c e) k)
  moved past r e p k c n due by call at = own_place def past e r p k c n (own_due past r e due by) by call at

  pub placed : (past : List Entry) → IsLegalPast def past → (r : DriverNo) → IsAt def past r (place_by def r past) (within_by def r past)
  placed [] legal r = laid_start_at (calls_by r def.calls)
    where
      laid_start_at : (cs : List Call) → Laid cs [] (length (complete [] cs [])) (count_in (due_of cs []))
      laid_start_at cs =
          let at = laid_start cs in
          let p : length (complete [] cs []) ≡ 0 = (let e : length (complete [] cs []) ≡ 0 + 0 = many [] cs [] 0 0 at in omega (arith, e)) in
          let k : count_in (due_of cs []) ≡ 0 = ap count_in (due_laid cs [] 0 0 at) ∙ counted cs [] 0 0 at in
          subst (λ (x : ℕ). Laid cs [] x (count_in (due_of cs []))) (sym p) (subst (λ (x : ℕ). Laid cs [] 0 x) (sym k) at)
  placed (e ∷ past) legal r = by_whom (is_by_driver r e) refl (placed past legal.1 r)
    where
      itself : (p k : ℕ) → IsAt def (e ∷ past) r p k → IsAt def (e ∷ past) r (place_by def r (e ∷ past)) (within_by def r (e ∷ past))
      itself p k is =
          let same = place_is (e ∷ past) r p k is in
          subst (λ (x : ℕ). IsAt def (e ∷ past) r x (within_by def r (e ∷ past))) (sym same.0) (subst (λ (x : ℕ). IsAt def (e ∷ past) r p x) (sym same.1) is)

      by_whom : (b : Bool) → is_by_driver r e ≡ b → IsAt def past r (place_by def r past) (within_by def r past)
          → IsAt def (e ∷ past) r (place_by def r (e ∷ past)) (within_by def r (e ∷ past))
      by_whom true by at =
          let c = has_call past r e legal.0 by in
          itself _ _ (moved past r e (place_by def r past) (within_by def r past) c.call c.count legal.0 by c.due at)
      by_whom false by at = itself _ _ (other_place def past e r (place_by def r past) (within_by def r past) by at)
