-- If none of the line's actors has a due entry, no actor has; and if none of them is hung, the line is
-- at rest.
use Rattle.std.proofs.Common.{◌≡◌, inl, inr, ℕ, zero, suc, Bool, true, false, cond, Option, Some, None, is_some, List, reverse, refl, sym, ap, ◌∙◌, subst}
use Rattle.std.proofs.lemmas.Bool.{or_right, false_from_ne_true}
use Rattle.irq_base.specs.declared.calls.Call.{Call}
use Rattle.irq_base.specs.declared.lines.LineDef.{LineDef}
use Rattle.irq_base.specs.declared.entries.Actor.{Actor}
use Rattle.irq_base.specs.declared.entries.Actor.TheVariants as actors
use Rattle.irq_base.specs.declared.entries.Entry.{Entry}
use Rattle.irq_model.specs.Rounds.{at_work}
use Rattle.irq_model.specs.Threads.{is_woken, is_running}
use Rattle.irq_model.specs.Due.{due_call}
use Rattle.irq_model.specs.Next.{next, next_past}
use Rattle.irq_model.specs.Legal.{IsLegal}
use Rattle.irq_model.specs.Valid.{IsValid}
use Rattle.irq_model.specs.ValidRuns.{HasValidRuns, NeverWaits}
use Rattle.irq_model.specs.Waits.{Want, nothing_wanted, wanted, wanted_of, wanted_at_work, wanted_by_thread}
use Rattle.irq_model.specs.Waits.{StandsIn, WaitsFor, WaitsThrough, IsHungPast, IsCaughtPast, is_unfinished_actor, IsAtRest, NobodyEndsWaits}
use Rattle.irq_laws.proofs.KeptAlways.{kept}
use Rattle.irq_laws.proofs.Standstill.{no_standstill}
use Rattle.play_laws.specs.Actors.{actors_of, IsOneOf}
use Rattle.play_laws.proofs.NobodyHangs.{nobody_hangs, none_stands}
use Rattle.play_laws.proofs.Listed.{mover_listed, unfinished_listed}
use Rattle.play_laws.proofs.Moves.{nobody_caught}

pub others_rest : (def : LineDef) (h : List Entry) (a : Actor) → IsValid def → IsLegal def h → (IsOneOf a (actors_of def) → ⊥) → next def h a ≡ None
others_rest def h a valid legal other = by_next (next def h a) refl
  where
    by_next : (o : Option Entry) → next def h a ≡ o → next def h a ≡ None
    by_next None is = is
    by_next (Some e) is = absurd (other (mover_listed def (reverse h) a e valid legal is))

-- if none of the line's actors has a due entry, no actor has
pub rest_is_still : (def : LineDef) (h : List Entry) → IsValid def → IsLegal def h
    → ((a : Actor) → IsOneOf a (actors_of def) → next def h a ≡ None) → (a : Actor) → next def h a ≡ None
rest_is_still def h valid legal rest a = by_next (next def h a) refl
  where
    by_next : (o : Option Entry) → next def h a ≡ o → next def h a ≡ None
    by_next None is = is
    by_next (Some e) is = rest a (mover_listed def (reverse h) a e valid legal is)

-- ---- who waits for somebody isn't done

wants_nothing : (def : LineDef) (past : List Entry) (a : Actor) → is_unfinished_actor def past a ≡ false → wanted def a past ≡ nothing_wanted
wants_nothing def past (actors.Driver r) h = by_due (due_call def r past) h
  where
    by_due : (o : Option (Call × ℕ)) → is_some o ≡ false → wanted_of o ≡ nothing_wanted
    by_due None h = refl
    by_due (Some x) h = cc
wants_nothing def past (actors.Cpu c) h = ap (λ (b : Bool). cond b (wanted_at_work def (at_work past) past) nothing_wanted) h
wants_nothing def past (actors.Thread d) h = by_running (is_running past d) refl
  where
    by_running : (b : Bool) → is_running past d ≡ b → wanted_by_thread def d past ≡ nothing_wanted
    by_running false is = rw is refl
    by_running true is = let n : true ≡ false = sym (or_right (is_woken past d) (is_running past d) is) ∙ h in cc

pub waits_unfinished : (def : LineDef) (past : List Entry) (a b : Actor) → WaitsFor def past a b → is_unfinished_actor def past a ≡ true
waits_unfinished def past a b w = by_test (is_unfinished_actor def past a) refl
  where
    by_test : (x : Bool) → is_unfinished_actor def past a ≡ x → is_unfinished_actor def past a ≡ true
    by_test true is = is
    by_test false is = absurd (none_stands def past b (subst (λ (x : Want). StandsIn def past x b) (wants_nothing def past a is) w.1))

through_waits : (def : LineDef) (past : List Entry) (n : ℕ) (a b : Actor) → WaitsThrough def past n a b → (c : Actor) × WaitsFor def past a c
through_waits def past zero a b w = (b, w)
through_waits def past (suc n) a b w = (w.0, w.1)

caught_waits : (def : LineDef) (past : List Entry) (a : Actor) → IsCaughtPast def past a → (c : Actor) × WaitsFor def past a c
caught_waits def past a (inl (n, w)) = through_waits def past n a a w
caught_waits def past a (inr (n, b, w, hung)) = through_waits def past n a b w

-- who is hung or held up has no step, and isn't done
pub caught_rests : (def : LineDef) (past : List Entry) (a : Actor) → IsCaughtPast def past a → next_past def past a ≡ None
caught_rests def past a caught = (caught_waits def past a caught).1.0

pub caught_unfinished : (def : LineDef) (past : List Entry) (a : Actor) → IsCaughtPast def past a → is_unfinished_actor def past a ≡ true
caught_unfinished def past a caught = let w = caught_waits def past a caught in waits_unfinished def past a w.0 w.1

pub hung_unfinished : (def : LineDef) (past : List Entry) (a : Actor) → IsHungPast def past a → is_unfinished_actor def past a ≡ true
hung_unfinished def past a hung = caught_unfinished def past a (inl hung)

-- where nobody has a step nobody ends a wait
pub nobody_moves : (def : LineDef) (past : List Entry) → ((a : Actor) → next_past def past a ≡ None) → NobodyEndsWaits def past
nobody_moves def past still = record {
  threads = λ d. still (actors.Thread d);
  flow_cpu = λ c is. still (actors.Cpu c);
  holder = λ b is. still b;
}

-- if none of the line's actors is hung either, the line is at rest
pub rest_is_at_rest : (def : LineDef) (h : List Entry) → IsValid def → HasValidRuns def → IsLegal def h
    → ((a : Actor) → IsOneOf a (actors_of def) → next def h a ≡ None)
    → ((a : Actor) → IsOneOf a (actors_of def) → IsHungPast def (reverse h) a → ⊥) → IsAtRest def h
rest_is_at_rest def h valid runs legal rest unhung = record { still = still; done = λ a. false_from_ne_true (is_unfinished_actor def (reverse h) a) (waits a) }
  where
    still : (a : Actor) → next def h a ≡ None
    still = rest_is_still def h valid legal rest

    never : (a : Actor) → IsHungPast def (reverse h) a → ⊥
    never a hung = unhung a (unfinished_listed def (reverse h) a legal (kept def (reverse h) valid legal) (hung_unfinished def (reverse h) a hung)) hung

    waits : (a : Actor) → is_unfinished_actor def (reverse h) a ≡ true → ⊥
    waits a h' = nobody_caught def (reverse h) never a
        (no_standstill def (reverse h) valid runs legal (nobody_moves def (reverse h) still) a h' (still a))

-- where no run waits, what is still is at rest
pub unwaiting_rests : (def : LineDef) (h : List Entry) → IsValid def → HasValidRuns def → NeverWaits def → IsLegal def h
    → ((a : Actor) → IsOneOf a (actors_of def) → next def h a ≡ None) → IsAtRest def h
unwaiting_rests def h valid runs waits legal rest = rest_is_at_rest def h valid runs legal rest
    (λ a own hung. nobody_hangs def (reverse h) valid runs waits legal a hung)
