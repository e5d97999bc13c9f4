-- The maker of the free that is under way has it due.
use Rattle.std.proofs.Common.{◌≡◌, ℕ, suc, ◌<◌, Bool, true, false, cond, Some, List, [], ◌∷◌, ◌++◌, length, nat_lt}
use Rattle.std.proofs.Common.{refl, sym, ap, ◌∙◌, subst, arith}
use Rattle.std.proofs.lemmas.Bool.{ltb-true, lt-ltb}
use Rattle.irq_base.specs.declared.numbers.DevNo.{DevNo}
use Rattle.irq_base.specs.declared.calls.Call.TheVariants as calls
use Rattle.irq_base.specs.declared.lines.LineDef.{LineDef}
use Rattle.irq_base.specs.declared.entries.Actor.{Actor}
use Rattle.irq_base.specs.declared.entries.Actor.TheVariants as actors
use Rattle.irq_base.specs.declared.entries.Entry.{Entry}
use Rattle.irq_base.specs.declared.entries.Entry.TheVariants as by
use Rattle.irq_base.specs.declared.entries.CallEntry.{CallEntry}
use Rattle.irq_base.specs.declared.entries.CallEntry.TheVariants as called
use Rattle.irq_base.specs.declared.entries.UnlinkAnswer.TheVariants as unlinks
use Rattle.irq_model.specs.Kinds.{made_by, is_by, same_actor}
use Rattle.irq_model.specs.Due.{begins_not_there, entries_of_call}
use Rattle.irq_model.specs.Next.{next_of_free}
use Rattle.irq_model.specs.Legal.{IsDue, IsLegalPast}
use Rattle.irq_model.proofs.Same.{same_self_actor}
use Rattle.irq_laws.specs.Actors.{due_of_actor}
use Rattle.irq_laws.specs.Kept.{KeepsRuns, freeing, freed_on}
use Rattle.irq_laws.proofs.Chosen.{the_same}
use Rattle.irq_laws.proofs.ActorSteps.{turn}
use Rattle.irq_laws.proofs.Progress.{same_count, goes_on_with, still_due}
use Rattle.irq_laws.proofs.FreesKept.{not_freeing, by_maker, freeing_on, FreeStep, unlinks_it, clears_it, frees_it, free_row, free_step}
use Rattle.irq_laws.proofs.ImpliesDriver.{unlink_due}
use Rattle.irq_laws.proofs.ScriptLaws.{runs_past}

unlink_goes : (x : DevNo) (a : Actor) (last : Bool) (own : List Entry) → length own ≡ 0 → nat_lt (length own) (entries_of_call (calls.Free x) own) ≡ true
    → nat_lt (length (own ++ made_by a (called.Unlink (unlinks.Unlinked last) x) ∷ []))
    (entries_of_call (calls.Free x) (own ++ made_by a (called.Unlink (unlinks.Unlinked last) x) ∷ [])) ≡ true
unlink_goes x (actors.Cpu c) last [] l lt = lt-ltb 1 3 (omega arith)
unlink_goes x (actors.Thread d) last [] l lt = lt-ltb 1 3 (omega arith)
unlink_goes x (actors.Driver s) last [] l lt = lt-ltb 1 3 (omega arith)
unlink_goes x a last (y ∷ ys) l lt = absurd (omega (arith, l))

clear_goes : (x : DevNo) (e : Entry) (own : List Entry) → length own ≡ 1 → nat_lt (length own) (entries_of_call (calls.Free x) own) ≡ true
    → nat_lt (length (own ++ e ∷ [])) (entries_of_call (calls.Free x) (own ++ e ∷ [])) ≡ true
clear_goes x e [] l lt = absurd (omega (arith, l))
clear_goes x e (y ∷ []) l lt = ap (λ (m : ℕ). nat_lt 2 m) (same_count (calls.Free x) y (e ∷ []) [])
    ∙ three_more (begins_not_there (y ∷ [])) (ltb-true 1 (entries_of_call (calls.Free x) (y ∷ [])) lt)
  where
    three_more : (b : Bool) → 1 < cond b 1 3 → nat_lt 2 (cond b 1 3) ≡ true
    three_more true h = absurd (omega (arith, h))
    three_more false h = lt-ltb 2 3 (omega arith)
clear_goes x e (y ∷ z ∷ ys) l lt = absurd (omega (arith, l))

abbrev IsWithin : LineDef → List Entry → Actor → DevNo → Type 0
IsWithin def past a d = (n : ℕ) × (due_of_actor def a past ≡ Some (calls.Free d, suc n))

-- an entry that leaves the free under way
goes_on : (def : LineDef) (e : Entry) (past : List Entry) (a : Actor) (d : DevNo) → IsDue def e past → KeepsRuns def past
    → freeing (e ∷ past) ≡ Some (a, d) → (b : Bool) → is_by a e ≡ b → IsWithin def past a d → IsWithin def (e ∷ past) a d
goes_on def e past a d due runs f false other (n, is) = (n, still_due def a e past (calls.Free d) (suc n) (turn def a e past due runs) other is)
goes_on def e past a d due runs f true mine (n, is) = by_step (free_step def a e past d (suc n) due mine is)
  where
    by_row : (call : CallEntry) → made_by a call ≡ e → FreeStep def d (suc n) past call → IsWithin def (e ∷ past) a d
    by_row call made (unlinks_it none free same) = absurd (omega (arith, none))
    by_row call made (clears_it one no_flow same) =
        let before : due_of_actor def a past ≡ Some (calls.Free d, 1) = is ∙ ap (λ (m : ℕ). Some (calls.Free d, m)) one in
        (1, goes_on_with def a e past (calls.Free d) 1 (turn def a e past due runs) mine before (clear_goes d e))
    by_row call made (frees_it some not_one same) =
        let n = sym (ap (λ (x : Entry). freeing (x ∷ past)) (ap (made_by a) same ∙ made)) in
        let m = sym (freeing_on a (called.Freed d) past) ∙ (sym n ∙ f) in cc

    by_step : (call : CallEntry) × (next_of_free def d (suc n) past ≡ Some call) × (made_by a call ≡ e) → IsWithin def (e ∷ past) a d
    by_step s = by_row s.0 s.2 (free_row def d (suc n) past s.0 s.1)

call_within : (def : LineDef) (b : Actor) (call : CallEntry) (past : List Entry) (a : Actor) (d : DevNo) → IsDue def (made_by b call) past → KeepsRuns def past
    → freeing (made_by b call ∷ past) ≡ Some (a, d) → (freeing past ≡ Some (a, d) → IsWithin def past a d)
    → freed_on b call (freeing past) ≡ Some (a, d) → IsWithin def (made_by b call ∷ past) a d
call_within def b (called.Unlink (unlinks.Unlinked last) x) past a d due runs f k h =
    let p : Actor × DevNo = (b, x) in
    let q : Actor × DevNo = (a, d) in
    let same : p ≡ q = the_same p q h in
    let mine : is_by b (made_by b (called.Unlink (unlinks.Unlinked last) x)) ≡ true =
    ap (same_actor b) (by_maker b (called.Unlink (unlinks.Unlinked last) x)) ∙ same_self_actor b in
    let here : due_of_actor def b (made_by b (called.Unlink (unlinks.Unlinked last) x) ∷ past) ≡ Some (calls.Free x, 1) =
    goes_on_with def b (made_by b (called.Unlink (unlinks.Unlinked last) x)) past (calls.Free x) 0
    (turn def b (made_by b (called.Unlink (unlinks.Unlinked last) x)) past due runs) mine
    (unlink_due def b x (unlinks.Unlinked last) past due).call (unlink_goes x b last) in (
      0,
      subst (λ (y : Actor × DevNo). due_of_actor def y.0
          (made_by b (called.Unlink (unlinks.Unlinked last) x) ∷ past) ≡ Some (calls.Free y.1, 1)) same here,
    )
call_within def b (called.Unlink unlinks.NotThere x) past a d due runs f k h = not_freeing past _ (unlink_due def b x unlinks.NotThere past due).no_mutex h
call_within def b (called.Freed x) past a d due runs f k h = cc
call_within def b call past a d due runs f k h = goes_on def (made_by b call) past a d due runs f (is_by a (made_by b call)) refl (k h)

within_more : (def : LineDef) (e : Entry) (past : List Entry) (a : Actor) (d : DevNo) → IsDue def e past → KeepsRuns def past
    → (freeing past ≡ Some (a, d) → IsWithin def past a d) → freeing (e ∷ past) ≡ Some (a, d) → IsWithin def (e ∷ past) a d
within_more def (by.CpuCall c call) past a d due runs k f = call_within def (actors.Cpu c) call past a d due runs f k f
within_more def (by.ThreadCall x call) past a d due runs k f = call_within def (actors.Thread x) call past a d due runs f k f
within_more def (by.DriverCall s call) past a d due runs k f = call_within def (actors.Driver s) call past a d due runs f k f
within_more def e past a d due runs k f = goes_on def e past a d due runs f (is_by a e) refl (k f)

pub within_free : (def : LineDef) (past : List Entry) → IsLegalPast def past → (a : Actor) (d : DevNo)
    → freeing past ≡ Some (a, d) → (n : ℕ) × (due_of_actor def a past ≡ Some (calls.Free d, suc n))
within_free def [] legal a d f = cc
within_free def (e ∷ past) legal a d f = within_more def e past a d legal.0 (runs_past def past legal.1) (λ g. within_free def past legal.1 a d g) f
