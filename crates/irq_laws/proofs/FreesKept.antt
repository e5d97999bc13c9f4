-- Each entry keeps: at most one free is under way, and an actor that is within a free is its maker.
use Rattle.std.proofs.Common.{◌≡◌, ℕ, suc, ◌<◌, ◌==◌, ◌⊎◌, inl, inr, Bool, true, false, not, ◌||◌, ◌&&◌, cond, Option, Some}
use Rattle.std.proofs.Common.{List, [], ◌∷◌, filter, nat_lt, option_map, None, refl, sym, ap, ap₂, ◌∙◌, subst, arith, eqb-true}
use Rattle.std.proofs.lemmas.Bool.{and_parts, or_cases, and_right, or_from, ltb-true, eqb-false, false_from_ne_true}
use Rattle.irq_base.specs.declared.numbers.CpuNo.{CpuNo}
use Rattle.irq_base.specs.declared.numbers.DevNo.{DevNo}
use Rattle.irq_base.specs.declared.calls.Call.{Call}
use Rattle.irq_base.specs.declared.calls.Call.TheVariants as calls
use Rattle.irq_base.specs.declared.lines.LineDef.{LineDef}
use Rattle.irq_base.specs.declared.entries.Actor.{Actor}
use Rattle.irq_base.specs.declared.entries.Actor.TheVariants as actors
use Rattle.irq_base.specs.declared.entries.Entry.{Entry}
use Rattle.irq_base.specs.declared.entries.Entry.TheVariants as by
use Rattle.irq_base.specs.declared.entries.CpuEntry.TheVariants as cpus
use Rattle.irq_base.specs.declared.entries.DriverEntry.TheVariants as drivers
use Rattle.irq_base.specs.declared.entries.CallEntry.{CallEntry}
use Rattle.irq_base.specs.declared.entries.CallEntry.TheVariants as called
use Rattle.irq_base.specs.declared.entries.UnlinkAnswer.{UnlinkAnswer}
use Rattle.irq_base.specs.declared.entries.UnlinkAnswer.TheVariants as unlinks
use Rattle.irq_base.specs.Who.{actor_of}
use Rattle.irq_model.specs.Places.{stands}
use Rattle.irq_model.specs.Kinds.{same_dev, same_actor, is_by, is_freed_by, made_by, clears, is_hard_clear, unlinks_this, ends_free, frees}
use Rattle.irq_model.specs.Links.{linked, is_linked, requested}
use Rattle.irq_model.specs.Rounds.{has_flow, has_begun, first_left}
use Rattle.irq_model.specs.Due.{entries_of_call, holds_mutex}
use Rattle.irq_model.specs.Next.{next_of_free, next_of_call, next_past, unlink_answer, hard_clear_of, freed_of}
use Rattle.irq_model.specs.Threads.{is_woken, is_running}
use Rattle.irq_model.specs.Reason.{is_called, is_being_freed, is_cleared}
use Rattle.irq_model.specs.Legal.{IsDue}
use Rattle.irq_model.proofs.Same.{same_self, same_self_actor, dev_from_same, actor_from_same}
use Rattle.irq_laws.specs.Actors.{calls_of, entries_of, due_of_actor}
use Rattle.irq_laws.specs.Kept.{KeepsRuns, KeepsFrees, freeing, freed_on, unlinks_of}
use Rattle.irq_laws.proofs.Chosen.{chosen, from_else, the_same}
use Rattle.irq_laws.proofs.Lists.{both_ways, differs_dev}
use Rattle.irq_laws.proofs.ActorSteps.{turn}
use Rattle.irq_laws.proofs.Progress.{fresh, free_below, Within, earlier, by_this, within}
use Rattle.irq_laws.proofs.Mutex.{freeing_holds, clearer, cleared_before}
use Rattle.irq_laws.proofs.ImpliesFlow.{made_step, begin_due}
use Rattle.irq_laws.proofs.ImpliesDriver.{acts_for, request_due, unlink_due, freed_due, hard_clear_due}

-- ---- helpers

-- the mutex isn't held while nobody is within a free
pub not_freeing : {P : Type 0} (past : List Entry) (f : Actor × DevNo) → holds_mutex past ≡ false → freeing past ≡ Some f → P
not_freeing past f free is = both_ways (holds_mutex past) (freeing_holds past f is) free

pub same_free : (past : List Entry) (a b : Actor) (d x : DevNo) → freeing past ≡ Some (a, d) → freeing past ≡ Some (b, x) → (a ≡ b) × (d ≡ x)
same_free past a b d x is other =
    let p : Actor × DevNo = (a, d) in
    let q : Actor × DevNo = (b, x) in
    let same : p ≡ q = the_same p q (sym is ∙ other) in
    (ap (λ (y : Actor × DevNo). y.0) same, ap (λ (y : Actor × DevNo). y.1) same)

pub this_free : (a b : Actor) (d x : DevNo) → a ≡ b → d ≡ x → ◌≡◌ {A = Option (Actor × DevNo)} (Some (b, x)) (Some (a, d))
this_free a b d x p q = let f : Actor → DevNo → Option (Actor × DevNo) = λ y z. Some (y, z) in ap₂ f (sym p) (sym q)

-- what a call's step makes of the free under way
pub freeing_on : (a : Actor) (call : CallEntry) (past : List Entry) → freeing (made_by a call ∷ past) ≡ freed_on a call (freeing past)
freeing_on (actors.Cpu c) call past = refl
freeing_on (actors.Thread d) call past = refl
freeing_on (actors.Driver r) call past = refl

pub by_maker : (a : Actor) (call : CallEntry) → actor_of (made_by a call) ≡ a
by_maker (actors.Cpu c) call = refl
by_maker (actors.Thread d) call = refl
by_maker (actors.Driver r) call = refl

step_of : (def : LineDef) (a : Actor) (past : List Entry) (d : DevNo) (n : ℕ)
    → next_of_call def a past (calls.Free d, n) ≡ option_map (made_by a) (next_of_free def d n past)
step_of def (actors.Cpu c) past d n = refl
step_of def (actors.Thread x) past d n = refl
step_of def (actors.Driver r) past d n = refl

-- an actor that has a free due makes the free's step
pub free_step : (def : LineDef) (a : Actor) (e : Entry) (past : List Entry) (d : DevNo) (n : ℕ) → IsDue def e past → is_by a e ≡ true
    → due_of_actor def a past ≡ Some (calls.Free d, n)
    → (call : CallEntry) × (next_of_free def d n past ≡ Some call) × (made_by a call ≡ e)
free_step def a e past d n due mine is =
    let whose : a ≡ actor_of e = actor_from_same a (actor_of e) mine in
    let m = acts_for def a (calls.Free d, n) past e is (subst (λ (x : Actor). next_past_of x) (sym whose) due) in
    made_step a (next_of_free def d n past) e (sym (step_of def a past d n) ∙ m)
  where
    next_past_of : Actor → Type 0
    next_past_of x = next_past def past x ≡ Some e

-- ---- who is within a free, by the due calls

-- the free that is completed is the one that its maker is within
pub freed_is : (def : LineDef) (a : Actor) (x : DevNo) (past : List Entry) → IsDue def (made_by a (called.Freed x)) past
    → KeepsFrees def past → (due_of_actor def a past ≡ Some (calls.Free x, 2)) × (freeing past ≡ Some (a, x))
freed_is def a x past due k =
    let u = freed_due def a x past due in
    let below = free_below (calls_of def a past) (entries_of def a past) x u.count u.call in
    let n = eqb-false u.count 0 u.not_first in
    let m = eqb-false u.count 1 u.not_second in
    let two : u.count ≡ 2 = at_two u.count below n m in
    let call : due_of_actor def a past ≡ Some (calls.Free x, 2) = u.call ∙ ap (λ (i : ℕ). Some (calls.Free x, i)) two in
    (call, k.within a x 1 call)
  where
    at_two : (n : ℕ) → n < 3 → (n ≡ 0 → ⊥) → (n ≡ 1 → ⊥) → n ≡ 2
    at_two n below some more = grind arith

-- another's entry leaves the free that is under way
call_leaves : (def : LineDef) (b : Actor) (call : CallEntry) (past : List Entry) → IsDue def (made_by b call) past → KeepsFrees def past
    → (a : Actor) (d : DevNo) → same_actor a b ≡ false → freeing past ≡ Some (a, d) → freed_on b call (freeing past) ≡ Some (a, d)
call_leaves def b (called.Unlink (unlinks.Unlinked last) x) past due k a d other h
    = not_freeing past _ (unlink_due def b x (unlinks.Unlinked last) past due).no_mutex h
call_leaves def b (called.Unlink unlinks.NotThere x) past due k a d other h = h
call_leaves def b (called.Freed x) past due k a d other h =
    let same = (same_free past a b d x h (freed_is def b x past due k).1).0 in
    both_ways (same_actor a b) (ap (λ (y : Actor). same_actor y b) same ∙ same_self_actor b) other
call_leaves def b call past due k a d other h = h

leaves_free : (def : LineDef) (e : Entry) (past : List Entry) → IsDue def e past → KeepsFrees def past
    → (a : Actor) (d : DevNo) → is_by a e ≡ false → freeing past ≡ Some (a, d) → freeing (e ∷ past) ≡ Some (a, d)
leaves_free def (by.CpuCall c call) past due k a d other h = call_leaves def (actors.Cpu c) call past due k a d other h
leaves_free def (by.ThreadCall x call) past due k a d other h = call_leaves def (actors.Thread x) call past due k a d other h
leaves_free def (by.DriverCall s call) past due k a d other h = call_leaves def (actors.Driver s) call past due k a d other h
leaves_free def e past due k a d other h = h

-- the step of a free, by how many entries it has made
pub data FreeStep (def : LineDef) (d : DevNo) (n : ℕ) (past : List Entry) (call : CallEntry) : Type 0 where
  unlinks_it : n ≡ 0 → holds_mutex past ≡ false → called.Unlink (unlink_answer d past) d ≡ call → FreeStep def d n past call
  clears_it : n ≡ 1 → has_flow def past ≡ false → called.HardClear ≡ call → FreeStep def d n past call
  frees_it : (n == 0) ≡ false → (n == 1) ≡ false → called.Freed d ≡ call → FreeStep def d n past call

pub free_row : (def : LineDef) (d : DevNo) (n : ℕ) (past : List Entry) (call : CallEntry)
    → next_of_free def d n past ≡ Some call → FreeStep def d n past call
free_row def d n past call h = first (chosen (n == 0) _ _ call h)
  where
    rest : (n == 0) ≡ false → ((n == 1) ≡ true) × (hard_clear_of def past ≡ Some call) ⊎ ((n == 1) ≡ false)
        × (freed_of d past ≡ Some call) → FreeStep def d n past call
    rest some (inl h) = let c = from_else (has_flow def past) called.HardClear call h.1 in clears_it (eqb-true n 1 h.0) c.0 c.1
    rest some (inr h) = frees_it some h.0 (from_else (is_woken past d || is_running past d) (called.Freed d) call h.1).1

    first : ((n == 0) ≡ true) × (cond (holds_mutex past) None (Some (called.Unlink (unlink_answer d past) d)) ≡ Some call)
        ⊎ ((n == 0) ≡ false) × (cond (n == 1) (hard_clear_of def past) (freed_of d past) ≡ Some call) → FreeStep def d n past call
    first (inl h) = let u = from_else (holds_mutex past) _ call h.1 in unlinks_it (eqb-true n 0 h.0) u.0 u.1
    first (inr h) = rest h.0 (chosen (n == 1) _ _ call h.1)

-- an actor that is within a free is the maker of the one that is under way
within_now : (def : LineDef) (a : Actor) (e : Entry) (past : List Entry) (d : DevNo) (n : ℕ) (call : CallEntry) → KeepsFrees def past
    → due_of_actor def a past ≡ Some (calls.Free d, n) → (n ≡ 0 → nat_lt 1 (entries_of_call (calls.Free d) (e ∷ [])) ≡ true)
    → due_of_actor def a (e ∷ past) ≡ Some (calls.Free d, suc n) → made_by a call ≡ e
    → FreeStep def d n past call → freeing (e ∷ past) ≡ Some (a, d)
within_now def a e past d n call k is more now_due made (clears_it one no_flow same) =
    let before : due_of_actor def a past ≡ Some (calls.Free d, 1) = is ∙ ap (λ (m : ℕ). Some (calls.Free d, m)) one in
    sym (ap (λ (x : Entry). freeing (x ∷ past)) (ap (made_by a) same ∙ made)) ∙ freeing_on a called.HardClear past ∙ k.within a d 0 before
within_now def a e past d n call k is more now_due made (frees_it some not_one same) =
    let below = free_below (calls_of def a (e ∷ past)) (entries_of def a (e ∷ past)) d (suc n) now_due in
    absurd (too_many n below (eqb-false n 0 some) (eqb-false n 1 not_one))
  where
    too_many : (n : ℕ) → suc n < 3 → (n ≡ 0 → ⊥) → (n ≡ 1 → ⊥) → ⊥
    too_many n below a b = grind arith
within_now def a e past d n call k is more now_due made (unlinks_it none free same) = by_answer (unlink_answer d past) refl
  where
    is_entry : (answer : UnlinkAnswer) → unlink_answer d past ≡ answer → made_by a (called.Unlink answer d) ≡ e
    is_entry answer is = ap (λ (x : UnlinkAnswer). made_by a (called.Unlink x d)) (sym is) ∙ ap (made_by a) same ∙ made

    one_entry : (a : Actor) → nat_lt 1 (entries_of_call (calls.Free d) (made_by a (called.Unlink unlinks.NotThere d) ∷ [])) ≡ true → ⊥
    one_entry (actors.Cpu c) lt = let below = ltb-true 1 1 lt in omega (arith, below)
    one_entry (actors.Thread x) lt = let below = ltb-true 1 1 lt in omega (arith, below)
    one_entry (actors.Driver r) lt = let below = ltb-true 1 1 lt in omega (arith, below)

    by_answer : (answer : UnlinkAnswer) → unlink_answer d past ≡ answer → freeing (e ∷ past) ≡ Some (a, d)
    by_answer (unlinks.Unlinked last) is =
        sym (ap (λ (x : Entry). freeing (x ∷ past)) (is_entry (unlinks.Unlinked last) is)) ∙ freeing_on a (called.Unlink (unlinks.Unlinked last) d) past
    by_answer unlinks.NotThere is =
        absurd (one_entry a (subst (λ (x : Entry). nat_lt 1 (entries_of_call (calls.Free d) (x ∷ [])) ≡ true) (sym (is_entry unlinks.NotThere is)) (more none)))

within_more : (def : LineDef) (e : Entry) (past : List Entry) → IsDue def e past → KeepsRuns def past → KeepsFrees def past
    → (a : Actor) (d : DevNo) (n : ℕ) → due_of_actor def a (e ∷ past) ≡ Some (calls.Free d, suc n) → freeing (e ∷ past) ≡ Some (a, d)
within_more def e past due runs k a d n h = by_turn (within def a e past (calls.Free d) n (turn def a e past due runs) h)
  where
    by_turn : Within def a e past (calls.Free d) n → freeing (e ∷ past) ≡ Some (a, d)
    by_turn (earlier other before) = leaves_free def e past due k a d other (k.within a d n before)
    by_turn (by_this mine before more) =
        let s = free_step def a e past d n due mine before in
        within_now def a e past d n s.0 k before more h s.2 (free_row def d n past s.0 s.1)

-- ---- who is within a free, by the unlinks

-- an entry that neither unlinks nor completes a free
unmoved : (b x : Bool) → ((b && false) || (not (b && false) && x)) ≡ true → x ≡ true
unmoved b x h = grind arith

unfreed : (b x : Bool) → ((b && false) || (not (b && true) && x)) ≡ true → (b ≡ false) × (x ≡ true)
unfreed b x h = (grind arith, grind arith)

-- the free of d that an actor began, and hasn't completed, is the one that is under way
call_makes : (def : LineDef) (b : Actor) (call : CallEntry) (past : List Entry) → IsDue def (made_by b call) past → KeepsFrees def past
    → (a : Actor) (d : DevNo)
    → ((same_actor a b && unlinks_this d call) || (not (same_actor a b && ends_free call) && stands (unlinks_of a d) (is_freed_by a) past)) ≡ true
    → freed_on b call (freeing past) ≡ Some (a, d)
call_makes def b (called.Unlink (unlinks.Unlinked last) x) past due k a d h = by_case (or_cases _ _ h)
  where
    by_case : ((same_actor a b && (same_dev d x && true)) ≡ true)
        ⊎ ((not (same_actor a b && false) && stands (unlinks_of a d) (is_freed_by a) past) ≡ true)
        → ◌≡◌ {A = Option (Actor × DevNo)} (Some (b, x)) (Some (a, d))
    by_case (inl same) =
        let p = and_parts (same_actor a b) _ same in
        let q = and_parts (same_dev d x) true p.1 in
        this_free a b d x (actor_from_same a b p.0) (dev_from_same d x q.0)
    by_case (inr was) =
        let f = k.one_maker a d (and_parts (not (same_actor a b && false)) _ was).1 in
        not_freeing past _ (unlink_due def b x (unlinks.Unlinked last) past due).no_mutex f
call_makes def b (called.Unlink unlinks.NotThere x) past due k a d h = k.one_maker a d (absent (same_actor a b) (same_dev d x) _ h)
  where
    absent : (b c x : Bool) → ((b && (c && false)) || (not (b && false) && x)) ≡ true → x ≡ true
    absent b c x h = grind arith
call_makes def b (called.Freed x) past due k a d h =
    let p = unfreed (same_actor a b) _ h in
    let f = k.one_maker a d p.1 in
    let same = (same_free past a b d x f (freed_is def b x past due k).1).0 in
    both_ways (same_actor a b) (ap (λ (y : Actor). same_actor y b) same ∙ same_self_actor b) p.0
call_makes def b call past due k a d h = k.one_maker a d (unmoved (same_actor a b) _ h)

maker_more : (def : LineDef) (e : Entry) (past : List Entry) → IsDue def e past → KeepsFrees def past
    → (a : Actor) (d : DevNo) → stands (unlinks_of a d) (is_freed_by a) (e ∷ past) ≡ true → freeing (e ∷ past) ≡ Some (a, d)
maker_more def (by.CpuCall c call) past due k a d h = call_makes def (actors.Cpu c) call past due k a d h
maker_more def (by.ThreadCall x call) past due k a d h = call_makes def (actors.Thread x) call past due k a d h
maker_more def (by.DriverCall s call) past due k a d h = call_makes def (actors.Driver s) call past due k a d h
maker_more def e past due k a d h = k.one_maker a d (unmoved (is_by a e) _ h)

call_frees : (def : LineDef) (b : Actor) (call : CallEntry) (past : List Entry) → IsDue def (made_by b call) past → KeepsFrees def past
    → (d : DevNo) → (unlinks_this d call || (not (frees d call) && is_being_freed past d)) ≡ true
    → (a : Actor) × (freed_on b call (freeing past) ≡ Some (a, d))
call_frees def b (called.Unlink (unlinks.Unlinked last) x) past due k d h = by_case (or_cases _ _ h)
  where
    by_case : ((same_dev d x && true) ≡ true) ⊎ (is_being_freed past d ≡ true)
        → (a : Actor) × (◌≡◌ {A = Option (Actor × DevNo)} (Some (b, x)) (Some (a, d)))
    by_case (inl same) = (b, this_free b b d x refl (dev_from_same d x (and_parts _ true same).0))
    by_case (inr was) = let f = k.one_device d was in not_freeing past _ (unlink_due def b x (unlinks.Unlinked last) past due).no_mutex f.1
call_frees def b (called.Unlink unlinks.NotThere x) past due k d h = by_case (or_cases _ _ h)
  where
    by_case : ((same_dev d x && false) ≡ true) ⊎ (is_being_freed past d ≡ true) → (a : Actor) × (freeing past ≡ Some (a, d))
    by_case (inl same) = let n = (and_parts _ false same).1 in cc
    by_case (inr was) = k.one_device d was
call_frees def b (called.Freed x) past due k d h =
    let p = and_parts (not (same_dev d x)) _ h in
    let f = k.one_device d p.1 in
    let same = same_free past f.0 b d x f.1 (freed_is def b x past due k).1 in
    differs_dev d x same.1 p.0
call_frees def b call past due k d h = k.one_device d h

device_more : (def : LineDef) (e : Entry) (past : List Entry) → IsDue def e past → KeepsFrees def past → (d : DevNo)
    → is_being_freed (e ∷ past) d ≡ true → (a : Actor) × (freeing (e ∷ past) ≡ Some (a, d))
device_more def (by.CpuCall c call) past due k d h = call_frees def (actors.Cpu c) call past due k d h
device_more def (by.ThreadCall x call) past due k d h = call_frees def (actors.Thread x) call past due k d h
device_more def (by.DriverCall s call) past due k d h = call_frees def (actors.Driver s) call past due k d h
device_more def e past due k d h = k.one_device d h

-- ---- what is being freed isn't linked

unlinked_now : (s l : Bool) → s ≡ true → (not (s && true) && l) ≡ false
unlinked_now true l h = refl
unlinked_now false l h = cc

call_unlinks : (b : Actor) (call : CallEntry) (past : List Entry) (a : Actor) (d : DevNo)
    → (freeing past ≡ Some (a, d) → is_linked past d ≡ false) → freed_on b call (freeing past) ≡ Some (a, d)
    → (not (unlinks_this d call) && is_linked past d) ≡ false
call_unlinks b (called.Unlink (unlinks.Unlinked last) x) past a d k h =
    unlinked_now (same_dev d x) (is_linked past d) (let same = freed_dev x d h in subst (λ (y : DevNo). same_dev d y ≡ true) same (same_self d))
  where
    freed_dev : (x d : DevNo) → ◌≡◌ {A = Option (Actor × DevNo)} (Some (b, x)) (Some (a, d)) → d ≡ x
    freed_dev x d h =
        let p : Actor × DevNo = (b, x) in
        let q : Actor × DevNo = (a, d) in
        sym (ap (λ (y : Actor × DevNo). y.1) (the_same p q h))
call_unlinks b (called.Unlink unlinks.NotThere x) past a d k h = and_right (not (same_dev d x && false)) (is_linked past d) (k h)
call_unlinks b (called.Freed x) past a d k h = cc
call_unlinks b call past a d k h = k h

unlinked_more : (def : LineDef) (e : Entry) (past : List Entry) → IsDue def e past → KeepsFrees def past
    → (a : Actor) (d : DevNo) → freeing (e ∷ past) ≡ Some (a, d) → is_linked (e ∷ past) d ≡ false
unlinked_more def (by.CpuCall c call) past due k a d h = call_unlinks (actors.Cpu c) call past a d (k.unlinked a d) h
unlinked_more def (by.ThreadCall x call) past due k a d h = call_unlinks (actors.Thread x) call past a d (k.unlinked a d) h
unlinked_more def (by.DriverCall s call) past due k a d h = call_unlinks (actors.Driver s) call past a d (k.unlinked a d) h
unlinked_more def (by.Driver s (drivers.Request flags answer opened x)) past due k a d h
    = not_freeing past _ (request_due def s x flags answer opened past due).no_mutex h
unlinked_more def e past due k a d h = k.unlinked a d h

-- ---- no handler of a device is at work past its hard clear

pub nothing_called : (def : LineDef) (past : List Entry) → KeepsRuns def past → has_flow def past ≡ false → (d : DevNo) → is_called past d ≡ false
nothing_called def past runs idle d = false_from_ne_true (is_called past d) (λ h. both_ways (has_flow def past) (runs.working d (runs.called d h)).1 idle)

-- what is called is linked
first_of : (def : LineDef) (past : List Entry) (p : DevNo → Bool) (ds : List DevNo) (d : DevNo)
    → first_left def past (filter p ds) ≡ Some d → (p d ≡ true) × (has_begun def past d ≡ false)
first_of def past p [] d h = cc
first_of def past p (x ∷ xs) d h = by_test (p x) refl (λ is. first_of def past p xs d is)
  where
    here : (b : Bool) → has_begun def past x ≡ b → p x ≡ true
        → cond b (first_left def past (filter p xs)) (Some x) ≡ Some d
        → (first_left def past (filter p xs) ≡ Some d → (p d ≡ true) × (has_begun def past d ≡ false))
        → (p d ≡ true) × (has_begun def past d ≡ false)
    here true begun passes is deeper = deeper is
    here false begun passes is deeper =
        let same = the_same x d is in
        (subst (λ (y : DevNo). p y ≡ true) same passes, subst (λ (y : DevNo). has_begun def past y ≡ false) same begun)

    by_test : (b : Bool) → p x ≡ b → (first_left def past (filter p xs) ≡ Some d
        → (p d ≡ true) × (has_begun def past d ≡ false)) → (p d ≡ true) × (has_begun def past d ≡ false)
    by_test true is deeper = here (has_begun def past x) refl is
        (ap (λ (b : Bool). first_left def past (cond b (x ∷ filter p xs) (filter p xs))) (sym is) ∙ h) deeper
    by_test false is deeper = deeper (ap (λ (b : Bool). first_left def past (cond b (x ∷ filter p xs) (filter p xs))) (sym is) ∙ h)

pub begun_is_linked : (def : LineDef) (past : List Entry) (d : DevNo) → first_left def past (linked past) ≡ Some d
    → (is_linked past d ≡ true) × (has_begun def past d ≡ false)
begun_is_linked def past d h = first_of def past (is_linked past) (requested past) d h

-- a handler that is called is none of a device that is being freed
not_called : (def : LineDef) (c : CpuNo) (x : DevNo) (past : List Entry) → IsDue def (by.Cpu c (cpus.Begin x)) past
    → KeepsFrees def past → (a : Actor) (d : DevNo) → freeing past ≡ Some (a, d) → is_called past d ≡ false
    → is_called (by.Cpu c (cpus.Begin x) ∷ past) d ≡ false
not_called def c x past due k a d within was = or_from (same_dev d x) (is_called past d) (false_from_ne_true (same_dev d x) differs) was
  where
    differs : same_dev d x ≡ true → ⊥
    differs same =
        let there = (begun_is_linked def past x (begin_due def c x past due).first).0 in
        both_ways (is_linked past d) (subst (λ (y : DevNo). is_linked past y ≡ true) (sym (dev_from_same d x same)) there) (k.unlinked a d within)

still_not_called : (def : LineDef) (e : Entry) (past : List Entry) → IsDue def e past → KeepsFrees def past
    → (a : Actor) (d : DevNo) → freeing past ≡ Some (a, d) → is_called past d ≡ false → is_called (e ∷ past) d ≡ false
still_not_called def (by.Cpu c (cpus.Begin x)) past due k a d within was = not_called def c x past due k a d within was
still_not_called def (by.Cpu c (cpus.Return answer x served)) past due k a d within was = and_right (not (same_dev d x)) (is_called past d) was
still_not_called def e past due k a d within was = was

same_called : (a : Actor) (call : CallEntry) (past : List Entry) (d : DevNo) → is_called (made_by a call ∷ past) d ≡ is_called past d
same_called (actors.Cpu c) call past d = refl
same_called (actors.Thread x) call past d = refl
same_called (actors.Driver r) call past d = refl

clear_now : (def : LineDef) (a : Actor) (e : Entry) (past : List Entry) (d : DevNo) (call : CallEntry) → KeepsRuns def past → made_by a call ≡ e
    → FreeStep def d 1 past call → is_called (e ∷ past) d ≡ false
clear_now def a e past d call runs made (clears_it one no_flow same) =
    sym (ap (λ (x : Entry). is_called (x ∷ past) d) made) ∙ same_called a call past d ∙ nothing_called def past runs no_flow d
clear_now def a e past d call runs made (unlinks_it none free same) = cc
clear_now def a e past d call runs made (frees_it some not_one same) = cc

clear_more : (def : LineDef) (e : Entry) (past : List Entry) → IsDue def e past → KeepsRuns def past
    → KeepsFrees def past → (a : Actor) (d : DevNo) → due_of_actor def a (e ∷ past) ≡ Some (calls.Free d, 2)
    → is_called (e ∷ past) d ≡ false
clear_more def e past due runs k a d h = by_turn (within def a e past (calls.Free d) 1 (turn def a e past due runs) h)
  where
    by_turn : Within def a e past (calls.Free d) 1 → is_called (e ∷ past) d ≡ false
    by_turn (earlier other before) = still_not_called def e past due k a d (k.within a d 1 before) (k.past_clear a d before)
    by_turn (by_this mine before more) =
        let s = free_step def a e past d 1 due mine before in
        clear_now def a e past d s.0 runs s.2 (free_row def d 1 past s.0 s.1)

clears_flow : (def : LineDef) (b : Actor) (call : CallEntry) (past : List Entry) → IsDue def (made_by b call) past
    → clears call ≡ true → has_flow def past ≡ false
clears_flow def b called.HardClear past due h = hard_clear_due def b past due
clears_flow def b call past due h = cc

-- the device of a free whose hard clear is there is the one that is being freed
cleared_freeing : (def : LineDef) (past : List Entry) → KeepsFrees def past → (d : DevNo) → is_cleared past d ≡ true
    → (a : Actor) × (freeing past ≡ Some (a, d))
cleared_freeing def past k d h =
    let o = clearer past d h in
    let f = k.one_maker o.maker o.dev o.stands_there in
    (o.maker, f ∙ this_free o.maker o.maker d o.dev refl (dev_from_same d o.dev o.passes))

cleared_by : (def : LineDef) (e : Entry) (past : List Entry) → IsDue def e past → KeepsFrees def past → (d : DevNo) → is_hard_clear e ≡ false
    → is_cleared (e ∷ past) d ≡ true → is_called (e ∷ past) d ≡ false
cleared_by def e past due k d no_clear h =
    let before = cleared_before d e past no_clear h in
    let f = cleared_freeing def past k d before in
    still_not_called def e past due k f.0 d f.1 (k.cleared d before)

call_cleared : (def : LineDef) (b : Actor) (call : CallEntry) (e : Entry) (past : List Entry) (x : Bool) → clears call ≡ x → made_by b call ≡ e
    → is_hard_clear e ≡ clears call → IsDue def e past → KeepsRuns def past → KeepsFrees def past → (d : DevNo) → is_cleared (e ∷ past) d ≡ true
    → is_called (e ∷ past) d ≡ false
call_cleared def b call e past false is made same due runs k d h = cleared_by def e past due k d (same ∙ is) h
call_cleared def b call e past true is made same due runs k d h =
    sym (ap (λ (x : Entry). is_called (x ∷ past) d) made) ∙ same_called b call past d
    ∙ nothing_called def past runs (clears_flow def b call past (subst (λ (x : Entry). IsDue def x past) (sym made) due) is) d

cleared_more : (def : LineDef) (e : Entry) (past : List Entry) → IsDue def e past → KeepsRuns def past
    → KeepsFrees def past → (d : DevNo) → is_cleared (e ∷ past) d ≡ true → is_called (e ∷ past) d ≡ false
cleared_more def (by.CpuCall c call) past due runs k d h
    = call_cleared def (actors.Cpu c) call (by.CpuCall c call) past (clears call) refl refl refl due runs k d h
cleared_more def (by.ThreadCall x call) past due runs k d h =
    call_cleared def (actors.Thread x) call (by.ThreadCall x call) past (clears call) refl refl refl due runs k d h
cleared_more def (by.DriverCall s call) past due runs k d h =
    call_cleared def (actors.Driver s) call (by.DriverCall s call) past (clears call) refl refl refl due runs k d h
cleared_more def e past due runs k d h = cleared_by def e past due k d refl h

pub frees_more : (def : LineDef) (e : Entry) (past : List Entry) → IsDue def e past → KeepsRuns def past → KeepsFrees def past → KeepsFrees def (e ∷ past)
frees_more def e past due runs k =
    record {
      one_maker = maker_more def e past due k;
      one_device = device_more def e past due k;
      within = within_more def e past due runs k;
      unlinked = unlinked_more def e past due k;
      past_clear = clear_more def e past due runs k;
      cleared = cleared_more def e past due runs k;
    }

nobody_within : (def : LineDef) (a : Actor) (c : Call) (n : ℕ) → due_of_actor def a [] ≡ Some (c, suc n) → ⊥
nobody_within def (actors.Driver r) c n h = let zero = fresh (calls_of def (actors.Driver r) []) c (suc n) h in omega (arith, zero)
nobody_within def (actors.Thread d) c n h = cc
nobody_within def (actors.Cpu d) c n h = cc

pub no_frees : (def : LineDef) → KeepsFrees def []
no_frees def =
    record {
      one_maker = λ a d h. cc;
      one_device = λ d h. cc;
      within = λ a d n h. absurd (nobody_within def a (calls.Free d) n h);
      unlinked = λ a d h. cc;
      past_clear = λ a d h. absurd (nobody_within def a (calls.Free d) 1 h);
      cleared = λ d h. cc;
    }
