-- Each entry keeps: a device that is neither linked nor being freed is at rest, and what this
-- needs.
use Rattle.std.proofs.Common.{◌≡◌, ℕ, ◌⊎◌, inl, inr, Bool, true, false, not, ◌||◌, ◌&&◌, cond, Some, List, [], ◌∷◌, refl, sym, ap, ◌∙◌, subst, arith}
use Rattle.std.proofs.lemmas.Bool.{and_parts, and_from, and_left, and_right, or_cases, or_left, or_right, or_from}
use Rattle.std.proofs.lemmas.Bool.{or_parts, false_from_ne_true, true_from_ne_false, not-true}
use Rattle.std.specs.List.{list_any}
use Rattle.irq_base.specs.declared.numbers.DevNo.{DevNo}
use Rattle.irq_base.specs.declared.numbers.DriverNo.{DriverNo}
use Rattle.irq_base.specs.declared.calls.Call.TheVariants as calls
use Rattle.irq_base.specs.declared.calls.Flags.{Flags}
use Rattle.irq_base.specs.declared.lines.LineDef.{LineDef}
use Rattle.irq_base.specs.declared.entries.Entry.{Entry}
use Rattle.irq_base.specs.declared.entries.Entry.TheVariants as by
use Rattle.irq_base.specs.declared.entries.CpuEntry.TheVariants as cpus
use Rattle.irq_base.specs.declared.entries.ThreadEntry.TheVariants as threads
use Rattle.irq_base.specs.declared.entries.DriverEntry.TheVariants as drivers
use Rattle.irq_base.specs.declared.entries.Actor.{Actor}
use Rattle.irq_base.specs.declared.entries.Actor.TheVariants as actors
use Rattle.irq_base.specs.declared.entries.CallEntry.{CallEntry}
use Rattle.irq_base.specs.declared.entries.CallEntry.TheVariants as called
use Rattle.irq_base.specs.declared.entries.Errno.TheVariants as errors
use Rattle.irq_base.specs.declared.entries.Opened.{Opened}
use Rattle.irq_base.specs.declared.entries.LinkAnswer.TheVariants as links
use Rattle.irq_base.specs.declared.entries.UnlinkAnswer.TheVariants as unlinks
use Rattle.irq_model.specs.Places.{stands, since}
use Rattle.irq_model.specs.Kinds.{same_dev, links_dev, is_freed, is_thread_begin, is_thread_return, is_finish, is_wake, wakes, is_cleared_finish}
use Rattle.irq_base.specs.Handlers.{has_thread}
use Rattle.irq_model.specs.Lines.{is_device, kind_of}
use Rattle.irq_model.specs.Links.{linked, is_linked, is_oneshot, linking_flags}
use Rattle.irq_model.specs.Threads.{is_woken, is_running, is_unfinished}
use Rattle.irq_model.specs.Due.{entries_by, due_call, holds_mutex}
use Rattle.irq_model.specs.Kinds.{made_by}
use Rattle.irq_model.specs.Next.{flags_differ, is_mismatch, same_flag}
use Rattle.irq_model.specs.Reason.{is_called, is_being_freed, is_finishing}
use Rattle.irq_model.specs.Legal.{IsDue}
use Rattle.irq_model.specs.Valid.{IsValid, names_one_of}
use Rattle.irq_model.proofs.Same.{dev_from_same}
use Rattle.irq_laws.specs.Actors.{by_someone}
use Rattle.irq_laws.specs.Kept.{Kept, KeepsRest}
use Rattle.irq_laws.proofs.Lists.{both_ways}
use Rattle.irq_laws.proofs.Requested.{due_passes, was_linked, of_linked}
use Rattle.irq_laws.proofs.FreesKept.{freed_is, begun_is_linked, not_freeing}
use Rattle.irq_laws.proofs.ImpliesFlow.{begin_due, return_due}
use Rattle.irq_laws.proofs.ImpliesThread.{thread_begin_due, finish_due, done_due, has_finished}
use Rattle.irq_laws.proofs.ImpliesDriver.{request_due, unlink_due, freed_due, wake_due}

-- ---- a test with false beside it

pub no_part : (s : Bool) → (s && false) ≡ false
no_part true = refl
no_part false = refl

not_here : (s b : Bool) → ((s && false) || b) ≡ b
not_here true b = refl
not_here false b = refl

-- ---- a device that was ever linked is a device of the line

requested_named : (def : LineDef) (r : DriverNo) (x : DevNo) (flags : Flags) (n : ℕ) (past : List Entry) → IsValid def
    → due_call def r past ≡ Some (calls.Request x flags, n) → list_any (is_device x) def.devices ≡ true
requested_named def r x flags n past valid call = due_passes (names_one_of def.devices) r def.calls (entries_by r past)
    (calls.Request x flags) n valid.calls call

named_more : (def : LineDef) (e : Entry) (past : List Entry) → IsValid def → IsDue def e past → Kept def past
    → (d : DevNo) → list_any (links_dev d) (e ∷ past) ≡ true → list_any (is_device d) def.devices ≡ true
named_more def (by.Driver r (drivers.Request flags links.Linked opened x)) past valid due k d h = by_case (or_cases (same_dev d x && true) _ h)
  where
    by_case : ((same_dev d x && true) ≡ true) ⊎ (list_any (links_dev d) past ≡ true) → list_any (is_device d) def.devices ≡ true
    by_case (inl now) =
        let u = request_due def r x flags links.Linked opened past due in
        subst (λ (y : DevNo). list_any (is_device y) def.devices ≡ true)
        (sym (dev_from_same d x (and_parts (same_dev d x) true now).0))
        (requested_named def r x flags u.count past valid u.call)
    by_case (inr was) = k.rest.named d was
named_more def (by.Driver r (drivers.Request flags (links.Refused error) opened x)) past valid due k d h
    = k.rest.named d (sym (not_here (same_dev d x) (list_any (links_dev d) past)) ∙ h)
named_more def e past valid due k d h = k.rest.named d h

-- ---- after its free

-- only a linked device is unlinked
there_when : (b last v : Bool) → unlinks.Unlinked last ≡ cond b (unlinks.Unlinked v) unlinks.NotThere → b ≡ true
there_when true last v h = refl
there_when false last v h = cc

pub unlinked_was_linked : (def : LineDef) (a : Actor) (x : DevNo) (last : Bool) (past : List Entry)
    → IsDue def (made_by a (called.Unlink (unlinks.Unlinked last) x)) past → is_linked past x ≡ true
unlinked_was_linked def a x last past due = there_when (is_linked past x) last _ (unlink_due def a x (unlinks.Unlinked last) past due).answer_is

-- only a linked device's thread is woken by a call
woken_when : (l h w : Bool) → true ≡ (l && (h && not w)) → l ≡ true
woken_when l h w is = grind arith

pub woken_was_linked : (def : LineDef) (a : Actor) (x : DevNo) (past : List Entry) → IsDue def (made_by a (called.Wake true x)) past → is_linked past x ≡ true
woken_was_linked def a x past due = woken_when (is_linked past x) (has_thread (kind_of def x)) (is_woken past x) (wake_due def a true x past due)

freed_named_by : (def : LineDef) (a : Actor) (call : CallEntry) (past : List Entry) → IsDue def (made_by a call) past → Kept def past → (d : DevNo)
    → is_being_freed (by_someone call ∷ past) d ≡ true → list_any (is_device d) def.devices ≡ true
freed_named_by def a (called.Unlink (unlinks.Unlinked last) x) past due k d h = by_case (or_cases (same_dev d x && true) _ h)
  where
    by_case : ((same_dev d x && true) ≡ true) ⊎ (is_being_freed past d ≡ true) → list_any (is_device d) def.devices ≡ true
    by_case (inl now) =
        let there = subst (λ (y : DevNo). is_linked past y ≡ true)
        (sym (dev_from_same d x (and_parts (same_dev d x) true now).0)) (unlinked_was_linked def a x last past due)
        in
        k.rest.named d (was_linked past d there)
    by_case (inr was) = k.rest.freed_named d was
freed_named_by def a (called.Unlink unlinks.NotThere x) past due k d h
    = k.rest.freed_named d (sym (not_here (same_dev d x) (is_being_freed past d)) ∙ h)
freed_named_by def a (called.Freed x) past due k d h = k.rest.freed_named d (and_parts (not (same_dev d x)) _ h).1
freed_named_by def a call past due k d h = k.rest.freed_named d h

freed_named_more : (def : LineDef) (e : Entry) (past : List Entry) → IsDue def e past → Kept def past → (d : DevNo)
    → is_being_freed (e ∷ past) d ≡ true → list_any (is_device d) def.devices ≡ true
freed_named_more def (by.CpuCall c call) past due k d h = freed_named_by def (actors.Cpu c) call past due k d h
freed_named_more def (by.ThreadCall x call) past due k d h = freed_named_by def (actors.Thread x) call past due k d h
freed_named_more def (by.DriverCall s call) past due k d h = freed_named_by def (actors.Driver s) call past due k d h
freed_named_more def e past due k d h = k.rest.freed_named d h

-- a device that is linked or being freed is a device of the line
pub there_named : (def : LineDef) (past : List Entry) → Kept def past → (d : DevNo)
    → (is_linked past d || is_being_freed past d) ≡ true → list_any (is_device d) def.devices ≡ true
there_named def past k d h = by_case (or_cases (is_linked past d) (is_being_freed past d) h)
  where
    by_case : (is_linked past d ≡ true) ⊎ (is_being_freed past d ≡ true) → list_any (is_device d) def.devices ≡ true
    by_case (inl linked) = k.rest.named d (was_linked past d linked)
    by_case (inr freed) = k.rest.freed_named d freed

-- d isn't x, since something holds of x alone
apart : (d x : DevNo) (p : DevNo → Bool) → p x ≡ true → p d ≡ false → same_dev d x ≡ false
apart d x p there absent = false_from_ne_true (same_dev d x)
    (λ same. both_ways (p d) (subst (λ (y : DevNo). p y ≡ true) (sym (dev_from_same d x same)) there) absent)

freed_now : (s f : Bool) → s ≡ true → (not s && f) ≡ false
freed_now s f h = grind arith

after_by : (def : LineDef) (a : Actor) (call : CallEntry) (past : List Entry) → IsDue def (made_by a call) past → Kept def past → (d : DevNo)
    → stands (is_freed d) (links_dev d) (by_someone call ∷ past) ≡ true
    → (is_linked (by_someone call ∷ past) d ≡ false) × (is_being_freed (by_someone call ∷ past) d ≡ false)
after_by def a (called.Freed x) past due k d h = by_case (or_cases (same_dev d x) _ h)
  where
    by_case : (same_dev d x ≡ true) ⊎ (stands (is_freed d) (links_dev d) past ≡ true)
        → (is_linked past d ≡ false) × ((not (same_dev d x) && is_being_freed past d) ≡ false)
    by_case (inl now) = (
      subst (λ (y : DevNo). is_linked past y ≡ false) (sym (dev_from_same d x now))
          (k.frees.unlinked a x (freed_is def a x past due k.frees).1),
      freed_now (same_dev d x)
          (is_being_freed past d) now,
    )
    by_case (inr was) = let r = k.rest.after_free d was in (r.0, and_right (not (same_dev d x)) _ r.1)
after_by def a (called.Unlink (unlinks.Unlinked last) x) past due k d h =
    let r = k.rest.after_free d h in
    let other = apart d x (is_linked past) (unlinked_was_linked def a x last past due) r.0 in
    (and_right (not (same_dev d x && true)) _ r.0, or_from _ _ (and_left (same_dev d x) true other) r.1)
after_by def a (called.Unlink unlinks.NotThere x) past due k d h =
    let r = k.rest.after_free d h in (and_right (not (same_dev d x && false)) _ r.0, or_from _ _ (no_part (same_dev d x)) r.1)
after_by def a call past due k d h = k.rest.after_free d h

after_more : (def : LineDef) (e : Entry) (past : List Entry) → IsDue def e past → Kept def past → (d : DevNo)
    → stands (is_freed d) (links_dev d) (e ∷ past) ≡ true
    → (is_linked (e ∷ past) d ≡ false) × (is_being_freed (e ∷ past) d ≡ false)
after_more def (by.CpuCall c call) past due k d h = after_by def (actors.Cpu c) call past due k d h
after_more def (by.ThreadCall x call) past due k d h = after_by def (actors.Thread x) call past due k d h
after_more def (by.DriverCall s call) past due k d h = after_by def (actors.Driver s) call past due k d h
after_more def (by.Driver s (drivers.Request flags links.Linked opened x)) past due k d h =
    let p = and_parts (not (same_dev d x && true)) _ h in
    let r = k.rest.after_free d p.1 in
    (or_from _ _ (not-true (same_dev d x && true) p.0) r.0, r.1)
after_more def (by.Driver s (drivers.Request flags (links.Refused error) opened x)) past due k d h =
    let p = and_parts (not (same_dev d x && false)) _ h in
    let r = k.rest.after_free d p.1 in
    (or_from _ _ (no_part (same_dev d x)) r.0, r.1)
after_more def e past due k d h = k.rest.after_free d h

-- ---- at rest

rest_parts : (w r u c : Bool) → (w || (r || (u || c))) ≡ false → (w ≡ false) × (r ≡ false) × (u ≡ false) × (c ≡ false)
rest_parts false false false false h = (refl, refl, refl, refl)
rest_parts true r u c h = cc
rest_parts false true u c h = cc
rest_parts false false true c h = cc
rest_parts false false false true h = cc

pub parts_of : (past : List Entry) (d : DevNo) → (is_woken past d || (is_running past d || (is_unfinished past d || is_called past d))) ≡ false
    → (is_woken past d ≡ false) × (is_running past d ≡ false) × (is_unfinished past d ≡ false) × (is_called past d ≡ false)
parts_of past d h = rest_parts (is_woken past d) (is_running past d) (is_unfinished past d) (is_called past d) h

all_rest : (w r u c : Bool) → w ≡ false → r ≡ false → u ≡ false → c ≡ false → (w || (r || (u || c))) ≡ false
all_rest w r u c a b x y = grind arith

-- a freed device is at rest
freed_rest : (def : LineDef) (a : Actor) (x : DevNo) (past : List Entry) → IsDue def (made_by a (called.Freed x)) past
    → Kept def past → (is_woken past x || (is_running past x || (is_unfinished past x || is_called past x))) ≡ false
freed_rest def a x past due k =
    let u = freed_due def a x past due in
    let idle : (is_woken past x || is_finishing past x) ≡ false = or_from _ _ u.not_woken (and_left (is_running past x) _ u.not_running) in
    let finished : is_unfinished past x ≡ false = false_from_ne_true (is_unfinished past x)
    (λ h. both_ways (is_woken past x || is_finishing past x) (k.rest.at_work x h) idle) in
    all_rest (is_woken past x) (is_running past x) (is_unfinished past x) (is_called past x) u.not_woken u.not_running
    finished (k.frees.past_clear a x (freed_is def a x past due k.frees).0)

rest_by : (def : LineDef) (a : Actor) (call : CallEntry) (past : List Entry) → IsDue def (made_by a call) past → Kept def past → (d : DevNo)
    → is_linked (by_someone call ∷ past) d ≡ false → is_being_freed (by_someone call ∷ past) d ≡ false
    → (is_woken (by_someone call ∷ past) d || (is_running past d || (is_unfinished (by_someone call ∷ past) d || is_called past d))) ≡ false
rest_by def a (called.Unlink (unlinks.Unlinked last) x) past due k d l f =
    let p = or_parts (same_dev d x && true) (is_being_freed past d) f in
    k.rest.at_rest d (still_linked (same_dev d x) (is_linked past d) p.0 l) p.1
  where
    still_linked : (s l : Bool) → (s && true) ≡ false → (not (s && true) && l) ≡ false → l ≡ false
    still_linked s l a b = grind arith
rest_by def a (called.Unlink unlinks.NotThere x) past due k d l f
    = k.rest.at_rest d (none_changed (same_dev d x) (is_linked past d) l)
    (or_parts (same_dev d x && false) (is_being_freed past d) f).1
  where
    none_changed : (s l : Bool) → (not (s && false) && l) ≡ false → l ≡ false
    none_changed s l b = grind arith
rest_by def a (called.Freed x) past due k d l f = by_test (same_dev d x) refl
  where
    by_test : (b : Bool) → same_dev d x ≡ b → (is_woken past d || (is_running past d || (is_unfinished past d || is_called past d))) ≡ false
    by_test true same = subst (λ (y : DevNo). (is_woken past y ||
        (is_running past y || (is_unfinished past y || is_called past y))) ≡ false) (sym (dev_from_same d x same))
        (freed_rest def a x past due k)
    by_test false other = k.rest.at_rest d l (ap (λ (b : Bool). not b && is_being_freed past d) (sym other) ∙ f)
rest_by def a (called.Wake true x) past due k d l f =
    let r = k.rest.at_rest d l f in
    let other = apart d x (is_linked past) (woken_was_linked def a x past due) l in
    rw other r
rest_by def a call past due k d l f = k.rest.at_rest d l f

rest_more : (def : LineDef) (e : Entry) (past : List Entry) → IsDue def e past → Kept def past → (d : DevNo)
    → is_linked (e ∷ past) d ≡ false → is_being_freed (e ∷ past) d ≡ false
    → (is_woken (e ∷ past) d || (is_running (e ∷ past) d || (is_unfinished (e ∷ past) d || is_called (e ∷ past) d))) ≡ false
rest_more def (by.Cpu c (cpus.Begin x)) past due k d l f =
    let r = k.rest.at_rest d l f in
    let other = apart d x (is_linked past) (begun_is_linked def past x (begin_due def c x past due).first).0 l in
    rw other r
rest_more def (by.Cpu c (cpus.Return answer x served)) past due k d l f =
    let r = k.rest.at_rest d l f in
    let p = parts_of past d r in
    let there = (k.runs.working x (return_due def c x answer served past due).is_at_work).0 in
    let other = apart d x (is_called past) there p.3 in
    rw other r
rest_more def (by.Thread x threads.Begin) past due k d l f =
    let r = k.rest.at_rest d l f in
    let p = parts_of past d r in
    let other = apart d x (is_woken past) (thread_begin_due def x past due).woken p.0 in
    rw other r
rest_more def (by.Thread x (threads.Finish true unmask)) past due k d l f = k.rest.at_rest d l f
rest_more def (by.Thread x (threads.Finish false unmask)) past due k d l f =
    let r = k.rest.at_rest d l f in
    let p = parts_of past d r in
    let other = apart d x (is_running past) (finish_due def x false unmask past due).running p.1 in
    rw other r
rest_more def (by.Thread x threads.Done) past due k d l f =
    let r = k.rest.at_rest d l f in
    let p = parts_of past d r in
    let other = apart d x (is_running past) (done_due def x past due).running p.1 in
    rw other r
rest_more def (by.Driver s (drivers.Request flags links.Linked opened x)) past due k d l f =
    let p = or_parts (same_dev d x && true) (is_linked past d) l in
    rw (p.0) (k.rest.at_rest d p.1 f)
rest_more def (by.Driver s (drivers.Request flags (links.Refused error) opened x)) past due k d l f =
    let p = or_parts (same_dev d x && false) (is_linked past d) l in
    rw (p.0) (k.rest.at_rest d p.1 f)
rest_more def (by.CpuCall c call) past due k d l f = rest_by def (actors.Cpu c) call past due k d l f
rest_more def (by.ThreadCall x call) past due k d l f = rest_by def (actors.Thread x) call past due k d l f
rest_more def (by.DriverCall s call) past due k d l f = rest_by def (actors.Driver s) call past due k d l f
rest_more def e past due k d l f = k.rest.at_rest d l f

-- ---- a thread bit that stands

-- o: linked one-shot, b: woken now, s: the bit stood, w: woken, f: finishing
woken_now : (o b s w f : Bool) → (o && (b || s)) ≡ true → ((o && s) ≡ true → (w || f) ≡ true) → ((b || w) || f) ≡ true
woken_now o b s w f h k = grind arith

-- if the run's handler returned, a finish after the return is a finish of the run
finish_in_run : {A : Type 0} (b r f : A → Bool) (past : List A) → list_any r (since b past) ≡ true
    → list_any f (since r past) ≡ true → list_any f (since b past) ≡ true
finish_in_run b r f [] h g = g
finish_in_run b r f (e ∷ past) h g = by_test (b e) (r e) refl refl (λ x y. finish_in_run b r f past x y)
  where
    by_case : (f e ≡ true) ⊎ (list_any f (since r past) ≡ true) → list_any r (since b past) ≡ true
        → (list_any r (since b past) ≡ true → list_any f (since r past) ≡ true → list_any f (since b past) ≡ true)
        → (f e || list_any f (since b past)) ≡ true
    by_case (inl here) returned deeper = or_left (f e) _ here
    by_case (inr later) returned deeper = or_right (f e) _ (deeper returned later)

    by_test : (p q : Bool) → b e ≡ p → r e ≡ q → (list_any r (since b past) ≡ true → list_any f (since r past) ≡ true
        → list_any f (since b past) ≡ true) → list_any f (since b (e ∷ past)) ≡ true
    by_test true q is iq deeper = let n : list_any r (cond true [] (e ∷ since b past))
        ≡ true = ap (λ (c : Bool). list_any r (cond c [] (e ∷ since b past))) (sym is) ∙ h in cc
    by_test false true is iq deeper = let n : list_any f (cond true [] (e ∷ since r past))
        ≡ true = ap (λ (c : Bool). list_any f (cond c [] (e ∷ since r past))) (sym iq) ∙ g in cc
    by_test false false is iq deeper =
        let m : (r e || list_any r (since b past)) ≡ true = ap (λ (c : Bool). list_any r (cond c [] (e ∷ since b past))) (sym is) ∙ h in
        let n : (f e || list_any f (since r past)) ≡ true = ap (λ (c : Bool). list_any f (cond c [] (e ∷ since r past))) (sym iq) ∙ g in
        let returned : list_any r (since b past) ≡ true = ap (λ (c : Bool). c || list_any r (since b past)) (sym iq) ∙ m in
        ap (λ (c : Bool). list_any f (cond c [] (e ∷ since b past))) is ∙ by_case (or_cases (f e) (list_any f (since r past)) n) returned deeper

not_oneshot : (o f : Bool) → (o && not f) ≡ false → f ≡ false → o ≡ false
not_oneshot o f h g = grind arith

-- what is at work belongs to a device that is linked or being freed
pub running_there : (def : LineDef) (past : List Entry) → Kept def past → (x : DevNo) → is_running past x ≡ true
    → (is_linked past x || is_being_freed past x) ≡ true
running_there def past k x running =
    true_from_ne_false (is_linked past x || is_being_freed past x)
    (λ none. let p = or_parts _ _ none in both_ways (is_running past x) running
    (parts_of past x (k.rest.at_rest x p.0 p.1)).1)

pub woken_there : (def : LineDef) (past : List Entry) → Kept def past → (x : DevNo) → is_woken past x ≡ true
    → (is_linked past x || is_being_freed past x) ≡ true
woken_there def past k x woken =
    true_from_ne_false (is_linked past x || is_being_freed past x)
    (λ none. let p = or_parts _ _ none in both_ways (is_woken past x) woken
    (parts_of past x (k.rest.at_rest x p.0 p.1)).0)

pub unfinished_there : (def : LineDef) (past : List Entry) → Kept def past → (x : DevNo) → is_unfinished past x ≡ true
    → (is_linked past x || is_being_freed past x) ≡ true
unfinished_there def past k x bit =
    true_from_ne_false (is_linked past x || is_being_freed past x)
    (λ none. let p = or_parts _ _ none in both_ways (is_unfinished past x) bit
    (parts_of past x (k.rest.at_rest x p.0 p.1)).2)

pub called_there : (def : LineDef) (past : List Entry) → Kept def past → (x : DevNo) → is_called past x ≡ true
    → (is_linked past x || is_being_freed past x) ≡ true
called_there def past k x called =
    true_from_ne_false (is_linked past x || is_being_freed past x)
    (λ none. let p = or_parts _ _ none in both_ways (is_called past x) called
    (parts_of past x (k.rest.at_rest x p.0 p.1)).3)

-- a run ends with the thread's bit only if the thread was woken again
done_woken : (def : LineDef) (x : DevNo) (past : List Entry) → IsDue def (by.Thread x threads.Done) past → Kept def past
    → is_unfinished past x ≡ true → is_woken past x ≡ true
done_woken def x past due k h = by_case (or_cases (is_woken past x) (is_finishing past x) (k.rest.at_work x h))
  where
    by_case : (is_woken past x ≡ true) ⊎ (is_finishing past x ≡ true) → is_woken past x ≡ true
    by_case (inl woken) = woken
    by_case (inr finishing) =
        let u = done_due def x past due in
        let p = and_parts (is_running past x) _ finishing in
        let none = not-true (list_any (is_finish x) (since (is_thread_begin x) past)) p.1 in
        let unfinished = false_from_ne_true (has_finished past x)
        (λ g. both_ways _ (finish_in_run (is_thread_begin x) (is_thread_return x) (is_finish x) past u.returned g)
        none) in
        let plain = not_oneshot (is_oneshot past) (has_finished past x) u.all_done unfinished in
        let bit = (and_parts (linking_flags past x).oneshot _ h).0 in
        both_ways (linking_flags past x).oneshot bit (k.rest.flags x (running_there def past k x u.running) ∙ plain)

work_by : (def : LineDef) (call : CallEntry) (past : List Entry) → Kept def past → (d : DevNo)
    → is_unfinished (by_someone call ∷ past) d ≡ true → (is_woken (by_someone call ∷ past) d || is_finishing past d) ≡ true
work_by def (called.Wake woken x) past k d h =
    woken_now (linking_flags past d).oneshot (woken && same_dev d x)
    (stands (wakes d) (is_cleared_finish d) (since (links_dev d) past)) (is_woken past d) (is_finishing past d) h
    (k.rest.at_work d)
work_by def call past k d h = k.rest.at_work d h

work_more : (def : LineDef) (e : Entry) (past : List Entry) → IsDue def e past → Kept def past → (d : DevNo)
    → is_unfinished (e ∷ past) d ≡ true → (is_woken (e ∷ past) d || is_finishing (e ∷ past) d) ≡ true
work_more def (by.Cpu c (cpus.Return answer x served)) past due k d h =
    woken_now (linking_flags past d).oneshot (same_dev d x && is_wake answer)
    (stands (wakes d) (is_cleared_finish d) (since (links_dev d) past)) (is_woken past d) (is_finishing past d) h
    (k.rest.at_work d)
work_more def (by.Thread x threads.Begin) past due k d h = by_test (same_dev d x) refl
  where
    by_test : (b : Bool) → same_dev d x ≡ b → (is_woken (by.Thread x threads.Begin ∷ past) d || is_finishing (by.Thread x threads.Begin ∷ past) d) ≡ true
    by_test true same = rw same refl
    by_test false other = rw other (k.rest.at_work d h)
work_more def (by.Thread x (threads.Finish true unmask)) past due k d h = by_test (same_dev d x) refl
  where
    by_test : (b : Bool) → same_dev d x ≡ b → (is_woken (by.Thread x (threads.Finish true unmask) ∷ past) d ||
        is_finishing (by.Thread x (threads.Finish true unmask) ∷ past) d) ≡ true
    by_test true same = or_left _ _ (subst (λ (y : DevNo). is_woken past y ≡ true) (sym (dev_from_same d x same))
        (sym (finish_due def x true unmask past due).kept_is))
    by_test false other = rw other (k.rest.at_work d h)
work_more def (by.Thread x (threads.Finish false unmask)) past due k d h =
    let p = and_parts (linking_flags past d).oneshot (not (same_dev d x) && stands (wakes d) (is_cleared_finish d) (since (links_dev d) past)) h in
    let q = and_parts (not (same_dev d x)) (stands (wakes d) (is_cleared_finish d) (since (links_dev d) past)) p.1 in
    rw (not-true (same_dev d x) q.0) (k.rest.at_work d (and_from _ _ p.0 q.1))
work_more def (by.Thread x threads.Done) past due k d h = by_test (same_dev d x) refl
  where
    by_test : (b : Bool) → same_dev d x ≡ b → (is_woken (by.Thread x threads.Done ∷ past) d || is_finishing (by.Thread x threads.Done ∷ past) d) ≡ true
    by_test true same =
        let equal = dev_from_same d x same in
        let bit = subst (λ (y : DevNo). is_unfinished past y ≡ true) equal h in
        or_left _ _ (subst (λ (y : DevNo). is_woken past y ≡ true) (sym equal) (done_woken def x past due k bit))
    by_test false other = rw other (k.rest.at_work d h)
work_more def (by.Driver s (drivers.Request flags links.Linked opened x)) past due k d h = by_test (same_dev d x) refl
  where
    by_test : (b : Bool) → same_dev d x ≡ b → (is_woken past d || is_finishing past d) ≡ true
    by_test true same = let n = rw same at h in absurd ((let m = and_parts _ false n in let f : ⊥ = cc (m.1) in f))
    by_test false other = k.rest.at_work d (rw other at h)
work_more def (by.Driver s (drivers.Request flags (links.Refused error) opened x)) past due k d h = k.rest.at_work d (rw (no_part (same_dev d x)) at h)
work_more def (by.CpuCall c call) past due k d h = work_by def call past k d h
work_more def (by.ThreadCall x call) past due k d h = work_by def call past k d h
work_more def (by.DriverCall s call) past due k d h = work_by def call past k d h
work_more def e past due k d h = k.rest.at_work d h

-- ---- the flags

agree : (s n o : Bool) (new old : Bool) → (not s || (not o || not (same_flag new old))) ≡ false → old ≡ new
agree s n o new old h = grind arith

-- a request that is linked goes with the linked actions
not_mismatch : (b1 m b3 b4 : Bool) → links.Linked ≡ cond b1 (links.Refused errors.Inval)
    (cond m (links.Refused errors.Busy) (cond b3 (links.Refused errors.Busy)
    (cond b4 (links.Refused errors.Inval) links.Linked))) → m ≡ false
not_mismatch true m b3 b4 h = cc
not_mismatch false true b3 b4 h = cc
not_mismatch false false b3 b4 h = refl

pub goes_with : (def : LineDef) (s : DriverNo) (x : DevNo) (flags : Flags) (opened : Opened) (past : List Entry)
    → IsDue def (by.Driver s (drivers.Request flags links.Linked opened x)) past → (d : DevNo) → is_linked past d ≡ true
    → (linking_flags past d).oneshot ≡ flags.oneshot
goes_with def s x flags opened past due d there =
    let u = request_due def s x flags links.Linked opened past due in
    let fits = not_mismatch (flags.shared && flags.noauto) (is_mismatch flags past) _ _ u.answer_is in
    let same = false_from_ne_true (flags_differ flags (linking_flags past d))
    (λ differs. both_ways (is_mismatch flags past)
    (of_linked (λ y. flags_differ flags (linking_flags past y)) past d there differs) fits) in
    agree flags.shared flags.shared (linking_flags past d).shared flags.oneshot (linking_flags past d).oneshot same

-- nothing is being freed while the mutex is free
pub none_freed : (def : LineDef) (past : List Entry) → Kept def past → holds_mutex past ≡ false → (d : DevNo) → is_being_freed past d ≡ false
none_freed def past k free d = false_from_ne_true (is_being_freed past d) (λ h. let f = k.frees.one_device d h in not_freeing past _ free f.1)

flags_by : (def : LineDef) (a : Actor) (call : CallEntry) (past : List Entry) → IsDue def (made_by a call) past → Kept def past → (d : DevNo)
    → (is_linked (by_someone call ∷ past) d || is_being_freed (by_someone call ∷ past) d) ≡ true
    → (linking_flags past d).oneshot ≡ is_oneshot past
flags_by def a (called.Unlink (unlinks.Unlinked last) x) past due k d h = by_test (same_dev d x) refl
  where
    by_test : (b : Bool) → same_dev d x ≡ b → (linking_flags past d).oneshot ≡ is_oneshot past
    by_test true same = k.rest.flags d (or_left _ _ (subst (λ (y : DevNo). is_linked past y ≡ true)
        (sym (dev_from_same d x same)) (unlinked_was_linked def a x last past due)))
    by_test false other = k.rest.flags d (rw other at h)
flags_by def a (called.Unlink unlinks.NotThere x) past due k d h = k.rest.flags d (rw (no_part (same_dev d x)) at h)
flags_by def a (called.Freed x) past due k d h = k.rest.flags d (more (is_linked past d) (not (same_dev d x)) (is_being_freed past d) h)
  where
    more : (l s f : Bool) → (l || (s && f)) ≡ true → (l || f) ≡ true
    more l s f h = grind arith
flags_by def a call past due k d h = k.rest.flags d h

flags_more : (def : LineDef) (e : Entry) (past : List Entry) → IsDue def e past → Kept def past → (d : DevNo)
    → (is_linked (e ∷ past) d || is_being_freed (e ∷ past) d) ≡ true
    → (linking_flags (e ∷ past) d).oneshot ≡ is_oneshot (e ∷ past)
flags_more def (by.Driver s (drivers.Request flags links.Linked opened x)) past due k d h = by_test (same_dev d x) refl
  where
    was_there : (l f : Bool) → f ≡ false → (l || f) ≡ true → l ≡ true
    was_there l f a b = grind arith

    by_test : (b : Bool) → same_dev d x ≡ b → (linking_flags (by.Driver s (drivers.Request flags links.Linked opened x) ∷ past) d).oneshot ≡ flags.oneshot
    by_test true same = rw same refl
    by_test false other =
        let none = none_freed def past k (request_due def s x flags links.Linked opened past due).no_mutex d in
        let there = was_there (is_linked past d) (is_being_freed past d) none (rw other at h) in
        rw other (goes_with def s x flags opened past due d there)
flags_more def (by.Driver s (drivers.Request flags (links.Refused error) opened x)) past due k d h
    = rw (no_part (same_dev d x)) (k.rest.flags d (rw (no_part (same_dev d x)) at h))
flags_more def (by.CpuCall c call) past due k d h = flags_by def (actors.Cpu c) call past due k d h
flags_more def (by.ThreadCall x call) past due k d h = flags_by def (actors.Thread x) call past due k d h
flags_more def (by.DriverCall s call) past due k d h = flags_by def (actors.Driver s) call past due k d h
flags_more def e past due k d h = k.rest.flags d h

pub rest_kept : (def : LineDef) (e : Entry) (past : List Entry) → IsValid def → IsDue def e past → Kept def past → KeepsRest def (e ∷ past)
rest_kept def e past valid due k =
    record {
      named = named_more def e past valid due k;
      freed_named = freed_named_more def e past due k;
      after_free = after_more def e past due k;
      at_rest = rest_more def e past due k;
      at_work = work_more def e past due k;
      flags = flags_more def e past due k;
    }

pub no_rest : (def : LineDef) → KeepsRest def []
no_rest def = record { named = λ d h. cc; freed_named = λ d h. cc; after_free = λ d h. cc; at_rest = λ d l f. refl; at_work = λ d h. cc; flags = λ d h. cc }
