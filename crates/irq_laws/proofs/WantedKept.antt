-- Each entry keeps that a linked device is wanted (`Wanted`), so that no request of it is due.
use Rattle.std.proofs.Common.{◌≡◌, ℕ, zero, suc, ◌⊎◌, inl, inr, Bool, true, false, not, ◌||◌, ◌&&◌, cond, Some, List, []}
use Rattle.std.proofs.Common.{◌∷◌, ◌++◌, filter, reverse, length, refl, sym, ap, ◌∙◌, subst, arith, length-append}
use Rattle.std.proofs.lemmas.Bool.{and_parts, and_from, or_cases, or_left, or_right, ltb-true, eqb-false, false_from_ne_true}
use Rattle.irq_base.specs.declared.numbers.DevNo.{DevNo}
use Rattle.irq_base.specs.declared.numbers.DriverNo.{DriverNo}
use Rattle.irq_base.specs.declared.calls.Call.{Call}
use Rattle.irq_base.specs.declared.calls.Call.TheVariants as calls
use Rattle.irq_base.specs.declared.calls.Flags.{Flags}
use Rattle.irq_base.specs.declared.lines.LineDef.{LineDef}
use Rattle.irq_base.specs.declared.entries.Actor.{Actor}
use Rattle.irq_base.specs.declared.entries.Actor.TheVariants as actors
use Rattle.irq_base.specs.declared.entries.Entry.{Entry}
use Rattle.irq_base.specs.declared.entries.Entry.TheVariants as by
use Rattle.irq_base.specs.declared.entries.DriverEntry.TheVariants as drivers
use Rattle.irq_base.specs.declared.entries.CallEntry.{CallEntry}
use Rattle.irq_base.specs.declared.entries.CallEntry.TheVariants as called
use Rattle.irq_base.specs.declared.entries.UnlinkAnswer.{UnlinkAnswer}
use Rattle.irq_base.specs.declared.entries.LinkAnswer.TheVariants as links
use Rattle.irq_base.specs.declared.entries.UnlinkAnswer.TheVariants as unlinks
use Rattle.irq_model.specs.Places.{stands}
use Rattle.irq_model.specs.Kinds.{same_dev, same_driver, is_by_driver, is_unlinked_answer}
use Rattle.irq_model.specs.Links.{is_linked}
use Rattle.irq_model.specs.Due.{calls_by, entries_by, due_call}
use Rattle.irq_model.specs.Next.{next_step, unlink_answer}
use Rattle.irq_model.specs.Legal.{IsDue}
use Rattle.irq_model.specs.Valid.{IsValid, requests_dev, frees_dev}
use Rattle.irq_model.proofs.Same.{same_self, same_self_driver, dev_from_same, driver_from_same}
use Rattle.irq_laws.specs.Actors.{by_someone}
use Rattle.irq_laws.specs.Kept.{KeepsFrees, Wanted, LinkedIsWanted, complete, complete_by, freeing}
use Rattle.irq_laws.proofs.Lists.{both_ways}
use Rattle.irq_model.proofs.DueSteps.{entries_more}
use Rattle.irq_laws.proofs.Scripted.{Completes, completes, unrequested, place_of}
use Rattle.irq_laws.proofs.FreesKept.{FreeStep, unlinks_it, clears_it, frees_it, free_row}
use Rattle.irq_laws.proofs.ImpliesDriver.{ask_due, request_due, affinity_due, moment_due, call_due}

-- ---- the complete calls after one more entry

other_complete : (def : LineDef) (r : DriverNo) (e : Entry) (past : List Entry) → is_by_driver r e ≡ false
    → complete_by def r (e ∷ past) ≡ complete_by def r past
other_complete def r e past other = ap (λ (b : Bool). complete [] (calls_by r def.calls)
    (reverse (cond b (e ∷ filter (is_by_driver r) past) (filter (is_by_driver r) past)))) other

own_complete : (def : LineDef) (r : DriverNo) (e : Entry) (past : List Entry) (c : Call) (n : ℕ)
    → is_by_driver r e ≡ true → due_call def r past ≡ Some (c, n)
    → Completes c e (complete_by def r past) (complete_by def r (e ∷ past))
own_complete def r e past c n mine was =
    subst (λ (es : List Entry). Completes c e (complete_by def r past) (complete [] (calls_by r def.calls) es))
    (sym (entries_more r e past mine)) (completes [] (calls_by r def.calls) (entries_by r past) e c n was)

-- a device stays wanted by an entry of a call that is no free of it
stays_wanted : (def : LineDef) (r s : DriverNo) (e : Entry) (past : List Entry) (c : Call) (n : ℕ) (d : DevNo)
    → is_by_driver r e ≡ same_driver r s → due_call def s past ≡ Some (c, n) → frees_dev d c ≡ false
    → stands (requests_dev d) (frees_dev d) (complete_by def r past) ≡ true → stands (requests_dev d) (frees_dev d) (complete_by def r (e ∷ past)) ≡ true
stays_wanted def r s e past c n d by was other h = by_driver (same_driver r s) refl
  where
    by_case : Completes c e (complete_by def r past) (complete_by def r (e ∷ past))
        → stands (requests_dev d) (frees_dev d) (complete_by def r (e ∷ past)) ≡ true
    by_case (inl same) = ap (λ (xs : List Call). stands (requests_dev d) (frees_dev d) xs) same.0 ∙ h
    by_case (inr more) = ap (λ (xs : List Call). stands (requests_dev d) (frees_dev d) xs) more ∙ or_right (requests_dev d c) _ (and_from _ _ (ap not other) h)

    by_driver : (b : Bool) → same_driver r s ≡ b → stands (requests_dev d) (frees_dev d) (complete_by def r (e ∷ past)) ≡ true
    by_driver true same = by_case (own_complete def r e past c n (by ∙ same)
        (subst (λ (t : DriverNo). due_call def t past ≡ Some (c, n)) (sym (driver_from_same r s same)) was))
    by_driver false differs = ap (λ (xs : List Call). stands (requests_dev d) (frees_dev d) xs) (other_complete def r e past (by ∙ differs)) ∙ h

keeps_wanted : (def : LineDef) (s : DriverNo) (e : Entry) (past : List Entry) (c : Call) (n : ℕ) (d : DevNo)
    → ((r : DriverNo) → is_by_driver r e ≡ same_driver r s) → due_call def s past ≡ Some (c, n) → frees_dev d c ≡ false
    → Wanted def past d
    → Wanted def (e ∷ past) d
keeps_wanted def s e past c n d by was other w =
    record {
      driver = w.driver;
      place = w.place;
      call = w.call;
      there = w.there;
      own = w.own;
      requests
          = w.requests;
      wanted = stays_wanted def w.driver s e past c n d (by w.driver) was other w.wanted;
    }

-- a call that is complete with its first entry
one_entry : (def : LineDef) (s : DriverNo) (x : DevNo) (flags : Flags) (e : Entry) (past : List Entry) (n : ℕ)
    (d : DevNo) → is_by_driver s e ≡ true → due_call def s past ≡ Some (calls.Request x flags, n) → same_dev d x ≡ true
    → stands (requests_dev d) (frees_dev d) (complete_by def s (e ∷ past)) ≡ true
one_entry def s x flags e past n d mine was same = by_case (own_complete def s e past (calls.Request x flags) n mine was)
  where
    by_case : Completes (calls.Request x flags) e (complete_by def s past) (complete_by def s (e ∷ past))
        → stands (requests_dev d) (frees_dev d) (complete_by def s (e ∷ past)) ≡ true
    by_case (inl h) = absurd (let below = ltb-true (length (h.1.0 ++ e ∷ [])) 1 h.1.1 in let l = length-append h.1.0 (e ∷ []) in omega (arith, below, l))
    by_case (inr more) = ap (λ (xs : List Call). stands (requests_dev d) (frees_dev d) xs) more ∙ or_left (same_dev d x) _ same

now_wanted : (def : LineDef) (s : DriverNo) (x : DevNo) (flags : Flags) (e : Entry) (past : List Entry) (n : ℕ)
    (d : DevNo) → is_by_driver s e ≡ true → due_call def s past ≡ Some (calls.Request x flags, n) → same_dev d x ≡ true
    → Wanted def (e ∷ past) d
now_wanted def s x flags e past n d mine was same =
    let p = place_of s def.calls (entries_by s past) (calls.Request x flags) n was in
    record {
      driver = s;
      place = p.place;
      call = p.call;
      there = p.there;
      own = p.own;
      requests
          = subst (λ (y : Call). requests_dev d y ≡ true) (sym p.is) same;
      wanted
          = one_entry def s x flags e past n d mine was same;
    }

-- ---- each entry

-- a linked device isn't the one that is being freed
not_that : (def : LineDef) (past : List Entry) → KeepsFrees def past → (a : Actor) (x d : DevNo)
    → freeing past ≡ Some (a, x) → is_linked past d ≡ true → same_dev d x ≡ false
not_that def past k a x d within linked = false_from_ne_true (same_dev d x)
    (λ same. both_ways (is_linked past d) linked (subst (λ (y : DevNo). is_linked past y ≡ false)
    (sym (dev_from_same d x same)) (k.unlinked a x within)))

-- a device is wanted after an entry that no driver makes, as before it
same_wanted : (def : LineDef) (e : Entry) (past : List Entry) (d : DevNo) → ((r : DriverNo) → is_by_driver r e ≡ false)
    → Wanted def past d → Wanted def (e ∷ past) d
same_wanted def e past d other v =
    record {
      driver = v.driver;
      place = v.place;
      call = v.call;
      there = v.there;
      own = v.own;
      requests = v.requests;
      wanted = ap (λ (xs : List Call). stands (requests_dev d) (frees_dev d) xs) (other_complete def v.driver e past (other v.driver)) ∙ v.wanted;
    }

call_was_linked : (call : CallEntry) (past : List Entry) (d : DevNo) → is_linked (by_someone call ∷ past) d ≡ true → is_linked past d ≡ true
call_was_linked (called.Unlink answer x) past d h = (and_parts (not (same_dev d x && is_unlinked_answer answer)) (is_linked past d) h).1
call_was_linked call past d h = h

-- a device that stays linked by a step of a free isn't the one that is freed
kept_by_free : (def : LineDef) (s : DriverNo) (x d : DevNo) (n : ℕ) (call : CallEntry) (past : List Entry) → KeepsFrees def past
    → due_call def s past ≡ Some (calls.Free x, n) → FreeStep def x n past call → is_linked (by_someone call ∷ past) d ≡ true → same_dev d x ≡ false
kept_by_free def s x d n call past k is (unlinks_it none free same) h = by_answer (unlink_answer x past) refl
  where
    differs : (s l : Bool) → (not (s && true) && l) ≡ true → s ≡ false
    differs s l h = grind arith

    stays_there : (s l : Bool) → (not (s && false) && l) ≡ true → l ≡ true
    stays_there s l h = grind arith

    absent_when : (b v : Bool) → cond b (unlinks.Unlinked v) unlinks.NotThere ≡ unlinks.NotThere → b ≡ false
    absent_when true v h = cc
    absent_when false v h = refl

    moved : (answer : UnlinkAnswer) → unlink_answer x past ≡ answer → is_linked (by_someone (called.Unlink answer x) ∷ past) d ≡ true
    moved answer is = subst (λ (y : CallEntry). is_linked (by_someone y ∷ past) d ≡ true)
        (sym same ∙ ap (λ (y : UnlinkAnswer). called.Unlink y x) is) h

    by_answer : (answer : UnlinkAnswer) → unlink_answer x past ≡ answer → same_dev d x ≡ false
    by_answer (unlinks.Unlinked last) is = differs (same_dev d x) (is_linked past d) (moved (unlinks.Unlinked last) is)
    by_answer unlinks.NotThere is =
        let there = stays_there (same_dev d x) (is_linked past d) (moved unlinks.NotThere is) in
        let absent = absent_when (is_linked past x) _ is in
        false_from_ne_true (same_dev d x) (λ same. both_ways (is_linked past d) there
        (subst (λ (y : DevNo). is_linked past y ≡ false) (sym (dev_from_same d x same)) absent))
kept_by_free def s x d n call past k is (clears_it one no_flow same) h =
    let before : due_call def s past ≡ Some (calls.Free x, 1) = is ∙ ap (λ (m : ℕ). Some (calls.Free x, m)) one in
    not_that def past k (actors.Driver s) x d (k.within (actors.Driver s) x 0 before) (call_was_linked call past d h)
kept_by_free def s x d zero call past k is (frees_it some not_one same) h = absurd (eqb-false 0 0 some refl)
kept_by_free def s x d (suc n) call past k is (frees_it some not_one same) h =
    not_that def past k (actors.Driver s) x d (k.within (actors.Driver s) x n is) (call_was_linked call past d h)

-- the due call of a driver's step frees no device that stays linked
frees_none : (def : LineDef) (s : DriverNo) (d : DevNo) (c : Call) (n : ℕ) (call : CallEntry) (past : List Entry) → KeepsFrees def past
    → due_call def s past ≡ Some (c, n) → next_step def past (c, n) ≡ Some call → is_linked (by_someone call ∷ past) d ≡ true → frees_dev d c ≡ false
frees_none def s d (calls.Free x) n call past k is h there = kept_by_free def s x d n call past k is (free_row def x n past call h) there
frees_none def s d c n call past k is h there = refl

wanted_more : (def : LineDef) (e : Entry) (past : List Entry) → IsDue def e past → KeepsFrees def past
    → LinkedIsWanted def past → (d : DevNo) → is_linked (e ∷ past) d ≡ true → Wanted def (e ∷ past) d
wanted_more def (by.Driver s (drivers.Ask makes x)) past due k w d h = let u = ask_due def s x makes past due in
    keeps_wanted def s (by.Driver s (drivers.Ask makes x)) past (calls.Ask x) u.count d (λ r. refl) u.call refl (w d h)
wanted_more def (by.Driver s (drivers.Request flags links.Linked opened x)) past due k w d h = by_case (or_cases (same_dev d x && true) (is_linked past d) h)
  where
    by_case : ((same_dev d x && true) ≡ true) ⊎ (is_linked past d ≡ true) → Wanted def (by.Driver s (drivers.Request flags links.Linked opened x) ∷ past) d
    by_case (inl now) =
        let u = request_due def s x flags links.Linked opened past due in
        now_wanted def s x flags (by.Driver s (drivers.Request flags links.Linked opened x)) past u.count d (same_self_driver s)
        u.call (and_parts (same_dev d x) true now).0
    by_case (inr was) =
        let u = request_due def s x flags links.Linked opened past due in
        keeps_wanted def s (by.Driver s (drivers.Request flags links.Linked opened x)) past (calls.Request x flags) u.count d (λ r. refl) u.call refl (w d was)
wanted_more def (by.Driver s (drivers.Request flags (links.Refused error) opened x)) past due k w d h =
    let u = request_due def s x flags (links.Refused error) opened past due in
    keeps_wanted def s (by.Driver s (drivers.Request flags (links.Refused error) opened x)) past (calls.Request x flags) u.count d
    (λ r. refl) u.call refl (w d (was_there (same_dev d x) (is_linked past d) h))
  where
    was_there : (s l : Bool) → ((s && false) || l) ≡ true → l ≡ true
    was_there s l h = grind arith
wanted_more def (by.Driver s (drivers.Affinity answer mask)) past due k w d h =
    let u = affinity_due def s mask answer past due in
    keeps_wanted def s (by.Driver s (drivers.Affinity answer mask)) past (calls.Affinity mask) u.count d (λ r. refl) u.call refl
    (w d h)
wanted_more def (by.Driver s (drivers.Moment at)) past due k w d h = let u = moment_due def s at past due in
    keeps_wanted def s (by.Driver s (drivers.Moment at)) past (calls.Moment at) u.count d (λ r. refl) u.call refl (w d h)
wanted_more def (by.DriverCall s call) past due k w d h =
    let u = call_due def (actors.Driver s) call past due in
    keeps_wanted def s (by.DriverCall s call) past u.due.0 u.due.1 d (λ r. refl) u.is_due
    (frees_none def s d u.due.0 u.due.1 call past k u.is_due u.step h) (w d (call_was_linked call past d h))
wanted_more def (by.CpuCall c call) past due k w d h = same_wanted def (by.CpuCall c call) past d (λ r. refl) (w d (call_was_linked call past d h))
wanted_more def (by.ThreadCall x call) past due k w d h = same_wanted def (by.ThreadCall x call) past d (λ r. refl) (w d (call_was_linked call past d h))
wanted_more def (by.Cpu c e) past due k w d h = same_wanted def (by.Cpu c e) past d (λ r. refl) (w d h)
wanted_more def (by.Thread x e) past due k w d h = same_wanted def (by.Thread x e) past d (λ r. refl) (w d h)

pub wanted_kept : (def : LineDef) (e : Entry) (past : List Entry) → IsDue def e past → KeepsFrees def past
    → LinkedIsWanted def past → LinkedIsWanted def (e ∷ past)
wanted_kept def e past due k w = wanted_more def e past due k w

pub none_wanted : (def : LineDef) → LinkedIsWanted def []
none_wanted def d h = cc

-- no request of a linked device is due
pub requested_unlinked : (def : LineDef) (s : DriverNo) (x : DevNo) (flags : Flags) (n : ℕ) (past : List Entry)
    → IsValid def → LinkedIsWanted def past → due_call def s past ≡ Some (calls.Request x flags, n)
    → is_linked past x ≡ false
requested_unlinked def s x flags n past valid w due = false_from_ne_true (is_linked past x) (λ linked. not_wanted (w x linked))
  where
    not_wanted : Wanted def past x → ⊥
    not_wanted v =
        let p = place_of s def.calls (entries_by s past) (calls.Request x flags) n due in
        let here : requests_dev x p.call.1 ≡ true = subst (λ (y : Call). requests_dev x y ≡ true) (sym p.is) (same_self x) in
        let one : v.driver ≡ s = sym v.own ∙ valid.owners x v.place p.place v.call p.call v.there p.there (or_left _ _ v.requests) (or_left _ _ here) ∙ p.own in
        let wanted = subst (λ (r : DriverNo). stands (requests_dev x) (frees_dev x) (complete_by def r past) ≡ true) one v.wanted in
        both_ways (stands (requests_dev x) (frees_dev x) (complete_by def s past)) wanted
        (unrequested s x def.calls [] (entries_by s past) (calls.Request x flags) n
        (λ j b there names. valid.owners x j p.place b p.call there p.there names (or_left _ _ here) ∙ p.own)
        (valid.freed x) (λ none. absurd (let f : ⊥ = cc (none) in f)) due (same_self x))
