-- The list of a line's actions follows its history: it has the linked devices with their flags.
use Rattle.std.proofs.Common.{◌≡◌, ◌+◌, ◌≤◌, Bool, true, false, not, cond, List, [], ◌∷◌, ◌++◌, filter, refl, sym, ap, ◌∙◌, arith}
use Rattle.std.specs.Map.{remove_entry}
use Rattle.irq_base.specs.declared.calls.Flags.{Flags}
use Rattle.irq_base.specs.declared.entries.Entry.{Entry}
use Rattle.irq_base.specs.declared.entries.Entry.TheVariants as by
use Rattle.irq_base.specs.declared.entries.DriverEntry.TheVariants as drivers
use Rattle.irq_base.specs.declared.entries.CallEntry.{CallEntry}
use Rattle.irq_base.specs.declared.entries.CallEntry.TheVariants as called
use Rattle.irq_base.specs.declared.entries.LinkAnswer.TheVariants as links
use Rattle.irq_base.specs.declared.entries.Opened.{Opened}
use Rattle.irq_base.specs.declared.entries.UnlinkAnswer.TheVariants as unlinks
use Rattle.irq_base.specs.declared.lines.LineDef.{LineDef}
use Rattle.irq_base.specs.declared.numbers.DevNo.{DevNo}
use Rattle.irq_base.specs.declared.numbers.DriverNo.{DriverNo}
use Rattle.irq_model.specs.Kinds.{same_dev}
use Rattle.irq_model.specs.Legal.{IsDue, IsLegalPast}
use Rattle.irq_model.specs.Links.{linking_flags, is_linked, linked, requested, is_empty, is_none_linked}
use Rattle.irq_model.specs.Places.{count_of}
use Rattle.irq_model.specs.Valid.{IsValid}
use Rattle.irq_model.proofs.LinkSteps.{linked_request, linked_unlink}
use Rattle.irq_model.proofs.ListSteps.{linked_refused, linked_not_there, count_filter, requested_once}
use Rattle.irq_model.proofs.Same.{same_self, same_both, dev_from_same}
use Rattle.irq_laws.proofs.ImpliesDriver.{request_due}
use Rattle.irq_laws.proofs.KeptAlways.{kept}
use Rattle.irq_laws.proofs.RestKept.{no_part}
use Rattle.irq_laws.proofs.WantedKept.{requested_unlinked}
use Rattle.irq_laws.specs.Actors.{by_someone}
use Rattle.irq_laws.specs.Kept.{Kept}
use Rattle.act_list.specs.Actions.{is_bare}
use Rattle.act_list.specs.Lists.{flags_of, action_by}
use Rattle.act_list.specs.declared.actions.Action.{Action}
use Rattle.line_marks.specs.Actions.{flags_by, linked_flags, actions_of, actions_by_call, actions_after}

-- what the step of a call, or an entry, makes of the linked devices and their flags
abbrev pub flags_by_call : CallEntry → List (DevNo × Flags) → List (DevNo × Flags)
flags_by_call (called.Unlink (unlinks.Unlinked last) dev) t = remove_entry (same_dev dev) t
flags_by_call _ t = t

abbrev pub flags_after : Entry → List (DevNo × Flags) → List (DevNo × Flags)
flags_after (by.Driver driver (drivers.Request flags links.Linked opened dev)) t = t ++ (dev, flags) ∷ []
flags_after (by.CpuCall cpu call) t = flags_by_call call t
flags_after (by.ThreadCall dev call) t = flags_by_call call t
flags_after (by.DriverCall driver call) t = flags_by_call call t
flags_after _ t = t

both_ways : {P : Type 0} (b : Bool) → b ≡ true → b ≡ false → P
both_ways b h i = cc

-- a filter that passes what another passes
filter_within : (p q : DevNo → Bool) (xs : List DevNo) → ((x : DevNo) → q x ≡ true → p x ≡ true) → filter p (filter q xs) ≡ filter q xs
filter_within p q [] h = refl
filter_within p q (x ∷ xs) h = by_test (q x) refl (filter_within p q xs h)
  where
    by_test : (b : Bool) → q x ≡ b → filter p (filter q xs) ≡ filter q xs
        → filter p (cond b (x ∷ filter q xs) (filter q xs)) ≡ cond b (x ∷ filter q xs) (filter q xs)
    by_test true is rest = rw (h x is) (ap (λ (t : List DevNo). x ∷ t) rest)
    by_test false is rest = rest

-- two functions that agree on the devices that pass give these the same flags
same_flags : (f g : DevNo → Flags) (q : DevNo → Bool) (xs : List DevNo) → ((x : DevNo) → q x ≡ true → g x ≡ f x)
    → flags_by g (filter q xs) ≡ flags_by f (filter q xs)
same_flags f g q [] h = refl
same_flags f g q (x ∷ xs) h = by_test (q x) refl (same_flags f g q xs h)
  where
    by_test : (b : Bool) → q x ≡ b → flags_by g (filter q xs) ≡ flags_by f (filter q xs)
        → flags_by g (cond b (x ∷ filter q xs) (filter q xs)) ≡ flags_by f (cond b (x ∷ filter q xs) (filter q xs))
    by_test true is rest = ap (λ (a : Flags). (x, a) ∷ flags_by g (filter q xs)) (h x is) ∙ ap (λ (t : List (DevNo × Flags)). (x, f x) ∷ t) rest
    by_test false is rest = rest

one_more : (f : DevNo → Flags) (ds : List DevNo) (d : DevNo) → flags_by f (ds ++ d ∷ []) ≡ flags_by f ds ++ (d, f d) ∷ []
one_more f [] d = refl
one_more f (x ∷ xs) d = ap (λ (t : List (DevNo × Flags)). (x, f x) ∷ t) (one_more f xs d)

-- d is none of them, or stands once among them
without : (d : DevNo) (ds : List DevNo) → count_of (same_dev d) ds ≤ 0 → filter (λ x. not (same_dev x d)) ds ≡ ds
without d [] h = refl
without d (x ∷ xs) h = by_test (same_dev d x) (same_both x d) h (without d xs)
  where
    by_test : (b : Bool) → same_dev x d ≡ b → cond b (count_of (same_dev d) xs + 1) (count_of (same_dev d) xs) ≤ 0
        → (count_of (same_dev d) xs ≤ 0 → filter (λ y. not (same_dev y d)) xs ≡ xs)
        → filter (λ y. not (same_dev y d)) (x ∷ xs) ≡ x ∷ xs
    by_test true is n rest = absurd (omega (arith, n))
    by_test false is n rest = rw is (ap (λ (t : List DevNo). x ∷ t) (rest n))

removed : (f : DevNo → Flags) (d : DevNo) (ds : List DevNo) → count_of (same_dev d) ds ≤ 1
    → flags_by f (filter (λ x. not (same_dev x d)) ds) ≡ remove_entry (same_dev d) (flags_by f ds)
removed f d [] h = refl
removed f d (x ∷ xs) h = by_test (same_dev d x) (same_both x d) h (removed f d xs)
  where
    by_test : (b : Bool) → same_dev x d ≡ b → cond b (count_of (same_dev d) xs + 1) (count_of (same_dev d) xs) ≤ 1
        → (count_of (same_dev d) xs ≤ 1 → flags_by f (filter (λ y. not (same_dev y d)) xs) ≡ remove_entry (same_dev d) (flags_by f xs))
        → flags_by f (filter (λ y. not (same_dev y d)) (x ∷ xs)) ≡ cond b (flags_by f xs) ((x, f x) ∷ remove_entry (same_dev d) (flags_by f xs))
    by_test true is n rest = rw is (ap (flags_by f) (without d xs (omega (arith, n))))
    by_test false is n rest = rw is (ap (λ (t : List (DevNo × Flags)). (x, f x) ∷ t) (rest n))

pub linked_once : (d : DevNo) (past : List Entry) → count_of (same_dev d) (linked past) ≤ 1
linked_once d past = omega (arith, count_filter (same_dev d) (is_linked past) (requested past), requested_once d past)

-- a linked device isn't one that is requested
apart : (past : List Entry) (x y : DevNo) → is_linked past x ≡ false → is_linked past y ≡ true → same_dev y x ≡ false
apart past x y off on = by_test (same_dev y x) refl
  where
    by_test : (b : Bool) → same_dev y x ≡ b → same_dev y x ≡ false
    by_test false is = is
    by_test true is = both_ways (is_linked past y) on (ap (is_linked past) (dev_from_same y x is) ∙ off)

linked_more : (r : DriverNo) (x : DevNo) (flags : Flags) (opened : Opened) (past : List Entry) → is_linked past x ≡ false
    → linked_flags (by.Driver r (drivers.Request flags links.Linked opened x) ∷ past) ≡ linked_flags past ++ (x, flags) ∷ []
linked_more r x flags opened past off =
    let e = by.Driver r (drivers.Request flags links.Linked opened x) in
    let passes : (y : DevNo) → is_linked past y ≡ true → not (same_dev y x) ≡ true = λ y on. ap not (apart past x y off on) in
    let all : linked (e ∷ past) ≡ linked past ++ x ∷ [] = linked_request r x flags opened past
    ∙ ap (λ (t : List DevNo). t ++ x ∷ []) (filter_within (λ y. not (same_dev y x)) (is_linked past)
    (requested past) passes) in
    let old : flags_by (linking_flags (e ∷ past)) (linked past)
    ≡ linked_flags past = same_flags (linking_flags past) (linking_flags (e ∷ past)) (is_linked past)
    (requested past) (λ y on. rw (apart past x y off on) refl) in
    let new : linking_flags (e ∷ past) x ≡ flags = rw (same_self x) refl in
    ap (flags_by (linking_flags (e ∷ past))) all
    ∙ (one_more (linking_flags (e ∷ past)) (linked past) x
    ∙ (ap (λ (t : List (DevNo × Flags)). t ++ (x, linking_flags (e ∷ past) x) ∷ []) old ∙ ap (λ (a : Flags). linked_flags past ++ (x, a) ∷ []) new))

flags_call : (call : CallEntry) (past : List Entry) → linked_flags (by_someone call ∷ past) ≡ flags_by_call call (linked_flags past)
flags_call (called.Unlink (unlinks.Unlinked last) x) past =
    ap (flags_by (linking_flags past)) (linked_unlink (record { 0 = 0 }) x last past) ∙ removed (linking_flags past) x (linked past) (linked_once x past)
flags_call (called.Unlink unlinks.NotThere x) past = ap (flags_by (linking_flags past)) (linked_not_there (record { 0 = 0 }) x past)
flags_call call past = refl

pub flags_more : (def : LineDef) (e : Entry) (past : List Entry) → IsValid def → IsDue def e past → Kept def past
    → linked_flags (e ∷ past) ≡ flags_after e (linked_flags past)
flags_more def (by.Driver r (drivers.Request flags links.Linked opened x)) past valid due k =
    let u = request_due def r x flags links.Linked opened past due in
    linked_more r x flags opened past (requested_unlinked def r x flags _ past valid k.wanted u.call)
flags_more def (by.Driver r (drivers.Request flags (links.Refused error) opened x)) past valid due k =
    let e = by.Driver r (drivers.Request flags (links.Refused error) opened x) in
    ap (flags_by (linking_flags (e ∷ past))) (linked_refused r x flags error opened past)
    ∙ same_flags (linking_flags past) (linking_flags (e ∷ past)) (is_linked past) (requested past) (λ y on. rw (no_part (same_dev y x)) refl)
flags_more def (by.CpuCall c call) past valid due k = flags_call call past
flags_more def (by.ThreadCall x call) past valid due k = flags_call call past
flags_more def (by.DriverCall r call) past valid due k = flags_call call past
flags_more def _ past valid due k = refl

-- ---- the flags of the actions

flags_last : (d : DevNo) (a : Action) (t : List (DevNo × Action)) → flags_of (t ++ (d, a) ∷ []) ≡ flags_of t ++ (d, a.flags) ∷ []
flags_last d a [] = refl
flags_last d a (e ∷ es) = ap (λ (t : List (DevNo × Flags)). (e.0, e.1.flags) ∷ t) (flags_last d a es)

flags_without : (d : DevNo) (t : List (DevNo × Action)) → flags_of (remove_entry (same_dev d) t) ≡ remove_entry (same_dev d) (flags_of t)
flags_without d [] = refl
flags_without d (e ∷ es) = by_test (same_dev d e.0) (flags_without d es)
  where
    by_test : (b : Bool) → flags_of (remove_entry (same_dev d) es) ≡ remove_entry (same_dev d) (flags_of es)
        → flags_of (cond b es (e ∷ remove_entry (same_dev d) es)) ≡ cond b (flags_of es) ((e.0, e.1.flags) ∷ remove_entry (same_dev d) (flags_of es))
    by_test true h = refl
    by_test false h = ap (λ (t : List (DevNo × Flags)). (e.0, e.1.flags) ∷ t) h

flags_of_call : (call : CallEntry) (t : List (DevNo × Action)) → flags_of (actions_by_call call t) ≡ flags_by_call call (flags_of t)
flags_of_call (called.Unlink (unlinks.Unlinked last) x) t = flags_without x t
flags_of_call (called.Unlink unlinks.NotThere x) t = refl
flags_of_call _ t = refl

flags_step : (e : Entry) (t : List (DevNo × Action)) → flags_of (actions_after e t) ≡ flags_after e (flags_of t)
flags_step (by.Driver r (drivers.Request flags links.Linked opened x)) t = flags_last x (action_by flags t) t
flags_step (by.Driver r (drivers.Request flags (links.Refused error) opened x)) t = refl
flags_step (by.CpuCall c call) t = flags_of_call call t
flags_step (by.ThreadCall x call) t = flags_of_call call t
flags_step (by.DriverCall r call) t = flags_of_call call t
flags_step _ t = refl

-- the list has the linked devices in their order, each with the flags with which it was linked
pub actions_are : (def : LineDef) (past : List Entry) → IsValid def → IsLegalPast def past → flags_of (actions_of past) ≡ linked_flags past
actions_are def [] valid legal = refl
actions_are def (e ∷ past) valid legal =
    flags_step e (actions_of past) ∙ (ap (flags_after e) (actions_are def past valid legal.1)
    ∙ sym (flags_more def e past valid legal.0 (kept def past valid legal.1)))

bare_flags : (t : List (DevNo × Action)) (f : DevNo → Flags) (ds : List DevNo) → flags_of t ≡ flags_by f ds → is_bare t ≡ is_empty ds
bare_flags [] f [] h = refl
bare_flags [] f (d ∷ ds) h = cc
bare_flags (e ∷ es) f [] h = cc
bare_flags (e ∷ es) f (d ∷ ds) h = refl

-- the list is bare if nothing is linked
pub bare_is : (def : LineDef) (past : List Entry) → IsValid def → IsLegalPast def past → is_bare (actions_of past) ≡ is_none_linked past
bare_is def past valid legal = bare_flags (actions_of past) (linking_flags past) (linked past) (actions_are def past valid legal)
