-- The line's domains are active while something is linked or the last unlinked device is being
-- freed.
use Rattle.std.proofs.Common.{◌≡◌, ◌+◌, ◌≤◌, Bool, true, false, not, ◌||◌, ◌&&◌, cond, Option, Some}
use Rattle.std.proofs.Common.{None, List, [], ◌∷◌, ◌++◌, filter, refl, sym, ap, subst, ◌∙◌, arith}
use Rattle.std.specs.List.{list_any}
use Rattle.std.proofs.lemmas.Bool.{and_parts, and_from, or_left, or_right, or_parts}
use Rattle.irq_base.specs.declared.calls.Flags.{Flags}
use Rattle.irq_base.specs.declared.entries.Actor.{Actor}
use Rattle.irq_base.specs.declared.entries.Actor.TheVariants as actors
use Rattle.irq_base.specs.declared.entries.Entry.{Entry}
use Rattle.irq_base.specs.declared.entries.Entry.TheVariants as by
use Rattle.irq_base.specs.declared.entries.DriverEntry.TheVariants as drivers
use Rattle.irq_base.specs.declared.entries.CallEntry.{CallEntry}
use Rattle.irq_base.specs.declared.entries.CallEntry.TheVariants as called
use Rattle.irq_base.specs.declared.entries.LinkAnswer.TheVariants as links
use Rattle.irq_base.specs.declared.entries.Opened.{Opened}
use Rattle.irq_base.specs.declared.entries.UnlinkAnswer.TheVariants as unlinks
use Rattle.irq_base.specs.declared.lines.LineDef.{LineDef}
use Rattle.irq_base.specs.declared.numbers.DevNo.{DevNo}
use Rattle.irq_base.specs.declared.numbers.DriverNo.{DriverNo}
use Rattle.irq_base.specs.Who.{actor_of}
use Rattle.irq_model.specs.Kinds.{same_dev, same_actor, is_by, is_call, ends_free, is_last_unlink, is_freed_by, made_by, unlinks_last}
use Rattle.irq_model.specs.Legal.{IsDue, IsLegalPast}
use Rattle.irq_model.specs.Links.{depth, is_first_request, is_none_linked, is_linked, linked, is_empty}
use Rattle.irq_model.specs.Next.{is_only}
use Rattle.irq_model.specs.Places.{some_place, since_place, upto_place, count_of}
use Rattle.irq_model.specs.Up.{is_up, is_some_entry, is_freed_last}
use Rattle.irq_model.specs.Valid.{IsValid}
use Rattle.irq_model.proofs.LinkSteps.{linked_request, linked_unlink}
use Rattle.irq_model.proofs.ListSteps.{linked_refused, linked_not_there}
use Rattle.irq_model.proofs.Same.{same_self, same_self_actor, same_both, actor_from_same}
use Rattle.irq_model.proofs.Somewhere.{some_ext}
use Rattle.irq_laws.proofs.FreesKept.{freed_is}
use Rattle.irq_laws.proofs.ImpliesDriver.{unlink_due}
use Rattle.irq_laws.proofs.KeptAlways.{kept}
use Rattle.irq_laws.proofs.Requested.{of_linked}
use Rattle.irq_laws.specs.Actors.{by_someone}
use Rattle.irq_laws.specs.Kept.{freeing, freed_on}
use Rattle.act_list.specs.Actions.{is_bare}
use Rattle.line_marks.proofs.ActionsFollow.{linked_once, bare_is}
use Rattle.line_marks.proofs.MadeBy.{is_made, by_maker, no_first}
use Rattle.line_marks.specs.Actions.{actions_of}
use Rattle.line_marks.specs.Up.{up_by, active_by_call, active_after}

both_ways : {P : Type 0} (b : Bool) → b ≡ true → b ≡ false → P
both_ways b h i = cc

abbrev since_first : List Entry → List Entry
since_first past = since_place is_first_request past

any_since : (p : Entry → Bool) (e : Entry) (past : List Entry)
    → list_any p (since_first (e ∷ past)) ≡ cond (is_first_request (e ∷ past)) false
    (p e || list_any p (since_first past))
any_since p e past = by_test (is_first_request (e ∷ past))
  where
    by_test : (b : Bool) → list_any p (cond b [] (e ∷ since_first past)) ≡ cond b false (p e || list_any p (since_first past))
    by_test true = refl
    by_test false = refl

-- ---- what an unlink leaves

last_when : (b last v : Bool) → unlinks.Unlinked last ≡ cond b (unlinks.Unlinked v) unlinks.NotThere → (last ≡ v) × (b ≡ true)
last_when true last v h = (cc, refl)
last_when false last v h = cc

abbrev others : DevNo → List DevNo → List DevNo
others d ds = filter (λ x. not (same_dev x d)) ds

only_leaves : (d : DevNo) (ds : List DevNo) → is_only d ds ≡ true → is_empty (others d ds) ≡ true
only_leaves d [] h = refl
only_leaves d (x ∷ []) h = by_test (same_dev d x) (same_both x d) h
  where
    by_test : (b : Bool) → same_dev x d ≡ b → (b && true) ≡ true → is_empty (others d (x ∷ [])) ≡ true
    by_test true is i = rw is refl
    by_test false is i = cc
only_leaves d (x ∷ y ∷ ds) h = by_test (same_dev d x) h
  where
    by_test : (b : Bool) → (b && false) ≡ true → is_empty (others d (x ∷ y ∷ ds)) ≡ true
    by_test true i = cc
    by_test false i = cc

none_leaves : (d : DevNo) (ds : List DevNo) → is_empty ds ≡ true → is_empty (others d ds) ≡ true
none_leaves d [] h = refl
none_leaves d (x ∷ ds) h = cc

-- none of these is d
kept_all : (d : DevNo) (ds : List DevNo) → count_of (same_dev d) ds ≤ 0 → is_empty (others d ds) ≡ true → is_empty ds ≡ true
kept_all d [] n h = refl
kept_all d (x ∷ ds) n h = by_test (same_dev d x) (same_both x d) n h
  where
    by_test : (b : Bool) → same_dev x d ≡ b → cond b (count_of (same_dev d) ds + 1) (count_of (same_dev d) ds) ≤ 0
        → is_empty (others d (x ∷ ds)) ≡ true → is_empty (x ∷ ds) ≡ true
    by_test true is m i = absurd (omega (arith, m))
    by_test false is m i = (let j : is_empty (x ∷ others d ds) ≡ true = rw is at i in cc)

leaves_only : (d : DevNo) (ds : List DevNo) → list_any (same_dev d) ds ≡ true → count_of (same_dev d) ds ≤ 1
    → is_empty (others d ds) ≡ true → is_only d ds ≡ true
leaves_only d [] any n h = cc
leaves_only d (x ∷ ds) any n h = by_test (same_dev d x) refl (same_both x d) n h
  where
    by_test : (b : Bool) → same_dev d x ≡ b → same_dev x d ≡ b
        → cond b (count_of (same_dev d) ds + 1) (count_of (same_dev d) ds) ≤ 1 → is_empty (others d (x ∷ ds)) ≡ true
        → (b && is_empty ds) ≡ true
    by_test true at is m i = (let j : is_empty (others d ds) ≡ true = rw is at i in kept_all d ds (omega (arith, m)) j)
    by_test false at is m i = (let j : is_empty (x ∷ others d ds) ≡ true = rw is at i in cc)

some_last : (xs : List DevNo) (d : DevNo) → is_empty (xs ++ d ∷ []) ≡ false
some_last [] d = refl
some_last (x ∷ xs) d = refl

pub some_after : (r : DriverNo) (x : DevNo) (flags : Flags) (opened : Opened) (past : List Entry)
    → is_none_linked (by.Driver r (drivers.Request flags links.Linked opened x) ∷ past) ≡ false
some_after r x flags opened past = ap is_empty (linked_request r x flags opened past) ∙ some_last (others x (linked past)) x

-- a device that is taken off was there
some_before : (x : DevNo) (past : List Entry) → is_linked past x ≡ true → is_none_linked past ≡ false
some_before x past on = by_list (linked past) (of_linked (same_dev x) past x on (same_self x))
  where
    by_list : (ds : List DevNo) → list_any (same_dev x) ds ≡ true → is_empty ds ≡ false
    by_list [] h = cc
    by_list (d ∷ ds) h = refl

-- ---- while something is linked, no last unlink stands since the first request

no_last_call : (def : LineDef) (a : Actor) (call : CallEntry) (past : List Entry) → IsDue def (made_by a call) past
    → (is_none_linked past ≡ false → list_any is_last_unlink (since_first past) ≡ false)
    → is_none_linked (by_someone call ∷ past) ≡ false → (unlinks_last call || list_any is_last_unlink (since_first past)) ≡ false
no_last_call def a (called.Unlink (unlinks.Unlinked last) x) past due deeper some = by_test last refl (is_none_linked past) refl deeper
  where
    left : is_empty (others x (linked past)) ≡ false
    left = sym (ap is_empty (linked_unlink (record { 0 = 0 }) x last past)) ∙ some

    by_test : (b : Bool) → last ≡ b → (n : Bool) → is_none_linked past ≡ n
        → (is_none_linked past ≡ false → list_any is_last_unlink (since_first past) ≡ false)
        → (b || list_any is_last_unlink (since_first past)) ≡ false
    by_test b is true none rest = both_ways (is_empty (others x (linked past))) (none_leaves x (linked past) none) left
    by_test true is false was rest =
        let w = last_when (is_linked past x) last (is_only x (linked past)) (unlink_due def a x (unlinks.Unlinked last) past due).answer_is in
        both_ways (is_empty (others x (linked past))) (only_leaves x (linked past) (sym w.0 ∙ is)) left
    by_test false is false was rest = rest was
no_last_call def a (called.Unlink unlinks.NotThere x) past due deeper some =
    deeper (sym (ap is_empty (linked_not_there (record { 0 = 0 }) x past)) ∙ some)
no_last_call def a call past due deeper some = deeper some

no_last : (def : LineDef) (past : List Entry) → IsLegalPast def past → is_none_linked past ≡ false → list_any is_last_unlink (since_first past) ≡ false
no_last def [] legal some = refl
no_last def (by.Driver r (drivers.Request flags links.Linked opened x) ∷ past) legal some
    = any_since is_last_unlink (by.Driver r (drivers.Request flags links.Linked opened x)) past
    ∙ by_test (is_none_linked past) (no_last def past legal.1)
  where
    by_test : (b : Bool) → (b ≡ false → list_any is_last_unlink (since_first past) ≡ false) → cond b false (list_any is_last_unlink (since_first past)) ≡ false
    by_test true rest = refl
    by_test false rest = rest refl
no_last def (by.Driver r (drivers.Request flags (links.Refused error) opened x) ∷ past) legal some
    = no_last def past legal.1 (sym (ap is_empty (linked_refused r x flags error opened past)) ∙ some)
no_last def (by.CpuCall c call ∷ past) legal some = no_last_call def (actors.Cpu c) call past legal.0 (no_last def past legal.1) some
no_last def (by.ThreadCall x call ∷ past) legal some = no_last_call def (actors.Thread x) call past legal.0 (no_last def past legal.1) some
no_last def (by.DriverCall r call ∷ past) legal some = no_last_call def (actors.Driver r) call past legal.0 (no_last def past legal.1) some
no_last def (e ∷ past) legal some = no_last def past legal.1 some

-- ---- while nothing is linked, who frees made the last unlink

abbrev last_by : Actor → Entry → Bool
last_by a e = is_by a e && is_last_unlink e

freed_last_call : (def : LineDef) (b : Actor) (call : CallEntry) (past : List Entry) (a : Actor) (d : DevNo) → IsDue def (made_by b call) past
    → is_none_linked (by_someone call ∷ past) ≡ true → freed_on b call (freeing past) ≡ Some (a, d)
    → (is_none_linked past ≡ true → freeing past ≡ Some (a, d) → list_any (last_by a) (since_first past) ≡ true)
    → ((same_actor a b && unlinks_last call) || list_any (last_by a) (since_first past)) ≡ true
freed_last_call def b (called.Unlink (unlinks.Unlinked last) x) past a d due none f deeper =
    let w = last_when (is_linked past x) last (is_only x (linked past)) (unlink_due def b x (unlinks.Unlinked last) past due).answer_is in
    let left : is_empty (others x (linked past)) ≡ true = sym (ap is_empty (linked_unlink (record { 0 = 0 }) x last past)) ∙ none in
    let is : last ≡ true = w.0 ∙ leaves_only x (linked past) (of_linked (same_dev x) past x w.1 (same_self x)) (linked_once x past) left in
    let own : a ≡ b = (let first : Option (Actor × DevNo) → Actor = λ o. maker_in a o in sym (ap first f)) in
    or_left (same_actor a b && last) _ (and_from _ _ (subst (λ (y : Actor). same_actor a y ≡ true) own (same_self_actor a)) is)
  where
    maker_in : Actor → Option (Actor × DevNo) → Actor
    maker_in z None = z
    maker_in z (Some p) = p.0
freed_last_call def b (called.Unlink unlinks.NotThere x) past a d due none f deeper =
    or_right (same_actor a b && false) _ (deeper (sym (ap is_empty (linked_not_there (record { 0 = 0 }) x past)) ∙ none) f)
freed_last_call def b (called.Freed x) past a d due none f deeper = cc
freed_last_call def b call past a d due none f deeper = or_right (same_actor a b && unlinks_last call) _ (deeper none f)

freed_last : (def : LineDef) (past : List Entry) (a : Actor) (d : DevNo) → IsLegalPast def past
    → is_none_linked past ≡ true → freeing past ≡ Some (a, d) → list_any (last_by a) (since_first past) ≡ true
freed_last def [] a d legal none f = cc
freed_last def (by.Driver s (drivers.Request flags links.Linked opened x) ∷ past) a d legal none f
    = both_ways (is_none_linked (by.Driver s (drivers.Request flags links.Linked opened x) ∷ past)) none
    (some_after s x flags opened past)
freed_last def (by.Driver s (drivers.Request flags (links.Refused error) opened x) ∷ past) a d legal none f
    = or_right (same_actor a (actors.Driver s) && false) _
    (freed_last def past a d legal.1 (sym (ap is_empty (linked_refused s x flags error opened past)) ∙ none) f)
freed_last def (by.CpuCall c call ∷ past) a d legal none f =
    freed_last_call def (actors.Cpu c) call past a d legal.0 none f (freed_last def past a d legal.1)
freed_last def (by.ThreadCall x call ∷ past) a d legal none f =
    freed_last_call def (actors.Thread x) call past a d legal.0 none f (freed_last def past a d legal.1)
freed_last def (by.DriverCall s call ∷ past) a d legal none f =
    freed_last_call def (actors.Driver s) call past a d legal.0 none f (freed_last def past a d legal.1)
freed_last def (e ∷ past) a d legal none f = or_right (last_by a e) _ (freed_last def past a d legal.1 none f)

-- ---- what an entry makes of it

head_is : (a u : List Entry) (e : Entry) → is_last_unlink e ≡ false → is_freed_last a (e ∷ u) ≡ false
head_is a u e h = ap (λ b. b && list_any (is_freed_by (actor_of e)) a) h

none_freed : (pre : List Entry → List Entry) (xs : List Entry) → list_any is_last_unlink xs ≡ false → some_place (λ a u. is_freed_last (pre a) u) xs ≡ false
none_freed pre [] h = refl
none_freed pre (x ∷ xs) h =
    let n = or_parts (is_last_unlink x) (list_any is_last_unlink xs) h in
    rw (head_is (pre []) xs x n.0) (none_freed (λ a. pre (x ∷ a)) xs n.1)

found : (m : Actor) (a u : List Entry) (e : Entry) → list_any (is_freed_by m) a ≡ true → last_by m e ≡ true → is_freed_last a (e ∷ u) ≡ true
found m a u e all h =
    let p = and_parts (is_by m e) (is_last_unlink e) h in
    and_from _ _ p.1 (subst (λ (y : Actor). list_any (is_freed_by y) a ≡ true) (actor_from_same m (actor_of e) p.0) all)

some_freed : (m : Actor) (pre : List Entry → List Entry) (xs : List Entry)
    → ((a : List Entry) → list_any (is_freed_by m) (pre a) ≡ true) → list_any (last_by m) xs ≡ true
    → some_place (λ a u. is_freed_last (pre a) u) xs ≡ true
some_freed m pre [] all h = cc
some_freed m pre (x ∷ xs) all h = by_test (last_by m x) refl h (some_freed m (λ a. pre (x ∷ a)) xs (λ a. all (x ∷ a)))
  where
    by_test : (b : Bool) → last_by m x ≡ b → (b || list_any (last_by m) xs) ≡ true
        → (list_any (last_by m) xs ≡ true → some_place (λ a u. is_freed_last (pre (x ∷ a)) u) xs ≡ true)
        → some_place (λ a u. is_freed_last (pre a) u) (x ∷ xs) ≡ true
    by_test true is i rest = or_left (is_freed_last (pre []) (x ∷ xs)) _ (found m (pre []) xs x (all []) is)
    by_test false is i rest = or_right (is_freed_last (pre []) (x ∷ xs)) _ (rest i)

up_first : (e : Entry) (past : List Entry) → is_first_request (e ∷ past) ≡ true → is_up (e ∷ past) ≡ true
up_first e past is = rw is refl

never : (b : Bool) → (b && false) ≡ false
never true = refl
never false = refl

not_yet : (e : Entry) (u : List Entry) → is_freed_last [] (e ∷ u) ≡ false
not_yet e u = never (is_last_unlink e)

-- an entry that ends no free is the end of nobody's
not_freed : (e : Entry) → is_call ends_free e ≡ false → (m : Actor) → is_freed_by m e ≡ false
not_freed e h m = ap (λ b. is_by m e && b) h ∙ never (is_by m e)

same_place : (e : Entry) (a u : List Entry) → is_call ends_free e ≡ false → is_freed_last (e ∷ a) u ≡ is_freed_last a u
same_place e a [] h = refl
same_place e a (x ∷ u) h = ap (λ b. is_last_unlink x && (b || list_any (is_freed_by (actor_of x)) a)) (not_freed e h (actor_of x))

up_later : (e : Entry) (past : List Entry) → is_first_request (e ∷ past) ≡ false
    → is_up (e ∷ past) ≡ (is_some_entry (upto_place is_first_request past) && not
    (some_place (λ a u. is_freed_last (e ∷ a) u) (since_first past)))
up_later e past is = rw (is, not_yet e (since_first past)) refl

up_quiet : (e : Entry) (past : List Entry) → is_first_request (e ∷ past) ≡ false → is_call ends_free e ≡ false → is_up (e ∷ past) ≡ is_up past
up_quiet e past is h =
    up_later e past is
    ∙ ap (λ b. is_some_entry (upto_place is_first_request past) && not b)
    (some_ext (λ a u. is_freed_last (e ∷ a) u) is_freed_last (since_first past) (λ a u same. same_place e a u h))

-- ---- read off the actions and who frees what

is_freeing : (def : LineDef) (a : Actor) (d : DevNo) (past : List Entry) → IsValid def
    → IsLegalPast def (made_by a (called.Freed d) ∷ past) → freeing past ≡ Some (a, d)
is_freeing def a d past valid legal = (freed_is def a d past legal.0 (kept def past valid legal.1).frees).1

or_some : (b : Bool) → (b || true) ≡ true
or_some true = refl
or_some false = refl

or_none : (b : Bool) → (b || false) ≡ b
or_none true = refl
or_none false = refl

first_part : (a b : Bool) → (a && b) ≡ true → a ≡ true
first_part true b h = refl
first_part false b h = cc

is_freed : (a : Actor) (d : DevNo) → is_freed_by a (made_by a (called.Freed d)) ≡ true
is_freed a d = and_from _ _ (by_maker a (called.Freed d)) (is_made a (called.Freed d) ends_free)

freed_ends : (def : LineDef) (a : Actor) (d : DevNo) (past : List Entry) → IsValid def
    → IsLegalPast def (made_by a (called.Freed d) ∷ past) → is_up past ≡ true
    → is_up (made_by a (called.Freed d) ∷ past) ≡ not (is_none_linked past)
freed_ends def a d past valid legal up = by_test (is_none_linked past) refl
  where
    e : Entry
    e = made_by a (called.Freed d)

    started : is_some_entry (upto_place is_first_request past) ≡ true
    started = first_part (is_some_entry (upto_place is_first_request past)) (not (some_place is_freed_last (since_first past))) up

    by_test : (b : Bool) → is_none_linked past ≡ b → is_up (e ∷ past) ≡ not b
    by_test true none =
        let last = freed_last def past a d legal.1 none (is_freeing def a d past valid legal) in
        let ended : some_place (λ x u. is_freed_last (e ∷ x) u) (since_first past)
        ≡ true = some_freed a (λ x. e ∷ x) (since_first past)
        (λ x. or_left (is_freed_by a e) _ (is_freed a d)) last in
        up_later e past (no_first a (called.Freed d) past) ∙ rw (started, ended) refl
    by_test false some =
        let stays : some_place (λ x u. is_freed_last (e ∷ x) u) (since_first past)
        ≡ false = none_freed (λ x. e ∷ x) (since_first past) (no_last def past legal.1 some) in
        up_later e past (no_first a (called.Freed d) past) ∙ rw (started, stays) refl

was_up : (def : LineDef) (a : Actor) (d : DevNo) (past : List Entry) → IsValid def
    → IsLegalPast def (made_by a (called.Freed d) ∷ past) → is_up past ≡ up_by (is_none_linked past) (freeing past)
    → is_up past ≡ true
was_up def a d past valid legal was = was ∙ (ap (λ o. up_by (is_none_linked past) o)
    (is_freeing def a d past valid legal) ∙ or_some (not (is_none_linked past)))

-- a call's step that ends no free
up_stays : (a : Actor) (call : CallEntry) (past : List Entry) → ends_free call ≡ false → is_up (made_by a call ∷ past) ≡ is_up past
up_stays a call past h = up_quiet (made_by a call) past (no_first a call past) (is_made a call ends_free ∙ h)

up_call : (def : LineDef) (a : Actor) (call : CallEntry) (past : List Entry) → IsValid def → IsLegalPast def (made_by a call ∷ past)
    → is_up past ≡ up_by (is_none_linked past) (freeing past)
    → is_up (made_by a call ∷ past) ≡ up_by (is_none_linked (by_someone call ∷ past)) (freed_on a call (freeing past))
up_call def a (called.Unlink (unlinks.Unlinked last) x) past valid legal was =
    let w = last_when (is_linked past x) last (is_only x (linked past)) (unlink_due def a x (unlinks.Unlinked last) past legal.0).answer_is in
    up_stays a (called.Unlink (unlinks.Unlinked last) x) past refl
    ∙ (was ∙ (ap (λ b. up_by b (freeing past)) (some_before x past w.1)
    ∙ sym (or_some (not (is_none_linked (by_someone (called.Unlink (unlinks.Unlinked last) x) ∷ past))))))
up_call def a (called.Unlink unlinks.NotThere x) past valid legal was =
    up_stays a (called.Unlink unlinks.NotThere x) past refl
    ∙ (was ∙ sym (ap (λ b. up_by b (freeing past)) (ap is_empty (linked_not_there (record { 0 = 0 }) x past))))
up_call def a (called.Freed d) past valid legal was =
    freed_ends def a d past valid legal (was_up def a d past valid legal was) ∙ sym (or_none (not (is_none_linked past)))
up_call def a call past valid legal was = up_stays a call past refl ∙ was

pub up_is : (def : LineDef) (past : List Entry) → IsValid def → IsLegalPast def past → is_up past ≡ up_by (is_none_linked past) (freeing past)
up_is def [] valid legal = refl
up_is def (by.Driver r (drivers.Request flags links.Linked opened x) ∷ past) valid legal =
    by_test (is_none_linked past) refl (up_is def past valid legal.1) ∙ sym (ap (λ b. up_by b (freeing past)) (some_after r x flags opened past))
  where
    e : Entry
    e = by.Driver r (drivers.Request flags links.Linked opened x)

    by_test : (b : Bool) → is_none_linked past ≡ b → is_up past ≡ up_by (is_none_linked past) (freeing past) → is_up (e ∷ past) ≡ true
    by_test true none was = up_first e past none
    by_test false some was = up_quiet e past some refl ∙ (was ∙ ap (λ b. up_by b (freeing past)) some)
up_is def (by.Driver r (drivers.Request flags (links.Refused error) opened x) ∷ past) valid legal =
    up_quiet (by.Driver r (drivers.Request flags (links.Refused error) opened x)) past refl refl
    ∙ (up_is def past valid legal.1 ∙ sym (ap (λ b. up_by b (freeing past)) (ap is_empty (linked_refused r x flags error opened past))))
up_is def (by.CpuCall c call ∷ past) valid legal = up_call def (actors.Cpu c) call past valid legal (up_is def past valid legal.1)
up_is def (by.ThreadCall x call ∷ past) valid legal = up_call def (actors.Thread x) call past valid legal (up_is def past valid legal.1)
up_is def (by.DriverCall r call ∷ past) valid legal = up_call def (actors.Driver r) call past valid legal (up_is def past valid legal.1)
up_is def (e ∷ past) valid legal = up_quiet e past refl refl ∙ up_is def past valid legal.1

-- what is linked is active, and what isn't disabled is linked
pub linked_is_up : (def : LineDef) (past : List Entry) → IsValid def → IsLegalPast def past → is_none_linked past ≡ false → is_up past ≡ true
linked_is_up def past valid legal some = up_is def past valid legal ∙ ap (λ b. up_by b (freeing past)) some

pub enabled_is_up : (def : LineDef) (past : List Entry) → IsValid def → IsLegalPast def past → depth past ≡ 0 → is_up past ≡ true
enabled_is_up def past valid legal on = linked_is_up def past valid legal ((kept def past valid legal).depth.enabled on).1

-- ---- what an entry makes of it

active_call : (def : LineDef) (a : Actor) (call : CallEntry) (past : List Entry) → IsValid def → IsLegalPast def (made_by a call ∷ past)
    → is_up (made_by a call ∷ past) ≡ active_by_call (is_none_linked past) call (is_up past)
active_call def a (called.Freed d) past valid legal =
    let up = was_up def a d past valid legal (up_is def past valid legal.1) in
    freed_ends def a d past valid legal up ∙ (sym (and_some (not (is_none_linked past))) ∙ sym (ap (λ b. not (is_none_linked past) && b) up))
  where
    and_some : (b : Bool) → (b && true) ≡ b
    and_some true = refl
    and_some false = refl
active_call def a call past valid legal = up_stays a call past refl

active_by : (def : LineDef) (e : Entry) (past : List Entry) → IsValid def → IsLegalPast def (e ∷ past)
    → is_up (e ∷ past) ≡ active_after (is_none_linked past) e (is_up past)
active_by def (by.Driver r (drivers.Request flags links.Linked opened x)) past valid legal = by_test (is_none_linked past) refl
  where
    by_test : (b : Bool) → is_none_linked past ≡ b → is_up (by.Driver r (drivers.Request flags links.Linked opened x) ∷ past) ≡ (b || is_up past)
    by_test true none = up_first (by.Driver r (drivers.Request flags links.Linked opened x)) past none
    by_test false some = up_quiet (by.Driver r (drivers.Request flags links.Linked opened x)) past some refl
active_by def (by.Driver r (drivers.Request flags (links.Refused error) opened x)) past valid legal
    = up_quiet (by.Driver r (drivers.Request flags (links.Refused error) opened x)) past refl refl
active_by def (by.CpuCall c call) past valid legal = active_call def (actors.Cpu c) call past valid legal
active_by def (by.ThreadCall x call) past valid legal = active_call def (actors.Thread x) call past valid legal
active_by def (by.DriverCall r call) past valid legal = active_call def (actors.Driver r) call past valid legal
active_by def e past valid legal = up_quiet e past refl refl

pub active_follows : (def : LineDef) (e : Entry) (past : List Entry) → IsValid def → IsLegalPast def (e ∷ past)
    → is_up (e ∷ past) ≡ active_after (is_bare (actions_of past)) e (is_up past)
active_follows def e past valid legal = active_by def e past valid legal ∙ ap (λ b. active_after b e (is_up past)) (sym (bare_is def past valid legal.1))
