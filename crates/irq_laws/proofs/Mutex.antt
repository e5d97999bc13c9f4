-- The request mutex, and who holds it: laws of any past.
use Rattle.std.proofs.Common.{◌≡◌, ◌⊎◌, inl, inr, Bool, true, false, not, ◌||◌, ◌&&◌, Option, Some, List, [], ◌∷◌, refl, sym, ap, ◌∙◌, subst, arith}
use Rattle.std.proofs.lemmas.Bool.{and_parts, and_from, or_cases, or_left, or_right, or_from, or_parts, not-true}
use Rattle.std.specs.List.{list_any}
use Rattle.irq_base.specs.declared.numbers.DevNo.{DevNo}
use Rattle.irq_base.specs.declared.entries.Actor.{Actor}
use Rattle.irq_base.specs.declared.entries.Actor.TheVariants as actors
use Rattle.irq_base.specs.declared.entries.Entry.{Entry}
use Rattle.irq_base.specs.declared.entries.Entry.TheVariants as by
use Rattle.irq_base.specs.declared.entries.CallEntry.{CallEntry}
use Rattle.irq_base.specs.declared.entries.CallEntry.TheVariants as called
use Rattle.irq_base.specs.declared.entries.UnlinkAnswer.TheVariants as unlinks
use Rattle.irq_base.specs.Who.{actor_of}
use Rattle.irq_model.specs.Places.{some_place, stands}
use Rattle.irq_model.specs.Kinds.{same_dev, same_actor, is_by, is_call, is_hard_clear, is_freed_by, is_unlink, is_unlinked_answer, ends_free}
use Rattle.irq_model.specs.Kinds.{unlinks_by, unlinks_one, unlinks_this, unlinks_dev}
use Rattle.irq_model.specs.Due.{is_being_freed_at, holds_mutex}
use Rattle.irq_model.specs.Reason.{is_cleared_at, is_cleared}
use Rattle.irq_model.proofs.Same.{same_self, same_self_actor, actor_from_same}
use Rattle.irq_model.proofs.Somewhere.{some_ext}
use Rattle.irq_laws.specs.Kept.{freeing, freed_on, unlinks_of}
use Rattle.irq_laws.proofs.Chosen.{the_same}
use Rattle.irq_laws.proofs.Lists.{place_imply}

-- ---- a free that isn't complete

-- the step unlinks a device that passes the test
abbrev pub unlinks_some : (DevNo → Bool) → CallEntry → Bool
unlinks_some t (called.Unlink answer dev) = t dev && is_unlinked_answer answer
unlinks_some t _ = false

-- the newest entry of `upto` unlinked a device that passes the test, and neither does its maker
-- pass the other one, nor did it complete a free after it
abbrev pub owned : (DevNo → Bool) → (Actor → Bool) → List Entry → List Entry → Bool
owned t f after [] = false
owned t f after (e ∷ past) = is_call (unlinks_some t) e && not (f (actor_of e) || list_any (is_freed_by (actor_of e)) after)

three : (a b c d : Bool) → (a && not (b || (c || d))) ≡ (a && not ((b || c) || d))
three a b c d = grind arith

pub one_later : (t : DevNo → Bool) (f : Actor → Bool) (e : Entry) (a u : List Entry) → owned t f (e ∷ a) u ≡ owned t (λ r. f r || is_freed_by r e) a u
one_later t f e a [] = refl
one_later t f e a (x ∷ past) = three (is_call (unlinks_some t) x) (f (actor_of x)) (is_freed_by (actor_of x) e) (list_any (is_freed_by (actor_of x)) a)

unlinks_any : (call : CallEntry) → unlinks_one call ≡ unlinks_some (λ d. true) call
unlinks_any (called.Unlink answer dev) = refl
unlinks_any call = refl

is_any : (e : Entry) → is_unlink e ≡ is_call (unlinks_some (λ d. true)) e
is_any (by.CpuCall c call) = unlinks_any call
is_any (by.ThreadCall x call) = unlinks_any call
is_any (by.DriverCall s call) = unlinks_any call
is_any e = refl

pub same_place : (a u : List Entry) → is_being_freed_at a u ≡ owned (λ d. true) (λ r. false) a u
same_place a [] = refl
same_place a (e ∷ past) = ap (λ (b : Bool). b && not (list_any (is_freed_by (actor_of e)) a)) (is_any e)

-- ---- who is within a free holds the mutex

-- an actor that unlinked a device, and made no end of a free since
stands_held : (a : Actor) (f : Actor → Bool) (past : List Entry) → f a ≡ false → stands (unlinks_by a) (is_freed_by a) past ≡ true
    → some_place (owned (λ d. true) f) past ≡ true
stands_held a f [] free h = cc
stands_held a f (e ∷ past) free h = by_case (or_cases _ _ h) (stands_held a (λ r. f r || is_freed_by r e) past)
  where
    by_case : (unlinks_by a e ≡ true) ⊎ ((not (is_freed_by a e) && stands (unlinks_by a) (is_freed_by a) past) ≡ true)
        → ((f a || is_freed_by a e) ≡ false → stands (unlinks_by a) (is_freed_by a) past ≡ true
        → some_place (owned (λ d. true) (λ r. f r || is_freed_by r e)) past ≡ true)
        → some_place (owned (λ d. true) f) (e ∷ past) ≡ true
    by_case (inl now) deeper =
        let p = and_parts (is_by a e) (is_unlink e) now in
        let here : f (actor_of e) ≡ false = subst (λ (x : Actor). f x ≡ false) (actor_from_same a (actor_of e) p.0) free in
        or_left _ _ (and_from _ _ (sym (is_any e) ∙ p.1) (ap not (or_from _ _ here refl)))
    by_case (inr was) deeper =
        let p = and_parts (not (is_freed_by a e)) _ was in
        or_right _ _ (some_ext (λ x u. owned (λ d. true) f (e ∷ x) u) (owned (λ d. true) (λ r. f r || is_freed_by r e)) past
        (λ x u same. one_later (λ d. true) f e x u) ∙ deeper (or_from _ _ free (not-true (is_freed_by a e) p.0)) p.1)

unended : (u s x : Bool) → x ≡ true → (u || (not (s && false) && x)) ≡ true
unended u s x h = grind arith

maker_is : (a b : Actor) (d x : DevNo) → ◌≡◌ {A = Option (Actor × DevNo)} (Some (b, x)) (Some (a, d)) → b ≡ a
maker_is a b d x h =
    let p : Actor × DevNo = (b, x) in
    let q : Actor × DevNo = (a, d) in
    ap (λ (y : Actor × DevNo). y.0) (the_same p q h)

call_stands : (a b : Actor) (d : DevNo) (call : CallEntry) (was : Option (Actor × DevNo)) (rest : Bool) → freed_on b call was ≡ Some (a, d)
    → (was ≡ Some (a, d) → rest ≡ true)
    → ((same_actor a b && unlinks_one call) || (not (same_actor a b && ends_free call) && rest)) ≡ true
call_stands a b d (called.Unlink (unlinks.Unlinked last) x) was rest h k =
    or_left _ _ (and_from _ _ (subst (λ (y : Actor). same_actor a y ≡ true) (sym (maker_is a b d x h)) (same_self_actor a)) refl)
call_stands a b d (called.Unlink unlinks.NotThere x) was rest h k = unended (same_actor a b && false) (same_actor a b) rest (k h)
call_stands a b d (called.Freed x) was rest h k = cc
call_stands a b d call was rest h k = unended (same_actor a b && unlinks_one call) (same_actor a b) rest (k h)

freeing_stands : (past : List Entry) (a : Actor) (d : DevNo) → freeing past ≡ Some (a, d) → stands (unlinks_by a) (is_freed_by a) past ≡ true
freeing_stands [] a d h = cc
freeing_stands (by.CpuCall c call ∷ past) a d h = call_stands a (actors.Cpu c) d call (freeing past) _ h (freeing_stands past a d)
freeing_stands (by.ThreadCall x call ∷ past) a d h = call_stands a (actors.Thread x) d call (freeing past) _ h (freeing_stands past a d)
freeing_stands (by.DriverCall s call ∷ past) a d h = call_stands a (actors.Driver s) d call (freeing past) _ h (freeing_stands past a d)
freeing_stands (e ∷ past) a d h = unended (is_by a e && false) (is_by a e) _ (freeing_stands past a d h)

pub freeing_holds : (past : List Entry) (f : Actor × DevNo) → freeing past ≡ Some f → holds_mutex past ≡ true
freeing_holds past f h = place_imply (owned (λ d. true) (λ r. false)) is_being_freed_at past (λ a u is. same_place a u ∙ is)
    (stands_held f.0 (λ r. false) past refl (freeing_stands past f.0 f.1 h))

-- ---- who holds the mutex is within a free

-- an actor that unlinked a device, and made no end of a free since
pub record Owner (t : DevNo → Bool) (f : Actor → Bool) (past : List Entry) : Type 0 where
  pub maker : Actor
  pub dev : DevNo
  pub passes : t dev ≡ true
  pub unfreed : f maker ≡ false
  pub stands_there : stands (unlinks_of maker dev) (is_freed_by maker) past ≡ true

not_both : (a b : Bool) → (a && not (b || false)) ≡ true → (a ≡ true) × (b ≡ false)
not_both true true h = cc
not_both true false h = (refl, refl)
not_both false b h = cc

abbrev Unlinked : (DevNo → Bool) → Entry → Type 0
Unlinked t e = (d : DevNo) × (t d ≡ true) × (unlinks_dev d e ≡ true)

call_unlinks : (t : DevNo → Bool) (call : CallEntry) → unlinks_some t call ≡ true → (d : DevNo) × (t d ≡ true) × (unlinks_this d call ≡ true)
call_unlinks t (called.Unlink answer dev) h = let p = and_parts (t dev) (is_unlinked_answer answer) h in (dev, p.0, and_from _ _ (same_self dev) p.1)
call_unlinks t call h = cc

unlinked : (t : DevNo → Bool) (e : Entry) → is_call (unlinks_some t) e ≡ true → Unlinked t e
unlinked t (by.CpuCall c call) h = call_unlinks t call h
unlinked t (by.ThreadCall x call) h = call_unlinks t call h
unlinked t (by.DriverCall s call) h = call_unlinks t call h
unlinked t e h = cc

owner_here : (t : DevNo → Bool) (f : Actor → Bool) (e : Entry) (past : List Entry) → owned t f [] (e ∷ past) ≡ true → Owner t f (e ∷ past)
owner_here t f e past h =
    let n = not_both (is_call (unlinks_some t) e) (f (actor_of e)) h in
    let u = unlinked t e n.0 in
    record {
      maker = actor_of e;
      dev = u.0;
      passes = u.1;
      unfreed = n.1;
      stands_there = or_left _ _ (and_from _ _ (same_self_actor (actor_of e)) u.2);
    }

pub owner : (t : DevNo → Bool) (f : Actor → Bool) (past : List Entry) → some_place (owned t f) past ≡ true → Owner t f past
owner t f [] h = cc
owner t f (e ∷ past) h = by_case (or_cases _ _ h) (λ is. owner t (λ r. f r || is_freed_by r e) past is)
  where
    later : Owner t (λ r. f r || is_freed_by r e) past → Owner t f (e ∷ past)
    later o =
        let n = or_parts (f o.maker) (is_freed_by o.maker e) o.unfreed in
        let goes : (not (is_freed_by o.maker e) && stands (unlinks_of o.maker o.dev) (is_freed_by o.maker) past)
        ≡ true = and_from _ _ (ap not n.1) o.stands_there in
        record { maker = o.maker; dev = o.dev; passes = o.passes; unfreed = n.0; stands_there = or_right (unlinks_of o.maker o.dev e) _ goes }

    by_case : (owned t f [] (e ∷ past) ≡ true) ⊎ (some_place (λ a u. owned t f (e ∷ a) u) past ≡ true)
        → (some_place (owned t (λ r. f r || is_freed_by r e)) past ≡ true → Owner t (λ r. f r || is_freed_by r e) past) → Owner t f (e ∷ past)
    by_case (inl is) deeper = owner_here t f e past is
    by_case (inr is) deeper = later (deeper (sym (some_ext (λ a u. owned t f (e ∷ a) u)
        (owned t (λ r. f r || is_freed_by r e)) past (λ a u same. one_later t f e a u)) ∙ is))

pub holder : (past : List Entry) → holds_mutex past ≡ true → Owner (λ d. true) (λ r. false) past
holder past h = owner (λ d. true) (λ r. false) past
    (place_imply is_being_freed_at (owned (λ d. true) (λ r. false)) past (λ a u is. sym (same_place a u) ∙ is) h)

-- ---- a hard clear within a free

unlinks_that : (d : DevNo) (call : CallEntry) → unlinks_this d call ≡ unlinks_some (same_dev d) call
unlinks_that d (called.Unlink answer dev) = refl
unlinks_that d call = refl

is_that : (d : DevNo) (e : Entry) → unlinks_dev d e ≡ is_call (unlinks_some (same_dev d)) e
is_that d (by.CpuCall c call) = unlinks_that d call
is_that d (by.ThreadCall x call) = unlinks_that d call
is_that d (by.DriverCall s call) = unlinks_that d call
is_that d e = refl

cleared_place : (d : DevNo) (a u : List Entry) → is_cleared_at d a u ≡ true → owned (same_dev d) (λ r. false) a u ≡ true
cleared_place d a [] h = cc
cleared_place d a (e ∷ past) h =
    let n = and_parts (unlinks_dev d e) _ h in
    let m = and_parts (list_any (λ x. is_by (actor_of e) x && is_hard_clear x) a) _ n.1 in
    and_from _ _ (sym (is_that d e) ∙ n.0) m.1

pub clearer : (past : List Entry) (d : DevNo) → is_cleared past d ≡ true → Owner (same_dev d) (λ r. false) past
clearer past d h = owner (same_dev d) (λ r. false) past (place_imply (is_cleared_at d) (owned (same_dev d) (λ r. false)) past (cleared_place d) h)

none_at_once : (s : Bool) → (s && false) ≡ true → ⊥
none_at_once true h = cc
none_at_once false h = cc

not_at_once : (d : DevNo) (u : List Entry) → is_cleared_at d [] u ≡ true → ⊥
not_at_once d [] h = let n : ⊥ = cc in n
not_at_once d (e ∷ past) h = none_at_once (unlinks_dev d e) h

fewer : (s b c l f g : Bool) → c ≡ false → (s && (((b && c) || l) && not (f || g))) ≡ true → (s && (l && not g)) ≡ true
fewer s b c l f g is h = grind arith

cleared_at_before : (d : DevNo) (e : Entry) (a u : List Entry) → is_hard_clear e ≡ false → is_cleared_at d (e ∷ a) u ≡ true → is_cleared_at d a u ≡ true
cleared_at_before d e a [] is h = h
cleared_at_before d e a (x ∷ past) is h =
    fewer (unlinks_dev d x) (is_by (actor_of x) e) (is_hard_clear e)
    (list_any (λ y. is_by (actor_of x) y && is_hard_clear y) a) (is_freed_by (actor_of x) e)
    (list_any (is_freed_by (actor_of x)) a) is h

-- an entry that is no hard clear clears nothing
pub cleared_before : (d : DevNo) (e : Entry) (past : List Entry) → is_hard_clear e ≡ false → is_cleared (e ∷ past) d ≡ true → is_cleared past d ≡ true
cleared_before d e past is h = by_case (or_cases _ _ h)
  where
    by_case : (is_cleared_at d [] (e ∷ past) ≡ true) ⊎ (some_place (λ a u. is_cleared_at d (e ∷ a) u) past ≡ true) → is_cleared past d ≡ true
    by_case (inl at_once) = absurd (not_at_once d (e ∷ past) at_once)
    by_case (inr later) = place_imply (λ a u. is_cleared_at d (e ∷ a) u) (is_cleared_at d) past (λ a u. cleared_at_before d e a u is) later
