-- What one more entry makes of the request mutex.
use Rattle.std.proofs.Common.{◌≡◌, Bool, true, false, not, ◌||◌, ◌&&◌, subst, List, [], ◌∷◌, ◌++◌, refl, sym, ap, ◌∙◌, arith}
use Rattle.std.specs.List.{list_any}
use Rattle.std.proofs.lemmas.List.Folds.{list_any-append}
use Rattle.irq_base.specs.declared.entries.Actor.{Actor}
use Rattle.irq_base.specs.declared.entries.Entry.{Entry}
use Rattle.irq_base.specs.declared.entries.Entry.TheVariants as by
use Rattle.irq_base.specs.declared.entries.CallEntry.{CallEntry}
use Rattle.irq_base.specs.declared.entries.CallEntry.TheVariants as called
use Rattle.irq_base.specs.Who.{actor_of}
use Rattle.irq_model.specs.Due.{is_being_freed_at, holds_mutex}
use Rattle.irq_model.specs.Kinds.{same_actor, is_unlink, is_freed_by, unlinks_by, is_call, ends_free, unlinks_one}
use Rattle.irq_model.specs.Places.{some_place}
use Rattle.irq_model.proofs.Same.{same_self_actor}
use Rattle.irq_model.proofs.Somewhere.{some_ext, some_none}

same_free : (e : Entry) (a u : List Entry) → ((a' : Actor) → is_freed_by a' e ≡ false) → is_being_freed_at (e ∷ a) u ≡ is_being_freed_at a u
same_free e a [] h = refl
same_free e a (x ∷ u) h = rw (h (actor_of x)) refl

-- an entry that completes no free holds it, or leaves it as it was
pub mutex_more : (e : Entry) (past : List Entry) → ((a' : Actor) → is_freed_by a' e ≡ false)
    → holds_mutex (e ∷ past) ≡ (is_being_freed_at [] (e ∷ past) || holds_mutex past)
mutex_more e past h = ap (λ b. is_being_freed_at [] (e ∷ past) || b) (some_ext _ _ past (λ a u is. same_free e a u h))

found : (a b c : Bool) → b ≡ true → (a || (b || c)) ≡ true
found a b c h = grind arith

gone : (a b : Bool) → (a ≡ true → b ≡ true) → (a && not b) ≡ false
gone true true h = refl
gone true false h = sym (h refl)
gone false b h = refl

done_free : (e : Entry) (a u : List Entry) → is_call ends_free e ≡ true
    → ((a' : Actor) → list_any (unlinks_by a') (a ++ u) ≡ true → a' ≡ actor_of e)
    → is_being_freed_at (e ∷ a) u ≡ false
done_free e a [] ends h = refl
done_free e a (x ∷ u) ends h = gone (is_unlink x) (is_freed_by (actor_of x) e || list_any (is_freed_by (actor_of x)) a) by_unlink
  where
    by_unlink : is_unlink x ≡ true → (is_freed_by (actor_of x) e || list_any (is_freed_by (actor_of x)) a) ≡ true
    by_unlink is =
        let mine : unlinks_by (actor_of x) x ≡ true = rw (same_self_actor (actor_of x)) is in
        let own : actor_of x ≡ actor_of e = h (actor_of x) (list_any-append (unlinks_by (actor_of x)) a (x ∷ u)
        ∙ found (list_any (unlinks_by (actor_of x)) a) (unlinks_by (actor_of x) x) (list_any (unlinks_by (actor_of x)) u) mine) in
        let same : same_actor (actor_of x) (actor_of e) ≡ true = ap (same_actor (actor_of x)) (sym own) ∙ same_self_actor (actor_of x) in
        rw same (rw ends refl)

frees_only : (c : CallEntry) → ends_free c ≡ true → unlinks_one c ≡ false
frees_only (called.Unlink answer dev) h = cc
frees_only _ h = refl

no_unlink : (e : Entry) → is_call ends_free e ≡ true → is_unlink e ≡ false
no_unlink (by.CpuCall cpu call) h = frees_only call h
no_unlink (by.ThreadCall dev call) h = frees_only call h
no_unlink (by.DriverCall driver call) h = frees_only call h
no_unlink (by.Cpu cpu e) h = refl
no_unlink (by.Thread dev e) h = refl
no_unlink (by.Driver driver e) h = refl

-- if only its maker took devices off the line, the end of a free gives the mutex up
pub mutex_freed : (e : Entry) (past : List Entry) → is_call ends_free e ≡ true
    → ((a' : Actor) → list_any (unlinks_by a') past ≡ true → a' ≡ actor_of e) → holds_mutex (e ∷ past) ≡ false
mutex_freed e past ends h =
    ap (λ b. (b && not false) || some_place (λ a u. is_being_freed_at (e ∷ a) u) past) (no_unlink e ends)
    ∙ some_ext _ (λ a u. false) past (λ a u is. done_free e a u ends
    (λ x. subst (λ (xs : List Entry). list_any (unlinks_by x) xs ≡ true → x ≡ actor_of e) (sym is) (h x)))
    ∙ some_none past
