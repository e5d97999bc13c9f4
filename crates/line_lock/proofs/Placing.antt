-- The entries of an actor in a longer history.
use Rattle.std.proofs.Common.{◌≡◌, ℕ, suc, ◌+◌, ◌≤◌, Bool, true, false, cond, nat_lt, Option, Some, None, List, [], ◌∷◌}
use Rattle.std.proofs.Common.{◌++◌, length, take, drop, take-append-drop, take_all, ltb-true, ltb-false, refl, sym, ap}
use Rattle.std.proofs.Common.{subst, ◌∙◌, arith, append_assoc, append-nil}
use Rattle.std.proofs.lemmas.List.{append_cancel_left, take-append-le}
use Rattle.irq_base.specs.Who.{actor_of}
use Rattle.irq_base.specs.declared.entries.Actor.{Actor}
use Rattle.irq_base.specs.declared.entries.Entry.{Entry}
use Rattle.irq_model.specs.Kinds.{same_actor, is_by}
use Rattle.irq_model.proofs.Same.{same_self_actor}
use Rattle.line_lock.specs.Placed.{placed_from, placed, placed_of}
use Rattle.line_lock.specs.Knows.{BeginsWith, longer}
use Rattle.line_lock.specs.declared.view.Placed.{Placed}
use Rattle.line_lock.proofs.Actors.{differs}

-- ---- beginnings

pub begins_self : (h : List Entry) → BeginsWith h h
begins_self h = ([], sym (append-nil h))

pub begins_more : (a b c : List Entry) → BeginsWith a b → BeginsWith b c → BeginsWith a c
begins_more a b c x y = (y.0 ++ x.0, x.1 ∙ (ap (λ h. h ++ x.0) y.1 ∙ append_assoc c y.0 x.0))

either_begins : (h a b : List Entry) (c : Bool) → BeginsWith h a → BeginsWith h b → BeginsWith h (cond c b a)
either_begins h a b true x y = y
either_begins h a b false x y = x

pub longer_begins : (h a b : List Entry) → BeginsWith h a → BeginsWith h b → BeginsWith h (longer a b)
longer_begins h a b x y = either_begins h a b (nat_lt (length a) (length b)) x y

-- of two beginnings of one history the longer begins with either
shorter_begins : (h a b : List Entry) → BeginsWith h a → BeginsWith h b → length a ≤ length b → BeginsWith b a
shorter_begins h a b x y few =
    let same : take (length a) b ≡ a =
    sym (take-append-le (length a) b y.0 few) ∙ (ap (take (length a)) (sym y.1 ∙ x.1)
    ∙ (take-append-le (length a) a x.0 (omega arith) ∙ take_all (length a) a (omega arith))) in
    (drop (length a) b, sym (take-append-drop (length a) b) ∙ ap (λ xs. xs ++ drop (length a) b) same)

pub longer_begins_first : (h a b : List Entry) → BeginsWith h a → BeginsWith h b → BeginsWith (longer a b) a
longer_begins_first h a b x y = by_test (nat_lt (length a) (length b)) refl
  where
    by_test : (t : Bool) → nat_lt (length a) (length b) ≡ t → BeginsWith (cond t b a) a
    by_test true is = shorter_begins h a b x y (omega (arith, ltb-true (length a) (length b) is))
    by_test false is = begins_self a

pub longer_begins_second : (h a b : List Entry) → BeginsWith h a → BeginsWith h b → BeginsWith (longer a b) b
longer_begins_second h a b x y = by_test (nat_lt (length a) (length b)) refl
  where
    by_test : (t : Bool) → nat_lt (length a) (length b) ≡ t → BeginsWith (cond t b a) b
    by_test true is = begins_self b
    by_test false is = shorter_begins h b a y x (ltb-false (length a) (length b) is)

-- ---- placed in two parts

pub placed_parts : (who : Actor) (n : ℕ) (a b : List Entry)
    → placed_from who n (a ++ b) ≡ placed_from who n a ++ placed_from who (n + length a) b
placed_parts who n [] b = ap (λ k. placed_from who k b) (omega arith)
placed_parts who n (e ∷ a) b = by_test (placed_parts who (suc n) a b
    ∙ ap (λ k. placed_from who (suc n) a ++ placed_from who k b) (omega arith)) (is_by who e)
  where
    by_test : placed_from who (suc n) (a ++ b) ≡ placed_from who (suc n) a
        ++ placed_from who (n + length (e ∷ a)) b → (t : Bool)
        → cond t (record { place = n; entry = e } ∷ placed_from who (suc n) (a ++ b))
        (placed_from who (suc n) (a ++ b))
        ≡ cond t (record { place = n; entry = e } ∷ placed_from who (suc n) a) (placed_from who (suc n) a)
        ++ placed_from who (n + length (e ∷ a)) b
    by_test then true = ap (λ (xs : List Placed). record { place = n; entry = e } ∷ xs) then
    by_test then false = then

pub placed_begins : (who : Actor) (h s : List Entry) (b : BeginsWith h s)
    → placed who h ≡ placed who s ++ placed_from who (length s) b.0
placed_begins who h s b = ap (placed who) b.1
    ∙ (placed_parts who 0 s b.0 ∙ ap (λ k. placed who s ++ placed_from who k b.0) (omega arith))

-- ---- one more

pub placed_own : (who : Actor) (h : List Entry) (e : Entry) → actor_of e ≡ who
    → placed who (h ++ e ∷ []) ≡ placed who h ++ record { place = length h; entry = e } ∷ []
placed_own who h e by = placed_begins who (h ++ e ∷ []) h (e ∷ [], refl)
    ∙ ap (λ t. placed who h ++ cond t (record { place = length h; entry = e } ∷ []) [])
    (subst (λ a. same_actor who a ≡ true) (sym by) (same_self_actor who))

pub placed_other : (who : Actor) (h : List Entry) (e : Entry) → (who ≡ actor_of e → ⊥) → placed who (h ++ e ∷ []) ≡ placed who h
placed_other who h e apart =
    placed_begins who (h ++ e ∷ []) h (e ∷ [], refl)
    ∙ (ap (λ t. placed who h ++ cond t (record { place = length h; entry = e } ∷ []) [])
    (differs who (actor_of e) apart) ∙ append-nil (placed who h))

-- ---- nothing more

pub no_tail : {A : Type 0} (a b : List A) → a ++ b ≡ a → b ≡ []
no_tail a b same = append_cancel_left a b [] (same ∙ sym (append-nil a))

pub no_first : {A : Type 0} (a b : List A) → a ++ b ≡ [] → (a ≡ []) × (b ≡ [])
no_first [] b same = (refl, same)
no_first (x ∷ a) b same = absurd (omega (arith, ap length same))

-- who has no entries has none in a beginning
pub none_before : (who : Actor) (h s : List Entry) → BeginsWith h s → placed who h ≡ [] → placed who s ≡ []
none_before who h s b none = (no_first (placed who s) _ (sym (placed_begins who h s b) ∙ none)).0

-- what lies between two histories with the same entries of the actor has them too
pub between : (who : Actor) (h n s : List Entry) → BeginsWith h n → BeginsWith n s
    → placed who h ≡ placed who s → placed who n ≡ placed who s
between who h n s above below same =
    let first = placed_begins who h n above in
    let second = placed_begins who n s below in
    let all : placed who s ++ (placed_from who (length s) below.0 ++ placed_from who (length n) above.0) ≡ placed who s =
    sym (append_assoc (placed who s) (placed_from who (length s) below.0) (placed_from who (length n) above.0))
    ∙ (ap (λ xs. xs ++ placed_from who (length n) above.0) (sym second) ∙ (sym first ∙ same)) in
    let nothing = (no_first (placed_from who (length s) below.0) (placed_from who (length n) above.0) (no_tail (placed who s) _ all)).0 in
    second ∙ (ap (λ xs. placed who s ++ xs) nothing ∙ append-nil (placed who s))

pub between_of : (o : Option Actor) (h n s : List Entry) → BeginsWith h n → BeginsWith n s
    → placed_of o h ≡ placed_of o s → placed_of o n ≡ placed_of o s
between_of None h n s above below same = refl
between_of (Some who) h n s above below same = between who h n s above below same

-- the history is what is seen of it, when that has the entries of every actor
pub all_seen : (h s : List Entry) → BeginsWith h s → ((who : Actor) → placed who h ≡ placed who s) → h ≡ s
all_seen h s b same = by_rest b.0 b.1
  where
    by_rest : (rest : List Entry) → h ≡ s ++ rest → h ≡ s
    by_rest [] is = is ∙ append-nil s
    by_rest (e ∷ rest) is =
        let who = actor_of e in
        let none : placed_from who (length s) (e ∷ rest)
        ≡ [] = no_tail (placed who s) _ (sym (placed_begins who h s (e ∷ rest, is)) ∙ same who) in
        let some_first : cond (is_by who e) (record { place = length s; entry = e }
        ∷ placed_from who (suc (length s)) rest) (placed_from who (suc (length s)) rest)
        ≡ record { place = length s; entry = e } ∷ placed_from who (suc (length s)) rest =
        ap (λ t. cond t (record { place = length s; entry = e } ∷ placed_from who (suc (length s)) rest)
        (placed_from who (suc (length s)) rest)) (same_self_actor who) in
        absurd (omega (arith, ap length (sym some_first ∙ none)))
