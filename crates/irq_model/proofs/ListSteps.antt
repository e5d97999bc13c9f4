-- What one more entry, refused or not, makes of the list of linked devices; and that no device
-- stands twice in the list.
use Rattle.std.proofs.Common.{◌≡◌, ℕ, ◌+◌, ◌≤◌, Bool, true, false, not, ◌||◌, ◌&&◌, cond, List, [], ◌∷◌, ◌++◌, filter, refl, sym, ap, ◌∙◌, subst, arith}
use Rattle.irq_base.specs.declared.numbers.DevNo.{DevNo}
use Rattle.irq_base.specs.declared.numbers.DriverNo.{DriverNo}
use Rattle.irq_base.specs.declared.calls.Flags.{Flags}
use Rattle.irq_base.specs.declared.entries.Entry.{Entry}
use Rattle.irq_base.specs.declared.entries.Entry.TheVariants as by
use Rattle.irq_base.specs.declared.entries.DriverEntry.TheVariants as drivers
use Rattle.irq_base.specs.declared.entries.CallEntry.TheVariants as called
use Rattle.irq_base.specs.declared.entries.Errno.{Errno}
use Rattle.irq_base.specs.declared.entries.LinkAnswer.TheVariants as links
use Rattle.irq_base.specs.declared.entries.Opened.{Opened}
use Rattle.irq_base.specs.declared.entries.UnlinkAnswer.TheVariants as unlinks
use Rattle.irq_model.specs.Places.{count_of}
use Rattle.irq_model.specs.Kinds.{same_dev}
use Rattle.irq_model.specs.Links.{is_linked, requested, linked}
use Rattle.irq_model.proofs.Same.{same_self, dev_from_same}
use Rattle.irq_model.proofs.LinkSteps.{filter_same}

refused : (s l : Bool) → ((s && false) || (not false && l)) ≡ l
refused s l = grind arith

not_there : (s l : Bool) → (false || (not (s && false) && l)) ≡ l
not_there s l = grind arith

pub linked_refused : (r : DriverNo) (d : DevNo) (flags : Flags) (error : Errno) (o : Opened) (past : List Entry)
    → linked (by.Driver r (drivers.Request flags (links.Refused error) o d) ∷ past) ≡ linked past
linked_refused r d flags error o past = filter_same _ _ (requested past) (λ x. refused (same_dev x d) (is_linked past x))

pub linked_not_there : (r : DriverNo) (d : DevNo) (past : List Entry) → linked (by.DriverCall r (called.Unlink unlinks.NotThere d) ∷ past) ≡ linked past
linked_not_there r d past = filter_same _ _ (requested past) (λ x. not_there (same_dev x d) (is_linked past x))

-- ---- each device once

count_here : (b : Bool) (n m : ℕ) → n ≤ m → n ≤ cond b (m + 1) m
count_here true n m h = omega (arith, h)
count_here false n m h = h

count_both : (b : Bool) (n m : ℕ) → n ≤ m → cond b (n + 1) n ≤ cond b (m + 1) m
count_both true n m h = omega (arith, h)
count_both false n m h = h

pub count_filter : (p q : DevNo → Bool) (xs : List DevNo) → count_of p (filter q xs) ≤ count_of p xs
count_filter p q [] = omega arith
count_filter p q (x ∷ xs) = by_test (q x) (count_filter p q xs)
  where
    by_test : (b : Bool) → count_of p (filter q xs) ≤ count_of p xs → count_of p (cond b (x ∷ filter q xs) (filter q xs)) ≤ count_of p (x ∷ xs)
    by_test true h = count_both (p x) _ _ h
    by_test false h = count_here (p x) _ _ h

-- none is left of a device that is taken out
count_without : (d : DevNo) (xs : List DevNo) → count_of (same_dev d) (filter (λ x. not (same_dev x d)) xs) ≡ 0
count_without d [] = refl
count_without d (x ∷ xs) = by_test (same_dev x d) (same_dev d x) refl refl (count_without d xs)
  where
    by_test : (a b : Bool) → same_dev x d ≡ a → same_dev d x ≡ b → count_of (same_dev d) (filter (λ x. not (same_dev x d)) xs) ≡ 0
        → count_of (same_dev d) (cond (not (same_dev x d)) (x ∷ filter (λ x. not (same_dev x d)) xs) (filter (λ x. not (same_dev x d)) xs)) ≡ 0
    by_test true b is iq h = rw is h
    by_test false false is iq h = rw (is, iq) h
    by_test false true is iq h =
        let equal = dev_from_same d x iq in
        let same : same_dev x d ≡ true = subst (λ (y : DevNo). same_dev y d ≡ true) equal (same_self d) in
        let n : true ≡ false = sym same ∙ is in cc

count_last : (p : DevNo → Bool) (xs : List DevNo) (x : DevNo) → count_of p (xs ++ x ∷ []) ≡ count_of p xs + cond (p x) 1 0
count_last p [] x = at_end (p x)
  where
    at_end : (b : Bool) → cond b (0 + 1) 0 ≡ 0 + cond b 1 0
    at_end true = omega arith
    at_end false = omega arith
count_last p (y ∷ ys) x = at_head (p y) (count_of p ys) (cond (p x) 1 0) (count_of p (ys ++ x ∷ [])) (count_last p ys x)
  where
    at_head : (b : Bool) (n k m : ℕ) → m ≡ n + k → cond b (m + 1) m ≡ cond b (n + 1) n + k
    at_head true n k m h = omega (arith, h)
    at_head false n k m h = h

pub requested_once : (d : DevNo) (past : List Entry) → count_of (same_dev d) (requested past) ≤ 1
requested_once d [] = omega arith
requested_once d (by.Driver r (drivers.Request flags links.Linked o x) ∷ past) = by_test (same_dev d x) refl (requested_once d past)
  where
    last : count_of (same_dev d) (filter (λ y. not (same_dev y x)) (requested past) ++ x ∷ [])
        ≡ count_of (same_dev d) (filter (λ y. not (same_dev y x)) (requested past)) + cond (same_dev d x) 1 0
    last = count_last (same_dev d) (filter (λ y. not (same_dev y x)) (requested past)) x

    by_test : (b : Bool) → same_dev d x ≡ b → count_of (same_dev d) (requested past) ≤ 1
        → count_of (same_dev d) (filter (λ y. not (same_dev y x)) (requested past) ++ x ∷ []) ≤ 1
    by_test true is h =
        let equal = dev_from_same d x is in
        let none = subst (λ (z : DevNo). count_of (same_dev d) (filter (λ y. not (same_dev y z)) (requested past)) ≡ 0)
        equal (count_without d (requested past)) in
        let one : ◌≡◌ {A = ℕ} (cond (same_dev d x) 1 0) 1 = ap (λ (b : Bool). cond {A = ℕ} b 1 0) is in
        omega (arith, last, none, one)
    by_test false is h =
        let fewer = count_filter (same_dev d) (λ y. not (same_dev y x)) (requested past) in
        let zero : ◌≡◌ {A = ℕ} (cond (same_dev d x) 1 0) 0 = ap (λ (b : Bool). cond {A = ℕ} b 1 0) is in
        omega (arith, last, fewer, zero, h)
requested_once d (e ∷ past) = requested_once d past
