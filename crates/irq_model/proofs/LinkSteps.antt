-- What one more entry makes of the linked devices and the depth.
use Rattle.std.proofs.Common.{◌≡◌, Bool, true, false, not, ◌||◌, ◌&&◌, cond, List, [], ◌∷◌, ◌++◌, filter, refl, sym, ap, ◌∙◌, arith}
use Rattle.std.proofs.lemmas.List.Elements.{filter-append}
use Rattle.irq_base.specs.declared.numbers.DevNo.{DevNo}
use Rattle.irq_base.specs.declared.numbers.DriverNo.{DriverNo}
use Rattle.irq_base.specs.declared.calls.Flags.{Flags}
use Rattle.irq_base.specs.declared.entries.Entry.{Entry}
use Rattle.irq_base.specs.declared.entries.Entry.TheVariants as by
use Rattle.irq_base.specs.declared.entries.DriverEntry.TheVariants as drivers
use Rattle.irq_base.specs.declared.entries.CallEntry.TheVariants as called
use Rattle.irq_base.specs.declared.entries.LinkAnswer.TheVariants as links
use Rattle.irq_base.specs.declared.entries.UnlinkAnswer.TheVariants as unlinks
use Rattle.irq_base.specs.declared.entries.Opened.{Opened}
use Rattle.irq_base.specs.declared.entries.Opened.TheVariants as opens
use Rattle.irq_base.specs.declared.entries.Resend.{Resend}
use Rattle.irq_model.specs.Kinds.{same_dev}
use Rattle.irq_model.specs.Links.{linked, is_linked, requested, depth}
use Rattle.irq_model.proofs.Same.{same_self}

pub filter_same : {A : Type 0} (p q : A → Bool) (xs : List A) → ((x : A) → p x ≡ q x) → filter p xs ≡ filter q xs
filter_same p q [] h = refl
filter_same p q (x ∷ xs) h = rw (h x, filter_same p q xs h) refl

both_at : {A : Type 0} (p q : A → Bool) (x : A) (xs : List A) (b : Bool) → q x ≡ b → filter p (filter q xs) ≡ filter (λ x. q x && p x) xs
    → filter p (filter q (x ∷ xs)) ≡ filter (λ x. q x && p x) (x ∷ xs)
both_at p q x xs true is h = rw (is, h) refl
both_at p q x xs false is h = rw (is, h) refl

pub filter_both : {A : Type 0} (p q : A → Bool) (xs : List A) → filter p (filter q xs) ≡ filter (λ x. q x && p x) xs
filter_both p q [] = refl
filter_both p q (x ∷ xs) = both_at p q x xs (q x) refl (filter_both p q xs)

others : (s l : Bool) → (not s && ((s && true) || (not false && l))) ≡ (l && not s)
others s l = grind arith

without : (s l : Bool) → (false || (not (s && true) && l)) ≡ (l && not s)
without s l = grind arith

-- a request that is linked makes its device the last of the list
pub linked_request : (r : DriverNo) (d : DevNo) (flags : Flags) (o : Opened) (past : List Entry)
    → linked (by.Driver r (drivers.Request flags links.Linked o d) ∷ past) ≡ filter (λ x. not (same_dev x d)) (linked past) ++ d ∷ []
linked_request r d flags o past =
    let e = by.Driver r (drivers.Request flags links.Linked o d) in
    filter-append (is_linked (e ∷ past)) (filter (λ x. not (same_dev x d)) (requested past)) (d ∷ [])
    ∙ ap (λ xs. xs ++ filter (is_linked (e ∷ past)) (d ∷ [])) (filter_both (is_linked (e ∷ past)) (λ x. not (same_dev x d)) (requested past)
    ∙ filter_same _ _ (requested past) (λ x. others (same_dev x d) (is_linked past x))
    ∙ sym (filter_both (λ x. not (same_dev x d)) (is_linked past) (requested past)))
    ∙ ap (λ b. filter (λ x. not (same_dev x d)) (linked past) ++ cond ((b && true) || (not false && is_linked past d)) (d ∷ []) []) (same_self d)

-- an unlink takes its device out
pub linked_unlink : (r : DriverNo) (d : DevNo) (last : Bool) (past : List Entry)
    → linked (by.DriverCall r (called.Unlink (unlinks.Unlinked last) d) ∷ past) ≡ filter (λ x. not (same_dev x d)) (linked past)
linked_unlink r d last past =
    filter_same _ _ (requested past) (λ x. without (same_dev x d) (is_linked past x))
    ∙ sym (filter_both (λ x. not (same_dev x d)) (is_linked past) (requested past))

-- a first request that starts the line makes the depth 0
pub depth_first : (r : DriverNo) (d : DevNo) (flags : Flags) (resend : Resend) (past : List Entry) → linked past ≡ []
    → depth (by.Driver r (drivers.Request flags links.Linked (opens.Started resend) d) ∷ past) ≡ 0
depth_first r d flags resend past none = rw none refl
