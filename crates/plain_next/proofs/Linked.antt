-- The linked devices with one more entry.
use Rattle.std.proofs.Common.{◌≡◌, Bool, true, false, not, ◌&&◌, ◌||◌, cond, List, [], ◌∷◌, ◌++◌, Some, is_some, refl, sym, ap, subst, ◌∙◌, eq-eqb}
use Rattle.std.specs.List.{filter}
use Rattle.std.proofs.lemmas.List.Elements.{filter-append, filter_agree}
use Rattle.irq_base.specs.declared.numbers.DevNo.{DevNo}
use Rattle.irq_base.specs.declared.numbers.DriverNo.{DriverNo}
use Rattle.irq_base.specs.declared.calls.Flags.{Flags}
use Rattle.irq_base.specs.declared.entries.Entry.{Entry}
use Rattle.irq_base.specs.declared.entries.Entry.TheVariants as by
use Rattle.irq_base.specs.declared.entries.DriverEntry.TheVariants as drivers
use Rattle.irq_base.specs.declared.entries.CallEntry.{CallEntry}
use Rattle.irq_base.specs.declared.entries.CallEntry.TheVariants as called
use Rattle.irq_base.specs.declared.entries.Opened.{Opened}
use Rattle.irq_base.specs.declared.entries.LinkAnswer.TheVariants as links
use Rattle.irq_base.specs.declared.entries.UnlinkAnswer.TheVariants as unlinks
use Rattle.irq_model.specs.Kinds.{same_dev, unlinks_this}
use Rattle.irq_model.specs.Links.{linked, requested, is_linked}
use Rattle.plain_next.specs.Calls.{dev_linked, dev_unlinked, dev_unlinked_in}

-- the devices other than d
abbrev pub without : DevNo → List DevNo → List DevNo
without d ds = filter (λ x. not (same_dev x d)) ds

filter-filter : {A : Type 0} (p q : A → Bool) (xs : List A) → filter p (filter q xs) ≡ filter (λ x. q x && p x) xs
filter-filter p q [] = refl
filter-filter p q (x ∷ xs) =
    elim (q x) as (λ b. filter p (cond b (x ∷ filter q xs) (filter q xs)) ≡ cond (b && p x) (x ∷ filter (λ y. q y && p y) xs) (filter (λ y. q y && p y) xs)) [
      | true ↦ ap (λ ys. cond (p x) (x ∷ ys) ys) (filter-filter p q xs)
      | false ↦ filter-filter p q xs
    ]

linked_else : (s q : Bool) → (not s && ((s && true) || (true && q))) ≡ (q && not s)
linked_else true true = refl
linked_else true false = refl
linked_else false true = refl
linked_else false false = refl

kept_else : (s q : Bool) → (false || (not (s && true) && q)) ≡ (q && not s)
kept_else true true = refl
kept_else true false = refl
kept_else false true = refl
kept_else false false = refl

pub same_self : (d : DevNo) → same_dev d d ≡ true
same_self d = eq-eqb d.0 d.0 refl

-- a request that is linked puts its device last
linked_more : (driver : DriverNo) (dev : DevNo) (flags : Flags) (opened : Opened) (past : List Entry)
    → linked (by.Driver driver (drivers.Request flags links.Linked opened dev) ∷ past) ≡ without dev (linked past) ++ dev ∷ []
linked_more driver dev flags opened past =
    let now = is_linked (by.Driver driver (drivers.Request flags links.Linked opened dev) ∷ past) in
    let others : filter now (without dev (requested past)) ≡ without dev (linked past) =
    filter-filter now (λ x. not (same_dev x dev)) (requested past)
    ∙ (filter_agree (λ x. not (same_dev x dev) && now x) (λ x. is_linked past x && not (same_dev x dev))
    (λ x. linked_else (same_dev x dev) (is_linked past x)) (requested past)
    ∙ sym (filter-filter (λ x. not (same_dev x dev)) (is_linked past) (requested past))) in
    let itself : filter now (dev ∷ []) ≡ dev ∷ [] = ap (λ b. cond ((b && true) || (not false && is_linked past dev)) (dev ∷ []) []) (same_self dev) in
    filter-append now (without dev (requested past)) (dev ∷ [])
    ∙ (ap (λ ds. ds ++ filter now (dev ∷ [])) others ∙ ap (λ ds. without dev (linked past) ++ ds) itself)

pub linked_request : (e : Entry) (dev : DevNo) (past : List Entry) → Some dev ≡ dev_linked e → linked (e ∷ past) ≡ without dev (linked past) ++ dev ∷ []
linked_request (by.Driver driver (drivers.Request flags links.Linked opened d)) dev past h =
    let h' : Some dev ≡ Some d = h in
    let same : d ≡ dev = cc in
    subst (λ x. linked (by.Driver driver (drivers.Request flags links.Linked opened d) ∷ past) ≡ without x (linked past) ++ x ∷ []) same
    (linked_more driver d flags opened past)
linked_request _ dev past h = let no : true ≡ false = ap is_some h in cc

-- what the step of a call leaves linked
abbrev left : CallEntry → List Entry → List DevNo
left call past = filter (λ d. false || (not (unlinks_this d call) && is_linked past d)) (requested past)

left_without : (call : CallEntry) (dev : DevNo) (past : List Entry) → Some dev ≡ dev_unlinked_in (Some call) → left call past ≡ without dev (linked past)
left_without (called.Unlink (unlinks.Unlinked last) d) dev past h =
    let h' : Some dev ≡ Some d = h in
    let same : d ≡ dev = cc in
    subst (λ x. left (called.Unlink (unlinks.Unlinked last) d) past ≡ without x (linked past)) same
    (filter_agree _ (λ x. is_linked past x && not (same_dev x d)) (λ x. kept_else (same_dev x d) (is_linked past x)) (requested past)
    ∙ sym (filter-filter (λ x. not (same_dev x d)) (is_linked past) (requested past)))
left_without _ dev past h = let no : true ≡ false = ap is_some h in cc

-- an unlink takes its device out, whoever makes it
pub linked_unlink : (e : Entry) (dev : DevNo) (past : List Entry) → Some dev ≡ dev_unlinked e → linked (e ∷ past) ≡ without dev (linked past)
linked_unlink (by.CpuCall cpu call) dev past h = left_without call dev past h
linked_unlink (by.ThreadCall d call) dev past h = left_without call dev past h
linked_unlink (by.DriverCall driver call) dev past h = left_without call dev past h
linked_unlink _ dev past h = let no : true ≡ false = ap is_some h in cc
