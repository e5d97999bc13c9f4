-- The devices that are linked, and the calls that linked them.
use Rattle.std.proofs.Common.{◌≡◌, ℕ, ◌⊎◌, inl, inr, Bool, true, false, not, ◌||◌, ◌&&◌, cond, Option, Some, List, []}
use Rattle.std.proofs.Common.{◌∷◌, filter, drop, length, nat_lt, All, refl, sym, ap, ◌∙◌, subst}
use Rattle.std.proofs.lemmas.Bool.{and_parts, and_from, or_cases, or_left, or_right}
use Rattle.std.proofs.lemmas.List.Folds.{list_any-append}
use Rattle.std.proofs.lemmas.List.Elements.{recursion_from_All}
use Rattle.std.specs.List.{list_any, AllByRecursion}
use Rattle.irq_base.specs.declared.numbers.DevNo.{DevNo}
use Rattle.irq_base.specs.declared.numbers.DriverNo.{DriverNo}
use Rattle.irq_base.specs.declared.calls.Call.{Call}
use Rattle.irq_base.specs.declared.entries.Entry.{Entry}
use Rattle.irq_base.specs.declared.entries.Entry.TheVariants as by
use Rattle.irq_base.specs.declared.entries.DriverEntry.TheVariants as drivers
use Rattle.irq_base.specs.declared.entries.LinkAnswer.TheVariants as links
use Rattle.irq_model.specs.Kinds.{same_dev, same_driver, links_dev, unlinks_dev}
use Rattle.irq_model.specs.Links.{is_linked, requested, linked}
use Rattle.irq_model.specs.Due.{calls_by, entries_of_call, due_of}
use Rattle.irq_model.proofs.Same.{dev_from_same}
use Rattle.irq_laws.proofs.Chosen.{chosen}
use Rattle.irq_laws.proofs.Lists.{any_imply, any_filter, stands_cases}
use Rattle.irq_laws.proofs.Progress.{same_call}

-- ---- what is linked was requested

pub was_linked : (past : List Entry) (d : DevNo) → is_linked past d ≡ true → list_any (links_dev d) past ≡ true
was_linked [] d h = h
was_linked (e ∷ past) d h = by_case (stands_cases (links_dev d e) (unlinks_dev d e) (is_linked past d) h) (was_linked past d)
  where
    by_case : (links_dev d e ≡ true) ⊎ ((unlinks_dev d e ≡ false) × (is_linked past d ≡ true))
        → (is_linked past d ≡ true → list_any (links_dev d) past ≡ true)
        → (links_dev d e || list_any (links_dev d) past) ≡ true
    by_case (inl now) deeper = or_left (links_dev d e) _ now
    by_case (inr was) deeper = or_right (links_dev d e) _ (deeper was.1)

kept_others : (x d : DevNo) (xs : List DevNo) → same_dev d x ≡ false → list_any (same_dev d) xs ≡ true
    → list_any (same_dev d) (filter (λ y. not (same_dev y x)) xs) ≡ true
kept_others x d xs differs h =
    any_filter (same_dev d) (λ y. not (same_dev y x)) xs ∙ any_imply (same_dev d) (λ y. not (same_dev y x) && same_dev d y) xs here h
  where
    here : (y : DevNo) → same_dev d y ≡ true → (not (same_dev y x) && same_dev d y) ≡ true
    here y same = and_from _ _ (subst (λ (z : DevNo). not (same_dev z x) ≡ true) (dev_from_same d y same) (ap not differs)) same

pub in_requested : (past : List Entry) (d : DevNo) → list_any (links_dev d) past ≡ true → list_any (same_dev d) (requested past) ≡ true
in_requested [] d h = h
in_requested (by.Driver driver (drivers.Request flags links.Linked opened dev) ∷ past) d h =
    list_any-append (same_dev d) (filter (λ y. not (same_dev y dev)) (requested past)) (dev ∷ []) ∙ by_test (same_dev d dev) refl (in_requested past d)
  where
    by_test : (b : Bool) → same_dev d dev ≡ b → (list_any (links_dev d) past ≡ true → list_any (same_dev d) (requested past) ≡ true)
        → (list_any (same_dev d) (filter (λ y. not (same_dev y dev)) (requested past)) || (same_dev d dev || false)) ≡ true
    by_test true is deeper = or_right _ _ (or_left (same_dev d dev) false is)
    by_test false is deeper =
        or_left _ _ (kept_others dev d (requested past) is (deeper (ap (λ (b : Bool). (b && true) || list_any (links_dev d) past) (sym is) ∙ h)))
in_requested (by.Driver driver (drivers.Request flags (links.Refused error) opened dev) ∷ past) d h
    = by_case (or_cases (same_dev d dev && false) _ h) (in_requested past d)
  where
    by_case : ((same_dev d dev && false) ≡ true) ⊎ (list_any (links_dev d) past ≡ true)
        → (list_any (links_dev d) past ≡ true → list_any (same_dev d) (requested past) ≡ true)
        → list_any (same_dev d) (requested past) ≡ true
    by_case (inl now) deeper = let n = (and_parts (same_dev d dev) false now).1 in cc
    by_case (inr was) deeper = deeper was
in_requested (e ∷ past) d h = in_requested past d h

-- a test that a linked device passes is passed by one of the list
pub of_linked : (p : DevNo → Bool) (past : List Entry) (d : DevNo) → is_linked past d ≡ true → p d ≡ true → list_any p (linked past) ≡ true
of_linked p past d there passes =
    any_filter p (is_linked past) (requested past) ∙ any_imply (same_dev d) (λ x. is_linked past x && p x)
    (requested past) here (in_requested past d (was_linked past d there))
  where
    here : (x : DevNo) → same_dev d x ≡ true → (is_linked past x && p x) ≡ true
    here x same = subst (λ (y : DevNo). (is_linked past y && p y) ≡ true) (dev_from_same d x same) (and_from _ _ there passes)

-- ---- the due call is one of the driver's

module _ (p : Call → Bool) where
  all_by : (r : DriverNo) (cs : List (DriverNo × Call)) → AllByRecursion (λ c. p c.1 ≡ true) cs → AllByRecursion (λ c. p c ≡ true) (calls_by r cs)
  all_by r [] h = tt
  all_by r (c ∷ cs) h = by_test (same_driver r c.0) (all_by r cs h.1)
    where
      by_test : (b : Bool) → AllByRecursion (λ c. p c ≡ true) (calls_by r cs) → AllByRecursion (λ c. p c ≡ true) (cond b (c.1 ∷ calls_by r cs) (calls_by r cs))
      by_test true rest = (h.0, rest)
      by_test false rest = rest

  pub one_of : (cs : List Call) (es : List Entry) (c : Call) (n : ℕ) → AllByRecursion (λ c. p c ≡ true) cs → due_of cs es ≡ Some (c, n) → p c ≡ true
  one_of [] es c n all h = cc
  one_of (x ∷ cs) es c n all h = by_case (chosen (nat_lt (length es) (entries_of_call x es)) (Some (x, length es))
      (due_of cs (drop (entries_of_call x es) es)) (c, n) h) (one_of cs (drop (entries_of_call x es) es) c n all.1)
    where
      by_case : ((nat_lt (length es) (entries_of_call x es) ≡ true)
          × (◌≡◌ {A = Option (Call × ℕ)} (Some (x, length es)) (Some (c, n))))
          ⊎ ((nat_lt (length es) (entries_of_call x es) ≡ false)
          × (due_of cs (drop (entries_of_call x es) es) ≡ Some (c, n)))
          → (due_of cs (drop (entries_of_call x es) es) ≡ Some (c, n) → p c ≡ true) → p c ≡ true
      by_case (inl now) deeper = subst (λ (y : Call). p y ≡ true) (same_call x c (length es) n now.1).0 all.0
      by_case (inr more) deeper = deeper more.1

  pub due_passes : (r : DriverNo) (cs : List (DriverNo × Call)) (es : List Entry) (c : Call) (n : ℕ)
      → All (λ c. p c.1 ≡ true) cs → due_of (calls_by r cs) es ≡ Some (c, n) → p c ≡ true
  due_passes r cs es c n all h = one_of (calls_by r cs) es c n (all_by r cs (recursion_from_All (λ c. p c.1 ≡ true) cs all)) h
