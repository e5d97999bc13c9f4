-- A pass that has seen a free of a device sees no later run of it without a request between.
use Rattle.std.proofs.Common.{◌≡◌, Bool, true, false, not, ◌&&◌, ◌||◌, List, [], ◌∷◌, ◌++◌, reverse, refl, sym, ap, subst, ◌∙◌, append_assoc}
use Rattle.std.proofs.lemmas.Bool.{false≢true, or_parts, and_from}
use Rattle.std.proofs.lemmas.List.{reverse-append}
use Rattle.std.specs.List.{list_any}
use Rattle.irq_base.specs.declared.numbers.DevNo.{DevNo}
use Rattle.irq_base.specs.declared.entries.Entry.{Entry}
use Rattle.irq_base.specs.declared.lines.LineDef.{LineDef}
use Rattle.irq_model.specs.Places.{EachEntry, stands}
use Rattle.irq_model.specs.Kinds.{is_freed, links_dev}
use Rattle.irq_model.specs.Laws.{is_run_of}
use Rattle.irq_model.specs.Legal.{IsLegal}
use Rattle.irq_model.specs.Valid.{IsValid}
use Rattle.irq_laws.proofs.RunLaws.{silent_after_free}

module _ {A : Type 0} where
  each_at : (P : A → List A → Type 0) (xs : List A) (e : A) (past : List A) → EachEntry P (xs ++ e ∷ past) → P e past
  each_at P [] e past h = h.0
  each_at P (x ∷ xs) e past h = each_at P xs e past h.1

  none_append : (q : A → Bool) (xs ys : List A) → list_any q xs ≡ false → list_any q ys ≡ false → list_any q (xs ++ ys) ≡ false
  none_append q [] ys none more = more
  none_append q (x ∷ xs) ys none more =
      let both = or_parts (q x) (list_any q xs) none in
      ap (λ t. t || list_any q (xs ++ ys)) both.0 ∙ none_append q xs ys both.1 more

  none_reverse : (q : A → Bool) (xs : List A) → list_any q xs ≡ false → list_any q (reverse xs) ≡ false
  none_reverse q [] none = none
  none_reverse q (x ∷ xs) none =
      let both = or_parts (q x) (list_any q xs) none in
      ap (list_any q) (reverse-append (x ∷ []) xs) ∙ none_append q (reverse xs) (x ∷ []) (none_reverse q xs both.1) (ap (λ t. t || false) both.0)

  stands_longer : (p q : A → Bool) (xs past : List A) → list_any q xs ≡ false → stands p q past ≡ true → stands p q (xs ++ past) ≡ true
  stands_longer p q [] past none there = there
  stands_longer p q (x ∷ xs) past none there =
      let both = or_parts (q x) (list_any q xs) none in
      by_test (stands_longer p q xs past both.1 there) both.0 (p x)
    where
      by_test : stands p q (xs ++ past) ≡ true → q x ≡ false → (t : Bool) → (t || (not (q x) && stands p q (xs ++ past))) ≡ true
      by_test rest off true = refl
      by_test rest off false = and_from (not (q x)) (stands p q (xs ++ past)) (ap not off) rest

pub free_seen : (def : LineDef) (seen more rest : List Entry) (e : Entry) (d : DevNo) → IsValid def → IsLegal def (seen ++ (more ++ e ∷ rest))
    → stands (is_freed d) (links_dev d) (reverse seen) ≡ true → is_run_of d e ≡ true → list_any (links_dev d) more ≡ true
free_seen def seen more rest e d valid legal freed run = by_test (list_any (links_dev d) more) refl
  where
    newest : reverse (seen ++ (more ++ e ∷ rest)) ≡ reverse rest ++ e ∷ (reverse more ++ reverse seen)
    newest =
        reverse-append seen (more ++ e ∷ rest)
        ∙ (ap (λ xs. xs ++ reverse seen) (reverse-append more (e ∷ rest) ∙ ap (λ xs. xs ++ reverse more) (reverse-append (e ∷ []) rest))
        ∙ (append_assoc (reverse rest ++ e ∷ []) (reverse more) (reverse seen) ∙ append_assoc (reverse rest) (e ∷ []) (reverse more ++ reverse seen)))

    silent : stands (is_freed d) (links_dev d) (reverse more ++ reverse seen) ≡ false
    silent = each_at (λ x past. (y : DevNo) → is_run_of y x ≡ true → stands (is_freed y) (links_dev y) past ≡ false)
        (reverse rest) e (reverse more ++ reverse seen)
        (subst (λ (xs : List Entry). EachEntry (λ x past. (y : DevNo) → is_run_of y x ≡ true
        → stands (is_freed y) (links_dev y) past ≡ false) xs) newest
        (silent_after_free def (seen ++ (more ++ e ∷ rest)) valid legal)) d run

    by_test : (t : Bool) → list_any (links_dev d) more ≡ t → list_any (links_dev d) more ≡ true
    by_test true is = is
    by_test false is = absurd (false≢true (sym silent ∙ stands_longer (is_freed d) (links_dev d) (reverse more)
        (reverse seen) (none_reverse (links_dev d) more is) freed))
