-- Where a line stands among the others.
use Rattle.std.proofs.Common.{◌≡◌, ℕ, zero, suc, ◌+◌, ◌<◌, ◌≤◌, ◌⊎◌, inl, inr, Bool, true, false, ◌||◌, IsSomeAnd}
use Rattle.std.proofs.Common.{Option, Some, None, List, [], ◌∷◌, length, get_or, slice_get, refl, sym, ap, subst, ◌∙◌}
use Rattle.std.proofs.Common.{arith}
use Rattle.std.specs.List.{list_any}
use Rattle.irq_base.specs.declared.numbers.LineNo.{LineNo}
use Rattle.irq_model.specs.Kinds.{same_line}
use Rattle.irq_model.proofs.Same.{line_from_same}
use Rattle.irq_laws.proofs.Chosen.{the_same}
use Rattle.line_lock.specs.Passes.{LockSeen}
use Rattle.workers.specs.Fit.{numbers_of, IsPlaceOf}

-- none of the first lines has the number
abbrev pub ArePassed : List LockSeen → LineNo → ℕ → Type 0
ArePassed lines number i = (k : ℕ) (l : LockSeen) → k < i → slice_get lines k ≡ Some l → same_line l.def.line number ≡ false

number_there : (lines : List LockSeen) (i : ℕ) (d : LineNo) → i < length (numbers_of lines)
    → (l : LockSeen) × (slice_get lines i ≡ Some l) × (l.def.line ≡ get_or (numbers_of lines) i d)
number_there [] i d within = absurd (omega (arith, within))
number_there (l ∷ ls) zero d within = (l, refl, refl)
number_there (l ∷ ls) (suc i) d within = number_there ls i d (omega (arith, within))

module _ (lines : List LockSeen) (numbers : List LineNo) (number : LineNo) (i : ℕ) (d : LineNo)
    (are : numbers ≡ numbers_of lines) (within : i < length numbers) where
  pub is_here : same_line (get_or numbers i d) number ≡ true → IsPlaceOf lines number (Some i)
  is_here is =
      let t = number_there lines i d (subst (λ (ns : List LineNo). i < length ns) are within) in
      subst (λ (o : Option LockSeen). IsSomeAnd o (λ l. l.def.line ≡ number)) (sym t.1)
      (t.2 ∙ (ap (λ (ns : List LineNo). get_or ns i d) (sym are) ∙ line_from_same (get_or numbers i d) number is))

  pub one_more : same_line (get_or numbers i d) number ≡ false → ArePassed lines number i → ArePassed lines number (i + 1)
  one_more other passed k l less at = elim (two k i less) [
    | inl before ↦ passed k l before at
    | inr here ↦
        let t = number_there lines i d (subst (λ (ns : List LineNo). i < length ns) are within) in
        let same : t.0 ≡ l = the_same t.0 l (sym t.1 ∙ (ap (λ (n : ℕ). slice_get lines n) (sym here) ∙ at)) in
        ap (λ (x : LockSeen). same_line x.def.line number) (sym same)
        ∙ (ap (λ (n : LineNo). same_line n number) (t.2 ∙ ap (λ (ns : List LineNo). get_or ns i d) (sym are))
        ∙ other)
  ]
    where
      two : (k i : ℕ) → k < i + 1 → (k < i) ⊎ (k ≡ i)
      two k i h = grind arith

flipped : (a b : LineNo) → same_line a b ≡ false → same_line b a ≡ false
flipped a b h = grind (arith, h)

none_any : (lines : List LockSeen) (number : LineNo) →
    ((k : ℕ) (l : LockSeen) → slice_get lines k ≡ Some l → same_line l.def.line number ≡ false)
    → list_any (λ (l : LockSeen). same_line number l.def.line) lines ≡ false
none_any [] number none = refl
none_any (l ∷ ls) number none =
    ap (λ (b : Bool). b || list_any (λ (l : LockSeen). same_line number l.def.line) ls)
    (flipped l.def.line number (none 0 l refl)) ∙ none_any ls number (λ k l at. none (suc k) l at)

within_lines : (lines : List LockSeen) (k : ℕ) (l : LockSeen) → slice_get lines k ≡ Some l → k < length (numbers_of lines)
within_lines [] k l at = cc
within_lines (x ∷ xs) zero l at = omega arith
within_lines (x ∷ xs) (suc k) l at = let w = within_lines xs k l at in omega (arith, w)

pub nowhere : (lines : List LockSeen) (numbers : List LineNo) (number : LineNo) (i : ℕ) → numbers ≡ numbers_of lines
    → length numbers ≤ i → ArePassed lines number i → IsPlaceOf lines number None
nowhere lines numbers number i are end passed =
    none_any lines number (λ k l at. passed k l (let w = within_lines lines k l at in
    let e = ap (λ (ns : List LineNo). length ns) are in omega (arith, w, e, end)) at)
