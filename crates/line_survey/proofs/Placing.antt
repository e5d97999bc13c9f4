-- The row of a way, looked for among the rows.
use Rattle.std.proofs.Common.{◌≡◌, ◌⊎◌, ◌<◌, ◌≤◌, ◌+◌, ℕ, inl, inr, true, false, List, Some, length, slice_get, get_or, ap, sym, subst, ◌∙◌, arith}
use Rattle.std.proofs.lemmas.Bool.{cases_lt}
use Rattle.std.proofs.lemmas.Option.{slice_get_within, slice_get-get_or}
use Rattle.line_wanted.specs.contracts.left.LeftPartialEq.TheImpl as left_eq
use Rattle.line_wanted.specs.declared.left.Left.{Left}
use Rattle.state_search.proofs.Places.{one_at}
use Rattle.line_survey.proofs.Lefts.{same_left}
use Rattle.line_survey.proofs.Meeting.{other_left}
use Rattle.line_survey.specs.declared.survey.RestRow.{RestRow}

module _ (rests : List RestRow) (left : Left) where
  pub placed : (i : ℕ) (d : RestRow) → i < length rests → (left_eq.eq-value).it (get_or rests i d).left left ≡ true
      → (x : RestRow) × (slice_get rests i ≡ Some x) × (x.left ≡ left)
  placed i d inside h = (get_or rests i d, slice_get-get_or rests i d inside, same_left (get_or rests i d).left left h)

  pub passed : (i : ℕ) (d : RestRow) → i < length rests → (left_eq.eq-value).it (get_or rests i d).left left ≡ false
      → ((k : ℕ) → k < i → (r : RestRow) → slice_get rests k ≡ Some r → r.left ≡ left → ⊥)
      → (k : ℕ) → k < i + 1 → (r : RestRow) → slice_get rests k ≡ Some r → r.left ≡ left → ⊥
  passed i d inside h before k less r at = by (cases_lt k i)
    where
      by : (k < i) ⊎ (i ≤ k) → r.left ≡ left → ⊥
      by (inl lower) = before k lower r at
      by (inr ge) =
          let e : k ≡ i = omega (arith, less, ge) in
          let one = one_at rests i r (get_or rests i d) (subst (λ m. slice_get rests m ≡ Some r) e at) (slice_get-get_or rests i d inside) in
          λ is. other_left (get_or rests i d).left left h (ap (λ (x : RestRow). x.left) (sym one) ∙ is)

  pub absent : (i : ℕ) → length rests ≤ i → ((k : ℕ) → k < i → (r : RestRow) → slice_get rests k ≡ Some r → r.left ≡ left → ⊥)
      → (k : ℕ) → (r : RestRow) → slice_get rests k ≡ Some r → r.left ≡ left → ⊥
  absent i all before k r at =
      let inside : k < length rests = slice_get_within rests k r at in
      before k (omega (arith, inside, all)) r at
