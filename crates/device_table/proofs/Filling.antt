-- A table in which one value after the other is set.
use Rattle.std.proofs.Common.{◌≡◌, ℕ, zero, suc, ◌+◌, List, [], ◌∷◌, length, refl, sym, ap, ◌∙◌, add-one}
use Rattle.indexmap.specs.IndexMap.{set_value_at}
use Rattle.irq_base.specs.declared.numbers.DevNo.{DevNo}
use Rattle.device_table.specs.Rows.{filled}

module _ {R : Type 0} where
  -- with this value at the first places
  abbrev pub filled_to : R → ℕ → List (DevNo × R) → List (DevNo × R)
  filled_to r zero t = t
  filled_to r (suc i) [] = []
  filled_to r (suc i) (e ∷ es) = (e.0, r) ∷ filled_to r i es

  one_more : (r : R) (i : ℕ) (t : List (DevNo × R)) → set_value_at (filled_to r i t) i r ≡ filled_to r (suc i) t
  one_more r zero [] = refl
  one_more r zero (e ∷ es) = refl
  one_more r (suc i) [] = refl
  one_more r (suc i) (e ∷ es) = ap (λ (t : List (DevNo × R)). (e.0, r) ∷ t) (one_more r i es)

  pub filled_next : (r : R) (i : ℕ) (t : List (DevNo × R)) → set_value_at (filled_to r i t) i r ≡ filled_to r (i + 1) t
  filled_next r i t = one_more r i t ∙ ap (λ n. filled_to r n t) (sym (add-one i))

  pub filled_all : (r : R) (t : List (DevNo × R)) → filled_to r (length t) t ≡ filled r t
  filled_all r [] = refl
  filled_all r (e ∷ es) = ap (λ (t : List (DevNo × R)). (e.0, r) ∷ t) (filled_all r es)

  pub length_filled : (r : R) (i : ℕ) (t : List (DevNo × R)) → length (filled_to r i t) ≡ length t
  length_filled r zero t = refl
  length_filled r (suc i) [] = refl
  length_filled r (suc i) (e ∷ es) = ap suc (length_filled r i es)
