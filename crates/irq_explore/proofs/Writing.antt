-- Writings in parts.
use Rattle.std.proofs.Common.{◌≡◌, ℕ, zero, suc, ◌<◌, Option, Some, List, [], ◌∷◌, ◌++◌, length, get_or, slice_get}
use Rattle.std.proofs.Common.{codes, decimal, refl, subst, arith, Result, Ok, Err}
use Rattle.irq_io.specs.declared.whole.WriteFailed.{WriteFailed}
use Rattle.irq_io.specs.Whole.{WritesAll}
use Rattle.board_report.proofs.Writing.{and_then, failed_within}

-- the item at an index
pub at_index : {X : Type 0} (xs : List X) (i : ℕ) (d : X) → i < length xs → slice_get xs i ≡ Some (get_or xs i d)
at_index [] i d within = absurd (omega (arith, within))
at_index (x ∷ xs) zero d within = refl
at_index (x ∷ xs) (suc i) d within = at_index xs i d (omega (arith, within))

module _ (a b c : Option (List ℕ)) (len : ℕ) (bytes row : List ℕ) (is : bytes ≡ decimal len ++ codes " ") where
  pub length_failed : (failed : WriteFailed) → WritesAll a b bytes (Err failed) → WritesAll a b (decimal len ++ codes " " ++ row) (Err failed)
  length_failed failed h = failed_within a b (decimal len ++ codes " ") row failed (subst (λ (xs : List ℕ). WritesAll a b xs (Err failed)) is h)

  pub length_done : (end : Result Unit WriteFailed) → WritesAll a b bytes (Ok tt) → WritesAll b c row end → WritesAll a c (decimal len ++ codes " " ++ row) end
  length_done end h k = and_then a b c (decimal len ++ codes " ") row end (subst (λ (xs : List ℕ). WritesAll a b xs (Ok tt)) is h) k
