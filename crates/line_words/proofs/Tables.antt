-- Tables by a function of the device, and what is looked up in them.
use Rattle.std.proofs.Common.{◌≡◌, ℕ, Bool, true, false, ◌||◌, Some, List, [], ◌∷◌, refl, sym, ap, ◌∙◌}
use Rattle.std.specs.Prelude.{unwrap_or}
use Rattle.std.specs.List.{list_any}
use Rattle.irq_base.specs.declared.devices.DeviceDef.{DeviceDef}
use Rattle.irq_base.specs.declared.numbers.DevNo.{DevNo}
use Rattle.irq_model.specs.Kinds.{same_dev}
use Rattle.irq_model.specs.Lines.{is_device}
use Rattle.irq_model.proofs.Same.{same_self}
use Rattle.device_table.proofs.Tables.{at_device}
use Rattle.device_table.specs.Rows.{at, table_by}
use Rattle.line_words.specs.Told.{rows_words}
use Rattle.line_words.specs.Words.{table_words}

module _ {R : Type 0} (words : R → List ℕ → List ℕ) (f : DevNo → R) (none : R) (t : List (DevNo × R)) where
  abbrev pub looked : DevNo → List ℕ → List ℕ
  looked d rest = words (unwrap_or (at t d) none) rest

  pub rows_told : (xs : List DeviceDef) (rest : List ℕ) → ((d : DevNo) → list_any (is_device d) xs ≡ true → at t d ≡ Some (f d))
      → rows_words looked xs rest ≡ table_words words (table_by f xs) rest
  rows_told [] rest there = refl
  rows_told (x ∷ xs) rest there =
      ap (λ o. words (unwrap_or o none) (rows_words looked xs rest)) (there x.dev (ap (λ b. b || list_any (is_device x.dev) xs) (same_self x.dev)))
      ∙ ap (words (f x.dev)) (rows_told xs rest (λ d h. there d (more d h (same_dev d x.dev))))
    where
      more : (d : DevNo) → list_any (is_device d) xs ≡ true → (b : Bool) → (b || list_any (is_device d) xs) ≡ true
      more d h true = refl
      more d h false = h

  -- of a table, what is looked up device by device is the table
  pub table_told : (xs : List DeviceDef) (rest : List ℕ) → t ≡ table_by f xs → rows_words looked xs rest ≡ table_words words t rest
  table_told xs rest is =
      rows_told xs rest (λ d there. ap (λ (u : List (DevNo × R)). at u d) is ∙ at_device f xs d there)
      ∙ ap (λ (u : List (DevNo × R)). table_words words u rest) (sym is)
