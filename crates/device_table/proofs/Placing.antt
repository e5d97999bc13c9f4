-- The row at a place, and the row that a device's number finds.
use Rattle.std.proofs.Common.{◌≡◌, ℕ, zero, suc, Bool, true, false, cond, List, [], ◌∷◌, slice_get, sym, ap, ◌∙◌}
use Rattle.std.specs.List.{AllByRecursion, IsDistinct}
use Rattle.std.specs.Map.{keys_of}
use Rattle.indexmap.specs.IndexMap.{set_value_at}
use Rattle.irq_base.specs.declared.numbers.DevNo.{DevNo}
use Rattle.irq_model.specs.Kinds.{same_dev}
use Rattle.irq_model.proofs.Same.{dev_from_same, same_both}
use Rattle.device_table.specs.Rows.{put, is_row_of}

module _ {R : Type 0} where
  -- a device that stands at some place differs from a device that no row has
  apart_at : (es : List (DevNo × R)) (k d : DevNo) (i : ℕ) → AllByRecursion (λ y. same_dev k y ≡ false) (keys_of es)
      → is_row_of d (slice_get es i) ≡ true → same_dev d k ≡ false
  apart_at [] k d i h there = cc
  apart_at (e ∷ es) k d zero h there = same_both d k ∙ (ap (same_dev k) (dev_from_same d e.0 there) ∙ h.0)
  apart_at (e ∷ es) k d (suc i) h there = apart_at es k d i h.1 there

  -- a value that is set at the device's place is the device's
  pub put_at : (es : List (DevNo × R)) (d : DevNo) (r : R) (i : ℕ) → IsDistinct same_dev (keys_of es)
      → is_row_of d (slice_get es i) ≡ true → set_value_at es i r ≡ put es d r
  unfolding IsDistinct
  put_at [] d r i own there = cc
  put_at (e ∷ es) d r zero own there = sym (ap (λ b. cond b ((e.0, r) ∷ es) (e ∷ put es d r)) there)
  put_at (e ∷ es) d r (suc i) own there =
      ap (λ (t : List (DevNo × R)). e ∷ t) (put_at es d r i own.1 there)
      ∙ sym (ap (λ b. cond b ((e.0, r) ∷ es) (e ∷ put es d r)) (apart_at es e.0 d i own.0 there))
