-- Calls after calls.
use Rattle.std.proofs.Common.{ℕ, List, [], ◌∷◌, ◌++◌, refl, sym, subst}
use Rattle.irq_base.specs.declared.numbers.CpuNo.{CpuNo}
use Rattle.irq_base.specs.declared.numbers.LineNo.{LineNo}
use Rattle.notifiers.specs.Told.{Notice, Told}

module _ {N : Type 0} (tells : N → LineNo → CpuNo → ℕ → N → Type 0) where
  -- calls, and then more calls
  pub told_more : (before after : List Notice) (h k m : N) → Told tells before h k → Told tells after k m → Told tells (before ++ after) h m
  told_more [] after h k m a b = subst (λ (x : N). Told tells after x m) (sym a) b
  told_more (notice ∷ notices) after h k m a b = (a.0, a.1, told_more notices after a.0 k m a.2 b)

  -- one call
  pub told_one : (notice : Notice) (h k : N) → tells h notice.line notice.cpu notice.queues k → Told tells (notice ∷ []) h k
  told_one notice h k called = (k, called, refl)
