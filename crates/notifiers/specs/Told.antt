-- Of which placings notifiers were told.
use Rattle.std.specs.Prelude.{◌≡◌, ℕ, List, [], ◌∷◌}
use Rattle.irq_base.specs.declared.numbers.CpuNo.{CpuNo}
use Rattle.irq_base.specs.declared.numbers.LineNo.{LineNo}

-- a placing as it is told: the line, its processor, and how many queues the line has
pub record Notice : Type 0 where
  pub line : LineNo
  pub cpu : CpuNo
  pub queues : ℕ

-- The notifiers went from what they were to what they are by one call for each of these placings,
-- the oldest first, in this order, and by no other call. What one call is, `tells` says.
abbrev pub Told : {N : Type 0} → (tells : N → LineNo → CpuNo → ℕ → N → Type 0) → List Notice → N
    → N → Type 0
Told tells [] old new = old ≡ new
Told {N} tells (notice ∷ notices) old new =
    (between : N) × tells old notice.line notice.cpu notice.queues between
    × Told tells notices between new
