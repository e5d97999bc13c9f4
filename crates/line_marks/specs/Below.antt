-- The rule's counts stay below the window.
use Rattle.std.specs.Prelude.{ℕ, ◌<◌, ◌≤◌}
use Rattle.irq_model.specs.Spurious.{Counts}

pub record IsBelow (window : ℕ) (c : Counts) : Type 0 where
  pub counted : c.irq_count < window
  pub unhandled : c.irqs_unhandled ≤ c.irq_count
