-- The counts of the rule as the code keeps them, and how they stay within the window.
use Rattle.std.specs.Prelude.{◌≡◌, ℕ, ◌<◌, ◌≤◌}
use Rattle.irq_model.specs.Spurious as rule
use Rattle.spurious.specs.declared.tally.Tally.{Tally}
use Rattle.spurious.specs.declared.tally.Noted.{Noted}

abbrev pub rule_counts : Tally → rule.Counts
rule_counts t = record {
  irq_count = t.irq_count;
  irqs_unhandled = t.irqs_unhandled;
  threads_handled = t.threads_handled;
  deferred = t.deferred;
  last = t.last;
  last_unhandled = t.last_unhandled;
}

-- the counts stay below the window
pub record IsWithin (window : ℕ) (t : Tally) : Type 0 where
  pub counted : t.irq_count < window
  pub unhandled : t.irqs_unhandled ≤ t.irq_count

-- the note and the counts of the rule
abbrev pub IsNoted : Noted → rule.Noted → Type 0
IsNoted r noted = (r.note ≡ noted.note) × (rule_counts r.tally ≡ noted.counts)
