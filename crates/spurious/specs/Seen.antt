-- What is seen of a line's counts, and what each call makes of them.
use Rattle.std.specs.Prelude.{ℕ, ◌+◌, Bool}
use Rattle.irq_model.specs.Spurious.{Counts, Noted, noted}

pub record CountsSeen : Type 0 where
  -- how many rounds are counted before they are judged, and how many of them may be unhandled
  pub window : ℕ
  pub limit : ℕ
  pub counts : Counts

-- what the rule makes of a round
abbrev pub noted_at : ℕ → Bool → Bool → CountsSeen → Noted
noted_at now wake handled c = noted c.window c.limit now wake handled c.counts

-- the counts after the note of a round
abbrev pub after_note : ℕ → Bool → Bool → CountsSeen → CountsSeen
after_note now wake handled c = record c { counts = (noted_at now wake handled c).counts }

-- a thread's handler answered IRQ_HANDLED
abbrev pub after_thread : CountsSeen → CountsSeen
after_thread c =
    record c { counts = record c.counts { threads_handled = c.counts.threads_handled + 1 } }

-- the window begins anew
abbrev pub after_reset : CountsSeen → CountsSeen
after_reset c = record c { counts = record c.counts { irq_count = 0; irqs_unhandled = 0 } }
