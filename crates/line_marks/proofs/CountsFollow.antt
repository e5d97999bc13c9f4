-- The counts of the rule on spurious interrupts follow the history.
use Rattle.std.proofs.Common.{◌≡◌, ℕ, ◌+◌, Bool, true, false, cond, List, ◌∷◌, refl}
use Rattle.irq_base.specs.declared.entries.Entry.{Entry}
use Rattle.irq_base.specs.declared.entries.Entry.TheVariants as by
use Rattle.irq_base.specs.declared.entries.CpuEntry.TheVariants as cpus
use Rattle.irq_base.specs.declared.entries.ThreadEntry.TheVariants as threads
use Rattle.irq_base.specs.declared.entries.DriverEntry.TheVariants as drivers
use Rattle.irq_base.specs.declared.entries.LinkAnswer.TheVariants as links
use Rattle.irq_base.specs.declared.lines.LineDef.{LineDef}
use Rattle.irq_base.specs.declared.numbers.DevNo.{DevNo}
use Rattle.irq_model.specs.Spurious.{Counts, counts_of}
use Rattle.spurious.specs.Seen.{CountsSeen, after_thread}
use Rattle.line_marks.specs.Counts.{tally_of, tally_after}
use Rattle.line_marks.specs.Rounds.{round_of}

thread_more : (def : LineDef) (d : DevNo) (handled : Bool) (n : ℕ) (past : List Entry)
    → tally_of def (by.Thread d (threads.Return handled n) ∷ past) ≡ cond handled (after_thread (tally_of def past))
    (tally_of def past)
thread_more def d handled n past = by_test handled
  where
    c : Counts
    c = counts_of def past

    seen : Counts → CountsSeen
    seen k = record { window = def.window; limit = def.limit; counts = k }

    by_test : (b : Bool) → seen (cond b (record c { threads_handled = c.threads_handled + 1 }) c) ≡ cond b (after_thread (seen c)) (seen c)
    by_test true = refl
    by_test false = refl

pub tally_more : (def : LineDef) (e : Entry) (past : List Entry) → tally_of def (e ∷ past) ≡ tally_after e (round_of def past) (tally_of def past)
tally_more def (by.Thread d (threads.Return handled n)) past = thread_more def d handled n past
tally_more def (by.Driver r (drivers.Request flags links.Linked opened d)) past = refl
tally_more def (by.Driver r (drivers.Request flags (links.Refused error) opened d)) past = refl
tally_more def (by.Cpu c (cpus.End again unmask note)) past = refl
tally_more def _ past = refl
