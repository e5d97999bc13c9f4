-- The counts of the rule on spurious interrupts, read off a line's past, and what an entry makes of
-- them.
use Rattle.std.specs.Prelude.{if◌then◌else◌, List}
use Rattle.irq_base.specs.declared.entries.Entry.{Entry}
use Rattle.irq_base.specs.declared.entries.Entry.TheVariants as by
use Rattle.irq_base.specs.declared.entries.CpuEntry.TheVariants as cpus
use Rattle.irq_base.specs.declared.entries.ThreadEntry.TheVariants as threads
use Rattle.irq_base.specs.declared.entries.DriverEntry.TheVariants as drivers
use Rattle.irq_base.specs.declared.entries.LinkAnswer.TheVariants as links
use Rattle.irq_base.specs.declared.lines.LineDef.{LineDef}
use Rattle.irq_model.specs.Spurious.{counts_of}
use Rattle.spurious.specs.Seen.{CountsSeen, after_note, after_thread, after_reset}
use Rattle.line_marks.specs.Rounds.{RoundSeen}

-- the counts of the rule, with the window and the limit of the line
abbrev pub tally_of : LineDef → List Entry → CountsSeen
tally_of def past = record { window = def.window; limit = def.limit; counts = counts_of def past }

-- what an entry makes of the counts; the round is the one before the entry
abbrev pub tally_after : Entry → RoundSeen → CountsSeen → CountsSeen
tally_after (by.Thread dev (threads.Return handled served)) r c
    = if handled then after_thread c else c
tally_after (by.Driver driver (drivers.Request flags links.Linked opened dev)) r c = after_reset c
tally_after (by.Cpu cpu (cpus.End again unmask note)) r c = after_note r.moment r.wakes r.handles c
tally_after _ r c = c
