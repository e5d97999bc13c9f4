-- The rule on spurious interrupts (`note_interrupt`, `kernel/irq/spurious.c`). As in Linux, its
-- counts are carried along, entry by entry; no other definition of the model is such a fold. Times
-- are the moments that drivers hand in.
use Rattle.std.specs.Prelude.{ℕ, ◌+◌, ◌-◌, max, Bool, true, false, not, ◌&&◌, ◌==◌, if◌then◌else◌}
use Rattle.std.specs.Prelude.{List, [], ◌∷◌, nat_lt}
use Rattle.std.specs.List.{list_any}
use Rattle.irq_base.specs.declared.lines.LineDef.{LineDef}
use Rattle.irq_base.specs.declared.entries.Entry.{Entry}
use Rattle.irq_base.specs.declared.entries.Entry.TheVariants as by
use Rattle.irq_base.specs.declared.entries.CpuEntry.TheVariants as cpus
use Rattle.irq_base.specs.declared.entries.ThreadEntry.TheVariants as threads
use Rattle.irq_base.specs.declared.entries.DriverEntry.TheVariants as drivers
use Rattle.irq_base.specs.declared.entries.Note.{Note}
use Rattle.irq_base.specs.declared.entries.Note.TheVariants as notes
use Rattle.irq_base.specs.declared.entries.LinkAnswer.TheVariants as links
use Rattle.irq_model.specs.Kinds.{returns_wake, returns_handled}
use Rattle.irq_model.specs.Rounds.{round}

-- what the line keeps for the rule
pub record Counts : Type 0 where
  -- the ends that the open window has counted
  pub irq_count : ℕ
  -- the ends of the open window that were unhandled
  pub irqs_unhandled : ℕ
  -- the runs of threads that answered IRQ_HANDLED
  pub threads_handled : ℕ
  -- an end woke a thread and waits to be judged by what the threads did
  pub deferred : Bool
  -- what `threads_handled` was when an end was last judged by it
  pub last : ℕ
  -- the moment of the last unhandled end
  pub last_unhandled : ℕ

abbrev pub no_counts : Counts
no_counts = record {
  irq_count = 0;
  irqs_unhandled = 0;
  threads_handled = 0;
  deferred = false;
  last = 0;
  last_unhandled = 0;
}

pub record Noted : Type 0 where
  pub note : Note
  pub counts : Counts

-- counts one more end of the window, unless all its ends were handled; at the window's end the
-- unhandled ends are judged
abbrev pub counted : ℕ → ℕ → Counts → Noted
counted window limit c =
    if c.irqs_unhandled == 0 then record { note = notes.Quiet; counts = c }
    else (if nat_lt (c.irq_count + 1) window
    then record { note = notes.Counted; counts = record c { irq_count = c.irq_count + 1 } }
    else record {
      note = if nat_lt limit c.irqs_unhandled then notes.Killed else notes.Counted;
      counts = record c { irq_count = 0; irqs_unhandled = 0 };
    })

-- an unhandled end; if it comes long after the last unhandled one, it begins the count anew
abbrev pub unhandled : ℕ → Counts → Counts
unhandled now c = record c {
  irqs_unhandled = (if nat_lt 100 (now - c.last_unhandled) then 1 else c.irqs_unhandled + 1);
  last_unhandled = now;
}

abbrev pub judged : ℕ → ℕ → ℕ → Bool → Counts → Noted
judged window limit now handled c = counted window limit (if handled then c else unhandled now c)

-- An end whose round woke threads alone: judged at the next by whether a thread has served since.
-- Why deferred: at the end nobody knows yet whether the thread will find the device in need.
abbrev pub judged_by_threads : ℕ → ℕ → ℕ → Counts → Noted
judged_by_threads window limit now c =
    if c.threads_handled == c.last then judged window limit now false c
    else judged window limit now true (record c { last = c.threads_handled })

-- the note of an end, by the union of the answers of its round, and what the line keeps after it
abbrev pub noted : ℕ → ℕ → ℕ → Bool → Bool → Counts → Noted
noted window limit now wake handled c =
    if wake && not handled
    then (if c.deferred then judged_by_threads window limit now c
    else record { note = notes.Quiet; counts = record c { deferred = true } })
    else judged window limit now handled (if wake then record c { deferred = false } else c)

-- the greatest moment handed in
abbrev pub now : List Entry → ℕ
now [] = 0
now (by.Driver driver (drivers.Moment at) ∷ past) = max at (now past)
now (_ ∷ past) = now past

-- some handler of the round woke its thread, or handled
abbrev pub round_wakes : LineDef → List Entry → Bool
round_wakes def past = list_any returns_wake (round def past)

abbrev pub round_handles : LineDef → List Entry → Bool
round_handles def past = list_any returns_handled (round def past)

-- what an end makes of the counts
abbrev pub noted_end : LineDef → List Entry → Counts → Noted
noted_end def past c =
    noted def.window def.limit (now past) (round_wakes def past) (round_handles def past) c

abbrev pub counts_of : LineDef → List Entry → Counts
counts_of def [] = no_counts
counts_of def (by.Thread dev (threads.Return handled served) ∷ past) =
    let c = counts_of def past in (if handled
    then record c { threads_handled = c.threads_handled + 1 } else c)
counts_of def (by.Driver driver (drivers.Request flags links.Linked opened dev) ∷ past) =
    record (counts_of def past) { irq_count = 0; irqs_unhandled = 0 }
counts_of def (by.Cpu cpu (cpus.End again unmask note) ∷ past) =
    (noted_end def past (counts_of def past)).counts
counts_of def (_ ∷ past) = counts_of def past

-- the note of an end that comes now
abbrev pub note_of : LineDef → List Entry → Note
note_of def past = (noted_end def past (counts_of def past)).note
