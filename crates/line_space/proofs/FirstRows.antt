-- The states of `boards/first.board`, worked out by hand: nineteen, two of them reached on two
-- ways each, and twenty entries that are due in them.
use Rattle.std.specs.Prelude.{◌≡◌, List, [], ◌∷◌, ℕ, ◌+◌, ◌==◌, ◌&&◌, not, Bool, refl, true, false, is_some, map}
use Rattle.std.specs.List.{list_any}
use Rattle.irq_base.specs.declared.numbers.LineNo.{LineNo}
use Rattle.irq_base.specs.declared.numbers.CpuNo.{CpuNo}
use Rattle.irq_base.specs.declared.numbers.DevNo.{DevNo}
use Rattle.irq_base.specs.declared.numbers.DriverNo.{DriverNo}
use Rattle.irq_base.specs.declared.calls.Flags.{Flags}
use Rattle.irq_base.specs.declared.calls.Call.TheVariants as calls
use Rattle.irq_base.specs.declared.devices.Kind.TheVariants as kinds
use Rattle.irq_base.specs.declared.devices.Answer.TheVariants as answers
use Rattle.irq_base.specs.declared.lines.Trigger.TheVariants as triggers
use Rattle.irq_base.specs.declared.lines.FlowKind.TheVariants as flows
use Rattle.irq_base.specs.declared.lines.LineDef.{LineDef}
use Rattle.irq_base.specs.declared.entries.Actor.TheVariants as actors
use Rattle.irq_base.specs.declared.entries.Entry.{Entry}
use Rattle.irq_base.specs.declared.entries.Entry.TheVariants as by
use Rattle.irq_base.specs.declared.entries.CpuEntry.TheVariants as cpus
use Rattle.irq_base.specs.declared.entries.DriverEntry.TheVariants as drivers
use Rattle.irq_base.specs.declared.entries.CallEntry.TheVariants as called
use Rattle.irq_base.specs.declared.entries.Way.TheVariants as ways
use Rattle.irq_base.specs.declared.entries.TakeAnswer.TheVariants as takes
use Rattle.irq_base.specs.declared.entries.Note.TheVariants as notes
use Rattle.irq_base.specs.declared.entries.Resend.TheVariants as resends
use Rattle.irq_base.specs.declared.entries.Opened.TheVariants as opens
use Rattle.irq_base.specs.declared.entries.LinkAnswer.TheVariants as links
use Rattle.irq_base.specs.declared.entries.UnlinkAnswer.TheVariants as unlinks
use Rattle.irq_model.specs.Legal.{IsLegalPast}
use Rattle.irq_model.specs.Next.{next_past}
use Rattle.device_table.specs.Sums.{one_if}
use Rattle.line_words.specs.Node.{node}

abbrev line : LineNo
line = record { 0 = 1 }

abbrev cpu : CpuNo
cpu = record { 0 = 0 }

abbrev dev : DevNo
dev = record { 0 = 1 }

abbrev driver : DriverNo
driver = record { 0 = 1 }

abbrev no_flags : Flags
no_flags = record { shared = false; oneshot = false; noauto = false }

-- the line of the board: a latch, one processor, one device, and one driver, which requests the
-- device, asks once and frees it
abbrev first : LineDef
first =
    record {
      line = line;
      flow = flows.Edge;
      trigger = triggers.Edge;
      keeps = true;
      recalls = true;
      retriggers = true;
      unlazy = false;
      later = false;
      mask = 1;
      cpus = 1;
      window = 100000;
      limit = 99900;
      log = 10000;
      devices = record { dev = dev; line = line; kind = kinds.Direct; held = false; forgets = false } ∷ [];
      calls = (driver, calls.Request dev no_flags) ∷ (driver, calls.Ask dev) ∷ (driver, calls.Free dev) ∷ [];
      runs = [];
      told = [];
    }

-- ---- the entries

abbrev request : Entry
request = by.Driver driver (drivers.Request no_flags links.Linked (opens.Started resends.No) dev)

abbrev ask : Entry
ask = by.Driver driver (drivers.Ask true dev)

abbrev take : Entry
take = by.Cpu cpu (cpus.Take ways.Line takes.Handle)

abbrev begin : Entry
begin = by.Cpu cpu (cpus.Begin dev)

abbrev return : Entry
return = by.Cpu cpu (cpus.Return answers.Handled dev 1)

-- the end of a round in which nobody was called is counted
abbrev counted_end : Entry
counted_end = by.Cpu cpu (cpus.End false false notes.Counted)

abbrev quiet_end : Entry
quiet_end = by.Cpu cpu (cpus.End false false notes.Quiet)

abbrev unlink : Entry
unlink = by.DriverCall driver (called.Unlink (unlinks.Unlinked true) dev)

abbrev clear : Entry
clear = by.DriverCall driver called.HardClear

abbrev freed : Entry
freed = by.DriverCall driver (called.Freed dev)

-- ---- the pasts, the newest entry first, one to each state, and two more

abbrev asked : List Entry
asked = ask ∷ request ∷ []

-- freed before the interrupt is taken
abbrev untaken : List Entry
untaken = unlink ∷ asked

abbrev taken : List Entry
taken = take ∷ asked

-- unlinked before the handler is called
abbrev uncalled : List Entry
uncalled = unlink ∷ taken

abbrev at_work : List Entry
at_work = begin ∷ taken

abbrev returned : List Entry
returned = return ∷ at_work

-- unlinked while the handler is at work
abbrev unlinked : List Entry
unlinked = unlink ∷ at_work

abbrev over : List Entry
over = return ∷ unlinked

abbrev ended : List Entry
ended = quiet_end ∷ returned

abbrev all_ended : List Entry
all_ended = unlink ∷ ended

abbrev states : List (List Entry)
states =
    [] ∷ (request ∷ []) ∷ asked ∷ taken ∷ untaken ∷ (clear ∷ untaken) ∷ (freed ∷ clear ∷ untaken)
    ∷ at_work ∷ uncalled ∷ returned ∷ unlinked ∷ (counted_end ∷ uncalled)
    ∷ (clear ∷ counted_end ∷ uncalled) ∷ (freed ∷ clear ∷ counted_end ∷ uncalled)
    ∷ ended ∷ over ∷ all_ended ∷ (clear ∷ all_ended) ∷ (freed ∷ clear ∷ all_ended) ∷ []

-- each of them is legal: these four have all others as their beginnings
freed_untaken : IsLegalPast first (freed ∷ clear ∷ untaken)
freed_untaken = (refl, (refl, (refl, (refl, (refl, tt)))))

freed_uncalled : IsLegalPast first (freed ∷ clear ∷ counted_end ∷ uncalled)
freed_uncalled = (refl, (refl, (refl, (refl, (refl, (refl, (refl, tt)))))))

freed_ended : IsLegalPast first (freed ∷ clear ∷ all_ended)
freed_ended = (refl, (refl, (refl, (refl, (refl, (refl, (refl, (refl, (refl, tt)))))))))

over_legal : IsLegalPast first (quiet_end ∷ over)
over_legal = (refl, (refl, (refl, (refl, (refl, (refl, (refl, tt)))))))

unlinked_later : IsLegalPast first (unlink ∷ returned)
unlinked_later = (refl, (refl, (refl, (refl, (refl, (refl, tt))))))

-- whether the device is unlinked before its handler returns or after makes no difference, nor
-- whether it is before the flow's end
unlinked_either_way : node first over ≡ node first (unlink ∷ returned)
unlinked_either_way = refl

ended_either_way : node first all_ended ≡ node first (quiet_end ∷ over)
ended_either_way = refl

-- the others are nineteen states
same_words : List ℕ → List ℕ → Bool
same_words [] [] = true
same_words (a ∷ xs) (b ∷ ys) = (a == b) && same_words xs ys
same_words xs ys = false

are_apart : List (List ℕ) → Bool
are_apart [] = true
are_apart (x ∷ xs) = not (list_any (same_words x) xs) && are_apart xs

nineteen : are_apart (map (node first) states) ≡ true
unfolding same_words are_apart
nineteen = refl

-- how many actors have an entry due in each
due_in : List Entry → ℕ
due_in past =
    one_if (is_some (next_past first past (actors.Thread dev)))
    + (one_if (is_some (next_past first past (actors.Cpu cpu))) + one_if (is_some (next_past first past (actors.Driver driver))))

twenty : map due_in states ≡ 1 ∷ 1 ∷ 2 ∷ 2 ∷ 1 ∷ 1 ∷ 0 ∷ 2 ∷ 1 ∷ 2 ∷ 1 ∷ 1 ∷ 1 ∷ 0 ∷ 1 ∷ 1 ∷ 1 ∷ 1 ∷ 0 ∷ []
unfolding due_in
twenty = refl
