-- A canonical state as numbers, one a field. Each word is put before the numbers of what follows.
use Rattle.std.specs.Prelude.{ℕ, Bool, true, false, ◌||◌, if◌then◌else◌, is_some, Option, Some}
use Rattle.std.specs.Prelude.{None, List, [], ◌∷◌}
use Rattle.std.specs.List.{list_any}
use Rattle.irq_base.specs.declared.calls.Call.{Call}
use Rattle.irq_base.specs.declared.calls.Call.TheVariants as calls
use Rattle.irq_base.specs.declared.calls.Flags.{Flags}
use Rattle.irq_base.specs.declared.entries.Actor.{Actor}
use Rattle.irq_base.specs.declared.entries.Actor.TheVariants as actors
use Rattle.irq_base.specs.declared.lines.LineDef.{LineDef}
use Rattle.irq_base.specs.declared.numbers.DevNo.{DevNo}
use Rattle.device_table.specs.Sums.{one_if}
use Rattle.act_list.specs.Lists.{flags_of}
use Rattle.act_thread.specs.declared.rows.Stage.{Stage}
use Rattle.act_thread.specs.declared.rows.Stage.TheVariants as stages
use Rattle.act_thread.specs.declared.rows.ThreadRow.{ThreadRow}
use Rattle.ask_counts.specs.declared.rows.AskRow.{AskRow}
use Rattle.desc_state.specs.Desc.{DescSeen}
use Rattle.run_scripts.specs.declared.rows.RunPlace.{RunPlace}
use Rattle.run_scripts.specs.declared.rows.RunRow.{RunRow}
use Rattle.line_marks.specs.Aim.{number_of}
use Rattle.line_marks.specs.State.{StateSeen}

-- what may be missing is two words: whether it is there, and its number, 0 if it is missing
abbrev pub dev_number : Option DevNo → ℕ
dev_number None = 0
dev_number (Some d) = d.0

abbrev pub mask_number : Option ℕ → ℕ
mask_number None = 0
mask_number (Some mask) = mask

abbrev pub stage_word : Stage → ℕ
stage_word stages.Idle = 0
stage_word stages.Begun = 1
stage_word stages.Returned = 2
stage_word stages.Finished = 3

-- who makes a free: 0 if nobody does
abbrev pub actor_word : Actor → ℕ
actor_word (actors.Driver driver) = 1
actor_word (actors.Cpu cpu) = 2
actor_word (actors.Thread dev) = 3

abbrev pub actor_number : Actor → ℕ
actor_number (actors.Driver driver) = driver.0
actor_number (actors.Cpu cpu) = cpu.0
actor_number (actors.Thread dev) = dev.0

abbrev pub freer_word : Option (Actor × DevNo) → ℕ
freer_word None = 0
freer_word (Some f) = actor_word f.0

abbrev pub freer_number : Option (Actor × DevNo) → ℕ
freer_number None = 0
freer_number (Some f) = actor_number f.0

abbrev pub freed_number : Option (Actor × DevNo) → ℕ
freed_number None = 0
freed_number (Some f) = f.1.0

abbrev pub freeing_words : Option (Actor × DevNo) → List ℕ → List ℕ
freeing_words f rest = freer_word f ∷ freer_number f ∷ freed_number f ∷ rest

abbrev pub begun_words : Bool → List ℕ → List ℕ
begun_words b rest = one_if b ∷ rest

abbrev pub thread_words : ThreadRow → List ℕ → List ℕ
thread_words r rest = one_if r.woken ∷ stage_word r.stage ∷ one_if r.held ∷ rest

abbrev pub ask_words : AskRow → List ℕ → List ℕ
ask_words r rest = r.unserved ∷ r.fresh ∷ r.met_by_handler ∷ r.met_by_thread ∷ rest

abbrev pub quiet_words : AskRow → List ℕ → List ℕ
quiet_words r rest = one_if r.quiet ∷ rest

abbrev pub place_words : RunPlace → List ℕ → List ℕ
place_words p rest = p.place ∷ p.within ∷ rest

-- how far a thread's run is with its calls, and which answers a told device has
abbrev pub run_words : RunRow → List ℕ → List ℕ
run_words r rest = place_words r.calls
    (r.handler.now ∷ r.handler.next ∷ r.thread.now ∷ r.thread.next ∷ rest)

-- the words of each device's row, in the order of the table
abbrev pub table_words : {R : Type 0} → (R → List ℕ → List ℕ) → List (DevNo × R) → List ℕ → List ℕ
table_words words [] rest = rest
table_words words (e ∷ es) rest = words e.1 (table_words words es rest)

-- the linked devices in the order of the walk, each with its flags
abbrev pub linked_words : List (DevNo × Flags) → List ℕ
linked_words [] = []
linked_words (e ∷ es) =
    e.0.0 ∷ one_if e.1.shared ∷ one_if e.1.oneshot ∷ one_if e.1.noauto ∷ linked_words es

-- the marks of a descriptor, and those of the chip that don't follow from them
abbrev pub marks_words : DescSeen → Bool → Bool → Bool → List ℕ → List ℕ
marks_words d stored sent high rest =
    d.depth ∷ one_if d.started ∷ one_if d.masked ∷ one_if d.pending ∷ one_if d.oneshot
    ∷ one_if d.spurious ∷ one_if d.soft ∷ one_if (is_some d.flow) ∷ number_of d.flow
    ∷ one_if stored ∷ one_if sent ∷ one_if high ∷ rest

abbrev pub desc_words : StateSeen → List ℕ → List ℕ
desc_words s rest = marks_words s.desc s.cell.stored s.cell.sent s.cell.high rest

-- the affinity, the round and the counts of the rule on spurious interrupts
abbrev pub round_words : StateSeen → List ℕ → List ℕ
round_words s rest =
    s.aim.mask ∷ one_if (is_some s.aim.waiting) ∷ mask_number s.aim.waiting
    ∷ one_if (is_some s.round.working) ∷ dev_number s.round.working ∷ one_if s.round.wakes
    ∷ one_if s.round.handles ∷ s.round.moment ∷ s.counts.counts.irq_count
    ∷ s.counts.counts.irqs_unhandled ∷ s.counts.counts.threads_handled
    ∷ one_if s.counts.counts.deferred ∷ s.counts.counts.last_unhandled ∷ rest

-- ---- what only some lines need

-- the call turns a device's own interrupt off
abbrev pub is_quiet_call : Call → Bool
is_quiet_call (calls.Quiet dev) = true
is_quiet_call _ = false

abbrev pub has_some : {A : Type 0} → List A → Bool
has_some [] = false
has_some (x ∷ xs) = true

-- the line's runs make calls, or are told what to answer, or a driver turns a device's own
-- interrupt off. Of another line no device is ever quiet, and there is nothing to say of the runs:
-- its numbers have no words for that
abbrev pub has_more : LineDef → Bool
has_more def = has_some def.runs
    || (has_some def.told || list_any (λ c. is_quiet_call c.1) def.calls)

-- how far the handler is that is at work, which devices are quiet, and each device's runs
abbrev pub more_words : Bool → StateSeen → List ℕ → List ℕ
more_words more s rest =
    if more
    then place_words s.places.work
    (table_words quiet_words s.asks (table_words run_words s.places.rows rest))
    else rest

-- ---- all

-- all words of a canonical state; `places` are the words of the drivers' places
abbrev pub state_words : Bool → StateSeen → (List ℕ → List ℕ) → List ℕ
state_words more s places =
    desc_words s (round_words s (freeing_words s.freeing
    (table_words begun_words s.list.begun (table_words thread_words s.threads
    (table_words ask_words s.asks
    (more_words more s (places (linked_words (flags_of s.list.actions)))))))))
