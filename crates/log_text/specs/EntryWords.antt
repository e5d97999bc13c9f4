-- An entry as the words of its row, and which entries have one.
use Rattle.std.specs.Prelude.{◌≡◌, ℕ, nat_lt, List, [], ◌∷◌, codes, decimal}
use Rattle.irq_base.specs.declared.entries.Actor.{Actor}
use Rattle.irq_base.specs.declared.entries.Actor.TheVariants as actors
use Rattle.irq_base.specs.declared.entries.CpuEntry.{CpuEntry}
use Rattle.irq_base.specs.declared.entries.CpuEntry.TheVariants as cpus
use Rattle.irq_base.specs.declared.entries.ThreadEntry.{ThreadEntry}
use Rattle.irq_base.specs.declared.entries.ThreadEntry.TheVariants as threads
use Rattle.irq_base.specs.declared.entries.DriverEntry.{DriverEntry}
use Rattle.irq_base.specs.declared.entries.DriverEntry.TheVariants as drivers
use Rattle.irq_base.specs.declared.entries.CallEntry.{CallEntry}
use Rattle.irq_base.specs.declared.entries.CallEntry.TheVariants as called
use Rattle.irq_base.specs.declared.entries.Entry.{Entry}
use Rattle.irq_base.specs.declared.entries.Entry.TheVariants as by
use Rattle.irq_base.specs.declared.entries.Errno.TheVariants as errnos
use Rattle.irq_base.specs.declared.entries.Opened.TheVariants as openings
use Rattle.irq_base.specs.declared.entries.LinkAnswer.TheVariants as links
use Rattle.irq_base.specs.declared.entries.AffinityAnswer.TheVariants as affinities
use Rattle.irq_base.specs.Who.{actor_of}
use Rattle.log_text.specs.Words.{driver_word, cpu_word, thread_word, way_word, take_word}
use Rattle.log_text.specs.Words.{answer_word, loop_word, mask_word, note_word, bit_word}
use Rattle.log_text.specs.Words.{flags_word, enable_words, link_words, unlink_word}
use Rattle.log_text.specs.Words.{affinity_words, yes_word, edge_words, handled_words}

-- who made the entry
abbrev pub actor_word : Actor → List ℕ
actor_word (actors.Cpu cpu) = cpu_word cpu
actor_word (actors.Thread dev) = thread_word dev
actor_word (actors.Driver driver) = driver_word driver

abbrev pub cpu_words : CpuEntry → List (List ℕ)
cpu_words (cpus.Take way answer) = codes "take" ∷ way_word way ∷ take_word answer ∷ []
cpu_words (cpus.Begin dev) = codes "begin" ∷ decimal dev.0 ∷ []
cpu_words (cpus.Return answer dev served) =
    codes "return" ∷ decimal dev.0 ∷ answer_word answer ∷ decimal served ∷ []
cpu_words (cpus.End again unmask note) =
    codes "end" ∷ loop_word again ∷ mask_word unmask ∷ note_word note ∷ []

abbrev pub thread_words : ThreadEntry → List (List ℕ)
thread_words threads.Begin = codes "begin" ∷ []
thread_words (threads.Return handled served) =
    codes "return" ∷ decimal served ∷ handled_words handled (nat_lt 0 served)
thread_words (threads.Finish kept unmask) =
    codes "finish" ∷ bit_word kept ∷ mask_word unmask ∷ []
thread_words threads.Done = codes "done" ∷ []

abbrev pub driver_words : DriverEntry → List (List ℕ)
driver_words (drivers.Ask edge dev) = codes "ask" ∷ decimal dev.0 ∷ edge_words edge
driver_words (drivers.Request flags answer opened dev) =
    codes "request" ∷ decimal dev.0 ∷ flags_word flags ∷ link_words answer opened
driver_words (drivers.Affinity answer mask) =
    codes "affinity" ∷ decimal mask ∷ affinity_words answer
driver_words (drivers.Moment at) = codes "moment" ∷ decimal at ∷ []

-- whoever makes the call
abbrev pub call_words : CallEntry → List (List ℕ)
call_words called.Disable = codes "disable" ∷ []
call_words called.HardClear = codes "hardclear" ∷ []
call_words called.Synced = codes "synced" ∷ []
call_words (called.Enable answer) = codes "enable" ∷ enable_words answer
call_words (called.Unlink answer dev) =
    codes "unlink" ∷ decimal dev.0 ∷ unlink_word answer ∷ []
call_words (called.Freed dev) = codes "freed" ∷ decimal dev.0 ∷ []
call_words (called.Wake woken dev) = codes "wake" ∷ decimal dev.0 ∷ yes_word woken ∷ []
call_words (called.Quiet dev) = codes "quiet" ∷ decimal dev.0 ∷ []
call_words (called.Arm edge dev) = codes "arm" ∷ decimal dev.0 ∷ yes_word edge ∷ []
call_words (called.Serve dev served) = codes "serve" ∷ decimal dev.0 ∷ decimal served ∷ []

abbrev pub said_words : Entry → List (List ℕ)
said_words (by.Cpu cpu e) = cpu_words e
said_words (by.Thread dev e) = thread_words e
said_words (by.Driver driver e) = driver_words e
said_words (by.CpuCall cpu call) = call_words call
said_words (by.ThreadCall dev call) = call_words call
said_words (by.DriverCall driver call) = call_words call

-- who made the entry, what it is, and what it says
abbrev pub entry_words : Entry → List (List ℕ)
entry_words e = actor_word (actor_of e) ∷ said_words e

-- Which entries have a row. A refused request must have opened nothing, and a mask must have been
-- refused as invalid.
abbrev pub IsPrintableDriver : DriverEntry → Type 0
IsPrintableDriver (drivers.Request flags (links.Refused errno) opened dev) = opened ≡ openings.No
IsPrintableDriver (drivers.Affinity (affinities.Refused errno) mask) = errno ≡ errnos.Inval
IsPrintableDriver _ = Unit {0}

abbrev pub IsPrintable : Entry → Type 0
IsPrintable (by.Driver driver e) = IsPrintableDriver e
IsPrintable _ = Unit {0}
