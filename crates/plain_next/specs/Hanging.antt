-- What is gathered of who waits for whom.
use Rattle.std.specs.Prelude.{◌≡◌, ◌↔◌, ℕ, Bool, true, false, not, ◌||◌, ◌&&◌, if◌then◌else◌}
use Rattle.std.specs.Prelude.{IsTrue, Option, Some, None, List, [], ◌∷◌, ◌++◌}
use Rattle.std.specs.List.{list_any}
use Rattle.irq_base.specs.declared.numbers.CpuNo.{CpuNo}
use Rattle.irq_base.specs.declared.numbers.DevNo.{DevNo}
use Rattle.irq_base.specs.declared.entries.Actor.{Actor}
use Rattle.irq_base.specs.declared.entries.Actor.TheVariants as actors
use Rattle.irq_base.specs.declared.entries.CpuEntry.TheVariants as cpus
use Rattle.irq_base.specs.declared.entries.CallEntry.{CallEntry}
use Rattle.irq_base.specs.declared.entries.CallEntry.TheVariants as called
use Rattle.irq_base.specs.declared.entries.Entry.{Entry}
use Rattle.irq_base.specs.declared.entries.Entry.TheVariants as by
use Rattle.irq_base.specs.declared.lines.LineDef.{LineDef}
use Rattle.irq_model.specs.Kinds.{same_actor, same_dev}
use Rattle.irq_model.specs.Rounds.{flow, is_cpu}
use Rattle.irq_model.specs.Threads.{is_woken, is_running}
use Rattle.irq_model.specs.Waits as waits
use Rattle.irq_model.specs.Waits.{WaitsFor, WaitsThrough, is_before, mutex_holder}
use Rattle.plain_next.specs.declared.hanging.Want.{Want}
use Rattle.plain_next.specs.declared.hanging.Want.TheVariants as wants

abbrev pub want_of : Want → waits.Want
want_of wants.Nothing = waits.nothing_wanted
want_of wants.FlowEnds = waits.flow_ends
want_of wants.ThreadsRest = waits.threads_rest
want_of (wants.ThreadRests dev) = waits.thread_rests dev
want_of wants.MutexFree = waits.mutex_free

-- the thread is woken or in a run
abbrev pub is_active : List Entry → DevNo → Bool
is_active past d = is_woken past d || is_running past d

-- the actor there is the same
abbrev pub is_holder : Option Actor → Actor → Bool
is_holder None b = false
is_holder (Some holder) b = same_actor holder b

-- the actor stands in the way of what is wanted
abbrev pub stands_in : LineDef → List Entry → waits.Want → Actor → Bool
stands_in def past waits.flow_ends (actors.Cpu c) = is_cpu c (flow def past)
stands_in def past waits.threads_rest (actors.Thread d) = is_active past d
stands_in def past (waits.thread_rests d) (actors.Thread e) = same_dev d e && is_active past d
stands_in def past waits.mutex_free b = is_holder (mutex_holder past) b
stands_in def past _ _ = false

-- the thread that the entry wakes or is of, or may wake
abbrev pub told_by_call : CallEntry → Option Actor
told_by_call (called.Wake woken dev) = Some (actors.Thread dev)
told_by_call _ = None

abbrev pub thread_told : Entry → Option Actor
thread_told (by.Cpu cpu (cpus.Return answer dev served)) = Some (actors.Thread dev)
thread_told (by.Thread dev e) = Some (actors.Thread dev)
thread_told (by.CpuCall cpu call) = told_by_call call
thread_told (by.ThreadCall dev call) = told_by_call call
thread_told (by.DriverCall driver call) = told_by_call call
thread_told _ = None

abbrev pub listed : Option Actor → List Actor
listed None = []
listed (Some a) = a ∷ []

-- the threads of which entries tell
abbrev pub threads_told : List Entry → List Actor
threads_told [] = []
threads_told (e ∷ past) = listed (thread_told e) ++ threads_told past

abbrev pub flow_actor : Option CpuNo → Option Actor
flow_actor None = None
flow_actor (Some c) = Some (actors.Cpu c)

-- whoever may stand in the way of anything
abbrev pub all_in_way : LineDef → List Entry → List Actor
all_in_way def past =
    (threads_told past ++ listed (flow_actor (flow def past))) ++ listed (mutex_holder past)

-- the actor is one of them
abbrev pub is_among : List Actor → Actor → Bool
is_among found b = list_any (λ a. same_actor a b) found

-- and those of the others that aren't among them
abbrev pub add_if : Bool → Actor → List Actor → List Actor
add_if is b found = if is then (found ++ b ∷ []) else found

abbrev pub with_new : List Actor → List Actor → List Actor
with_new [] found = found
with_new (b ∷ others) found = with_new others (add_if (not (is_among found b)) b found)

-- just those stand in the way
abbrev pub StandIn : LineDef → List Entry → waits.Want → List Actor → Type 0
StandIn def past want found = (b : Actor) → is_among found b ≡ stands_in def past want b

-- just for those the actor waits
abbrev pub AreInWay : LineDef → List Entry → Actor → List Actor → Type 0
AreInWay def past a found = (b : Actor) → IsTrue (is_among found b) ↔ WaitsFor def past a b

-- the actor waits for it, at once or through others
abbrev pub IsReached : LineDef → List Entry → Actor → Actor → Type 0
IsReached def past a b = (n : ℕ) × WaitsThrough def past n a b

abbrev pub AreReached : LineDef → List Entry → Actor → List Actor → Type 0
AreReached def past a found = (b : Actor) → IsTrue (is_among found b) ↔ IsReached def past a b

-- it comes before the other in the order of actors, if there is another
abbrev pub is_lower : Actor → Option Actor → Bool
is_lower a None = true
is_lower a (Some lowest) = is_before a lowest

abbrev pub lower_of : Option Actor → Actor → Bool → Option Actor
lower_of lowest a is = if is && is_lower a lowest then Some a else lowest
