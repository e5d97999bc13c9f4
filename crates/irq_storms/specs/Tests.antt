-- Tests of entries, whichever device or driver they are of, and what runs serve.
use Rattle.std.specs.Prelude.{ℕ, ◌+◌, Bool, true, false, ◌||◌, if◌then◌else◌, nat_lt, List}
use Rattle.std.specs.Prelude.{[], ◌∷◌}
use Rattle.irq_base.specs.declared.numbers.DevNo.{DevNo}
use Rattle.irq_base.specs.declared.entries.Actor.{Actor}
use Rattle.irq_base.specs.declared.entries.Actor.TheVariants as actors
use Rattle.irq_base.specs.declared.entries.Entry.{Entry}
use Rattle.irq_base.specs.declared.entries.Entry.TheVariants as by
use Rattle.irq_base.specs.declared.entries.CpuEntry.TheVariants as cpus
use Rattle.irq_base.specs.declared.entries.ThreadEntry.TheVariants as threads
use Rattle.irq_base.specs.declared.entries.DriverEntry.TheVariants as drivers
use Rattle.irq_base.specs.declared.entries.CallEntry.{CallEntry}
use Rattle.irq_base.specs.declared.entries.CallEntry.TheVariants as called
use Rattle.irq_base.specs.Who.{actor_of}
use Rattle.irq_model.specs.Kinds.{same_dev, returns_handled, is_start}
use Rattle.irq_model.specs.Kinds.{is_linked_request}

-- ---- runs, and calls that serve

-- a handler is called
abbrev pub is_any_begin : Entry → Bool
is_any_begin (by.Cpu cpu (cpus.Begin dev)) = true
is_any_begin _ = false

-- a handler returned
abbrev pub is_any_return : Entry → Bool
is_any_return (by.Cpu cpu (cpus.Return answer dev served)) = true
is_any_return _ = false

-- a round ends
abbrev pub is_end : Entry → Bool
is_end (by.Cpu cpu (cpus.End again unmask note)) = true
is_end _ = false

-- how many asks of d the step of a call serves; of any device
abbrev pub served_to : DevNo → CallEntry → ℕ
served_to d (called.Serve dev served) = if same_dev d dev then served else 0
served_to d _ = 0

abbrev pub served_by_call : CallEntry → ℕ
served_by_call (called.Serve dev served) = served
served_by_call _ = 0

-- how many asks of d the entry serves: a run as it returns, or a call
abbrev pub asks_served : DevNo → Entry → ℕ
asks_served d (by.Cpu cpu (cpus.Return answer dev served)) = if same_dev d dev then served else 0
asks_served d (by.Thread dev (threads.Return handled served)) = if same_dev d dev then served else 0
asks_served d (by.CpuCall cpu call) = served_to d call
asks_served d (by.ThreadCall dev call) = served_to d call
asks_served d (by.DriverCall driver call) = served_to d call
asks_served d _ = 0

-- how many asks it serves, of any device
abbrev pub all_served : Entry → ℕ
all_served (by.Cpu cpu (cpus.Return answer dev served)) = served
all_served (by.Thread dev (threads.Return handled served)) = served
all_served (by.CpuCall cpu call) = served_by_call call
all_served (by.ThreadCall dev call) = served_by_call call
all_served (by.DriverCall driver call) = served_by_call call
all_served _ = 0

-- it serves something of d; something of any device
abbrev pub serves_of : DevNo → Entry → Bool
serves_of d e = nat_lt 0 (asks_served d e)

abbrev pub is_any_serving : Entry → Bool
is_any_serving e = nat_lt 0 (all_served e)

-- a run answered Handled as it returned: a handler, or a thread
abbrev pub answers_handled : Entry → Bool
answers_handled (by.Thread dev (threads.Return handled served)) = handled
answers_handled e = returns_handled e

-- the sum of what a list's elements weigh
abbrev pub total : {A : Type 0} → (A → ℕ) → List A → ℕ
total w [] = 0
total w (x ∷ xs) = w x + total w xs

-- ---- drivers

-- some driver made the entry
abbrev pub is_any_driver : Actor → Bool
is_any_driver (actors.Driver driver) = true
is_any_driver _ = false

abbrev pub is_by_any_driver : Entry → Bool
is_by_any_driver e = is_any_driver (actor_of e)

-- a moment is handed in
abbrev pub is_moment : Entry → Bool
is_moment (by.Driver driver (drivers.Moment at)) = true
is_moment _ = false

-- an entry of a driver from which a storm may begin anew: a start, a request that was linked, a
-- moment
abbrev pub is_renewal : Entry → Bool
is_renewal e = is_start e || (is_linked_request e || is_moment e)
