-- Who waits for whom, and who waits for himself (`synchronize_hardirq`, `synchronize_irq`,
-- `kthread_stop` in `__free_irq`, `desc->request_mutex`: `kernel/irq/manage.c`). What stands in the
-- way ends by an entry of the other alone, so a circle of waits is for ever.
use Rattle.std.specs.Prelude.{◌≡◌, ◌⊎◌, ℕ, zero, suc, ◌==◌, Bool, true, false, not, ◌||◌, ◌&&◌}
use Rattle.std.specs.Prelude.{if◌then◌else◌, Option, Some, None, is_some, nat_lt, List, [], ◌∷◌}
use Rattle.std.specs.Prelude.{reverse}
use Rattle.std.specs.List.{list_any}
use Rattle.irq_base.specs.declared.numbers.CpuNo.{CpuNo}
use Rattle.irq_base.specs.declared.numbers.DevNo.{DevNo}
use Rattle.irq_base.specs.declared.calls.Call.{Call}
use Rattle.irq_base.specs.declared.calls.Call.TheVariants as calls
use Rattle.irq_base.specs.declared.devices.Part.TheVariants as parts
use Rattle.irq_base.specs.declared.lines.LineDef.{LineDef}
use Rattle.irq_base.specs.declared.entries.Actor.{Actor}
use Rattle.irq_base.specs.declared.entries.Actor.TheVariants as actors
use Rattle.irq_base.specs.declared.entries.Entry.{Entry}
use Rattle.irq_base.specs.Who.{actor_of}
use Rattle.irq_model.specs.Places.{last_place, since}
use Rattle.irq_model.specs.Kinds.{is_thread_begin, is_thread_return}
use Rattle.irq_model.specs.Rounds.{flow, is_cpu, at_work}
use Rattle.irq_model.specs.Threads.{is_woken, is_running}
use Rattle.irq_model.specs.Due.{due_call, is_being_freed_at}
use Rattle.irq_model.specs.Runs.{due_in_run}
use Rattle.irq_model.specs.Next.{next, next_past}

-- what a step that isn't due yet waits for
pub data Want : Type 0 where
  -- the end of the flow
  flow_ends : Want
  -- all threads of the line at rest
  threads_rest : Want
  -- the thread of that device at rest
  thread_rests : DevNo → Want
  -- the request mutex
  mutex_free : Want
  -- nothing: the step waits for nobody
  nothing_wanted : Want

-- by the due call, and how many entries it has made
abbrev pub wanted_by : Call × ℕ → Want
wanted_by (calls.Request d flags, n) = mutex_free
wanted_by (calls.Free d, n) =
    if n == 0 then mutex_free else (if n == 1 then flow_ends else thread_rests d)
wanted_by (calls.Disable, n) =
    if n == 0 then nothing_wanted else (if n == 1 then flow_ends else threads_rest)
wanted_by (calls.Sync, n) = if n == 0 then flow_ends else threads_rest
wanted_by (calls.SyncHard, n) = flow_ends
wanted_by (calls.DisableHard, n) = if n == 0 then nothing_wanted else flow_ends
wanted_by _ = nothing_wanted

abbrev pub wanted_of : Option (Call × ℕ) → Want
wanted_of None = nothing_wanted
wanted_of (Some due) = wanted_by due

-- a thread whose handler has returned waits for the flow, to finish
abbrev pub wanted_by_thread : LineDef → DevNo → List Entry → Want
wanted_by_thread def d past =
    if not (is_running past d) then nothing_wanted
    else (if list_any (is_thread_return d) (since (is_thread_begin d) past) then flow_ends
    else wanted_of (due_in_run def parts.Thread d past))

abbrev pub wanted_at_work : LineDef → Option DevNo → List Entry → Want
wanted_at_work def None past = nothing_wanted
wanted_at_work def (Some d) past = wanted_of (due_in_run def parts.Primary d past)

abbrev pub wanted_by_cpu : LineDef → CpuNo → List Entry → Want
wanted_by_cpu def c past =
    if is_cpu c (flow def past) then wanted_at_work def (at_work past) past else nothing_wanted

abbrev pub wanted : LineDef → Actor → List Entry → Want
wanted def (actors.Driver r) past = wanted_of (due_call def r past)
wanted def (actors.Thread d) past = wanted_by_thread def d past
wanted def (actors.Cpu c) past = wanted_by_cpu def c past

-- the newest entry of the list made the unlink whose free isn't complete
abbrev pub maker_of : List Entry → Option Actor
maker_of [] = None
maker_of (e ∷ past) = Some (actor_of e)

-- who frees a device, and so holds the request mutex
abbrev pub mutex_holder : List Entry → Option Actor
mutex_holder past = maker_of (last_place is_being_freed_at past)

-- b stands in the way of what is wanted
abbrev pub StandsIn : LineDef → List Entry → Want → Actor → Type 0
StandsIn def past flow_ends (actors.Cpu c) = flow def past ≡ Some c
StandsIn def past threads_rest (actors.Thread d) = (is_woken past d || is_running past d) ≡ true
StandsIn def past (thread_rests d) (actors.Thread e) =
    (d ≡ e) × ((is_woken past d || is_running past d) ≡ true)
StandsIn def past mutex_free b = mutex_holder past ≡ Some b
StandsIn def past _ _ = ⊥

-- a has no step, since b stands in its way
abbrev pub WaitsFor : LineDef → List Entry → Actor → Actor → Type 0
WaitsFor def past a b = (next_past def past a ≡ None) × StandsIn def past (wanted def a past) b

-- a waits for b through n others
abbrev pub WaitsThrough : LineDef → List Entry → ℕ → Actor → Actor → Type 0
WaitsThrough def past zero a b = WaitsFor def past a b
WaitsThrough def past (suc n) a b =
    (c : Actor) × WaitsFor def past a c × WaitsThrough def past n c b

-- it waits for itself, at once or through others
abbrev pub IsHungPast : LineDef → List Entry → Actor → Type 0
IsHungPast def past a = (n : ℕ) × WaitsThrough def past n a a

-- it waits for one that is hung, at once or through others
abbrev pub IsHeldUpPast : LineDef → List Entry → Actor → Type 0
IsHeldUpPast def past a =
    (n : ℕ) × (b : Actor) × WaitsThrough def past n a b × IsHungPast def past b

-- hung or held up: it never makes another step on the line
abbrev pub IsCaughtPast : LineDef → List Entry → Actor → Type 0
IsCaughtPast def past a = IsHungPast def past a ⊎ IsHeldUpPast def past a

-- the first comes before the second in the order of actors: threads, processors, drivers, each by
-- number
abbrev pub is_before : Actor → Actor → Bool
is_before (actors.Thread d) (actors.Thread e) = nat_lt d.0 e.0
is_before (actors.Thread d) _ = true
is_before (actors.Cpu c) (actors.Thread d) = false
is_before (actors.Cpu c) (actors.Cpu e) = nat_lt c.0 e.0
is_before (actors.Cpu c) (actors.Driver r) = true
is_before (actors.Driver r) (actors.Driver q) = nat_lt r.0 q.0
is_before (actors.Driver r) _ = false

-- the lowest actor that is hung; none if none is
abbrev pub IsLowestHungPast : LineDef → List Entry → Option Actor → Type 0
IsLowestHungPast def past None = (a : Actor) → IsHungPast def past a → ⊥
IsLowestHungPast def past (Some a) =
    IsHungPast def past a × ((b : Actor) → IsHungPast def past b → is_before b a ≡ false)

-- what an actor has begun, or has left to do, isn't done
abbrev pub is_unfinished_actor : LineDef → List Entry → Actor → Bool
is_unfinished_actor def past (actors.Driver r) = is_some (due_call def r past)
is_unfinished_actor def past (actors.Thread d) = is_woken past d || is_running past d
is_unfinished_actor def past (actors.Cpu c) = is_cpu c (flow def past)

-- nothing is left to do: no actor has a step, and none has begun what it can't end. It is settled,
-- and nothing hangs; what is promised of a line at its end is promised of this
pub record IsAtRest (def : LineDef) (h : List Entry) : Type 0 where
  pub still : (a : Actor) → next def h a ≡ None
  pub done : (a : Actor) → is_unfinished_actor def (reverse h) a ≡ false

-- of those by whose entries alone what stands in the way on the line ends, none has a step: no
-- thread, not the flow's processor, and not who frees a device
pub record NobodyEndsWaits (def : LineDef) (past : List Entry) : Type 0 where
  pub threads : (d : DevNo) → next_past def past (actors.Thread d) ≡ None
  pub flow_cpu : (c : CpuNo) → flow def past ≡ Some c → next_past def past (actors.Cpu c) ≡ None
  pub holder : (b : Actor) → mutex_holder past ≡ Some b → next_past def past b ≡ None

-- no standstill: there, whoever isn't done and has no step is hung or held up. So where no actor
-- has a step, whoever isn't done is
abbrev pub NoStandstillPast : LineDef → List Entry → Type 0
NoStandstillPast def past = NobodyEndsWaits def past
    → (a : Actor) → is_unfinished_actor def past a ≡ true → next_past def past a ≡ None
    → IsCaughtPast def past a
