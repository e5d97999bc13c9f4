-- Asks, the runs that serve them, and a device's own interrupt (ours).
use Rattle.std.specs.Prelude.{ℕ, ◌+◌, min, Bool, true, false, not, ◌&&◌, if◌then◌else◌, Option}
use Rattle.std.specs.Prelude.{Some, None, List, [], ◌∷◌, nat_lt, ◌==◌}
use Rattle.std.specs.List.{list_any}
use Rattle.irq_base.specs.declared.numbers.DevNo.{DevNo}
use Rattle.irq_base.specs.declared.calls.Call.{Call}
use Rattle.irq_base.specs.declared.calls.Call.TheVariants as calls
use Rattle.irq_base.specs.declared.devices.Part.{Part}
use Rattle.irq_base.specs.declared.devices.Part.TheVariants as parts
use Rattle.irq_base.specs.declared.lines.LineDef.{LineDef}
use Rattle.irq_base.specs.declared.entries.Entry.{Entry}
use Rattle.irq_base.specs.declared.entries.Entry.TheVariants as by
use Rattle.irq_base.specs.declared.entries.CpuEntry.TheVariants as cpus
use Rattle.irq_base.specs.declared.entries.ThreadEntry.TheVariants as threads
use Rattle.irq_base.specs.Handlers.{serving_part}
use Rattle.irq_model.specs.Places.{stands, since, before, count_of}
use Rattle.irq_model.specs.Kinds.{same_dev, is_ask, is_begin, is_thread_begin, is_serve, turns_off}
use Rattle.irq_model.specs.Kinds.{turns_on}
use Rattle.irq_model.specs.Lines.{kind_of, is_level_line, run_script}

-- ---- runs that serve

abbrev pub serves_itself : DevNo → Call → Bool
serves_itself d (calls.Serve dev) = same_dev d dev
serves_itself d _ = false

-- the part whose runs serve as they return: none if that part's script serves the device itself
abbrev pub unless_by_script : LineDef → DevNo → Option Part → Option Part
unless_by_script def d None = None
unless_by_script def d (Some part) =
    if list_any (serves_itself d) (run_script def d part) then None else Some part

abbrev pub serving : LineDef → DevNo → Option Part
serving def d = unless_by_script def d (serving_part (kind_of def d))

-- a run of that part of d begins; it returns, and has served
abbrev pub begins_run : Part → DevNo → Entry → Bool
begins_run parts.Primary d e = is_begin d e
begins_run parts.Thread d e = is_thread_begin d e

abbrev pub returns_served : Part → DevNo → Entry → Bool
returns_served parts.Primary d (by.Cpu cpu (cpus.Return answer dev served)) =
    same_dev d dev && nat_lt 0 served
returns_served parts.Thread d (by.Thread dev (threads.Return handled served)) =
    same_dev d dev && nat_lt 0 served
returns_served part d _ = false

-- how many asks of d came after the beginning of its last run that returned and had served; all its
-- asks if none has
abbrev pub since_served_run : Part → DevNo → List Entry → ℕ
since_served_run part d past =
    count_of (is_ask d) (since (returns_served part d) past) + count_of (is_ask d)
    (since (begins_run part d) (before (returns_served part d) past))

abbrev pub left_by_runs : Option Part → DevNo → List Entry → ℕ
left_by_runs None d past = count_of (is_ask d) past
left_by_runs (Some part) d past = since_served_run part d past

-- the asks of d that nobody has served: neither a run, nor a call that serves
abbrev pub unserved_asks : LineDef → DevNo → List Entry → ℕ
unserved_asks def d past =
    min (count_of (is_ask d) (since (is_serve d) past)) (left_by_runs (serving def d) d past)

-- what a run of that part takes away as it returns, if it serves: what was unserved at its
-- beginning, and nothing if a call has served the device since
abbrev pub taken_away : LineDef → Part → DevNo → List Entry → ℕ
taken_away def part d past =
    if list_any (is_serve d) (since (begins_run part d) past) then 0
    else unserved_asks def d (before (begins_run part d) past)

-- ---- a device's own interrupt

-- it was turned off, and not on since
abbrev pub is_quiet : List Entry → DevNo → Bool
is_quiet past d = stands (turns_off d) (turns_on d) past

-- the signal of a level line is high: some device that isn't quiet, linked or not, has an unserved
-- ask
abbrev pub is_high : LineDef → List Entry → Bool
is_high def past = is_level_line def
    && list_any (λ x. not (is_quiet past x.dev) && nat_lt 0 (unserved_asks def x.dev past))
    def.devices
