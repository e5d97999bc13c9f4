-- What is seen of the state of a line, and what is read off it.
use Rattle.std.specs.Prelude.{◌≡◌, ◌+◌, ◌<◌, ◌^◌, ℕ, Bool, true, false, not, ◌||◌, if◌then◌else◌}
use Rattle.std.specs.Prelude.{is_some, is_none, IsSome, Option, Some, None, List, [], ◌∷◌}
use Rattle.irq_base.specs.Cell.{signals}
use Rattle.irq_base.specs.Wiring.{Wiring}
use Rattle.irq_base.specs.declared.calls.Call.{Call}
use Rattle.irq_base.specs.declared.devices.Part.{Part}
use Rattle.irq_base.specs.declared.devices.ToldAnswer.{ToldAnswer}
use Rattle.irq_base.specs.declared.lines.LineDef.{LineDef}
use Rattle.irq_base.specs.declared.numbers.CpuNo.{CpuNo}
use Rattle.irq_base.specs.declared.numbers.DevNo.{DevNo}
use Rattle.irq_model.specs.Lines.{has_device}
use Rattle.irq_model.specs.Rounds.{is_cpu}
use Rattle.irq_model.specs.Signal.{lowest_in}
use Rattle.device_table.specs.Rows.{at, lower}
use Rattle.act_list.specs.Actions.{has}
use Rattle.act_thread.specs.declared.rows.ThreadRow.{ThreadRow}
use Rattle.affinity.specs.Seen.{AimSeen}
use Rattle.desc_state.specs.Desc.{DescSeen}
use Rattle.run_scripts.specs.Groups.{GroupsSeen}
use Rattle.run_scripts.specs.Places.{place_at}
use Rattle.run_scripts.specs.Runs.{RunsSeen, AreRunsOf, call_of}
use Rattle.line_marks.specs.CpuDue.{cpu_due}
use Rattle.line_marks.specs.Due.{thread_due}
use Rattle.line_marks.specs.State.{StateSeen}

-- what no step changes: how the chips are wired, and what runs call and answer
pub record FixedSeen : Type 0 where
  pub wiring : Wiring
  pub calls : GroupsSeen Call
  pub answers : GroupsSeen ToldAnswer

-- the state, how many more actions fit without memory, and what no step changes
pub record LineStateSeen : Type 0 where
  pub state : StateSeen
  pub spare : ℕ
  pub fixed : FixedSeen

-- the scripts of the runs, and how far they are
abbrev pub runs_seen : LineStateSeen → RunsSeen
runs_seen l = record {
  calls = l.fixed.calls;
  answers = l.fixed.answers;
  places = l.state.places;
}

-- the scripts are those of the definition; what is linked, handlers at work and threads are of its
-- devices, and one more entry fits in each call
pub record IsScripted (def : LineDef) (l : LineStateSeen) : Type 0 where
  pub runs : AreRunsOf def (runs_seen l)
  pub linked : (d : DevNo) → has d l.state.list.actions ≡ true → has_device def d ≡ true
  pub working : (d : DevNo) → l.state.round.working ≡ Some d → has_device def d ≡ true
  pub threads : (d : DevNo) (r : ThreadRow) → at l.state.threads d ≡ Some r
      → has_device def d ≡ true
  pub within : (d : DevNo) (part : Part) → (place_at l.state.places d part).within + 1 < 2 ^ 32

-- a run of that part of the device has a call left
abbrev pub HasCall : LineStateSeen → Part → DevNo → Type 0
HasCall l part d = IsSome (call_of (runs_seen l) d part)

-- the target, unless the flow is its own
abbrev pub unless_in_flow : StateSeen → Option CpuNo → Option CpuNo
unless_in_flow s None = None
unless_in_flow s (Some c) = if is_cpu c s.desc.flow then None else Some c

-- the processor for which a take is due: there is something to take, and the target isn't in the
-- flow
abbrev pub taker_of : StateSeen → Option CpuNo
taker_of s =
    if signals s.cell || s.desc.soft then unless_in_flow s (lowest_in s.aim.cpus s.aim.mask)
    else None

-- a run whose handler has returned may go on: the line isn't one-shot, or no flow is in progress
abbrev pub may_go_on : DescSeen → Bool
may_go_on d = not d.oneshot || not (is_some d.flow)

-- the lowest of the devices with a row that pass
abbrev pub lowest_of : (DevNo → Bool) → List (DevNo × ThreadRow) → Option DevNo
lowest_of p [] = None
lowest_of p (e ∷ es) = if p e.0 then Some (lower e.0 (lowest_of p es)) else lowest_of p es

-- the device of the lowest number whose thread has an entry due
abbrev pub lowest_due : LineDef → StateSeen → Option DevNo
lowest_due def s = lowest_of (λ d. is_some (thread_due def s d)) s.threads

-- a processor of the flow in progress that has no entry due
abbrev pub spins_in : LineDef → StateSeen → Option CpuNo → Bool
spins_in def s None = false
spins_in def s (Some c) = is_none (cpu_due def s c)

-- the aim is one of the definition's
pub record IsAimOf (def : LineDef) (a : AimSeen) : Type 0 where
  pub cpus : a.cpus ≡ def.cpus
  pub later : a.later ≡ def.later
