-- The laws of what runs call.
use Rattle.std.specs.Prelude.{◌≡◌, ◌⊎◌, ℕ, ◌≤◌, Bool, true, false, not, ◌||◌, ◌&&◌, if◌then◌else◌}
use Rattle.std.specs.Prelude.{List, [], ◌∷◌, ◌++◌, reverse, Some, is_some}
use Rattle.std.specs.List.{list_any}
use Rattle.irq_base.specs.declared.numbers.DevNo.{DevNo}
use Rattle.irq_base.specs.declared.numbers.DriverNo.{DriverNo}
use Rattle.irq_base.specs.declared.calls.Call.{Call}
use Rattle.irq_base.specs.declared.calls.Call.TheVariants as calls
use Rattle.irq_base.specs.declared.calls.Flags.{Flags}
use Rattle.irq_base.specs.declared.devices.Kind.{Kind}
use Rattle.irq_base.specs.declared.devices.Kind.TheVariants as kinds
use Rattle.irq_base.specs.declared.devices.Part.{Part}
use Rattle.irq_base.specs.declared.devices.Part.TheVariants as parts
use Rattle.irq_base.specs.declared.devices.ToldAnswer.{ToldAnswer}
use Rattle.irq_base.specs.declared.devices.ToldAnswer.TheVariants as tolds
use Rattle.irq_base.specs.declared.lines.LineDef.{LineDef}
use Rattle.irq_base.specs.declared.entries.Entry.{Entry}
use Rattle.irq_model.specs.Places.{EachEntry, count_of, since, since_place}
use Rattle.irq_model.specs.Kinds.{is_return, is_thread_begin, is_thread_return, is_kill}
use Rattle.irq_model.specs.Kinds.{is_cpu_call, is_thread_call}
use Rattle.irq_model.specs.Lines.{kind_of, run_script, told_answers}
use Rattle.irq_model.specs.Links.{is_reset, depth, is_none_linked}
use Rattle.irq_model.specs.Rounds.{at_work}
use Rattle.irq_model.specs.Threads.{is_running}
use Rattle.irq_model.specs.Scripts.{MakesAllOf, AreMadeBy}
use Rattle.irq_model.specs.Due.{calls_by}
use Rattle.irq_model.specs.Runs.{entries_of_run, makes_calls}

-- Scripts of runs: the calls of processors and threads stand within runs. As a handler or a thread
-- returns, its run has made all calls of its script, each once and in order, and none if the
-- handler didn't recognise its device; before it returns, those of a beginning of the script.
abbrev pub calls_of_run : LineDef → Part → DevNo → List Entry → List Call
calls_of_run def part d past = if makes_calls def part d past then run_script def d part else []

-- d's thread is in a run that hasn't returned
abbrev pub is_in_run : List Entry → DevNo → Bool
is_in_run past d =
    is_running past d && not (list_any (is_thread_return d) (since (is_thread_begin d) past))

pub record FollowsRunScripts (def : LineDef) (h : List Entry) : Type 0 where
  pub within_handlers :
      EachEntry (λ e past. is_cpu_call e ≡ true → is_some (at_work past) ≡ true) (reverse h)
  pub within_threads : EachEntry (λ e past. (d : DevNo) → is_thread_call d e ≡ true
      → is_in_run past d ≡ true) (reverse h)
  pub handlers_so_far : (d : DevNo) → at_work (reverse h) ≡ Some d
      → AreMadeBy (calls_of_run def parts.Primary d (reverse h))
      (entries_of_run parts.Primary d (reverse h))
  pub threads_so_far : (d : DevNo) → is_in_run (reverse h) d ≡ true
      → AreMadeBy (calls_of_run def parts.Thread d (reverse h))
      (entries_of_run parts.Thread d (reverse h))
  pub handlers : EachEntry (λ e past. (d : DevNo) → is_return d e ≡ true
      → MakesAllOf (calls_of_run def parts.Primary d past) (entries_of_run parts.Primary d past))
      (reverse h)
  pub threads : EachEntry (λ e past. (d : DevNo) → is_thread_return d e ≡ true
      → MakesAllOf (calls_of_run def parts.Thread d past) (entries_of_run parts.Thread d past))
      (reverse h)

-- ---- a driver that disables in its handler and enables in its thread

abbrev pub is_disabling : Call → Bool
is_disabling calls.Disable = true
is_disabling calls.DisableNosync = true
is_disabling calls.DisableHard = true
is_disabling _ = false

abbrev pub is_enabling : Call → Bool
is_enabling calls.Enable = true
is_enabling _ = false

-- an answer by which the kernel isn't told that the interrupt is done: it wakes, or recognises
-- nothing
abbrev pub leaves_to_thread : ToldAnswer → Bool
leaves_to_thread tolds.Wake = true
leaves_to_thread tolds.Nothing = true
leaves_to_thread _ = false

-- each run of the handler that recognises the device wakes its thread
abbrev pub always_wakes : LineDef → DevNo → Kind → Bool
always_wakes def d kinds.Check = true
always_wakes def d (kinds.Told threaded) =
    threaded && not (list_any (λ a. not (leaves_to_thread a)) (told_answers def d parts.Primary))
always_wakes def d _ = false

abbrev pub noauto_request : Call → Bool
noauto_request (calls.Request d flags) = flags.noauto
noauto_request _ = false

pub record EnablesWhatItDisables (def : LineDef) : Type 0 where
  -- a handler that disables does so once, and wakes its thread each time; its thread enables once.
  -- (One that waits as it disables hangs, and isn't at rest.)
  pub handlers : (d : DevNo)
      → list_any is_disabling (run_script def d parts.Primary) ≡ true
      → (always_wakes def d (kind_of def d) ≡ true)
      × (count_of is_disabling (run_script def d parts.Primary) ≡ 1)
      × (count_of is_enabling (run_script def d parts.Thread) ≡ 1)
  -- no thread disables
  pub threads : (d : DevNo) → count_of is_disabling (run_script def d parts.Thread) ≡ 0
  -- in each end of a driver's script there are at least as many enables as disables
  pub drivers : (r : DriverNo) (done rest : List Call) → calls_by r def.calls ≡ done ++ rest
      → count_of is_disabling rest ≤ count_of is_enabling rest
  pub started : list_any (λ c. noauto_request c.1) def.calls ≡ false

abbrev pub killed_since_reset : List Entry → Bool
killed_since_reset past = list_any is_kill (since_place is_reset past)

-- unless an end killed the line since its depth was last set anew, it isn't left disabled: where
-- nothing is left to do (IsAtRest of Waits) and something is linked, the depth is 0
abbrev pub IsLeftEnabled : LineDef → List Entry → Type 0
IsLeftEnabled def h = is_none_linked (reverse h) ≡ false
    → killed_since_reset (reverse h) ≡ false → depth (reverse h) ≡ 0
