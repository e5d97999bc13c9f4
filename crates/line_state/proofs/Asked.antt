-- What a step asks for, and whether it links an action, of the entry that it makes.
use Rattle.std.proofs.Common.{◌≡◌, false, refl}
use Rattle.irq_base.specs.declared.calls.Flags.{Flags}
use Rattle.irq_base.specs.declared.entries.LinkAnswer.{LinkAnswer}
use Rattle.irq_base.specs.declared.entries.LinkAnswer.TheVariants as links
use Rattle.irq_base.specs.declared.lines.LineDef.{LineDef}
use Rattle.irq_base.specs.declared.numbers.CpuNo.{CpuNo}
use Rattle.irq_base.specs.declared.numbers.DevNo.{DevNo}
use Rattle.irq_base.specs.declared.numbers.DriverNo.{DriverNo}
use Rattle.irq_model.specs.Kinds.{is_linked_request, is_linked_answer}
use Rattle.act_list.specs.Actions.{has, answer_by}
use Rattle.line_marks.specs.DriversDue.{request_to}
use Rattle.line_marks.specs.Expected.{IsExpected, IsExpectedCall}
use Rattle.line_marks.specs.Facts.{kind_at}
use Rattle.line_marks.specs.State.{StateSeen}
use Rattle.line_state.specs.Entries.{call_made, entry_by, cpu_entry, thread_entry, driver_entry, links_by, links_by_driver}
use Rattle.line_state.specs.Entries.{CanCall, CanMake, CanMakeOfCpu, CanMakeOfThread, CanMakeOfDriver}
use Rattle.line_state.specs.declared.due.CallStep.{CallStep}
use Rattle.line_state.specs.declared.due.CallStep.TheVariants as calls
use Rattle.line_state.specs.declared.due.DriverStep.{DriverStep}
use Rattle.line_state.specs.declared.due.DriverStep.TheVariants as drivers
use Rattle.line_state.specs.declared.due.CpuStep.{CpuStep}
use Rattle.line_state.specs.declared.due.CpuStep.TheVariants as cpus
use Rattle.line_state.specs.declared.due.DueStep.{DueStep}
use Rattle.line_state.specs.declared.due.DueStep.TheVariants as steps
use Rattle.line_state.specs.declared.due.ThreadStep.{ThreadStep}
use Rattle.line_state.specs.declared.due.ThreadStep.TheVariants as threads

module _ (def : LineDef) (s : StateSeen) where
  requested : (r : DriverNo) (d : DevNo) (flags : Flags) (a : LinkAnswer) → IsExpected def (request_to def r d flags s a) s → has d s.list.actions ≡ false
  requested r d flags links.Linked h = h.0
  requested r d flags (links.Refused error) h = h.0

  of_call : (step : CallStep) → IsExpectedCall def (call_made def s step) s → CanCall step s
  of_call calls.Disable h = h
  of_call _ h = tt

  of_cpu : (c : CpuNo) (step : CpuStep) → IsExpected def (cpu_entry def s c step) s → CanMakeOfCpu def step s
  of_cpu c (cpus.Take way) h = h.1
  of_cpu c (cpus.Call dev step) h = of_call step h
  of_cpu c cpus.End h = (h.1, h.2, h.3)
  of_cpu c _ h = tt

  of_thread : (d : DevNo) (step : ThreadStep) → IsExpected def (thread_entry def s d step) s → CanMakeOfThread step s
  of_thread d (threads.Call step) h = of_call step h
  of_thread d threads.Return h = h
  of_thread d _ h = tt

  of_driver : (r : DriverNo) (step : DriverStep) → IsExpected def (driver_entry def s r step) s → CanMakeOfDriver step s
  of_driver r (drivers.Ask dev) h = h.1
  of_driver r (drivers.Request dev flags) h = requested r dev flags (answer_by (kind_at s.facts dev) flags s.list.actions) h
  of_driver r (drivers.Call step) h = of_call step h
  of_driver r _ h = tt

  -- what is expected of its entry is what the step asks for
  pub can_make : (step : DueStep) → IsExpected def (entry_by def s step) s → CanMake def step s
  can_make (steps.Cpu cpu step) h = of_cpu cpu step h
  can_make (steps.Thread dev step) h = of_thread dev step h
  can_make (steps.Driver driver step) h = of_driver driver step h

  linked_by : (r : DriverNo) (d : DevNo) (flags : Flags) (a : LinkAnswer) → is_linked_request (request_to def r d flags s a) ≡ is_linked_answer a
  linked_by r d flags links.Linked = refl
  linked_by r d flags (links.Refused error) = refl

  unlinked_of_cpu : (c : CpuNo) (step : CpuStep) → is_linked_request (cpu_entry def s c step) ≡ false
  unlinked_of_cpu c (cpus.Take way) = refl
  unlinked_of_cpu c (cpus.Begin dev) = refl
  unlinked_of_cpu c (cpus.Call dev step) = refl
  unlinked_of_cpu c (cpus.Return dev) = refl
  unlinked_of_cpu c cpus.End = refl

  unlinked_of_thread : (d : DevNo) (step : ThreadStep) → is_linked_request (thread_entry def s d step) ≡ false
  unlinked_of_thread d threads.Begin = refl
  unlinked_of_thread d (threads.Call step) = refl
  unlinked_of_thread d threads.Return = refl
  unlinked_of_thread d threads.Finish = refl
  unlinked_of_thread d threads.Done = refl

  linked_of_driver : (r : DriverNo) (step : DriverStep) → is_linked_request (driver_entry def s r step) ≡ links_by_driver s step
  linked_of_driver r (drivers.Request dev flags) = linked_by r dev flags (answer_by (kind_at s.facts dev) flags s.list.actions)
  linked_of_driver r (drivers.Ask dev) = refl
  linked_of_driver r (drivers.Affinity mask) = refl
  linked_of_driver r (drivers.Moment at) = refl
  linked_of_driver r (drivers.Call step) = refl

  pub linked_is : (step : DueStep) → is_linked_request (entry_by def s step) ≡ links_by s step
  linked_is (steps.Cpu cpu step) = unlinked_of_cpu cpu step
  linked_is (steps.Thread dev step) = unlinked_of_thread dev step
  linked_is (steps.Driver driver step) = linked_of_driver driver step
