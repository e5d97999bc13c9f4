-- The worked histories of version 3, at each moment: the state that the entries made one after another is the state that is read
-- off the past, and what is due of each actor is told by it.
use Rattle.std.specs.Prelude.{◌≡◌, ℕ, Option, List, [], ◌∷◌, map, refl}
use Rattle.irq_base.specs.declared.entries.Actor.{Actor}
use Rattle.irq_base.specs.declared.entries.Actor.TheVariants as actors
use Rattle.irq_base.specs.declared.entries.Entry.{Entry}
use Rattle.irq_base.specs.declared.lines.LineDef.{LineDef}
use Rattle.irq_model.specs.Due.{due_call}
use Rattle.irq_model.specs.Next.{next_past}
use Rattle.irq_base.specs.declared.numbers.CpuNo.{CpuNo}
use Rattle.irq_base.specs.declared.numbers.DevNo.{DevNo}
use Rattle.irq_base.specs.declared.numbers.DriverNo.{DriverNo}
use Rattle.irq_model.proofs.CallRows.{poll_line, poll_log, armed_line, armed_log, forgotten_line, forgotten_log}
use Rattle.irq_model.proofs.CallRows.{held_off_line, held_off_log, enabled_twice_line, enabled_twice_log, woken_line, woken_log}
use Rattle.irq_model.proofs.CallRows.{unlinked_line, unlinked_log, standing_line, standing_log, glitch_line, glitch_log}
use Rattle.irq_model.proofs.CallRows.{claiming_line, claiming_log, told_out_line, told_out_log, hard_cleared_line, hard_cleared_log}
use Rattle.irq_model.proofs.CallRows.{own_sync_line, own_sync_log, own_disable_line, own_disable_log, own_free_line, own_free_log}
use Rattle.irq_model.proofs.RunRows.{two_asks_line, two_asks_log, quiet_level_line, quiet_level_log, armed_level_line, armed_level_log}
use Rattle.irq_model.proofs.RunRows.{loud_line, loud_log, quiet_twice_line, quiet_twice_log, late_ask_line, late_ask_log}
use Rattle.irq_model.proofs.RunRows.{served_meanwhile_line, served_meanwhile_log, served_by_run_line, served_by_run_log, told_thread_line, told_thread_log}
use Rattle.irq_model.proofs.RunRows.{told_again_line, told_again_log, unrecognised_line, unrecognised_log, woken_running_line, woken_running_log}
use Rattle.irq_model.proofs.RunRows.{woken_oneshot_line, woken_oneshot_log, handler_enables_line, handler_enables_log, resent_line, resent_log}
use Rattle.irq_model.proofs.RunRows.{spinning_line, spinning_log, answers_handled_line, answers_handled_log, mutual_line, mutual_log}
use Rattle.line_marks.specs.CpuDue.{cpu_due}
use Rattle.line_marks.specs.DriversDue.{driver_due}
use Rattle.line_marks.specs.Due.{thread_due}
use Rattle.line_marks.specs.State.{StateSeen, first_state, state_of, state_after}

abbrev cpu : ℕ → CpuNo
cpu n = record { 0 = n }

abbrev dev : ℕ → DevNo
dev n = record { 0 = n }

abbrev driver : ℕ → DriverNo
driver n = record { 0 = n }

abbrev due_in : LineDef → List Entry → StateSeen → Actor → Option Entry
due_in def past s (actors.Thread d) = thread_due def s d
due_in def past s (actors.Cpu c) = cpu_due def s c
due_in def past s (actors.Driver r) = driver_due def s r (due_call def r past)

abbrev everyone : List Actor
everyone =
    actors.Cpu (cpu 0) ∷ actors.Cpu (cpu 1) ∷ actors.Thread (dev 1) ∷ actors.Thread (dev 2)
    ∷ actors.Driver (driver 1) ∷ actors.Driver (driver 2) ∷ actors.Driver (driver 3) ∷ []

-- as the entries make it
abbrev made : LineDef → List Entry → StateSeen → List Entry → List (StateSeen × List (Option Entry))
made def past s [] = (s, map (due_in def past s) everyone) ∷ []
made def past s (e ∷ es) = (s, map (due_in def past s) everyone) ∷ made def (e ∷ past) (state_after def e s) es

-- as it is read off the past
abbrev seen : LineDef → List Entry → List Entry → List (StateSeen × List (Option Entry))
seen def past [] = (state_of def past, map (next_past def past) everyone) ∷ []
seen def past (e ∷ es) = (state_of def past, map (next_past def past) everyone) ∷ seen def (e ∷ past) es

abbrev Plays : LineDef → List Entry → Type 0
Plays def h = made def [] (first_state def) h ≡ seen def [] h

poll_plays : Plays poll_line poll_log
poll_plays = refl

armed_plays : Plays armed_line armed_log
armed_plays = refl

forgotten_plays : Plays forgotten_line forgotten_log
forgotten_plays = refl

held_off_plays : Plays held_off_line held_off_log
held_off_plays = refl

enabled_twice_plays : Plays enabled_twice_line enabled_twice_log
enabled_twice_plays = refl

woken_plays : Plays woken_line woken_log
woken_plays = refl

unlinked_plays : Plays unlinked_line unlinked_log
unlinked_plays = refl

standing_plays : Plays standing_line standing_log
standing_plays = refl

glitch_plays : Plays glitch_line glitch_log
glitch_plays = refl

claiming_plays : Plays claiming_line claiming_log
claiming_plays = refl

told_out_plays : Plays told_out_line told_out_log
told_out_plays = refl

hard_cleared_plays : Plays hard_cleared_line hard_cleared_log
hard_cleared_plays = refl

own_sync_plays : Plays own_sync_line own_sync_log
own_sync_plays = refl

own_disable_plays : Plays own_disable_line own_disable_log
own_disable_plays = refl

own_free_plays : Plays own_free_line own_free_log
own_free_plays = refl

two_asks_plays : Plays two_asks_line two_asks_log
two_asks_plays = refl

quiet_level_plays : Plays quiet_level_line quiet_level_log
quiet_level_plays = refl

armed_level_plays : Plays armed_level_line armed_level_log
armed_level_plays = refl

loud_plays : Plays loud_line loud_log
loud_plays = refl

quiet_twice_plays : Plays quiet_twice_line quiet_twice_log
quiet_twice_plays = refl

late_ask_plays : Plays late_ask_line late_ask_log
late_ask_plays = refl

served_meanwhile_plays : Plays served_meanwhile_line served_meanwhile_log
served_meanwhile_plays = refl

served_by_run_plays : Plays served_by_run_line served_by_run_log
served_by_run_plays = refl

told_thread_plays : Plays told_thread_line told_thread_log
told_thread_plays = refl

told_again_plays : Plays told_again_line told_again_log
told_again_plays = refl

unrecognised_plays : Plays unrecognised_line unrecognised_log
unrecognised_plays = refl

woken_running_plays : Plays woken_running_line woken_running_log
woken_running_plays = refl

woken_oneshot_plays : Plays woken_oneshot_line woken_oneshot_log
woken_oneshot_plays = refl

handler_enables_plays : Plays handler_enables_line handler_enables_log
handler_enables_plays = refl

resent_plays : Plays resent_line resent_log
resent_plays = refl

spinning_plays : Plays spinning_line spinning_log
spinning_plays = refl

answers_handled_plays : Plays answers_handled_line answers_handled_log
answers_handled_plays = refl

mutual_plays : Plays mutual_line mutual_log
mutual_plays = refl
