-- What is due of an actor is that actor's entry; who takes.
use Rattle.std.proofs.Common.{◌≡◌, true, Option, Some, None, List, reverse, sym, ap, ◌∙◌, subst}
use Rattle.irq_base.specs.declared.numbers.CpuNo.{CpuNo}
use Rattle.irq_base.specs.declared.numbers.DevNo.{DevNo}
use Rattle.irq_base.specs.declared.numbers.DriverNo.{DriverNo}
use Rattle.irq_base.specs.declared.lines.LineDef.{LineDef}
use Rattle.irq_base.specs.declared.entries.Actor.{Actor}
use Rattle.irq_base.specs.declared.entries.Actor.TheVariants as actors
use Rattle.irq_base.specs.declared.entries.Entry.{Entry}
use Rattle.irq_base.specs.declared.entries.Entry.TheVariants as by
use Rattle.irq_base.specs.declared.entries.CpuEntry.TheVariants as cpus
use Rattle.irq_base.specs.Who.{actor_of}
use Rattle.irq_model.specs.Kinds.{is_take}
use Rattle.irq_model.specs.Rounds.{is_cpu}
use Rattle.irq_model.specs.Signal.{target}
use Rattle.irq_model.specs.Next.{next_past, next}
use Rattle.irq_model.specs.Legal.{IsDue}
use Rattle.irq_model.proofs.Same.{cpu_from_same}
use Rattle.irq_laws.proofs.ImpliesFlow.{CpuRow, calls, returns, begins, ends, takes, resent, cpu_row, take_due}
use Rattle.irq_laws.proofs.ImpliesThread.{ThreadRow, thread_row}
use Rattle.irq_laws.proofs.ImpliesThread.{begins as begins_run, calls as calls_in_run, returns as returns_of_run, finishes, done}
use Rattle.irq_laws.proofs.ImpliesDriver.{DriverRow, driver_row, ask, request, affinity, moment, step}

-- ---- each row's entry is its actor's

of_thread : (def : LineDef) (d : DevNo) (past : List Entry) (e : Entry) → ThreadRow def d past e → actor_of e ≡ actors.Thread d
of_thread def d past e (begins_run r w same) = ap actor_of (sym same)
of_thread def d past e (calls_in_run call u same) = ap actor_of (sym same)
of_thread def d past e (returns_of_run r t n same) = ap actor_of (sym same)
of_thread def d past e (finishes r t o f h same) = ap actor_of (sym same)
of_thread def d past e (done r t a same) = ap actor_of (sym same)

of_cpu : (def : LineDef) (c : CpuNo) (past : List Entry) (e : Entry) → CpuRow def c past e → actor_of e ≡ actors.Cpu c
of_cpu def c past e (calls call u same) = ap actor_of (sym same)
of_cpu def c past e (returns d f w n same) = ap actor_of (sym same)
of_cpu def c past e (begins d f w l same) = ap actor_of (sym same)
of_cpu def c past e (ends f w l same) = ap actor_of (sym same)
of_cpu def c past e (takes f t s same) = ap actor_of (sym same)
of_cpu def c past e (resent f t s o same) = ap actor_of (sym same)

of_driver : (def : LineDef) (r : DriverNo) (past : List Entry) (e : Entry) → DriverRow def r past e → actor_of e ≡ actors.Driver r
of_driver def r past e (ask d n is same) = ap actor_of (sym same)
of_driver def r past e (request d flags n is free same) = ap actor_of (sym same)
of_driver def r past e (affinity mask n is same) = ap actor_of (sym same)
of_driver def r past e (moment at n is same) = ap actor_of (sym same)
of_driver def r past e (step due call is h same) = ap actor_of (sym same)

pub due_is_own_past : (def : LineDef) (past : List Entry) (a : Actor) (e : Entry) → next_past def past a ≡ Some e → actor_of e ≡ a
due_is_own_past def past (actors.Thread d) e is = of_thread def d past e (thread_row def d past e is)
due_is_own_past def past (actors.Cpu c) e is = of_cpu def c past e (cpu_row def c past e is)
due_is_own_past def past (actors.Driver r) e is = of_driver def r past e (driver_row def r past e is)

pub due_is_own : (def : LineDef) (h : List Entry) (a : Actor) (e : Entry) → next def h a ≡ Some e → actor_of e ≡ a
due_is_own def h a e is = due_is_own_past def (reverse h) a e is

-- ---- processors

the_target : (def : LineDef) (past : List Entry) (c : CpuNo) (e : Entry) → is_take e ≡ true → IsDue def e past
    → actor_of e ≡ actors.Cpu c → is_cpu c (target def past) ≡ true
the_target def past c (by.Cpu cpu (cpus.Take way answer)) is due by =
    let same : cpu ≡ c = cc in subst (λ (x : CpuNo). is_cpu x (target def past) ≡ true) same (take_due def cpu way answer past due).of_target
the_target def past c e is due by = cc

is_that : (c : CpuNo) (o : Option CpuNo) → is_cpu c o ≡ true → o ≡ Some c
is_that c None h = cc
is_that c (Some x) h = ap Some (sym (cpu_from_same c x h))

pub takes_at_target : (def : LineDef) (h : List Entry) (c : CpuNo) (e : Entry) → is_take e ≡ true
    → next def h (actors.Cpu c) ≡ Some e → target def (reverse h) ≡ Some c
takes_at_target def h c e is due =
    let by = due_is_own def h (actors.Cpu c) e due in
    is_that c (target def (reverse h)) (the_target def (reverse h) c e is (ap (next_past def (reverse h)) by ∙ due) by)

same_cpu_no : (b c : CpuNo) → Some b ≡ Some c → b ≡ c
same_cpu_no b c h = cc

pub one_takes : (def : LineDef) (h : List Entry) (b c : CpuNo) (e f : Entry) → is_take e ≡ true → is_take f ≡ true
    → next def h (actors.Cpu b) ≡ Some e → next def h (actors.Cpu c) ≡ Some f → b ≡ c
one_takes def h b c e f is_e is_f due_b due_c = same_cpu_no b c (sym (takes_at_target def h b e is_e due_b) ∙ takes_at_target def h c f is_f due_c)
