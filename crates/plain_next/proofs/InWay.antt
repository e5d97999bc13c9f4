-- Who stands in the way of what is wanted, and that each who may is listed.
use Rattle.std.proofs.Common.{◌≡◌, ℕ, zero, suc, Bool, true, false, not, ◌||◌, ◌&&◌, Option, Some, None}
use Rattle.std.proofs.Common.{List, [], ◌∷◌, ◌++◌, filter, refl, sym, ap, subst, ◌∙◌}
use Rattle.std.specs.List.{list_any}
use Rattle.std.proofs.lemmas.Bool.{eq-eqb}
use Rattle.std.proofs.lemmas.List.Folds.{list_any-append}
use Rattle.irq_base.specs.declared.entries.Actor.{Actor}
use Rattle.irq_base.specs.declared.entries.Actor.TheVariants as actors
use Rattle.irq_base.specs.declared.entries.CpuEntry.TheVariants as cpus
use Rattle.irq_base.specs.declared.entries.ThreadEntry.TheVariants as threads
use Rattle.irq_base.specs.declared.entries.CallEntry.{CallEntry}
use Rattle.irq_base.specs.declared.entries.CallEntry.TheVariants as called
use Rattle.irq_base.specs.declared.entries.Entry.{Entry}
use Rattle.irq_base.specs.declared.entries.Entry.TheVariants as by
use Rattle.irq_base.specs.declared.lines.LineDef.{LineDef}
use Rattle.irq_base.specs.declared.numbers.CpuNo.{CpuNo}
use Rattle.irq_base.specs.declared.numbers.DevNo.{DevNo}
use Rattle.irq_model.specs.Kinds.{is_done, is_thread_begin, is_wake, same_actor, same_dev, wakes, wakes_by_call}
use Rattle.irq_model.specs.Places.{stands}
use Rattle.irq_model.specs.Rounds.{flow, is_cpu}
use Rattle.irq_model.specs.Threads.{is_running, is_woken}
use Rattle.irq_model.specs.Waits as waits
use Rattle.irq_model.specs.Waits.{StandsIn, mutex_holder}
use Rattle.plain_next.specs.Hanging.{StandIn, all_in_way, flow_actor, is_active, is_among, is_holder, listed, stands_in}
use Rattle.plain_next.specs.Hanging.{thread_told, threads_told, told_by_call}
use Rattle.plain_next.proofs.Among.{actor_is, among_kept, cpu_is, dev_is, itself, left_true, right_true}

-- the test is what the definition says

flow_is : (c : CpuNo) (o : Option CpuNo) → is_cpu c o ≡ true → o ≡ Some c
flow_is c None is = absurd cc
flow_is c (Some f) is = ap Some (sym (cpu_is c f is))

is_flow : (c : CpuNo) (o : Option CpuNo) → o ≡ Some c → is_cpu c o ≡ true
is_flow c o is = ap (is_cpu c) is ∙ eq-eqb c.0 c.0 refl

holder_is : (o : Option Actor) (b : Actor) → is_holder o b ≡ true → o ≡ Some b
holder_is None b is = absurd cc
holder_is (Some a) b is = ap Some (actor_is a b is)

is_the_holder : (o : Option Actor) (b : Actor) → o ≡ Some b → is_holder o b ≡ true
is_the_holder o b is = ap (λ (x : Option Actor). is_holder x b) is ∙ itself b

two : (a b : Bool) → (a && b) ≡ true → (a ≡ true) × (b ≡ true)
two true b is = (refl, is)
two false b is = absurd cc

both : (a b : Bool) → a ≡ true → b ≡ true → (a && b) ≡ true
both true b e f = f
both false b e f = absurd cc

module _ (def : LineDef) (past : List Entry) where
  pub stands_so : (want : waits.Want) (b : Actor) → stands_in def past want b ≡ true → StandsIn def past want b
  stands_so waits.flow_ends (actors.Thread d) is = absurd cc
  stands_so waits.flow_ends (actors.Cpu c) is = flow_is c (flow def past) is
  stands_so waits.flow_ends (actors.Driver r) is = absurd cc
  stands_so waits.threads_rest (actors.Thread d) is = is
  stands_so waits.threads_rest (actors.Cpu c) is = absurd cc
  stands_so waits.threads_rest (actors.Driver r) is = absurd cc
  stands_so (waits.thread_rests d) (actors.Thread e) is =
      let t = two (same_dev d e) (is_active past d) is in (dev_is d e t.0, t.1)
  stands_so (waits.thread_rests d) (actors.Cpu c) is = absurd cc
  stands_so (waits.thread_rests d) (actors.Driver r) is = absurd cc
  stands_so waits.mutex_free b is = holder_is (mutex_holder past) b is
  stands_so waits.nothing_wanted b is = absurd cc

  pub so_stands : (want : waits.Want) (b : Actor) → StandsIn def past want b → stands_in def past want b ≡ true
  so_stands waits.flow_ends (actors.Thread d) is = absurd is
  so_stands waits.flow_ends (actors.Cpu c) is = is_flow c (flow def past) is
  so_stands waits.flow_ends (actors.Driver r) is = absurd is
  so_stands waits.threads_rest (actors.Thread d) is = is
  so_stands waits.threads_rest (actors.Cpu c) is = absurd is
  so_stands waits.threads_rest (actors.Driver r) is = absurd is
  so_stands (waits.thread_rests d) (actors.Thread e) is =
      both (same_dev d e) (is_active past d) (ap (same_dev d) (sym is.0) ∙ eq-eqb d.0 d.0 refl) is.1
  so_stands (waits.thread_rests d) (actors.Cpu c) is = absurd is
  so_stands (waits.thread_rests d) (actors.Driver r) is = absurd is
  so_stands waits.mutex_free b is = is_the_holder (mutex_holder past) b is
  so_stands waits.nothing_wanted b is = absurd is

-- an entry that wakes a thread, or is of one, tells of it

dev_told : (d e : DevNo) → same_dev d e ≡ true → Some (actors.Thread e) ≡ Some (actors.Thread d)
dev_told d e is = ap (λ x. Some (actors.Thread x)) (sym (dev_is d e is))

call_told : (d : DevNo) (call : CallEntry) → wakes_by_call d call ≡ true → told_by_call call ≡ Some (actors.Thread d)
call_told d (called.Wake woken dev) is = dev_told d dev (two woken (same_dev d dev) is).1
call_told d _ is = absurd cc

wakes_told : (d : DevNo) (e : Entry) → wakes d e ≡ true → thread_told e ≡ Some (actors.Thread d)
wakes_told d (by.Cpu cpu (cpus.Return answer dev served)) is = dev_told d dev (two (same_dev d dev) (is_wake answer) is).0
wakes_told d (by.CpuCall cpu call) is = call_told d call is
wakes_told d (by.ThreadCall dev call) is = call_told d call is
wakes_told d (by.DriverCall driver call) is = call_told d call is
wakes_told d _ is = absurd cc

begin_told : (d : DevNo) (e : Entry) → is_thread_begin d e ≡ true → thread_told e ≡ Some (actors.Thread d)
begin_told d (by.Thread dev threads.Begin) is = dev_told d dev is
begin_told d _ is = absurd cc

among_both : (xs ys : List Actor) (b : Actor) → is_among (xs ++ ys) b ≡ (is_among xs b || is_among ys b)
among_both xs ys b = list_any-append (λ a. same_actor a b) xs ys

listed_there : (o : Option Actor) (b : Actor) → o ≡ Some b → is_among (listed o) b ≡ true
listed_there o b is = ap (λ (x : Option Actor). is_among (listed x) b) is ∙ left_true (same_actor b b) false (itself b)

told_at : (p q : Entry → Bool) (b : Actor) → ((e : Entry) → p e ≡ true → thread_told e ≡ Some b) → (past : List Entry)
    → stands p q past ≡ true → is_among (threads_told past) b ≡ true
told_at p q b tells [] is = absurd cc
told_at p q b tells (e ∷ past) is = among_both (listed (thread_told e)) (threads_told past) b ∙ here (p e) refl is (told_at p q b tells past)
  where
    here : (t : Bool) → p e ≡ t → (t || (not (q e) && stands p q past)) ≡ true
        → (stands p q past ≡ true → is_among (threads_told past) b ≡ true) → (is_among (listed (thread_told e)) b || is_among (threads_told past) b) ≡ true
    here true passes is rest = left_true _ _ (listed_there (thread_told e) b (tells e passes))
    here false other is rest = right_true (is_among (listed (thread_told e)) b) (is_among (threads_told past) b)
        (rest (two (not (q e)) (stands p q past) is).1)

active_told : (past : List Entry) (d : DevNo) → is_active past d ≡ true → is_among (threads_told past) (actors.Thread d) ≡ true
active_told past d is = by_test (is_woken past d) refl is
  where
    by_test : (t : Bool) → is_woken past d ≡ t → (t || is_running past d) ≡ true → is_among (threads_told past) (actors.Thread d) ≡ true
    by_test true woken is = told_at (wakes d) (is_thread_begin d) (actors.Thread d) (wakes_told d) past woken
    by_test false other is = told_at (is_thread_begin d) (is_done d) (actors.Thread d) (begin_told d) past is

-- whoever stands in the way is listed

module _ (def : LineDef) (past : List Entry) where
  of_thread : (b : Actor) → is_among (threads_told past) b ≡ true → is_among (all_in_way def past) b ≡ true
  of_thread b there =
      among_both (threads_told past ++ listed (flow_actor (flow def past))) (listed (mutex_holder past)) b
      ∙ left_true _ _ (among_both (threads_told past) (listed (flow_actor (flow def past))) b ∙ left_true _ _ there)

  of_flow : (c : CpuNo) → flow def past ≡ Some c → is_among (all_in_way def past) (actors.Cpu c) ≡ true
  of_flow c is =
      among_both (threads_told past ++ listed (flow_actor (flow def past))) (listed (mutex_holder past)) (actors.Cpu c)
      ∙ left_true _ _ (among_both (threads_told past) (listed (flow_actor (flow def past))) (actors.Cpu c)
      ∙ right_true (is_among (threads_told past) (actors.Cpu c)) _ (listed_there (flow_actor (flow def past)) (actors.Cpu c) (ap flow_actor is)))

  of_holder : (b : Actor) → mutex_holder past ≡ Some b → is_among (all_in_way def past) b ≡ true
  of_holder b is =
      among_both (threads_told past ++ listed (flow_actor (flow def past))) (listed (mutex_holder past)) b
      ∙ right_true (is_among (threads_told past ++ listed (flow_actor (flow def past))) b) _ (listed_there (mutex_holder past) b is)

  pub all_there : (want : waits.Want) (b : Actor) → StandsIn def past want b → is_among (all_in_way def past) b ≡ true
  all_there waits.flow_ends (actors.Thread d) is = absurd is
  all_there waits.flow_ends (actors.Cpu c) is = of_flow c is
  all_there waits.flow_ends (actors.Driver r) is = absurd is
  all_there waits.threads_rest (actors.Thread d) is = of_thread (actors.Thread d) (active_told past d is)
  all_there waits.threads_rest (actors.Cpu c) is = absurd is
  all_there waits.threads_rest (actors.Driver r) is = absurd is
  all_there (waits.thread_rests d) (actors.Thread e) is = of_thread (actors.Thread e)
      (subst (λ x. is_among (threads_told past) (actors.Thread x) ≡ true) is.0 (active_told past d is.1))
  all_there (waits.thread_rests d) (actors.Cpu c) is = absurd is
  all_there (waits.thread_rests d) (actors.Driver r) is = absurd is
  all_there waits.mutex_free b is = of_holder b is
  all_there waits.nothing_wanted b is = absurd is

  -- those who pass the test are those who stand in the way
  pub kept_stand : (want : waits.Want) (found : List Actor) → found ≡ filter (stands_in def past want) (all_in_way def past) → StandIn def past want found
  kept_stand want found is b = ap (λ (xs : List Actor). is_among xs b) is
      ∙ among_kept (stands_in def past want) (all_in_way def past) b (λ so. all_there want b (stands_so def past want b so))
