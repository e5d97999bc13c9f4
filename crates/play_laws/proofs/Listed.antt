-- Only the line's own actors ever have a due entry.
use Rattle.std.proofs.Common.{◌≡◌, ℕ, zero, suc, ◌+◌, ◌==◌, ◌⊎◌, inl, inr, Bool, true, false, ◌||◌, ◌&&◌, cond, nat_lt}
use Rattle.std.proofs.Common.{Option, Some, None, is_some, List, [], ◌∷◌, ◌++◌, map, refl, sym, ap, ◌∙◌, subst, eqb-true}
use Rattle.std.proofs.lemmas.Bool.{or_cases, or_left, or_right}
use Rattle.std.specs.List.{list_any}
use Rattle.irq_base.specs.declared.numbers.CpuNo.{CpuNo}
use Rattle.irq_base.specs.declared.numbers.DevNo.{DevNo}
use Rattle.irq_base.specs.declared.numbers.DriverNo.{DriverNo}
use Rattle.irq_base.specs.declared.calls.Call.{Call}
use Rattle.irq_base.specs.declared.devices.DeviceDef.{DeviceDef}
use Rattle.irq_base.specs.declared.lines.LineDef.{LineDef}
use Rattle.irq_base.specs.declared.entries.Actor.{Actor}
use Rattle.irq_base.specs.declared.entries.Actor.TheVariants as actors
use Rattle.irq_base.specs.declared.entries.Entry.{Entry}
use Rattle.irq_base.specs.declared.entries.Entry.TheVariants as by
use Rattle.irq_base.specs.declared.entries.CpuEntry.TheVariants as cpus
use Rattle.irq_base.specs.declared.entries.TakeAnswer.TheVariants as takes
use Rattle.irq_model.specs.Kinds.{same_driver, is_handle}
use Rattle.irq_model.specs.Lines.{is_device, has_device, is_in_mask, is_eoi_flow}
use Rattle.irq_model.specs.Links.{is_linked}
use Rattle.irq_model.specs.Places.{last_of}
use Rattle.irq_model.specs.Links.{is_oneshot}
use Rattle.irq_model.specs.Rounds.{closes, cpu_of_handle, flow, has_flow, is_cpu}
use Rattle.irq_model.specs.Signal.{lowest_from, mask_in_force, target}
use Rattle.irq_model.specs.Threads.{is_woken, is_running}
use Rattle.irq_model.specs.Due.{calls_by, due_of, due_call, entries_by}
use Rattle.irq_model.specs.Reason.{is_being_freed, is_called}
use Rattle.irq_model.specs.Threads.{is_unfinished}
use Rattle.irq_model.specs.Next.{next_of_thread, next_of_driver, next_past}
use Rattle.irq_model.specs.Waits.{is_unfinished_actor}
use Rattle.irq_model.specs.Legal.{IsDue, IsLegalPast}
use Rattle.irq_model.specs.Valid.{IsValid}
use Rattle.irq_model.proofs.Same.{cpu_from_same}
use Rattle.irq_laws.specs.Kept.{Kept}
use Rattle.irq_laws.proofs.RestKept.{there_named, woken_there, running_there}
use Rattle.irq_laws.proofs.Chosen.{chosen, the_same}
use Rattle.irq_laws.proofs.ImpliesFlow.{take_due, CpuRow, calls, returns, begins, ends, takes, resent, cpu_row}
use Rattle.irq_laws.proofs.ImpliesThread.{row, has_returned, has_finished}
use Rattle.play_laws.specs.Actors.{put, rising, count_up, threads_of, cpus_of, drivers_of, actors_of, IsOneOf}

-- ---- who is in a list

pub in_first : (a : Actor) (xs ys : List Actor) → IsOneOf a xs → IsOneOf a (xs ++ ys)
in_first a [] ys at = absurd at
in_first a (x ∷ xs) ys at = elim at [ inl here ↦ inl here | inr there ↦ inr (in_first a xs ys there) ]

pub in_second : (a : Actor) (xs ys : List Actor) → IsOneOf a ys → IsOneOf a (xs ++ ys)
in_second a [] ys at = at
in_second a (x ∷ xs) ys at = inr (in_second a xs ys at)

put_here : (f : ℕ → Actor) (n : ℕ) (ms : List ℕ) → IsOneOf (f n) (map f (put n ms))
put_here f n [] = inl refl
put_here f n (m ∷ ms) = by_tests (nat_lt n m) (n == m) refl (put_here f n ms)
  where
    by_tests : (l e : Bool) → (n == m) ≡ e → IsOneOf (f n) (map f (put n ms)) → IsOneOf (f n) (map f (cond l (n ∷ m ∷ ms) (cond e (m ∷ ms) (m ∷ put n ms))))
    by_tests true e is rest = inl refl
    by_tests false true is rest = inl (ap f (eqb-true n m is))
    by_tests false false is rest = inr rest

put_keeps : (f : ℕ → Actor) (a : Actor) (n : ℕ) (ms : List ℕ) → IsOneOf a (map f ms) → IsOneOf a (map f (put n ms))
put_keeps f a n [] at = absurd at
put_keeps f a n (m ∷ ms) at = by_tests (nat_lt n m) (n == m) at (put_keeps f a n ms)
  where
    by_tests : (l e : Bool) → (a ≡ f m) ⊎ IsOneOf a (map f ms) → (IsOneOf a (map f ms) → IsOneOf a (map f (put n ms)))
        → IsOneOf a (map f (cond l (n ∷ m ∷ ms) (cond e (m ∷ ms) (m ∷ put n ms))))
    by_tests true e at deeper = inr at
    by_tests false true at deeper = at
    by_tests false false (inl here) deeper = inl here
    by_tests false false (inr there) deeper = inr (deeper there)

named : (f : ℕ → Actor) (n : ℕ) (ms : List ℕ) → list_any (λ m. n == m) ms ≡ true → IsOneOf (f n) (map f (rising ms))
named f n [] h = cc
named f n (m ∷ ms) h = by_case (or_cases (n == m) (list_any (λ m. n == m) ms) h) (named f n ms)
  where
    by_case : ((n == m) ≡ true) ⊎ (list_any (λ m. n == m) ms ≡ true)
        → (list_any (λ m. n == m) ms ≡ true → IsOneOf (f n) (map f (rising ms)))
        → IsOneOf (f n) (map f (put m (rising ms)))
    by_case (inl here) deeper = subst (λ (k : ℕ). IsOneOf (f k) (map f (put m (rising ms)))) (sym (eqb-true n m here)) (put_here f m (rising ms))
    by_case (inr there) deeper = put_keeps f (f n) m (rising ms) (deeper there)

-- ---- threads

device_number : (d : DevNo) (xs : List DeviceDef) → list_any (is_device d) xs ≡ true → list_any (λ m. d.0 == m) (map (λ (x : DeviceDef). x.dev.0) xs) ≡ true
device_number d [] h = cc
device_number d (x ∷ xs) h = by_case (or_cases (is_device d x) (list_any (is_device d) xs) h) (device_number d xs)
  where
    by_case : (is_device d x ≡ true) ⊎ (list_any (is_device d) xs ≡ true)
        → (list_any (is_device d) xs ≡ true → list_any (λ m. d.0 == m) (map (λ (x : DeviceDef). x.dev.0) xs) ≡ true)
        → ((d.0 == x.dev.0) || list_any (λ m. d.0 == m) (map (λ (x : DeviceDef). x.dev.0) xs)) ≡ true
    by_case (inl here) deeper = or_left (d.0 == x.dev.0) _ here
    by_case (inr there) deeper = or_right (d.0 == x.dev.0) _ (deeper there)

idle_thread : (r w t o f h : Bool) (a : Entry) (b : Option Entry) (c d e : Entry) → row r w t o f h a b c d ≡ Some e → w ≡ false → r ≡ false → ⊥
idle_thread true w t o f h a b c d e is x y = cc
idle_thread false true t o f h a b c d e is x y = cc
idle_thread false false t o f h a b c d e is x y = cc

-- neither linked nor being freed
at_rest : (l f w r u c : Bool) → l ≡ false → f ≡ false → (l ≡ false → f ≡ false → (w || (r || (u || c))) ≡ false) → (w ≡ false) × (r ≡ false)
at_rest l f false false u c x y h = (refl, refl)
at_rest l f true r u c x y h = let n = h x y in cc
at_rest l f false true u c x y h = let n = h x y in cc

both_false : (a b : Bool) → (a || b) ≡ false → (a ≡ false) × (b ≡ false)
both_false false false h = (refl, refl)
both_false true b h = cc
both_false false true h = cc

pub thread_device : (def : LineDef) (past : List Entry) (d : DevNo) (e : Entry) → Kept def past
    → next_of_thread def d past ≡ Some e → list_any (is_device d) def.devices ≡ true
thread_device def past d e k h = by_there (is_linked past d || is_being_freed past d) refl
  where
    by_there : (b : Bool) → (is_linked past d || is_being_freed past d) ≡ b → list_any (is_device d) def.devices ≡ true
    by_there true is = there_named def past k d is
    by_there false is =
        let n = both_false (is_linked past d) (is_being_freed past d) is in
        let m = at_rest (is_linked past d) (is_being_freed past d) (is_woken past d) (is_running past d)
        (is_unfinished past d) (is_called past d) n.0 n.1 (k.rest.at_rest d) in
        absurd (idle_thread (is_running past d) (is_woken past d) (has_returned past d) (is_oneshot past)
        (has_finished past d) (has_flow def past) _ _ _ _ e h m.0 m.1)

device_listed : (def : LineDef) (d : DevNo) → list_any (is_device d) def.devices ≡ true → IsOneOf (actors.Thread d) (threads_of def)
device_listed def d h = named numbered d.0 (map (λ (x : DeviceDef). x.dev.0) def.devices) (device_number d def.devices h)
  where
    numbered : ℕ → Actor
    numbered n = actors.Thread (record { 0 = n })

thread_listed : (def : LineDef) (past : List Entry) (d : DevNo) (e : Entry)
    → next_past def past (actors.Thread d) ≡ Some e → IsOneOf (actors.Thread d) (threads_of def)
thread_listed def past d e h = by_line (chosen (has_device def d) (next_of_thread def d past) None e h)
  where
    by_line : ((has_device def d ≡ true) × (next_of_thread def d past ≡ Some e))
        ⊎ ((has_device def d ≡ false) × (None ≡ Some e)) → IsOneOf (actors.Thread d) (threads_of def)
    by_line (inl h) = device_listed def d h.0
    by_line (inr h) = let n = h.1 in cc

-- ---- processors

abbrev numbered_cpu : ℕ → Actor
numbered_cpu n = actors.Cpu (record { 0 = n })

lowest_listed : (mask c n : ℕ) (k : CpuNo) → lowest_from mask c n ≡ Some k → IsOneOf (actors.Cpu k) (map numbered_cpu (count_up c n))
lowest_listed mask c zero k h = cc
lowest_listed mask c (suc n) k h = by_test (is_in_mask mask c) h (lowest_listed mask (c + 1) n k)
  where
    by_test : (b : Bool) → cond b (Some (record { 0 = c })) (lowest_from mask (c + 1) n) ≡ Some k
        → (lowest_from mask (c + 1) n ≡ Some k → IsOneOf (actors.Cpu k) (map numbered_cpu (count_up (c + 1) n)))
        → (actors.Cpu k ≡ numbered_cpu c) ⊎ IsOneOf (actors.Cpu k) (map numbered_cpu (count_up (c + 1) n))
    by_test true is deeper = let here : CpuNo = record { 0 = c } in inl (sym (ap actors.Cpu (the_same here k is)))
    by_test false is deeper = inr (deeper is)

target_listed : (def : LineDef) (past : List Entry) (c : CpuNo) → is_cpu c (target def past) ≡ true → IsOneOf (actors.Cpu c) (cpus_of def)
target_listed def past c is = by_target (target def past) refl is
  where
    by_target : (o : Option CpuNo) → target def past ≡ o → is_cpu c o ≡ true → IsOneOf (actors.Cpu c) (cpus_of def)
    by_target None at h = cc
    by_target (Some k) at h =
        subst (λ (x : CpuNo). IsOneOf (actors.Cpu x) (cpus_of def)) (sym (cpu_from_same c k h)) (lowest_listed (mask_in_force def past) 0 def.cpus k at)

not_handled : {P : Type 0} (x : Bool) → (false || (false || (x && false))) ≡ true → P
not_handled true h = cc
not_handled false h = cc

-- the flow is a processor's that took, as the target
flow_listed : (def : LineDef) (past : List Entry) (c : CpuNo) → IsLegalPast def past → flow def past ≡ Some c → IsOneOf (actors.Cpu c) (cpus_of def)
flow_listed def [] c legal is = cc
flow_listed def (e ∷ past) c legal is = by_test (is_handle e || closes def e) refl (flow_listed def past c legal.1)
  where
    taken : (x : Entry) → IsDue def x past → (is_handle x || closes def x) ≡ true → cpu_of_handle (Some x) ≡ Some c → IsOneOf (actors.Cpu c) (cpus_of def)
    taken (by.Cpu cpu (cpus.Take way takes.Handle)) due t at =
        subst (λ (y : CpuNo). IsOneOf (actors.Cpu y) (cpus_of def)) (the_same cpu c at)
        (target_listed def past cpu (take_due def cpu way takes.Handle past due).of_target)
    taken (by.Cpu cpu (cpus.Take way takes.Busy)) due t at = not_handled (is_eoi_flow def.flow) t
    taken (by.Cpu cpu (cpus.Take way takes.Off)) due t at = not_handled (is_eoi_flow def.flow) t
    taken x due t at = cc

    by_test : (b : Bool) → (is_handle e || closes def e) ≡ b
        → (flow def past ≡ Some c → IsOneOf (actors.Cpu c) (cpus_of def)) → IsOneOf (actors.Cpu c) (cpus_of def)
    by_test true t deeper = taken e legal.0 t (sym (ap
        (λ (b : Bool). cpu_of_handle (cond b (Some e) (last_of (λ e. is_handle e || closes def e) past))) t) ∙ is)
    by_test false t deeper = deeper (sym (ap (λ (b : Bool). cpu_of_handle (cond b (Some e) (last_of (λ e. is_handle e || closes def e) past))) t) ∙ is)

-- the flow is that of one of the line's processors
pub flow_of_own : (def : LineDef) (past : List Entry) (c : CpuNo) → IsLegalPast def past
    → is_cpu c (flow def past) ≡ true → IsOneOf (actors.Cpu c) (cpus_of def)
flow_of_own def past c legal is = in_flow (flow def past) refl is
  where
    in_flow : (o : Option CpuNo) → flow def past ≡ o → is_cpu c o ≡ true → IsOneOf (actors.Cpu c) (cpus_of def)
    in_flow None at is = cc
    in_flow (Some k) at is = subst (λ (x : CpuNo). IsOneOf (actors.Cpu x) (cpus_of def)) (sym (cpu_from_same c k is)) (flow_listed def past k legal at)

cpu_listed : (def : LineDef) (past : List Entry) (c : CpuNo) (e : Entry) → IsLegalPast def past → CpuRow def c past e → IsOneOf (actors.Cpu c) (cpus_of def)
cpu_listed def past c e legal (calls call u same) = flow_of_own def past c legal u.of_flow
cpu_listed def past c e legal (returns d f w n same) = flow_of_own def past c legal f
cpu_listed def past c e legal (begins d f w l same) = flow_of_own def past c legal f
cpu_listed def past c e legal (ends f w l same) = flow_of_own def past c legal f
cpu_listed def past c e legal (takes f t s same) = target_listed def past c t
cpu_listed def past c e legal (resent f t s o same) = target_listed def past c t

-- ---- drivers

call_number : (r : DriverNo) (cs : List (DriverNo × Call)) (es : List Entry) (x : Call × ℕ)
    → due_of (calls_by r cs) es ≡ Some x → list_any (λ m. r.0 == m) (map (λ (c : DriverNo × Call). c.0.0) cs) ≡ true
call_number r [] es x h = cc
call_number r (c ∷ cs) es x h = by_test (same_driver r c.0) refl (call_number r cs es x)
  where
    by_test : (b : Bool) → same_driver r c.0 ≡ b → (due_of (calls_by r cs) es ≡ Some x
        → list_any (λ m. r.0 == m) (map (λ (c : DriverNo × Call). c.0.0) cs) ≡ true)
        → ((r.0 == c.0.0) || list_any (λ m. r.0 == m) (map (λ (c : DriverNo × Call). c.0.0) cs)) ≡ true
    by_test true is deeper = or_left (r.0 == c.0.0) _ is
    by_test false is deeper = or_right (r.0 == c.0.0) _ (deeper (sym (ap (λ (b : Bool). due_of (cond b (c.1 ∷ calls_by r cs) (calls_by r cs)) es) is) ∙ h))

-- a driver with a due call
pub due_listed : (def : LineDef) (past : List Entry) (r : DriverNo) (x : Call × ℕ) → due_call def r past ≡ Some x → IsOneOf (actors.Driver r) (drivers_of def)
due_listed def past r x is = named numbered r.0 (map (λ (c : DriverNo × Call). c.0.0) def.calls) (call_number r def.calls (entries_by r past) x is)
  where
    numbered : ℕ → Actor
    numbered n = actors.Driver (record { 0 = n })

driver_listed : (def : LineDef) (past : List Entry) (r : DriverNo) (e : Entry)
    → next_of_driver def r past (due_call def r past) ≡ Some e → IsOneOf (actors.Driver r) (drivers_of def)
driver_listed def past r e h = by_due (due_call def r past) refl h
  where
    by_due : (o : Option (Call × ℕ)) → due_call def r past ≡ o → next_of_driver def r past o ≡ Some e → IsOneOf (actors.Driver r) (drivers_of def)
    by_due None is h = cc
    by_due (Some x) is h = due_listed def past r x is

-- ---- all of them

pub mover_listed : (def : LineDef) (past : List Entry) (a : Actor) (e : Entry) → IsValid def → IsLegalPast def past
    → next_past def past a ≡ Some e → IsOneOf a (actors_of def)
mover_listed def past (actors.Thread d) e valid legal h =
    in_first (actors.Thread d) (threads_of def) (cpus_of def ++ drivers_of def) (thread_listed def past d e h)
mover_listed def past (actors.Cpu c) e valid legal h =
    in_second (actors.Cpu c) (threads_of def) (cpus_of def ++ drivers_of def)
    (in_first (actors.Cpu c) (cpus_of def) (drivers_of def) (cpu_listed def past c e legal (cpu_row def c past e h)))
mover_listed def past (actors.Driver r) e valid legal h =
    in_second (actors.Driver r) (threads_of def) (cpus_of def ++ drivers_of def)
    (in_second (actors.Driver r) (cpus_of def) (drivers_of def) (driver_listed def past r e h))

-- who has begun something, or has something left to do
pub unfinished_listed : (def : LineDef) (past : List Entry) (a : Actor) → IsLegalPast def past → Kept def past
    → is_unfinished_actor def past a ≡ true → IsOneOf a (actors_of def)
unfinished_listed def past (actors.Thread d) legal k h =
    in_first (actors.Thread d) (threads_of def) (cpus_of def ++ drivers_of def) (device_listed def d (there (or_cases (is_woken past d) (is_running past d) h)))
  where
    there : (is_woken past d ≡ true) ⊎ (is_running past d ≡ true) → list_any (is_device d) def.devices ≡ true
    there (inl woken) = there_named def past k d (woken_there def past k d woken)
    there (inr running) = there_named def past k d (running_there def past k d running)
unfinished_listed def past (actors.Cpu c) legal k h =
    in_second (actors.Cpu c) (threads_of def) (cpus_of def ++ drivers_of def)
    (in_first (actors.Cpu c) (cpus_of def) (drivers_of def) (flow_of_own def past c legal h))
unfinished_listed def past (actors.Driver r) legal k h = by_due (due_call def r past) refl
  where
    by_due : (o : Option (Call × ℕ)) → due_call def r past ≡ o → IsOneOf (actors.Driver r) (actors_of def)
    by_due None is = let n : true ≡ false = sym h ∙ ap is_some is in cc
    by_due (Some x) is =
        in_second (actors.Driver r) (threads_of def) (cpus_of def ++ drivers_of def)
        (in_second (actors.Driver r) (cpus_of def) (drivers_of def) (due_listed def past r x is))
