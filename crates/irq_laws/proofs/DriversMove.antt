-- No standstill among drivers: where nothing is at work, a driver with a due call may add its entry, or
-- the maker of the free that is under way may.
use Rattle.std.proofs.Common.{◌≡◌, ◌⊎◌, inl, inr, ℕ, zero, suc, ◌==◌, Bool, true, false, not, ◌||◌, ◌&&◌, cond, IsSome}
use Rattle.std.proofs.Common.{Option, Some, None, is_some, List, reverse, refl, sym, ap, ◌∙◌, subst, arith, eqb-true}
use Rattle.std.proofs.lemmas.Bool.{or_from, or_parts, false_from_ne_true}
use Rattle.irq_base.specs.declared.numbers.DevNo.{DevNo}
use Rattle.irq_base.specs.declared.numbers.DriverNo.{DriverNo}
use Rattle.irq_base.specs.declared.calls.Call.{Call}
use Rattle.irq_base.specs.declared.calls.Call.TheVariants as calls
use Rattle.irq_base.specs.declared.devices.DeviceDef.{DeviceDef}
use Rattle.irq_base.specs.declared.lines.LineDef.{LineDef}
use Rattle.irq_base.specs.declared.entries.Actor.{Actor}
use Rattle.irq_base.specs.declared.entries.Actor.TheVariants as actors
use Rattle.irq_base.specs.declared.entries.Entry.{Entry}
use Rattle.irq_base.specs.declared.waiting.WaitFor.{WaitFor}
use Rattle.irq_base.specs.declared.waiting.WaitFor.TheVariants as waits
use Rattle.irq_model.specs.Rounds.{flow, has_flow}
use Rattle.irq_model.specs.Reason.{is_being_freed}
use Rattle.irq_model.specs.Threads.{is_woken, is_running}
use Rattle.irq_model.specs.Due.{due_call, holds_mutex}
use Rattle.irq_model.specs.Next.{next, next_past}
use Rattle.irq_model.specs.Legal.{IsLegal}
use Rattle.irq_model.specs.Valid.{IsValid}
use Rattle.irq_laws.specs.Blocks.{block_of, stands_in_way, is_freed_at_work, FreeMoves}
use Rattle.irq_laws.specs.Actors.{due_of_actor}
use Rattle.irq_laws.specs.Kept.{Kept}
use Rattle.irq_laws.proofs.BlockLaws.{IsFreed, freed_waits}
use Rattle.irq_laws.proofs.Lists.{both_ways}
use Rattle.irq_laws.proofs.ImpliesFlow.{has_a_flow}
use Rattle.irq_laws.proofs.ImpliesDriver.{handler_works, thread_works}
use Rattle.irq_laws.proofs.Idle.{IsIdle, none_of}
use Rattle.irq_laws.proofs.KeptAlways.{kept}
use Rattle.irq_laws.proofs.Mutex.{holder}
use Rattle.irq_laws.proofs.WithinFree.{within_free}

at_rest : (def : LineDef) (past : List Entry) → IsIdle def past → (d : DevNo) → (is_woken past d || is_running past d) ≡ false
at_rest def past i d = let t = i.no_thread d in or_from (is_woken past d) (is_running past d) t.0 t.1

both_false : (a b : Bool) → b ≡ false → (a && b) ≡ false
both_false true b h = h
both_false false b h = refl

freed_rests : (def : LineDef) (past : List Entry) → IsIdle def past → is_freed_at_work def past ≡ false
freed_rests def past i = none_of (λ (x : DeviceDef). is_being_freed past x.dev &&
    (is_woken past x.dev || is_running past x.dev)) def.devices
    (λ x. both_false (is_being_freed past x.dev) _ (at_rest def past i x.dev))

is_freed : (def : LineDef) (past : List Entry) → IsIdle def past → (c : Call) (n : ℕ) → IsFreed def past c n
is_freed def past i (calls.Free d) zero = tt
is_freed def past i (calls.Free d) (suc n) = at_rest def past i d ∙ sym (freed_rests def past i)
is_freed def past i c n = tt

call_waits : (def : LineDef) (past : List Entry) → IsIdle def past → (r : DriverNo) (c : Call) (n : ℕ)
    → due_call def r past ≡ Some (c, n) → is_some (next_past def past (actors.Driver r))
    ≡ not (stands_in_way def past (block_of c n))
call_waits def past i r c n is = freed_waits def past r c n (is_freed def past i c n) is

-- on an idle line only the mutex stands in the way
only_mutex : (def : LineDef) (past : List Entry) → IsIdle def past → (b : WaitFor) → (stands_in_way def past b ≡ false) ⊎ (b ≡ waits.Mutex)
only_mutex def past i waits.Nothing = inl refl
only_mutex def past i waits.Flow = inl i.no_flow
only_mutex def past i waits.Threads = inl (none_of (λ (x : DeviceDef). is_woken past x.dev || is_running past x.dev)
    def.devices (λ x. at_rest def past i x.dev))
only_mutex def past i waits.Mutex = inr refl
only_mutex def past i waits.Freed = inl (freed_rests def past i)

-- within a free nothing waits for the mutex
within : (def : LineDef) (past : List Entry) → IsIdle def past → (d : DevNo) (n : ℕ) → stands_in_way def past (block_of (calls.Free d) (suc n)) ≡ false
within def past i d n = by_tests (suc n == 0) (suc n == 1) (not_zero n)
  where
    not_zero : (n : ℕ) → (suc n == 0) ≡ false
    not_zero n = false_from_ne_true (suc n == 0) (λ h. let z = eqb-true (suc n) 0 h in omega (arith, z))

    by_tests : (z o : Bool) → z ≡ false → stands_in_way def past (cond z waits.Mutex (cond o waits.Flow waits.Freed)) ≡ false
    by_tests true o h = cc
    by_tests false true h = i.no_flow
    by_tests false false h = freed_rests def past i

-- where nothing is at work only a driver can be within a free
pub only_driver : (def : LineDef) (past : List Entry) → IsIdle def past → (a : Actor) (due : Call × ℕ) → due_of_actor def a past ≡ Some due
    → (r : DriverNo) × (a ≡ actors.Driver r)
only_driver def past i (actors.Driver r) due is = (r, refl)
only_driver def past i (actors.Cpu c) due is =
    let w = handler_works def c due past is in both_ways (has_flow def past) (has_a_flow c (flow def past) w.of_flow) i.no_flow
only_driver def past i (actors.Thread d) due is = both_ways (is_running past d) (thread_works def d due past is).0 (i.no_thread d).1

-- the maker of the free that is under way moves
free_moves : (def : LineDef) (h : List Entry) → IsLegal def h → Kept def (reverse h) → IsIdle def (reverse h) → holds_mutex (reverse h) ≡ true → FreeMoves def h
free_moves def h legal k i held =
    let o = holder (reverse h) held in
    let under = k.frees.one_maker o.maker o.dev o.stands_there in
    let w = within_free def (reverse h) legal o.maker o.dev under in
    let r = only_driver def (reverse h) i o.maker (calls.Free o.dev, suc w.0) w.1 in
    let is = subst (λ (a : Actor). due_of_actor def a (reverse h) ≡ Some (calls.Free o.dev, suc w.0)) r.1 w.1 in
    record {
      maker = o.maker;
      dev = o.dev;
      under_way = under;
      after_unlink = w.0;
      call = w.1;
      moves = subst (λ (a : Actor). is_some (next def h a) ≡ true) (sym r.1)
          (call_waits def (reverse h) i r.0 (calls.Free o.dev) (suc w.0) is ∙ ap not (within def (reverse h) i o.dev w.0));
    }

pub idle_drivers_move : (def : LineDef) (h : List Entry) → IsLegal def h → Kept def (reverse h) → IsIdle def (reverse h)
    → (r : DriverNo) (o : Option (Call × ℕ)) → due_call def r (reverse h) ≡ o → IsSome o
    → IsSome (next def h (actors.Driver r)) ⊎ FreeMoves def h
idle_drivers_move def h legal k i r None is some = cc
idle_drivers_move def h legal k i r (Some (c, n)) is some = by_block (only_mutex def (reverse h) i (block_of c n))
  where
    by_mutex : (b : Bool) → holds_mutex (reverse h) ≡ b → block_of c n ≡ waits.Mutex → IsSome (next def h (actors.Driver r)) ⊎ FreeMoves def h
    by_mutex true held waits = inr (free_moves def h legal k i held)
    by_mutex false free waits = inl (call_waits def (reverse h) i r c n is ∙ ap not (ap (stands_in_way def (reverse h)) waits ∙ free))

    by_block : (stands_in_way def (reverse h) (block_of c n) ≡ false) ⊎ (block_of c n ≡ waits.Mutex) → IsSome (next def h (actors.Driver r)) ⊎ FreeMoves def h
    by_block (inl none) = inl (call_waits def (reverse h) i r c n is ∙ ap not none)
    by_block (inr waits) = by_mutex (holds_mutex (reverse h)) refl waits

pub drivers_move : (def : LineDef) (h : List Entry) → IsValid def → IsLegal def h
    → has_flow def (reverse h) ≡ false → ((d : DevNo) → (is_woken (reverse h) d || is_running (reverse h) d) ≡ false)
    → (r : DriverNo) → IsSome (due_call def r (reverse h)) → IsSome (next def h (actors.Driver r)) ⊎ FreeMoves def h
drivers_move def h valid legal no_flow no_thread r some =
    idle_drivers_move def h legal (kept def (reverse h) valid legal)
    (record { no_flow = no_flow; no_thread = λ d. or_parts (is_woken (reverse h) d) (is_running (reverse h) d) (no_thread d) })
    r (due_call def r (reverse h)) refl some
