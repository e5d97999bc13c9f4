-- A driver with a due call may add its entry exactly if nothing that the call waits for stands in
-- the way.
use Rattle.std.proofs.Common.{◌≡◌, ℕ, zero, suc, ◌+◌, ◌≤◌, ◌==◌, Bool, true, false, not, ◌||◌, ◌&&◌, cond, Option, Some}
use Rattle.std.proofs.Common.{None, is_some, List, [], ◌∷◌, refl, sym, ap, subst, ◌∙◌, arith, eqb-true, option_map}
use Rattle.std.specs.List.{list_any}
use Rattle.std.proofs.lemmas.Bool.{false_from_ne_true, and_from, and_parts}
use Rattle.irq_base.specs.declared.numbers.DevNo.{DevNo}
use Rattle.irq_base.specs.declared.numbers.DriverNo.{DriverNo}
use Rattle.irq_base.specs.declared.calls.Call.{Call}
use Rattle.irq_base.specs.declared.calls.Call.TheVariants as calls
use Rattle.irq_base.specs.declared.devices.DeviceDef.{DeviceDef}
use Rattle.irq_base.specs.declared.lines.LineDef.{LineDef}
use Rattle.irq_base.specs.declared.entries.Entry.{Entry}
use Rattle.irq_base.specs.declared.entries.CallEntry.{CallEntry}
use Rattle.irq_base.specs.declared.entries.CallEntry.TheVariants as called
use Rattle.irq_base.specs.declared.waiting.WaitFor.{WaitFor}
use Rattle.irq_base.specs.declared.waiting.WaitFor.TheVariants as waits
use Rattle.irq_model.specs.Legal.{IsLegalPast}
use Rattle.irq_model.specs.Kinds.{made_by}
use Rattle.irq_model.specs.Lines.{is_device}
use Rattle.irq_model.specs.Places.{count_of}
use Rattle.irq_model.specs.Reason.{is_being_freed}
use Rattle.irq_model.specs.Rounds.{has_flow}
use Rattle.irq_model.specs.Threads.{is_woken, is_running, active_count}
use Rattle.irq_model.specs.Due.{due_call, holds_mutex}
use Rattle.irq_model.specs.Next.{next_of_free, next_of_disable, next_of_disable_hard, next_of_sync, next_of_driver, hard_clear_of, synced_of}
use Rattle.irq_model.specs.Next.{freed_of, request_of, unlink_answer, next_past}
use Rattle.irq_model.specs.Valid.{IsValid}
use Rattle.irq_base.specs.declared.entries.Actor.{Actor}
use Rattle.irq_base.specs.declared.entries.Actor.TheVariants as actors
use Rattle.irq_model.proofs.Same.{dev_from_same}
use Rattle.irq_laws.specs.Blocks.{block_of, stands_in_way, is_freed_at_work}
use Rattle.irq_laws.specs.Kept.{freeing}
use Rattle.irq_laws.proofs.FreesKept.{same_free}
use Rattle.irq_laws.proofs.KeptAlways.{kept}
use Rattle.irq_laws.proofs.Lists.{any_imply}
use Rattle.irq_laws.proofs.Mutex.{freeing_holds}
use Rattle.irq_laws.proofs.ReasonLaws.{one_is_freed}

-- ---- a count of none

not_none : (n : ℕ) → 1 ≤ n → (n == 0) ≡ false
not_none n some = false_from_ne_true (n == 0) (λ h. let z = eqb-true n 0 h in omega (arith, z, some))

pub none_counted : {A : Type 0} (p q : A → Bool) (xs : List A) → ((count_of p xs + count_of q xs) == 0) ≡ not (list_any (λ x. p x || q x) xs)
none_counted p q [] = refl
none_counted p q (x ∷ xs) = by_tests (p x) (q x) (none_counted p q xs)
  where
    by_tests : (a b : Bool) → ((count_of p xs + count_of q xs) == 0) ≡ not (list_any (λ x. p x || q x) xs)
        → ((cond a (count_of p xs + 1) (count_of p xs) + cond b (count_of q xs + 1) (count_of q xs)) == 0) ≡ not ((a || b) || list_any (λ x. p x || q x) xs)
    by_tests true true h = not_none _ (omega arith)
    by_tests true false h = not_none _ (omega arith)
    by_tests false true h = not_none _ (omega arith)
    by_tests false false h = h

-- ---- the device that is being freed

same_tests : (a b : Bool) → (a ≡ true → b ≡ true) → (b ≡ true → a ≡ true) → a ≡ b
same_tests true b f g = sym (f refl)
same_tests false true f g = g refl
same_tests false false f g = refl

any_same : {A : Type 0} (b : Bool) (xs : List A) → list_any (λ x. b) xs ≡ true → b ≡ true
any_same true xs h = refl
any_same false [] h = h
any_same false (x ∷ xs) h = any_same false xs h

module _ (def : LineDef) (past : List Entry) (valid : IsValid def) (legal : IsLegalPast def past) where
  -- the device of the free that is under way is the one that is being freed
  being_freed : (r : Actor) (d : DevNo) → freeing past ≡ Some (r, d) → is_being_freed past d ≡ true
  being_freed r d under =
      let held = (one_is_freed def past valid legal).held (freeing_holds past (r, d) under) in
      let one = (kept def past valid legal).frees.one_device held.0 held.1 in
      subst (λ (x : DevNo). is_being_freed past x ≡ true) (same_free past one.0 r held.0 d one.1 under).1 held.1

  abbrev at_work : DevNo → Bool
  at_work d = is_woken past d || is_running past d

  abbrev freed_at_work : DevNo → Bool
  freed_at_work d = is_being_freed past d && at_work d

  pub freed_is : (r : Actor) (d : DevNo) → freeing past ≡ Some (r, d) → (is_woken past d || is_running past d) ≡ is_freed_at_work def past
  freed_is r d under = same_tests (at_work d) (is_freed_at_work def past) told meant
    where
      told : at_work d ≡ true → is_freed_at_work def past ≡ true
      told h =
          let freed = being_freed r d under in
          any_imply (is_device d) (λ (x : DeviceDef). freed_at_work x.dev) def.devices
          (λ x is. subst (λ (y : DevNo). freed_at_work y ≡ true) (dev_from_same d x.dev is) (and_from _ _ freed h))
          ((kept def past valid legal).rest.freed_named d freed)

      same_work : (x : DevNo) → freed_at_work x ≡ true → at_work d ≡ true
      same_work x h =
          let both = and_parts (is_being_freed past x) (at_work x) h in
          let one = (kept def past valid legal).frees.one_device x both.0 in
          subst (λ (y : DevNo). at_work y ≡ true) (same_free past one.0 r x d one.1 under).1 both.1

      meant : is_freed_at_work def past ≡ true → at_work d ≡ true
      meant h = any_same (at_work d) def.devices (any_imply (λ (x : DeviceDef). freed_at_work x.dev) (λ x. at_work d)
          def.devices (λ x is. same_work x.dev is) h)

-- the device of a free that has begun is at work exactly if the one that is being freed is
abbrev pub IsFreed : LineDef → List Entry → Call → ℕ → Type 0
IsFreed def past (calls.Free d) (suc n) = (is_woken past d || is_running past d) ≡ is_freed_at_work def past
IsFreed def past _ _ = Unit {0}

pub its_free : (def : LineDef) (past : List Entry) → IsValid def → IsLegalPast def past
    → (r : DriverNo) (c : Call) (n : ℕ) → due_call def r past ≡ Some (c, n) → IsFreed def past c n
its_free def past valid legal r (calls.Free d) zero is = tt
its_free def past valid legal r (calls.Free d) (suc n) is =
    freed_is def past valid legal (actors.Driver r) d ((kept def past valid legal).frees.within (actors.Driver r) d n is)
its_free def past valid legal r c n is = tt

-- ---- the rows

unless : {A : Type 0} (b : Bool) (e : A) → is_some (cond b None (Some e)) ≡ not b
unless true e = refl
unless false e = refl

when : {A : Type 0} (b : Bool) (e : A) → is_some (cond b (Some e) None) ≡ b
when true e = refl
when false e = refl

synced : (def : LineDef) (past : List Entry) → is_some (synced_of def past) ≡ not (stands_in_way def past waits.Threads)
synced def past =
    when (active_count def past == 0) called.Synced
    ∙ none_counted (λ (x : DeviceDef). is_woken past x.dev) (λ (x : DeviceDef). is_running past x.dev) def.devices

either : (def : LineDef) (past : List Entry) (b : Bool) (x y : Option CallEntry) (v w : WaitFor)
    → is_some x ≡ not (stands_in_way def past v) → is_some y ≡ not (stands_in_way def past w)
    → is_some (cond b x y) ≡ not (stands_in_way def past (cond b v w))
either def past true x y v w h i = h
either def past false x y v w h i = i

free_row : (def : LineDef) (past : List Entry) (d : DevNo) (n : ℕ) → IsFreed def past (calls.Free d) n
    → is_some (next_of_free def d n past) ≡ not (stands_in_way def past (block_of (calls.Free d) n))
free_row def past d zero freed = unless (holds_mutex past) (called.Unlink (unlink_answer d past) d)
free_row def past d (suc n) freed =
    either def past (suc n == 0) (cond (holds_mutex past) None (Some (called.Unlink (unlink_answer d past) d)))
    (cond (suc n == 1) (hard_clear_of def past) (freed_of d past)) waits.Mutex
    (cond (suc n == 1) waits.Flow waits.Freed)
    (unless (holds_mutex past) (called.Unlink (unlink_answer d past) d))
    (either def past (suc n == 1) (hard_clear_of def past) (freed_of d past) waits.Flow waits.Freed (unless (has_flow def past) called.HardClear)
    (unless (is_woken past d || is_running past d) (called.Freed d) ∙ ap not freed))

disable_row : (def : LineDef) (past : List Entry) (n : ℕ) → is_some (next_of_disable def n past) ≡ not (stands_in_way def past (block_of calls.Disable n))
disable_row def past n =
    either def past (n == 0) (Some called.Disable) (cond (n == 1) (hard_clear_of def past) (synced_of def past)) waits.Nothing
    (cond (n == 1) waits.Flow waits.Threads) refl
    (either def past (n == 1) (hard_clear_of def past) (synced_of def past) waits.Flow waits.Threads
    (unless (has_flow def past) called.HardClear) (synced def past))

sync_row : (def : LineDef) (past : List Entry) (n : ℕ) → is_some (next_of_sync def n past) ≡ not (stands_in_way def past (block_of calls.Sync n))
sync_row def past n =
    either def past (n == 0) (hard_clear_of def past) (synced_of def past) waits.Flow waits.Threads
    (unless (has_flow def past) called.HardClear) (synced def past)

made : (r : DriverNo) (o : Option CallEntry) → is_some (option_map (made_by (actors.Driver r)) o) ≡ is_some o
made r None = refl
made r (Some call) = refl

disable_hard_row : (def : LineDef) (past : List Entry) (n : ℕ)
    → is_some (next_of_disable_hard def n past) ≡ not (stands_in_way def past (block_of calls.DisableHard n))
disable_hard_row def past n =
    either def past (n == 0) (Some called.Disable) (hard_clear_of def past) waits.Nothing waits.Flow refl (unless (has_flow def past) called.HardClear)

row : (def : LineDef) (r : DriverNo) (past : List Entry) (c : Call) (n : ℕ) → IsFreed def past c n
    → is_some (next_of_driver def r past (Some (c, n))) ≡ not (stands_in_way def past (block_of c n))
row def r past (calls.Ask d) n freed = refl
row def r past (calls.Request d flags) n freed = unless (holds_mutex past) (request_of def r d flags past)
row def r past (calls.Free d) n freed = made r (next_of_free def d n past) ∙ free_row def past d n freed
row def r past calls.Disable n freed = made r (next_of_disable def n past) ∙ disable_row def past n
row def r past calls.DisableNosync n freed = refl
row def r past calls.Enable n freed = refl
row def r past calls.Sync n freed = made r (next_of_sync def n past) ∙ sync_row def past n
row def r past (calls.Affinity mask) n freed = refl
row def r past (calls.Moment at) n freed = refl
row def r past calls.SyncHard n freed = made r (hard_clear_of def past) ∙ unless (has_flow def past) called.HardClear
row def r past calls.DisableHard n freed = made r (next_of_disable_hard def n past) ∙ disable_hard_row def past n
row def r past (calls.Wake d) n freed = refl
row def r past (calls.Quiet d) n freed = refl
row def r past (calls.Arm d) n freed = refl
row def r past (calls.Serve d) n freed = refl

pub freed_waits : (def : LineDef) (past : List Entry) (r : DriverNo) (c : Call) (n : ℕ) → IsFreed def past c n
    → due_call def r past ≡ Some (c, n) → is_some (next_past def past (actors.Driver r))
    ≡ not (stands_in_way def past (block_of c n))
freed_waits def past r c n freed is = ap (λ (o : Option (Call × ℕ)). is_some (next_of_driver def r past o)) is ∙ row def r past c n freed

pub call_waits : (def : LineDef) (past : List Entry) → IsValid def → IsLegalPast def past
    → (r : DriverNo) (c : Call) (n : ℕ) → due_call def r past ≡ Some (c, n)
    → is_some (next_past def past (actors.Driver r)) ≡ not (stands_in_way def past (block_of c n))
call_waits def past valid legal r c n is = freed_waits def past r c n (its_free def past valid legal r c n is) is
