-- Whether an entry is the last of its call.
use Rattle.std.proofs.Common.{◌≡◌, ◌⊎◌, inl, inr, ℕ, zero, suc, ◌+◌, ◌==◌, Bool, true, false, not, cond, if◌then◌else◌}
use Rattle.std.proofs.Common.{Option, option_map, Some, None, List, [], ◌∷◌, ◌++◌, length, drop, min, nat_lt, nat_le, refl, sym, ap, subst}
use Rattle.std.proofs.Common.{◌∙◌, arith, length-append}
use Rattle.std.proofs.lemmas.Bool.{ltb-true, le-ltb}
use Rattle.std.proofs.lemmas.Bool.Decides.{nat_tests}
use Rattle.irq_base.specs.declared.calls.Call.{Call}
use Rattle.irq_base.specs.declared.calls.Call.TheVariants as calls
use Rattle.irq_base.specs.declared.entries.Actor.TheVariants as actors
use Rattle.irq_base.specs.declared.entries.Entry.{Entry}
use Rattle.irq_base.specs.declared.entries.Entry.TheVariants as by
use Rattle.irq_base.specs.declared.entries.CallEntry.{CallEntry}
use Rattle.irq_base.specs.declared.entries.CallEntry.TheVariants as called
use Rattle.irq_base.specs.declared.entries.UnlinkAnswer.{UnlinkAnswer}
use Rattle.irq_base.specs.declared.entries.UnlinkAnswer.TheVariants as unlinks
use Rattle.irq_base.specs.declared.lines.LineDef.{LineDef}
use Rattle.irq_base.specs.declared.numbers.CpuNo.{CpuNo}
use Rattle.irq_base.specs.declared.numbers.DevNo.{DevNo}
use Rattle.irq_base.specs.declared.numbers.DriverNo.{DriverNo}
use Rattle.irq_model.specs.Due.{finds_nothing, calls_by, entries_by, begins_not_there, entries_of_call, due_of, due_call, holds_mutex}
use Rattle.irq_model.specs.Kinds.{is_call, is_by_driver, clears, syncs}
use Rattle.irq_model.specs.Next.{next_step, next_of_call, unlink_answer, hard_clear_of, synced_of, freed_of, next_of_free, next_of_disable}
use Rattle.irq_model.specs.Next.{next_of_disable_hard, next_of_sync}
use Rattle.irq_model.proofs.DueSteps.{entries_more}
use Rattle.irq_laws.proofs.Chosen.{the_same, from_else, from_then}
use Rattle.irq_laws.proofs.Lists.{both_ways}
use Rattle.irq_laws.proofs.Progress.{Standing, standing, same_count, due_at, goes_on}
use Rattle.line_scripts.specs.Endings.{completes, finishes_free}

abbrev is_not_there : Entry → Bool
is_not_there e = is_call finds_nothing e

-- by the number of the entries that stand before it: the entry is the last of its call
abbrev pub completes_at : Call → ℕ → Entry → Bool
completes_at (calls.Free dev) n e = if n == 0 then is_not_there e else nat_le 2 n
completes_at calls.Disable n e = nat_le 2 n
completes_at calls.Sync n e = nat_le 1 n
completes_at calls.DisableHard n e = nat_le 1 n
completes_at _ n e = true

-- ---- what the entry itself tells

hard : (def : LineDef) (past : List Entry) (k : CallEntry) → hard_clear_of def past ≡ Some k → called.HardClear ≡ k
hard def past k is = (from_else _ called.HardClear k is).1

synced : (def : LineDef) (past : List Entry) (k : CallEntry) → synced_of def past ≡ Some k → called.Synced ≡ k
synced def past k is = (from_then _ called.Synced k is).1

freed : (past : List Entry) (d : DevNo) (k : CallEntry) → freed_of d past ≡ Some k → called.Freed d ≡ k
freed past d k is = (from_else _ (called.Freed d) k is).1

-- the same of a step of a call, whoever makes it
abbrev completes_step : Call → CallEntry → Bool
completes_step (calls.Free dev) k = finishes_free k
completes_step calls.Disable k = syncs k
completes_step calls.Sync k = syncs k
completes_step calls.DisableHard k = clears k
completes_step _ k = true

abbrev step_at : Call → ℕ → CallEntry → Bool
step_at (calls.Free dev) n k = if n == 0 then finds_nothing k else nat_le 2 n
step_at calls.Disable n k = nat_le 2 n
step_at calls.Sync n k = nat_le 1 n
step_at calls.DisableHard n k = nat_le 1 n
step_at _ n k = true

of_unlink : (a : UnlinkAnswer) (d : DevNo) → finishes_free (called.Unlink a d) ≡ finds_nothing (called.Unlink a d)
of_unlink unlinks.NotThere d = refl
of_unlink (unlinks.Unlinked last) d = refl

two_later : (n : ℕ) → nat_le 2 (suc (suc n)) ≡ true
two_later n = grind (arith, nat_tests)

-- of the entries that a free makes after the first, the second isn't the last and the third is
free_next : (def : LineDef) (dev : DevNo) (n : ℕ) (past : List Entry) (k : CallEntry)
    → next_of_free def dev n past ≡ Some k → finishes_free k ≡ step_at (calls.Free dev) n k
free_next def dev zero past k is =
    let u : called.Unlink (unlink_answer dev past) dev ≡ k = (from_else (holds_mutex past) (called.Unlink (unlink_answer dev past) dev) k is).1 in
    subst (λ (f : CallEntry). finishes_free f ≡ finds_nothing f) u (of_unlink (unlink_answer dev past) dev)
free_next def dev (suc zero) past k is = subst (λ (f : CallEntry). finishes_free f ≡ false) (hard def past k is) refl
free_next def dev (suc (suc n)) past k is = later (suc (suc n) == 0) (suc (suc n) == 1) (grind (arith, nat_tests)) (grind (arith, nat_tests)) is
  where
    later : (a b : Bool) → a ≡ false → b ≡ false → cond a
        (cond (holds_mutex past) None (Some (called.Unlink (unlink_answer dev past) dev)))
        (cond b (hard_clear_of def past) (freed_of dev past)) ≡ Some k
        → finishes_free k ≡ step_at (calls.Free dev) (suc (suc n)) k
    later false false x y is =
        subst (λ (f : CallEntry). finishes_free f ≡ true) (freed past dev k is) refl
        ∙ sym (third (suc (suc n) == 0) (grind (arith, nat_tests)))
      where
        third : (a : Bool) → a ≡ false → cond a (finds_nothing k) (nat_le 2 (suc (suc n))) ≡ true
        third true x = cc
        third false x = two_later n
    later true b x y is = cc
    later false true x y is = cc

disable_next : (def : LineDef) (n : ℕ) (past : List Entry) (k : CallEntry) → next_of_disable def n past ≡ Some k → syncs k ≡ nat_le 2 n
disable_next def zero past k is = subst (λ (f : CallEntry). syncs f ≡ false) (the_same called.Disable k is) refl
disable_next def (suc zero) past k is = subst (λ (f : CallEntry). syncs f ≡ false) (hard def past k is) refl
disable_next def (suc (suc n)) past k is = later (suc (suc n) == 0) (suc (suc n) == 1) (grind (arith, nat_tests)) (grind (arith, nat_tests)) is
  where
    later : (a b : Bool) → a ≡ false → b ≡ false → cond a (Some called.Disable)
        (cond b (hard_clear_of def past) (synced_of def past)) ≡ Some k
        → syncs k ≡ nat_le 2 (suc (suc n))
    later false false x y is = subst (λ (f : CallEntry). syncs f ≡ true) (synced def past k is) refl ∙ sym (two_later n)
    later true b x y is = cc
    later false true x y is = cc

one_later : (n : ℕ) → nat_le 1 (suc n) ≡ true
one_later n = grind (arith, nat_tests)

sync_next : (def : LineDef) (n : ℕ) (past : List Entry) (k : CallEntry) → next_of_sync def n past ≡ Some k → syncs k ≡ nat_le 1 n
sync_next def zero past k is = subst (λ (f : CallEntry). syncs f ≡ false) (hard def past k is) refl
sync_next def (suc n) past k is = later (suc n == 0) (grind (arith, nat_tests)) is
  where
    later : (a : Bool) → a ≡ false → cond a (hard_clear_of def past) (synced_of def past) ≡ Some k → syncs k ≡ nat_le 1 (suc n)
    later false x is = subst (λ (f : CallEntry). syncs f ≡ true) (synced def past k is) refl ∙ sym (one_later n)
    later true x is = cc

disable_hard_next : (def : LineDef) (n : ℕ) (past : List Entry) (k : CallEntry) → next_of_disable_hard def n past ≡ Some k
    → clears k ≡ nat_le 1 n
disable_hard_next def zero past k is = subst (λ (f : CallEntry). clears f ≡ false) (the_same called.Disable k is) refl
disable_hard_next def (suc n) past k is = later (suc n == 0) (grind (arith, nat_tests)) is
  where
    later : (a : Bool) → a ≡ false → cond a (Some called.Disable) (hard_clear_of def past) ≡ Some k → clears k ≡ nat_le 1 (suc n)
    later false x is = subst (λ (f : CallEntry). clears f ≡ true) (hard def past k is) refl ∙ sym (one_later n)
    later true x is = cc

-- whether the step that is due is the last one
step_last : (def : LineDef) (past : List Entry) (c : Call) (n : ℕ) (k : CallEntry) → next_step def past (c, n) ≡ Some k
    → completes_step c k ≡ step_at c n k
step_last def past (calls.Ask dev) n k is = refl
step_last def past (calls.Request dev flags) n k is = refl
step_last def past (calls.Free dev) n k is = free_next def dev n past k is
step_last def past calls.Disable n k is = disable_next def n past k is
step_last def past calls.DisableNosync n k is = refl
step_last def past calls.Enable n k is = refl
step_last def past calls.Sync n k is = sync_next def n past k is
step_last def past (calls.Affinity mask) n k is = refl
step_last def past (calls.Moment at) n k is = refl
step_last def past calls.SyncHard n k is = refl
step_last def past calls.DisableHard n k is = disable_hard_next def n past k is
step_last def past (calls.Wake dev) n k is = refl
step_last def past (calls.Quiet dev) n k is = refl
step_last def past (calls.Arm dev) n k is = refl
step_last def past (calls.Serve dev) n k is = refl

-- the same of the entry, by who makes it
module _ (make : CallEntry → Entry) (made : (test : CallEntry → Bool) (k : CallEntry) → is_call test (make k) ≡ test k) where
  of_step : (c : Call) (n : ℕ) (k : CallEntry) → completes_step c k ≡ step_at c n k → completes c (make k) ≡ completes_at c n (make k)
  of_step (calls.Ask dev) n k is = refl
  of_step (calls.Request dev flags) n k is = refl
  of_step (calls.Free dev) n k is = made finishes_free k ∙ (is ∙ ap (λ b. if n == 0 then b else nat_le 2 n) (sym (made finds_nothing k)))
  of_step calls.Disable n k is = made syncs k ∙ is
  of_step calls.DisableNosync n k is = refl
  of_step calls.Enable n k is = refl
  of_step calls.Sync n k is = made syncs k ∙ is
  of_step (calls.Affinity mask) n k is = refl
  of_step (calls.Moment at) n k is = refl
  of_step calls.SyncHard n k is = refl
  of_step calls.DisableHard n k is = made clears k ∙ is
  of_step (calls.Wake dev) n k is = refl
  of_step (calls.Quiet dev) n k is = refl
  of_step (calls.Arm dev) n k is = refl
  of_step (calls.Serve dev) n k is = refl

  last_made : (def : LineDef) (past : List Entry) (c : Call) (n : ℕ) (e : Entry) → option_map make (next_step def past (c, n)) ≡ Some e
      → completes c e ≡ completes_at c n e
  last_made def past c n e is = by_step (next_step def past (c, n)) refl is
    where
      by_step : (o : Option CallEntry) → next_step def past (c, n) ≡ o → option_map make o ≡ Some e → completes c e ≡ completes_at c n e
      by_step None due is = cc
      by_step (Some k) due is =
          subst (λ (f : Entry). completes c f ≡ completes_at c n f) (the_same (make k) e is) (of_step c n k (step_last def past c n k due))

of_driver : (def : LineDef) (r : DriverNo) (past : List Entry) (c : Call) (n : ℕ) (e : Entry)
    → option_map (by.DriverCall r) (next_step def past (c, n)) ≡ Some e → completes c e ≡ completes_at c n e
of_driver def r past c n e is = last_made (by.DriverCall r) (λ test k. refl) def past c n e is

-- whether the entry that is due is the last one, of a driver
pub last_is : (def : LineDef) (r : DriverNo) (past : List Entry) (c : Call) (n : ℕ) (e : Entry)
    → next_of_call def (actors.Driver r) past (c, n) ≡ Some e → completes c e ≡ completes_at c n e
last_is def r past (calls.Ask dev) n e is = refl
last_is def r past (calls.Request dev flags) n e is = refl
last_is def r past (calls.Free dev) n e is = of_driver def r past (calls.Free dev) n e is
last_is def r past calls.Disable n e is = of_driver def r past calls.Disable n e is
last_is def r past calls.DisableNosync n e is = refl
last_is def r past calls.Enable n e is = refl
last_is def r past calls.Sync n e is = of_driver def r past calls.Sync n e is
last_is def r past (calls.Affinity mask) n e is = refl
last_is def r past (calls.Moment at) n e is = refl
last_is def r past calls.SyncHard n e is = refl
last_is def r past calls.DisableHard n e is = of_driver def r past calls.DisableHard n e is
last_is def r past (calls.Wake dev) n e is = refl
last_is def r past (calls.Quiet dev) n e is = refl
last_is def r past (calls.Arm dev) n e is = refl
last_is def r past (calls.Serve dev) n e is = refl

-- of a run: by a handler on its processor, or by a thread
pub last_of_cpu : (def : LineDef) (past : List Entry) (x : CpuNo) (c : Call) (n : ℕ) (e : Entry)
    → next_of_call def (actors.Cpu x) past (c, n) ≡ Some e → completes c e ≡ completes_at c n e
last_of_cpu def past x c n e is = last_made (by.CpuCall x) (λ test k. refl) def past c n e is

pub last_of_thread : (def : LineDef) (past : List Entry) (d : DevNo) (c : Call) (n : ℕ) (e : Entry)
    → next_of_call def (actors.Thread d) past (c, n) ≡ Some e → completes c e ≡ completes_at c n e
last_of_thread def past d c n e is = last_made (by.ThreadCall d) (λ test k. refl) def past c n e is

-- ---- what is due behind it

begins_is : (e : Entry) → begins_not_there (e ∷ []) ≡ is_not_there e
begins_is e = refl

-- with one entry more than n, a call of 1, 2 or 3 entries is incomplete or not
of_one : (n : ℕ) → nat_lt (n + 1) 1 ≡ false
of_one n = le-ltb (n + 1) 1 (omega arith)

of_two : (n : ℕ) → nat_lt (n + 1) 2 ≡ not (nat_le 1 n)
of_two n = grind (arith, nat_tests)

of_three : (n : ℕ) → nat_lt (n + 1) 3 ≡ not (nat_le 2 n)
of_three n = grind (arith, nat_tests)

free_first : (b : Bool) → nat_lt 1 (cond b 1 3) ≡ not b
free_first true = refl
free_first false = refl

not_first : (n : ℕ) → (suc n == 0) ≡ false
not_first n = grind (arith, nat_tests)

free_later : (b : Bool) (n : ℕ) (last : Bool) → nat_lt (suc n) (cond b 1 3) ≡ true
    → nat_lt (suc n + 1) (cond b 1 3) ≡ not (cond (suc n == 0) last (nat_le 2 (suc n)))
free_later true n last some = absurd (let below = ltb-true (suc n) 1 some in omega (arith, below))
free_later false n last some = of_three (suc n) ∙ ap (λ (b : Bool). not (cond b last (nat_le 2 (suc n)))) (sym (not_first n))

-- with the entry the call isn't complete, unless it is its last
last_test : (c : Call) (own : List Entry) (e : Entry) → nat_lt (length own) (entries_of_call c own) ≡ true
    → nat_lt (length own + 1) (entries_of_call c (own ++ e ∷ [])) ≡ not (completes_at c (length own) e)
last_test (calls.Ask dev) own e some = of_one (length own)
last_test (calls.Request dev flags) own e some = of_one (length own)
last_test (calls.Free dev) [] e some = ap (λ (b : Bool). nat_lt 1 (cond b 1 3)) (begins_is e) ∙ free_first (is_not_there e)
last_test (calls.Free dev) (y ∷ ys) e some =
    ap (λ (m : ℕ). nat_lt (length (y ∷ ys) + 1) m) (same_count (calls.Free dev) y (ys ++ e ∷ []) ys)
    ∙ free_later (begins_not_there (y ∷ ys)) (length ys) (is_not_there e) some
last_test calls.Disable own e some = of_three (length own)
last_test calls.DisableNosync own e some = of_one (length own)
last_test calls.Enable own e some = of_one (length own)
last_test calls.Sync own e some = of_two (length own)
last_test (calls.Affinity mask) own e some = of_one (length own)
last_test (calls.Moment at) own e some = of_one (length own)
last_test calls.SyncHard own e some = of_one (length own)
last_test calls.DisableHard own e some = of_two (length own)
last_test (calls.Wake dev) own e some = of_one (length own)
last_test (calls.Quiet dev) own e some = of_one (length own)
last_test (calls.Arm dev) own e some = of_one (length own)
last_test (calls.Serve dev) own e some = of_one (length own)

-- of any calls, laid beside entries
module _ (cs : List Call) (es : List Entry) (e : Entry) (c : Call) (n : ℕ) (was : due_of cs es ≡ Some (c, n)) where
  tested : (s : Standing cs es c n) → nat_lt (length (s.own ++ e ∷ [])) (entries_of_call c (s.own ++ e ∷ [])) ≡ not (completes_at c n e)
  tested s =
      ap (λ (m : ℕ). nat_lt m (entries_of_call c (s.own ++ e ∷ []))) (length-append s.own (e ∷ []))
      ∙ (last_test c s.own e s.incomplete ∙ ap (λ (m : ℕ). not (completes_at c m e)) (sym s.counts))

  pub goes_over : completes_at c n e ≡ false → due_of cs (es ++ e ∷ []) ≡ Some (c, suc n)
  goes_over last =
      let s = standing cs es c n was in
      let more : length (s.own ++ e ∷ []) ≡ suc n = (let l = length-append s.own (e ∷ []) in let k = s.counts in omega (arith, l, k)) in
      s.more e
      ∙ (ap (λ (b : Bool). cond b (due_at c (length (s.own ++ e ∷ [])))
      (due_of s.rest (drop (entries_of_call c (s.own ++ e ∷ [])) (s.own ++ e ∷ [])))) (tested s ∙ ap not last)
      ∙ ap (λ (m : ℕ). due_at c m) more)

  pub ends_over : completes_at c n e ≡ true → (d : Call) (m : ℕ) → due_of cs (es ++ e ∷ []) ≡ Some (d, suc m) → ⊥
  ends_over last d m is = by_case (goes_on c s.rest s.own e d (suc m) s.incomplete (sym (s.more e) ∙ is))
    where
      s : Standing cs es c n
      s = standing cs es c n was

      by_case : ((d ≡ c) × (suc m ≡ length s.own + 1) × (nat_lt (suc m) (entries_of_call c (s.own ++ e ∷ [])) ≡ true)) ⊎ (suc m ≡ 0) → ⊥
      by_case (inl h) =
          both_ways (nat_lt (length (s.own ++ e ∷ [])) (entries_of_call c (s.own ++ e ∷ [])))
          (ap (λ (k : ℕ). nat_lt k (entries_of_call c (s.own ++ e ∷ []))) (length-append s.own (e ∷ []) ∙ sym h.1) ∙ h.2) (tested s ∙ ap not last)
      by_case (inr h) = omega (arith, h)

-- of a driver
module _ (def : LineDef) (r : DriverNo) (e : Entry) (past : List Entry) (c : Call) (n : ℕ)
    (mine : is_by_driver r e ≡ true) (was : due_call def r past ≡ Some (c, n)) where
  longer : due_call def r (e ∷ past) ≡ due_of (calls_by r def.calls) (entries_by r past ++ e ∷ [])
  longer = ap (λ (es : List Entry). due_of (calls_by r def.calls) es) (entries_more r e past mine)

  pub goes : completes_at c n e ≡ false → due_call def r (e ∷ past) ≡ Some (c, suc n)
  goes last = longer ∙ goes_over (calls_by r def.calls) (entries_by r past) e c n was last

  pub ends : completes_at c n e ≡ true → (d : Call) (m : ℕ) → due_call def r (e ∷ past) ≡ Some (d, suc m) → ⊥
  ends last d m is = ends_over (calls_by r def.calls) (entries_by r past) e c n was last d m (sym longer ∙ is)

below_two : (n : ℕ) → nat_le 2 n ≡ false → min (n + 1) 2 ≡ suc n
below_two n h = grind (arith, nat_tests, h)

-- before its last entry no call has more than two
pub one_more : (c : Call) (n : ℕ) (e : Entry) → completes_at c n e ≡ false → min (n + 1) 2 ≡ suc n
one_more (calls.Ask dev) n e more = cc
one_more (calls.Request dev flags) n e more = cc
one_more (calls.Free dev) zero e more = refl
one_more (calls.Free dev) (suc n) e more = below_two (suc n) (sym (not_none n) ∙ more)
  where
    not_none : (n : ℕ) → cond (suc n == 0) (is_not_there e) (nat_le 2 (suc n)) ≡ nat_le 2 (suc n)
    not_none n = ap (λ (b : Bool). cond b (is_not_there e) (nat_le 2 (suc n))) (not_first n)
one_more calls.Disable n e more = below_two n more
one_more calls.DisableNosync n e more = cc
one_more calls.Enable n e more = cc
one_more calls.Sync n e more = below_two n (let h : nat_le 2 n ≡ false = grind (arith, nat_tests, more) in h)
one_more (calls.Affinity mask) n e more = cc
one_more (calls.Moment at) n e more = cc
one_more calls.SyncHard n e more = cc
one_more calls.DisableHard n e more = below_two n (let h : nat_le 2 n ≡ false = grind (arith, nat_tests, more) in h)
one_more (calls.Wake dev) n e more = cc
one_more (calls.Quiet dev) n e more = cc
one_more (calls.Arm dev) n e more = cc
one_more (calls.Serve dev) n e more = cc
