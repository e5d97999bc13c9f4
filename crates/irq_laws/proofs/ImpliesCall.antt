-- What the step of a call implies when it is due, whoever makes it: the call that it belongs to, and
-- the conditions of its row.
use Rattle.std.proofs.Common.{◌≡◌, ℕ, ◌⊎◌, inl, inr, Bool, true, false, ◌||◌, ◌==◌, cond, Option, Some, None, List}
use Rattle.std.proofs.Common.{sym, ap, ◌∙◌, eqb-true}
use Rattle.std.proofs.lemmas.Bool.{or_parts}
use Rattle.irq_base.specs.declared.numbers.DevNo.{DevNo}
use Rattle.irq_base.specs.declared.calls.Call.{Call}
use Rattle.irq_base.specs.declared.calls.Call.TheVariants as calls
use Rattle.irq_base.specs.declared.lines.LineDef.{LineDef}
use Rattle.irq_base.specs.declared.entries.Entry.{Entry}
use Rattle.irq_base.specs.declared.entries.CallEntry.{CallEntry}
use Rattle.irq_base.specs.declared.entries.CallEntry.TheVariants as called
use Rattle.irq_base.specs.declared.entries.EnableAnswer.{EnableAnswer}
use Rattle.irq_base.specs.declared.entries.UnlinkAnswer.{UnlinkAnswer}
use Rattle.irq_model.specs.Asks.{unserved_asks}
use Rattle.irq_model.specs.Rounds.{has_flow}
use Rattle.irq_model.specs.Threads.{is_woken, is_running, active_count}
use Rattle.irq_model.specs.Due.{holds_mutex}
use Rattle.irq_model.specs.Next.{enable_answer, unlink_answer, wake_answer, arm_makes_edge, hard_clear_of, synced_of}
use Rattle.irq_model.specs.Next.{freed_of, next_of_sync, next_of_disable, next_of_free, next_of_disable_hard, next_step}
use Rattle.irq_laws.proofs.Chosen.{chosen, from_then, from_else, the_same}

-- the rows of a call's step; `due` is the due call
pub data Row (def : LineDef) (due : Option (Call × ℕ)) (past : List Entry) (call : CallEntry) : Type 0 where
  unlink : (d : DevNo) → due ≡ Some (calls.Free d, 0) → holds_mutex past ≡ false
      → called.Unlink (unlink_answer d past) d ≡ call → Row def due past call
  free_clear : (d : DevNo) → due ≡ Some (calls.Free d, 1) → has_flow def past ≡ false → called.HardClear ≡ call → Row def due past call
  freed : (d : DevNo) (n : ℕ) → due ≡ Some (calls.Free d, n) → (n == 0) ≡ false → (n == 1) ≡ false
      → (is_woken past d || is_running past d) ≡ false → called.Freed d ≡ call → Row def due past call
  disable : due ≡ Some (calls.Disable, 0) → called.Disable ≡ call → Row def due past call
  disable_clear : due ≡ Some (calls.Disable, 1) → has_flow def past ≡ false → called.HardClear ≡ call → Row def due past call
  disable_synced : (n : ℕ) → due ≡ Some (calls.Disable, n) → (n == 0) ≡ false → (n == 1) ≡ false
      → active_count def past ≡ 0 → called.Synced ≡ call → Row def due past call
  nosync : (n : ℕ) → due ≡ Some (calls.DisableNosync, n) → called.Disable ≡ call → Row def due past call
  enable : (n : ℕ) → due ≡ Some (calls.Enable, n) → called.Enable (enable_answer def past) ≡ call → Row def due past call
  sync_clear : due ≡ Some (calls.Sync, 0) → has_flow def past ≡ false → called.HardClear ≡ call → Row def due past call
  synced : (n : ℕ) → due ≡ Some (calls.Sync, n) → (n == 0) ≡ false → active_count def past ≡ 0 → called.Synced ≡ call → Row def due past call
  hard : (n : ℕ) → due ≡ Some (calls.SyncHard, n) → has_flow def past ≡ false → called.HardClear ≡ call → Row def due past call
  hard_disable : due ≡ Some (calls.DisableHard, 0) → called.Disable ≡ call → Row def due past call
  hard_disable_clear : (n : ℕ) → due ≡ Some (calls.DisableHard, n) → (n == 0) ≡ false → has_flow def past ≡ false
      → called.HardClear ≡ call → Row def due past call
  wake : (d : DevNo) (n : ℕ) → due ≡ Some (calls.Wake d, n) → called.Wake (wake_answer def d past) d ≡ call → Row def due past call
  quiet : (d : DevNo) (n : ℕ) → due ≡ Some (calls.Quiet d, n) → called.Quiet d ≡ call → Row def due past call
  arm : (d : DevNo) (n : ℕ) → due ≡ Some (calls.Arm d, n) → called.Arm (arm_makes_edge def d past) d ≡ call → Row def due past call
  serve : (d : DevNo) (n : ℕ) → due ≡ Some (calls.Serve d, n) → called.Serve d (unserved_asks def d past) ≡ call → Row def due past call

at_zero : (c : Call) (n : ℕ) (due : Option (Call × ℕ)) → due ≡ Some (c, n) → (n == 0) ≡ true → due ≡ Some (c, 0)
at_zero c n due is zero = is ∙ ap (λ (m : ℕ). Some (c, m)) (eqb-true n 0 zero)

at_one : (c : Call) (n : ℕ) (due : Option (Call × ℕ)) → due ≡ Some (c, n) → (n == 1) ≡ true → due ≡ Some (c, 1)
at_one c n due is one = is ∙ ap (λ (m : ℕ). Some (c, m)) (eqb-true n 1 one)

clears : (def : LineDef) (past : List Entry) (call : CallEntry) → hard_clear_of def past ≡ Some call
    → (has_flow def past ≡ false) × (called.HardClear ≡ call)
clears def past call h = from_else (has_flow def past) called.HardClear call h

syncs : (def : LineDef) (past : List Entry) (call : CallEntry) → synced_of def past ≡ Some call → (active_count def past ≡ 0) × (called.Synced ≡ call)
syncs def past call h = let n = from_then (active_count def past == 0) called.Synced call h in (eqb-true (active_count def past) 0 n.0, n.1)

row_of_free : (def : LineDef) (d : DevNo) (n : ℕ) (due : Option (Call × ℕ)) (past : List Entry)
    (call : CallEntry) → due ≡ Some (calls.Free d, n) → next_of_free def d n past ≡ Some call → Row def due past call
row_of_free def d n due past call is h = first (chosen (n == 0) _ _ call h)
  where
    rest : (n == 0) ≡ false → ((n == 1) ≡ true) × (hard_clear_of def past ≡ Some call) ⊎ ((n == 1) ≡ false)
        × (freed_of d past ≡ Some call) → Row def due past call
    rest some (inl h) = let c = clears def past call h.1 in free_clear d (at_one (calls.Free d) n due is h.0) c.0 c.1
    rest some (inr h) = let f = from_else (is_woken past d || is_running past d) (called.Freed d) call h.1 in freed d n is some h.0 f.0 f.1

    first : ((n == 0) ≡ true) × (cond (holds_mutex past) None (Some (called.Unlink (unlink_answer d past) d)) ≡ Some call)
        ⊎ ((n == 0) ≡ false) × (cond (n == 1) (hard_clear_of def past) (freed_of d past) ≡ Some call) → Row def due past call
    first (inl h) = let u = from_else (holds_mutex past) _ call h.1 in unlink d (at_zero (calls.Free d) n due is h.0) u.0 u.1
    first (inr h) = rest h.0 (chosen (n == 1) _ _ call h.1)

row_of_disable : (def : LineDef) (n : ℕ) (due : Option (Call × ℕ)) (past : List Entry) (call : CallEntry)
    → due ≡ Some (calls.Disable, n) → next_of_disable def n past ≡ Some call → Row def due past call
row_of_disable def n due past call is h = first (chosen (n == 0) _ _ call h)
  where
    rest : (n == 0) ≡ false → ((n == 1) ≡ true) × (hard_clear_of def past ≡ Some call) ⊎ ((n == 1) ≡ false)
        × (synced_of def past ≡ Some call) → Row def due past call
    rest some (inl h) = let c = clears def past call h.1 in disable_clear (at_one calls.Disable n due is h.0) c.0 c.1
    rest some (inr h) = let s = syncs def past call h.1 in disable_synced n is some h.0 s.0 s.1

    first : ((n == 0) ≡ true) × (Some called.Disable ≡ Some call)
        ⊎ ((n == 0) ≡ false) × (cond (n == 1) (hard_clear_of def past) (synced_of def past) ≡ Some call) → Row def due past call
    first (inl h) = disable (at_zero calls.Disable n due is h.0) (the_same _ _ h.1)
    first (inr h) = rest h.0 (chosen (n == 1) _ _ call h.1)

row_of_sync : (def : LineDef) (n : ℕ) (due : Option (Call × ℕ)) (past : List Entry) (call : CallEntry)
    → due ≡ Some (calls.Sync, n) → next_of_sync def n past ≡ Some call → Row def due past call
row_of_sync def n due past call is h = first (chosen (n == 0) _ _ call h)
  where
    first : ((n == 0) ≡ true) × (hard_clear_of def past ≡ Some call) ⊎ ((n == 0) ≡ false) × (synced_of def past ≡ Some call) → Row def due past call
    first (inl h) = let c = clears def past call h.1 in sync_clear (at_zero calls.Sync n due is h.0) c.0 c.1
    first (inr h) = let s = syncs def past call h.1 in synced n is h.0 s.0 s.1

row_of_disable_hard : (def : LineDef) (n : ℕ) (due : Option (Call × ℕ)) (past : List Entry) (call : CallEntry)
    → due ≡ Some (calls.DisableHard, n) → next_of_disable_hard def n past ≡ Some call → Row def due past call
row_of_disable_hard def n due past call is h = first (chosen (n == 0) _ _ call h)
  where
    first : ((n == 0) ≡ true) × (Some called.Disable ≡ Some call) ⊎ ((n == 0) ≡ false) × (hard_clear_of def past ≡ Some call) → Row def due past call
    first (inl h) = hard_disable (at_zero calls.DisableHard n due is h.0) (the_same _ _ h.1)
    first (inr h) = let c = clears def past call h.1 in hard_disable_clear n is h.0 c.0 c.1

-- the row of a call's step
pub step_row : (def : LineDef) (due : Option (Call × ℕ)) (c : Call) (n : ℕ) (past : List Entry) (call : CallEntry)
    → due ≡ Some (c, n) → next_step def past (c, n) ≡ Some call → Row def due past call
step_row def due (calls.Free d) n past call is h = row_of_free def d n due past call is h
step_row def due calls.Disable n past call is h = row_of_disable def n due past call is h
step_row def due calls.DisableNosync n past call is h = nosync n is (the_same _ _ h)
step_row def due calls.Enable n past call is h = enable n is (the_same _ _ h)
step_row def due calls.Sync n past call is h = row_of_sync def n due past call is h
step_row def due calls.SyncHard n past call is h = let c = clears def past call h in hard n is c.0 c.1
step_row def due calls.DisableHard n past call is h = row_of_disable_hard def n due past call is h
step_row def due (calls.Wake d) n past call is h = wake d n is (the_same _ _ h)
step_row def due (calls.Quiet d) n past call is h = quiet d n is (the_same _ _ h)
step_row def due (calls.Arm d) n past call is h = arm d n is (the_same _ _ h)
step_row def due (calls.Serve d) n past call is h = serve d n is (the_same _ _ h)
step_row def due (calls.Ask d) n past call is h = cc
step_row def due (calls.Request d flags) n past call is h = cc
step_row def due (calls.Affinity mask) n past call is h = cc
step_row def due (calls.Moment at) n past call is h = cc

-- ---- what each step tells

pub record IsUnlinkDue (due : Option (Call × ℕ)) (d : DevNo) (answer : UnlinkAnswer) (past : List Entry) : Type 0 where
  pub call : due ≡ Some (calls.Free d, 0)
  pub no_mutex : holds_mutex past ≡ false
  pub answer_is : answer ≡ unlink_answer d past

pub record IsFreedDue (due : Option (Call × ℕ)) (d : DevNo) (past : List Entry) : Type 0 where
  pub count : ℕ
  pub call : due ≡ Some (calls.Free d, count)
  pub not_first : (count == 0) ≡ false
  pub not_second : (count == 1) ≡ false
  pub not_woken : is_woken past d ≡ false
  pub not_running : is_running past d ≡ false

-- the kinds of steps and rows, as numbers
abbrev kind : CallEntry → ℕ
kind called.Disable = 1
kind called.HardClear = 2
kind called.Synced = 3
kind (called.Enable answer) = 4
kind (called.Unlink answer dev) = 6
kind (called.Freed dev) = 7
kind (called.Wake woken dev) = 8
kind (called.Quiet dev) = 9
kind (called.Arm edge dev) = 10
kind (called.Serve dev served) = 11

abbrev row_kind : {def : LineDef} {due : Option (Call × ℕ)} {past : List Entry} {call : CallEntry} → Row def due past call → ℕ
row_kind (unlink d is free same) = 6
row_kind (free_clear d is no_flow same) = 2
row_kind (freed d n is some more rest same) = 7
row_kind (disable is same) = 1
row_kind (disable_clear is no_flow same) = 2
row_kind (disable_synced n is some more rest same) = 3
row_kind (nosync n is same) = 1
row_kind (enable n is same) = 4
row_kind (sync_clear is no_flow same) = 2
row_kind (synced n is some rest same) = 3
row_kind (hard n is no_flow same) = 2
row_kind (hard_disable is same) = 1
row_kind (hard_disable_clear n is some no_flow same) = 2
row_kind (wake d n is same) = 8
row_kind (quiet d n is same) = 9
row_kind (arm d n is same) = 10
row_kind (serve d n is same) = 11

kinds_agree : {def : LineDef} {due : Option (Call × ℕ)} {past : List Entry} {call : CallEntry} (row : Row def due past call) → row_kind row ≡ kind call
kinds_agree (unlink d is free same) = ap kind same
kinds_agree (free_clear d is no_flow same) = ap kind same
kinds_agree (freed d n is some more rest same) = ap kind same
kinds_agree (disable is same) = ap kind same
kinds_agree (disable_clear is no_flow same) = ap kind same
kinds_agree (disable_synced n is some more rest same) = ap kind same
kinds_agree (nosync n is same) = ap kind same
kinds_agree (enable n is same) = ap kind same
kinds_agree (sync_clear is no_flow same) = ap kind same
kinds_agree (synced n is some rest same) = ap kind same
kinds_agree (hard n is no_flow same) = ap kind same
kinds_agree (hard_disable is same) = ap kind same
kinds_agree (hard_disable_clear n is some no_flow same) = ap kind same
kinds_agree (wake d n is same) = ap kind same
kinds_agree (quiet d n is same) = ap kind same
kinds_agree (arm d n is same) = ap kind same
kinds_agree (serve d n is same) = ap kind same

pub unlink_step : (def : LineDef) (due : Option (Call × ℕ)) (d : DevNo) (answer : UnlinkAnswer) (past : List Entry)
    → Row def due past (called.Unlink answer d) → IsUnlinkDue due d answer past
unlink_step def due d answer past (unlink x is free same) =
    let s : x ≡ d = cc in
    let a : unlink_answer x past ≡ answer = cc in
    record { call = is ∙ ap (λ (y : DevNo). Some (calls.Free y, 0)) s; no_mutex = free; answer_is = sym a ∙ ap (λ (y : DevNo). unlink_answer y past) s }
unlink_step def due d answer past x = let n = kinds_agree x in cc

pub freed_step : (def : LineDef) (due : Option (Call × ℕ)) (d : DevNo) (past : List Entry)
    → Row def due past (called.Freed d) → IsFreedDue due d past
freed_step def due d past (freed x n is some more rest same) =
    let s : x ≡ d = cc in
    let at_rest : (is_woken past d || is_running past d) ≡ false = sym (ap (λ (y : DevNo). is_woken past y || is_running past y) s) ∙ rest in
    let parts = or_parts (is_woken past d) (is_running past d) at_rest in
    record {
      count = n;
      call = is ∙ ap (λ (y : DevNo). Some (calls.Free y, n)) s;
      not_first = some;
      not_second = more;
      not_woken = parts.0;
      not_running = parts.1;
    }
freed_step def due d past x = let n = kinds_agree x in cc

pub clear_step : (def : LineDef) (due : Option (Call × ℕ)) (past : List Entry)
    → Row def due past called.HardClear → has_flow def past ≡ false
clear_step def due past (free_clear d is no_flow same) = no_flow
clear_step def due past (disable_clear is no_flow same) = no_flow
clear_step def due past (sync_clear is no_flow same) = no_flow
clear_step def due past (hard n is no_flow same) = no_flow
clear_step def due past (hard_disable_clear n is some no_flow same) = no_flow
clear_step def due past x = let n = kinds_agree x in cc

pub synced_step : (def : LineDef) (due : Option (Call × ℕ)) (past : List Entry)
    → Row def due past called.Synced → active_count def past ≡ 0
synced_step def due past (disable_synced n is some more rest same) = rest
synced_step def due past (synced n is some rest same) = rest
synced_step def due past x = let n = kinds_agree x in cc

-- a sync's end is the third entry of a disable, or the second of a sync
pub synced_call : (def : LineDef) (due : Option (Call × ℕ)) (past : List Entry) → Row def due past called.Synced
    → ((n : ℕ) × (due ≡ Some (calls.Disable, n)) × ((n == 0) ≡ false) × ((n == 1) ≡ false))
    ⊎ ((n : ℕ) × (due ≡ Some (calls.Sync, n)) × ((n == 0) ≡ false))
synced_call def due past (disable_synced n is some more rest same) = inl (n, is, some, more)
synced_call def due past (synced n is some rest same) = inr (n, is, some)
synced_call def due past x = let n = kinds_agree x in cc

pub enable_step : (def : LineDef) (due : Option (Call × ℕ)) (answer : EnableAnswer) (past : List Entry)
    → Row def due past (called.Enable answer) → answer ≡ enable_answer def past
enable_step def due answer past (enable n is same) = (let a : answer ≡ enable_answer def past = cc in a)
enable_step def due answer past x = let n = kinds_agree x in cc

pub wake_step : (def : LineDef) (due : Option (Call × ℕ)) (woken : Bool) (d : DevNo) (past : List Entry)
    → Row def due past (called.Wake woken d) → woken ≡ wake_answer def d past
wake_step def due woken d past (wake x n is same) =
    let s : x ≡ d = cc in
    let a : wake_answer def x past ≡ woken = cc in
    sym a ∙ ap (λ (y : DevNo). wake_answer def y past) s
wake_step def due woken d past x = let n = kinds_agree x in cc

pub arm_step : (def : LineDef) (due : Option (Call × ℕ)) (edge : Bool) (d : DevNo) (past : List Entry)
    → Row def due past (called.Arm edge d) → edge ≡ arm_makes_edge def d past
arm_step def due edge d past (arm x n is same) =
    let s : x ≡ d = cc in
    let a : arm_makes_edge def x past ≡ edge = cc in
    sym a ∙ ap (λ (y : DevNo). arm_makes_edge def y past) s
arm_step def due edge d past x = let n = kinds_agree x in cc

pub serve_step : (def : LineDef) (due : Option (Call × ℕ)) (d : DevNo) (served : ℕ) (past : List Entry)
    → Row def due past (called.Serve d served) → served ≡ unserved_asks def d past
serve_step def due d served past (serve x n is same) =
    let s : x ≡ d = cc in
    let a : unserved_asks def x past ≡ served = cc in
    sym a ∙ ap (λ (y : DevNo). unserved_asks def y past) s
serve_step def due d served past x = let n = kinds_agree x in cc
