-- From phase to phase: when the machine is asleep each line is disabled, and when the system's
-- driver can't move any more each line is enabled again.
use Rattle.std.proofs.Common.{◌≡◌, ℕ, ◌+◌, ◌<◌, ◌≤◌, Bool, true, false, ◌&&◌, cond, is_some, Option, Some, None, List}
use Rattle.std.proofs.Common.{[], ◌∷◌, ◌++◌, length, take, slice_get, refl, sym, ap, ◌∙◌, arith}
use Rattle.irq_base.specs.declared.calls.Call.{Call}
use Rattle.irq_base.specs.declared.calls.Call.TheVariants as calls
use Rattle.irq_base.specs.declared.entries.Actor.TheVariants as actors
use Rattle.irq_base.specs.declared.entries.Entry.{Entry}
use Rattle.irq_base.specs.declared.numbers.CpuNo.{CpuNo}
use Rattle.irq_base.specs.declared.numbers.DevNo.{DevNo}
use Rattle.irq_base.specs.declared.numbers.DriverNo.{DriverNo}
use Rattle.irq_base.specs.declared.numbers.LineNo.{LineNo}
use Rattle.irq_model.specs.Due.{calls_by, entries_by, due_of as due_among, due_call}
use Rattle.irq_model.specs.Kinds.{same_line, same_driver}
use Rattle.irq_model.specs.Next.{next_of_driver, next_past}
use Rattle.irq_model.proofs.Same.{same_self_line}
use Rattle.irq_laws.proofs.Lists.{both_ways}
use Rattle.irq_laws.proofs.Progress.{due_at}
use Rattle.board_def.specs.Rules.{IsBoard, has_driver}
use Rattle.board_def.specs.Seen.{BoardSeen}
use Rattle.board_def.specs.declared.rows.ScriptCall.{ScriptCall}
use Rattle.board_driver.specs.Longer.{last_driver}
use Rattle.board_core.specs.Firsts.{call_on, with_line}
use Rattle.board_play.specs.Current.{calls_on, is_open, current_from, current_line}
use Rattle.board_play.specs.Kept.{AreKept}
use Rattle.board_play.specs.Lines.{BoardLine, find_line}
use Rattle.board_play.specs.Order.{move_on, due_on, due_move}
use Rattle.board_play.proofs.Counting.{completed, not_all_complete, kth_is_due}
use Rattle.board_play.proofs.KeptAlways.{apart_kept}
use Rattle.board_play.proofs.Listed.{def_at}
use Rattle.board_play.proofs.Members.{find_there}
use Rattle.board_play.proofs.Moves.{line_stands}
use Rattle.board_play.proofs.OfBoard.{calls_fit}
use Rattle.board_play.proofs.Script.{is_on, in_all, done, current, no_current}
use Rattle.irq_pm.proofs.LeftAlone.{script, Position, at_none, at_disable, at_clear, at_synced, at_enable, position}
use Rattle.irq_pm.specs.Sleeping.{is_suspended}
use Rattle.irq_pm.specs.Phases.{due_of, is_disable_call, is_disable_due, last_move}
use Rattle.irq_pm.specs.SleptBoard.{are_runs_calm, slept}
use Rattle.irq_pm.proofs.Calm.{calm_boards_settle, calm_def}
use Rattle.irq_pm.proofs.Rests.{disable_moves}
use Rattle.irq_pm.proofs.Script.{disables, enables, all_calls, its_script, disabled_once}

abbrev pub Each : (BoardLine → Type 0) → List BoardLine → Type 0
Each P lines = (i : ℕ) (x : BoardLine) → slice_get lines i ≡ Some x → P x

-- the system's driver has completed its disable of the line; and its enable
abbrev pub IsShut : BoardLine → Type 0
IsShut x = 1 ≤ completed x.def last_driver x.past

abbrev pub IsOpened : BoardLine → Type 0
IsOpened x = (is_suspended last_driver x.past ≡ false) × (due_call x.def last_driver x.past ≡ None)

-- a call that is found among the first ones is found among all
found_before : (lines : List BoardLine) (r : DriverNo) (before cs ds : List ScriptCall) (x : BoardLine)
    → current_from lines r before cs ≡ Some x → current_from lines r before (cs ++ ds) ≡ Some x
found_before lines r before [] ds x is = cc
found_before lines r before (c ∷ cs) ds x is = by_test
    (same_driver r c.driver && is_open (find_line lines c.line) r (calls_on c.line r before)) is
    (found_before lines r (c ∷ before) cs ds x)
  where
    by_test : (t : Bool) → cond t (find_line lines c.line) (current_from lines r (c ∷ before) cs) ≡ Some x
        → (current_from lines r (c ∷ before) cs ≡ Some x → current_from lines r (c ∷ before) (cs ++ ds) ≡ Some x)
        → cond t (find_line lines c.line) (current_from lines r (c ∷ before) (cs ++ ds)) ≡ Some x
    by_test true is deeper = is
    by_test false is deeper = deeper is

-- the current call isn't complete
still_open : (lines : List BoardLine) (cs : List ScriptCall) (x : BoardLine)
    → current_from lines last_driver [] cs ≡ Some x → done x last_driver < calls_on x.def.line last_driver cs
still_open lines cs x is =
    let k = current lines last_driver [] cs x is in
    let on : is_on x.def.line last_driver k.call ≡ true =
    ap (λ (l : LineNo). same_line l x.def.line && same_driver last_driver k.call.driver) k.line
    ∙ (ap (λ (b : Bool). b && same_driver last_driver k.call.driver) (same_self_line x.def.line) ∙ k.mine) in
    let below = in_all x.def.line last_driver cs k.place k.call k.at on in
    let waits : done x last_driver ≤ calls_on x.def.line last_driver [] + calls_on x.def.line last_driver (take k.place cs) = k.waits in
    omega (arith, below, waits)

zero_of : (n : ℕ) → n < 1 → n ≡ 0
zero_of n h = omega (arith, h)

one_of : (n : ℕ) → n < 2 → 1 ≤ n → n ≡ 1
one_of n h k = omega (arith, h, k)

is_disable : (c : Call) → is_disable_call c ≡ true → c ≡ calls.Disable
is_disable calls.Disable h = refl
is_disable c h = cc

not_none : (o : Option Entry) (line : LineNo) → is_some o ≡ true → move_on line o ≡ None → ⊥
not_none None line some none = cc
not_none (Some e) line some none = cc

module _ (b : BoardSeen) (is : IsBoard b) (long : IsBoard (slept b)) (free : has_driver b.drivers last_driver ≡ false)
    (lines : List BoardLine) (k : AreKept (slept b) lines) where
  its : (i : ℕ) (x : BoardLine) → slice_get lines i ≡ Some x → calls_by last_driver x.def.calls ≡ script
  its i x at = its_script b is long free i x.def (def_at (slept b) lines k i x at)

  -- before its disable is complete it is due
  due_disable : (i : ℕ) (x : BoardLine) → slice_get lines i ≡ Some x → completed x.def last_driver x.past ≡ 0
      → (n : ℕ) × (due_call x.def last_driver x.past ≡ Some (calls.Disable, n))
  due_disable i x at none =
      kth_is_due x.def last_driver x.past calls.Disable
      (ap (λ (cs : List Call). slice_get cs (completed x.def last_driver x.past)) (its i x at) ∙ ap (λ (n : ℕ). slice_get script n) none)

  due_enable : (i : ℕ) (x : BoardLine) → slice_get lines i ≡ Some x → completed x.def last_driver x.past ≡ 1
      → (n : ℕ) × (due_call x.def last_driver x.past ≡ Some (calls.Enable, n))
  due_enable i x at one =
      kth_is_due x.def last_driver x.past calls.Enable
      (ap (λ (cs : List Call). slice_get cs (completed x.def last_driver x.past)) (its i x at) ∙ ap (λ (n : ℕ). slice_get script n) one)

  -- ---- asleep

  whole : (x : BoardLine) → current_from lines last_driver [] (b.calls ++ disables b is long free) ≡ Some x
      → current_line (slept b).calls lines last_driver ≡ Some x
  whole x found = ap (λ (cs : List ScriptCall). current_from lines last_driver [] cs) (all_calls b is long free)
      ∙ found_before lines last_driver [] (b.calls ++ disables b is long free) (enables b is long free) x found

  pub all_shut : is_disable_due (due_of (slept b) lines last_driver) ≡ false → Each IsShut lines
  all_shut past_disables = by_found (current_from lines last_driver [] (b.calls ++ disables b is long free)) refl
    where
      by_found : (o : Option BoardLine) → current_from lines last_driver [] (b.calls ++ disables b is long free) ≡ o → Each IsShut lines
      by_found None none i x at =
          let all = no_current lines last_driver [] (b.calls ++ disables b is long free) none x
          (find_there lines (apart_kept (slept b) long lines k) i x at) (omega arith) in
          let once = disabled_once b is long free i x.def (def_at (slept b) lines k i x at) in
          omega (arith, all, once)
      by_found (Some y) found i x at =
          let s = line_stands (slept b) lines (actors.Driver last_driver) y (whole y found) in
          let once = disabled_once b is long free s.place y.def (def_at (slept b) lines k s.place y s.at) in
          let waits = still_open lines (b.calls ++ disables b is long free) y found in
          let due = due_disable s.place y s.at (zero_of (completed y.def last_driver y.past) (omega (arith, once, waits))) in
          both_ways (is_disable_due (due_of (slept b) lines last_driver))
          (ap (λ (o : Option BoardLine). is_disable_due (call_on o last_driver)) (whole y found)
          ∙ ap (λ (o : Option (Call × ℕ)). is_disable_due (with_line y.def.line o)) due.1) past_disables

  -- ---- open again

  awake : (i : ℕ) (x : BoardLine) → slice_get lines i ≡ Some x → due_call x.def last_driver x.past ≡ None → is_suspended last_driver x.past ≡ false
  awake i x at none = by_place (position x.def last_driver x.past (its i x at) (k.legal i x at))
    where
      due : (es : List Entry) → entries_by last_driver x.past ≡ es → due_among script es ≡ None
      due es same = ap (λ (xs : List Entry). due_among script xs) (sym same)
          ∙ (ap (λ (cs : List Call). due_among cs (entries_by last_driver x.past)) (sym (its i x at)) ∙ none)

      by_place : Position last_driver x.past → is_suspended last_driver x.past ≡ false
      by_place (at_none same awake) = awake
      by_place (at_disable a same left) = let d = due (a ∷ []) same in cc
      by_place (at_clear a c same left) = let d = due (a ∷ c ∷ []) same in cc
      by_place (at_synced a c d same left) = let d = due (a ∷ c ∷ d ∷ []) same in cc
      by_place (at_enable a c d e same awake) = awake

  no_more_calls : current_line (slept b).calls lines last_driver ≡ None → (i : ℕ) (x : BoardLine)
      → slice_get lines i ≡ Some x → due_call x.def last_driver x.past ≡ None
  no_more_calls none i x at = by_due (due_call x.def last_driver x.past) refl
    where
      by_due : (o : Option (Call × ℕ)) → due_call x.def last_driver x.past ≡ o → due_call x.def last_driver x.past ≡ None
      by_due None due = due
      by_due (Some z) due =
          absurd
          (let all = no_current lines last_driver [] (slept b).calls none x (find_there lines (apart_kept (slept b) long lines k) i x at) (omega arith) in
          let fits = calls_fit (slept b) i x.def (def_at (slept b) lines k i x at) last_driver in
          let less = not_all_complete x.def last_driver x.past z due in
          omega (arith, all, fits, less))

  -- a line whose disable is complete and whose enable isn't: the driver moves
  enable_moves : (i : ℕ) (x : BoardLine) → slice_get lines i ≡ Some x
      → current_line (slept b).calls lines last_driver ≡ Some x → IsShut x → last_move (slept b) lines ≡ None → ⊥
  enable_moves i x at here shut none =
      let waits = still_open lines (slept b).calls x here in
      let fits = calls_fit (slept b) i x.def (def_at (slept b) lines k i x at) last_driver in
      let two : length (calls_by last_driver x.def.calls) ≡ 2 = ap (λ (cs : List Call). length cs) (its i x at) in
      let due = due_enable i x at (one_of (completed x.def last_driver x.past) (omega (arith, waits, fits, two)) shut) in
      let next : is_some (next_past x.def x.past (actors.Driver last_driver))
      ≡ true = ap (λ (o : Option (Call × ℕ)). is_some (next_of_driver x.def last_driver x.past o)) due.1 in
      not_none (next_past x.def x.past (actors.Driver last_driver)) x.def.line next
      (ap (λ (o : Option BoardLine). due_on o (actors.Driver last_driver)) (sym here) ∙ none)

  pub all_opened : Each IsShut lines → last_move (slept b) lines ≡ None → Each IsOpened lines
  all_opened shut none = by_line (current_line (slept b).calls lines last_driver) refl
    where
      by_line : (o : Option BoardLine) → current_line (slept b).calls lines last_driver ≡ o → Each IsOpened lines
      by_line None here i x at = let d = no_more_calls here i x at in (awake i x at d, d)
      by_line (Some y) here i x at = let s = line_stands (slept b) lines (actors.Driver last_driver) y here in
          absurd (enable_moves s.place y s.at here (shut s.place y s.at) none)

  -- ---- falling asleep never gets stuck

  pub never_stuck : are_runs_calm b ≡ true → ((d : DevNo) → due_move (slept b) lines (actors.Thread d) ≡ None)
      → ((c : CpuNo) → due_move (slept b) lines (actors.Cpu c) ≡ None)
      → is_disable_due (due_of (slept b) lines last_driver) ≡ true → last_move (slept b) lines ≡ None → ⊥
  never_stuck calm threads cpus disabling none = by_line (current_line (slept b).calls lines last_driver) refl disabling
    where
      by_call : (x : BoardLine) (o : Option (Call × ℕ)) → current_line (slept b).calls lines last_driver ≡ Some x
          → due_call x.def last_driver x.past ≡ o → is_disable_due (with_line x.def.line o) ≡ true → ⊥
      by_call x None here due disabling = cc
      by_call x (Some c) here due disabling =
          let s = line_stands (slept b) lines (actors.Driver last_driver) x here in
          let its : due_call x.def last_driver x.past ≡ Some (calls.Disable, c.1) = due ∙ ap (λ (k : Call). due_at k c.1) (is_disable c.0 disabling) in
          not_none (next_past x.def x.past (actors.Driver last_driver)) x.def.line
          (disable_moves (slept b) long lines k (calm_boards_settle b long calm lines k) threads cpus s.place x s.at
          (calm_def b calm s.place x.def (def_at (slept b) lines k s.place x s.at)) last_driver c.1 its)
          (ap (λ (o : Option BoardLine). due_on o (actors.Driver last_driver)) (sym here) ∙ none)

      by_line : (o : Option BoardLine) → current_line (slept b).calls lines last_driver ≡ o → is_disable_due (call_on o last_driver) ≡ true → ⊥
      by_line None here disabling = cc
      by_line (Some x) here disabling = by_call x (due_call x.def last_driver x.past) here refl disabling
