-- Of a line whose runs make no calls and are told nothing, and whose drivers turn no device's own
-- interrupt off, no device is ever quiet, and there is nothing to say of the runs.
use Rattle.std.proofs.Common.{◌≡◌, ℕ, min, Bool, true, false, not, ◌||◌, ◌&&◌, cond, ltb, Option, Some, None, List, []}
use Rattle.std.proofs.Common.{◌∷◌, drop, length, refl, sym, ap, ◌∙◌, arith}
use Rattle.std.specs.List.{list_any}
use Rattle.irq_base.specs.declared.calls.Call.{Call}
use Rattle.irq_base.specs.declared.calls.Call.TheVariants as calls
use Rattle.irq_base.specs.declared.devices.DeviceDef.{DeviceDef}
use Rattle.irq_base.specs.declared.devices.Part.{Part}
use Rattle.irq_base.specs.declared.devices.Part.TheVariants as parts
use Rattle.irq_base.specs.declared.devices.ToldAnswer.{ToldAnswer}
use Rattle.irq_base.specs.declared.entries.Actor.{Actor}
use Rattle.irq_base.specs.declared.entries.Actor.TheVariants as actors
use Rattle.irq_base.specs.declared.entries.CallEntry.{CallEntry}
use Rattle.irq_base.specs.declared.entries.CallEntry.TheVariants as called
use Rattle.irq_base.specs.declared.entries.CpuEntry.TheVariants as cpus
use Rattle.irq_base.specs.declared.entries.Entry.{Entry}
use Rattle.irq_base.specs.declared.entries.Entry.TheVariants as by
use Rattle.irq_base.specs.declared.entries.ThreadEntry.TheVariants as threads
use Rattle.irq_base.specs.declared.lines.LineDef.{LineDef}
use Rattle.irq_base.specs.declared.numbers.DevNo.{DevNo}
use Rattle.irq_base.specs.declared.numbers.DriverNo.{DriverNo}
use Rattle.irq_model.specs.Asks.{is_quiet}
use Rattle.irq_model.specs.Due.{calls_by, due_of, entries_of_call}
use Rattle.irq_model.specs.Kinds.{same_dev, same_driver, made_by, turns_off, turns_on, quiets}
use Rattle.irq_model.specs.Legal.{IsDue, IsLegalPast}
use Rattle.irq_model.specs.Lines.{run_script, script_in, told_answers, told_in}
use Rattle.irq_model.specs.Rounds.{at_work, flow, is_cpu}
use Rattle.irq_model.specs.RunLaws.{is_in_run}
use Rattle.irq_model.specs.Runs.{entries_of_run, makes_calls}
use Rattle.irq_laws.proofs.ImpliesCall.{Row, step_row, unlink, free_clear, freed, disable, disable_clear, disable_synced, nosync, enable, sync_clear, synced}
use Rattle.irq_laws.proofs.ImpliesCall.{hard, hard_disable, hard_disable_clear, wake, quiet, arm, serve}
use Rattle.irq_laws.proofs.ImpliesDriver.{call_due}
use Rattle.irq_laws.specs.Actors.{calls_at_work, calls_of, entries_of}
use Rattle.device_table.specs.Rows.{all_with, at, change, table_by}
use Rattle.run_scripts.specs.Places.{PlacesSeen, first_place, first_row, first_turn, handler_begun, thread_begun, placed}
use Rattle.run_scripts.specs.declared.rows.RunPlace.{RunPlace}
use Rattle.run_scripts.specs.declared.rows.RunRow.{RunRow}
use Rattle.run_scripts.specs.declared.rows.Turn.{Turn}
use Rattle.line_marks.specs.Places.{answer_count, laid_at, places_after, places_of, run_row, thread_calls, turn_of, work_with}
use Rattle.line_futures.proofs.EachRow.{walk, walk_is}
use Rattle.line_words.specs.Tables.{first_places}
use Rattle.line_words.specs.Words.{has_more, has_some, is_quiet_call}

-- ---- the due call of a list is one of its calls

passes_none : (q : Call → Bool) (cs : List Call) (es : List Entry) (due : Call × ℕ) → list_any q cs ≡ false → due_of cs es ≡ Some due → q due.0 ≡ false
passes_none q [] es due none is = cc
passes_none q (c ∷ cs) es due none is =
    by_test (ltb (length es) (entries_of_call c es)) (q c) refl none is (λ n i. passes_none q cs (drop (entries_of_call c es) es) due n i)
  where
    by_test : (b own : Bool) → q c ≡ own → (own || list_any q cs) ≡ false → cond b (Some (c, length es)) (due_of cs (drop (entries_of_call c es) es)) ≡ Some due
        → (list_any q cs ≡ false → due_of cs (drop (entries_of_call c es) es) ≡ Some due → q due.0 ≡ false) → q due.0 ≡ false
    by_test b true same n i rest = cc
    by_test true false same n i rest =
        let is_due : (c, length es) ≡ due = cc in
        ap (λ (x : Call × ℕ). q x.0) (sym is_due) ∙ same
    by_test false false same n i rest = rest n i

-- the step that turns a device off is that of a call
quiet_step : {def : LineDef} {due : Option (Call × ℕ)} {past : List Entry} {d : DevNo} (own : Call × ℕ) → due ≡ Some own → Row def due past (called.Quiet d)
    → is_quiet_call own.0 ≡ true
quiet_step own is (quiet x n at same) =
    let e : ◌≡◌ {A = Option (Call × ℕ)} (Some own) (Some (calls.Quiet x, n)) = sym is ∙ at in
    let f : own ≡ (calls.Quiet x, n) = cc in
    ap (λ (y : Call × ℕ). is_quiet_call y.0) f
quiet_step own is (unlink x a b same) = cc
quiet_step own is (free_clear x a b same) = cc
quiet_step own is (freed x n a b c e same) = cc
quiet_step own is (disable a same) = cc
quiet_step own is (disable_clear a b same) = cc
quiet_step own is (disable_synced n a b c e same) = cc
quiet_step own is (nosync n a same) = cc
quiet_step own is (enable n a same) = cc
quiet_step own is (sync_clear a b same) = cc
quiet_step own is (synced n a b c same) = cc
quiet_step own is (hard n a b same) = cc
quiet_step own is (hard_disable a same) = cc
quiet_step own is (hard_disable_clear n a b c same) = cc
quiet_step own is (wake x n a same) = cc
quiet_step own is (arm x n a same) = cc
quiet_step own is (serve x n a same) = cc

-- ---- what the definition says

split : (a b : Bool) → (a || b) ≡ false → (a ≡ false) × (b ≡ false)
split true b h = cc
split false b h = (refl, h)

none_there : {A : Type 0} (xs : List A) → has_some xs ≡ false → xs ≡ []
none_there [] h = refl
none_there (x ∷ xs) h = cc

-- none of a driver's calls
own_calls : (q : Call → Bool) (r : DriverNo) (cs : List (DriverNo × Call)) → list_any (λ (c : DriverNo × Call). q c.1) cs ≡ false
    → list_any q (calls_by r cs) ≡ false
own_calls q r [] h = refl
own_calls q r (c ∷ cs) h =
    let n = split (q c.1) (list_any (λ (x : DriverNo × Call). q x.1) cs) h in
    by_test (same_driver r c.0) n.0 (own_calls q r cs n.1)
  where
    by_test : (b : Bool) → q c.1 ≡ false → list_any q (calls_by r cs) ≡ false → list_any q (cond b (c.1 ∷ calls_by r cs) (calls_by r cs)) ≡ false
    by_test true none rest = ap (λ x. x || list_any q (calls_by r cs)) none ∙ rest
    by_test false none rest = rest

none_of : (b : Bool) (cs : List Call) → cs ≡ [] → cond b cs [] ≡ []
none_of true cs h = h
none_of false cs h = refl

none_passes : (q : Call → Bool) (cs : List Call) → cs ≡ [] → list_any q cs ≡ false
none_passes q cs h = ap (list_any q) h

-- a change that leaves each row as it is
walk_stays : (h : RunRow → RunRow) (d : DevNo) (xs : List DeviceDef) → h first_row ≡ first_row → walk h d (all_with first_row xs) ≡ all_with first_row xs
unfolding walk
walk_stays h d [] is = refl
walk_stays h d (x ∷ xs) is = by_test (same_dev d x.dev) (walk_stays h d xs is)
  where
    by_test : (b : Bool) → walk h d (all_with first_row xs) ≡ all_with first_row xs
        → cond b ((x.dev, h first_row) ∷ all_with first_row xs) ((x.dev, first_row) ∷ walk h d (all_with first_row xs))
        ≡ (x.dev, first_row) ∷ all_with first_row xs
    by_test true rest = ap (λ (r : RunRow). (x.dev, r) ∷ all_with first_row xs) is
    by_test false rest = ap (λ (t : List (DevNo × RunRow)). (x.dev, first_row) ∷ t) rest

change_stays : (h : RunRow → RunRow) (d : DevNo) (xs : List DeviceDef) → h first_row ≡ first_row → change h (all_with first_row xs) d ≡ all_with first_row xs
change_stays h d xs is = walk_is h d (all_with first_row xs) ∙ walk_stays h d xs is

module _ (def : LineDef) (plain : has_more def ≡ false) where
  no_runs : def.runs ≡ []
  no_runs = none_there def.runs (split (has_some def.runs) _ plain).0

  no_told : def.told ≡ []
  no_told = none_there def.told (split (has_some def.told) _ (split (has_some def.runs) _ plain).1).0

  no_quiets : list_any (λ (c : DriverNo × Call). is_quiet_call c.1) def.calls ≡ false
  no_quiets = (split (has_some def.told) _ (split (has_some def.runs) _ plain).1).1

  no_script : (d : DevNo) (part : Part) → run_script def d part ≡ []
  no_script d part = ap (λ (xs : List (DevNo × Part × Call)). script_in xs d part) no_runs

  no_answers : (d : DevNo) (part : Part) → told_answers def d part ≡ []
  no_answers d part = ap (λ (xs : List (DevNo × Part × ToldAnswer)). told_in xs d part) no_told

  none_counted : (d : DevNo) (part : Part) → answer_count def part d ≡ 0
  none_counted d part = ap (λ (xs : List ToldAnswer). length xs) (no_answers d part)

  -- ---- no device is quiet

  at_work_none : (o : Option DevNo) (past : List Entry) → calls_at_work def o past ≡ []
  at_work_none None past = refl
  at_work_none (Some d) past = none_of (makes_calls def parts.Primary d past) (run_script def d parts.Primary) (no_script d parts.Primary)

  no_quiet_calls : (a : Actor) (past : List Entry) → list_any is_quiet_call (calls_of def a past) ≡ false
  no_quiet_calls (actors.Driver r) past = own_calls is_quiet_call r def.calls no_quiets
  no_quiet_calls (actors.Thread d) past = none_passes is_quiet_call _
      (none_of (is_in_run past d) (run_script def d parts.Thread) (no_script d parts.Thread))
  no_quiet_calls (actors.Cpu c) past = none_passes is_quiet_call _
      (none_of (is_cpu c (flow def past)) (calls_at_work def (at_work past) past) (at_work_none (at_work past) past))

  never_due : (a : Actor) (d : DevNo) (past : List Entry) → IsDue def (made_by a (called.Quiet d)) past → ⊥
  never_due a d past due =
      let u = call_due def a (called.Quiet d) past due in
      let row = step_row def (Some u.due) u.due.0 u.due.1 past (called.Quiet d) refl u.step in
      let yes : is_quiet_call u.due.0 ≡ true = quiet_step u.due refl row in
      let no : is_quiet_call u.due.0 ≡ false = passes_none is_quiet_call (calls_of def a past) (entries_of def a past) u.due (no_quiet_calls a past) u.is_due in
      let x : ⊥ = cc (sym yes ∙ no) in x

  no_call_quiets : (a : Actor) (call : CallEntry) (past : List Entry) → IsDue def (made_by a call) past → (d : DevNo) → quiets d call ≡ false
  no_call_quiets a (called.Quiet x) past due d = absurd (never_due a x past due)
  no_call_quiets a called.Disable past due d = refl
  no_call_quiets a called.HardClear past due d = refl
  no_call_quiets a called.Synced past due d = refl
  no_call_quiets a (called.Enable answer) past due d = refl
  no_call_quiets a (called.Unlink answer x) past due d = refl
  no_call_quiets a (called.Freed x) past due d = refl
  no_call_quiets a (called.Wake woken x) past due d = refl
  no_call_quiets a (called.Arm edge x) past due d = refl
  no_call_quiets a (called.Serve x n) past due d = refl

  none_turns_off : (e : Entry) (past : List Entry) → IsDue def e past → (d : DevNo) → turns_off d e ≡ false
  none_turns_off (by.CpuCall cpu call) past due d = no_call_quiets (actors.Cpu cpu) call past due d
  none_turns_off (by.ThreadCall dev call) past due d = no_call_quiets (actors.Thread dev) call past due d
  none_turns_off (by.DriverCall driver call) past due d = no_call_quiets (actors.Driver driver) call past due d
  none_turns_off (by.Cpu cpu x) past due d = refl
  none_turns_off (by.Thread dev x) past due d = refl
  none_turns_off (by.Driver driver x) past due d = refl

  pub never_quiet : (past : List Entry) → IsLegalPast def past → (d : DevNo) → is_quiet past d ≡ false
  never_quiet [] legal d = refl
  never_quiet (e ∷ past) legal d =
      ap (λ b. b || (not (turns_on d e) && is_quiet past d)) (none_turns_off e past legal.0 d)
      ∙ ap (λ b. not (turns_on d e) && b) (never_quiet past legal.1 d) ∙ last (not (turns_on d e))
    where
      last : (b : Bool) → (b && false) ≡ false
      last true = refl
      last false = refl

  -- ---- the runs

  min_zero : (n : ℕ) → min n 0 ≡ 0
  min_zero n = omega arith

  no_turn : (part : Part) (past : List Entry) (d : DevNo) → turn_of def part past d ≡ first_turn
  no_turn part past d =
      let t = turn_of def part past d in
      let z = none_counted d part in
      let now : t.now ≡ 0 = omega (arith, z) in
      let next : t.next ≡ 0 = omega (arith, z) in
      (let e : ◌≡◌ {A = Turn} (record { now = t.now; next = t.next }) first_turn = rw (now, next) refl in e)

  row_plain : (past : List Entry) (d : DevNo) → run_row def past d ≡ first_row
  row_plain past d =
      let made : RunPlace → Turn → Turn → RunRow = λ c h t. record { calls = c; handler = h; thread = t } in
      ap (λ (cs : List Call). made (laid_at cs (thread_calls d past)) (turn_of def parts.Primary past d)
      (turn_of def parts.Thread past d)) (no_script d parts.Thread)
      ∙ (ap (λ (h : Turn). made first_place h (turn_of def parts.Thread past d)) (no_turn parts.Primary past d)
      ∙ ap (λ (t : Turn). made first_place first_turn t) (no_turn parts.Thread past d))

  work_plain : (past : List Entry) (o : Option DevNo) → work_with def past o ≡ first_place
  work_plain past None = refl
  work_plain past (Some d) = ap (λ (cs : List Call). laid_at cs (entries_of_run parts.Primary d past)) (no_script d parts.Primary)

  rows_plain : (past : List Entry) (xs : List DeviceDef) → table_by (run_row def past) xs ≡ all_with first_row xs
  rows_plain past [] = refl
  rows_plain past (x ∷ xs) =
      ap (λ (r : RunRow). (x.dev, r) ∷ table_by (run_row def past) xs) (row_plain past x.dev)
      ∙ ap (λ (t : List (DevNo × RunRow)). (x.dev, first_row) ∷ t) (rows_plain past xs)

  pub places_plain : (past : List Entry) → places_of def past ≡ first_places def
  places_plain past =
      ap (λ (w : RunPlace). record { work = w; rows = table_by (run_row def past) def.devices }) (work_plain past (at_work past))
      ∙ ap (λ (t : List (DevNo × RunRow)). record { work = first_place; rows = t }) (rows_plain past def.devices)

  -- ---- no entry that is due changes that

  abbrev with_rows : List (DevNo × RunRow) → PlacesSeen
  with_rows t = record { work = first_place; rows = t }

  no_run_call : (a : Actor) (call : CallEntry) (past : List Entry) → calls_of def a past ≡ [] → IsDue def (made_by a call) past → ⊥
  no_run_call a call past none due =
      let u = call_due def a call past due in
      let n : ◌≡◌ {A = Option (Call × ℕ)} None (Some u.due) = sym (ap (λ (cs : List Call). due_of cs (entries_of def a past)) none) ∙ u.is_due in
      let x : ⊥ = cc n in x

  begun_zero : (n : ℕ) → n ≡ 0 → handler_begun n first_row ≡ first_row
  begun_zero n h = ap (λ (k : ℕ). handler_begun k first_row) h

  thread_begun_zero : (n : ℕ) → n ≡ 0 → thread_begun n first_row ≡ first_row
  thread_begun_zero n h = ap (λ (k : ℕ). thread_begun k first_row) h

  pub places_stay : (working : Option DevNo) (e : Entry) (past : List Entry) → IsDue def e past
      → places_after def working e (first_places def) ≡ first_places def
  places_stay w (by.Cpu cpu (cpus.Begin d)) past due =
      ap with_rows (change_stays (handler_begun (answer_count def parts.Primary d)) d def.devices (begun_zero _ (none_counted d parts.Primary)))
  places_stay w (by.Cpu cpu (cpus.Return answer d n)) past due = refl
  places_stay w (by.Thread d threads.Begin) past due =
      ap with_rows (change_stays (thread_begun (answer_count def parts.Thread d)) d def.devices (thread_begun_zero _ (none_counted d parts.Thread)))
  places_stay w (by.Thread d (threads.Return handled n)) past due = ap with_rows (change_stays (placed first_place) d def.devices refl)
  places_stay w (by.CpuCall cpu call) past due = absurd (no_run_call (actors.Cpu cpu) call past
      (none_of (is_cpu cpu (flow def past)) (calls_at_work def (at_work past) past) (at_work_none (at_work past) past)) due)
  places_stay w (by.ThreadCall d call) past due = absurd (no_run_call (actors.Thread d) call past
      (none_of (is_in_run past d) (run_script def d parts.Thread) (no_script d parts.Thread)) due)
  places_stay w e past due = refl
