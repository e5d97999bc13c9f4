-- A sleep, phase by phase.
use Rattle.std.proofs.Common.{◌≡◌, ℕ, ◌+◌, ◌<◌, Bool, true, false, cond, Option, Some, None}
use Rattle.std.proofs.Common.{Result, Ok, Err, List, [], ◌∷◌, ◌++◌, length, reverse, get_or, drop, refl, sym, ap, ◌∙◌}
use Rattle.std.proofs.Common.{subst, arith, add-one}
use Rattle.std.proofs.Math.Seq.{drop-cons}
use Rattle.std.proofs.lemmas.List.{reverse-append}
use Rattle.irq_base.specs.declared.entries.Actor.{Actor}
use Rattle.irq_base.specs.declared.entries.Actor.TheVariants as actors
use Rattle.irq_base.specs.declared.numbers.LineNo.{LineNo}
use Rattle.irq_line.specs.declared.answers.StepRefused.{StepRefused}
use Rattle.board_def.specs.Seen.{BoardSeen}
use Rattle.board_driver.specs.Longer.{last_driver}
use Rattle.board_play.specs.Lines.{BoardLine, Move}
use Rattle.board_play.specs.Play.{or_move}
use Rattle.board_core.specs.Seen.{board_lines}
use Rattle.board_core.specs.Turns.{move_of, lowest_move}
use Rattle.board_play.specs.Orders.{IsMade}
use Rattle.irq_pm.specs.Phases.{Phase, Picking, Disabling, Asleep, Enabling, Going, is_disable_due, due_of, disabling}
use Rattle.irq_pm.specs.Phases.{sleeping, going, last_move, or_next, picked, step_in, sleep_next}
use Rattle.irq_pm.specs.Phases.{sleep_order}
use Rattle.irq_sleeper.specs.Seen.{SleeperSeen, log_of, marked}
use Rattle.irq_pm.specs.SleepLog.{moves_of}
use Rattle.irq_sleeper.specs.Steps.{IsFresh, Watched, StepsBy, IsTold, AreMarked, IsUnderway, IsAsleep}
use Rattle.irq_sleeper.specs.Steps.{IsWoken, GoesTo, EndsIn, last_of, inner_of, ask_of}
use Rattle.irq_pm.specs.Waking.{woken_by}
use Rattle.irq_pm.specs.declared.entries.SleepEntry.{SleepEntry}
use Rattle.irq_pm.specs.declared.entries.SleepEntry.TheVariants as sleeps
use Rattle.irq_sleeper.specs.declared.marks.WakeMark.{WakeMark}
use Rattle.irq_sleeper.proofs.Marking.{asleep_set, wake_set}
use Rattle.irq_pm.proofs.Order.{step_of}
use Rattle.irq_sleeper.proofs.Underway.{next_of, fresh, more, at_other, ended, stopped, stays, stays_on, steps_stay, room_of, room_falls}

-- ---- what a step does to it

abbrev pub ComesNext : SleeperSeen → Option Move → Phase → Phase → Type 0
ComesNext s due at after = (x : Move) → due ≡ Some x → next_of s at ≡ Some (step_of x, after)

-- A step of a sleep that goes on: the move that was due is the sleep's next step, from the phase `at` to the phase `after`.
pub record SleepStep (first old new : SleeperSeen) (picks : List Actor) (at after : Phase) (r : Result Bool StepRefused) : Type 0 where
  pub due : Option Move
  pub goes : GoesTo first old picks at
  pub steps : StepsBy old due r new
  pub next : ComesNext old due at after
  pub marks : AreMarked at new → AreMarked after new

module _ {first old new : SleeperSeen} {picks : List Actor} {at after : Phase} {r : Result Bool StepRefused}
    (s : SleepStep first old new picks at after r) where
  watched : r ≡ Ok true → Watched old s.due new
  watched is = subst (λ (x : Result Bool StepRefused). StepsBy old s.due x new) is s.steps

  pub went : r ≡ Ok true → GoesTo first new picks after
  went is = (
    stays_on first old new s.goes.0 (steps_stay old new s.due (Ok true) (watched is)),
    more old new picks s.due at after s.goes.1 (watched is) s.next s.marks,
  )

  pub falls : r ≡ Ok true → room_of new.system < room_of old.system
  falls is = room_falls old new s.due (watched is).made

  pub stops : {refused : StepRefused} → r ≡ Err refused → EndsIn first new picks (Err refused)
  stops {refused} is =
      let e : StepsBy old s.due (Err refused) new = subst (λ (x : Result Bool StepRefused). StepsBy old s.due x new) is s.steps in
      (stays_on first old new s.goes.0 (steps_stay old new s.due (Err refused) e), stopped old new picks at after s.due refused s.goes.1 e s.next)

rested : (old new : SleeperSeen) (due : Option Move) (r : Result Bool StepRefused) → r ≡ Ok false → StepsBy old due r new → (due ≡ None) × (new ≡ old)
rested old new due r is s = subst (λ (x : Result Bool StepRefused). StepsBy old due x new) is s

-- ---- the picks

module _ (s : SleeperSeen) (t : IsTold s) where
  b : BoardSeen
  b = s.system.board

  abbrev now : List BoardLine
  now = board_lines s.system.lines

  pick_next : (pick : Actor) (rest : List Actor) (o : Option Move) → move_of s.system pick ≡ o
      → next_of s (Picking (pick ∷ rest)) ≡ or_next (step_in (Picking rest) o) (next_of s (Picking rest))
  pick_next pick rest o due = by_move o (ap (λ (ls : List BoardLine). sleep_at ls) (sym t.lines)
      ∙ ap (λ (x : Option Move). or_next (or_next (step_in (Picking rest) x) (picked s.system.board now rest))
      (disabling s.system.board now)) due)
    where
      sleep_at : List BoardLine → Option (SleepEntry × Phase)
      sleep_at ls = or_next (picked s.system.board ls (pick ∷ rest)) (disabling s.system.board ls)

      by_move : (o : Option Move) → next_of s (Picking (pick ∷ rest))
          ≡ or_next (or_next (step_in (Picking rest) o) (picked s.system.board now rest)) (disabling s.system.board now)
          → next_of s (Picking (pick ∷ rest)) ≡ or_next (step_in (Picking rest) o) (next_of s (Picking rest))
      by_move None is = is ∙ ap (λ (ls : List BoardLine). or_next (picked s.system.board ls rest) (disabling s.system.board ls)) t.lines
      by_move (Some m) is = is

  pub picked_next : (pick : Actor) (rest : List Actor) → ComesNext s (move_of s.system pick) (Picking (pick ∷ rest)) (Picking rest)
  picked_next pick rest x due = pick_next pick rest (Some x) due

  pub passed_next : (pick : Actor) (rest : List Actor) → move_of s.system pick ≡ None → next_of s (Picking (pick ∷ rest)) ≡ next_of s (Picking rest)
  passed_next pick rest due = pick_next pick rest None due

  -- ---- falling asleep

  disabling_is : (t : Bool) → is_disable_due (due_of s.system.board now last_driver) ≡ t
      → next_of s Disabling ≡ cond t (step_in Disabling (or_move (last_of s.system) (inner_of s.system)))
      (Some (sleeps.Asleep, Asleep))
  disabling_is test is = ap (λ (ls : List BoardLine). disabling s.system.board ls) (sym t.lines)
      ∙ ap (λ (x : Bool). cond x (step_in Disabling (or_move (last_of s.system) (inner_of s.system)))
      (Some (sleeps.Asleep, Asleep))) is

  pub disabling_next : is_disable_due (due_of s.system.board now last_driver) ≡ true
      → ComesNext s (or_move (last_of s.system) (inner_of s.system)) Disabling Disabling
  disabling_next test x due = disabling_is true test ∙ ap (λ (o : Option Move). step_in Disabling o) due

  pub disabling_none : is_disable_due (due_of s.system.board now last_driver) ≡ true
      → or_move (last_of s.system) (inner_of s.system) ≡ None → next_of s Disabling ≡ None
  disabling_none test due = disabling_is true test ∙ ap (λ (o : Option Move). step_in Disabling o) due

  pub asleep_comes : is_disable_due (due_of s.system.board now last_driver) ≡ false → next_of s Disabling ≡ Some (sleeps.Asleep, Asleep)
  asleep_comes test = disabling_is false test

  -- ---- asleep

  module _ (woken_is : s.watch.woken ≡ woken_by s.watch.armed (reverse s.system.log)) where
    sleeping_is : (woken : Option LineNo) → s.watch.woken ≡ woken → next_of s Asleep ≡ sleeping woken s.system.board now
    sleeping_is woken is =
        ap (λ (ls : List BoardLine). sleeping (woken_by s.watch.armed (reverse s.system.log)) s.system.board ls)
        (sym t.lines) ∙ ap (λ (o : Option LineNo). sleeping o s.system.board now) (sym woken_is ∙ is)

    pub sleeping_next : s.watch.woken ≡ None → ComesNext s (or_move (inner_of s.system) (ask_of s.system)) Asleep Asleep
    sleeping_next is x due = sleeping_is None is ∙ ap (λ (o : Option Move). or_next (step_in Asleep o) (Some (sleeps.Wake None, Enabling))) due

    pub none_wakes : s.watch.woken ≡ None → or_move (inner_of s.system) (ask_of s.system) ≡ None → next_of s Asleep ≡ Some (sleeps.Wake None, Enabling)
    none_wakes is due = sleeping_is None is ∙ ap (λ (o : Option Move). or_next (step_in Asleep o) (Some (sleeps.Wake None, Enabling))) due

    pub line_wakes : (line : LineNo) → s.watch.woken ≡ Some line → next_of s Asleep ≡ Some (sleeps.Wake (Some line), Enabling)
    line_wakes line is = sleeping_is (Some line) is

  -- ---- enabling, and going on

  enabling_is : (o : Option Move) → move_of s.system (actors.Driver last_driver) ≡ o
      → next_of s Enabling ≡ or_next (step_in Enabling o) (going s.system.board now)
  enabling_is o due = ap (λ (ls : List BoardLine). or_next (step_in Enabling (last_move s.system.board ls))
      (going s.system.board ls)) (sym t.lines) ∙ ap (λ (x : Option Move). or_next (step_in Enabling x)
      (going s.system.board now)) due

  pub enabling_next : ComesNext s (move_of s.system (actors.Driver last_driver)) Enabling Enabling
  enabling_next x due = enabling_is (Some x) due

  pub enabled_all : move_of s.system (actors.Driver last_driver) ≡ None → next_of s Enabling ≡ next_of s Going
  enabled_all due = enabling_is None due ∙ ap (λ (ls : List BoardLine). going s.system.board ls) t.lines

  going_is : next_of s Going ≡ step_in Going (lowest_move s.system)
  going_is = ap (λ (ls : List BoardLine). going s.system.board ls) (sym t.lines)

  pub going_next : ComesNext s (lowest_move s.system) Going Going
  going_next x due = going_is ∙ ap (λ (o : Option Move). step_in Going o) due

  pub going_none : lowest_move s.system ≡ None → next_of s Going ≡ None
  going_none due = going_is ∙ ap (λ (o : Option Move). step_in Going o) due

-- ---- the steps of the phases

module _ {first old new : SleeperSeen} {picks : List Actor} {r : Result Bool StepRefused} where
  abbrev pub disabling_step : GoesTo first old picks Disabling
      → is_disable_due (due_of old.system.board (board_lines old.system.lines) last_driver) ≡ true
      → StepsBy old (or_move (last_of old.system) (inner_of old.system)) r new → SleepStep first old new picks Disabling Disabling r
  disabling_step goes test steps = record {
    due = or_move (last_of old.system) (inner_of old.system);
    goes = goes;
    steps = steps;
    next = disabling_next old goes.1.told test;
    marks = λ m. m;
  }

  abbrev pub sleeping_step : GoesTo first old picks Asleep → old.watch.woken ≡ None
      → StepsBy old (or_move (inner_of old.system) (ask_of old.system)) r new → SleepStep first old new picks Asleep Asleep r
  sleeping_step goes woken steps = record {
    due = or_move (inner_of old.system) (ask_of old.system);
    goes = goes;
    steps = steps;
    next = sleeping_next old goes.1.told goes.1.watch.woken woken;
    marks = λ m. m;
  }

  abbrev pub enabling_step : GoesTo first old picks Enabling → StepsBy old (move_of old.system (actors.Driver last_driver)) r new
      → SleepStep first old new picks Enabling Enabling r
  enabling_step goes steps = record {
    due = move_of old.system (actors.Driver last_driver);
    goes = goes;
    steps = steps;
    next = enabling_next old goes.1.told;
    marks = λ m. m;
  }

  abbrev pub going_step : GoesTo first old picks Going → StepsBy old (lowest_move old.system) r new → SleepStep first old new picks Going Going r
  going_step goes steps = record {
    due = lowest_move old.system;
    goes = goes;
    steps = steps;
    next = going_next old goes.1.told;
    marks = λ m. m;
  }

-- ---- marks

reversed : (xs ys : List SleepEntry) (e : SleepEntry) → xs ≡ ys ++ e ∷ [] → reverse xs ≡ e ∷ reverse ys
reversed xs ys e is = ap (λ (g : List SleepEntry). reverse g) is ∙ reverse-append ys (e ∷ [])

asleep_under : (old : SleeperSeen) (picks : List Actor) → IsUnderway old picks Disabling
    → next_of old Disabling ≡ Some (sleeps.Asleep, Asleep)
    → IsUnderway (record old { asleep = Some (length old.system.log) }) picks Asleep
asleep_under old picks u next =
    let log = old.system.log in
    let was : log_of old ≡ marked None None 0 log = ap (λ (a : Option ℕ). marked a old.wake 0 log) u.marks.0
    ∙ ap (λ (w : Option WakeMark). marked None w 0 log) u.marks.1 in
    let is : marked (Some (length log)) old.wake 0 log ≡ log_of old ++ sleeps.Asleep ∷ [] =
    ap (λ (w : Option WakeMark). marked (Some (length log)) w 0 log) u.marks.1
    ∙ (asleep_set 0 (length log) log (omega arith)
    ∙ ap (λ (g : List SleepEntry). g ++ sleeps.Asleep ∷ []) (sym was)) in
    let back : reverse (marked (Some (length log)) old.wake 0 log)
    ≡ sleeps.Asleep ∷ reverse (log_of old) = reversed (marked (Some (length log)) old.wake 0 log) (log_of old)
    sleeps.Asleep is in
    record {
      told = record { lines = u.told.lines; told = ap (λ (g : List SleepEntry). moves_of g) back ∙ u.told.told };
      marks = (omega arith, u.marks.1);
      watch = u.watch;
      phase = Asleep;
      made = subst (λ (g : List SleepEntry). IsMade (sleep_order old.system.board old.watch.armed) (Picking picks) g Asleep) (sym back)
          (u.phase, u.made, ap (λ (h : List Move). sleep_next old.system.board old.watch.armed h u.phase) u.told.told ∙ (u.next ∙ next), tt);
      next = refl;
    }

woken_under : (old : SleeperSeen) (picks : List Actor) (line : Option LineNo) → IsUnderway old picks Asleep
    → next_of old Asleep ≡ Some (sleeps.Wake line, Enabling)
    → IsUnderway (record old { wake = Some (record { at = length old.system.log; line = line }) }) picks Enabling
woken_under old picks line u next =
    let log = old.system.log in
    let w : WakeMark = record { at = length log; line = line } in
    let is : marked old.asleep (Some w) 0 log ≡ log_of old ++ sleeps.Wake line ∷ [] =
    wake_set old.asleep 0 w log (omega arith) ∙ ap (λ (x : Option WakeMark). marked old.asleep x 0 log ++ sleeps.Wake line ∷ []) (sym u.marks.1) in
    let back : reverse (marked old.asleep (Some w) 0 log)
    ≡ sleeps.Wake line ∷ reverse (log_of old) = reversed (marked old.asleep (Some w) 0 log) (log_of old)
    (sleeps.Wake line) is in
    record {
      told = record { lines = u.told.lines; told = ap (λ (g : List SleepEntry). moves_of g) back ∙ u.told.told };
      marks = (u.marks.0, omega arith);
      watch = u.watch;
      phase = Enabling;
      made = subst (λ (g : List SleepEntry). IsMade (sleep_order old.system.board old.watch.armed) (Picking picks) g Enabling) (sym back)
          (u.phase, u.made, ap (λ (h : List Move). sleep_next old.system.board old.watch.armed h u.phase) u.told.told ∙ (u.next ∙ next), tt);
      next = refl;
    }

pub falls_asleep : {first old new : SleeperSeen} {picks : List Actor} → GoesTo first old picks Disabling
    → is_disable_due (due_of old.system.board (board_lines old.system.lines) last_driver) ≡ false → IsAsleep old new
    → GoesTo first new picks Asleep
falls_asleep {first} {old} {new} {picks} u test is =
    subst (λ (s : SleeperSeen). GoesTo first s picks Asleep) (sym is)
    (record { board = u.0.board; layout = u.0.layout; armed = u.0.armed }, asleep_under old picks u.1 (asleep_comes old u.1.told test))

wakes_up : (first old new : SleeperSeen) (picks : List Actor) (line : Option LineNo) → GoesTo first old picks Asleep
    → next_of old Asleep ≡ Some (sleeps.Wake line, Enabling) → IsWoken old line new → GoesTo first new picks Enabling
wakes_up first old new picks line u next is =
    subst (λ (s : SleeperSeen). GoesTo first s picks Enabling) (sym is)
    (record { board = u.0.board; layout = u.0.layout; armed = u.0.armed }, woken_under old picks line u.1 next)

pub wakes_by_line : {first old new : SleeperSeen} {picks : List Actor} {line : LineNo} → GoesTo first old picks Asleep
    → old.watch.woken ≡ Some line → IsWoken old (Some line) new → GoesTo first new picks Enabling
wakes_by_line {first} {old} {new} {picks} {line} u woken is = wakes_up first old new picks (Some line) u (line_wakes old u.1.told u.1.watch.woken line woken) is

pub wakes_by_none : {first old new : SleeperSeen} (mid : SleeperSeen) {picks : List Actor} {r : Result Bool StepRefused}
    → GoesTo first old picks Asleep → old.watch.woken ≡ None → r ≡ Ok false
    → StepsBy old (or_move (inner_of old.system) (ask_of old.system)) r mid → IsWoken mid None new
    → GoesTo first new picks Enabling
wakes_by_none {first} {old} {new} mid {picks} {r} u woken is steps wakes =
    let rest = rested old mid (or_move (inner_of old.system) (ask_of old.system)) r is steps in
    wakes_up first old new picks None u (none_wakes old u.1.told u.1.watch.woken woken rest.0) (subst (λ (s : SleeperSeen). IsWoken s None new) rest.1 wakes)

-- ---- the phases' ends

pub opened : (first old new : SleeperSeen) (picks : List Actor) (r : Result Bool StepRefused)
    → GoesTo first old picks Enabling → r ≡ Ok false → StepsBy old (move_of old.system (actors.Driver last_driver)) r
    new → GoesTo first new picks Going
opened first old new picks r u is steps =
    let rest = rested old new (move_of old.system (actors.Driver last_driver)) r is steps in
    subst (λ (s : SleeperSeen). GoesTo first s picks Going) (sym rest.1) (u.0, at_other old picks Enabling Going u.1 (λ m. m) (enabled_all old u.1.told rest.0))

pub gone_on : (first old new : SleeperSeen) (picks : List Actor) (r : Result Bool StepRefused)
    → GoesTo first old picks Going → r ≡ Ok false → StepsBy old (lowest_move old.system) r new
    → EndsIn first new picks (Ok tt)
gone_on first old new picks r u is steps =
    let rest = rested old new (lowest_move old.system) r is steps in
    subst (λ (s : SleeperSeen). EndsIn first s picks (Ok tt)) (sym rest.1) (u.0, (u.1.told, ended old picks Going u.1 (going_none old u.1.told rest.0)))

pub stuck_so : (first old new : SleeperSeen) (picks : List Actor) (r : Result Bool StepRefused)
    → GoesTo first old picks Disabling → is_disable_due
    (due_of old.system.board (board_lines old.system.lines) last_driver) ≡ true → r ≡ Ok false
    → StepsBy old (or_move (last_of old.system) (inner_of old.system)) r new → EndsIn first new picks (Ok tt)
stuck_so first old new picks r u test is steps =
    let rest = rested old new (or_move (last_of old.system) (inner_of old.system)) r is steps in
    subst (λ (s : SleeperSeen). EndsIn first s picks (Ok tt)) (sym rest.1)
    (u.0, (u.1.told, ended old picks Disabling u.1 (disabling_none old u.1.told test rest.0)))

-- ---- picks, one after another

pub first_pick : (s : SleeperSeen) (picks : List Actor) → IsFresh s → GoesTo s s picks (Picking picks)
first_pick s picks f = (stays s, fresh s picks f)

pub at_pick : (first s : SleeperSeen) (picks : List Actor) (i : ℕ) (d : Actor) → i < length picks
    → GoesTo first s picks (Picking (drop i picks)) → GoesTo first s picks
    (Picking (get_or picks i d ∷ drop (i + 1) picks))
at_pick first s picks i d within u =
    let next : drop i picks ≡ get_or picks i d ∷ drop (i + 1) picks = drop-cons picks i d within
    ∙ ap (λ (n : ℕ). get_or picks i d ∷ drop n picks) (sym (add-one i)) in
    subst (λ (rest : List Actor). GoesTo first s picks (Picking rest)) next u

module _ {first old new : SleeperSeen} {picks : List Actor} {i : ℕ} (d : Actor) (within : i < length picks)
    (u : GoesTo first old picks (Picking (drop i picks))) {r : Result Bool StepRefused}
    (steps : StepsBy old (move_of old.system (get_or picks i d)) r new) where
  abbrev pub picked_step : SleepStep first old new picks (Picking (get_or picks i d ∷ drop (i + 1) picks)) (Picking (drop (i + 1) picks)) r
  picked_step =
      let v = at_pick first old picks i d within u in
      record {
        due = move_of old.system (get_or picks i d);
        goes = v;
        steps = steps;
        next = picked_next old v.1.told (get_or picks i d) (drop (i + 1) picks);
        marks = λ m. m;
      }

  pub pick_done : {moved : Bool} → r ≡ Ok moved → GoesTo first new picks (Picking (drop (i + 1) picks))
  pick_done {moved} is = by_move moved is
    where
      by_move : (moved : Bool) → r ≡ Ok moved → GoesTo first new picks (Picking (drop (i + 1) picks))
      by_move true is = went picked_step is
      by_move false is =
          let v = at_pick first old picks i d within u in
          let rest = rested old new (move_of old.system (get_or picks i d)) r is steps in
          subst (λ (s : SleeperSeen). GoesTo first s picks (Picking (drop (i + 1) picks))) (sym rest.1) (
            v.0,
            at_other old picks (Picking (get_or picks i d ∷ drop (i + 1) picks)) (Picking (drop (i + 1) picks)) v.1
                (λ m. m) (passed_next old v.1.told (get_or picks i d) (drop (i + 1) picks) rest.0),
          )

  pub pick_stops : {refused : StepRefused} → r ≡ Err refused → EndsIn first new picks (Err refused)
  pick_stops is = stops picked_step is

-- ---- what a loop finds

pub ok_is : {r : Result Bool StepRefused} {moved t : Bool} → r ≡ Ok moved → moved ≡ t → r ≡ Ok t
ok_is {r} {moved} {t} is same = subst (λ (b : Bool). r ≡ Ok b) same is

pub no_line : {o : Option LineNo} → ((line : LineNo) → o ≡ Some line → ⊥) → o ≡ None
no_line {o = None} none = refl
no_line {o = Some line} none = absurd (none line refl)
