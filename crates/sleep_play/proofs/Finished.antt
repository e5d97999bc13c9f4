-- A sleeper whose play has ended, and what its reports hand out.
use Rattle.std.proofs.Common.{◌≡◌, ◌++◌, ◌≤◌, ℕ, Bool, true, false, not, ◌&&◌, All, IsSome, Option, Some, None, List, length, Result, Ok, Err}
use Rattle.std.proofs.Common.{reverse, slice_get, refl, sym, ap, ◌∙◌, subst}
use Rattle.std.proofs.lemmas.Bool.{and_parts}
use Rattle.std.proofs.lemmas.List.{reverse-reverse}
use Rattle.irq_base.specs.declared.devices.Run.{Run}
use Rattle.irq_base.specs.declared.entries.Actor.{Actor}
use Rattle.irq_base.specs.declared.entries.Entry.{Entry}
use Rattle.irq_base.specs.declared.numbers.LineNo.{LineNo}
use Rattle.irq_base.specs.declared.reporting.LineReport.{LineReport}
use Rattle.irq_line.specs.Seen.{LineSeen}
use Rattle.irq_line.specs.declared.answers.StepRefused.{StepRefused}
use Rattle.irq_line.specs.declared.answers.StepRefused.TheVariants as refusals
use Rattle.domain_rules.specs.Layout.{is_mapped}
use Rattle.domain_rules.specs.declared.layouts.Placement.{Placement}
use Rattle.domain_rules.specs.declared.layouts.Placement.TheVariants as placements
use Rattle.board_def.specs.Layout.{layout_of}
use Rattle.board_def.specs.Rules.{IsBoard, has_driver}
use Rattle.board_def.specs.Seen.{BoardSeen}
use Rattle.board_def.specs.declared.rows.LineRow.{LineRow}
use Rattle.board_driver.specs.Longer.{last_driver}
use Rattle.board_core.specs.Hung.{IsEndOf, SaysEnd, stop_of}
use Rattle.board_core.specs.Runs.{runs_of}
use Rattle.board_core.specs.Seen.{board_lines}
use Rattle.board_core.specs.Wanted.{HasSpare}
use Rattle.board_core.specs.declared.ends.PlayEnd.{PlayEnd}
use Rattle.board_core.specs.declared.ends.PlayEnd.TheVariants as ends
use Rattle.board_play.specs.Hanging.{IsFirstHung}
use Rattle.board_play.specs.Kept.{AreKept}
use Rattle.board_play.specs.Lines.{BoardLine, Move, defs_of, lines_of, part}
use Rattle.board_play.specs.Order.{actors_of}
use Rattle.board_play.specs.Play.{Done, Full, first_move}
use Rattle.board_play.proofs.Listed.{def_at}
use Rattle.board_play.proofs.Members.{past_at}
use Rattle.board_report.specs.Moving.{AreAtRest}
use Rattle.board_report.specs.Reporting.{IsHandedRoom, KeepRoom, entries_in}
use Rattle.board_report.proofs.Laid.{its_entries, line_laid}
use Rattle.board_play.specs.Orders.{IsMade, Order}
use Rattle.log_text.specs.LayoutRows.{layout_rows}
use Rattle.play_report.specs.Answers.{Answers, HandsOutStep}
use Rattle.play_report.specs.declared.failing.PlayFailed.{PlayFailed}
use Rattle.play_report.proofs.Answered as answered
use Rattle.play_report.proofs.Answered.{answers_as, of_some, with_step, without_step}
use Rattle.play_report.specs.Ordered.{HandsOut, lines_after}
use Rattle.play_report.proofs.Handed.{Reported, handed_out}
use Rattle.play_report.proofs.Scenario.{IsEnd, IsScenario, log_has_rows}
use Rattle.play_report.specs.Printing.{StepHasRow}
use Rattle.irq_pm.specs.Phases.{Next, Phase, Picking, sleep_next, sleep_order}
use Rattle.irq_pm.specs.SleepLog.{moves_of, told}
use Rattle.irq_pm.specs.Slept.{Sleeps, SleepsThrough}
use Rattle.irq_pm.specs.SleptBoard.{are_runs_calm, can_all_wake, has_room_for_sleep, is_for_sleep, slept}
use Rattle.irq_pm.specs.declared.entries.SleepEntry.{SleepEntry}
use Rattle.irq_pm.proofs.Calm.{calm_boards_settle}
use Rattle.irq_pm.proofs.Order.{first_is}
use Rattle.irq_pm.proofs.Through.{comes_to_rest, moves_are, names_waker, state, through}
use Rattle.irq_sleeper.specs.Seen.{SleeperSeen, log_of}
use Rattle.irq_sleeper.specs.Steps.{IsSleep, IsTold}
use Rattle.irq_sleeper.specs.Wanted.{PlayWants, WantsNext}
use Rattle.sleep_play.specs.Headline.{KeepsSleep, RefusedStep, SleepCut, SleepHandsOut}
use Rattle.sleep_play.specs.Played.{HandsOutSleep, IsSleepOf, SleepsBoard, TellsStep, runs_of_steps}
use Rattle.sleep_play.specs.Rows.{log_text, sleep_text}
use Rattle.sleep_play.proofs.Moved.{moves_due}

-- each step and mark of a sleep that came to its end has a row
pub rows_done : (s : SleeperSeen) → IsSleep s s.system.board.picks (Ok tt) → All (StepHasRow told) (log_of s)
rows_done s p = log_has_rows s.system.board (sleep_order s.system.board s.watch.armed) (moves_due s.system.board s.watch.armed)
    (Picking s.system.board.picks) (log_of s) p.0 p.1

-- the system's driver is none of the board's
not_free : (a c : Bool) → (not a && c) ≡ true → a ≡ false
not_free true c h = cc
not_free false c h = refl

pub is_free : (b : BoardSeen) (armed : List LineNo) → is_for_sleep b armed ≡ true → has_driver b.drivers last_driver ≡ false
is_free b armed fits = not_free (has_driver b.drivers last_driver) _ (and_parts (has_room_for_sleep b) (are_runs_calm b)
    (and_parts (can_all_wake b armed) (has_room_for_sleep b && are_runs_calm b) fits).1).0

-- and no run moves a line or waits
is_calm : (b : BoardSeen) (armed : List LineNo) → is_for_sleep b armed ≡ true → are_runs_calm b ≡ true
is_calm b armed fits = (and_parts (has_room_for_sleep b) (are_runs_calm b)
    (and_parts (can_all_wake b armed) (has_room_for_sleep b && are_runs_calm b) fits).1).1

some_is_not_none : (m : Move) → ◌≡◌ {A = Option Move} (Some m) None → ⊥
some_is_not_none m is = cc

-- ---- what a sleep of the board keeps

module _ (b : BoardSeen) (armed : List LineNo) (is : IsBoard b) (long : IsBoard (slept b)) (fits : is_for_sleep b armed ≡ true) where
  free : has_driver b.drivers last_driver ≡ false
  free = is_free b armed fits

  calm : are_runs_calm b ≡ true
  calm = is_calm b armed fits

  module _ (log : List SleepEntry) (at : Phase) (made : IsMade (sleep_order (slept b) armed) (Picking b.picks) (reverse log) at) where
    abbrev lines : List BoardLine
    lines = lines_of (slept b) (moves_of (reverse log))

    kept : AreKept (slept b) (lines_of (slept b) (moves_of (reverse log)))
    kept = (state b is long free armed (reverse log) at made).kept

    sleeps_on : (i : ℕ) (x : BoardLine) → slice_get lines i ≡ Some x → SleepsThrough x.past
    sleeps_on i x there =
        let d = def_at (slept b) lines kept i x there in
        subst (λ (p : List Entry). SleepsThrough p) (sym (past_at (defs_of (slept b)) (moves_of (reverse log)) i x there))
        (through b is long free armed i x.def d calm (reverse log) at made)

    of_row : (i : ℕ) (row : LineRow) (virq : ℕ) (path : List (ℕ × ℕ)) → slice_get b.lines i ≡ Some row
        → slice_get (layout_of b) i ≡ Some (placements.Mapped virq path) → SleepsThrough (reverse (entries_in lines row.line))
    of_row i row virq path there laid =
        let h = line_laid (slept b) long lines kept i row there (laid_at (slice_get (layout_of b) i) laid) in
        subst (λ (p : List Entry). SleepsThrough p)
        (sym (ap (λ (es : List Entry). reverse es) (its_entries (slept b) long lines kept i row there h) ∙ reverse-reverse h.line.past))
        (sleeps_on h.place h.line h.at)
      where
        mapped_at : Option Placement → Bool
        mapped_at None = false
        mapped_at (Some place) = is_mapped place

        laid_at : (o : Option Placement) → o ≡ Some (placements.Mapped virq path) → mapped_at o ≡ true
        laid_at o at = ap mapped_at at

    -- somebody can move, so there is a next step
    pub next_due : IsSome (first_move (slept b) (lines_of (slept b) (moves_of (reverse log))) (actors_of (slept b)))
        → IsSome (sleep_next (slept b) armed (moves_of (reverse log)) at)
    next_due some = by_next (sleep_next (slept b) armed (moves_of (reverse log)) at) refl
      where
        none_moves : (o : Option Move) → first_move (slept b) lines (actors_of (slept b)) ≡ o → IsSome o
            → sleep_next (slept b) armed (moves_of (reverse log)) at ≡ None → ⊥
        none_moves None first some none = cc
        none_moves (Some m) first some none =
            let f = first_is (slept b) lines (actors_of (slept b)) m first in
            some_is_not_none m (sym f.moves ∙ comes_to_rest b is long free armed calm (reverse log) (at, made, none) f.actor f.listed)

        by_next : (o : Option Next) → sleep_next (slept b) armed (moves_of (reverse log)) at ≡ o → IsSome o
        by_next None none = absurd (none_moves (first_move (slept b) lines (actors_of (slept b))) refl some none)
        by_next (Some next) is = refl

    pub keeps_sleep : KeepsSleep b armed log
    keeps_sleep = record { fits = fits; lines = of_row; wake = names_waker (slept b) armed (Picking b.picks) (reverse log) at made }

-- ---- as the sleeper stands

module _ (b : BoardSeen) (armed : List LineNo) (s : SleeperSeen) (of : IsSleepOf b armed s) (is : IsBoard s.system.board) (t : IsTold s) where
  long : IsBoard (slept b)
  long = subst IsBoard of.longer.slept is

  abbrev order : Order Phase SleepEntry
  order = sleep_order (slept b) armed

  abbrev g : List SleepEntry
  g = reverse (log_of s)

  abbrev now : List BoardLine
  now = lines_after (slept b) order (log_of s)

  -- the lines after the log's moves are those after the order's
  same_lines : lines_of (slept b) (moves_of (reverse (log_of s))) ≡ now
  same_lines = ap (λ (ms : List Move). lines_of (slept b) ms) (sym (moves_are (slept b) armed (reverse (log_of s))))

  are : board_lines s.system.lines ≡ now
  are = t.lines
      ∙ (ap (λ (c : BoardSeen). lines_of c (reverse s.system.log)) of.longer.slept
      ∙ (ap (λ (ms : List Move). lines_of (slept b) ms) (sym t.told) ∙ same_lines))

  scenario : IsScenario (slept b) order (Picking b.picks) (KeepsSleep b armed) (log_of s)
  scenario = record {
    board = long;
    limit = refl;
    moves = moves_due (slept b) armed;
    kept = λ at made. subst (AreKept (slept b)) same_lines (state b of.longer.board long (is_free b armed of.longer.fits) armed g at made).kept;
    keeps = λ at made. keeps_sleep b armed of.longer.board long of.longer.fits (log_of s) at made;
    rests = λ played. subst (AreAtRest (slept b)) same_lines
        (λ a at. comes_to_rest b of.longer.board long (is_free b armed of.longer.fits) armed (is_calm b armed of.longer.fits) g played a at);
  }

  -- what was played of the sleeper's board is played of the board that sleeps
  of_board : (P : BoardSeen → List LineNo → Type 0) → P s.system.board s.watch.armed → P (slept b) armed
  of_board P p = subst (λ (c : BoardSeen). P c armed) of.longer.slept (subst (P s.system.board) of.watched p)

  as_end : (end : Result PlayEnd StepRefused) → IsSleep s s.system.board.picks (stop_of end) → SaysEnd (board_lines s.system.lines) end
      → IsEnd (slept b) order (Picking b.picks) (log_of s) end
  as_end (Ok e) p says =
      (of_board (λ c a. Sleeps c a c.picks (reverse (log_of s)) Done) p, subst (λ (ls : List BoardLine). IsEndOf ls e) are says)
  as_end (Err (refusals.Full line len)) p says = (
    of_board (λ c a. Sleeps c a c.picks (reverse (log_of s)) (Full line)) p.0,
    ap (λ (ms : List Move). length (part line ms)) (moves_are (slept b) armed (reverse (log_of s)) ∙ t.told) ∙ p.1,
  )
  as_end (Err refusals.NoMemory) p says =
      let made : IsMade order (Picking b.picks) (reverse (log_of s)) p.0 =
      of_board (λ c a. IsMade (sleep_order c a) (Picking c.picks) (reverse (log_of s)) p.0) p.1 in (
        p.0,
        made,
        next_due b armed of.longer.board long of.longer.fits (log_of s) p.0 made
            (subst (λ (c : BoardSeen). IsSome (first_move c (lines_of (slept b) (moves_of (reverse (log_of s)))) (actors_of c))) of.longer.slept
            (subst (λ (ls : List BoardLine). IsSome (first_move s.system.board ls (actors_of s.system.board))) (are ∙ sym same_lines) p.2)),
      )

  -- no run waits, so nobody hangs at the end
  never_hung : IsSleep s s.system.board.picks (Ok tt) → (line : LineNo) (actor : Actor) → IsFirstHung (board_lines s.system.lines) line actor → ⊥
  never_hung p line actor f =
      let q = of_board (λ c a. Sleeps c a c.picks (reverse (log_of s)) Done) p in
      calm_boards_settle b long (is_calm b armed of.longer.fits) (board_lines s.system.lines)
      (subst (AreKept (slept b)) (sym are) (scenario.kept q.0 q.1)) f.place f.of actor f.at f.lowest.0

  by_end : (end : Result PlayEnd StepRefused) (reports : List LineReport) → IsSleep s s.system.board.picks (stop_of end)
      → SaysEnd (board_lines s.system.lines) end
      → HandsOut (slept b) order (Picking b.picks) (KeepsSleep b armed) (log_of s) end reports → SleepHandsOut b armed (log_of s) end reports
  unfolding SleepHandsOut
  by_end (Ok ends.Settled) reports sleep says h = h
  by_end (Ok (ends.Hung line actor)) reports sleep says h = never_hung sleep line actor says
  by_end (Err refused) reports sleep says h = h

  -- the reports of the lines that were taken out of it
  pub hands_out : (end : Result PlayEnd StepRefused) → IsSleep s s.system.board.picks (stop_of end) → SaysEnd (board_lines s.system.lines) end
      → (lines : List LineSeen) → lines ≡ s.system.lines → (reports : List LineReport) → Reported s.system.board (board_lines lines) reports
      → SleepHandsOut b armed (log_of s) end reports
  hands_out end sleep says lines out reports told =
      by_end end reports sleep says
      (handed_out (slept b) order (Picking b.picks) (KeepsSleep b armed) (log_of s) scenario (board_lines lines) (ap board_lines out ∙ are) reports
      (subst (λ (c : BoardSeen). Reported c (board_lines lines) reports) of.longer.slept told) end (as_end end sleep says))

-- ---- which step was refused memory

module _ (may_want : Option Entry → Type 0) where
  -- by the room that is handed out
  step_done : (b : BoardSeen) (armed : List LineNo) (s : SleeperSeen) → IsSleepOf b armed s → (taken : List LineSeen) → taken ≡ s.system.lines
      → (reports : List LineReport) → KeepRoom taken reports → PlayWants may_want s s.system.board.picks (Err refusals.NoMemory)
      → RefusedStep may_want b armed (log_of s) reports
  step_done b armed s of taken out reports keep wants =
      let w = subst (λ (c : BoardSeen). WantsNext may_want (HasSpare s.system.lines) c armed c.picks (log_of s)) of.longer.slept
      (subst (λ (a : List LineNo). WantsNext may_want (HasSpare s.system.lines) s.system.board a s.system.board.picks (log_of s)) of.watched wants) in
      record {
        at = w.at;
        so_far = w.so_far;
        some = w.some;
        actor = w.actor;
        can = w.can;
        next = w.next;
        step = record {
          line = w.step.line;
          is = w.step.is;
          wanted = λ room fits. w.step.wanted (spare w.step.line.def.line room) fits;
        };
      }
    where
      spare : (number : LineNo) → IsHandedRoom reports number → HasSpare s.system.lines number
      spare number (i, report, at, its, room) k x at_x same =
          subst (λ (n : ℕ). 1 ≤ n) (keep k i x report (subst (λ (ls : List LineSeen). slice_get ls k ≡ Some x) (sym out) at_x) at (its ∙ sym same)) room

  pub hands_out_step : (b : BoardSeen) (armed : List LineNo) (s : SleeperSeen) → IsSleepOf b armed s → (end : Result PlayEnd StepRefused)
      → PlayWants may_want s s.system.board.picks (stop_of end) → (taken : List LineSeen) → taken ≡ s.system.lines → (reports : List LineReport)
      → KeepRoom taken reports → SleepHandsOut b armed (log_of s) end reports
      → HandsOutStep (SleepHandsOut b armed (log_of s)) (RefusedStep may_want b armed (log_of s)) end reports
  hands_out_step b armed s of end wants taken out reports keep h =
      with_step (SleepHandsOut b armed (log_of s)) (RefusedStep may_want b armed (log_of s)) end reports h
      (λ is. step_done b armed s of taken out reports keep
      (subst (λ (e : Result PlayEnd StepRefused). PlayWants may_want s s.system.board.picks (stop_of e)) is wants))

  cut_of : (b : BoardSeen) (armed : List LineNo) (g : List SleepEntry) (reports : List LineReport)
      → SleepHandsOut b armed g (Err refusals.NoMemory) reports → SleepCut b armed g reports
  unfolding SleepHandsOut
  cut_of b armed g reports h = h

  module _ (b : BoardSeen) (armed : List LineNo) (s : SleeperSeen) (of : IsSleepOf b armed s) (reports : List LineReport)
      (before after : Option (List ℕ)) (end : Result PlayEnd PlayFailed) where
    -- what is answered of the longer board tells the step
    pub tells_step : (text : List ℕ) → Answers text (HandsOutSleep may_want s) reports before after end → TellsStep may_want b armed reports end
    tells_step text told =
        answered.tells_step (SleepCut b armed) (RefusedStep may_want b armed) text (HandsOutSleep may_want s) (log_of s)
        (λ rs h. let both = h b armed of in (cut_of b armed (log_of s) rs both.0, both.1)) reports before after end told

    -- what is answered of the longer board is answered of the board that sleeps
    pub sleeps_board : (heard : List Run → Type 0) (longer : BoardSeen) → s.system.board ≡ longer
        → Answers (layout_rows longer ++ log_text (log_of s)) (HandsOutSleep may_want s) reports before after end
        → heard (runs_of longer (moves_of (reverse (log_of s)))) → SleepsBoard b armed heard reports before after end
    sleeps_board heard longer same told called =
        of_some (sleep_text b) (SleepHandsOut b armed) (runs_of_steps b) heard (log_of s) reports before after end
        (answers_as (layout_rows longer ++ log_text (log_of s)) (sleep_text b (log_of s)) (HandsOutSleep may_want s) (SleepHandsOut b armed (log_of s))
        (ap (λ (x : BoardSeen). sleep_text x (log_of s)) (sym same ∙ of.longer.slept))
        (λ ended rs h. without_step (SleepHandsOut b armed (log_of s)) (RefusedStep may_want b armed (log_of s)) ended rs (h b armed of))
        reports before after end told)
        (subst (λ (x : BoardSeen). heard (runs_of x (moves_of (reverse (log_of s))))) (sym same ∙ of.longer.slept) called)
