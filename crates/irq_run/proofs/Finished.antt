-- A system whose run has ended, and what its reports hand out.
use Rattle.std.proofs.Common.{◌≡◌, ◌≤◌, ℕ, Option, Some, None, Result, Ok, Err, List, IsSome, sym, ap, ◌∙◌, subst}
use Rattle.irq_base.specs.declared.entries.Entry.{Entry}
use Rattle.irq_base.specs.declared.numbers.LineNo.{LineNo}
use Rattle.irq_base.specs.declared.reporting.LineReport.{LineReport}
use Rattle.irq_line.specs.declared.answers.StepRefused.{StepRefused}
use Rattle.irq_line.specs.declared.answers.StepRefused.TheVariants as refusals
use Rattle.board_core.specs.Hung.{SaysEnd, stop_of}
use Rattle.board_core.specs.Seen.{SystemSeen, board_lines}
use Rattle.board_core.specs.Turns.{lowest_move}
use Rattle.board_core.specs.declared.ends.PlayEnd.{PlayEnd}
use Rattle.board_core.specs.declared.ends.PlayEnd.TheVariants as ends
use Rattle.board_core.specs.Wanted.{HasSpare, LowestWantsByLine, SettleWants}
use Rattle.board_def.specs.Rules.{IsBoard}
use Rattle.board_def.specs.Seen.{BoardSeen}
use Rattle.board_play.specs.Kept.{AreKept}
use Rattle.board_play.specs.Lines.{BoardLine, Move}
use Rattle.board_play.specs.Order.{actors_of, due_move, line_for}
use Rattle.board_play.specs.Play.{first_move}
use Rattle.board_report.specs.Headline.{Histories}
use Rattle.board_report.specs.Moving.{AreAtRest, HasNoRoom}
use Rattle.board_report.specs.Reporting.{IsHandedRoom, KeepRoom, entries_in}
use Rattle.board_report.proofs.FullAt.{no_room_first}
use Rattle.board_report.proofs.Resting.{at_rest}
use Rattle.board_play.proofs.KeptAlways.{apart_kept}
use Rattle.play_report.proofs.Answered.{with_step}
use Rattle.play_report.proofs.Handed.{Reported}
use Rattle.play_report.specs.Answers.{HandsOutStep}
use Rattle.irq_run.specs.Given.{lines_with}
use Rattle.irq_run.specs.Ran.{HandsOut, IsRun, RefusedStep, next_move}
use Rattle.irq_run.proofs.Given.{with_same}

module _ (b : BoardSeen) (isb : IsBoard b) (s : SystemSeen) (of_board : s.board ≡ b) (kept : AreKept s.board (board_lines s.lines)) where
  abbrev its : Histories
  its = entries_in (board_lines s.lines)

  kept_b : AreKept b (board_lines s.lines)
  kept_b = subst (λ (c : BoardSeen). AreKept c (board_lines s.lines)) of_board kept

  -- the lines with the histories that are handed out are the lines
  are_same : lines_with b its ≡ board_lines s.lines
  are_same = with_same b (board_lines s.lines) kept_b.defs (apart_kept b isb (board_lines s.lines) kept_b)

  kept_with : AreKept b (lines_with b its)
  kept_with = subst (AreKept b) (sym are_same) kept_b

  next_is : lowest_move s ≡ next_move b its
  next_is = ap (λ (c : BoardSeen). first_move c (board_lines s.lines) (actors_of c)) of_board
      ∙ ap (λ (ls : List BoardLine). first_move b ls (actors_of b)) (sym are_same)

  still : IsRun b s (Ok tt) → next_move b its ≡ None
  still p = sym next_is ∙ p.ends

  -- when it is done, nothing moves
  rests : IsRun b s (Ok tt) → AreAtRest b (board_lines s.lines)
  rests p = at_rest b (board_lines s.lines) (subst (λ (c : BoardSeen). first_move c (board_lines s.lines) (actors_of c) ≡ None) of_board p.ends)

  -- when a log was full, it is that line's
  no_room_full : (line : LineNo) (len : ℕ) → IsRun b s (Err (refusals.Full line len)) → HasNoRoom b (board_lines s.lines) line len
  no_room_full line len p =
      no_room_first b isb (board_lines s.lines) kept_b line len p.ends.move p.ends.of_line p.ends.length
      (p.ends.log ∙ ap (λ (c : BoardSeen). c.log) of_board)
      (subst (λ (c : BoardSeen). first_move c (board_lines s.lines) (actors_of c) ≡ Some p.ends.move) of_board p.ends.is)

  handed : (end : Result PlayEnd StepRefused) → IsRun b s (stop_of end) → SaysEnd (board_lines s.lines) end → (reports : List LineReport)
      → Reported b (board_lines s.lines) reports → HandsOut b its end reports
  handed (Ok ends.Settled) p says reports told = told.done (rests p) says
  handed (Ok (ends.Hung line actor)) p says reports told = record { hung = told.hung line actor (rests p) says; kept = kept_with; still = still p }
  handed (Err (refusals.Full line len)) p says reports told = record { full = told.full line len (no_room_full line len p); kept = kept_with }
  handed (Err refusals.NoMemory) p says reports told = record {
    so_far = told.so_far;
    kept = kept_with;
    further = subst (λ (o : Option Move). IsSome o) next_is p.ends;
  }

  -- which step was refused, by the room that is handed out
  step_done : (may_want : Option Entry → Type 0) (reports : List LineReport) → KeepRoom s.lines reports
      → LowestWantsByLine may_want s → RefusedStep may_want b its reports
  step_done may_want reports keep w = record {
    actor = w.actor;
    next = sym next_is ∙ (w.lowest ∙ (ap (λ (c : BoardSeen). due_move c (board_lines s.lines) w.actor) of_board
        ∙ ap (λ (ls : List BoardLine). due_move b ls w.actor) (sym are_same)));
    step = record {
      line = w.step.line;
      is = ap (λ (ls : List BoardLine). line_for b ls w.actor) are_same
          ∙ (ap (λ (c : BoardSeen). line_for c (board_lines s.lines) w.actor) (sym of_board) ∙ w.step.is);
      wanted = λ room. w.step.wanted (spare w.step.line.def.line room);
    };
  }
    where
      spare : (number : LineNo) → IsHandedRoom reports number → HasSpare s.lines number
      spare number (i, report, at, number_is, room) k x at_x same =
          subst (λ (n : ℕ). 1 ≤ n) (keep k i x report at_x at (number_is ∙ sym same)) room

  -- what the reports of its lines hand out
  pub handed_out : (may_want : Option Entry → Type 0) (stop : Result Unit StepRefused) (end : Result PlayEnd StepRefused) → stop_of end ≡ stop
      → IsRun b s stop → SaysEnd (board_lines s.lines) end → SettleWants may_want s stop
      → (reports : List LineReport) → Reported b (board_lines s.lines) reports → KeepRoom s.lines reports
      → HandsOutStep (HandsOut b its) (RefusedStep may_want b its) end reports
  handed_out may_want stop end so p says wants reports told keep =
      with_step (HandsOut b its) (RefusedStep may_want b its) end reports
      (handed end (subst (λ (x : Result Unit StepRefused). IsRun b s x) (sym so) p) says reports told)
      (λ is. step_done may_want reports keep
      (subst (λ (x : Result Unit StepRefused). SettleWants may_want s x) (sym so ∙ ap (λ (e : Result PlayEnd StepRefused). stop_of e) is) wants))
