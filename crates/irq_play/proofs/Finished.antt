-- A system whose play has ended, and what its reports hand out.
use Rattle.std.proofs.Common.{◌≡◌, ◌≤◌, ℕ, All, Option, Some, Result, Ok, Err, List, length, reverse, sym, ap, ◌∙◌, subst}
use Rattle.irq_base.specs.declared.entries.Actor.{Actor}
use Rattle.irq_base.specs.declared.entries.Entry.{Entry}
use Rattle.irq_base.specs.declared.numbers.LineNo.{LineNo}
use Rattle.irq_base.specs.declared.reporting.LineReport.{LineReport}
use Rattle.irq_line.specs.declared.answers.StepRefused.{StepRefused}
use Rattle.irq_line.specs.declared.answers.StepRefused.TheVariants as refusals
use Rattle.board_core.specs.Hung.{stop_of}
use Rattle.board_core.specs.Seen.{SystemSeen, board_lines}
use Rattle.board_core.specs.Turns.{HasLength}
use Rattle.board_core.specs.Wanted.{HasSpare, PlayWants}
use Rattle.board_core.specs.declared.ends.PlayEnd.{PlayEnd}
use Rattle.board_core.specs.declared.ends.PlayEnd.TheVariants as ends
use Rattle.board_def.specs.LineOf.{line_of_row}
use Rattle.board_def.specs.Rules.{IsBoard}
use Rattle.board_play.specs.Kept.{AreKept}
use Rattle.board_play.specs.Lines.{BoardLine, defs_of, find_line, lines_of, part}
use Rattle.board_play.specs.Order.{due_move}
use Rattle.board_play.proofs.KeptAlways.{apart_kept, kept_play}
use Rattle.board_play.proofs.Members.{find_there, past_at}
use Rattle.board_play.proofs.Moves.{choice_is, moves_on}
use Rattle.board_play.proofs.Rest.{done_rests}
use Rattle.board_report.specs.Headline as report
use Rattle.board_report.specs.Headline.{EachMapped, Histories, KeepsLaws, LineHeadline}
use Rattle.board_report.specs.Hung.{HungBoard, IsCaughtElsewhere, IsFirstHung, LineBesideHung}
use Rattle.board_report.specs.Moving.{AreAtRest, HasNoRoom}
use Rattle.board_report.specs.Reporting.{IsHandedRoom, KeepRoom, entries_in}
use Rattle.board_report.proofs.FullAt.{no_room}
use Rattle.irq_play.specs.Headline.{CutShort, FullLog, HandsOut, Headline, HungPlay, RefusedStep}
use Rattle.irq_play.specs.Played.{HandsOutSystem, IsPlayed}
use Rattle.irq_play.proofs.Parts.{all_parts, its_part, mapped_parts, refused_parts, told_parts}
use Rattle.irq_play.proofs.Printable.{moves_have_rows}
use Rattle.play_report.proofs.Answered.{with_step}
use Rattle.play_report.proofs.Handed.{Reported}
use Rattle.play_report.specs.Printing.{HasRow}

-- each move of a play that came to its end has a row
pub rows_done : (s : SystemSeen) (e : PlayEnd) → IsPlayed s (Ok e) → All HasRow s.log
rows_done s e p = moves_have_rows s.board s.board.picks s.log p.play.0 p.play.1

module _ (s : SystemSeen) (board : IsBoard s.board) where
  -- when nobody can move
  at_rest : (e : PlayEnd) → IsPlayed s (Ok e) → AreAtRest s.board (board_lines s.lines)
  at_rest e p a at = ap (λ (ls : List BoardLine). due_move s.board ls a) p.lines ∙ done_rests s.board s.board.picks (reverse s.log) p.play a at

  -- and nobody hangs
  done : IsPlayed s (Ok ends.Settled) → (reports : List LineReport) → report.Headline s.board (entries_in (board_lines s.lines)) reports
      → Headline s.board s.log reports
  done p reports h = record {
    play = p.play;
    handed_out = told_parts s.board board s.log p.play.0 p.play.1 (board_lines s.lines) p.lines _ h.handed_out;
    mapped = mapped_parts s.board board s.log p.play.0 p.play.1 (board_lines s.lines) p.lines (λ row es. LineHeadline (line_of_row s.board row) es) h.mapped;
    refused = refused_parts s.board board s.log p.play.0 p.play.1 (board_lines s.lines) p.lines h.refused;
  }

  -- and this actor is hung
  hung : (line : LineNo) (actor : Actor) → IsPlayed s (Ok (ends.Hung line actor)) → (reports : List LineReport)
      → HungBoard s.board (entries_in (board_lines s.lines)) reports line actor → HungPlay s.board s.log reports line actor
  hung line actor p reports h =
      let parts = all_parts s.board board s.log p.play.0 p.play.1 (board_lines s.lines) p.lines in
      record {
        play = p.play;
        hung = subst (λ (hs : Histories). IsFirstHung s.board hs line actor) parts h.hung;
        handed_out = told_parts s.board board s.log p.play.0 p.play.1 (board_lines s.lines) p.lines _ h.handed_out;
        mapped = subst (λ (hs : Histories). EachMapped s.board (λ row. LineBesideHung (line_of_row s.board row) (hs row.line)
            (IsCaughtElsewhere s.board hs row.line))) parts h.mapped;
        refused = refused_parts s.board board s.log p.play.0 p.play.1 (board_lines s.lines) p.lines h.refused;
      }

  -- when a log was full
  no_room_full : (line : LineNo) (len : ℕ) → IsPlayed s (Err (refusals.Full line len)) → HasNoRoom s.board (board_lines s.lines) line len
  no_room_full line len p =
      let g = reverse s.log in
      let at = lines_of s.board g in
      let plays = p.play.0 in
      let full = plays.2 in
      let kept : AreKept s.board at = kept_play s.board s.board.picks board g plays.0 plays.1 in
      let who = choice_is s.board at plays.0 full.move full.after full.next in
      let on = moves_on s.board at who.actor full.move who.moves in
      let number : on.line.def.line ≡ line = sym on.number ∙ full.of_line in
      let found : find_line at line ≡ Some on.line = ap (λ (l : LineNo). find_line at l) (sym number)
      ∙ find_there at (apart_kept s.board board at kept) on.place on.line on.at in
      let long : length on.line.past ≡ len =
      ap (λ (es : List Entry). length es) (past_at (defs_of s.board) g on.place on.line on.at ∙ ap (λ (l : LineNo). part l g) number) ∙ p.play.1 in
      subst (λ (ls : List BoardLine). HasNoRoom s.board ls line len) (sym p.lines)
      (no_room s.board board at kept line len full.move full.of_line
      (subst (λ (o : Option BoardLine). HasLength o len) (sym found) long) (sym p.play.1 ∙ full.length) who.actor
      who.moves)

  full : (line : LineNo) (len : ℕ) → IsPlayed s (Err (refusals.Full line len)) → (reports : List LineReport)
      → report.FullLog s.board (entries_in (board_lines s.lines)) reports line len → FullLog s.board s.log reports line len
  full line len p reports h =
      let left = p.play.0.0 in
      let chosen = p.play.0.1 in
      record {
        play = p.play.0;
        handed_out = told_parts s.board board s.log left chosen (board_lines s.lines) p.lines _ h.handed_out;
        mapped = mapped_parts s.board board s.log left chosen (board_lines s.lines) p.lines (λ row es. KeepsLaws (line_of_row s.board row) es) h.mapped;
        refused = refused_parts s.board board s.log left chosen (board_lines s.lines) p.lines h.refused;
        length_is = ap (λ (es : List Entry). length es) (sym (its_part s.board board s.log left chosen (board_lines s.lines) p.lines line)) ∙ h.full.length_is;
        limit_is = h.full.limit_is;
        scarce = h.scarce;
      }

  -- when a step was refused memory
  cut : IsPlayed s (Err refusals.NoMemory) → (reports : List LineReport) → report.SoFar s.board (entries_in (board_lines s.lines)) reports
      → CutShort s.board s.log reports
  cut p reports h = record {
    left = p.play.0;
    so_far = p.play.1;
    next = p.play.2;
    handed_out = told_parts s.board board s.log p.play.0 p.play.1 (board_lines s.lines) p.lines _ h.handed_out;
    mapped = mapped_parts s.board board s.log p.play.0 p.play.1 (board_lines s.lines) p.lines (λ row es. KeepsLaws (line_of_row s.board row) es) h.mapped;
    refused = refused_parts s.board board s.log p.play.0 p.play.1 (board_lines s.lines) p.lines h.refused;
  }

  handed : (ended : Result PlayEnd StepRefused) → IsPlayed s ended → (reports : List LineReport) → Reported s.board (board_lines s.lines) reports
      → HandsOut s.board s.log ended reports
  handed (Ok ends.Settled) p reports told = done p reports (told.done (at_rest ends.Settled p) p.says)
  handed (Ok (ends.Hung line actor)) p reports told = hung line actor p reports (told.hung line actor (at_rest (ends.Hung line actor) p) p.says)
  handed (Err (refusals.Full line len)) p reports told = full line len p reports (told.full line len (no_room_full line len p))
  handed (Err refusals.NoMemory) p reports told = cut p reports told.so_far

  -- which step was refused, by the room that is handed out
  step_done : (may_want : Option Entry → Type 0) (reports : List LineReport) → KeepRoom s.lines reports
      → PlayWants may_want s s.board.picks (Err refusals.NoMemory) → RefusedStep may_want s.board s.log reports
  step_done may_want reports keep w = record {
    left = w.left;
    so_far = w.so_far;
    some = w.some;
    actor = w.actor;
    can = w.can;
    next = w.next;
    step = record {
      line = w.step.line;
      is = w.step.is;
      wanted = λ room fits. w.step.wanted (spare w.step.line.def.line room) fits;
    };
  }
    where
      spare : (number : LineNo) → IsHandedRoom reports number → HasSpare s.lines number
      spare number (i, report, at, its, room) k x at_x same =
          subst (λ (n : ℕ). 1 ≤ n) (keep k i x report at_x at (its ∙ sym same)) room

  -- what the reports of its lines hand out
  pub handed_out : (may_want : Option Entry → Type 0) (ended : Result PlayEnd StepRefused) → IsPlayed s ended
      → PlayWants may_want s s.board.picks (stop_of ended)
      → (reports : List LineReport) → Reported s.board (board_lines s.lines) reports → KeepRoom s.lines reports
      → HandsOutSystem may_want s ended reports
  handed_out may_want ended p wants reports told keep =
      with_step (HandsOut s.board s.log) (RefusedStep may_want s.board s.log) ended reports (handed ended p reports told)
      (λ is. step_done may_want reports keep (subst (λ (e : Result PlayEnd StepRefused). PlayWants may_want s s.board.picks (stop_of e)) is wants))
