-- What the reports of a system's lines hand out.
use Rattle.std.proofs.Common.{◌≡◌, ℕ, ◌≤◌, All, List, length, map, sym, ap, ◌∙◌, subst}
use Rattle.irq_base.specs.declared.entries.Actor.{Actor}
use Rattle.irq_base.specs.declared.numbers.LineNo.{LineNo}
use Rattle.irq_base.specs.declared.reporting.LineReport.{LineReport}
use Rattle.irq_line.specs.Seen.{LineSeen}
use Rattle.board_core.specs.Making.{AreSound}
use Rattle.board_core.specs.Seen.{SystemSeen, board_lines}
use Rattle.board_def.specs.Rules.{IsBoard}
use Rattle.board_def.specs.Seen.{BoardSeen}
use Rattle.board_play.specs.Hanging.{IsFirstHung, NobodyHangs}
use Rattle.board_play.specs.Kept.{AreKept}
use Rattle.board_report.specs.Headline.{FullLog, Headline, SoFar, histories_of, told_by}
use Rattle.board_report.specs.Hung.{HungBoard}
use Rattle.board_report.specs.Moving.{AreAtRest, HasNoRoom}
use Rattle.board_report.specs.Reporting.{AreOfBoard, entries_in, history_among}
use Rattle.board_report.specs.Rows.{HasRows}
use Rattle.board_report.specs.Summable.{IsSummable}
use Rattle.board_report.proofs.Ample.{not_full}
use Rattle.board_report.proofs.FullAt.{full_line}
use Rattle.board_report.proofs.Hanging.{first_hung, all_beside}
use Rattle.board_report.proofs.Kept.{all_end_well, all_keep_laws, refused_have_none}
use Rattle.board_report.proofs.Reported.{all_have_rows, all_summable, few_reports}

module _ (b : BoardSeen) (s : SystemSeen) (of_board : s.board ≡ b) (kept : AreKept s.board (board_lines s.lines)) where
  k : AreKept b (board_lines s.lines)
  k = subst (λ (c : BoardSeen). AreKept c (board_lines s.lines)) of_board kept

  pub of_its_board : (lines : List LineSeen) → lines ≡ s.lines → AreOfBoard b (board_lines lines)
  of_its_board lines are = subst (λ (ls : List LineSeen). AreOfBoard b (board_lines ls)) (sym are) k.defs

  module _ (board : IsBoard b) (lines : List LineSeen) (are : lines ≡ s.lines) (reports : List LineReport)
      (is : map told_by reports ≡ map (history_among (board_lines lines)) b.lines) where
    told : map told_by reports ≡ histories_of b (entries_in (board_lines s.lines))
    told = is ∙ ap (λ (ls : List LineSeen). map (history_among (board_lines ls)) b.lines) are

    pub so_far : SoFar b (entries_in (board_lines s.lines)) reports
    so_far = record { handed_out = told; mapped = all_keep_laws b board (board_lines s.lines) k; refused = refused_have_none b board (board_lines s.lines) k }

    pub done : AreAtRest b (board_lines s.lines) → NobodyHangs (board_lines s.lines) → Headline b (entries_in (board_lines s.lines)) reports
    done rest unhung = record {
      handed_out = told;
      mapped = all_end_well b board (board_lines s.lines) k rest unhung;
      refused = refused_have_none b board (board_lines s.lines) k;
    }

    pub hung : (line : LineNo) (actor : Actor) → AreAtRest b (board_lines s.lines) → IsFirstHung (board_lines s.lines) line actor
        → HungBoard b (entries_in (board_lines s.lines)) reports line actor
    hung line actor rest first = record {
      hung = first_hung b board (board_lines s.lines) k line actor first;
      handed_out = told;
      mapped = all_beside b board (board_lines s.lines) k rest;
      refused = refused_have_none b board (board_lines s.lines) k;
    }

    pub full : (line : LineNo) (len : ℕ) → HasNoRoom b (board_lines s.lines) line len → FullLog b (entries_in (board_lines s.lines)) reports line len
    full line len h =
        let at = full_line b board (board_lines s.lines) k line len h in
        record {
          handed_out = told;
          mapped = all_keep_laws b board (board_lines s.lines) k;
          refused = refused_have_none b board (board_lines s.lines) k;
          full = at;
          scarce = not_full b board (board_lines s.lines) k line len at;
        }

    pub rows_told : All HasRows reports
    rows_told = all_have_rows b board s.lines k reports told

    pub few_told : length reports ≤ 64
    few_told = few_reports b board s.lines k reports told

    pub summable_told : AreSound s.lines → All IsSummable reports
    summable_told sound = all_summable b board s.lines k reports told sound
