-- What the lines of a system have is their part of the moves of its play.
use Rattle.std.proofs.Common.{◌≡◌, Option, Some, None, List, [], ◌∷◌, map, reverse, refl, sym, ap, ◌∙◌, subst}
use Rattle.irq_base.specs.declared.entries.Actor.{Actor}
use Rattle.irq_base.specs.declared.entries.Entry.{Entry}
use Rattle.irq_base.specs.declared.numbers.LineNo.{LineNo}
use Rattle.board_def.specs.Rules.{IsBoard}
use Rattle.board_def.specs.Seen.{BoardSeen}
use Rattle.board_def.specs.declared.rows.LineRow.{LineRow}
use Rattle.board_play.specs.Lines.{BoardLine, Move, part, defs_of, lines_of, find_line}
use Rattle.board_play.specs.Play.{IsChosen}
use Rattle.board_play.proofs.Members.{found, past_at}
use Rattle.board_report.specs.Headline as report
use Rattle.board_report.specs.Headline.{EachMapped, EachRefused, Histories, LineHistory}
use Rattle.board_report.specs.Reporting.{entries_in, entries_of}
use Rattle.irq_play.specs.Headline.{history_of, histories_of}
use Rattle.irq_play.proofs.Others.{others_have_none}
use Rattle.irq_play.proofs.Turned.{turned_back}

same_pair : (line : LineNo) (es fs : List Entry) → es ≡ fs → ◌≡◌ {A = LineHistory} (line, es) (line, fs)
same_pair line es fs is = cc

module _ (b : BoardSeen) (board : IsBoard b) (g : List Move) (left : List Actor)
    (chosen : IsChosen b b.picks (reverse g) left) (lines : List BoardLine) (are : lines ≡ lines_of b (reverse g)) where
  -- what is found of a line's number is its part of the moves
  found_part : (line : LineNo) (o : Option BoardLine) → find_line (lines_of b (reverse g)) line ≡ o → entries_of o ≡ part line g
  found_part line None is = ap (λ (past : List Entry). reverse past)
      (sym (others_have_none b board b.picks (reverse g) left chosen line is)) ∙ turned_back line g
  found_part line (Some x) is =
      let f = found (lines_of b (reverse g)) line x is in
      let past : x.past ≡ part line (reverse g) = past_at (defs_of b) (reverse g) f.place x f.at ∙ ap (λ (l : LineNo). part l (reverse g)) (sym f.number) in
      ap (λ (past : List Entry). reverse past) past ∙ turned_back line g

  pub its_part : (line : LineNo) → entries_in lines line ≡ part line g
  its_part line =
      ap (λ (ls : List BoardLine). entries_in ls line) are
      ∙ found_part line (find_line (lines_of b (reverse g)) line) refl

  -- all of them
  pub all_parts : ◌≡◌ {A = Histories} (λ line. entries_in lines line) (λ line. part line g)
  all_parts = λ i line. its_part line i

  -- so what holds of the one holds of the other
  pub mapped_parts : (P : LineRow → List Entry → Type 0) → EachMapped b (λ row. P row (entries_in lines row.line))
      → EachMapped b (λ row. P row (part row.line g))
  mapped_parts P each i row virq path at laid = subst (λ (es : List Entry). P row es) (its_part row.line) (each i row virq path at laid)

  pub refused_parts : EachRefused b (λ row. entries_in lines row.line ≡ []) → EachRefused b (λ row. part row.line g ≡ [])
  refused_parts each i row why at laid = sym (its_part row.line) ∙ each i row why at laid

  each_history : (rows : List LineRow) → map (λ (row : LineRow). (row.line, entries_in lines row.line)) rows ≡ map (history_of g) rows
  each_history [] = refl
  each_history (row ∷ rows) =
      ap (λ (h : LineHistory). h ∷ map (λ (row : LineRow). (row.line, entries_in lines row.line)) rows)
      (same_pair row.line (entries_in lines row.line) (part row.line g) (its_part row.line))
      ∙ ap (λ (hs : List LineHistory). history_of g row ∷ hs) (each_history rows)

  pub told_parts : (told : List LineHistory) → told ≡ report.histories_of b (entries_in lines) → told ≡ histories_of b g
  told_parts told is = is ∙ each_history b.lines
