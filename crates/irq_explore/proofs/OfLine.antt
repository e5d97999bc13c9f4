-- The answer for a line of a board.
use Rattle.std.proofs.Common.{◌≡◌, ℕ, ◌<◌, Some, Ok, Err, Result, List, length, get_or, slice_get, sym, ap, subst, ◌∙◌, arith}
use Rattle.std.proofs.lemmas.List.{length-map}
use Rattle.std.specs.Option.{option_map}
use Rattle.std.specs.Prelude.{IfOk}
use Rattle.std.proofs.lemmas.Option.{same_Some, slice_get-map}
use Rattle.board_def.specs.Layout.{layout_of}
use Rattle.board_def.specs.LineOf.{line_defs_of, line_of_row}
use Rattle.board_def.specs.Seen.{BoardSeen}
use Rattle.board_def.specs.declared.rows.LineRow.{LineRow}
use Rattle.domain_rules.specs.declared.layouts.Placement.{Placement}
use Rattle.domain_rules.specs.declared.layouts.Placement.TheVariants as placements
use Rattle.irq_base.specs.declared.lines.LineDef.{LineDef}
use Rattle.irq_base.specs.declared.memory.NoMemory.{NoMemory}
use Rattle.line_survey.specs.Answers.{IsAnswer}
use Rattle.line_survey.specs.declared.answer.Answer.{Answer}
use Rattle.line_wanted.specs.declared.wanted.Wanted.{Wanted}
use Rattle.irq_explore.specs.Answered.{AnsweredAt, AnsweredLine}
use Rattle.irq_explore.specs.Printing.{IsPrintableAnswer}
use Rattle.irq_explore.proofs.ByIndex.{at_index}
use Rattle.irq_explore.proofs.Lawful.{printable_said}

module _ (states : ℕ) (b : BoardSeen) (place virq : ℕ) (path : List (ℕ × ℕ)) (placed : slice_get (layout_of b) place ≡ Some (placements.Mapped virq path)) where
  on_mapped : (row : LineRow) (placement : Placement) (wanted : Wanted) (answer : Answer) → slice_get (layout_of b) place ≡ Some placement
      → IsAnswer states (line_of_row b row) wanted answer → AnsweredLine states b row placement wanted answer
  on_mapped row (placements.Mapped v p) wanted answer at says = says
  on_mapped row (placements.Refused why) wanted answer at says =
      let same : ◌≡◌ {A = Placement} (placements.Mapped virq path) (placements.Refused why) =
      same_Some (placements.Mapped virq path) (placements.Refused why) (sym placed ∙ at) in cc

  module _ (def : LineDef) (there : slice_get (line_defs_of b) place ≡ Some def) where
    row_is : (row : LineRow) → slice_get b.lines place ≡ Some row → def ≡ line_of_row b row
    row_is row at = same_Some def (line_of_row b row) (sym there ∙ (slice_get-map (line_of_row b) b.lines place ∙ ap (option_map (line_of_row b)) at))

    pub answered : (wanted : Wanted) (r : Result Answer NoMemory) → IfOk r (IsAnswer states def wanted) → IfOk r (AnsweredAt states b place wanted)
    answered wanted (Ok answer) is = λ row placement at placement_at.
        on_mapped row placement wanted answer placement_at
        (subst (λ (d : LineDef). IsAnswer states d wanted answer) (row_is row at) is)
    answered wanted (Err e) is = tt

pub answered_rows : (states : ℕ) (def : LineDef) (wanted : Wanted) (r : Result Answer NoMemory) → IfOk r (IsAnswer states def wanted) → IfOk r IsPrintableAnswer
answered_rows states def wanted (Ok answer) is = printable_said states def wanted answer is
answered_rows states def wanted (Err e) is = tt

-- the definition at a place
pub def_at : (b : BoardSeen) (place : ℕ) (defs : List LineDef) (def : LineDef) → defs ≡ line_defs_of b → place < length b.lines
    → def ≡ get_or defs place def → slice_get (line_defs_of b) place ≡ Some def
def_at b place defs def are within is =
    let many : length defs ≡ length b.lines = ap length are ∙ length-map b.lines (line_of_row b) in
    ap (λ (l : List LineDef). slice_get l place) (sym are)
    ∙ (at_index defs place def (omega (arith, within, many)) ∙ ap (λ (d : LineDef). Some d) (sym is))
