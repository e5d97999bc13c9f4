-- The answer for the line at a place is the answer for the line with its number.
use Rattle.std.proofs.Common.{◌≡◌, ℕ, ◌<◌, ◌≤◌, ◌⊎◌, inl, inr, true, eqb, Some, slice_get, sym, ap, subst, ◌∙◌, arith}
use Rattle.std.proofs.lemmas.Bool.{cases_lt, false≢true}
use Rattle.std.proofs.lemmas.Bool.Decides.{nat_tests}
use Rattle.board_def.specs.Layout.{layout_of}
use Rattle.board_def.specs.Rules.{IsBoard}
use Rattle.board_def.specs.Seen.{BoardSeen}
use Rattle.board_def.specs.declared.rows.LineRow.{LineRow}
use Rattle.irq_base.specs.declared.numbers.LineNo.{LineNo}
use Rattle.line_survey.specs.declared.answer.Answer.{Answer}
use Rattle.line_wanted.specs.declared.wanted.Wanted.{Wanted}
use Rattle.log_read.specs.Adding.{IsPlaceOf}
use Rattle.log_read.proofs.Telling.{other_line}
use Rattle.irq_explore.specs.Answered.{Answered, AnsweredAt}

equals : (n : ℕ) → eqb n n ≡ true
equals n = grind (arith, nat_tests)

module _ (b : BoardSeen) (board : IsBoard b) (line : LineNo) (place : ℕ) (at : IsPlaceOf b.lines line place) where
  apart : (i : ℕ) (x : LineRow) → slice_get b.lines i ≡ Some x → x.line ≡ line → (i ≡ place → ⊥) → ⊥
  apart i x there named differ =
      let other = other_line b i place x at.0 board there at.1 differ in
      let same : eqb at.0.line.0 x.line.0 ≡ true =
      ap (λ (l : LineNo). eqb l.0 x.line.0) (at.2 ∙ sym named) ∙ equals x.line.0 in
      false≢true (sym other ∙ same)

  same_place : (i : ℕ) (x : LineRow) → slice_get b.lines i ≡ Some x → x.line ≡ line → i ≡ place
  same_place i x there named = by (cases_lt i place) (cases_lt place i)
    where
      by : (i < place) ⊎ (place ≤ i) → (place < i) ⊎ (i ≤ place) → i ≡ place
      by (inl less) other = absurd (apart i x there named (λ same. omega (arith, less, same)))
      by (inr more) (inl less) = absurd (apart i x there named (λ same. omega (arith, less, same)))
      by (inr more) (inr most) = omega (arith, more, most)

  pub answered_line : (states : ℕ) (wanted : Wanted) (answer : Answer) → AnsweredAt states b place wanted answer
      → Answered states b line wanted answer
  answered_line states wanted answer is i row placement there named placed =
      let same = same_place i row there named in
      is row placement (subst (λ j. slice_get b.lines j ≡ Some row) same there) (subst (λ j. slice_get (layout_of b) j ≡ Some placement) same placed)
