-- If each line's log is ample, no run ends at a full one.
use Rattle.std.proofs.Common.{◌≡◌, ℕ, Bool, true, false, IsSome, Option, None, List, [], length, slice_get, refl, sym, ap, ◌∙◌, subst, arith}
use Rattle.irq_base.specs.declared.entries.Entry.{Entry}
use Rattle.irq_base.specs.declared.lines.LineDef.{LineDef}
use Rattle.irq_base.specs.declared.numbers.LineNo.{LineNo}
use Rattle.irq_model.specs.Next.{next}
use Rattle.irq_storms.proofs.Laws.{never_full}
use Rattle.board_def.specs.Layout.{layout_of}
use Rattle.board_def.specs.LineOf.{line_of_row}
use Rattle.board_def.specs.Rules.{IsBoard}
use Rattle.board_def.specs.Seen.{BoardSeen}
use Rattle.board_def.proofs.RunRules.{valid_runs}
use Rattle.board_def.proofs.Validity.{valid_row}
use Rattle.board_play.specs.Kept.{AreKept}
use Rattle.board_play.specs.Lines.{BoardLine}
use Rattle.board_report.specs.Reporting.{entries_in}
use Rattle.board_report.specs.Headline.{IsAmple}
use Rattle.board_report.proofs.OfRows.{is_mapped_at, takes_part}
use Rattle.board_report.specs.Headline.{IsFullLine}
use Rattle.board_report.proofs.Kept.{legal_row}
use Rattle.board_report.proofs.Laid.{no_entries}

none_due : (o : Option Entry) → IsSome o → o ≡ None → ⊥
none_due o due is = let none : IsSome {T = Entry} None = subst (λ (p : Option Entry). IsSome p) is due in cc

module _ (b : BoardSeen) (board : IsBoard b) (lines : List BoardLine) (k : AreKept b lines) (line : LineNo) (len : ℕ)
    (f : IsFullLine b (entries_in lines) line len) where
  abbrev def : LineDef
  def = line_of_row b f.row

  abbrev entries : List Entry
  entries = entries_in lines f.row.line

  long : length entries ≡ b.log
  long = ap (λ (l : LineNo). length (entries_in lines l)) f.number ∙ (f.length_is ∙ f.limit_is)

  due : IsSome (next def entries f.actor)
  due = subst (λ (l : LineNo). IsSome (next def (entries_in lines l) f.actor)) (sym f.number) f.due

  -- a history that is as long as a log isn't empty
  not_empty : entries ≡ [] → ⊥
  not_empty is =
      let none : 0 ≡ b.log = sym (ap (λ (es : List Entry). length es) is) ∙ long in
      let some = board.some_log in
      omega (arith, none, some)

  nothing_due : is_mapped_at (slice_get (layout_of b) f.place) ≡ true → IsAmple b → ⊥
  nothing_due laid ample =
      let there = takes_part b f.place f.row f.at laid in
      none_due (next def entries f.actor) due
      (never_full def entries f.actor (valid_row b f.place f.row board f.at) (valid_runs b board f.row) (ample there.place def there.at).0
      (legal_row b board lines k f.place f.row f.at laid) (ample there.place def there.at).1 long)

  pub not_full : IsAmple b → ⊥
  not_full ample = by_place (is_mapped_at (slice_get (layout_of b) f.place)) refl
    where
      by_place : (laid : Bool) → is_mapped_at (slice_get (layout_of b) f.place) ≡ laid → ⊥
      by_place true laid = nothing_due laid ample
      by_place false not = not_empty (no_entries b board lines k f.place f.row f.at not)
