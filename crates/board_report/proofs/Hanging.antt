-- The lines of a board on which nobody can move, and some actor is hung.
use Rattle.std.proofs.Common.{◌≡◌, ℕ, zero, suc, true, IsSome, Option, Some, None, List, [], ◌∷◌, map, reverse, slice_get, refl, sym, ap, ◌∙◌, subst}
use Rattle.std.specs.Option.{IfSome}
use Rattle.std.proofs.lemmas.List.{reverse-reverse}
use Rattle.irq_base.specs.declared.entries.Actor.{Actor}
use Rattle.irq_base.specs.declared.entries.Actor.TheVariants as actors
use Rattle.irq_base.specs.declared.entries.Entry.{Entry}
use Rattle.irq_base.specs.declared.lines.LineDef.{LineDef}
use Rattle.irq_base.specs.declared.numbers.CpuNo.{CpuNo}
use Rattle.irq_base.specs.declared.numbers.LineNo.{LineNo}
use Rattle.irq_model.specs.Due.{due_call}
use Rattle.irq_model.specs.Legal.{IsLegal}
use Rattle.irq_model.specs.Next.{next_past}
use Rattle.irq_model.specs.Signal.{target}
use Rattle.irq_model.specs.Valid.{IsValid}
use Rattle.irq_model.specs.Waits.{IsHungPast, IsCaughtPast, IsLowestHungPast, is_unfinished_actor}
use Rattle.irq_laws.proofs.Chosen.{the_same}
use Rattle.board_def.specs.LineOf.{line_of_row}
use Rattle.board_def.specs.Rules.{IsBoard}
use Rattle.board_def.specs.Seen.{BoardSeen}
use Rattle.board_play.specs.Hanging.{IsFirstHung as IsFirstOfLines, IsCaughtElsewhere as IsCaughtOnOther, MayBeDue as MayBeDueOn}
use Rattle.board_play.specs.Hanging.{NobodyMoves, IsUntouched as IsUntouchedLine}
use Rattle.board_play.specs.Kept.{AreKept}
use Rattle.board_play.specs.Lines.{BoardLine}
use Rattle.board_play.proofs.KeptAlways.{apart_kept}
use Rattle.board_play.proofs.Listed.{def_at}
use Rattle.board_play.proofs.Members.{find_there}
use Rattle.board_play.proofs.OfBoard.{valid_defs}
use Rattle.board_play.proofs.Rest.{waits, due, untouched_is_at_rest}
use Rattle.board_report.specs.Headline.{EachMapped}
use Rattle.board_report.specs.Hung.{IsFirstHung, IsCaughtElsewhere, MayBeDue, IsUntouched, LineBesideHung}
use Rattle.board_report.specs.Reporting.{entries_in, entries_of}
use Rattle.board_report.proofs.Kept.{of_row, legal_there}
use Rattle.board_report.proofs.Laid.{line_laid}
use Rattle.board_report.proofs.LineLaws.{keeps_laws, line_headline}
use Rattle.board_report.proofs.OfRows.{is_mapped_at}

-- the line whose definition stands there
record LineAt (lines : List BoardLine) (i : ℕ) (def : LineDef) : Type 0 where
  pub line : BoardLine
  pub at : slice_get lines i ≡ Some line
  pub is : line.def ≡ def

line_at : (lines : List BoardLine) (i : ℕ) (def : LineDef) → slice_get (map (λ (x : BoardLine). x.def) lines) i ≡ Some def → LineAt lines i def
line_at [] i def at = cc
line_at (x ∷ xs) zero def at = record { line = x; at = refl; is = the_same x.def def at }
line_at (x ∷ xs) (suc i) def at = let l = line_at xs i def at in record { line = l.line; at = l.at; is = l.is }

if_some : {A : Type 0} (P Q : A → Type 0) (o : Option A) → ((x : A) → P x → Q x) → IfSome o P → IfSome o Q
if_some P Q None f h = tt
if_some P Q (Some x) f h = f x h

module _ (b : BoardSeen) (board : IsBoard b) (lines : List BoardLine) (k : AreKept b lines) where
  past_there : (i : ℕ) (x : BoardLine) → slice_get lines i ≡ Some x → reverse (entries_in lines x.def.line) ≡ x.past
  past_there i x at =
      ap (λ (o : Option BoardLine). reverse (entries_of o)) (find_there lines (apart_kept b board lines k) i x at) ∙ reverse-reverse x.past

  -- ---- who hangs

  pub first_hung : (line : LineNo) (actor : Actor) → IsFirstOfLines lines line actor → IsFirstHung b (entries_in lines) line actor
  first_hung line actor f = record {
    place = f.place;
    def = f.of.def;
    at = def_at b lines k f.place f.of f.at;
    number = f.number;
    lowest = subst (λ (l : LineNo). IsLowestHungPast f.of.def (reverse (entries_in lines l)) (Some actor)) f.number
        (subst (λ (p : List Entry). IsLowestHungPast f.of.def p (Some actor)) (sym (past_there f.place f.of f.at)) f.lowest);
    before = λ i x a less at hung.
        let l = line_at lines i x (subst (λ (ds : List LineDef). slice_get ds i ≡ Some x) (sym k.defs) at) in
        f.before i l.line a less l.at
        (subst (λ (p : List Entry). IsHungPast l.line.def p a) (past_there i l.line l.at)
        (subst (λ (d : LineDef). IsHungPast d (reverse (entries_in lines d.line)) a) (sym l.is) hung));
  }

  abbrev Caught : LineNo → Actor → Type 0
  Caught line a = IsCaughtElsewhere b (entries_in lines) line a

  caught_elsewhere : (line : LineNo) (a : Actor) → IsCaughtOnOther lines line a → Caught line a
  caught_elsewhere line a c = record {
    place = c.place;
    def = c.of.def;
    at = def_at b lines k c.place c.of c.at;
    other = c.other;
    caught = subst (λ (p : List Entry). IsCaughtPast c.of.def p a) (sym (past_there c.place c.of c.at)) c.caught;
  }

  -- ---- what is left beside them

  module _ (i : ℕ) (x : BoardLine) (at : slice_get lines i ≡ Some x) where
    -- its entries, oldest first, are the past turned round
    turned : (P : List Entry → Type 0) → P x.past → P (reverse (reverse x.past))
    turned P p = subst P (sym (reverse-reverse x.past)) p

    back : (P : List Entry → Type 0) → P (reverse (reverse x.past)) → P x.past
    back P p = subst P (reverse-reverse x.past) p

    may_be_due : (a : Actor) (e : Entry) → MayBeDueOn lines x a e → MayBeDue x.def (reverse x.past) (Caught x.def.line) a e
    may_be_due (actors.Thread d) e may = may
    may_be_due (actors.Cpu c) e may = (caught_elsewhere x.def.line (actors.Cpu c) may.0, may.1)
    may_be_due (actors.Driver r) e may = caught_elsewhere x.def.line (actors.Driver r) may

    untouched : IsUntouched x.def (reverse x.past) (Caught x.def.line) → IsUntouchedLine lines x
    untouched u = record {
      here = λ a caught. u.here a (turned (λ (p : List Entry). IsCaughtPast x.def p a) caught);
      takes = if_some (λ (c : CpuNo). Caught x.def.line (actors.Cpu c) → ⊥) (λ (c : CpuNo). IsCaughtOnOther lines x.def.line (actors.Cpu c) → ⊥)
          (target x.def x.past) (λ c not caught. not (caught_elsewhere x.def.line (actors.Cpu c) caught))
          (back (λ (p : List Entry). IfSome (target x.def p) (λ (c : CpuNo). Caught x.def.line (actors.Cpu c) → ⊥)) u.takes);
      calls = λ r some caught. u.calls r (turned (λ (p : List Entry). IsSome (due_call x.def r p)) some)
          (caught_elsewhere x.def.line (actors.Driver r) caught);
    }

    beside : NobodyMoves b lines → IsValid x.def → IsLegal x.def (reverse x.past) → LineBesideHung x.def (reverse x.past) (Caught x.def.line)
    beside rest valid legal = record {
      laws = keeps_laws x.def (reverse x.past) valid legal;
      waits = λ a unfinished none. turned (λ (p : List Entry). IsCaughtPast x.def p a) (waits b lines board k rest i x a at
          (back (λ (p : List Entry). is_unfinished_actor x.def p a ≡ true) unfinished) (back (λ (p : List Entry). next_past x.def p a ≡ None) none));
      due = λ a e is. may_be_due a e (due b lines board k rest i x a e at (back (λ (p : List Entry). next_past x.def p a ≡ Some e) is));
      settled = λ u. line_headline x.def (reverse x.past) valid legal (untouched_is_at_rest b lines board k rest i x at (untouched u));
    }

  pub all_beside : NobodyMoves b lines
      → EachMapped b (λ row. LineBesideHung (line_of_row b row) (entries_in lines row.line) (IsCaughtElsewhere b (entries_in lines) row.line))
  all_beside rest i row virq path at laid =
      let h = line_laid b board lines k i row at (ap is_mapped_at laid) in
      of_row b board lines k (λ (def : LineDef) (es : List Entry). LineBesideHung def es (Caught def.line)) i row at h
      (beside h.place h.line h.at rest (valid_defs b board h.place h.line.def (def_at b lines k h.place h.line h.at))
      (legal_there b board lines k (line_of_row b row) h))
