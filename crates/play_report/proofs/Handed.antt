-- A play by an order that has ended, and what its reports hand out.
use Rattle.std.proofs.Common.{◌≡◌, ℕ, IsSome, Option, Some, List, length, reverse, refl, sym, ap, ◌∙◌, subst, Result, Ok, Err}
use Rattle.irq_line.specs.declared.answers.StepRefused.TheVariants as refusals
use Rattle.irq_line.specs.declared.answers.StepRefused.{StepRefused}
use Rattle.irq_base.specs.declared.entries.Actor.{Actor}
use Rattle.irq_base.specs.declared.entries.Entry.{Entry}
use Rattle.irq_base.specs.declared.numbers.LineNo.{LineNo}
use Rattle.irq_base.specs.declared.reporting.LineReport.{LineReport}
use Rattle.irq_model.specs.Next.{next_past}
use Rattle.board_core.specs.Turns.{HasLength}
use Rattle.board_core.specs.declared.ends.PlayEnd.{PlayEnd}
use Rattle.board_core.specs.declared.ends.PlayEnd.TheVariants as ends
use Rattle.board_def.specs.Seen.{BoardSeen}
use Rattle.board_play.specs.Hanging.{IsFirstHung, NobodyHangs}
use Rattle.board_play.specs.Lines.{BoardLine, defs_of, find_line, part}
use Rattle.board_play.specs.Order.{due_on, move_on}
use Rattle.board_play.specs.Play.{Full}
use Rattle.board_play.proofs.KeptAlways.{apart_kept}
use Rattle.board_play.proofs.Members.{find_there, past_at}
use Rattle.board_report.specs.Headline.{FullLog, Headline, SoFar}
use Rattle.board_report.specs.Hung.{HungBoard}
use Rattle.board_report.specs.Moving.{AreAtRest, HasNoRoom}
use Rattle.board_report.specs.Reporting.{entries_in}
use Rattle.board_play.specs.Orders.{IsPlayed, Order, moves_in}
use Rattle.play_report.specs.Ordered.{HandsOut, lines_after}
use Rattle.play_report.proofs.Scenario.{IsEnd, IsScenario}

-- what reports of lines as they stand tell
pub record Reported (b : BoardSeen) (lines : List BoardLine) (reports : List LineReport) : Type 0 where
  pub so_far : SoFar b (entries_in lines) reports
  pub done : AreAtRest b lines → NobodyHangs lines → Headline b (entries_in lines) reports
  pub hung : (line : LineNo) (actor : Actor) → AreAtRest b lines → IsFirstHung lines line actor → HungBoard b (entries_in lines) reports line actor
  pub full : (line : LineNo) (len : ℕ) → HasNoRoom b lines line len → FullLog b (entries_in lines) reports line len

module _ {S E : Type 0} (b : BoardSeen) (o : Order S E) (first : S) (Keeps : List E → Type 0) (g : List E) (s : IsScenario b o first Keeps g) where
  -- the line that is full has an entry due
  no_room : (line : LineNo) (len : ℕ) → IsPlayed o first (reverse g) (Full line) → length (part line (moves_in o (reverse g))) ≡ len
      → HasNoRoom b (lines_after b o g) line len
  no_room line len p its =
      let f = p.2 in
      let ls = lines_after b o g in
      let on = s.moves (reverse g) p.0 f.after f.step f.move f.next_is f.tells in
      let number : on.of.def.line ≡ line = on.number ∙ f.of_line in
      let found : find_line ls line ≡ Some on.of = ap (λ (l : LineNo). find_line ls l) (sym number)
      ∙ find_there ls (apart_kept b s.board ls (s.kept p.0 p.1)) on.place on.of on.at in
      let long : length on.of.past ≡ len = ap (λ (es : List Entry). length es)
      (past_at (defs_of b) (moves_in o (reverse g)) on.place on.of on.at ∙ ap (λ (l : LineNo). part l (moves_in o (reverse g))) number) ∙ its in
      let due : IsSome (move_on on.of.def.line (next_past on.of.def on.of.past on.actor))
      = subst (λ (e : Option Entry). IsSome (move_on on.of.def.line e)) (sym on.due) refl in
      record {
        actor = on.actor;
        due = subst (λ (x : Option BoardLine). IsSome (due_on x on.actor)) (sym found) due;
        length = subst (λ (x : Option BoardLine). HasLength x len) (sym found) long;
        limit = sym its ∙ (f.is_long ∙ s.limit);
      }

  -- the reports of the lines as the play left them hand it out
  pub handed_out : (lines : List BoardLine) → lines ≡ lines_after b o g → (reports : List LineReport) → Reported b lines reports
      → (end : Result PlayEnd StepRefused) → IsEnd b o first g end → HandsOut b o first Keeps g end reports
  handed_out lines are reports told end is = by_end end is (subst (λ (ls : List BoardLine). Reported b ls reports) are told)
    where
      by_end : (end : Result PlayEnd StepRefused) → IsEnd b o first g end → Reported b (lines_after b o g) reports → HandsOut b o first Keeps g end reports
      by_end (Ok ends.Settled) p r = record { play = p.0; keeps = s.keeps p.0.0 p.0.1; lines = r.done (s.rests p.0) p.1 }
      by_end (Ok (ends.Hung line actor)) p r = record { play = p.0; keeps = s.keeps p.0.0 p.0.1; lines = r.hung line actor (s.rests p.0) p.1 }
      by_end (Err (refusals.Full line len)) p r =
          record { play = p.0; keeps = s.keeps p.0.0 p.0.1; lines = r.full line len (no_room line len p.0 p.1) }
      by_end (Err refusals.NoMemory) p r = record { at = p.0; so_far = p.1; further = p.2; keeps = s.keeps p.0 p.1; lines = r.so_far }
