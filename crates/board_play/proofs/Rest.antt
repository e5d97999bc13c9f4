-- What is left if none of the board's actors can move, as when a play is done: nothing, but for those who hang and
-- those whom they hold up.
use Rattle.std.proofs.Common.{◌≡◌, ℕ, true, Option, Some, None, List, [], ◌∷◌, reverse, slice_get, refl, ap, ◌∙◌, sym, subst, inl, inr}
use Rattle.std.proofs.lemmas.List.{reverse-reverse}
use Rattle.irq_base.specs.declared.entries.Actor.{Actor}
use Rattle.irq_base.specs.declared.entries.Actor.TheVariants as actors
use Rattle.irq_base.specs.declared.entries.Entry.{Entry}
use Rattle.irq_base.specs.declared.numbers.DriverNo.{DriverNo}
use Rattle.irq_model.specs.Legal.{IsLegalPast}
use Rattle.irq_model.specs.Next.{next_past}
use Rattle.irq_model.specs.Owed.{IsDelivered}
use Rattle.irq_model.specs.Settled.{IsSettled}
use Rattle.irq_model.specs.Waits.{IsAtRest, IsCaughtPast, is_unfinished_actor}
use Rattle.irq_laws.proofs.RestLaws.{at_rest_is_delivered, at_rest_is_settled}
use Rattle.play_laws.specs.Actors.{IsOneOf}
use Rattle.play_laws.proofs.Moves.{nobody_caught}
use Rattle.board_def.specs.Rules.{IsBoard}
use Rattle.board_def.specs.Seen.{BoardSeen}
use Rattle.board_play.specs.Current.{current_line}
use Rattle.board_play.specs.Hanging.{NobodyMoves, NobodyHangs, MayBeDue, IsUntouched}
use Rattle.board_play.specs.Kept.{AreKept}
use Rattle.board_play.specs.Lines.{BoardLine, Move, lines_of}
use Rattle.board_play.specs.Order.{due_move, actors_of}
use Rattle.board_play.specs.Play.{Done, or_move, first_move, with_picks, or_choice, choice, Plays}
use Rattle.board_play.proofs.KeptAlways.{play_keeps}
use Rattle.board_play.proofs.Listed.{all_rest, def_at}
use Rattle.board_play.proofs.Moves.{line_stands}
use Rattle.board_play.proofs.OfBoard.{valid_defs}
use Rattle.board_play.proofs.Standstill.{unfinished_wait, scripts_wait, still_due, untouched_rest, all_untouched}

-- ---- who hangs and who is held up

module _ (board : BoardSeen) (lines : List BoardLine) (is : IsBoard board) (k : AreKept board lines) (nobody : NobodyMoves board lines) where
  rest : (a : Actor) → due_move board lines a ≡ None
  rest = all_rest board is (valid_defs board is) lines k nobody

  pub waits : (i : ℕ) (x : BoardLine) (a : Actor) → slice_get lines i ≡ Some x → is_unfinished_actor x.def x.past a ≡ true
      → next_past x.def x.past a ≡ None → IsCaughtPast x.def x.past a
  waits = unfinished_wait board is (valid_defs board is) lines k rest

  pub scripts : (r : DriverNo) (x : BoardLine) → current_line board.calls lines r ≡ Some x → IsCaughtPast x.def x.past (actors.Driver r)
  scripts = scripts_wait board is (valid_defs board is) lines k rest

  pub due : (i : ℕ) (x : BoardLine) (a : Actor) (e : Entry) → slice_get lines i ≡ Some x → next_past x.def x.past a ≡ Some e → MayBeDue lines x a e
  due = still_due board is (valid_defs board is) lines k rest

  pub untouched_is_at_rest : (i : ℕ) (x : BoardLine) → slice_get lines i ≡ Some x → IsUntouched lines x → IsAtRest x.def (reverse x.past)
  untouched_is_at_rest = untouched_rest board is (valid_defs board is) lines k rest

  -- ---- where nobody hangs

  pub scripts_are_complete : NobodyHangs lines → (r : DriverNo) → current_line board.calls lines r ≡ None
  scripts_are_complete unhung r = by_line (current_line board.calls lines r) refl
    where
      by_line : (o : Option BoardLine) → current_line board.calls lines r ≡ o → current_line board.calls lines r ≡ None
      by_line None none = none
      by_line (Some x) its =
          let s = line_stands board lines (actors.Driver r) x its in
          absurd (nobody_caught x.def x.past (λ a. unhung s.place x a s.at) (actors.Driver r) (scripts r x its))

  pub lines_are_at_rest : NobodyHangs lines → (i : ℕ) (x : BoardLine) → slice_get lines i ≡ Some x → IsAtRest x.def (reverse x.past)
  lines_are_at_rest unhung i x at = untouched_is_at_rest i x at (all_untouched lines unhung i x at)

  pub lines_are_settled : NobodyHangs lines → (i : ℕ) (x : BoardLine) → slice_get lines i ≡ Some x → IsSettled x.def (reverse x.past)
  lines_are_settled unhung i x at = at_rest_is_settled x.def (reverse x.past) (lines_are_at_rest unhung i x at)

-- ---- a play that is done

none_first : (a b : Option Move) → or_move a b ≡ None → (a ≡ None) × (b ≡ None)
none_first None b h = (refl, h)
none_first (Some m) b h = cc

none_listed : (board : BoardSeen) (lines : List BoardLine) (all : List Actor) (a : Actor)
    → first_move board lines all ≡ None → IsOneOf a all → due_move board lines a ≡ None
none_listed board lines [] a h at = absurd at
none_listed board lines (x ∷ xs) a h at =
    let both = none_first (due_move board lines x) (first_move board lines xs) h in
    elim at [ inl here ↦ ap (λ (b : Actor). due_move board lines b) here ∙ both.0 | inr there ↦ none_listed board lines xs a both.1 there ]

no_picks : (picks : List Actor) (o : Option Move) → with_picks picks o ≡ None → o ≡ None
no_picks picks None h = refl
no_picks picks (Some m) h = cc

none_either : (a b : Option (Move × List Actor)) → or_choice a b ≡ None → b ≡ None
none_either None b h = h
none_either (Some c) b h = cc

none_left : (board : BoardSeen) (lines : List BoardLine) (left : List Actor) → choice board lines left ≡ None → first_move board lines (actors_of board) ≡ None
none_left board lines [] h = no_picks [] (first_move board lines (actors_of board)) h
none_left board lines (pick ∷ picks) h = none_left board lines picks (none_either (with_picks picks (due_move board lines pick)) (choice board lines picks) h)

pub done_rests : (board : BoardSeen) (picks : List Actor) (g : List Move) → Plays board picks g Done → (a : Actor)
    → IsOneOf a (actors_of board) → due_move board (lines_of board g) a ≡ None
done_rests board picks g plays a at = none_listed board (lines_of board g) (actors_of board) a (none_left board (lines_of board g) plays.0 plays.2) at

module _ (board : BoardSeen) (picks : List Actor) (g : List Move) (is : IsBoard board) (plays : Plays board picks g Done)
    (unhung : NobodyHangs (lines_of board g)) where
  kept : AreKept board (lines_of board g)
  kept = play_keeps board picks g Done is plays

  pub done_is_complete : (r : DriverNo) → current_line board.calls (lines_of board g) r ≡ None
  done_is_complete = scripts_are_complete board (lines_of board g) is kept (done_rests board picks g plays) unhung

  pub done_is_at_rest : (i : ℕ) (x : BoardLine) → slice_get (lines_of board g) i ≡ Some x → IsAtRest x.def (reverse x.past)
  done_is_at_rest = lines_are_at_rest board (lines_of board g) is kept (done_rests board picks g plays) unhung

  pub done_is_settled : (i : ℕ) (x : BoardLine) → slice_get (lines_of board g) i ≡ Some x → IsSettled x.def (reverse x.past)
  done_is_settled = lines_are_settled board (lines_of board g) is kept (done_rests board picks g plays) unhung

  pub done_is_delivered : (i : ℕ) (x : BoardLine) → slice_get (lines_of board g) i ≡ Some x → IsDelivered x.def (reverse x.past)
  done_is_delivered i x at =
      at_rest_is_delivered x.def (reverse x.past) (valid_defs board is i x.def (def_at board (lines_of board g) kept i x at))
      (subst (λ (p : List Entry). IsLegalPast x.def p) (sym (reverse-reverse x.past)) (kept.legal i x at)) (done_is_at_rest i x at)
