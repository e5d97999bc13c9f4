-- A line whose history has the greatest length, and on which an entry is due.
use Rattle.std.proofs.Common.{◌≡◌, ℕ, IsSome, Option, Some, None, List, [], length, reverse, refl, sym, ap, ◌∙◌, subst}
use Rattle.std.proofs.lemmas.List.{length-reverse, reverse-reverse}
use Rattle.irq_base.specs.declared.entries.Actor.{Actor}
use Rattle.irq_base.specs.declared.entries.Entry.{Entry}
use Rattle.irq_base.specs.declared.lines.LineDef.{LineDef}
use Rattle.irq_base.specs.declared.numbers.LineNo.{LineNo}
use Rattle.irq_model.specs.Next.{next_past, next}
use Rattle.board_core.specs.Turns.{HasLength}
use Rattle.board_def.specs.Rules.{IsBoard}
use Rattle.board_def.specs.Seen.{BoardSeen}
use Rattle.board_play.specs.Kept.{AreKept}
use Rattle.board_play.specs.Lines.{BoardLine, Move, find_line}
use Rattle.board_play.specs.Order.{actors_of, due_move, due_on, move_on}
use Rattle.board_play.specs.Play.{first_move, with_picks}
use Rattle.board_play.proofs.KeptAlways.{apart_kept}
use Rattle.board_play.proofs.Listed.{def_at}
use Rattle.board_play.proofs.Members.{find_there, found}
use Rattle.board_play.proofs.Moves.{choice_is, moves_on}
use Rattle.board_play.proofs.OfBoard.{def_of_row}
use Rattle.board_report.specs.Headline.{IsFullLine}
use Rattle.board_report.specs.Moving.{HasNoRoom}
use Rattle.board_report.specs.Reporting.{entries_in, entries_of}

-- a move has an entry
entry_due : (line : LineNo) (o : Option Entry) → IsSome (move_on line o) → IsSome o
entry_due line None due = due
entry_due line (Some e) due = refl

module _ (b : BoardSeen) (board : IsBoard b) (lines : List BoardLine) (k : AreKept b lines) (line : LineNo) (len : ℕ) where
  module _ (h : HasNoRoom b lines line len) where
    of_line : (x : BoardLine) → find_line lines line ≡ Some x → IsFullLine b (entries_in lines) line len
    of_line x is =
        let f = found lines line x is in
        let o = def_of_row b f.place x.def (def_at b lines k f.place x f.at) in
        let number : x.def.line ≡ line = sym f.number in
        let entries : entries_in lines line ≡ reverse x.past = ap entries_of is in
        let past : reverse (entries_in lines line) ≡ x.past = ap (λ (es : List Entry). reverse es) entries ∙ reverse-reverse x.past in
        let due : IsSome (next_past x.def x.past h.actor)
        = entry_due x.def.line (next_past x.def x.past h.actor)
        (subst (λ (o : Option BoardLine). IsSome (due_on o h.actor)) is h.due) in
        let there : IsSome (next x.def (entries_in lines line) h.actor) = subst (λ (p : List Entry). IsSome (next_past x.def p h.actor)) (sym past) due in
        record {
          place = o.place;
          row = o.row;
          at = o.at;
          number = ap (λ (def : LineDef). def.line) o.is ∙ number;
          length_is = ap (λ (es : List Entry). length es) entries ∙ (length-reverse x.past ∙ subst (λ (p : Option BoardLine). HasLength p len) is h.length);
          limit_is = h.limit;
          actor = h.actor;
          due = subst (λ (def : LineDef). IsSome (next def (entries_in lines line) h.actor)) (sym o.is) there;
        }

    pub full_line : IsFullLine b (entries_in lines) line len
    full_line = by_line (find_line lines line) refl
      where
        by_line : (o : Option BoardLine) → find_line lines line ≡ o → IsFullLine b (entries_in lines) line len
        by_line None is = let none : IsSome (due_on None h.actor) = subst (λ (o : Option BoardLine). IsSome (due_on o h.actor)) is h.due in cc
        by_line (Some x) is = of_line x is

  module _ (m : Move) (at : m.0 ≡ line) (long : HasLength (find_line lines line) len) (limit : len ≡ b.log) where
    -- the actor's move is on it
    pub no_room : (a : Actor) → due_move b lines a ≡ Some m → HasNoRoom b lines line len
    no_room a moves =
        let on = moves_on b lines a m moves in
        let x : BoardLine = on.line in
        let number : x.def.line ≡ line = sym on.number ∙ at in
        let found : find_line lines line ≡ Some x = ap (λ (l : LineNo). find_line lines l) (sym number)
        ∙ find_there lines (apart_kept b board lines k) on.place x on.at in
        let due : IsSome (move_on x.def.line (next_past x.def x.past a)) = subst (λ (o : Option Entry). IsSome (move_on x.def.line o)) (sym on.due) refl in
        record { actor = a; due = subst (λ (o : Option BoardLine). IsSome (due_on o a)) (sym found) due; length = long; limit = limit }

    -- the lowest move is
    pub no_room_first : first_move b lines (actors_of b) ≡ Some m → HasNoRoom b lines line len
    no_room_first first =
        let who = choice_is b lines [] m [] (ap (λ (o : Option Move). with_picks [] o) first) in
        no_room who.actor who.moves
