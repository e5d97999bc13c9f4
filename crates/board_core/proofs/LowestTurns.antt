-- Turns of the lowest actor that can move: a play after its picks, and a settling.
use Rattle.std.proofs.Common.{◌≡◌, ℕ, ◌<◌, IsSome, Option, Result, Ok, Err}
use Rattle.std.proofs.Common.{Some, None, List, [], ◌∷◌, ◌++◌, reverse, refl, sym, ap, ◌∙◌, subst}
use Rattle.std.proofs.lemmas.List.{append-nil, append_assoc, reverse-append}
use Rattle.irq_line.specs.declared.answers.StepRefused.TheVariants as refusals
use Rattle.irq_line.specs.declared.answers.StepRefused.{StepRefused}
use Rattle.irq_base.specs.declared.entries.Actor.{Actor}
use Rattle.irq_base.specs.declared.entries.Entry.{Entry}
use Rattle.irq_base.specs.declared.numbers.LineNo.{LineNo}
use Rattle.board_def.specs.Seen.{BoardSeen}
use Rattle.board_play.specs.Lines.{BoardLine, Move, lines_after}
use Rattle.board_play.specs.Play.{with_picks, choice}
use Rattle.board_core.specs.Playing.{IsUnderway, IsPlay, Ends, IsLowestMove, Settles}
use Rattle.board_core.specs.Seen.{SystemSeen, board_lines}
use Rattle.board_core.specs.Turns.{Moves, IsFullFor, IsRefused, TurnsBy, lowest_move}
use Rattle.board_core.specs.declared.turns.Turn.{Turn}
use Rattle.board_core.specs.declared.turns.Turn.TheVariants as turns
use Rattle.board_core.proofs.Room.{room_of, room_of_moved}
use Rattle.board_core.proofs.Underway.{more, is_full, refused}

pub lowest_next : (s : SystemSeen) (m : Move) → lowest_move s ≡ Some m → choice s.board (board_lines s.lines) [] ≡ Some (m, [])
lowest_next s m is = ap (λ (o : Option Move). with_picks [] o) is

-- a turn of the lowest actor that can move
pub record LowestTurn (old new : SystemSeen) : Type 0 where
  pub turn : Result Turn StepRefused
  pub turns : TurnsBy old (lowest_move old) turn new

abbrev pub lowest_turn : {old new : SystemSeen} (turn : Result Turn StepRefused) → TurnsBy old (lowest_move old) turn new → LowestTurn old new
lowest_turn turn turns = record { turn = turn; turns = turns }

same_board : (old new : SystemSeen) (due : Option Move) (turn : Result Turn StepRefused) → TurnsBy old due turn new → new.board ≡ old.board
same_board old new due (Ok (turns.Moved line e)) t = t.board
same_board old new due (Ok turns.NotYet) t = ap (λ (s : SystemSeen). s.board) t.1
same_board old new due (Err (refusals.Full line len)) t = ap (λ (s : SystemSeen). s.board) t.1
same_board old new due (Err refusals.NoMemory) t = ap (λ (s : SystemSeen). s.board) t.1

same_layout : (old new : SystemSeen) (due : Option Move) (turn : Result Turn StepRefused) → TurnsBy old due turn new → new.layout ≡ old.layout
same_layout old new due (Ok (turns.Moved line e)) t = t.layout
same_layout old new due (Ok turns.NotYet) t = ap (λ (s : SystemSeen). s.layout) t.1
same_layout old new due (Err (refusals.Full line len)) t = ap (λ (s : SystemSeen). s.layout) t.1
same_layout old new due (Err refusals.NoMemory) t = ap (λ (s : SystemSeen). s.layout) t.1

module _ {old new : SystemSeen} (t : LowestTurn old new) where
  -- what holds if that was answered
  pub answered : (turn : Result Turn StepRefused) → t.turn ≡ turn → TurnsBy old (lowest_move old) turn new
  answered turn same = subst (λ (x : Result Turn StepRefused). TurnsBy old (lowest_move old) x new) same t.turns

  pub lowest_keeps_board : new.board ≡ old.board
  lowest_keeps_board = same_board old new (lowest_move old) t.turn t.turns

  pub lowest_keeps_layout : new.layout ≡ old.layout
  lowest_keeps_layout = same_layout old new (lowest_move old) t.turn t.turns

  -- ---- of a play that is underway

  pub lowest_moved : {picks : List Actor} {line : LineNo} {e : Entry} → IsUnderway old picks [] → t.turn ≡ Ok (turns.Moved line e) → IsUnderway new picks []
  lowest_moved {picks} {line} {e} u same =
      let moves : Moves old (lowest_move old) (line, e) new = answered (Ok (turns.Moved line e)) same in
      more old new (lowest_move old) (line, e) picks [] [] u moves (lowest_next old (line, e) moves.is)

  pub lowest_done : {picks : List Actor} → IsUnderway old picks [] → t.turn ≡ Ok turns.NotYet → IsPlay new picks (Ok tt)
  lowest_done {picks} u same =
      let rests : (lowest_move old ≡ None) × (new ≡ old) = answered (Ok turns.NotYet) same in
      let none : choice old.board (board_lines old.lines) [] ≡ None = ap (λ (o : Option Move). with_picks [] o) rests.0 in
      subst (λ (s : SystemSeen). IsPlay s picks (Ok tt)) (sym rests.1)
      (u.left, u.chosen, ap (λ (ls : List BoardLine). choice old.board ls u.left) (sym u.lines) ∙ (u.next ∙ none))

  pub lowest_full : {picks : List Actor} {line : LineNo} {len : ℕ} → IsUnderway old picks [] → t.turn ≡ Err (refusals.Full line len)
      → IsPlay new picks (Err (refusals.Full line len))
  lowest_full {picks} {line} {len} u same =
      let full : IsFullFor old (lowest_move old) line len × (new ≡ old) = answered (Err (refusals.Full line len)) same in
      subst (λ (s : SystemSeen). IsPlay s picks (Err (refusals.Full line len))) (sym full.1)
      (is_full old picks [] [] (lowest_move old) line len u full.0 (λ m is. lowest_next old m is))

  pub lowest_refused : {picks : List Actor} → IsUnderway old picks [] → t.turn ≡ Err refusals.NoMemory → IsPlay new picks (Err refusals.NoMemory)
  lowest_refused {picks} u same =
      let wanted : IsSome (lowest_move old) × (new ≡ old) = answered (Err refusals.NoMemory) same in
      subst (λ (s : SystemSeen). IsPlay s picks (Err refusals.NoMemory)) (sym wanted.1) (refused old picks [] u wanted.0)

  -- the play ended at that refusal
  stopped_by : {picks : List Actor} (by : StepRefused) → IsUnderway old picks [] → t.turn ≡ Err by → IsPlay new picks (Err by)
  stopped_by (refusals.Full line len) u same = lowest_full u same
  stopped_by refusals.NoMemory u same = lowest_refused u same

  pub lowest_stopped : {picks : List Actor} {by : StepRefused} {end : Result Unit StepRefused} → IsUnderway old picks [] → t.turn ≡ Err by
      → end ≡ Err by → IsPlay new picks end
  lowest_stopped {picks} {by} u same is = subst (λ (e : Result Unit StepRefused). IsPlay new picks e) (sym is) (stopped_by by u same)

  -- ---- of the lowest actors alone

  pub ends_stopped : {by : StepRefused} {end : Result Unit StepRefused} → t.turn ≡ Err by → end ≡ Err by → Ends new end
  ends_stopped {by} same is =
      let refused : IsRefused old (lowest_move old) by × (new ≡ old) = answered (Err by) same in
      subst (λ (e : Result Unit StepRefused). Ends new e) (sym is) (subst (λ (s : SystemSeen). Ends s (Err by)) (sym refused.1) refused.0)

  pub same_stopped : {by : StepRefused} → t.turn ≡ Err by → new ≡ old
  same_stopped {by} same = (answered (Err by) same).1

  pub settles_moved : {first : SystemSeen} {line : LineNo} {e : Entry} → old.board ≡ first.board → t.turn ≡ Ok (turns.Moved line e)
      → Settles first old → Settles first new
  settles_moved {first} {line} {e} board same s =
      let m : Move = (line, e) in
      let moves : Moves old (lowest_move old) m new = answered (Ok (turns.Moved line e)) same in
      let here : IsLowestMove old.board (board_lines old.lines) m = record { is = moves.is; room = moves.room } in
      let more : reverse (m ∷ s.moves) ≡ reverse s.moves ++ m ∷ [] = reverse-append (m ∷ []) s.moves in
      record {
        moves = m ∷ s.moves;
        lowest = (
          s.lowest,
          subst (λ (ls : List BoardLine). IsLowestMove first.board ls m) s.lines
              (subst (λ (b : BoardSeen). IsLowestMove b (board_lines old.lines) m) board here),
        );
        log = moves.log ∙ (ap (λ (g : List Move). g ++ m ∷ []) s.log
            ∙ (append_assoc first.log (reverse s.moves) (m ∷ []) ∙ ap (λ (g : List Move). first.log ++ g) (sym more)));
        lines = moves.lines ∙ ap (λ (ls : List BoardLine). lines_after m ls) s.lines;
      }

  pub room_falls : {line : LineNo} {e : Entry} → t.turn ≡ Ok (turns.Moved line e) → room_of new < room_of old
  room_falls {line} {e} same = room_of_moved old new (line, e) (answered (Ok (turns.Moved line e)) same)

pub settles_none : (s : SystemSeen) → Settles s s
settles_none s = record { moves = []; lowest = tt; log = sym (append-nil s.log); lines = refl }

pub settles_same : {first old new : SystemSeen} → new ≡ old → Settles first old → Settles first new
settles_same {first} same s = subst (λ (x : SystemSeen). Settles first x) (sym same) s
