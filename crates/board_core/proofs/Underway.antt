-- A play of a system, move by move.
use Rattle.std.proofs.Common.{◌≡◌, ℕ, ◌+◌, ◌<◌, is_some, IsSome, IsSomeAnd, Option, Result, Ok, Err}
use Rattle.std.proofs.Common.{Some, None, List, [], ◌∷◌, length, reverse, get_or, drop, refl, sym, ap, ◌∙◌, subst}
use Rattle.std.proofs.Common.{add-one}
use Rattle.std.proofs.Math.Seq.{drop-cons}
use Rattle.std.proofs.lemmas.List.{reverse-append}
use Rattle.irq_line.specs.declared.answers.StepRefused.TheVariants as refusals
use Rattle.irq_line.specs.declared.answers.StepRefused.{StepRefused}
use Rattle.irq_base.specs.declared.entries.Actor.{Actor}
use Rattle.irq_base.specs.declared.entries.Entry.{Entry}
use Rattle.irq_base.specs.declared.numbers.LineNo.{LineNo}
use Rattle.board_def.specs.Seen.{BoardSeen}
use Rattle.board_play.specs.Lines.{BoardLine, Move, part, defs_of, lines_of, lines_after, find_line}
use Rattle.board_play.specs.Play.{with_picks, or_choice, choice, IsChosen}
use Rattle.board_play.proofs.Members.{found, past_at}
use Rattle.board_play.proofs.Moving.{lines_more}
use Rattle.board_core.specs.Playing.{IsFresh, IsUnderway, IsPlay}
use Rattle.board_core.specs.Seen.{SystemSeen, board_lines}
use Rattle.board_core.specs.Turns.{move_of, Moves, IsFullFor, MayWant, Turns, lowest_move}
use Rattle.board_core.specs.declared.turns.Turn.{Turn}
use Rattle.board_core.specs.declared.turns.Turn.TheVariants as turns

pub fresh : (s : SystemSeen) (picks : List Actor) → IsFresh s → IsUnderway s picks picks
fresh s picks f =
    let none : reverse s.log ≡ [] = ap (λ (g : List Move). reverse g) f.log in
    record {
      lines = f.lines ∙ ap (λ (g : List Move). lines_of s.board g) (sym none);
      left = picks;
      chosen = subst (λ (g : List Move). IsChosen s.board picks g picks) (sym none) refl;
      next = refl;
    }

-- if nothing has changed the lines are still as the moves left them
pub as_left : {old new : SystemSeen} {picks rest : List Actor} → new ≡ old → IsUnderway old picks rest
    → board_lines new.lines ≡ lines_of new.board (reverse new.log)
as_left same u = subst (λ (s : SystemSeen). board_lines s.lines ≡ lines_of s.board (reverse s.log)) (sym same) u.lines

-- what a line has is its part of the moves
part_of : (board : BoardSeen) (g : List Move) (line : LineNo) (P : List Entry → Type 0) (o : Option BoardLine)
    → find_line (lines_of board g) line ≡ o → IsSomeAnd o (λ x. P x.past) → P (part line g)
part_of board g line P None is h = absurd h
part_of board g line P (Some x) is h =
    let f = found (lines_of board g) line x is in
    subst (λ (past : List Entry). P past) (past_at (defs_of board) g f.place x f.at ∙ ap (λ (l : LineNo). part l g) (sym f.number)) h

pub part_in : (s : SystemSeen) (line : LineNo) (P : List Entry → Type 0)
    → board_lines s.lines ≡ lines_of s.board (reverse s.log)
    → IsSomeAnd (find_line (board_lines s.lines) line) (λ x. P x.past) → P (part line (reverse s.log))
part_in s line P is h =
    part_of s.board (reverse s.log) line P (find_line (lines_of s.board (reverse s.log)) line) refl
    (subst (λ (ls : List BoardLine). IsSomeAnd (find_line ls line) (λ x. P x.past)) is h)

-- one more move
pub more : (old new : SystemSeen) (due : Option Move) (m : Move) (picks rest after : List Actor) → IsUnderway old picks rest
    → Moves old due m new → choice old.board (board_lines old.lines) rest ≡ Some (m, after) → IsUnderway new picks after
more old new due m picks rest after u moves is =
    let g : List Move = reverse old.log in
    let log : reverse new.log ≡ m ∷ g = ap (λ (g : List Move). reverse g) moves.log ∙ reverse-append old.log (m ∷ []) in
    let room : length (part m.0 g) < old.board.log = part_in old m.0 (λ past. length past < old.board.log) u.lines moves.room in
    let next : choice old.board (lines_of old.board g) u.left
    ≡ Some (m, after) = ap (λ (ls : List BoardLine). choice old.board ls u.left) (sym u.lines) ∙ (u.next ∙ is) in
    let chosen : IsChosen old.board picks (m ∷ g) after = (u.left, u.chosen, next, room) in
    let lines : board_lines new.lines ≡ lines_of old.board (m ∷ g) =
    moves.lines ∙ (ap (λ (ls : List BoardLine). lines_after m ls) u.lines ∙ sym (lines_more (defs_of old.board) m g)) in
    record {
      lines = lines ∙ (ap (λ (h : List Move). lines_of old.board h) (sym log) ∙ ap (λ (b : BoardSeen). lines_of b (reverse new.log)) (sym moves.board));
      left = after;
      chosen = subst (λ (b : BoardSeen). IsChosen b picks (reverse new.log) after) (sym moves.board)
          (subst (λ (h : List Move). IsChosen old.board picks h after) (sym log) chosen);
      next = refl;
    }

-- ---- picks

pub with_move : (s : SystemSeen) (pick : Actor) (rest : List Actor) (m : Move) → move_of s pick ≡ Some m
    → choice s.board (board_lines s.lines) (pick ∷ rest) ≡ Some (m, rest)
with_move s pick rest m due = ap (λ (o : Option Move). or_choice (with_picks rest o) (choice s.board (board_lines s.lines) rest)) due

passed_over : (s : SystemSeen) (pick : Actor) (rest : List Actor) → move_of s pick ≡ None
    → choice s.board (board_lines s.lines) (pick ∷ rest) ≡ choice s.board (board_lines s.lines) rest
passed_over s pick rest due = ap (λ (o : Option Move). or_choice (with_picks rest o) (choice s.board (board_lines s.lines) rest)) due

-- the pick of a place comes next
pub at_pick : (s : SystemSeen) (picks : List Actor) (i : ℕ) (d : Actor) → i < length picks
    → IsUnderway s picks (drop i picks) → IsUnderway s picks (get_or picks i d ∷ drop (i + 1) picks)
at_pick s picks i d within u =
    let next : drop i picks ≡ get_or picks i d ∷ drop (i + 1) picks = drop-cons picks i d within
    ∙ ap (λ (n : ℕ). get_or picks i d ∷ drop n picks) (sym (add-one i)) in
    subst (λ (rest : List Actor). IsUnderway s picks rest) next u

-- a full line ends the play
pub is_full : (s : SystemSeen) (picks rest after : List Actor) (due : Option Move) (line : LineNo) (len : ℕ)
    → IsUnderway s picks rest → IsFullFor s due line len
    → ((m : Move) → due ≡ Some m → choice s.board (board_lines s.lines) rest ≡ Some (m, after))
    → IsPlay s picks (Err (refusals.Full line len))
is_full s picks rest after due line len u full next =
    let told : length (part line (reverse s.log)) ≡ len = part_in s line (λ past. length past ≡ len) u.lines full.length in (
      (
        u.left,
        u.chosen,
        record {
          move = full.move;
          after = after;
          next = ap (λ (ls : List BoardLine). choice s.board ls u.left) (sym u.lines) ∙ (u.next ∙ next full.move full.is);
          of_line = full.of_line;
          length = told ∙ full.log;
        },
      ),
      told,
    )

-- if somebody can move there is a next move, whatever picks are left
pub some_choice : (s : SystemSeen) (picks : List Actor) → IsSome (lowest_move s) → IsSome (choice s.board (board_lines s.lines) picks)
some_choice s [] some = by_move (lowest_move s) some
  where
    by_move : (o : Option Move) → IsSome o → IsSome (with_picks [] o)
    by_move None some = some_none some
      where
        some_none : IsSome {T = Move} None → IsSome (with_picks [] None)
        some_none h = cc
    by_move (Some m) some = refl
some_choice s (pick ∷ picks) some = by_pick (move_of s pick) (some_choice s picks some)
  where
    by_pick : (o : Option Move) → IsSome (choice s.board (board_lines s.lines) picks)
        → IsSome (or_choice (with_picks picks o) (choice s.board (board_lines s.lines) picks))
    by_pick None deeper = deeper
    by_pick (Some m) deeper = refl

-- memory was refused, and there was a next move
pub refused : (s : SystemSeen) (picks rest : List Actor) → IsUnderway s picks rest → IsSome (lowest_move s) → IsPlay s picks (Err refusals.NoMemory)
refused s picks rest u some =
    let next : IsSome (choice s.board (board_lines s.lines) u.left) = ap (λ (o : Option (Move × List Actor)). is_some o) u.next ∙ some_choice s rest some in
    (u.left, u.chosen, subst (λ (ls : List BoardLine). IsSome (choice s.board ls u.left)) u.lines next)

-- ---- board and layout stay

turn_same_board : (old new : SystemSeen) (a : Actor) (turn : Result Turn StepRefused) → Turns old a turn new → new.board ≡ old.board
turn_same_board old new a (Ok (turns.Moved line e)) t = t.board
turn_same_board old new a (Ok turns.NotYet) t = ap (λ (s : SystemSeen). s.board) t.1
turn_same_board old new a (Err (refusals.Full line len)) t = ap (λ (s : SystemSeen). s.board) t.1
turn_same_board old new a (Err refusals.NoMemory) t = ap (λ (s : SystemSeen). s.board) t.1

turn_same_layout : (old new : SystemSeen) (a : Actor) (turn : Result Turn StepRefused) → Turns old a turn new → new.layout ≡ old.layout
turn_same_layout old new a (Ok (turns.Moved line e)) t = t.layout
turn_same_layout old new a (Ok turns.NotYet) t = ap (λ (s : SystemSeen). s.layout) t.1
turn_same_layout old new a (Err (refusals.Full line len)) t = ap (λ (s : SystemSeen). s.layout) t.1
turn_same_layout old new a (Err refusals.NoMemory) t = ap (λ (s : SystemSeen). s.layout) t.1

-- ---- a pick's turn

-- the turn of the pick at a place of a play that is underway
pub record PickTurn (old new : SystemSeen) (picks : List Actor) (i : ℕ) : Type 0 where
  -- where there is no pick
  pub other : Actor
  pub turn : Result Turn StepRefused
  pub within : i < length picks
  pub underway : IsUnderway old picks (drop i picks)
  pub turns : Turns old (get_or picks i other) turn new

abbrev pub pick_turn : {old new : SystemSeen} {picks : List Actor} {i : ℕ} (other : Actor) (turn : Result Turn StepRefused) → i < length picks
    → IsUnderway old picks (drop i picks) → Turns old (get_or picks i other) turn new → PickTurn old new picks i
pick_turn other turn within underway turns =
    record { other = other; turn = turn; within = within; underway = underway; turns = turns }

module _ {old new : SystemSeen} {picks : List Actor} {i : ℕ} (t : PickTurn old new picks i) where
  abbrev pub pick : Actor
  pick = get_or picks i t.other

  abbrev pub after : List Actor
  after = drop (i + 1) picks

  -- the pick comes next
  pub pick_next : IsUnderway old picks (pick ∷ after)
  pick_next = at_pick old picks i t.other t.within t.underway

  -- what holds if that was answered
  pub answered : (turn : Result Turn StepRefused) → t.turn ≡ turn → Turns old pick turn new
  answered turn same = subst (λ (x : Result Turn StepRefused). Turns old pick x new) same t.turns

  pub pick_full : {line : LineNo} {len : ℕ} → t.turn ≡ Err (refusals.Full line len) → IsPlay new picks (Err (refusals.Full line len))
  pick_full {line} {len} same =
      let full : IsFullFor old (move_of old pick) line len × (new ≡ old) = answered (Err (refusals.Full line len)) same in
      subst (λ (s : SystemSeen). IsPlay s picks (Err (refusals.Full line len))) (sym full.1)
      (is_full old picks (pick ∷ after) after (move_of old pick) line len pick_next full.0 (λ m due. with_move old pick after m due))

  pub pick_refused : t.turn ≡ Err refusals.NoMemory → IsPlay new picks (Err refusals.NoMemory)
  pick_refused same =
      let wanted : MayWant old pick × (new ≡ old) = answered (Err refusals.NoMemory) same in
      subst (λ (s : SystemSeen). IsPlay s picks (Err refusals.NoMemory)) (sym wanted.1)
      (refused old picks (pick ∷ after) pick_next wanted.0.somebody)

  -- the play ended at that refusal
  stopped_by : (by : StepRefused) → t.turn ≡ Err by → IsPlay new picks (Err by)
  stopped_by (refusals.Full line len) same = pick_full same
  stopped_by refusals.NoMemory same = pick_refused same

  pub pick_stopped : {by : StepRefused} {end : Result Unit StepRefused} → t.turn ≡ Err by → end ≡ Err by → IsPlay new picks end
  pick_stopped {by} same is = subst (λ (e : Result Unit StepRefused). IsPlay new picks e) (sym is) (stopped_by by same)

  -- the play goes on with the picks after it
  pub pick_done : (did : Turn) → t.turn ≡ Ok did → IsUnderway new picks after
  pick_done (turns.Moved line e) same =
      let moves : Moves old (move_of old pick) (line, e) new = answered (Ok (turns.Moved line e)) same in
      more old new (move_of old pick) (line, e) picks (pick ∷ after) after pick_next moves (with_move old pick after (line, e) moves.is)
  pick_done turns.NotYet same =
      let rests : (move_of old pick ≡ None) × (new ≡ old) = answered (Ok turns.NotYet) same in
      let u = pick_next in
      subst (λ (s : SystemSeen). IsUnderway s picks after) (sym rests.1)
      (record { lines = u.lines; left = u.left; chosen = u.chosen; next = u.next ∙ passed_over old pick after rests.0 })

  pub pick_keeps_board : new.board ≡ old.board
  pick_keeps_board = turn_same_board old new pick t.turn t.turns

  pub pick_keeps_layout : new.layout ≡ old.layout
  pick_keeps_layout = turn_same_layout old new pick t.turn t.turns
