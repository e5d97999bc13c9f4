-- The handlers were called for the runs that the moves of a system ended.
use Rattle.std.proofs.Common.{◌≡◌, Option, List, [], ◌∷◌, ◌++◌, length, drop, reverse, refl, sym, ap, ◌∙◌, subst, Result, Ok, Err}
use Rattle.std.proofs.Math.Seq.{drop-append_seam}
use Rattle.std.proofs.lemmas.List.{append-nil, append_assoc, reverse-append, reverse-reverse}
use Rattle.irq_line.specs.declared.answers.StepRefused.TheVariants as refusals
use Rattle.irq_line.specs.declared.answers.StepRefused.{StepRefused}
use Rattle.irq_base.specs.declared.devices.Run.{Run}
use Rattle.irq_base.specs.declared.entries.Actor.{Actor}
use Rattle.callbacks.specs.Heard.{Heard}
use Rattle.callbacks.proofs.Calls.{heard_more}
use Rattle.board_def.specs.Seen.{BoardSeen}
use Rattle.board_play.specs.Lines.{BoardLine, Move, defs_of, lines_after, lines_of}
use Rattle.board_play.proofs.Moving.{lines_more}
use Rattle.board_core.specs.Playing.{IsFresh, Settles, lines_after_all}
use Rattle.board_core.specs.Runs.{runs_by_move, runs_by_turn, runs_from, runs_in, runs_of, runs_since}
use Rattle.board_core.specs.Seen.{SystemSeen, board_lines}
use Rattle.board_core.specs.Turned.{StepsBy}
use Rattle.board_core.specs.Turns.{Turns, TurnsBy, move_of}
use Rattle.board_core.specs.declared.turns.Turn.{Turn}
use Rattle.board_core.specs.declared.turns.Turn.TheVariants as turns

-- ---- the runs of a longer play

-- the lines after a play, and after more moves
pub lines_after_play : (b : BoardSeen) (moves g : List Move) → lines_after_all moves (lines_of b g) ≡ lines_of b (moves ++ g)
lines_after_play b [] g = refl
lines_after_play b (m ∷ moves) g = ap (λ (ls : List BoardLine). lines_after m ls) (lines_after_play b moves g)
    ∙ sym (lines_more (defs_of b) m (moves ++ g))

-- the runs of a play, and of the moves after it
pub runs_more : (b : BoardSeen) (moves g : List Move) → runs_of b (moves ++ g) ≡ runs_from (lines_of b g) moves ++ runs_of b g
runs_more b [] g = refl
runs_more b (m ∷ moves) g =
    let deeper = runs_more b moves g in
    ap (λ (runs : List Run). runs_by_move (lines_of b (moves ++ g)) m ++ runs) deeper
    ∙ (ap (λ (ls : List BoardLine). runs_by_move ls m ++ (runs_from (lines_of b g) moves ++ runs_of b g)) (sym (lines_after_play b moves g))
    ∙ sym (append_assoc (runs_by_move (lines_after_all moves (lines_of b g)) m) (runs_from (lines_of b g) moves) (runs_of b g)))

-- ---- what a system's log has more

module _ (old new : SystemSeen) where
  -- the runs of the moves that came after what the log had
  pub since_moves : (moves : List Move) → new.log ≡ old.log ++ reverse moves → runs_since old new ≡ runs_from (board_lines old.lines) moves
  since_moves moves log = ap (λ (g : List Move). runs_from (board_lines old.lines) g)
      (ap (λ (g : List Move). reverse (drop (length old.log) g)) log
      ∙ (ap (λ (g : List Move). reverse g) (drop-append_seam old.log (reverse moves)) ∙ reverse-reverse moves))

  -- of a settling: the runs of its moves
  pub since_settled : (s : Settles old new) → runs_since old new ≡ runs_from (board_lines old.lines) s.moves
  since_settled s = since_moves s.moves s.log

  -- without a move nothing ended
  pub since_same : new ≡ old → runs_since old new ≡ []
  since_same same = since_moves [] (ap (λ (s : SystemSeen). s.log) same ∙ sym (append-nil old.log))

-- one turn more: its own run, if it ended one, and those before
pub since_turned : (first old new : SystemSeen) (due : Option Move) (turn : Result Turn StepRefused) → StepsBy old due turn new → Settles first old
    → runs_since first new ≡ runs_by_turn old turn ++ runs_since first old
since_turned first old new due (Ok (turns.Moved line e)) t s =
    let m : Move = (line, e) in
    let log : new.log ≡ first.log ++ reverse (m ∷ s.moves) = t.log ∙ (ap (λ (g : List Move). g ++ m ∷ []) s.log
    ∙ (append_assoc first.log (reverse s.moves) (m ∷ []) ∙ ap (λ (g : List Move). first.log ++ g) (sym (reverse-append (m ∷ []) s.moves)))) in
    since_moves first new (m ∷ s.moves) log
    ∙ (ap (λ (ls : List BoardLine). runs_by_move ls m ++ runs_from (board_lines first.lines) s.moves) (sym s.lines)
    ∙ ap (λ (runs : List Run). runs_by_move (board_lines old.lines) m ++ runs) (sym (since_settled first old s)))
since_turned first old new due (Ok turns.NotYet) t s = ap (λ (x : SystemSeen). runs_since first x) t.1
since_turned first old new due (Err (refusals.Full line len)) t s = ap (λ (x : SystemSeen). runs_since first x) t.1
since_turned first old new due (Err refusals.NoMemory) t s = ap (λ (x : SystemSeen). runs_since first x) t

-- ---- the runs of a play of a system, after a turn and after a settling

-- a turn is a step on its actor's line
pub step_of_turn : (old new : SystemSeen) (a : Actor) (turn : Result Turn StepRefused) → Turns old a turn new → StepsBy old (move_of old a) turn new
step_of_turn old new a (Ok (turns.Moved line e)) t = t
step_of_turn old new a (Ok turns.NotYet) t = t
step_of_turn old new a (Err (refusals.Full line len)) t = t
step_of_turn old new a (Err refusals.NoMemory) t = t.1

pub step_of_turn_by : (old new : SystemSeen) (due : Option Move) (turn : Result Turn StepRefused) → TurnsBy old due turn new → StepsBy old due turn new
step_of_turn_by old new due (Ok (turns.Moved line e)) t = t
step_of_turn_by old new due (Ok turns.NotYet) t = t
step_of_turn_by old new due (Err (refusals.Full line len)) t = t
step_of_turn_by old new due (Err refusals.NoMemory) t = t.1

module _ (old new : SystemSeen) (lines : board_lines old.lines ≡ lines_of old.board (reverse old.log)) where
  more_moves : (moves : List Move) → new.board ≡ old.board → new.log ≡ old.log ++ reverse moves
      → runs_in new ≡ runs_from (board_lines old.lines) moves ++ runs_in old
  more_moves moves board log =
      ap (λ (b : BoardSeen). runs_of b (reverse new.log)) board
      ∙ (ap (λ (g : List Move). runs_of old.board g)
      (ap (λ (g : List Move). reverse g) log ∙ (reverse-append old.log (reverse moves) ∙ ap (λ (g : List Move). g ++ reverse old.log) (reverse-reverse moves)))
      ∙ (runs_more old.board moves (reverse old.log)
      ∙ ap (λ (ls : List BoardLine). runs_from ls moves ++ runs_in old) (sym lines)))

  -- after a turn: its own run, if it ended one, and those before
  pub runs_turned : (due : Option Move) (turn : Result Turn StepRefused) → StepsBy old due turn new → runs_in new ≡ runs_by_turn old turn ++ runs_in old
  runs_turned due (Ok (turns.Moved line e)) t =
      more_moves ((line, e) ∷ []) t.board t.log
      ∙ ap (λ (runs : List Run). runs ++ runs_in old) (append-nil (runs_by_move (board_lines old.lines) (line, e)))
  runs_turned due (Ok turns.NotYet) t = ap (λ (s : SystemSeen). runs_in s) t.1
  runs_turned due (Err (refusals.Full line len)) t = ap (λ (s : SystemSeen). runs_in s) t.1
  runs_turned due (Err refusals.NoMemory) t = ap (λ (s : SystemSeen). runs_in s) t

  -- after a settling: those since it began, and those before
  pub runs_settled : new.board ≡ old.board → (s : Settles old new) → runs_in new ≡ runs_since old new ++ runs_in old
  runs_settled board s = more_moves s.moves board s.log ∙ ap (λ (runs : List Run). runs ++ runs_in old) (sym (since_settled old new s))

-- ---- the calls

module _ {H : Type 0} (hears : H → Run → H → Type 0) where
  -- no call for a play without moves
  pub heard_none : (h : H) (runs : List Run) → runs ≡ [] → Heard hears runs h h
  heard_none h runs none = subst (λ (rs : List Run). Heard hears rs h h) (sym none) refl

  pub heard_fresh : (s : SystemSeen) → IsFresh s → (h : H) → Heard hears (runs_in s) h h
  heard_fresh s f h = heard_none h (runs_in s) (ap (λ (g : List Move). runs_of s.board (reverse g)) f.log)

  -- the calls for the runs of a play, and those for what a turn or a settling ended after it
  pub heard_turned : (old new : SystemSeen) (due : Option Move) (turn : Result Turn StepRefused) → StepsBy old due turn new
      → board_lines old.lines ≡ lines_of old.board (reverse old.log) → (h k m : H) → Heard hears (runs_in old) h k
      → Heard hears (runs_by_turn old turn) k m → Heard hears (runs_in new) h m
  heard_turned old new due turn t lines h k m before now =
      subst (λ (runs : List Run). Heard hears runs h m) (sym (runs_turned old new lines due turn t))
      (heard_more hears (runs_by_turn old turn) (runs_in old) h k m before now)

  pub heard_settled : (old new : SystemSeen) → new.board ≡ old.board → Settles old new
      → board_lines old.lines ≡ lines_of old.board (reverse old.log) → (h k m : H) → Heard hears (runs_in old) h k
      → Heard hears (runs_since old new) k m → Heard hears (runs_in new) h m
  heard_settled old new board s lines h k m before now =
      subst (λ (runs : List Run). Heard hears runs h m) (sym (runs_settled old new lines board s))
      (heard_more hears (runs_since old new) (runs_in old) h k m before now)

  -- of a settling: no call at its beginning, and after a turn that of its run
  pub since_begun : (s : SystemSeen) (h : H) → Heard hears (runs_since s s) h h
  since_begun s h = heard_none h (runs_since s s) (since_same s s refl)

  pub since_more : (first old new : SystemSeen) (due : Option Move) (turn : Result Turn StepRefused)
      → StepsBy old due turn new → Settles first old → (h k m : H)
      → Heard hears (runs_since first old) h k → Heard hears (runs_by_turn old turn) k m → Heard hears (runs_since first new) h m
  since_more first old new due turn t s h k m before now =
      subst (λ (runs : List Run). Heard hears runs h m) (sym (since_turned first old new due turn t s))
      (heard_more hears (runs_by_turn old turn) (runs_since first old) h k m before now)
