-- How much room the lines of a system have: it falls with each move.
use Rattle.std.proofs.Common.{◌≡◌, ℕ, ◌+◌, ◌-◌, ◌<◌, ◌≤◌, Bool, true, false, cond, IsSomeAnd}
use Rattle.std.proofs.Common.{Some, List, [], ◌∷◌, length, refl, sym, ap, ◌∙◌, subst}
use Rattle.std.proofs.Common.{arith}
use Rattle.irq_base.specs.declared.numbers.LineNo.{LineNo}
use Rattle.irq_model.specs.Kinds.{same_line}
use Rattle.irq_model.proofs.Same.{line_from_same, same_self_line}
use Rattle.irq_laws.proofs.Lists.{both_ways}
use Rattle.irq_line.specs.Seen.{LineSeen}
use Rattle.board_def.specs.Seen.{BoardSeen}
use Rattle.board_play.specs.Lines.{BoardLine, Move, lines_after, find_line}
use Rattle.board_core.specs.Seen.{SystemSeen, board_lines}
use Rattle.board_core.specs.Turns.{Moves, lowest_move}

pub room : ℕ → List BoardLine → ℕ
room log [] = 0
room log (x ∷ xs) = (log - length x.past) + room log xs

room_kept : (log : ℕ) (m : Move) (lines : List BoardLine) → room log (lines_after m lines) ≤ room log lines
unfolding room
room_kept log m [] = omega arith
room_kept log m (x ∷ xs) = by_test (same_line x.def.line m.0) (room_kept log m xs)
  where
    by_test : (b : Bool) → room log (lines_after m xs) ≤ room log xs
        → (log - length (cond b (m.1 ∷ x.past) x.past)) + room log (lines_after m xs) ≤ (log - length x.past) + room log
        xs
    by_test true le = omega (arith, le)
    by_test false le = omega (arith, le)

room_less : (log : ℕ) (m : Move) (lines : List BoardLine) → IsSomeAnd (find_line lines m.0) (λ x. length x.past < log)
    → room log (lines_after m lines) < room log lines
unfolding room
room_less log m [] h = absurd h
room_less log m (x ∷ xs) h = by_test (same_line m.0 x.def.line) refl h (room_kept log m xs) (λ h. room_less log m xs h)
  where
    same_again : same_line m.0 x.def.line ≡ true → same_line x.def.line m.0 ≡ true
    same_again same = ap (λ (l : LineNo). same_line l m.0) (sym (line_from_same m.0 x.def.line same)) ∙ same_self_line m.0

    by_moved : (b : Bool) → same_line m.0 x.def.line ≡ true → same_line x.def.line m.0 ≡ b → length x.past < log → room log (lines_after m xs) ≤ room log xs
        → (log - length (cond b (m.1 ∷ x.past) x.past)) + room log (lines_after m xs) < (log - length x.past) + room log xs
    by_moved true same is less le = omega (arith, less, le)
    by_moved false same is less le = both_ways (same_line x.def.line m.0) (same_again same) is

    by_less : (b : Bool) → room log (lines_after m xs) < room log xs
        → (log - length (cond b (m.1 ∷ x.past) x.past)) + room log (lines_after m xs) < (log - length x.past) + room log
        xs
    by_less true lt = omega (arith, lt)
    by_less false lt = omega (arith, lt)

    by_test : (b : Bool) → same_line m.0 x.def.line ≡ b
        → IsSomeAnd (cond b (Some x) (find_line xs m.0)) (λ x. length x.past < log)
        → room log (lines_after m xs) ≤ room log xs
        → (IsSomeAnd (find_line xs m.0) (λ x. length x.past < log) → room log (lines_after m xs) < room log xs)
        → (log - length (cond (same_line x.def.line m.0) (m.1 ∷ x.past) x.past)) + room log (lines_after m xs) < (log - length x.past) + room log xs
    by_test true same h le deeper = by_moved (same_line x.def.line m.0) same refl h le
    by_test false other h le deeper = by_less (same_line x.def.line m.0) (deeper h)

pub room_of : SystemSeen → ℕ
room_of s = room s.board.log (board_lines s.lines)

pub room_of_moved : (old new : SystemSeen) (m : Move) → Moves old (lowest_move old) m new → room_of new < room_of old
unfolding room_of
room_of_moved old new m moves =
    subst (λ (n : ℕ). n < room old.board.log (board_lines old.lines))
    (ap (λ (ls : List BoardLine). room old.board.log ls) (sym moves.lines) ∙ ap (λ (b : BoardSeen). room b.log (board_lines new.lines)) (sym moves.board))
    (room_less old.board.log m (board_lines old.lines) moves.room)

-- it goes by the board and the lines alone
pub room_same : (old new : SystemSeen) → new.board ≡ old.board → new.lines ≡ old.lines → room_of new ≡ room_of old
unfolding room_of
room_same old new board lines = ap (λ (b : BoardSeen). room b.log (board_lines new.lines)) board
    ∙ ap (λ (ls : List LineSeen). room old.board.log (board_lines ls)) lines
