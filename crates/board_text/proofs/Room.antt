-- The room that picks leave.
use Rattle.std.proofs.Common.{◌≡◌, ℕ, ◌+◌, ◌-◌, ◌≤◌, nat_lt, Some, List, drop, arith}
use Rattle.std.specs.List.{slice_get}
use Rattle.std.proofs.lemmas.Bool.Decides.{nat_tests}
use Rattle.board_stated.specs.FaultsAfter.{count_of_picks, count_of_answers}
use Rattle.board_words.specs.declared.statements.AnswerWord.{AnswerWord}
use Rattle.board_words.specs.declared.statements.PickWord.{PickWord}
use Rattle.board_text.proofs.Left.{left_at}

pub room_left : (room left : ℕ) (picks : List PickWord) (i : ℕ) (p : PickWord) → slice_get picks i ≡ Some p → p.times ≤ room → left ≡ room - p.times
    → nat_lt room (count_of_picks (drop i picks)) ≡ nat_lt left (count_of_picks (drop (i + 1) picks))
room_left room left picks i p at fits is = rw (left_at picks i p at) (by (count_of_picks (drop (i + 1) picks)))
  where
    by : (n : ℕ) → nat_lt room (p.times + n) ≡ nat_lt left n
    by n = grind (arith, nat_tests)

-- and that answers leave
pub answers_left : (room left : ℕ) (answers : List AnswerWord) (i : ℕ) (a : AnswerWord) → slice_get answers i ≡ Some a → a.times ≤ room
    → left ≡ room - a.times → nat_lt room (count_of_answers (drop i answers)) ≡ nat_lt left (count_of_answers (drop (i + 1) answers))
answers_left room left answers i a at fits is = rw (left_at answers i a at) (by (count_of_answers (drop (i + 1) answers)))
  where
    by : (n : ℕ) → nat_lt room (a.times + n) ≡ nat_lt left n
    by n = grind (arith, nat_tests)
