-- The log of a demultiplexer: the moves of the children, which its system keeps, and the places
-- among them at which enters and exits stand. The oldest comes first here.
use Rattle.std.specs.Prelude.{◌≡◌, ℕ, ◌+◌, ◌-◌, ◌<◌, ◌≤◌, ◌==◌, Bool, true, not, ◌&&◌, Result, Ok}
use Rattle.std.specs.Prelude.{if◌then◌else◌, nat_le, List, [], ◌∷◌, ◌++◌, All, Option, Some, None}
use Rattle.std.specs.Prelude.{drop, length, map, slice_get, take}
use Rattle.irq_line.specs.declared.answers.StepRefused.{StepRefused}
use Rattle.board_play.specs.Lines.{BoardLine, Move}
use Rattle.board_ready.specs.Sets.{has}
use Rattle.board_core.specs.declared.turns.Turn.{Turn}
use Rattle.board_core.specs.declared.turns.Turn.TheVariants as moves
use Rattle.irq_chained.specs.Chain.{cpu_0, is_taken, open_status}
use Rattle.irq_chained.specs.declared.chain.ChainEntry.{ChainEntry}
use Rattle.irq_chained.specs.declared.chain.ChainEntry.TheVariants as steps
use Rattle.irq_chained.specs.declared.marks.Mark.{Mark}
use Rattle.irq_chained.specs.declared.marks.Marked.{Marked}
use Rattle.irq_chained.specs.declared.marks.Marked.TheVariants as marks
use Rattle.irq_chained.specs.declared.marks.Walk.{Walk}

abbrev pub step_of : Move → ChainEntry
step_of m = steps.Child m.0 m.1

abbrev pub mark_of : Marked → ChainEntry
mark_of (marks.Enter status) = steps.Enter cpu_0 status
mark_of marks.Exit = steps.Exit cpu_0

-- the steps: each mark stands behind as many moves as it says; `told` moves are told already
abbrev pub merged : List Mark → List Move → ℕ → List ChainEntry
merged [] moves told = map step_of moves
merged (m ∷ ms) moves told =
    let n = m.before - told in
    map step_of (take n moves) ++ mark_of m.what ∷ merged ms (drop n moves) (told + n)

-- each mark stands behind at most n moves
abbrev pub AreWithin : ℕ → List Mark → Type 0
AreWithin n ms = All (λ m. m.before ≤ n) ms

-- a mark that stands behind no more than `told` moves
abbrev pub mark_reached : Option Mark → ℕ → Option Marked
mark_reached None told = None
mark_reached (Some m) told = if nat_le m.before told then Some m.what else None

-- a walk has `left` of the moves before it, and the marks from `at` on
pub record IsWalking (all : List Mark) (moves : List Move) (at total left : ℕ) : Type 0 where
  pub left_is : left ≡ length moves
  pub most : left ≤ total
  pub within : AreWithin total all
  pub small : at ≤ length all

-- k is in the status and among those that have a take due, and isn't among those taken
abbrev pub is_in_words : ℕ → ℕ → ℕ → ℕ → Bool
is_in_words status taken due k = has status k && (has due k && not (has taken k))

-- the walk after the child at this place was taken
pub record IsWithTaken (old : Walk) (place : ℕ) (new : Walk) : Type 0 where
  pub status : new.status ≡ old.status
  pub taken : (k : ℕ) → k < 64
      → has new.taken k ≡ (if k == place then true else has old.taken k)

-- the child at this place was taken if the turn made its step
abbrev pub IsWalkAfter : Walk → ℕ → Result Turn StepRefused → Walk → Type 0
IsWalkAfter old place (Ok (moves.Moved line entry)) new = IsWithTaken old place new
IsWalkAfter old place turn new = new ≡ old

-- what is kept of an open chain is its status, and which children were taken since its enter
abbrev pub IsWalkOf : List BoardLine → List ChainEntry → Option Walk → Type 0
IsWalkOf lines g None = open_status g ≡ None
IsWalkOf lines g (Some w) = (open_status g ≡ Some w.status)
    × ((k : ℕ) (x : BoardLine) → slice_get lines k ≡ Some x
    → has w.taken k ≡ is_taken g x.def.line)
