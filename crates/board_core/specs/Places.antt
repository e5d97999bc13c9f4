-- Lines by their places, and a step of the one at a place.
use Rattle.std.specs.Prelude.{◌≡◌, ◌≤◌, ℕ, IsSome, Option, Some, None, Result, Ok, Err, List, []}
use Rattle.std.specs.Prelude.{◌∷◌}
use Rattle.std.specs.Prelude.{◌++◌, slice_get, slice_set}
use Rattle.irq_base.specs.declared.entries.Actor.{Actor}
use Rattle.irq_base.specs.declared.entries.Entry.{Entry}
use Rattle.irq_base.specs.declared.numbers.LineNo.{LineNo}
use Rattle.irq_line.specs.Answers.{Adds, IsFull}
use Rattle.irq_model.specs.Next.{next}
use Rattle.irq_line.specs.Seen.{LineSeen, IsSound}
use Rattle.irq_line.specs.declared.answers.StepRefused.{StepRefused}
use Rattle.irq_line.specs.declared.answers.StepRefused.TheVariants as refusals
use Rattle.irq_line.specs.declared.answers.Stepped.{Stepped}
use Rattle.irq_line.specs.declared.answers.Stepped.TheVariants as stepped
use Rattle.board_play.specs.Lines.{BoardLine}
use Rattle.board_core.specs.Pieces.{EndsPiece}

abbrev pub line_at : List BoardLine → Option ℕ → Option BoardLine
line_at lines None = None
line_at lines (Some k) = slice_get lines k

-- the line stands at this place of the list; no place: there is no line
abbrev pub IsPlace : List BoardLine → Option ℕ → Option BoardLine → Type 0
IsPlace lines None line = line ≡ None
IsPlace lines (Some k) line = IsSome line × (slice_get lines k ≡ line)

-- The line at place k, which was `before`, is `after` with one entry more, and the order tells it;
-- all else is as it was.
pub record StepsAt (old : List LineSeen) (order : List ℕ) (k : ℕ) (a : Actor) (e : Entry)
    (new : List LineSeen) (longer : List ℕ) : Type 0 where
  pub before : LineSeen
  pub after : LineSeen
  pub at : slice_get old k ≡ Some before
  pub adds : Adds before a e after
  pub sound : IsSound after
  pub rest : new ≡ slice_set old k after
  pub told : longer ≡ order ++ k ∷ []

pub record RestsAt (old : List LineSeen) (k : ℕ) (a : Actor) : Type 0 where
  pub line : LineSeen
  pub at : slice_get old k ≡ Some line
  pub rests : next line.def line.entries a ≡ None

pub record IsFullAt (old : List LineSeen) (k : ℕ) (a : Actor) (number : LineNo) (len : ℕ)
    : Type 0 where
  pub line : LineSeen
  pub at : slice_get old k ≡ Some line
  pub is_full : IsFull line a number len

-- the order after the step
abbrev pub told : {L : Type 0} → Result (Stepped L) StepRefused → List ℕ → ℕ → List ℕ
told (Ok (stepped.Added e)) order k = order ++ k ∷ []
told _ order k = order

-- what the step answers and leaves; no answer is lacking where the handlers are at hand
abbrev pub SteppedAt : {L : Type 0} → List LineSeen → List ℕ → ℕ → Actor
    → Result (Stepped L) StepRefused → List LineSeen → List ℕ → Type 0
SteppedAt old order k a (Ok (stepped.Added e)) new longer = StepsAt old order k a e new longer
SteppedAt old order k a (Ok stepped.NotYet) new longer =
    RestsAt old k a × (new ≡ old) × (longer ≡ order)
SteppedAt old order k a (Ok (stepped.Lacks lack)) new longer = ⊥
SteppedAt old order k a (Err (refusals.Full line len)) new longer =
    IsFullAt old k a line len × (new ≡ old) × (longer ≡ order)
SteppedAt old order k a (Err refusals.NoMemory) new longer = (new ≡ old) × (longer ≡ order)

-- The step on the line at place k was refused memory, after this many moves. If there was room for
-- one more entry, the line may want memory for the entry that is due.
pub record WantsAt (may_want : Option Entry → Type 0) (lines : List LineSeen) (moves k : ℕ)
    (a : Actor) : Type 0 where
  pub line : LineSeen
  pub at : slice_get lines k ≡ Some line
  pub wanted : 1 ≤ line.spare → (EndsPiece moves → ⊥) → may_want (next line.def line.entries a)

abbrev pub StepWants : {L : Type 0} → (Option Entry → Type 0) → List LineSeen → (moves k : ℕ)
    → Actor → Result (Stepped L) StepRefused → Type 0
StepWants may_want lines moves k a (Err refusals.NoMemory) = WantsAt may_want lines moves k a
StepWants may_want lines moves k a _ = Unit {0}
