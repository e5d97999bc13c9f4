-- What a scenario shows of its order, and that each step of its play has a row.
use Rattle.std.proofs.Common.{◌≡◌, ℕ, All, IfSome, IsSome, Option, Some, None, List, [], ◌∷◌, length, reverse, slice_get, refl, subst, Result, Ok, Err}
use Rattle.std.proofs.lemmas.List.{reverse-reverse}
use Rattle.std.proofs.lemmas.List.Elements.{All-nil, All-cons}
use Rattle.irq_line.specs.declared.answers.StepRefused.TheVariants as refusals
use Rattle.irq_line.specs.declared.answers.StepRefused.{StepRefused}
use Rattle.irq_base.specs.declared.entries.Actor.{Actor}
use Rattle.irq_base.specs.declared.entries.Entry.{Entry}
use Rattle.irq_base.specs.declared.numbers.LineNo.{LineNo}
use Rattle.irq_model.specs.Next.{next_past}
use Rattle.board_core.specs.Hung.{IsEndOf}
use Rattle.board_core.specs.declared.ends.PlayEnd.{PlayEnd}
use Rattle.board_def.specs.Rules.{IsBoard}
use Rattle.board_def.specs.Seen.{BoardSeen}
use Rattle.board_play.specs.Kept.{AreKept}
use Rattle.board_play.specs.Lines.{BoardLine, Move, lines_of, part}
use Rattle.board_play.specs.Play.{Done, Full}
use Rattle.board_play.proofs.Parts.{due_of}
use Rattle.board_report.specs.Moving.{AreAtRest}
use Rattle.board_report.proofs.Printable.{printable, turned}
use Rattle.log_text.specs.EntryWords.{IsPrintable}
use Rattle.board_play.specs.Orders.{IsMade, IsPlayed, Order, moves_in}
use Rattle.play_report.specs.Ordered.{lines_after}
use Rattle.play_report.specs.Printing.{StepHasRow}

-- the entry is due of some actor on this line
pub record IsOn (lines : List BoardLine) (line : LineNo) (e : Entry) : Type 0 where
  pub actor : Actor
  pub of : BoardLine
  pub place : ℕ
  pub at : slice_get lines place ≡ Some of
  pub number : of.def.line ≡ line
  pub due : next_past of.def of.past actor ≡ Some e

module _ {S E : Type 0} (b : BoardSeen) (o : Order S E) where
  -- a next step that moves a line is an entry that is due on it
  abbrev pub MovesDue : Type 0
  MovesDue = (g : List E) (at after : S) (e : E) (m : Move) → o.next g at ≡ Some (e, after) → o.told e ≡ Some m
      → IsOn (lines_of b (moves_in o g)) m.0 m.1

  -- how a play ended: done or full as was answered; a done one says who hangs, a full one the length; if memory was refused a
  -- further step is due
  abbrev pub IsEnd : S → List E → Result PlayEnd StepRefused → Type 0
  IsEnd first g (Ok e) = IsPlayed o first (reverse g) Done × IsEndOf (lines_after b o g) e
  IsEnd first g (Err (refusals.Full line len)) = IsPlayed o first (reverse g) (Full line) × (length (part line (moves_in o (reverse g))) ≡ len)
  IsEnd first g (Err refusals.NoMemory) = (at : S) × IsMade o first (reverse g) at × IsSome (o.next (reverse g) at)

  -- what a scenario shows of a play with these steps, the oldest first
  pub record IsScenario (first : S) (Keeps : List E → Type 0) (g : List E) : Type 0 where
    pub board : IsBoard b
    pub limit : o.log ≡ b.log
    pub moves : MovesDue
    pub kept : (at : S) → IsMade o first (reverse g) at → AreKept b (lines_after b o g)
    pub keeps : (at : S) → IsMade o first (reverse g) at → Keeps g
    pub rests : IsPlayed o first (reverse g) Done → AreAtRest b (lines_after b o g)

  module _ (moves : MovesDue) (first : S) where
    has_row : (g : List E) (at after : S) (e : E) → o.next g at ≡ Some (e, after) → StepHasRow o.told e
    has_row g at after e next = by_told (o.told e) refl
      where
        by_told : (t : Option Move) → o.told e ≡ t → IfSome t (λ m. IsPrintable m.1)
        by_told None is = tt
        by_told (Some m) is =
            let on = moves g at after e m next is in
            printable on.of.def on.of.past m.1 (due_of on.of.def on.of.past on.actor m.1 on.due)

    made_rows : (g : List E) (at : S) → IsMade o first g at → All (StepHasRow o.told) g
    made_rows [] at made = All-nil (StepHasRow o.told)
    made_rows (e ∷ g) at made = All-cons (StepHasRow o.told) e g (has_row g made.0 at e made.2) (made_rows g made.0 made.1)

    -- each step so far has a row
    pub log_has_rows : (log : List E) (at : S) → IsMade o first (reverse log) at → All (StepHasRow o.told) log
    log_has_rows log at made =
        subst (All (StepHasRow o.told)) (reverse-reverse log) (turned (StepHasRow o.told) (reverse log) (made_rows (reverse log) at made))
