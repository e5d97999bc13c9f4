-- What holds of the histories of a board's lines when nobody can move and some actor is hung, and
-- of the reports that hand them out. The entries of a history stand oldest first.
use Rattle.std.specs.Prelude.{◌≡◌, ◌<◌, ℕ, true, IsSome, IfSome, Some, None, List, [], map}
use Rattle.std.specs.Prelude.{reverse, slice_get}
use Rattle.irq_base.specs.declared.entries.Actor.{Actor}
use Rattle.irq_base.specs.declared.entries.Actor.TheVariants as actors
use Rattle.irq_base.specs.declared.entries.Entry.{Entry}
use Rattle.irq_base.specs.declared.lines.LineDef.{LineDef}
use Rattle.irq_base.specs.declared.numbers.DriverNo.{DriverNo}
use Rattle.irq_base.specs.declared.numbers.LineNo.{LineNo}
use Rattle.irq_base.specs.declared.reporting.LineReport.{LineReport}
use Rattle.irq_model.specs.Due.{due_call}
use Rattle.irq_model.specs.Kinds.{is_take}
use Rattle.irq_model.specs.Next.{next}
use Rattle.irq_model.specs.Signal.{target}
use Rattle.irq_model.specs.Waits.{IsHungPast, IsCaughtPast, IsLowestHungPast}
use Rattle.irq_model.specs.Waits.{is_unfinished_actor}
use Rattle.board_def.specs.LineOf.{line_of_row}
use Rattle.board_def.specs.Seen.{BoardSeen}
use Rattle.board_play.specs.Lines.{defs_of}
use Rattle.board_report.specs.Headline.{EachMapped, EachRefused, Histories, KeepsLaws}
use Rattle.board_report.specs.Headline.{LineHeadline, histories_of, told_by}

-- of the board's lines this is the first with a hung actor, and of its actors that are hung the
-- lowest
pub record IsFirstHung (b : BoardSeen) (entries : Histories) (line : LineNo) (actor : Actor)
    : Type 0 where
  pub place : ℕ
  pub def : LineDef
  pub at : slice_get (defs_of b) place ≡ Some def
  pub number : def.line ≡ line
  pub lowest : IsLowestHungPast def (reverse (entries line)) (Some actor)
  pub before : (i : ℕ) (x : LineDef) (a : Actor) → i < place → slice_get (defs_of b) i ≡ Some x
      → IsHungPast x (reverse (entries x.line)) a → ⊥

-- the actor is hung or held up on another line of the board
pub record IsCaughtElsewhere (b : BoardSeen) (entries : Histories) (line : LineNo) (a : Actor)
    : Type 0 where
  pub place : ℕ
  pub def : LineDef
  pub at : slice_get (defs_of b) place ≡ Some def
  pub other : def.line ≡ line → ⊥
  pub caught : IsCaughtPast def (reverse (entries def.line)) a

-- ---- one line

-- `Caught` says who is hung or held up on another line
module _ (def : LineDef) (h : List Entry) (Caught : Actor → Type 0) where
  -- what may still be due: a take of a processor that spins on another line, and what a driver
  -- would do that hangs, or is held up, on another
  abbrev pub MayBeDue : Actor → Entry → Type 0
  MayBeDue (actors.Thread d) e = ⊥
  MayBeDue (actors.Cpu c) e = Caught (actors.Cpu c) × (is_take e ≡ true)
  MayBeDue (actors.Driver r) e = Caught (actors.Driver r)

  -- nobody who has something to do on the line is hung or held up: nobody on the line itself, and
  -- elsewhere neither its target nor a driver with a call left here
  pub record IsUntouched : Type 0 where
    pub here : (a : Actor) → IsCaughtPast def (reverse h) a → ⊥
    pub takes : IfSome (target def (reverse h)) (λ c. Caught (actors.Cpu c) → ⊥)
    pub calls : (r : DriverNo) → IsSome (due_call def r (reverse h)) → Caught (actors.Driver r) → ⊥

  -- the history of a line on whose board nobody can move
  pub record LineBesideHung : Type 0 where
    pub laws : KeepsLaws def h
    -- whoever isn't done on the line, and has no entry due there, is hung or held up
    pub waits : (a : Actor) → is_unfinished_actor def (reverse h) a ≡ true → next def h a ≡ None
        → IsCaughtPast def (reverse h) a
    pub due : (a : Actor) (e : Entry) → next def h a ≡ Some e → MayBeDue a e
    -- a line that nobody who hangs has to do with is as at the end of any play
    pub settled : IsUntouched → LineHeadline def h

-- ---- all lines of a board

-- nobody can move, though some actor is hung, and this happened on the board's lines
pub record HungBoard (b : BoardSeen) (entries : Histories) (reports : List LineReport)
    (line : LineNo) (actor : Actor) : Type 0 where
  pub hung : IsFirstHung b entries line actor
  -- one report for each line of the board, with the line's entries
  pub handed_out : map told_by reports ≡ histories_of b entries
  pub mapped : EachMapped b (λ row. LineBesideHung (line_of_row b row) (entries row.line)
      (IsCaughtElsewhere b entries row.line))
  -- a refused line has no entry
  pub refused : EachRefused b (λ row. entries row.line ≡ [])
