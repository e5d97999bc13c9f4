-- A play to a line's history, as it is printed.
use Rattle.std.specs.Prelude.{◌≡◌, ◌≤◌, Bool, true, false, ℕ, Option, List, ◌++◌, length, reverse}
use Rattle.std.specs.Prelude.{Result, Ok, Err}
use Rattle.irq_base.specs.declared.devices.Run.{Run}
use Rattle.irq_base.specs.declared.entries.Actor.{Actor}
use Rattle.irq_base.specs.declared.entries.Entry.{Entry}
use Rattle.irq_base.specs.declared.numbers.LineNo.{LineNo}
use Rattle.irq_io.specs.Whole.{WritesAll}
use Rattle.irq_io.specs.declared.whole.WriteFailed.{WriteFailed}
use Rattle.board_def.specs.Seen.{BoardSeen}
use Rattle.board_play.specs.Lines.{Move, part}
use Rattle.board_play.specs.Play.{End, Plays}
use Rattle.board_core.specs.Runs.{runs_of}
use Rattle.log_check.specs.Verdicts.{ChecksLog}
use Rattle.log_check.specs.declared.verdict.Verdict.TheVariants as verdicts
use Rattle.play_report.specs.Report.{moves_text}
use Rattle.board_stated.specs.OfVersion.{IsOfItsVersion}
use Rattle.explore_picks.specs.Rows.{picks_text}
use Rattle.explore_picks.specs.Stated.{AreStated}
use Rattle.explore_picks.specs.declared.failing.ExploreFailed.{ExploreFailed}
use Rattle.explore_picks.specs.declared.failing.ExploreFailed.TheVariants as fails
use Rattle.explore_picks.specs.Made.{ArePicked, IsHeardPlay}

-- with these picks in place of the board's, whatever picks come after them, each play of the board
-- begins with these moves
abbrev pub BeginPlays : BoardSeen → List Actor → List Move → Type 0
BeginPlays b picks g = (more : List Actor) (h : List Move) (end : End)
    → Plays b (picks ++ more) (reverse h) end → (k : List Move) × (h ≡ g ++ k)

-- These moves are a play of the board so far, each made by the pick at its place, and the line's
-- part of them is this history. A board's reader takes the rows of the picks as these picks. All
-- oldest first.
pub record IsPlayTo (b : BoardSeen) (line : LineNo) (es : List Entry) (picks : List Actor)
    (g : List Move) : Type 0 where
  pub picked : ArePicked b (reverse picks) (reverse g)
  pub begin : BeginPlays b picks g
  pub part : part line (reverse g) ≡ reverse es
  pub few : length picks ≤ 65536
  pub stated : AreStated picks

-- such a play's moves and its picks are printed, or a beginning of them; `check` says of all of it,
-- behind a board that has what its version has, that it is lawful; and the runs that the moves
-- ended were heard
pub record PrintsPlayTo (b : BoardSeen) (line : LineNo) (es : List Entry)
    (heard : List Run → Type 0) (old new : Option (List ℕ)) (end : Result Unit WriteFailed)
    : Type 0 where
  pub moves : List Move
  pub picks : List Actor
  pub play : IsPlayTo b line es picks moves
  pub runs : heard (runs_of b (reverse moves))
  pub lawful : IsOfItsVersion b
      → ChecksLog b (moves_text moves ++ picks_text picks) verdicts.Lawful
  pub printed : WritesAll old new (moves_text moves ++ picks_text picks) end

-- the runs of some play of the board so far were heard
abbrev pub HeardSome : BoardSeen → (List Run → Type 0) → Type 0
HeardSome b heard = (g : List Move) × IsHeardPlay b heard g

-- A play was found, and it is printed, or a beginning of it. Or nothing is, and what was heard is
-- of a play that was tried.
abbrev pub PlaysTo : BoardSeen → LineNo → List Entry → (List Run → Type 0) → Option (List ℕ)
    → Option (List ℕ) → Result Bool ExploreFailed → Type 0
PlaysTo b line es heard old new (Ok true) = PrintsPlayTo b line es heard old new (Ok tt)
PlaysTo b line es heard old new (Ok false) = (new ≡ old) × HeardSome b heard
PlaysTo b line es heard old new (Err fails.NotThere) = ⊥
PlaysTo b line es heard old new (Err fails.NoMemory) = (new ≡ old) × HeardSome b heard
PlaysTo b line es heard old new (Err (fails.Write failed)) =
    PrintsPlayTo b line es heard old new (Err failed)

abbrev pub is_write_fault : Result Bool ExploreFailed → Bool
is_write_fault (Err (fails.Write failed)) = true
is_write_fault _ = false
