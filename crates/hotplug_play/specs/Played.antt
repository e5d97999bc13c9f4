-- What a board's play on processors that go offline and come online answers, and what is printed.
-- The events come first, and then the board with the moves of its lines is played.
use Rattle.std.specs.Prelude.{◌≡◌, ℕ, ◌⊎◌, Option, Result, Ok, Err, List, [], ◌++◌}
use Rattle.irq_base.specs.declared.devices.Run.{Run}
use Rattle.irq_base.specs.declared.numbers.LineNo.{LineNo}
use Rattle.irq_base.specs.declared.reporting.LineReport.{LineReport}
use Rattle.irq_line.specs.declared.answers.StepRefused.{StepRefused}
use Rattle.irq_line.specs.declared.answers.StepRefused.TheVariants as refusals
use Rattle.irq_base.specs.declared.entries.Actor.{Actor}
use Rattle.board_core.specs.declared.ends.PlayEnd.{PlayEnd}
use Rattle.board_core.specs.declared.ends.PlayEnd.TheVariants as ends
use Rattle.board_def.specs.Rules.{IsBoard}
use Rattle.board_def.specs.Seen.{BoardSeen}
use Rattle.board_play.specs.Lines.{Move, part}
use Rattle.irq_play.specs.Headline.{CutShort, FullLog, Headline, HungPlay}
use Rattle.irq_play.specs.Played.{runs_of_moves}
use Rattle.notifiers.specs.Told.{Notice}
use Rattle.irq_hotplug.specs.Fleet.{FleetSeen, fleet_after}
use Rattle.irq_hotplug.specs.Notices.{notices_of}
use Rattle.irq_hotplug.specs.declared.events.Event.{Event}
use Rattle.hotplug_plan.specs.Planned.{IsForHotplug, planned}
use Rattle.hotplug_play.specs.Aims.{AimEach}
use Rattle.hotplug_play.specs.Moments.{KeepPlaces}
use Rattle.play_report.specs.Answers.{AnswersOfSome}
use Rattle.play_report.specs.declared.failing.PlayFailed.{PlayFailed}
use Rattle.play_report.specs.declared.failing.PlayFailed.TheVariants as fails
use Rattle.hotplug_play.specs.Texts.{hotplug_text}

-- the board that is played after these events: with the moves of its lines
abbrev pub planned_after : BoardSeen → ℕ → List Event → BoardSeen
planned_after b vectors es = planned b (fleet_after b vectors es)

-- the planned board was played to its end, with these moves
pub record HotplugHeadline (b : BoardSeen) (vectors : ℕ) (es : List Event) (moves : List Move)
    (reports : List LineReport) : Type 0 where
  pub fits : IsForHotplug b
  pub headline : Headline (planned_after b vectors es) moves reports
  -- at each moment the lines have places of their own, on online processors
  pub places : KeepPlaces b vectors es
  -- each placed line is aimed at last where it is placed, and each take after its last move is
  -- there; in a play its moves come last, so none comes after them
  pub aims : AimEach b (fleet_after b vectors es) (λ line. part line moves)

-- the planned board was played until nobody could move, and some actor is hung
pub record HotplugHung (b : BoardSeen) (vectors : ℕ) (es : List Event) (moves : List Move)
    (reports : List LineReport) (line : LineNo) (actor : Actor) : Type 0 where
  pub fits : IsForHotplug b
  pub hung : HungPlay (planned_after b vectors es) moves reports line actor
  pub places : KeepPlaces b vectors es
  -- no move of a line waits: each is made however many actors hang
  pub aims : AimEach b (fleet_after b vectors es) (λ line. part line moves)

-- the planned board was played until a line's history had the greatest length
pub record HotplugFull (b : BoardSeen) (vectors : ℕ) (es : List Event) (moves : List Move)
    (reports : List LineReport) (line : LineNo) (len : ℕ) : Type 0 where
  pub fits : IsForHotplug b
  pub full : FullLog (planned_after b vectors es) moves reports line len

-- the planned board was played until a step was refused memory
pub record HotplugCut (b : BoardSeen) (vectors : ℕ) (es : List Event) (moves : List Move)
    (reports : List LineReport) : Type 0 where
  pub fits : IsForHotplug b
  pub cut : CutShort (planned_after b vectors es) moves reports

-- what the reports hand out, by how the play ended
abbrev pub HotplugHandsOut : BoardSeen → ℕ → List Event → List Move → Result PlayEnd StepRefused
    → List LineReport → Type 0
HotplugHandsOut b vectors es moves (Ok ends.Settled) reports =
    HotplugHeadline b vectors es moves reports
HotplugHandsOut b vectors es moves (Ok (ends.Hung line actor)) reports =
    HotplugHung b vectors es moves reports line actor
HotplugHandsOut b vectors es moves (Err (refusals.Full line len)) reports =
    HotplugFull b vectors es moves reports line len
HotplugHandsOut b vectors es moves (Err refusals.NoMemory) reports =
    HotplugCut b vectors es moves reports

-- What the play of these events answers and prints, by how it ended; the number is that of each
-- processor's vectors. What was said of the lines is printed between the layout and the play.
-- `heard` says of runs that handlers were called for these.
abbrev pub PlaysPlan : BoardSeen → ℕ → List Event → (List Run → Type 0) → List LineReport
    → Option (List ℕ) → Option (List ℕ) → Result PlayEnd PlayFailed → Type 0
PlaysPlan b vectors es heard = AnswersOfSome (hotplug_text b (fleet_after b vectors es).said)
    (HotplugHandsOut b vectors es) (runs_of_moves (planned_after b vectors es)) heard

-- the placings of the lines, at first and at these events, in the order of their rows
abbrev pub placings_after : BoardSeen → ℕ → List Event → List Notice
placings_after b vectors es = notices_of (fleet_after b vectors es).said

-- The placings at first were told, and those at a beginning of the events.
pub record TellsUpTo (told : List Notice → Type 0) (b : BoardSeen) (vectors : ℕ) (es : List Event)
    : Type 0 where
  pub taken : List Event
  pub left : List Event
  pub parts : es ≡ taken ++ left
  pub placings : told (placings_after b vectors taken)

-- Which placings were told, by how the play ended: all of them. If memory was refused before the
-- play, those up to some event, or none. `told` says of placings that notifiers were told of
-- these, in this order, and of no other.
abbrev pub TellsPlacings : (List Notice → Type 0) → BoardSeen → ℕ → List Event
    → Result PlayEnd PlayFailed → Type 0
TellsPlacings told b vectors es (Err fails.NoMemory) = TellsUpTo told b vectors es ⊎ told []
TellsPlacings told b vectors es end = told (placings_after b vectors es)

-- what the play of these events comes to: what it answers and prints, for which runs handlers were
-- called, and of which placings notifiers were told
pub record HotplugsBoard (b : BoardSeen) (vectors : ℕ) (es : List Event)
    (heard : List Run → Type 0) (told : List Notice → Type 0) (reports : List LineReport)
    (before now : Option (List ℕ)) (end : Result PlayEnd PlayFailed) : Type 0 where
  pub plays : PlaysPlan b vectors es heard reports before now end
  pub placings : TellsPlacings told b vectors es end

-- these lines, and this longer board, come of the board and the events
pub record IsPlanOf (b : BoardSeen) (vectors : ℕ) (es : List Event) (f : FleetSeen)
    (longer : BoardSeen) : Type 0 where
  pub board : IsBoard b
  pub fits : IsForHotplug b
  pub fleet : f ≡ fleet_after b vectors es
  pub longer_is : longer ≡ planned b f
