-- What each command does, ending by ending. `told` is what the source told of its bytes, `left`
-- what it has left of them; `before` and `now` are what the output has; `reports` are the histories
-- that are handed out. Of runs, the newest first, `heard` says that handlers were called once for
-- each, in this order, and for no other; of a run and an answer `gave` says that the handlers which
-- threads share gave it in a call; and of placings `placed` says that the notifier was told of
-- these, in this order, and of no other.
use Rattle.std.specs.Prelude.{◌≡◌, ◌⊎◌, ℕ, Bool, true, false, Option, Some, None, List, []}
use Rattle.std.specs.Prelude.{Result, Err}
use Rattle.irq_base.specs.declared.devices.Answer.{Answer}
use Rattle.irq_base.specs.declared.devices.Run.{Run}
use Rattle.irq_base.specs.declared.entries.Entry.{Entry}
use Rattle.irq_base.specs.declared.numbers.LineNo.{LineNo}
use Rattle.irq_base.specs.declared.reporting.LineReport.{LineReport}
use Rattle.board_core.specs.declared.ends.PlayEnd.{PlayEnd}
use Rattle.board_def.specs.Rules.{IsBoard}
use Rattle.board_def.specs.Seen.{BoardSeen}
use Rattle.board_gen.specs.Generated.{generated}
use Rattle.board_stated.specs.TextOf.{whole}
use Rattle.board_words.specs.declared.faults.BoardFault.{BoardFault}
use Rattle.board_words.specs.declared.faults.FaultKind.{FaultKind}
use Rattle.board_words.specs.declared.faults.FaultKind.TheVariants as faults
use Rattle.chained_play.specs.Played as chains
use Rattle.chained_play.specs.Played.{ChainsBoard}
use Rattle.hotplug_plan.specs.Planned.{IsForHotplug}
use Rattle.hotplug_play.specs.Played.{HotplugsBoard, planned_after}
use Rattle.irq_chained.specs.Fits.{is_for_chain}
use Rattle.irq_hotplug.specs.declared.events.Event.{Event}
use Rattle.irq_check.specs.Ends.{Reads, SaysOrNot}
use Rattle.irq_check.specs.declared.answers.Judgement.{Judgement}
use Rattle.irq_check.specs.declared.failing.CheckFailed.{CheckFailed}
use Rattle.irq_play.specs.Played.{PlaysBoard, TellsStep}
use Rattle.irq_pm.specs.SleptBoard.{is_for_sleep}
use Rattle.notifiers.specs.Told.{Notice}
use Rattle.sleep_play.specs.Played as sleeps
use Rattle.sleep_play.specs.Played.{SleepsBoard}
use Rattle.irq_run.specs.Ran as runs
use Rattle.irq_run.specs.Ran.{RunsBoard}
use Rattle.play_report.specs.declared.failing.PlayFailed.{PlayFailed}
use Rattle.play_report.specs.declared.failing.PlayFailed.TheVariants as plays
use Rattle.irq_words.specs.Words.{Asks}
use Rattle.irq_words.specs.declared.Command.{Command}
use Rattle.irq_words.specs.declared.Command.TheVariants as commands
use Rattle.program_io.specs.Reading.{IsStated, ReadsBoard}
use Rattle.program_io.specs.declared.inputs.InputRefused.{InputRefused}
use Rattle.program_io.specs.declared.inputs.InputRefused.TheVariants as refusals
use Rattle.irq_top.specs.Ending.{ending_of_check, ending_of_play}
use Rattle.irq_top.specs.declared.ending.Ending.{Ending}
use Rattle.irq_top.specs.declared.ending.Ending.TheVariants as endings

-- if the source told its bytes, all of them were read
abbrev pub IsReadToEnd : Option (List ℕ) → Option (List ℕ) → Type 0
IsReadToEnd None left = Unit {0}
IsReadToEnd (Some bytes) left = left ≡ Some []

-- nobody was called: handlers and notifier are as they were
abbrev pub CallsNobody : (List Run → Type 0) → (List Notice → Type 0) → Type 0
CallsNobody heard placed = heard [] × placed []

-- the source gave no board, and `nobody` was called
pub record RefusesInput (nobody : Type 0) (told left : Option (List ℕ)) (reports : List LineReport)
    (refused : InputRefused) : Type 0 where
  pub read : ReadsBoard told left (Err refused)
  pub reports_are : reports ≡ []
  pub uncalled : nobody

-- what a command does with a board: with these reports, with this output before and now, and with
-- this ending
module _ (nobody : Type 0) (OnBoard : BoardSeen → List LineReport → Option (List ℕ)
    → Option (List ℕ) → Ending → Type 0) where
  -- the command did it with the board that the source told
  pub record TakesInput (told left : Option (List ℕ)) (reports : List LineReport)
      (before now : Option (List ℕ)) (ending : Ending) : Type 0 where
    pub board : BoardSeen
    pub stated : IsStated told board
    pub read : IsReadToEnd told left
    pub keeps_rules : IsBoard board
    pub done : OnBoard board reports before now ending

  -- the command did it with the board that the source told; or the source gave no board
  abbrev pub TakesBoard : Option (List ℕ) → Option (List ℕ) → List LineReport → Option (List ℕ)
      → Option (List ℕ) → Ending → Type 0
  TakesBoard told left reports before now (endings.Board fault) =
      RefusesInput nobody told left reports (refusals.Fault fault)
      ⊎ TakesInput told left reports before now (endings.Board fault)
  TakesBoard told left reports before now endings.ReadFault =
      RefusesInput nobody told left reports refusals.ReadFault
  TakesBoard told left reports before now endings.NoMemory =
      RefusesInput nobody told left reports refusals.NoMemory
      ⊎ TakesInput told left reports before now endings.NoMemory
  TakesBoard told left reports before now ending = TakesInput told left reports before now ending

-- a board was played or run, and the call ends as that did
module _ (Plays : BoardSeen → List LineReport → Option (List ℕ) → Option (List ℕ)
    → Result PlayEnd PlayFailed → Type 0) where
  abbrev pub EndsAs : BoardSeen → List LineReport → Option (List ℕ) → Option (List ℕ) → Ending
      → Type 0
  EndsAs b reports before now ending =
      (end : Result PlayEnd PlayFailed) × (ending ≡ ending_of_play end)
      × Plays b reports before now end

-- the board isn't for what is asked: this fault of the whole text says so, nothing is handed out,
-- and `nobody` was called
pub record IsRefused (isnt_for nobody : Type 0) (kind : FaultKind) (reports : List LineReport)
    (fault : BoardFault) : Type 0 where
  pub because : isnt_for
  pub fault_is : fault ≡ whole kind
  pub reports_are : reports ≡ []
  pub uncalled : nobody

-- a board was played, if it is for that; else it is refused
module _ (IsntFor : BoardSeen → Type 0) (nobody : Type 0) (kind : FaultKind)
    (Plays : BoardSeen → List LineReport → Option (List ℕ) → Option (List ℕ)
    → Result PlayEnd PlayFailed → Type 0) where
  abbrev pub EndsIfFit : BoardSeen → List LineReport → Option (List ℕ) → Option (List ℕ) → Ending
      → Type 0
  EndsIfFit b reports before now (endings.Board fault) =
      IsRefused (IsntFor b) nobody kind reports fault
  EndsIfFit b reports before now ending = EndsAs Plays b reports before now ending

module _ (heard : List Run → Type 0) where
  -- a board was played by the stated order
  abbrev pub PlaysAs : Bool → BoardSeen → List LineReport → Option (List ℕ) → Option (List ℕ)
      → Ending → Type 0
  PlaysAs summary = EndsAs (λ b. PlaysBoard b summary heard)

  -- a board was played behind one demultiplexer; exactly a board that isn't for a chain is refused
  abbrev pub ChainsAs : BoardSeen → List LineReport → Option (List ℕ) → Option (List ℕ) → Ending
      → Type 0
  ChainsAs = EndsIfFit (λ b. is_for_chain b ≡ false) (heard []) faults.NotForChain
      (λ b. ChainsBoard b heard)

  -- a board was played with processors that go offline and come back, and the notifier told of each
  -- placing; exactly a board that isn't for it is refused
  abbrev pub HotplugsAs : (List Notice → Type 0) → ℕ → List Event → BoardSeen → List LineReport
      → Option (List ℕ) → Option (List ℕ) → Ending → Type 0
  HotplugsAs placed vectors events = EndsIfFit (λ b. IsForHotplug b → ⊥) (CallsNobody heard placed)
      faults.NotForHotplug (λ b. HotplugsBoard b vectors events heard placed)

  -- a board was played with a sleep, from which the armed lines wake it; exactly a board that isn't
  -- for it, with these lines, is refused
  abbrev pub SleepsAs : List LineNo → BoardSeen → List LineReport → Option (List ℕ)
      → Option (List ℕ) → Ending → Type 0
  SleepsAs armed = EndsIfFit (λ b. is_for_sleep b armed ≡ false) (heard []) faults.NotForSleep
      (λ b. SleepsBoard b armed heard)

-- a board was run by threads; of each run of a handler and its answer holds `gave`
abbrev pub RunsAs : (gave : Run → Answer → Type 0) → Bool → BoardSeen → List LineReport
    → Option (List ℕ) → Option (List ℕ) → Ending → Type 0
RunsAs gave summary = EndsAs (λ b. RunsBoard gave b summary)

-- the input was checked, with this end, and no history is handed out; `why`: with the reason of a
-- log that is unlawful
pub record ChecksInput (why : Bool) (told left : Option (List ℕ)) (reports : List LineReport)
    (before now : Option (List ℕ)) (end : Result Judgement CheckFailed) : Type 0 where
  pub reads : Reads why told left end
  pub says : SaysOrNot why told before now end
  pub reports_are : reports ≡ []

-- `check`: the log of the input is lawful; or unlawful, or malformed, as the ending says; or the
-- input is refused
abbrev pub Checks : (why : Bool) → Option (List ℕ) → Option (List ℕ) → List LineReport
    → Option (List ℕ) → Option (List ℕ) → Ending → Type 0
Checks why told left reports before now ending =
    (end : Result Judgement CheckFailed) × (ending ≡ ending_of_check end)
    × ChecksInput why told left reports before now end

-- What each command does. `run`, `play`, `chained`, `hotplug` and `sleep` take a board, and run it,
-- play it, or play it behind one demultiplexer, with processors that go offline, or with a sleep;
-- `check` judges a log; `gen N` plays the board that the number generates, and prints its summary.
-- `hotplug` alone tells the notifier of anything, `run` and `check` call no handler but shared
-- ones.
module _ (heard : List Run → Type 0) (gave : Run → Answer → Type 0) where
  module _ (placed : List Notice → Type 0) where
    abbrev pub Does : Command → Option (List ℕ) → Option (List ℕ) → List LineReport
        → Option (List ℕ) → Option (List ℕ) → Ending → Type 0
    Does (commands.Run summary) told left reports before now ending =
        TakesBoard (Unit {0}) (RunsAs gave summary) told left reports before now ending
        × CallsNobody heard placed
    Does (commands.Play summary) told left reports before now ending =
        TakesBoard (heard []) (PlaysAs heard summary) told left reports before now ending
        × placed []
    Does (commands.Check why) told left reports before now ending =
        Checks why told left reports before now ending × CallsNobody heard placed
    Does (commands.Gen n) told left reports before now ending =
        PlaysAs heard true (generated n) reports before now ending × placed []
    Does commands.Chained told left reports before now ending =
        TakesBoard (heard []) (ChainsAs heard) told left reports before now ending × placed []
    Does (commands.Hotplug vectors events) told left reports before now ending =
        TakesBoard (CallsNobody heard placed) (HotplugsAs heard placed vectors events) told left
        reports before now ending
    Does (commands.Sleep armed) told left reports before now ending =
        TakesBoard (heard []) (SleepsAs heard armed) told left reports before now ending × placed []

-- which step of a play was refused memory; `may_want` says for which entry that is due a line may
-- want memory, though its history has room
module _ (Tells : BoardSeen → List LineReport → Result PlayEnd PlayFailed → Type 0) where
  abbrev pub TellsPlay : BoardSeen → List LineReport → Ending → Type 0
  TellsPlay b reports (endings.Step refused) = Tells b reports (Err (plays.Step refused))
  TellsPlay b reports ending = Unit {0}

  -- the same, of the board that the source told
  abbrev pub TellsTaken : Option (List ℕ) → List LineReport → Ending → Type 0
  TellsTaken told reports (endings.Step refused) =
      (b : BoardSeen) × IsStated told b × Tells b reports (Err (plays.Step refused))
  TellsTaken told reports ending = Unit {0}

-- what each command tells of a step that was refused memory
abbrev pub TellsWanted : (Option Entry → Type 0) → Command → Option (List ℕ) → List LineReport
    → Ending → Type 0
TellsWanted may_want (commands.Play summary) told reports ending =
    TellsTaken (TellsStep may_want) told reports ending
TellsWanted may_want (commands.Gen n) told reports ending =
    TellsPlay (TellsStep may_want) (generated n) reports ending
TellsWanted may_want commands.Chained told reports ending =
    TellsTaken (chains.TellsStep may_want) told reports ending
TellsWanted may_want (commands.Hotplug vectors events) told reports ending =
    TellsTaken (λ b. TellsStep may_want (planned_after b vectors events)) told reports ending
TellsWanted may_want (commands.Sleep armed) told reports ending =
    TellsTaken (λ b. sleeps.TellsStep may_want b armed) told reports ending
TellsWanted may_want (commands.Run summary) told reports ending =
    TellsTaken (runs.TellsStep may_want) told reports ending
TellsWanted may_want (commands.Check why) told reports ending = Unit {0}

-- whether the command reads the source
abbrev pub reads : Command → Bool
reads (commands.Run summary) = true
reads (commands.Play summary) = true
reads (commands.Check why) = true
reads (commands.Gen n) = false
reads commands.Chained = true
reads (commands.Hotplug vectors events) = true
reads (commands.Sleep armed) = true

-- no command that these words ask for reads the source: they ask for none, or for one that doesn't
abbrev pub ReadsNothing : List (List ℕ) → Type 0
ReadsNothing words = (asked : Command) → Asks words asked → reads asked ≡ false

-- What is done of the command that is asked, which `IsAsked` tells. If none is, that is a fault of
-- usage, unless memory was refused, and nothing is handed out or called. `same`: so is the source.
pub record DoesAsked (heard : List Run → Type 0) (gave : Run → Answer → Type 0)
    (placed : List Notice → Type 0) (may_want : Option Entry → Type 0) (same : Type 0)
    (IsAsked : Command → Type 0) (told left : Option (List ℕ)) (reports : List LineReport)
    (before now : Option (List ℕ)) (ending : Ending) : Type 0 where
  pub form : (asked : Command) → IsAsked asked → ending ≡ endings.Usage → ⊥
  pub usage : ((asked : Command) → IsAsked asked → ⊥)
      → (ending ≡ endings.Usage) ⊎ (ending ≡ endings.NoMemory)
  pub unasked : ((asked : Command) → IsAsked asked → ⊥) → reports ≡ []
  pub uncalled : ((asked : Command) → IsAsked asked → ⊥) → CallsNobody heard placed
  pub unread : ((asked : Command) → IsAsked asked → reads asked ≡ false) → same
  pub does : (asked : Command) → IsAsked asked
      → Does heard gave placed asked told left reports before now ending
  pub wanted : (asked : Command) → IsAsked asked → TellsWanted may_want asked told reports ending
