-- What the program does, ending by ending. `heard` says which runs the handlers were called for;
-- `told` is what the source told of its bytes, `left` what it has left of them; `before` and `now`
-- are what the output has.
use Rattle.std.specs.Prelude.{◌≡◌, ◌⊎◌, ℕ, true, false, Option, Some, None, Result, Err, List, []}
use Rattle.board_def.specs.Rules.{IsBoard}
use Rattle.board_def.specs.Seen.{BoardSeen}
use Rattle.board_stated.specs.OfVersion.{IsOfItsVersion}
use Rattle.explore_picks.specs.Printed.{HeardSome}
use Rattle.explore_picks.specs.declared.failing.ExploreFailed.{ExploreFailed}
use Rattle.explore_words.specs.Words.{may_ask}
use Rattle.explore_words.specs.declared.Asked.{Asked}
use Rattle.explore_words.specs.declared.What.{What}
use Rattle.explore_words.specs.declared.What.TheVariants as whats
use Rattle.irq_base.specs.declared.devices.Run.{Run}
use Rattle.irq_explore.specs.Explored.{ExploresLines, ExploresRow}
use Rattle.irq_explore.specs.Played.{ExploresPlay}
use Rattle.irq_explore.specs.declared.exploring.Explored.{Explored}
use Rattle.program_io.specs.Reading.{IsStated, ReadsBoard}
use Rattle.program_io.specs.declared.inputs.InputRefused.TheVariants as refusals
use Rattle.explore_top.specs.Ending.{ending_of}
use Rattle.explore_top.specs.declared.ending.Ending.{Ending}
use Rattle.explore_top.specs.declared.ending.Ending.TheVariants as endings

-- if the source told its bytes, all of them were read
abbrev pub IsReadToEnd : Option (List ℕ) → Option (List ℕ) → Type 0
IsReadToEnd None left = Unit {0}
IsReadToEnd (Some bytes) left = left ≡ Some []

-- What was asked of the board's lines was done, with this limit of states a line: all that take
-- part were surveyed, or one, or a row was looked for, or a play that comes to it. Only for a play
-- handlers are called.
abbrev pub ExploresWhat : ℕ → What → (List Run → Type 0) → BoardSeen → Option (List ℕ)
    → Option (List ℕ) → Result Explored ExploreFailed → Type 0
ExploresWhat states whats.Survey heard b before now end =
    ExploresLines b states None before now end × heard []
ExploresWhat states (whats.Line line) heard b before now end =
    ExploresLines b states (Some line) before now end × heard []
ExploresWhat states (whats.Row line wanted) heard b before now end =
    ExploresRow states b line wanted before now end × heard []
ExploresWhat states (whats.Play line wanted) heard b before now end =
    ExploresPlay states b line wanted heard before now end

-- what was asked was done with the board, with this ending
abbrev pub ExploresAs : Asked → (List Run → Type 0) → BoardSeen → Option (List ℕ)
    → Option (List ℕ) → Ending → Type 0
ExploresAs asked heard b before now ending =
    (end : Result Explored ExploreFailed) × (ending ≡ ending_of asked.states end)
    × ExploresWhat asked.states asked.what heard b before now end

-- The same, if the board can be asked for it; else nothing was done, and that is a fault of usage.
abbrev pub ExploresOwn : Asked → (List Run → Type 0) → BoardSeen → Option (List ℕ)
    → Option (List ℕ) → Ending → Type 0
ExploresOwn asked heard b before now ending =
    ((may_ask b.version asked.what ≡ true) × ExploresAs asked heard b before now ending)
    ⊎ ((may_ask b.version asked.what ≡ false) × (ending ≡ endings.Usage) × heard [])

-- the row that is asked for is no row of the board that the source told
pub record AsksAnother (asked : Asked) (told left : Option (List ℕ)) : Type 0 where
  pub board : BoardSeen
  pub stated : IsStated told board
  pub read : IsReadToEnd told left
  pub another : may_ask board.version asked.what ≡ false

-- it was done with the board that the source told
pub record ExploresInput (asked : Asked) (heard : List Run → Type 0)
    (told left before now : Option (List ℕ)) (ending : Ending) : Type 0 where
  pub board : BoardSeen
  pub stated : IsStated told board
  pub read : IsReadToEnd told left
  pub keeps_rules : IsBoard board
  pub of_version : IsOfItsVersion board
  pub own : may_ask board.version asked.what ≡ true
  pub done : ExploresAs asked heard board before now ending

-- where memory was refused: nothing was heard, or the runs of a play of the board that the source
-- told
abbrev pub HeardBefore : (List Run → Type 0) → Option (List ℕ) → Type 0
HeardBefore heard told =
    heard [] ⊎ ((b : BoardSeen) × IsStated told b × HeardSome b heard)

-- what was asked was done with the board that the source told; or that board can't be asked for it;
-- or the source gave no board; or memory was refused
abbrev pub Does : Asked → (List Run → Type 0) → Option (List ℕ) → Option (List ℕ)
    → Option (List ℕ) → Option (List ℕ) → Ending → Type 0
Does asked heard told left before now endings.Usage = AsksAnother asked told left × heard []
Does asked heard told left before now (endings.Board fault)
    = ReadsBoard told left (Err (refusals.Fault fault)) × heard []
Does asked heard told left before now endings.ReadFault = heard []
Does asked heard told left before now endings.NoMemory = HeardBefore heard told
Does asked heard told left before now ending =
    ExploresInput asked heard told left before now ending

-- What is done of what is asked, which `IsAsked` tells. If nothing is asked, that is a fault of
-- usage, unless memory was refused, and source and handlers are the `same`.
pub record DoesAsked (IsAsked : Asked → Type 0) (heard : List Run → Type 0)
    (same_source same_handlers : Type 0) (told left before now : Option (List ℕ)) (ending : Ending)
    : Type 0 where
  pub usage : ((asked : Asked) → IsAsked asked → ⊥)
      → (ending ≡ endings.Usage) ⊎ (ending ≡ endings.NoMemory)
  pub unread : ((asked : Asked) → IsAsked asked → ⊥) → same_source
  pub unheard : ((asked : Asked) → IsAsked asked → ⊥) → same_handlers
  pub does : (asked : Asked) → IsAsked asked → Does asked heard told left before now ending
