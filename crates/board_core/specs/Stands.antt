-- Where an actor steps, if it can.
use Rattle.std.specs.Prelude.{◌≡◌, ℕ, IsSome, IsSomeAnd, IfSome, Option, Some, None, slice_get}
use Rattle.irq_base.specs.declared.entries.Actor.{Actor}
use Rattle.irq_base.specs.declared.entries.Actor.TheVariants as actors
use Rattle.irq_base.specs.declared.numbers.LineNo.{LineNo}
use Rattle.board_play.specs.Current.{current_line}
use Rattle.board_play.specs.Lines.{find_line}
use Rattle.board_play.specs.Order.{flow_line, line_for}
use Rattle.board_core.specs.Places.{IsPlace}
use Rattle.board_core.specs.Seen.{SystemSeen, board_lines}
use Rattle.board_core.specs.Turned.{IsScriptOf}
use Rattle.board_core.specs.Turns.{MayWant, move_of, lowest_move}
use Rattle.board_core.specs.declared.stands.Stand.{Stand}

-- the stand has the places of the actor's line and of its script
pub record IsAt (s : SystemSeen) (a : Actor) (stand : Stand) : Type 0 where
  pub line : IsPlace (board_lines s.lines) (Some stand.line)
      (line_for s.board (board_lines s.lines) a)
  pub script : IsScriptOf s.board.drivers a stand.script

-- a driver's current call is on the line at place k, and a processor that has a flow has it there;
-- a thread may step anywhere
abbrev pub IsCurrentAt : SystemSeen → Actor → ℕ → Type 0
IsCurrentAt s (actors.Driver r) k =
    current_line s.board.calls (board_lines s.lines) r ≡ slice_get (board_lines s.lines) k
IsCurrentAt s (actors.Cpu c) k =
    IfSome (flow_line (board_lines s.lines) c) (λ x. slice_get (board_lines s.lines) k ≡ Some x)
IsCurrentAt s (actors.Thread d) k = Unit {0}

-- the stand's line is there, the actor may step on it, and the stand's script is the actor's own
pub record CanStepAt (s : SystemSeen) (a : Actor) (stand : Stand) : Type 0 where
  pub line : IsSome (slice_get (board_lines s.lines) stand.line)
  pub current : IsCurrentAt s a stand.line
  pub script : IsScriptOf s.board.drivers a stand.script

-- a driver's current call is on the line of this number, and a processor that has a flow has it
-- there; a thread may step anywhere
abbrev pub IsCurrentOn : SystemSeen → LineNo → Actor → Type 0
IsCurrentOn s line (actors.Driver r) =
    IsSomeAnd (current_line s.board.calls (board_lines s.lines) r) (λ x. x.def.line ≡ line)
IsCurrentOn s line (actors.Cpu c) =
    IfSome (flow_line (board_lines s.lines) c) (λ x. x.def.line ≡ line)
IsCurrentOn s line (actors.Thread d) = Unit {0}

-- where the actor may move; none if it can't
abbrev pub IsStand : SystemSeen → Actor → Option Stand → Type 0
IsStand s a None = move_of s a ≡ None
IsStand s a (Some stand) = IsAt s a stand × MayWant s a

-- the lowest actor that can move, and where it steps; none if nobody can
abbrev pub IsLowestStand : SystemSeen → Option (Actor × Stand) → Type 0
IsLowestStand s None = lowest_move s ≡ None
IsLowestStand s (Some (a, stand)) =
    IsAt s a stand × (lowest_move s ≡ move_of s a) × IsSome (move_of s a)

-- the place of the actor's script; none: it is no driver, or a driver without a current call
abbrev pub IsScriptPlace : SystemSeen → Actor → Option ℕ → Type 0
IsScriptPlace s (actors.Driver r) None = current_line s.board.calls (board_lines s.lines) r ≡ None
IsScriptPlace s a o = IsScriptOf s.board.drivers a o

-- the place of the line with this number, and the place of the actor's script; none if the line
-- takes no part
abbrev pub IsStandOn : SystemSeen → LineNo → Actor → Option Stand → Type 0
IsStandOn s line a None = find_line (board_lines s.lines) line ≡ None
IsStandOn s line a (Some stand) = CanStepAt s a stand
    × (slice_get (board_lines s.lines) stand.line ≡ find_line (board_lines s.lines) line)
