-- Who moves first of some actors, and which call a driver is at.
use Rattle.std.specs.Prelude.{◌≡◌, ◌<◌, ℕ, Bool, false, IsSome, Option, Some, None, List, slice_get}
use Rattle.irq_base.specs.declared.calls.Call.{Call}
use Rattle.irq_base.specs.declared.entries.Actor.{Actor}
use Rattle.irq_base.specs.declared.entries.Actor.TheVariants as actors
use Rattle.irq_base.specs.declared.numbers.CpuNo.{CpuNo}
use Rattle.irq_base.specs.declared.numbers.DriverNo.{DriverNo}
use Rattle.irq_base.specs.declared.numbers.LineNo.{LineNo}
use Rattle.irq_line.specs.Queries.{is_some_take}
use Rattle.irq_model.specs.Due.{due_call}
use Rattle.irq_model.specs.Next.{next_past}
use Rattle.board_play.specs.Lines.{BoardLine}
use Rattle.board_core.specs.Seen.{SystemSeen}
use Rattle.board_core.specs.Turns.{move_of}
use Rattle.board_core.specs.declared.turns.DueCall.{DueCall}

-- it can move, and none before it can
pub record IsFirst (s : SystemSeen) (all : List Actor) (a : Actor) : Type 0 where
  pub place : ℕ
  pub at : slice_get all place ≡ Some a
  pub moves : IsSome (move_of s a)
  pub before : (j : ℕ) (b : Actor) → j < place → slice_get all j ≡ Some b → move_of s b ≡ None

-- the first of the actors that can move; none if none can
abbrev pub IsFirstOf : SystemSeen → List Actor → Option Actor → Type 0
IsFirstOf s all None = (j : ℕ) (b : Actor) → slice_get all j ≡ Some b → move_of s b ≡ None
IsFirstOf s all (Some a) = IsFirst s all a

-- a take of the processor is due on the line, by its signal or by a resend
abbrev pub is_take_due : CpuNo → Option BoardLine → Bool
is_take_due c None = false
is_take_due c (Some x) = is_some_take (next_past x.def x.past (actors.Cpu c))

-- the line's number
abbrev pub number_of : Option BoardLine → Option LineNo
number_of None = None
number_of (Some x) = Some x.def.line

abbrev pub with_line : LineNo → Option (Call × ℕ) → Option DueCall
with_line line None = None
with_line line (Some c) = Some (record { line = line; call = c.0; made = c.1 })

-- the driver's call that is due on the line
abbrev pub call_on : Option BoardLine → DriverNo → Option DueCall
call_on None r = None
call_on (Some x) r = with_line x.def.line (due_call x.def r x.past)
