-- What the ready actors of a system are: for each line what it tells of itself, for each driver its
-- current call.
use Rattle.std.specs.Prelude.{◌≡◌, ℕ, Bool, false, nat_le, IsSomeAnd, Option, Some, None, List}
use Rattle.std.specs.Prelude.{length, slice_get}
use Rattle.irq_base.specs.declared.numbers.DevNo.{DevNo}
use Rattle.irq_laws.specs.Blocks.{block_of}
use Rattle.irq_line.specs.Queries.{IsTaker, IsLowestThread, flow_of, blocks_of, spins}
use Rattle.irq_line.specs.Seen.{LineSeen}
use Rattle.board_ready.specs.Seen.{ReadySeen}
use Rattle.board_ready.specs.declared.parts.CurrentCall.{CurrentCall}
use Rattle.board_ready.specs.declared.parts.LineReadiness.{LineReadiness}
use Rattle.board_core.specs.Scripts.{ScriptSeen}
use Rattle.board_core.specs.declared.scripts.PlacedCall.{PlacedCall}

-- what the line tells of itself
pub record IsReadinessOf (x : LineSeen) (told : LineReadiness) : Type 0 where
  pub thread : IsLowestThread x told.thread
  pub flow : told.flow ≡ flow_of x
  pub spins : told.spins ≡ spins x
  pub taker : IsTaker x told.taker
  pub blocks : told.blocks ≡ blocks_of x

abbrev pub call_at : Option PlacedCall → ℕ → Option CurrentCall
call_at None made = None
call_at (Some placed) made =
    Some (record { line = placed.place; wait = block_of placed.call.call made })

-- the driver's current call; none if its script is at its end
abbrev pub call_of : ScriptSeen → Option CurrentCall
call_of s = call_at (slice_get s.calls s.at) s.made

pub record IsReadyFor (lines : List LineSeen) (scripts : List ScriptSeen) (ready : ReadySeen)
    : Type 0 where
  pub all_lines : length ready.lines ≡ length lines
  pub each_line : (k : ℕ) (x : LineSeen) → slice_get lines k ≡ Some x
      → IsSomeAnd (slice_get ready.lines k) (IsReadinessOf x)
  pub all_drivers : length ready.drivers ≡ length scripts
  pub each_driver : (j : ℕ) (s : ScriptSeen) → slice_get scripts j ≡ Some s
      → slice_get ready.drivers j ≡ Some (call_of s)

-- the line's lowest ready thread is the device's, or that of a device with a lower number
abbrev pub is_up_to : DevNo → Option DevNo → Bool
is_up_to d None = false
is_up_to d (Some lowest) = nat_le lowest.0 d.0

abbrev pub has_thread_up_to : Option LineReadiness → DevNo → Bool
has_thread_up_to None d = false
has_thread_up_to (Some told) d = is_up_to d told.thread
