-- The laws of every legal history: sentences about each entry and the entries before it.
use Rattle.std.specs.Prelude.{◌≡◌, ◌+◌, ◌≤◌, Bool, true, false, ◌||◌, ◌&&◌, Some, List, ◌∷◌}
use Rattle.std.specs.Prelude.{reverse}
use Rattle.irq_base.specs.declared.numbers.CpuNo.{CpuNo}
use Rattle.irq_base.specs.declared.numbers.DevNo.{DevNo}
use Rattle.irq_base.specs.declared.lines.LineDef.{LineDef}
use Rattle.irq_base.specs.declared.entries.Actor.TheVariants as actors
use Rattle.irq_base.specs.declared.entries.Entry.{Entry}
use Rattle.irq_base.specs.declared.entries.Entry.TheVariants as by
use Rattle.irq_base.specs.declared.entries.CpuEntry.TheVariants as cpus
use Rattle.irq_base.specs.declared.entries.TakeAnswer.TheVariants as takes
use Rattle.irq_base.specs.declared.entries.Way.{Way}
use Rattle.irq_model.specs.Places.{EachEntry, stands, count_of}
use Rattle.irq_model.specs.Kinds.{is_device_edge, is_begin, is_return, is_thread_begin}
use Rattle.irq_model.specs.Kinds.{is_thread_return, is_finish, is_done, is_freed, links_dev}
use Rattle.irq_model.specs.Kinds.{is_reopening, is_line_take, is_resend_take, is_chip_start}
use Rattle.irq_model.specs.Kinds.{is_soft_start, is_again, is_hard_clear, is_synced}
use Rattle.irq_model.specs.Lines.{is_edge_line, is_level_line, is_eoi_flow}
use Rattle.irq_model.specs.Links.{depth}
use Rattle.irq_model.specs.Asks.{is_high}
use Rattle.irq_model.specs.Rounds.{has_flow}
use Rattle.irq_model.specs.Signal.{target}
use Rattle.irq_model.specs.Threads.{is_woken, is_running, is_some_unfinished}
use Rattle.irq_model.specs.Owed.{is_owed}
use Rattle.irq_model.specs.Reason.{is_called}
use Rattle.irq_model.specs.Next.{next}

-- no overlap: a device's handler is called only when it isn't at work, and its thread's run begins
-- only when it isn't in one
abbrev pub NoOverlap : LineDef → List Entry → Type 0
NoOverlap def h =
    EachEntry (λ e past. (d : DevNo)
    → (is_begin d e ≡ true → is_called past d ≡ false)
    × (is_thread_begin d e ≡ true → is_running past d ≡ false)) (reverse h)

-- an entry of a run of d, by its handler or by its thread
abbrev pub is_run_of : DevNo → Entry → Bool
is_run_of d e = is_begin d e
    || (is_return d e
    || (is_thread_begin d e || (is_thread_return d e || (is_finish d e || is_done d e))))

-- silence after free: no run of a device comes after its free before it is linked again
abbrev pub IsSilentAfterFree : LineDef → List Entry → Type 0
IsSilentAfterFree def h =
    EachEntry (λ e past. (d : DevNo) → is_run_of d e ≡ true
    → stands (is_freed d) (links_dev d) past ≡ false) (reverse h)

-- the one-shot promise: when an end or a finish opens a level line, no thread is unfinished
abbrev pub KeepsOneshot : LineDef → List Entry → Type 0
KeepsOneshot def h =
    is_level_line def ≡ true
    → EachEntry (λ e past. is_reopening e ≡ true
    → is_some_unfinished def (e ∷ past) ≡ false) (reverse h)

-- takes are counted: an edge line takes no more interrupts than came
pub record TakesAreCounted (def : LineDef) (h : List Entry) : Type 0 where
  pub line : is_edge_line def ≡ true → count_of is_line_take (reverse h)
      ≤ count_of is_device_edge (reverse h) + count_of is_chip_start (reverse h) + count_of
      (λ e. is_eoi_flow def.flow && is_again e) (reverse h)
  pub resend : is_edge_line def ≡ true
      → count_of is_resend_take (reverse h) ≤ count_of is_soft_start (reverse h)

-- synchronised calls: a hard clear comes only when no handler is at work, the end of a sync only
-- when no thread is
abbrev pub IsSynchronised : LineDef → List Entry → Type 0
IsSynchronised def h =
    EachEntry (λ e past. (d : DevNo)
    → (is_hard_clear e ≡ true → is_called past d ≡ false)
    × (is_synced e ≡ true → (is_woken past d || is_running past d) ≡ false)) (reverse h)

-- the entry that is due of the target is a take that is handled
abbrev pub IsHandledNext : LineDef → List Entry → Type 0
IsHandledNext def h = (c : CpuNo) × (way : Way) × (target def (reverse h) ≡ Some c)
    × (next def h (actors.Cpu c) ≡ Some (by.Cpu c (cpus.Take way takes.Handle)))

-- served when idle: on an enabled line without a flow, what is owed, or high with no thread
-- unfinished, is handled next
pub record IsServedWhenIdle (def : LineDef) (h : List Entry) : Type 0 where
  pub owed : depth (reverse h) ≡ 0 → has_flow def (reverse h) ≡ false → (d : DevNo)
      → is_owed def d (reverse h) ≡ true → IsHandledNext def h
  pub high : depth (reverse h) ≡ 0 → has_flow def (reverse h) ≡ false
      → is_high def (reverse h) ≡ true → is_some_unfinished def (reverse h) ≡ false
      → IsHandledNext def h
