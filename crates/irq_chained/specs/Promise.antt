-- What is promised of lines behind a demultiplexer: at each moment, and as a chain is left.
use Rattle.std.specs.Prelude.{◌≡◌, ℕ, true, is_some, IsTrue, ◌||◌, Some, None, List, ◌∷◌, ◌++◌}
use Rattle.std.specs.Prelude.{reverse, slice_get}
use Rattle.irq_base.specs.Cell.{signals}
use Rattle.irq_model.specs.Rounds.{flow, is_cpu}
use Rattle.board_def.specs.Seen.{BoardSeen}
use Rattle.board_play.specs.Lines.{BoardLine}
use Rattle.board_play.specs.Order.{flow_line}
use Rattle.board_ready.specs.Sets.{has}
use Rattle.irq_chained.specs.Chain.{cpu_0, has_take_due, is_taken, lines_in, open_status}
use Rattle.irq_chained.specs.Parent.{is_asked, parent_cell}
use Rattle.irq_chained.specs.declared.chain.ChainEntry.{ChainEntry}
use Rattle.irq_chained.specs.declared.chain.ChainEntry.TheVariants as steps

-- After these steps, the newest first: the parent is masked exactly while a chain is open, and its
-- input is high exactly while some child has a take due. So no child's signal is lost: as long as
-- one has a take due, a chain is open or the parent signals.
pub record LosesNothing (b : BoardSeen) (g : List ChainEntry) : Type 0 where
  pub masked : (parent_cell b g).masked ≡ is_some (open_status g)
  pub high : (parent_cell b g).high ≡ is_asked (lines_in b g)
  pub seen : (i : ℕ) (x : BoardLine) → slice_get (lines_in b g) i ≡ Some x
      → has_take_due x ≡ true → IsTrue (is_some (open_status g) || signals (parent_cell b g))

-- Just before an exit: a chain is open, no child has a flow of processor 0, and no child of the
-- status that has a take due is without a take since the enter.
pub record IsWalked (b : BoardSeen) (g : List ChainEntry) : Type 0 where
  pub status : ℕ
  pub is : open_status g ≡ Some status
  pub at_rest : flow_line (lines_in b g) cpu_0 ≡ None
  pub each : (i : ℕ) (x : BoardLine) → slice_get (lines_in b g) i ≡ Some x
      → has status i ≡ true → has_take_due x ≡ true → is_taken g x.def.line ≡ true

-- at each moment of the log, whose oldest step comes first, and at each of its exits
pub record KeepsSignals (b : BoardSeen) (log : List ChainEntry) : Type 0 where
  pub always : (before after : List ChainEntry) → log ≡ before ++ after
      → LosesNothing b (reverse before)
  pub exits : (before after : List ChainEntry) → log ≡ before ++ steps.Exit cpu_0 ∷ after
      → IsWalked b (reverse before)

-- at most one child has a flow of processor 0
abbrev pub HasOneFlow : List BoardLine → Type 0
HasOneFlow lines = (i j : ℕ) (x y : BoardLine) → slice_get lines i ≡ Some x
    → slice_get lines j ≡ Some y → is_cpu cpu_0 (flow x.def x.past) ≡ true
    → is_cpu cpu_0 (flow y.def y.past) ≡ true → i ≡ j
