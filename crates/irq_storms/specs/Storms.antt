-- How many entries of each kind a history has at most: sentences about its entries and the line's
-- definition.
use Rattle.std.specs.Prelude.{◌≡◌, ◌+◌, ◌*◌, ◌≤◌, true, false, not, ◌&&◌, List, length, reverse}
use Rattle.irq_base.specs.declared.numbers.DevNo.{DevNo}
use Rattle.irq_base.specs.declared.lines.LineDef.{LineDef}
use Rattle.irq_base.specs.declared.entries.Entry.{Entry}
use Rattle.irq_model.specs.Places.{stands, count_of}
use Rattle.irq_model.specs.Kinds.{wakes, is_thread_begin, is_thread_return, is_finish, is_done}
use Rattle.irq_model.specs.Kinds.{is_take, is_busy, is_off, is_again, is_any_ask, is_ask, is_kill}
use Rattle.irq_model.specs.Kinds.{is_start, is_device_edge}
use Rattle.irq_model.specs.Lines.{is_edge_line, is_level_line, is_level_flow, is_eoi_flow}
use Rattle.irq_model.specs.Links.{is_disabled}
use Rattle.irq_model.specs.Asks.{unserved_asks}
use Rattle.irq_model.specs.Masks.{is_masked}
use Rattle.irq_model.specs.Rounds.{begins_round, has_flow}
use Rattle.irq_model.specs.Waiting.{is_pending}
use Rattle.irq_model.specs.Spurious.{counts_of}
use Rattle.irq_model.specs.Bounds.{ask_calls, other_calls}
use Rattle.irq_model.specs.RunBounds.{told_handled}
use Rattle.irq_storms.specs.Tests.{is_any_begin, is_any_return, is_end, is_any_serving, serves_of}
use Rattle.irq_storms.specs.Tests.{asks_served, all_served, total, is_by_any_driver, is_renewal}
use Rattle.irq_storms.specs.Tests.{answers_handled}
use Rattle.irq_storms.specs.Judged.{one_if, count_where, handled_ends, nothing_ends, deferred_ends}
use Rattle.irq_storms.specs.Judged.{clearing_ends, breaks, starts_killed, renewals, serving_marks}
use Rattle.irq_storms.specs.Judged.{allowed}

-- runs are counted: a round calls each device's handler once at most, and has one end at most; a
-- thread runs no more often than it was woken
pub record RunsAreCounted (def : LineDef) (h : List Entry) : Type 0 where
  pub begins : count_of is_any_begin (reverse h) ≤ length def.devices * count_of
      (begins_round def) (reverse h)
  pub returns : count_of is_any_return (reverse h) ≤ count_of is_any_begin (reverse h)
  pub ends : count_of is_end (reverse h) ≤ count_of (begins_round def) (reverse h)
  pub thread_begins : (d : DevNo)
      → count_of (is_thread_begin d) (reverse h) ≤ count_of (wakes d) (reverse h)
  pub thread_returns : (d : DevNo)
      → count_of (is_thread_return d) (reverse h) ≤ count_of (is_thread_begin d) (reverse h)
  pub finishes : (d : DevNo)
      → count_of (is_finish d) (reverse h) ≤ count_of (is_thread_begin d) (reverse h)
  pub dones : (d : DevNo)
      → count_of (is_done d) (reverse h) ≤ count_of (is_thread_begin d) (reverse h)

-- drivers' calls are counted: an ask makes one entry, any other call at most three; at most one of
-- these starts the line, links a device or hands in a moment
pub record CallsAreCounted (def : LineDef) (h : List Entry) : Type 0 where
  pub entries : count_of is_by_any_driver (reverse h) ≤ ask_calls def + 3 * other_calls def
  pub asks : count_of is_any_ask (reverse h) ≤ ask_calls def
  pub renewals : count_of (λ e. is_by_any_driver e && is_renewal e) (reverse h)
      ≤ other_calls def

-- asks are counted: each ask of a device is either served or unserved, and each run or call that
-- served something has an ask of its own
pub record AsksAreCounted (def : LineDef) (h : List Entry) : Type 0 where
  pub exact : (d : DevNo)
      → total (asks_served d) (reverse h) + unserved_asks def d (reverse h)
      ≡ count_of (is_ask d) (reverse h)
  pub runs : (d : DevNo) → count_of (serves_of d) (reverse h) + unserved_asks def d (reverse h) ≤
      count_of (is_ask d) (reverse h)
  pub all : total all_served (reverse h) + total (λ x. unserved_asks def x.dev (reverse h))
      def.devices ≡ count_of is_any_ask (reverse h)
  pub all_runs : count_of is_any_serving (reverse h) ≤ count_of is_any_ask (reverse h)

-- the runs that answer Handled are counted: each has an ask of its own that it met, or a word of
-- the
-- board's
abbrev pub HandledAreCounted : LineDef → List Entry → Type 0
HandledAreCounted def h = count_of answers_handled (reverse h) ≤ ask_calls def + told_handled def

-- renewals are counted: runs start a killed line no more often than drivers make calls that aren't
-- asks, and drivers renew once a call
pub record RenewalsAreCounted (def : LineDef) (h : List Entry) : Type 0 where
  pub by_runs : count_where starts_killed (reverse h) ≤ other_calls def
  pub all : renewals (reverse h) ≤ 2 * other_calls def

-- an edge line is counted: an end that goes on has a take of its own that was answered Busy, and
-- each round an edge of its own; there are no more takes than edges of devices, starts and ends
-- that go on
pub record IsEdgeCounted (def : LineDef) (past : List Entry) : Type 0 where
  pub agains : count_of is_again past + one_if (has_flow def past
      && is_pending def past) ≤ count_of is_busy past
  pub rounds : count_of (begins_round def) past ≤ count_of is_device_edge past
  pub takes : count_of is_take past
      ≤ count_of is_device_edge past + count_of is_start past + count_of is_again past

abbrev pub EdgeIsCounted : LineDef → List Entry → Type 0
EdgeIsCounted def h = is_edge_line def ≡ true → IsEdgeCounted def (reverse h)

-- the line was killed and not started since: it is disabled, with no flow in progress
pub record IsShut (def : LineDef) (past : List Entry) : Type 0 where
  pub disabled : is_disabled past ≡ true
  pub no_flow : has_flow def past ≡ false

-- the line wasn't started since the last take that was answered Off, or ever: it is masked and
-- disabled
pub record IsClosed (def : LineDef) (past : List Entry) : Type 0 where
  pub masked : is_masked def past ≡ true
  pub disabled : is_disabled past ≡ true

-- a level line is counted
pub record IsLevelCounted (def : LineDef) (past : List Entry) : Type 0 where
  -- an end judged handled has a run of its own that answered Handled
  pub handled : handled_ends def past + serving_marks def past ≤ count_of answers_handled past
  -- only an end whose round both woke a thread and handled gives the deferred mark up, and it is
  -- judged handled
  pub deferred : deferred_ends def past ≤ clearing_ends def past + one_if
      (counts_of def past).deferred
  pub clearing : clearing_ends def past ≤ handled_ends def past
  pub shut : stands is_kill is_start past ≡ true → IsShut def past
  -- between two breaks, before the first and after the last, at most two windows of ends are judged
  -- nothing
  pub nothing : nothing_ends def past + allowed def past ≤ 2 * def.window * (breaks def past + 1)
  -- and at most a window for each end judged handled, for each renewal, and two more
  pub renewed : nothing_ends def past + allowed def past
      ≤ def.window * (handled_ends def past + renewals past + 2)
  -- each take that was answered Busy or Off has a start of its own
  pub busy : is_level_flow def.flow ≡ true
      → count_of is_busy past + one_if (has_flow def past
      && not (is_masked def past)) ≤ count_of is_start past
  pub none_busy : is_eoi_flow def.flow ≡ true → count_of is_busy past ≡ 0
  pub off : count_of is_off past + one_if (stands is_start is_off past) ≤ count_of is_start past
  pub closed : stands is_start is_off past ≡ false → IsClosed def past

abbrev pub LevelIsCounted : LineDef → List Entry → Type 0
LevelIsCounted def h = is_level_line def ≡ true → IsLevelCounted def (reverse h)
