-- Why a started line is masked, and what each entry keeps so that there is a reason. Each part is a
-- fact of the past, whose newest entry comes first.
use Rattle.std.specs.Prelude.{◌≡◌, Bool, true, false, not, ◌||◌, ◌&&◌, List, [], ◌∷◌, reverse}
use Rattle.std.specs.List.{list_any}
use Rattle.irq_base.specs.declared.numbers.DevNo.{DevNo}
use Rattle.irq_base.specs.declared.lines.LineDef.{LineDef}
use Rattle.irq_base.specs.declared.entries.Entry.{Entry}
use Rattle.irq_base.specs.declared.entries.Entry.TheVariants as by
use Rattle.irq_base.specs.declared.entries.CallEntry.TheVariants as called
use Rattle.irq_base.specs.declared.entries.UnlinkAnswer.TheVariants as unlinks
use Rattle.irq_base.specs.Who.{actor_of}
use Rattle.irq_model.specs.Places.{stands, since, some_place}
use Rattle.irq_model.specs.Kinds.{is_begin, is_return, is_hard_clear, is_by}
use Rattle.irq_model.specs.Kinds.{is_freed, is_freed_by, is_finish, is_thread_begin, unlinks_dev}
use Rattle.irq_model.specs.Lines.{is_edge_line, is_level_line, is_edge_flow, is_eoi_flow}
use Rattle.irq_model.specs.Links.{is_linked, is_none_linked, depth, is_disabled, is_started}
use Rattle.irq_model.specs.Links.{is_oneshot, linking_flags}
use Rattle.irq_model.specs.Masks.{is_masked}
use Rattle.irq_model.specs.Rounds.{has_flow, has_begun}
use Rattle.irq_model.specs.Waiting.{is_pending}
use Rattle.irq_model.specs.Threads.{is_woken, is_running, is_unfinished, is_some_unfinished}
use Rattle.irq_model.specs.Due.{holds_mutex}

-- d's handler was called and hasn't returned
abbrev pub is_called : List Entry → DevNo → Bool
is_called past d = stands (is_begin d) (is_return d) past

-- d was unlinked, and its free isn't complete
abbrev pub is_being_freed : List Entry → DevNo → Bool
is_being_freed past d = stands (unlinks_dev d) (is_freed d) past

-- the newest entry of `upto` unlinked d; its maker made a hard clear after it, and hasn't freed d
-- yet
abbrev pub is_cleared_at : DevNo → List Entry → List Entry → Bool
is_cleared_at d after [] = false
is_cleared_at d after (e ∷ past) = unlinks_dev d e
    && (list_any (λ x. is_by (actor_of e) x && is_hard_clear x) after
    && not (list_any (is_freed_by (actor_of e)) after))

-- d's free has its hard clear, and isn't complete
abbrev pub is_cleared : List Entry → DevNo → Bool
is_cleared past d = some_place (is_cleared_at d) past

-- a line that isn't disabled is started, and something is linked
abbrev pub EnabledIsStarted : LineDef → List Entry → Type 0
EnabledIsStarted def past =
    depth past ≡ 0 → (is_started past ≡ true) × (is_none_linked past ≡ false)

-- on the edge flow an enabled line is masked only within a flow that will go on
abbrev pub EdgeFlowMaskIsPending : LineDef → List Entry → Type 0
EdgeFlowMaskIsPending def past = is_edge_flow def.flow ≡ true → is_masked def past ≡ true
    → depth past ≡ 0 → (has_flow def past ≡ true) × (is_pending def past ≡ true)

-- on the fast-EOI flow an enabled edge line is never masked
abbrev pub EoiEdgeIsOpen : LineDef → List Entry → Type 0
EoiEdgeIsOpen def past = is_edge_line def ≡ true → is_eoi_flow def.flow ≡ true → depth past ≡ 0
    → is_masked def past ≡ false

-- on an enabled edge line only a flow leaves something pending
abbrev pub EdgePendingHasFlow : LineDef → List Entry → Type 0
EdgePendingHasFlow def past =
    is_edge_line def ≡ true → is_pending def past ≡ true → depth past ≡ 0 → has_flow def past ≡ true

-- if a masked chip drops edges, a started line that is masked is pending
abbrev pub DroppedIsPending : LineDef → List Entry → Type 0
DroppedIsPending def past = is_edge_line def ≡ true → def.keeps ≡ false → is_masked def past ≡ true
    → is_started past ≡ true → is_pending def past ≡ true

-- an enabled level line is masked only for a flow or for a thread
abbrev pub LevelMaskIsHeld : LineDef → List Entry → Type 0
LevelMaskIsHeld def past = is_level_line def ≡ true → is_masked def past ≡ true → depth past ≡ 0
    → (has_flow def past || is_some_unfinished def past) ≡ true

-- on the fast-EOI flow an enabled level line is masked only if it is one-shot
abbrev pub EoiLevelMaskIsOneshot : LineDef → List Entry → Type 0
EoiLevelMaskIsOneshot def past = is_level_line def ≡ true → is_eoi_flow def.flow ≡ true
    → is_masked def past ≡ true → depth past ≡ 0 → is_oneshot past ≡ true

-- d's thread is in a run whose finish is still to come
abbrev pub is_finishing : List Entry → DevNo → Bool
is_finishing past d =
    is_running past d && not (list_any (is_finish d) (since (is_thread_begin d) past))

-- a thread bit stands only while the thread is woken or its finish is still to come
abbrev pub UnfinishedIsAtWork : LineDef → List Entry → Type 0
UnfinishedIsAtWork def past =
    (d : DevNo) → is_unfinished past d ≡ true → (is_woken past d || is_finishing past d) ≡ true

-- a device that is neither linked nor being freed is at rest
abbrev pub UnlinkedIsAtRest : LineDef → List Entry → Type 0
UnlinkedIsAtRest def past =
    (d : DevNo) → is_linked past d ≡ false → is_being_freed past d ≡ false
    → (is_woken past d || (is_running past d || (is_unfinished past d || is_called past d))) ≡ false

-- at most one handler is at work, and it was called in the round of the flow that is there
pub record OneIsCalled (def : LineDef) (past : List Entry) : Type 0 where
  pub one : (d e : DevNo) → is_called past d ≡ true → is_called past e ≡ true → d ≡ e
  pub in_round : (d : DevNo) → is_called past d ≡ true
      → (has_flow def past ≡ true) × (has_begun def past d ≡ true)

-- past its hard clear no handler of a device that is being freed is at work
abbrev pub ClearedIsNotCalled : LineDef → List Entry → Type 0
ClearedIsNotCalled def past = (d : DevNo) → is_cleared past d ≡ true → is_called past d ≡ false

-- at most one device is being freed, and the mutex is held exactly while one is
pub record OneIsFreed (def : LineDef) (past : List Entry) : Type 0 where
  pub one : (d e : DevNo) → is_being_freed past d ≡ true → is_being_freed past e ≡ true → d ≡ e
  pub held : holds_mutex past ≡ true → (d : DevNo) × (is_being_freed past d ≡ true)
  pub free : (d : DevNo) → is_being_freed past d ≡ true → holds_mutex past ≡ true

-- each device that is linked or being freed was linked one-shot exactly if the line is one-shot
abbrev pub FlagsAgree : LineDef → List Entry → Type 0
FlagsAgree def past = (d : DevNo) → (is_linked past d || is_being_freed past d) ≡ true
    → (linking_flags past d).oneshot ≡ is_oneshot past

-- a started line with linked devices is masked for a reason: it is disabled, or a flow is in
-- progress, or on a level line a thread isn't finished
abbrev pub HasReasonPast : LineDef → List Entry → Type 0
HasReasonPast def past =
    is_started past ≡ true → is_masked def past ≡ true → is_none_linked past ≡ false
    → (is_disabled past
    || (has_flow def past || (is_level_line def && is_some_unfinished def past))) ≡ true

abbrev pub HasReason : LineDef → List Entry → Type 0
HasReason def h = HasReasonPast def (reverse h)
