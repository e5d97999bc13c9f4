-- What every entry keeps, beside the parts of the reasons: facts of a legal past, whose newest
-- entry comes first.
use Rattle.std.specs.Prelude.{◌≡◌, ℕ, suc, ◌+◌, ◌≤◌, Bool, true, false, ◌&&◌, if◌then◌else◌}
use Rattle.std.specs.Prelude.{Option, Some, None, List, [], ◌∷◌, nat_lt, length, drop, slice_get}
use Rattle.std.specs.List.{list_any}
use Rattle.irq_base.specs.declared.numbers.DevNo.{DevNo}
use Rattle.irq_base.specs.declared.numbers.DriverNo.{DriverNo}
use Rattle.irq_base.specs.declared.calls.Call.{Call}
use Rattle.irq_base.specs.declared.calls.Call.TheVariants as calls
use Rattle.irq_base.specs.declared.lines.LineDef.{LineDef}
use Rattle.irq_base.specs.declared.entries.Actor.{Actor}
use Rattle.irq_base.specs.declared.entries.Actor.TheVariants as actors
use Rattle.irq_base.specs.declared.entries.Entry.{Entry}
use Rattle.irq_base.specs.declared.entries.Entry.TheVariants as by
use Rattle.irq_base.specs.declared.entries.CallEntry.{CallEntry}
use Rattle.irq_base.specs.declared.entries.CallEntry.TheVariants as called
use Rattle.irq_base.specs.declared.entries.UnlinkAnswer.TheVariants as unlinks
use Rattle.irq_model.specs.Places.{stands, since_place, upto_place, count_of}
use Rattle.irq_model.specs.Kinds.{is_by, is_freed, is_freed_by, links_dev, unlinks_dev}
use Rattle.irq_model.specs.Lines.{is_device}
use Rattle.irq_model.specs.Links.{is_linked, is_reset, base, is_deepening, is_lowering}
use Rattle.irq_model.specs.Rounds.{has_flow, has_begun, at_work}
use Rattle.irq_model.specs.Due.{calls_by, entries_by, entries_of_call}
use Rattle.irq_model.specs.Valid.{requests_dev, frees_dev}
use Rattle.irq_model.specs.Reason.{is_called, is_being_freed, ClearedIsNotCalled}
use Rattle.irq_model.specs.Reason.{UnlinkedIsAtRest, UnfinishedIsAtWork, FlagsAgree}
use Rattle.irq_model.specs.Reason.{EnabledIsStarted, EdgeFlowMaskIsPending, EoiEdgeIsOpen}
use Rattle.irq_model.specs.Reason.{EdgePendingHasFlow, DroppedIsPending, LevelMaskIsHeld}
use Rattle.irq_model.specs.Reason.{EoiLevelMaskIsOneshot}
use Rattle.irq_laws.specs.Actors.{due_of_actor}

-- a handler is at work exactly if it was called and hasn't returned; it was called in the current
-- round of the flow
pub record KeepsRuns (def : LineDef) (past : List Entry) : Type 0 where
  pub called : (d : DevNo) → is_called past d ≡ true → at_work past ≡ Some d
  pub working : (d : DevNo) → at_work past ≡ Some d
      → (is_called past d ≡ true) × (has_flow def past ≡ true) × (has_begun def past d ≡ true)

-- the step of a call begins a free, or completes it, or leaves it
abbrev pub freed_on : Actor → CallEntry → Option (Actor × DevNo) → Option (Actor × DevNo)
freed_on a (called.Unlink (unlinks.Unlinked last) dev) was = Some (a, dev)
freed_on a (called.Freed dev) was = None
freed_on a _ was = was

-- the maker and the device of the last unlink, unless a free was completed after it
abbrev pub freeing : List Entry → Option (Actor × DevNo)
freeing [] = None
freeing (by.CpuCall cpu call ∷ past) = freed_on (actors.Cpu cpu) call (freeing past)
freeing (by.ThreadCall dev call ∷ past) = freed_on (actors.Thread dev) call (freeing past)
freeing (by.DriverCall driver call ∷ past) = freed_on (actors.Driver driver) call (freeing past)
freeing (_ ∷ past) = freeing past

-- the actor unlinked d
abbrev pub unlinks_of : Actor → DevNo → Entry → Bool
unlinks_of a d e = is_by a e && unlinks_dev d e

-- at most one free is under way, and an actor that is within a free is its maker
pub record KeepsFrees (def : LineDef) (past : List Entry) : Type 0 where
  pub one_maker : (a : Actor) (d : DevNo) → stands (unlinks_of a d) (is_freed_by a) past ≡ true
      → freeing past ≡ Some (a, d)
  pub one_device : (d : DevNo) → is_being_freed past d ≡ true
      → (a : Actor) × (freeing past ≡ Some (a, d))
  pub within : (a : Actor) (d : DevNo) (n : ℕ)
      → due_of_actor def a past ≡ Some (calls.Free d, suc n)
      → freeing past ≡ Some (a, d)
  -- what is being freed isn't linked
  pub unlinked : (a : Actor) (d : DevNo) → freeing past ≡ Some (a, d) → is_linked past d ≡ false
  -- after the hard clear of the free no handler of the device is at work
  pub past_clear : (a : Actor) (d : DevNo) → due_of_actor def a past ≡ Some (calls.Free d, 2)
      → is_called past d ≡ false
  pub cleared : ClearedIsNotCalled def past

pub record KeepsRest (def : LineDef) (past : List Entry) : Type 0 where
  -- a device that was ever linked, or is being freed, is a device of the line
  pub named : (d : DevNo) → list_any (links_dev d) past ≡ true
      → list_any (is_device d) def.devices ≡ true
  pub freed_named : (d : DevNo) → is_being_freed past d ≡ true
      → list_any (is_device d) def.devices ≡ true
  -- a device that was freed, and not linked since, is neither linked nor being freed
  pub after_free : (d : DevNo) → stands (is_freed d) (links_dev d) past ≡ true
      → (is_linked past d ≡ false) × (is_being_freed past d ≡ false)
  pub at_rest : UnlinkedIsAtRest def past
  pub at_work : UnfinishedIsAtWork def past
  pub flags : FlagsAgree def past

-- the complete calls, the last one first, put before the calls of `done`
abbrev pub complete : List Call → List Call → List Entry → List Call
complete done [] es = done
complete done (c ∷ cs) es =
    if nat_lt (length es) (entries_of_call c es) then done
    else complete (c ∷ done) cs (drop (entries_of_call c es) es)

abbrev pub complete_by : LineDef → DriverNo → List Entry → List Call
complete_by def r past = complete [] (calls_by r def.calls) (entries_by r past)

-- some driver's script requests d, and the last of its complete calls that request or free d is a
-- request
pub record Wanted (def : LineDef) (past : List Entry) (d : DevNo) : Type 0 where
  pub driver : DriverNo
  pub place : ℕ
  pub call : DriverNo × Call
  pub there : slice_get def.calls place ≡ Some call
  pub own : call.0 ≡ driver
  pub requests : requests_dev d call.1 ≡ true
  pub wanted : stands (requests_dev d) (frees_dev d) (complete_by def driver past) ≡ true

-- a linked device is wanted (`Wanted`), so that no request of it is due
abbrev pub LinkedIsWanted : LineDef → List Entry → Type 0
LinkedIsWanted def past = (d : DevNo) → is_linked past d ≡ true → Wanted def past d

-- the depth never falls below zero, and a line that isn't disabled is started
pub record KeepsDepth (def : LineDef) (past : List Entry) : Type 0 where
  pub exact : count_of is_lowering (since_place is_reset past) ≤ base (upto_place is_reset past) +
      count_of is_deepening (since_place is_reset past)
  pub enabled : EnabledIsStarted def past

-- why an edge line is masked, and what is pending then
pub record KeepsEdges (def : LineDef) (past : List Entry) : Type 0 where
  pub edge_flow : EdgeFlowMaskIsPending def past
  pub eoi_edge : EoiEdgeIsOpen def past
  pub pending : EdgePendingHasFlow def past
  pub dropped : DroppedIsPending def past

-- why a level line is masked
pub record KeepsLevels (def : LineDef) (past : List Entry) : Type 0 where
  pub level : LevelMaskIsHeld def past
  pub eoi_level : EoiLevelMaskIsOneshot def past

-- all of it, together
pub record Kept (def : LineDef) (past : List Entry) : Type 0 where
  pub runs : KeepsRuns def past
  pub frees : KeepsFrees def past
  pub rest : KeepsRest def past
  pub wanted : LinkedIsWanted def past
  pub depth : KeepsDepth def past
  pub edges : KeepsEdges def past
  pub levels : KeepsLevels def past
