-- What a line keeps while a driver has it asleep, and what its enable finds.
use Rattle.std.specs.Prelude.{◌≡◌, ℕ, ◌+◌, ◌<◌, Bool, true, false, ◌||◌, List, ◌∷◌, reverse}
use Rattle.std.specs.List.{list_any}
use Rattle.irq_base.specs.declared.numbers.DevNo.{DevNo}
use Rattle.irq_base.specs.declared.numbers.DriverNo.{DriverNo}
use Rattle.irq_base.specs.declared.lines.LineDef.{LineDef}
use Rattle.irq_base.specs.declared.entries.Entry.{Entry}
use Rattle.irq_base.specs.declared.entries.Entry.TheVariants as by
use Rattle.irq_base.specs.declared.entries.CpuEntry.TheVariants as cpus
use Rattle.irq_base.specs.declared.entries.ThreadEntry.TheVariants as threads
use Rattle.irq_model.specs.Places.{EachEntry, count_of}
use Rattle.irq_model.specs.Kinds.{is_take, is_off, is_kill, is_start, is_chip_start, is_soft_start}
use Rattle.irq_model.specs.Lines.{is_edge_line}
use Rattle.irq_model.specs.Links.{depth, is_none_linked}
use Rattle.irq_model.specs.Asks.{is_high}
use Rattle.irq_model.specs.Rounds.{has_flow}
use Rattle.irq_model.specs.Waiting.{is_pending}
use Rattle.irq_model.specs.Threads.{is_woken, is_running}
use Rattle.irq_model.specs.Owed.{is_owed}
use Rattle.irq_model.specs.Reason.{is_called}
use Rattle.irq_model.specs.Laws.{IsHandledNext}
use Rattle.irq_pm.specs.Sleeping.{is_enable_by, since_disable, before_disable, is_suspended}
use Rattle.irq_pm.specs.Sleeping.{is_asleep, is_left_alone}

-- ---- while it sleeps

-- a handler is called, or a thread begins a run
abbrev pub begins_run : Entry → Bool
begins_run (by.Cpu cpu (cpus.Begin dev)) = true
begins_run (by.Thread dev threads.Begin) = true
begins_run _ = false

-- the line is disabled, and nothing is at work on it
pub record IsAtRest (def : LineDef) (past : List Entry) : Type 0 where
  pub disabled : 0 < depth past
  pub no_flow : has_flow def past ≡ false
  -- each handler that was called has returned
  pub no_handler : (d : DevNo) → is_called past d ≡ false
  -- no thread is to run, and none is in a run
  pub no_thread : (d : DevNo) → (is_woken past d || is_running past d) ≡ false

-- P holds of each entry that comes while r has the line asleep, and of the entries before it, if
-- nobody has disturbed the line since r's disable
abbrev pub WhileAsleep : DriverNo → (Entry → List Entry → Type 0) → List Entry → Type 0
WhileAsleep r P h =
    EachEntry (λ e past. is_asleep r past ≡ true → is_left_alone r past ≡ true
    → P e past) (reverse h)

pub record SleepsSoundly (def : LineDef) (r : DriverNo) (h : List Entry) : Type 0 where
  -- from r's synced on the line is disabled, and at rest
  pub rests : EachEntry (λ e past. is_asleep r (e ∷ past) ≡ true
      → is_left_alone r (e ∷ past) ≡ true → IsAtRest def (e ∷ past)) (reverse h)
  -- no handler is called, and no thread begins a run
  pub still : WhileAsleep r (λ e past. begins_run e ≡ false) h
  -- a processor that takes an interrupt finds the line off
  pub off : WhileAsleep r (λ e past. is_take e ≡ true → is_off e ≡ true) h
  -- on an edge line an interrupt that was taken since the disable is left pending (`IRQS_PENDING`)
  pub pending : is_edge_line def ≡ true
      → EachEntry (λ e past. is_suspended r (e ∷ past) ≡ true → is_left_alone r (e ∷ past) ≡ true
      → list_any is_take (since_disable r (e ∷ past)) ≡ true
      → is_pending def (e ∷ past) ≡ true) (reverse h)

-- ---- as it is enabled again

-- e is the enable with which r ends its disable, and nobody has disturbed the line between the two
pub record IsResume (r : DriverNo) (e : Entry) (past : List Entry) : Type 0 where
  pub enable : is_enable_by r e ≡ true
  pub suspended : is_suspended r past ≡ true
  pub alone : is_left_alone r past ≡ true

-- an enable that ends r's disable, of a line that wasn't disabled before and that no end has killed
-- since. A flow in progress at the disable can have such an end (`note_interrupt`).
pub record IsReopening (r : DriverNo) (e : Entry) (past : List Entry) : Type 0 where
  pub resume : IsResume r e past
  pub open_before : depth (before_disable r past) ≡ 0
  pub unkilled : list_any is_kill (since_disable r past) ≡ false

-- P holds of each enable that ends r's disable, and of the entries before it
abbrev pub AtResume : DriverNo → (Entry → List Entry → Type 0) → List Entry → Type 0
AtResume r P h = EachEntry (λ e past. IsResume r e past → P e past) (reverse h)

abbrev pub AtReopening : DriverNo → (Entry → List Entry → Type 0) → List Entry → Type 0
AtReopening r P h = EachEntry (λ e past. IsReopening r e past → P e past) (reverse h)

-- how many ends killed the line since r's disable
abbrev pub kills_since_disable : DriverNo → List Entry → ℕ
kills_since_disable r past = count_of is_kill (since_disable r past)

pub record ResumesAsItWas (def : LineDef) (r : DriverNo) (h : List Entry) : Type 0 where
  -- as deep as before the disable, and one more for an end that killed the line meanwhile
  pub restores : AtResume r (λ e past. is_none_linked past ≡ false
      → depth (e ∷ past) ≡ depth (before_disable r past) + kills_since_disable r past) h
  -- With nothing linked the enable changes nothing, so the line stays one disable deeper. 6.1
  -- doesn't suspend such a line.
  pub unlinked : AtResume r (λ e past. is_none_linked past ≡ true
      → depth (e ∷ past) ≡ depth past) h
  -- a line that was open is started again, and open
  pub opens : AtReopening r (λ e past. (is_start e ≡ true) × (depth (e ∷ past) ≡ 0)) h
  -- on an edge line what was taken meanwhile is sent again, by the chip or by the software
  -- (`check_irq_resend`)
  pub resends : is_edge_line def ≡ true
      → AtReopening r (λ e past. list_any is_take (since_disable r past) ≡ true
      → (is_chip_start e || is_soft_start e) ≡ true) h
  -- After a sleep the next entry of the target is a take that is handled, if an edge is owed to
  -- some device, or if a device asks on a level line: nothing was lost.
  pub owed : AtReopening r (λ e past. is_asleep r past ≡ true → (d : DevNo)
      → is_owed def d (e ∷ past) ≡ true → IsHandledNext def (reverse (e ∷ past))) h
  pub high : AtReopening r (λ e past. is_asleep r past ≡ true → is_high def (e ∷ past) ≡ true
      → IsHandledNext def (reverse (e ∷ past))) h
