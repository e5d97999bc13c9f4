-- How long a legal history can be whose runs make calls and whose devices are told what to answer
-- (ours). Where neither is so, the numbers are those of Bounds.
use Rattle.std.specs.Prelude.{◌≡◌, ℕ, ◌+◌, ◌*◌, ◌≤◌, Bool, true, false, ◌&&◌, if◌then◌else◌, List}
use Rattle.std.specs.List.{list_any, sum_by}
use Rattle.irq_base.specs.declared.numbers.DevNo.{DevNo}
use Rattle.irq_base.specs.declared.calls.Call.{Call}
use Rattle.irq_base.specs.declared.calls.Call.TheVariants as calls
use Rattle.irq_base.specs.declared.devices.DeviceDef.{DeviceDef}
use Rattle.irq_base.specs.declared.devices.Kind.{Kind}
use Rattle.irq_base.specs.declared.devices.Kind.TheVariants as kinds
use Rattle.irq_base.specs.declared.devices.Part.{Part}
use Rattle.irq_base.specs.declared.devices.Part.TheVariants as parts
use Rattle.irq_base.specs.declared.devices.ToldAnswer.{ToldAnswer}
use Rattle.irq_base.specs.declared.devices.ToldAnswer.TheVariants as tolds
use Rattle.irq_base.specs.declared.lines.LineDef.{LineDef}
use Rattle.irq_model.specs.Places.{count_of}
use Rattle.irq_base.specs.declared.entries.Entry.{Entry}
use Rattle.irq_model.specs.Kinds.{same_dev, is_device_edge}
use Rattle.irq_model.specs.Lines.{is_edge_line, is_eoi_flow, kind_of, run_script, told_answers}
use Rattle.irq_model.specs.Rounds.{begins_round}
use Rattle.irq_model.specs.Waiting.{is_pending, is_soft}
use Rattle.irq_model.specs.Edges.{is_sent, is_stored}
use Rattle.irq_model.specs.RunLaws.{is_enabling}
use Rattle.irq_model.specs.Bounds.{ask_calls, other_calls}

-- ---- the entries of a round, and of what its threads do after it

-- how many entries a call of a run is counted for: those that it makes at most, and for an enable
-- two more, since what it sends again may be taken without a round
abbrev pub weight_of : Call → ℕ
weight_of calls.Enable = 3
weight_of (calls.Free d) = 3
weight_of calls.Disable = 3
weight_of calls.Sync = 2
weight_of calls.DisableHard = 2
weight_of _ = 1

abbrev pub script_weight : LineDef → Part → DevNo → ℕ
script_weight def part d = sum_by weight_of (run_script def d part)

-- a device's handler and thread, once each, with what they call
abbrev pub device_weight : LineDef → DeviceDef → ℕ
device_weight def x =
    6 + script_weight def parts.Primary x.dev + script_weight def parts.Thread x.dev

-- a wake by a handler's call: one more run of that thread
abbrev pub wake_weight : LineDef → DevNo × Part × Call → ℕ
wake_weight def (d, parts.Primary, calls.Wake woken) = 4 + script_weight def parts.Thread woken
wake_weight def _ = 0

-- a round, with the runs of threads that it brings
abbrev pub round_weight : LineDef → ℕ
round_weight def =
    8 + sum_by (device_weight def) def.devices + sum_by (wake_weight def) def.runs

-- ---- edge lines: a round takes an edge that some device made

abbrev pub asks_this : DevNo → Call → Bool
asks_this d (calls.Ask dev) = same_dev d dev
asks_this d _ = false

abbrev pub arms_this : DevNo → Call → Bool
arms_this d (calls.Arm dev) = same_dev d dev
arms_this d _ = false

abbrev pub wakes_this : DevNo → Call → Bool
wakes_this d (calls.Wake dev) = same_dev d dev
wakes_this d _ = false

abbrev pub is_wake_word : ToldAnswer → Bool
is_wake_word tolds.Wake = true
is_wake_word _ = false

abbrev pub asks_of : LineDef → DevNo → ℕ
asks_of def d = count_of (λ c. asks_this d c.1) def.calls

abbrev pub arms_of : LineDef → Part → DevNo → ℕ
arms_of def part d = count_of (arms_this d) (run_script def d part)

-- how often a told device's thread is woken, by its handler's answers and by drivers
abbrev pub told_wakes : LineDef → DevNo → ℕ
told_wakes def d = count_of is_wake_word (told_answers def d parts.Primary)
    + count_of (λ c. wakes_this d c.1) def.calls

-- how many edges a device makes as its own runs turn its interrupt on. An ask is unserved in at
-- most two runs of the thread that serves it: it may come within one and be served by the next
abbrev pub edges_by_arms : LineDef → DevNo → Kind → ℕ
edges_by_arms def d kinds.Direct = asks_of def d * arms_of def parts.Primary d
edges_by_arms def d kinds.Check = 2 * asks_of def d * arms_of def parts.Thread d
edges_by_arms def d kinds.Null = 2 * asks_of def d * arms_of def parts.Thread d
edges_by_arms def d (kinds.Told threaded) = arms_of def parts.Thread d * told_wakes def d
edges_by_arms def d _ = 0

-- how many edges devices make, but for those of drivers' arms
abbrev pub device_edges : LineDef → ℕ
device_edges def = ask_calls def + sum_by (λ x. edges_by_arms def x.dev x.kind) def.devices

abbrev pub run_edge_bound : LineDef → ℕ
run_edge_bound def = round_weight def * (device_edges def + other_calls def + 1)

abbrev pub mark : Bool → ℕ
mark b = if b then 1 else 0

-- why: the rounds so far, and the places where an interrupt waits for one, are together at most the
-- edges that devices made
abbrev pub RoundsAreCountedPast : LineDef → List Entry → Type 0
RoundsAreCountedPast def past = is_edge_line def ≡ true
    → count_of (begins_round def) past + mark (is_sent def past) + mark (is_stored def past)
    + mark (is_pending def past) + mark (is_soft past) ≤ count_of is_device_edge past

-- ---- all lines: between two rounds that are judged handled the window closes

abbrev pub is_told_handled : ToldAnswer → Bool
is_told_handled tolds.Handled = true
is_told_handled tolds.Claims = true
is_told_handled _ = false

abbrev pub told_handled : LineDef → ℕ
told_handled def = count_of (λ c. is_told_handled c.2) def.told

abbrev pub run_level_bound : LineDef → ℕ
run_level_bound def = round_weight def * (ask_calls def + other_calls def + told_handled def + 1)
    * (2 * def.window + 5) * (if is_edge_line def && is_eoi_flow def.flow then 2 else 1)

abbrev pub is_nosync : Call → Bool
is_nosync calls.DisableNosync = true
is_nosync _ = false

abbrev pub wakes_by_handler : DevNo → DevNo × Part × Call → Bool
wakes_by_handler d (maker, parts.Primary, call) = wakes_this d call
wakes_by_handler d _ = false

-- no run opens a line again that was killed: a run that enables is one of a check device's thread,
-- once, whose handler disables once. Without this premise a device that nobody recognises can make
-- the next storm after each enable, without an end.
pub record EnablesOnlyItsOwn (def : LineDef) : Type 0 where
  pub handlers : (d : DevNo) → list_any is_enabling (run_script def d parts.Primary) ≡ false
  pub threads : (d : DevNo) → list_any is_enabling (run_script def d parts.Thread) ≡ true
      → (kind_of def d ≡ kinds.Check)
      × (count_of is_enabling (run_script def d parts.Thread) ≡ 1)
      × (count_of is_nosync (run_script def d parts.Primary) ≡ 1)
  -- no handler wakes such a thread by a call; a driver may
  pub wakes : (d : DevNo) → list_any is_enabling (run_script def d parts.Thread) ≡ true
      → list_any (wakes_by_handler d) def.runs ≡ false
