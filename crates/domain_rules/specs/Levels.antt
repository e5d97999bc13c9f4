-- The levels of interrupt controllers between a line and its processors, and what they make of its
-- signal.
use Rattle.std.specs.Prelude.{Bool, true, false, ◌&&◌, if◌then◌else◌, Option, Some, None, List}
use Rattle.std.specs.Prelude.{[], ◌∷◌}
use Rattle.irq_base.specs.Cell.{Cell, fresh_cell}
use Rattle.irq_base.specs.declared.domains.ControllerKind.{ControllerKind}
use Rattle.irq_base.specs.declared.domains.ControllerKind.TheVariants as levels
use Rattle.irq_base.specs.declared.lines.FlowKind.{FlowKind}
use Rattle.irq_base.specs.declared.lines.FlowKind.TheVariants as flows
use Rattle.irq_base.specs.declared.lines.Trigger.{Trigger}
use Rattle.irq_base.specs.declared.lines.Trigger.TheVariants as triggers

-- a level of this kind stands at the processors' end; the other kinds are children
abbrev pub is_root_kind : ControllerKind → Bool
is_root_kind levels.Msi = false
is_root_kind levels.Remap = false
is_root_kind _ = true

-- a level of this kind can mask
abbrev pub masks_kind : ControllerKind → Bool
masks_kind levels.Remap = false
masks_kind levels.Vector = false
masks_kind _ = true

-- while it masks, it stores the edges that come
abbrev pub keeps_kind : ControllerKind → Bool
keeps_kind levels.Latch = true
keeps_kind levels.Msi = true
keeps_kind levels.Lpi = true
keeps_kind levels.Pin = true
keeps_kind _ = false

-- it can send an edge again
abbrev pub retriggers_kind : ControllerKind → Bool
retriggers_kind levels.Latch = true
retriggers_kind levels.Vector = true
retriggers_kind levels.Lpi = true
retriggers_kind _ = false

-- it presents the level of its signal, and no edges
abbrev pub presents_level_kind : ControllerKind → Bool
presents_level_kind levels.Level = true
presents_level_kind levels.Eoi = true
presents_level_kind _ = false

-- an interrupt that was taken is in service until its end
abbrev pub serves_kind : ControllerKind → Bool
serves_kind levels.Eoi = true
serves_kind _ = false

abbrev pub trigger_of_root : ControllerKind → Trigger
trigger_of_root levels.Level = triggers.Level
trigger_of_root levels.Eoi = triggers.Level
trigger_of_root _ = triggers.Edge

abbrev pub flow_of_root : ControllerKind → FlowKind
flow_of_root levels.Level = flows.Level
flow_of_root levels.Eoi = flows.Eoi
flow_of_root levels.Lpi = flows.Eoi
flow_of_root _ = flows.Edge

abbrev pub last_kind : ControllerKind → List ControllerKind → ControllerKind
last_kind k [] = k
last_kind k (x ∷ xs) = last_kind x xs

-- the root's kind, the last of the way
abbrev pub root_kind : List ControllerKind → ControllerKind
root_kind kinds = last_kind levels.Remap kinds

abbrev pub is_some_kind : (ControllerKind → Bool) → Option ControllerKind → Bool
is_some_kind test (Some k) = test k
is_some_kind test None = false

-- the level that masks: the first one from the device that can
abbrev pub masking_kind : List ControllerKind → Option ControllerKind
masking_kind [] = None
masking_kind (k ∷ ks) = if masks_kind k then Some k else masking_kind ks

-- an edge that comes while the line is masked is stored
abbrev pub keeps : List ControllerKind → Bool
keeps kinds = is_some_kind keeps_kind (masking_kind kinds)

-- a root that stores the edges which come while it masks
abbrev pub stores_at_root : ControllerKind → Bool
stores_at_root kind = is_root_kind kind && keeps_kind kind

-- masking takes back what was sent: the root masks, and stores
abbrev pub recalls : List ControllerKind → Bool
recalls kinds = is_some_kind stores_at_root (masking_kind kinds)

-- the line can be made to send an edge again
abbrev pub retriggers : List ControllerKind → Bool
retriggers kinds = retriggers_kind (root_kind kinds)

-- what was accepted is in service until its end of interrupt
abbrev pub serves : List ControllerKind → Bool
serves kinds = serves_kind (root_kind kinds)

-- the cell of the levels together, before anything was done to it
abbrev pub cell_of : List ControllerKind → Cell
cell_of kinds = fresh_cell (trigger_of_root (root_kind kinds)) (keeps kinds) (recalls kinds)
    (retriggers kinds) (serves kinds)
