-- The cells of paths, leaf to root: what is kept, what is recalled, and whether the line can send
-- again.
use Rattle.std.proofs.Common.{◌≡◌, Bool, true, false, None, List, [], ◌∷◌, refl}
use Rattle.irq_base.specs.declared.domains.ControllerKind.{ControllerKind}
use Rattle.irq_base.specs.declared.domains.ControllerKind.TheVariants as levels
use Rattle.irq_base.specs.declared.lines.FlowKind.{FlowKind}
use Rattle.irq_base.specs.declared.lines.FlowKind.TheVariants as flows
use Rattle.irq_base.specs.declared.lines.Trigger.{Trigger}
use Rattle.irq_base.specs.declared.lines.Trigger.TheVariants as triggers
use Rattle.domain_rules.specs.Levels.{keeps, recalls, retriggers, masking_kind, trigger_of_root, flow_of_root, serves}

abbrev cell : List ControllerKind → Bool × Bool × Bool × Bool
cell kinds = (keeps kinds, recalls kinds, retriggers kinds, serves kinds)

latch : cell (levels.Latch ∷ []) ≡ (true, true, true, false)
latch = refl

remap_latch : cell (levels.Remap ∷ levels.Latch ∷ []) ≡ (true, true, true, false)
remap_latch = refl

plain : cell (levels.Plain ∷ []) ≡ (false, false, false, false)
plain = refl

msi_vector : cell (levels.Msi ∷ levels.Vector ∷ []) ≡ (true, false, true, false)
msi_vector = refl

msi_remap_vector : cell (levels.Msi ∷ levels.Remap ∷ levels.Vector ∷ []) ≡ (true, false, true, false)
msi_remap_vector = refl

msi_latch : cell (levels.Msi ∷ levels.Latch ∷ []) ≡ (true, false, true, false)
msi_latch = refl

msi_plain : cell (levels.Msi ∷ levels.Plain ∷ []) ≡ (true, false, false, false)
msi_plain = refl

level : cell (levels.Level ∷ []) ≡ (false, false, false, false)
level = refl

remap_level : cell (levels.Remap ∷ levels.Level ∷ []) ≡ (false, false, false, false)
remap_level = refl

eoi : cell (levels.Eoi ∷ []) ≡ (false, false, false, true)
eoi = refl

remap_eoi : cell (levels.Remap ∷ levels.Eoi ∷ []) ≡ (false, false, false, true)
remap_eoi = refl

pin : cell (levels.Pin ∷ []) ≡ (true, true, false, false)
pin = refl

remap_pin : cell (levels.Remap ∷ levels.Pin ∷ []) ≡ (true, true, false, false)
remap_pin = refl

msi_pin : cell (levels.Msi ∷ levels.Pin ∷ []) ≡ (true, false, false, false)
msi_pin = refl

lpi : cell (levels.Lpi ∷ []) ≡ (true, true, true, false)
lpi = refl

remap_lpi : cell (levels.Remap ∷ levels.Lpi ∷ []) ≡ (true, true, true, false)
remap_lpi = refl

-- the messages mask, and masking them takes nothing back
msi_lpi : cell (levels.Msi ∷ levels.Lpi ∷ []) ≡ (true, false, true, false)
msi_lpi = refl

-- no level masks
vector : masking_kind (levels.Vector ∷ []) ≡ None
vector = refl

remap_vector : masking_kind (levels.Remap ∷ levels.Vector ∷ []) ≡ None
remap_vector = refl

-- triggers and flows come of the root

abbrev handling : ControllerKind → Trigger × FlowKind
handling root = (trigger_of_root root, flow_of_root root)

abbrev handled_by : Trigger → FlowKind → Trigger × FlowKind
handled_by trigger flow = (trigger, flow)

edges : handling levels.Latch ≡ handled_by triggers.Edge flows.Edge
edges = refl

plain_edges : handling levels.Plain ≡ handled_by triggers.Edge flows.Edge
plain_edges = refl

pin_edges : handling levels.Pin ≡ handled_by triggers.Edge flows.Edge
pin_edges = refl

vectors : handling levels.Vector ≡ handled_by triggers.Edge flows.Edge
vectors = refl

plain_levels : handling levels.Level ≡ handled_by triggers.Level flows.Level
plain_levels = refl

fast_eois : handling levels.Eoi ≡ handled_by triggers.Level flows.Eoi
fast_eois = refl

edge_eois : handling levels.Lpi ≡ handled_by triggers.Edge flows.Eoi
edge_eois = refl
