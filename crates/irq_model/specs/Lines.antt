-- What is fixed of a line, read off its definition.
use Rattle.std.specs.Prelude.{ℕ, Bool, true, false, ◌&&◌, ◌==◌, if◌then◌else◌, not, List, [], ◌∷◌}
use Rattle.std.specs.List.{list_any}
use Rattle.std.specs.Int.{bit_at}
use Rattle.irq_base.specs.declared.numbers.DevNo.{DevNo}
use Rattle.irq_base.specs.declared.devices.Kind.{Kind}
use Rattle.irq_base.specs.declared.devices.Kind.TheVariants as kinds
use Rattle.irq_base.specs.declared.devices.DeviceDef.{DeviceDef}
use Rattle.irq_base.specs.declared.devices.Part.{Part}
use Rattle.irq_base.specs.declared.devices.Part.TheVariants as parts
use Rattle.irq_base.specs.declared.devices.ToldAnswer.{ToldAnswer}
use Rattle.irq_base.specs.declared.calls.Call.{Call}
use Rattle.irq_base.specs.declared.lines.FlowKind.{FlowKind}
use Rattle.irq_base.specs.declared.lines.FlowKind.TheVariants as flows
use Rattle.irq_base.specs.declared.lines.LineDef.{LineDef}
use Rattle.irq_base.specs.Cell.{is_edge_trigger}
use Rattle.irq_model.specs.Kinds.{same_dev}

abbrev pub is_edge_line : LineDef → Bool
is_edge_line def = is_edge_trigger def.trigger

abbrev pub is_level_line : LineDef → Bool
is_level_line def = not (is_edge_trigger def.trigger)

abbrev pub is_edge_flow : FlowKind → Bool
is_edge_flow flows.Edge = true
is_edge_flow _ = false

abbrev pub is_level_flow : FlowKind → Bool
is_level_flow flows.Level = true
is_level_flow _ = false

abbrev pub is_eoi_flow : FlowKind → Bool
is_eoi_flow flows.Eoi = true
is_eoi_flow _ = false

-- the line's cell keeps an interrupt in service from its take to its end
abbrev pub serves : LineDef → Bool
serves def = is_level_line def && is_eoi_flow def.flow

abbrev pub is_device : DevNo → DeviceDef → Bool
is_device d x = same_dev d x.dev

abbrev pub has_device : LineDef → DevNo → Bool
has_device def d = list_any (is_device d) def.devices

-- the kind of a device; a device that the line doesn't have counts as stuck, so it never serves
abbrev pub kind_in : List DeviceDef → DevNo → Kind
kind_in [] d = kinds.Stuck
kind_in (x ∷ xs) d = if is_device d x then x.kind else kind_in xs d

abbrev pub kind_of : LineDef → DevNo → Kind
kind_of def d = kind_in def.devices d

-- the device has the option; one that the line lacks has none
abbrev pub is_held : LineDef → DevNo → Bool
is_held def d = list_any (λ x. is_device d x && x.held) def.devices

abbrev pub does_forget : LineDef → DevNo → Bool
does_forget def d = list_any (λ x. is_device d x && x.forgets) def.devices

abbrev pub same_part : Part → Part → Bool
same_part parts.Primary parts.Primary = true
same_part parts.Thread parts.Thread = true
same_part _ _ = false

-- the calls that a run of that part of d makes, in order
abbrev pub script_in : List (DevNo × Part × Call) → DevNo → Part → List Call
script_in [] d part = []
script_in (c ∷ cs) d part =
    if same_dev d c.0 && same_part part c.1 then (c.2 ∷ script_in cs d part)
    else script_in cs d part

abbrev pub run_script : LineDef → DevNo → Part → List Call
run_script def d part = script_in def.runs d part

-- what that part of a told device answers, in turn
abbrev pub told_in : List (DevNo × Part × ToldAnswer) → DevNo → Part → List ToldAnswer
told_in [] d part = []
told_in (c ∷ cs) d part =
    if same_dev d c.0 && same_part part c.1 then (c.2 ∷ told_in cs d part)
    else told_in cs d part

abbrev pub told_answers : LineDef → DevNo → Part → List ToldAnswer
told_answers def d part = told_in def.told d part

-- processor c is in the mask
abbrev pub is_in_mask : ℕ → ℕ → Bool
is_in_mask mask c = bit_at mask c == 1
