-- The parts of a valid definition, each as a test.
use Rattle.std.specs.Prelude.{Bool, true, false, not, ◌&&◌, ◌||◌, nat_lt, is_some, List, []}
use Rattle.std.specs.Prelude.{◌∷◌, length}
use Rattle.std.specs.List.{list_all, list_any}
use Rattle.irq_base.specs.declared.calls.Call.{Call}
use Rattle.irq_base.specs.declared.calls.Call.TheVariants as calls
use Rattle.irq_base.specs.declared.devices.DeviceDef.{DeviceDef}
use Rattle.irq_base.specs.declared.lines.LineDef.{LineDef}
use Rattle.irq_base.specs.declared.numbers.DevNo.{DevNo}
use Rattle.irq_base.specs.declared.numbers.DriverNo.{DriverNo}
use Rattle.irq_model.specs.Kinds.{same_driver, same_line}
use Rattle.irq_model.specs.Lines.{is_edge_line, is_level_line, is_edge_flow, is_level_flow}
use Rattle.irq_model.specs.Lines.{is_eoi_flow, is_device}
use Rattle.irq_model.specs.Signal.{lowest_in}
use Rattle.irq_model.specs.Valid.{requests_dev, frees_dev, names_one_of}

abbrev pub has_distinct : List DeviceDef → Bool
has_distinct [] = true
has_distinct (x ∷ xs) = not (list_any (is_device x.dev) xs) && has_distinct xs

-- the call requests or frees d
abbrev pub links_dev : DevNo → Call → Bool
links_dev d c = requests_dev d c || frees_dev d c

-- both calls request or free the same device
abbrev pub shares : Call → Call → Bool
shares (calls.Request dev flags) c = links_dev dev c
shares (calls.Free dev) c = links_dev dev c
shares _ c = false

-- the calls are made by one driver, or don't both request or free the same device
abbrev pub agrees : DriverNo × Call → DriverNo × Call → Bool
agrees a b = not (shares a.1 b.1) || same_driver a.0 b.0

abbrev pub has_one_owner : List (DriverNo × Call) → Bool
has_one_owner cs = list_all (λ a. list_all (agrees a) cs) cs

-- no request of d comes before a free of it
abbrev pub is_freed_first : DevNo → List (DriverNo × Call) → Bool
is_freed_first d [] = true
is_freed_first d (c ∷ cs) = frees_dev d c.1 || (not (requests_dev d c.1) && is_freed_first d cs)

-- if the call requests a device, no request of it comes before a free of it
abbrev pub is_freed_after : Call → List (DriverNo × Call) → Bool
is_freed_after (calls.Request dev flags) cs = is_freed_first dev cs
is_freed_after _ cs = true

abbrev pub is_freed_between : List (DriverNo × Call) → Bool
is_freed_between [] = true
is_freed_between (c ∷ cs) = is_freed_after c.1 cs && is_freed_between cs

abbrev pub fits_numbers : LineDef → Bool
fits_numbers def =
    nat_lt 0 def.cpus
    && (nat_lt def.cpus 33
    && (nat_lt 0 def.window
    && (nat_lt def.window 1000001
    && (nat_lt def.limit def.window
    && (nat_lt 0 def.log && (nat_lt def.log 100000001
    && (nat_lt (length def.devices) 257
    && (nat_lt (length def.calls) 16385 && is_some (lowest_in def.cpus def.mask)))))))))

abbrev pub fits_flow : LineDef → Bool
fits_flow def =
    (not (is_edge_flow def.flow) || is_edge_line def)
    && ((not (is_level_flow def.flow) || is_level_line def)
    && ((not (is_edge_line def) || (not def.unlazy || def.keeps))
    && ((not (is_edge_line def) || (not (is_eoi_flow def.flow) || def.keeps))
    && (not (is_edge_line def) || (not (is_eoi_flow def.flow) || def.retriggers)))))

abbrev pub fits_lists : LineDef → Bool
fits_lists def =
    list_all (λ x. same_line x.line def.line) def.devices
    && (has_distinct def.devices && (list_all (λ c. names_one_of def.devices c.1) def.calls
    && (has_one_owner def.calls && is_freed_between def.calls)))

abbrev pub fits : LineDef → Bool
fits def = fits_numbers def && (fits_flow def && fits_lists def)
