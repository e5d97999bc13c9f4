-- How long a legal history can be (ours).
use Rattle.std.specs.Prelude.{ℕ, ◌+◌, ◌*◌, Bool, true, false, not, if◌then◌else◌, length}
use Rattle.irq_base.specs.declared.calls.Call.{Call}
use Rattle.irq_base.specs.declared.calls.Call.TheVariants as calls
use Rattle.irq_base.specs.declared.lines.LineDef.{LineDef}
use Rattle.irq_model.specs.Places.{count_of}
use Rattle.irq_model.specs.Lines.{is_edge_line}

abbrev pub is_ask_call : Call → Bool
is_ask_call (calls.Ask dev) = true
is_ask_call _ = false

-- how many asks the scripts have, and how many other calls
abbrev pub ask_calls : LineDef → ℕ
ask_calls def = count_of (λ c. is_ask_call c.1) def.calls

abbrev pub other_calls : LineDef → ℕ
other_calls def = count_of (λ c. not (is_ask_call c.1)) def.calls

abbrev pub edge_bound : LineDef → ℕ
edge_bound def = (6 * length def.devices + 8) * (ask_calls def + other_calls def + 1)

-- on a level line an interrupt that isn't handled comes again, until the window closes
abbrev pub level_bound : LineDef → ℕ
level_bound def = edge_bound def * (2 * def.window + 5)

abbrev pub bound : LineDef → ℕ
bound def = if is_edge_line def then edge_bound def else level_bound def
