-- The edges of an edge line: where each edge is, by its place in the history (ours). A law says
-- that the marks of the signal cell are these.
use Rattle.std.specs.Prelude.{Bool, false, not, ◌||◌, ◌&&◌, List, [], ◌∷◌, ◌++◌}
use Rattle.irq_base.specs.declared.lines.LineDef.{LineDef}
use Rattle.irq_base.specs.declared.entries.Entry.{Entry}
use Rattle.irq_model.specs.Places.{some_place}
use Rattle.irq_model.specs.Kinds.{is_device_edge, is_chip_start, is_again, is_take}
use Rattle.irq_model.specs.Lines.{is_edge_line, is_eoi_flow}
use Rattle.irq_model.specs.Masks.{is_masked}

-- an entry at which an edge comes: one that a device makes, a start that the chip resends, and on
-- the fast-EOI flow an end that retriggers
abbrev pub is_edge : LineDef → Entry → Bool
is_edge def e =
    is_edge_line def && (is_device_edge e
    || (is_chip_start e || (is_eoi_flow def.flow && is_again e)))

abbrev pub ends_in_edge : LineDef → List Entry → Bool
ends_in_edge def [] = false
ends_in_edge def (e ∷ past) = is_edge def e

-- the line was open at some moment since the place; the moment just after it counts too
abbrev pub was_open : LineDef → List Entry → List Entry → Bool
was_open def [] upto = not (is_masked def upto)
was_open def (e ∷ after) upto = not (is_masked def (e ∷ after ++ upto)) || was_open def after upto

-- the edge at the place is sent: the line is open, or it was at some moment since the edge and
-- masking doesn't take back
abbrev pub is_sent_edge : LineDef → List Entry → List Entry → Bool
is_sent_edge def after upto =
    not (is_masked def (after ++ upto)) || (not def.recalls && was_open def after upto)

-- a take after the place took the edge, since it was sent just before
abbrev pub is_taken : LineDef → List Entry → List Entry → Bool
is_taken def [] upto = false
is_taken def (e ∷ after) upto =
    (is_take e && is_sent_edge def after upto) || is_taken def after upto

-- the edge wasn't dropped as it came, and no take took it
abbrev pub is_alive : LineDef → List Entry → List Entry → Bool
is_alive def after upto = ends_in_edge def upto
    && ((def.keeps || not (is_masked def upto)) && not (is_taken def after upto))

-- some edge is presented to the processors
abbrev pub is_sent : LineDef → List Entry → Bool
is_sent def past =
    some_place (λ after upto. is_alive def after upto && is_sent_edge def after upto) past

-- some edge is kept by the masked chip
abbrev pub is_stored : LineDef → List Entry → Bool
is_stored def past =
    some_place (λ after upto. is_alive def after upto && not (is_sent_edge def after upto)) past
