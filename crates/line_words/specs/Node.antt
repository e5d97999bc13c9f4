-- The numbers of a line after a past: of its canonical state, and of how far each driver is.
use Rattle.std.specs.Prelude.{ℕ, if◌then◌else◌, List, [], ◌∷◌}
use Rattle.std.specs.List.{list_any}
use Rattle.irq_base.specs.declared.calls.Call.{Call}
use Rattle.irq_base.specs.declared.entries.Entry.{Entry}
use Rattle.irq_base.specs.declared.lines.LineDef.{LineDef}
use Rattle.irq_base.specs.declared.numbers.DriverNo.{DriverNo}
use Rattle.irq_model.specs.Kinds.{same_driver}
use Rattle.line_marks.specs.State.{state_of}
use Rattle.line_futures.specs.Canon.{canon}
use Rattle.line_futures.specs.Places.{place_by, within_by}
use Rattle.line_words.specs.Words.{has_more, state_words}

-- the drivers of the calls, each once
abbrev pub drivers_in : List (DriverNo × Call) → List DriverNo
drivers_in [] = []
drivers_in (c ∷ cs) =
    if list_any (same_driver c.0) (drivers_in cs) then drivers_in cs else (c.0 ∷ drivers_in cs)

-- how many calls of each driver are complete, and how many entries its next one has made
abbrev pub places_words : LineDef → List Entry → List DriverNo → List ℕ → List ℕ
places_words def past [] rest = rest
places_words def past (r ∷ rs) rest =
    place_by def r past ∷ within_by def r past ∷ places_words def past rs rest

abbrev pub node : LineDef → List Entry → List ℕ
node def past = state_words (has_more def) (canon (state_of def past))
    (places_words def past (drivers_in def.calls))
