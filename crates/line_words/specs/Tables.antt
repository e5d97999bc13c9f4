-- The tables of a line, whatever stands in them.
use Rattle.std.specs.Prelude.{◌≡◌, false, List, [], ◌∷◌}
use Rattle.irq_base.specs.declared.devices.DeviceDef.{DeviceDef}
use Rattle.irq_base.specs.declared.lines.LineDef.{LineDef}
use Rattle.irq_base.specs.declared.numbers.DevNo.{DevNo}
use Rattle.device_table.specs.Rows.{all_with}
use Rattle.act_list.specs.Lists.{unlinked}
use Rattle.ask_counts.specs.Facts.{all_facts}
use Rattle.run_scripts.specs.Places.{PlacesSeen, first_place, first_row}
use Rattle.line_marks.specs.State.{StateSeen}
use Rattle.line_words.specs.Words.{has_more}

-- the table has a row for each of these devices, in their order, and no other
abbrev pub HasRows : {R : Type 0} → List DeviceDef → List (DevNo × R) → Type 0
HasRows [] [] = Unit {0}
HasRows (x ∷ xs) (e ∷ es) = (e.0 ≡ x.dev) × HasRows xs es
HasRows [] (e ∷ es) = ⊥
HasRows (x ∷ xs) [] = ⊥

-- no run has begun
abbrev pub first_places : LineDef → PlacesSeen
first_places def = record { work = first_place; rows = all_with first_row def.devices }

-- the state has the tables of a line of that definition, so numbers can be read into it; where
-- there is nothing to say of the runs, none has begun
pub record HasTables (def : LineDef) (s : StateSeen) : Type 0 where
  pub facts : s.facts ≡ all_facts def
  pub begun : HasRows def.devices s.list.begun
  pub threads : HasRows def.devices s.threads
  pub asks : HasRows def.devices s.asks
  pub runs : HasRows def.devices s.places.rows
  pub unbegun : has_more def ≡ false → s.places ≡ first_places def

-- the same stands in the tables of both
pub record AreSameTables (s t : StateSeen) : Type 0 where
  pub facts : t.facts ≡ s.facts
  pub begun : t.list.begun ≡ s.list.begun
  pub threads : t.threads ≡ s.threads
  pub asks : t.asks ≡ s.asks
  pub places : t.places ≡ s.places

-- the state in which nothing is linked
abbrev pub bare : StateSeen → StateSeen
bare s = record s { list = unlinked s.list }
