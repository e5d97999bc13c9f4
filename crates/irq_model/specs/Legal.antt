-- Legal histories: each entry is the one that its actor may add after the entries before it.
use Rattle.std.specs.Prelude.{◌≡◌, Some, List, reverse}
use Rattle.irq_base.specs.declared.lines.LineDef.{LineDef}
use Rattle.irq_base.specs.declared.entries.Entry.{Entry}
use Rattle.irq_base.specs.Who.{actor_of}
use Rattle.irq_model.specs.Places.{EachEntry}
use Rattle.irq_model.specs.Next.{next_past}

-- the entry is due of its actor after the entries before it
abbrev pub IsDue : LineDef → Entry → List Entry → Type 0
IsDue def e past = next_past def past (actor_of e) ≡ Some e

abbrev pub IsLegalPast : LineDef → List Entry → Type 0
IsLegalPast def past = EachEntry (IsDue def) past

-- a line's history, the oldest entry first, is legal
abbrev pub IsLegal : LineDef → List Entry → Type 0
IsLegal def h = IsLegalPast def (reverse h)
