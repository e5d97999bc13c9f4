-- What a history says of its last unlinks.
use Rattle.std.specs.Prelude.{◌≡◌, true, List, ◌∷◌, reverse}
use Rattle.irq_base.specs.declared.entries.Entry.{Entry}
use Rattle.irq_model.specs.Kinds.{is_unlink, is_last_unlink}
use Rattle.irq_model.specs.Places.{EachEntry}
use Rattle.irq_model.specs.Links.{is_none_linked}

-- an entry that unlinks says `last` exactly if no device is linked after it
abbrev pub TellsLast : Entry → List Entry → Type 0
TellsLast e past = is_unlink e ≡ true → is_none_linked (e ∷ past) ≡ is_last_unlink e

-- each unlinking entry of the history says so; the oldest entry comes first
abbrev pub TellsLasts : List Entry → Type 0
TellsLasts h = EachEntry TellsLast (reverse h)
