-- Room for one more entry.
use Rattle.std.specs.Prelude.{◌≡◌, ◌<◌, ◌≤◌, length}
use Rattle.irq_line.specs.Seen.{LineSeen}

-- room was made for one more entry; a line that had some is as it was
pub record MakesRoom (old new : LineSeen) : Type 0 where
  pub below : length old.entries < old.def.log
  pub def : new.def ≡ old.def
  pub entries : new.entries ≡ old.entries
  pub room : 1 ≤ new.spare
  pub spare : old.spare ≤ new.spare
  pub kept : 1 ≤ old.spare → new ≡ old
