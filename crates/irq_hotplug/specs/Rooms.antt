-- What is seen of a list with spare room.
use Rattle.std.specs.Prelude.{ℕ, List}

pub record RoomSeen (T : Type 0) : Type 0 where
  pub items : List T
  -- how many more it takes without memory
  pub spare : ℕ
