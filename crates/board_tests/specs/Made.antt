-- What an order makes of its steps, one after another.
use Rattle.std.specs.Prelude.{ℕ, zero, suc, Option, Some, None, List, [], ◌∷◌, reverse}
use Rattle.board_play.specs.Orders.{Order}

module _ {S E : Type 0} (o : Order S E) where
  -- at most n more steps after these, the newest first; the next one is this, if there is one
  abbrev pub going : ℕ → List E → Option (E × S) → List E
  going n g None = g
  going zero g (Some next) = g
  going (suc n) g (Some next) = going n (next.0 ∷ g) (o.next (next.0 ∷ g) next.1)

  -- the steps from the beginning on, the oldest first, if they are fewer than 40
  abbrev pub played_from : S → List E
  played_from first = reverse (going 40 [] (o.next [] first))
