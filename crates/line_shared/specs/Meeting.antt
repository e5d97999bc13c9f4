-- What a first pass knows of the actors that it met.
use Rattle.std.specs.Prelude.{◌≡◌, true, false, Some, List, slice_get}
use Rattle.irq_base.specs.Who.{actor_of}
use Rattle.irq_base.specs.declared.entries.Actor.{Actor}
use Rattle.irq_base.specs.declared.entries.Entry.{Entry}
use Rattle.line_lock.specs.Knows.{is_among}
use Rattle.line_lock.specs.Placed.{placed}
use Rattle.line_lock.specs.declared.view.Known.{Known}
use Rattle.line_lock.specs.declared.view.Placed.{Placed}

-- The pass that knows `k` has met a pass of the actor `who` that knew `other`: the entries of `who`
-- that `k` has seen are those that `other` knew as its own.
pub record HasMet (k : Known) (who : Actor) (other : Known) : Type 0 where
  pub actor : other.actor ≡ Some who
  pub given : is_among who k.given ≡ true
  pub back : is_among who k.out ≡ false
  pub own : placed who k.seen ≡ other.mine

-- The entry stands in the history at its place, and the actor made it.
pub record StandsIn (who : Actor) (history : List Entry) (p : Placed) : Type 0 where
  pub there : slice_get history p.place ≡ Some p.entry
  pub by : actor_of p.entry ≡ who
