-- The entries of an actor in a history, with their places.
use Rattle.std.specs.Prelude.{ℕ, suc, cond, Option, Some, None, List, [], ◌∷◌}
use Rattle.irq_base.specs.declared.entries.Actor.{Actor}
use Rattle.irq_base.specs.declared.entries.Entry.{Entry}
use Rattle.irq_model.specs.Kinds.{is_by}
use Rattle.line_lock.specs.declared.view.Placed.{Placed}

-- the entries of the actor in a list; the first entry of the list has place `at`
abbrev pub placed_from : Actor → ℕ → List Entry → List Placed
placed_from who at [] = []
placed_from who at (e ∷ rest) = cond (is_by who e) (record { place = at; entry = e }
    ∷ placed_from who (suc at) rest) (placed_from who (suc at) rest)

-- the actor's entries in the history, the oldest first, each with its place: how many entries stand
-- before it
abbrev pub placed : Actor → List Entry → List Placed
placed who history = placed_from who 0 history

-- the entries of an actor, with their places; none without an actor
abbrev pub placed_of : Option Actor → List Entry → List Placed
placed_of None history = []
placed_of (Some who) history = placed who history
