-- What contracts see of a lock and of a pass.
use Rattle.std.specs.Prelude.{◌≡◌, ◌⊎◌, ℕ, Bool, true, false, Option, Some, None, List, [], ◌∷◌}
use Rattle.std.specs.Prelude.{◌++◌, length}
use Rattle.atomic_table.specs.Seated.{TableId}
use Rattle.atomic_table.specs.Table.{Me}
use Rattle.irq_base.specs.Who.{actor_of}
use Rattle.irq_base.specs.declared.entries.Actor.{Actor}
use Rattle.irq_base.specs.declared.entries.Entry.{Entry}
use Rattle.irq_base.specs.declared.lines.LineDef.{LineDef}
use Rattle.line_lock.specs.Placed.{placed_of}
use Rattle.line_lock.specs.Knows.{IsKnown}
use Rattle.line_lock.specs.declared.view.Known.{Known}
use Rattle.line_lock.specs.declared.view.View.{View}

-- What is seen of a lock: which one it is, and the definition of the value that it keeps.
pub record LockSeen : Type 0 where
  pub table : TableId
  pub def : LineDef

-- What is seen of a pass: its lock, the definition, what it knows, and, while it has the turn, the
-- history of the value that it holds.
pub record PassSeen : Type 0 where
  pub table : TableId
  pub def : LineDef
  pub knows : Known
  pub turn : Bool
  pub held : List Entry

abbrev pub IsPassOf : LockSeen → PassSeen → Type 0
IsPassOf lock pass = (pass.table ≡ lock.table) × (pass.def ≡ lock.def)

-- the history has one entry more than what was held, by the actor
abbrev pub IsMore : Option Actor → List Entry → List Entry → Type 0
IsMore who held history =
    (e : Entry) × (history ≡ held ++ e ∷ []) × (who ≡ Some (actor_of e))

-- the history is the one that was held, or has one entry more, by the actor
abbrev pub Extends : Option Actor → List Entry → List Entry → Type 0
Extends who held history = (history ≡ held) ⊎ IsMore who held history

-- What a pass keeps while it has the turn.
pub record IsHolding {T : Type 0} (me : Me (Option T) View) (held : ℕ) : Type 0 where
  pub carried : me.1 ≡ (0, None) ∷ []
  pub count : held ≡ length me.0.held
  pub mine : me.0.knows.mine ≡ placed_of me.0.knows.actor me.0.held

-- What every pass keeps.
pub record IsPass {T : Type 0} (me : Me (Option T) View) (who : Option Actor) (seen held : ℕ)
    : Type 0 where
  pub there : me.0.spent ≡ false
  pub known : IsKnown me.0.knows
  pub actor : who ≡ me.0.knows.actor
  pub front : seen ≡ length me.0.knows.seen
  pub idle : me.0.turn ≡ false → me.1 ≡ []
  pub holding : me.0.turn ≡ true → IsHolding me held
