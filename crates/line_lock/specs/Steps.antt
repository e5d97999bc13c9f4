-- What each step on a word tells the pass that makes it.
use Rattle.std.specs.Prelude.{◌≡◌, ◌≢◌, ℕ, ◌≤◌, true, false, Option, Some, IfSome, List, [], ◌∷◌}
use Rattle.std.specs.Prelude.{◌++◌, length}
use Rattle.atomic_table.specs.Table.{Me}
use Rattle.irq_base.specs.Who.{actor_of}
use Rattle.irq_base.specs.declared.entries.Actor.{Actor}
use Rattle.irq_base.specs.declared.entries.Entry.{Entry}
use Rattle.irq_base.specs.declared.lines.LineDef.{LineDef}
use Rattle.line_lock.specs.Placed.{placed_of}
use Rattle.line_lock.specs.Knows.{BeginsWith, looked, glanced, IsCount, Meets, IsKnown}
use Rattle.line_lock.specs.declared.view.View.{View}

-- the pass has the turn, and holds a value with this history
abbrev pub holding : View → List Entry → View
holding v held = record v { turn = true; held = held }

-- the pass has looked at the history of the value that it holds; this is the history now
abbrev pub counted : View → List Entry → View
counted v history = record v { knows = looked v.knows history; held = history }

-- the pass has looked at the count alone
abbrev pub glimpsed : View → ℕ → View
glimpsed v found = record v { knows = glanced v.knows found }

abbrev pub idle : View → View
idle v = record v { turn = false; held = [] }

-- the pass looked at the count without the turn
pub record Glances {T : Type 0} (before : Me (Option T) View) (found : ℕ)
    (after : Me (Option T) View) : Type 0 where
  pub count : IsCount before.0.knows found
  pub then : after ≡ (glimpsed before.0 found, before.1)

module _ {T : Type 0} (def_of : T → LineDef) (entries_of : T → List Entry) where
  -- the value fits what the pass knows
  pub record Suits (v : View) (value : T) : Type 0 where
    pub def : def_of value ≡ v.def
    pub begins : BeginsWith (entries_of value) v.knows.seen
    pub mine : v.knows.mine ≡ placed_of v.knows.actor (entries_of value)

  -- the turn was free, and the pass has it now, with the value
  pub record Took (before after : Me (Option T) View) : Type 0 where
    pub value : T
    pub suits : Suits before.0 value
    pub then : after ≡ (holding before.0 (entries_of value), (0, Some value) ∷ [])

  -- the pass asked for the turn: it has the turn, or all is as before
  pub data Takes (before : Me (Option T) View) (found : ℕ) (after : Me (Option T) View)
      : Type 0 where
    got : found ≡ 0 → Took before after → Takes before found after
    busy : found ≢ 0 → after ≡ before → Takes before found after

  -- the pass counted one entry more, and has seen the history of the value that it carries
  pub record Raises (before after : Me (Option T) View) : Type 0 where
    pub value : T
    pub carried : before.1 ≡ (0, Some value) ∷ []
    pub then : after ≡ (counted before.0 (entries_of value), before.1)

  -- the pass counted no entry, and has seen the history of the value that it held
  abbrev pub Looks : Me (Option T) View → Me (Option T) View → Type 0
  Looks before after = after ≡ (counted before.0 before.0.held, before.1)

  -- the pass gave the turn back, with the value
  abbrev pub Gives : Me (Option T) View → Me (Option T) View → Type 0
  Gives before after = after ≡ (idle before.0, [])

  -- the pass looked, and learned what came of a meeting
  pub record Learns (before after : Me (Option T) View) : Type 0 where
    pub then : after ≡ before
    pub last : IfSome before.0.last (λ p. Meets p.0 p.1 before.0.knows)
    pub known : IsKnown before.0.knows

  -- the value carried has the history that was held and one more entry, by the actor; it isn't too
  -- long
  pub record Added (who : Actor) (me : Me (Option T) View) : Type 0 where
    pub value : T
    pub entry : Entry
    pub carried : me.1 ≡ (0, Some value) ∷ []
    pub more : entries_of value ≡ me.0.held ++ entry ∷ []
    pub by : actor_of entry ≡ who
    pub few : length (entries_of value) ≤ 100000000

  -- the value carried has the definition, and the history that was held
  pub record Ready (me : Me (Option T) View) : Type 0 where
    pub value : T
    pub carried : me.1 ≡ (0, Some value) ∷ []
    pub def : def_of value ≡ me.0.def
    pub same : entries_of value ≡ me.0.held
