-- The rule of the counted lock: what holds between any two steps of its two words, the turn and the
-- count, of the slot with the value, and of all passes.
use Rattle.std.specs.Prelude.{◌≡◌, ◌≢◌, ◌⊎◌, ℕ, true, false, IfSome, Option, Some, None, List, []}
use Rattle.std.specs.Prelude.{◌∷◌, length}
use mathlib.Core.Option.{some, none}
use lib.ListN.{get_elem?}
use Rattle.atomic_table.specs.Table.{State}
use Rattle.irq_base.specs.declared.entries.Actor.{Actor}
use Rattle.irq_base.specs.declared.entries.Entry.{Entry}
use Rattle.irq_base.specs.declared.lines.FlowKind.TheVariants as flows
use Rattle.irq_base.specs.declared.lines.LineDef.{LineDef}
use Rattle.irq_base.specs.declared.lines.Trigger.TheVariants as triggers
use Rattle.line_lock.specs.Placed.{placed, placed_of}
use Rattle.line_lock.specs.Knows.{BeginsWith, is_among, nothing_known, forked, newcomer, met, Meets}
use Rattle.line_lock.specs.declared.view.View.{View}

-- A pass that is still there fits the history.
pub record Fits (key : LineDef) (history : List Entry) (v : View) : Type 0 where
  pub def : v.def ≡ key
  -- what it has seen is a beginning of the history
  pub seen : BeginsWith history v.knows.seen
  -- its own entries are exactly the entries of its actor in the history
  pub mine : v.knows.mine ≡ placed_of v.knows.actor history
  -- all of them lie within what it has seen
  pub within : v.knows.mine ≡ placed_of v.knows.actor v.knows.seen

-- The first pass, which gives the other passes.
pub record IsFirst (v : View) : Type 0 where
  pub there : v.spent ≡ false
  pub actor : v.knows.actor ≡ None
  -- each actor that is out was given a pass
  pub given : (who : Actor) → is_among who v.knows.out ≡ true → is_among who v.knows.given ≡ true
  -- what it knows now is what it and the pass that it met last knew, taken together
  pub last : IfSome v.last (λ p. Meets p.0 p.1 v.knows)

-- the first pass, at first
abbrev pub first_view : LineDef → View
first_view key =
    record { def = key; knows = nothing_known; turn = false; held = []; spent = false; last = None }

-- the first pass after it gave a pass to the actor; below, the pass that it gave
abbrev pub left_view : View → Actor → View
left_view v who = record v { knows = forked v.knows who; last = None }

abbrev pub right_view : View → Actor → View
right_view v who = record v { knows = newcomer v.knows who; turn = false; held = []; last = None }

-- the first pass after it met another pass
abbrev pub met_view : View → View → View
met_view v w = record v { knows = met v.knows w.knows; last = Some (v.knows, w.knows) }

-- a pass's view after the pass was met; its definition tells nothing
abbrev pub spent_view : View
spent_view = record {
  def = record {
    line = record { 0 = 0 };
    flow = flows.Edge;
    trigger = triggers.Edge;
    keeps = false;
    recalls = false;
    retriggers = false;
    unlazy = false;
    later = false;
    mask = 0;
    cpus = 0;
    window = 0;
    limit = 0;
    log = 0;
    devices = [];
    calls = [];
    runs = [];
    told = [];
  };
  knows = nothing_known;
  turn = false;
  held = [];
  spent = true;
  last = None;
}

-- The passes fit the history, and each actor has one pass.
pub record Passes (key : LineDef) (history : List Entry) (views : List View) : Type 0 where
  pub seats : (id : ℕ) (v : View) → get_elem? views id ≡ some v → v.spent ≡ false
      → Fits key history v
  -- there is one first pass
  pub first : View
  pub at : get_elem? views 0 ≡ some first
  pub is_first : IsFirst first
  -- each other pass that is still there has an actor, and the actor is out
  pub actors : (id : ℕ) (v : View) → get_elem? views id ≡ some v → v.spent ≡ false → id ≢ 0
      → (who : Actor) × (v.knows.actor ≡ Some who) × (is_among who first.knows.out ≡ true)
  -- each actor that is out has a pass that is still there
  pub back : (who : Actor) → is_among who first.knows.out ≡ true
      → (id : ℕ) × (v : View) × (get_elem? views id ≡ some v) × (v.spent ≡ false)
      × (v.knows.actor ≡ Some who)
  -- no two passes have the same actor
  pub differ : (i j : ℕ) (v w : View) (who : Actor) → get_elem? views i ≡ some v
      → get_elem? views j ≡ some w → v.spent ≡ false → w.spent ≡ false → v.knows.actor ≡ Some who
      → w.knows.actor ≡ Some who → i ≡ j
  -- the history has no entry of an actor that wasn't given a pass
  pub strangers : (who : Actor) → is_among who first.knows.given ≡ false
      → placed who history ≡ []
  -- the first pass has seen each entry of an actor that was given a pass and isn't out
  pub settled : (who : Actor) → is_among who first.knows.given ≡ true
      → is_among who first.knows.out ≡ false
      → placed who history ≡ placed who first.knows.seen

module _ {T : Type 0} (def_of : T → LineDef) (entries_of : T → List Entry) where
  -- Nobody has the turn: the word is 0, and the value is at home.
  pub record IsFree (key : LineDef) (history : List Entry) (s : State (Option T) View)
      : Type 0 where
    -- the count is the length of the history
    pub words : s.words ≡ 0 ∷ length history ∷ []
    pub value : T
    pub home : s.homes ≡ some (Some value) ∷ []
    pub def : def_of value ≡ key
    pub entries : entries_of value ≡ history
    pub idle : (id : ℕ) (v : View) → get_elem? s.views id ≡ some v → v.turn ≡ false

  -- One pass has the turn: the word is 1, and the slot is out.
  pub record IsTaken (history : List Entry) (s : State (Option T) View) : Type 0 where
    -- the count is the length of the history
    pub words : s.words ≡ 1 ∷ length history ∷ []
    pub home : s.homes ≡ none ∷ []
    pub holder : ℕ
    pub view : View
    pub at : get_elem? s.views holder ≡ some view
    pub there : view.spent ≡ false
    pub turn : view.turn ≡ true
    -- the value that the pass holds has the history
    pub held : view.held ≡ history
    pub one : (id : ℕ) (v : View) → get_elem? s.views id ≡ some v → v.turn ≡ true → id ≡ holder

  pub record Holds (key : LineDef) (s : State (Option T) View) : Type 0 where
    pub history : List Entry
    pub turn : IsFree key history s ⊎ IsTaken history s
    pub passes : Passes key history s.views
