-- The chip of a path: its root and, if a level of messages masks, that level before it. Each other
-- level passes everything on and is open for good.
use Rattle.std.specs.Prelude.{◌≡◌, ℕ, Bool, true, false, not, ◌&&◌, if◌then◌else◌, IfSome, Option}
use Rattle.std.specs.Prelude.{Some, None, List, [], ◌∷◌}
use Rattle.std.specs.List.{list_any}
use Rattle.std.specs.Option.{option_map}
use Rattle.irq_base.specs.Cell.{Cell, is_edge_cell, fresh_cell}
use Rattle.irq_base.specs.Wiring.{Wiring}
use Rattle.irq_base.specs.declared.domains.ControllerKind.{ControllerKind}
use Rattle.chip_msi.specs.Messages.{LevelSeen, message_of}
use Rattle.chip_msi.specs.declared.message.Message.{Message}
use Rattle.domain_rules.specs.Domains.{is_msi}
use Rattle.domain_rules.specs.Levels.{is_root_kind, keeps_kind, stores_at_root, retriggers_kind}
use Rattle.domain_rules.specs.Levels.{serves_kind, trigger_of_root}

-- the kinds of a path's levels, leaf first: children, and a root at the end
abbrev pub is_path_of_kinds : List ControllerKind → Bool
is_path_of_kinds [] = false
is_path_of_kinds (k ∷ []) = is_root_kind k
is_path_of_kinds (k ∷ (x ∷ xs)) = not (is_root_kind k) && is_path_of_kinds (x ∷ xs)

-- a level of it sends messages
abbrev pub has_messages : List ControllerKind → Bool
has_messages kinds = list_any is_msi kinds

-- a root of this kind by itself, before anything was done to it
abbrev pub root_cell : ControllerKind → Cell
root_cell kind = fresh_cell (trigger_of_root kind) (keeps_kind kind) (stores_at_root kind)
    (retriggers_kind kind) (serves_kind kind)

-- The cell of a level of messages, if there is one, with the root's. The level of messages, if
-- there is one, masks and stores in the root's place, and what was sent to the root isn't taken
-- back.
abbrev pub chain_cell : Option LevelSeen → Cell → Cell
chain_cell None root = root
chain_cell (Some level) root =
    record root { keeps = true; recalls = false; masked = level.masked; stored = level.pending }

-- if a level of messages masks, the root presents edges and is open
abbrev pub IsOpenBehind : Option LevelSeen → Cell → Type 0
IsOpenBehind level root = IfSome level (λ _. (is_edge_cell root ≡ true) × (root.masked ≡ false))

-- what is seen of a chain
pub record ChainSeen : Type 0 where
  pub cell : Cell
  -- its domains have activated the interrupt
  pub active : Bool
  -- the processor that it is aimed at
  pub aimed : ℕ
  -- the number of its levels
  pub levels : ℕ
  -- the number that its messages carry, if it sends messages: the one at its root
  pub number : Option ℕ

-- a chain to which nothing was done
abbrev pub fresh_chain : Cell → ℕ → Option ℕ → ChainSeen
fresh_chain cell levels number =
    record { cell = cell; active = false; aimed = 0; levels = levels; number = number }

-- how a chain is wired
abbrev pub wiring_of : ChainSeen → Wiring
wiring_of c = record { levels = c.levels; number = c.number }

-- what chips with this wiring send while they are active; it goes to the processor at which they
-- are aimed
abbrev pub sent_by : Bool → ℕ → Wiring → Option Message
sent_by active aimed wiring = if active then option_map (message_of aimed) wiring.number else None

-- what a chain sends
abbrev pub message_by : ChainSeen → Option Message
message_by c = sent_by c.active c.aimed (wiring_of c)

abbrev pub some_if : Bool → ℕ → Option ℕ
some_if b number = if b then Some number else None

-- the number that messages carry, if a level sends them
abbrev pub number_sent : Option LevelSeen → ℕ → Option ℕ
number_sent None number = None
number_sent (Some level) number = Some number
