-- The layout of a board by hand: messages over a remapping of one number, and messages over the
-- vectors themselves.
use Rattle.std.proofs.Common.{◌≡◌, ℕ, false, Option, Some, None, List, [], ◌∷◌, codes, refl}
use Rattle.irq_base.specs.declared.domains.ControllerKind.{ControllerKind}
use Rattle.irq_base.specs.declared.domains.ControllerKind.TheVariants as levels
use Rattle.irq_base.specs.declared.domains.MapKind.{MapKind}
use Rattle.irq_base.specs.declared.domains.MapKind.TheVariants as maps
use Rattle.board_def.specs.Layout.{layout_of}
use Rattle.board_def.specs.Seen.{BoardSeen}
use Rattle.board_def.specs.Names.{name_of}
use Rattle.domain_rules.specs.declared.layouts.Placement.TheVariants as placements
use Rattle.domain_rules.specs.declared.layouts.Unmapped.TheVariants as reasons
use Rattle.board_def.specs.declared.rows.DomainRow.{DomainRow}
use Rattle.board_def.specs.declared.rows.LineRow.{LineRow}

abbrev domain : List ℕ → MapKind → ControllerKind → Option ℕ → DomainRow
domain name map kind parent = record { name = name_of name; def = record { map = map; kind = kind; parent = parent } }

abbrev line : ℕ → ℕ → ℕ → LineRow
line number place hw = record { line = record { 0 = number }; domain = place; hw = hw; unlazy = false; later = false; mask = 1 }

abbrev domains : List DomainRow
domains =
    domain (codes "vector") (maps.Linear 8) levels.Vector None
    ∷ domain (codes "remap") (maps.Linear 1) levels.Remap (Some 0)
    ∷ domain (codes "msi") maps.Tree levels.Msi (Some 1)
    ∷ domain (codes "near") maps.Tree levels.Msi (Some 0)
    ∷ []

abbrev board : BoardSeen
board = record {
  version = 1;
  cpus = 1;
  window = 100000;
  limit = 99900;
  log = 10000;
  domains = domains;
  lines
      = line 1 2 40 ∷ line 2 2 41 ∷ line 3 3 5 ∷ [];
  devices = [];
  told = [];
  runs = [];
  drivers = [];
  calls = [];
  picks = [];
}

-- the second line finds no number left in the remapping, and its vector is given back
chains : layout_of board
    ≡ placements.Mapped 1 ((2, 40) ∷ (1, 0) ∷ (0, 0) ∷ [])
    ∷ placements.Refused reasons.OutOfRange
    ∷ placements.Mapped 2 ((3, 5) ∷ (0, 1) ∷ [])
    ∷ []
chains = refl
