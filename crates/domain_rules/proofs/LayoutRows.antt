-- A layout by hand: messages over a remapping of one number, and messages over the vectors
-- themselves.
use Rattle.std.proofs.Common.{◌≡◌, ℕ, Option, Some, None, List, [], ◌∷◌, refl}
use Rattle.irq_base.specs.declared.domains.DomainDef.{DomainDef}
use Rattle.irq_base.specs.declared.domains.ControllerKind.{ControllerKind}
use Rattle.irq_base.specs.declared.domains.ControllerKind.TheVariants as levels
use Rattle.irq_base.specs.declared.domains.MapKind.{MapKind}
use Rattle.irq_base.specs.declared.domains.MapKind.TheVariants as maps
use Rattle.domain_rules.specs.Layout.{layout_of}
use Rattle.domain_rules.specs.declared.layouts.Placement.TheVariants as placements
use Rattle.domain_rules.specs.declared.layouts.Unmapped.TheVariants as reasons

abbrev domain : MapKind → ControllerKind → Option ℕ → DomainDef
domain map kind parent = record { map = map; kind = kind; parent = parent }

abbrev domains : List DomainDef
domains =
    domain (maps.Linear 8) levels.Vector None
    ∷ domain (maps.Linear 1) levels.Remap (Some 0)
    ∷ domain maps.Tree levels.Msi (Some 1)
    ∷ domain maps.Tree levels.Msi (Some 0)
    ∷ []

-- the second line finds no number left in the remapping, and its vector is given back
chains : layout_of domains ((2, 40) ∷ (2, 41) ∷ (3, 5) ∷ [])
    ≡ placements.Mapped 1 ((2, 40) ∷ (1, 0) ∷ (0, 0) ∷ [])
    ∷ placements.Refused reasons.OutOfRange
    ∷ placements.Mapped 2 ((3, 5) ∷ (0, 1) ∷ [])
    ∷ []
chains = refl

-- a number that is taken, one past the map, and a line on a vector
refusals : layout_of domains ((3, 40) ∷ (3, 40) ∷ (0, 0) ∷ (1, 0) ∷ (3, 41) ∷ [])
    ≡ placements.Mapped 1 ((3, 40) ∷ (0, 0) ∷ [])
    ∷ placements.Refused reasons.Taken
    ∷ placements.Refused reasons.NoMask
    ∷ placements.Refused reasons.NoMask
    ∷ placements.Mapped 2 ((3, 41) ∷ (0, 1) ∷ [])
    ∷ []
refusals = refl

-- a latch with four numbers
past : layout_of (domain (maps.Linear 4) levels.Latch None ∷ []) ((0, 3) ∷ (0, 4) ∷ [])
    ≡ placements.Mapped 1 ((0, 3) ∷ []) ∷ placements.Refused reasons.OutOfRange ∷ []
past = refl
