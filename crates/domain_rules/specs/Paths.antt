-- The way from a domain to its root, over a list of domains; a domain is named by its place there
-- (`parent` of `struct irq_domain`, `include/linux/irqdomain.h`).
use Rattle.std.specs.Prelude.{ℕ, zero, suc, Option, Some, None, List, [], ◌∷◌, map, slice_get}
use Rattle.irq_base.specs.declared.domains.DomainDef.{DomainDef}
use Rattle.irq_base.specs.declared.domains.ControllerKind.{ControllerKind}
use Rattle.irq_base.specs.declared.domains.ControllerKind.TheVariants as levels

-- the most levels between a line and its processors
abbrev pub most_levels : ℕ
most_levels = 8

abbrev pub parent_in : Option DomainDef → Option ℕ
parent_in (Some def) = def.parent
parent_in None = None

-- the places of the domains on the way from this one to its root, this one first, at most n of them
abbrev pub way : ℕ → List DomainDef → Option ℕ → List ℕ
way zero domains from = []
way (suc n) domains None = []
way (suc n) domains (Some place) = place ∷ way n domains (parent_in (slice_get domains place))

-- a domain that isn't there passes everything on
abbrev pub kind_in : Option DomainDef → ControllerKind
kind_in (Some def) = def.kind
kind_in None = levels.Remap

-- the kinds of the levels from a domain to its root, the root's last
abbrev pub kinds_from : List DomainDef → Option ℕ → List ControllerKind
kinds_from domains from =
    map (λ place. kind_in (slice_get domains place)) (way most_levels domains from)

-- the kind of a level of a path; the level is a pair of a domain's place and a number there
abbrev pub kind_at : List DomainDef → ℕ × ℕ → ControllerKind
kind_at domains level = kind_in (slice_get domains level.0)

-- the kinds of the levels of a path, leaf first
abbrev pub kinds_on : List DomainDef → List (ℕ × ℕ) → List ControllerKind
kinds_on domains path = map (kind_at domains) path
