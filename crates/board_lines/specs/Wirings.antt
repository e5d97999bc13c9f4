-- How the chips of a hierarchy's paths are wired.
use Rattle.std.specs.Prelude.{ℕ, Option}
use Rattle.std.specs.Option.{option_map}
use Rattle.irq_base.specs.Wiring.{Wiring}
use Rattle.domain_chain.specs.Chains.{wiring_of}
use Rattle.domain_hier.specs.Hierarchies.{HierarchySeen, chain_of}
use Rattle.domain_hier.specs.PathsInUse.{path_in}

-- how the chip of the virq's path is wired: its levels, and the number at its root if a level of it
-- sends messages
abbrev pub wiring_at : HierarchySeen → ℕ → Option Wiring
wiring_at h virq = option_map (λ path. wiring_of (chain_of h.domains path)) (path_in h.paths virq)
