-- Hierarchies of domains: what is seen of one, and what an allocation answers and leaves. Which
-- path a line gets, and why it is refused, is decided by the rules of layouts, over the paths in
-- use (`irq_domain_alloc_irqs_locked`, `irq_domain_insert_irq`, `kernel/irq/irqdomain.c`).
use Rattle.std.specs.Prelude.{◌≡◌, ℕ, ◌-◌, ◌<◌, Bool, true, false, IfSome, is_some, Option, Some}
use Rattle.std.specs.Prelude.{None, List, [], ◌∷◌, length, map, slice_get}
use Rattle.irq_base.specs.declared.domains.DomainDef.{DomainDef}
use Rattle.domain_maps.specs.Numbers.{virq_at, sizes, size_of_kind, is_on}
use Rattle.domain_maps.specs.declared.map.DomainMap.{DomainMap}
use Rattle.domain_rules.specs.Domains.{EachAfter, IsDomainAfter}
use Rattle.domain_rules.specs.Layout.{placement_of, path_of}
use Rattle.domain_rules.specs.Levels.{masking_kind, cell_of}
use Rattle.domain_chain.specs.Chains.{ChainSeen, fresh_chain, some_if, has_messages}
use Rattle.domain_rules.specs.Paths.{most_levels, way, kinds_on}
use Rattle.domain_rules.specs.declared.layouts.Placement.{Placement}
use Rattle.domain_rules.specs.declared.layouts.Placement.TheVariants as placements
use Rattle.domain_rules.specs.declared.layouts.Unmapped.TheVariants as reasons
use Rattle.domain_hier.specs.PathsInUse.{path_in, lowest_virq, placed, in_use}
use Rattle.domain_hier.specs.declared.answers.AllocAnswer.{AllocAnswer}
use Rattle.domain_hier.specs.declared.answers.AllocAnswer.TheVariants as allocs

pub record HierarchySeen : Type 0 where
  pub domains : List DomainDef
  -- the path of virq i + 1 at place i
  pub paths : List (Option (List (ℕ × ℕ)))

abbrev pub answer_by : Placement → ℕ → AllocAnswer
answer_by (placements.Refused reasons.NoMask) virq = allocs.NoMask
answer_by (placements.Refused reasons.OutOfRange) virq = allocs.OutOfRange
answer_by (placements.Refused reasons.Taken) virq = allocs.Taken
answer_by (placements.Mapped number path) virq = allocs.Ok virq

-- what an allocation answers if memory isn't refused; the line is asked for by its domain's place
-- and its number there
abbrev pub alloc_answer : HierarchySeen → ℕ × ℕ → AllocAnswer
alloc_answer h leaf = answer_by (placement_of h.domains (in_use h.paths) leaf) (lowest_virq h.paths)

abbrev pub is_allocated : AllocAnswer → Bool
is_allocated (allocs.Ok virq) = true
is_allocated _ = false

-- the answer is the one that is due; in place of a virq it may also be `NoMemory`
abbrev pub IsAnswered : AllocAnswer → AllocAnswer → Type 0
IsAnswered due allocs.NoMemory = is_allocated due ≡ true
IsAnswered due told = told ≡ due

-- the hierarchy after an allocation with this answer
abbrev pub after_alloc : AllocAnswer → HierarchySeen → ℕ × ℕ → HierarchySeen
after_alloc (allocs.Ok virq) h leaf =
    record h { paths = placed h.paths (path_of h.domains (in_use h.paths) leaf) }
after_alloc _ h leaf = h

-- ---- the chip of a path

abbrev pub number_in : Option (ℕ × ℕ) → ℕ
number_in (Some level) = level.1
number_in None = 0

-- the number at the last level, the root's
abbrev pub root_number : List (ℕ × ℕ) → ℕ
root_number path = number_in (slice_get path (length path - 1))

-- the chip of a path, to which nothing was done: one cell, with the properties that the levels have
-- together
abbrev pub chain_of : List DomainDef → List (ℕ × ℕ) → ChainSeen
chain_of domains path =
    let kinds = kinds_on domains path in fresh_chain (cell_of kinds) (length path)
    (some_if (has_messages kinds) (root_number path))

-- ---- what each hierarchy keeps

abbrev pub has_level : Option (List (ℕ × ℕ)) → ℕ → ℕ → Bool
has_level (Some path) domain hw = is_on path domain hw
has_level None domain hw = false

abbrev pub first_place : List (ℕ × ℕ) → Option ℕ
first_place [] = None
first_place (level ∷ levels) = Some level.0

-- a path goes by its first domain's way to the root, and a level of it masks
pub record IsPlaced (domains : List DomainDef) (path : List (ℕ × ℕ)) : Type 0 where
  pub there : IfSome (first_place path) (λ place. place < length domains)
  pub way : map (λ level. level.0) path ≡ way most_levels domains (first_place path)
  pub masks : is_some (masking_kind (kinds_on domains path)) ≡ true

pub record IsHierarchy (domains : List DomainDef) (maps : List DomainMap)
    (paths : List (Option (List (ℕ × ℕ)))) : Type 0 where
  pub each : EachAfter IsDomainAfter domains
  pub sizes : sizes maps ≡ map (λ def. size_of_kind def.map) domains
  -- each domain's map is exactly what the paths in use say
  pub mapped : (domain hw virq : ℕ) → virq_at maps domain hw ≡ Some virq
      → has_level (path_in paths virq) domain hw ≡ true
  pub told : (domain hw virq : ℕ) → has_level (path_in paths virq) domain hw ≡ true
      → virq_at maps domain hw ≡ Some virq
  pub placed : (virq : ℕ) (path : List (ℕ × ℕ)) → path_in paths virq ≡ Some path
      → IsPlaced domains path
