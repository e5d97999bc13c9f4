-- The layout of lines over domains: which hardware number each line has at each level of its path,
-- and its virq; or why it is refused (`irq_domain_alloc_irqs_locked`, `kernel/irq/irqdomain.c`;
-- which numbers a line gets, and which lines are refused, is ours). A line is asked for by the
-- place of its domain and its own number there. The lines are laid in the order in which they are
-- asked for.
use Rattle.std.specs.Prelude.{ℕ, zero, suc, ◌+◌, Bool, true, false, ◌&&◌, ◌==◌, nat_le, is_none}
use Rattle.std.specs.Prelude.{Option, Some, None, List, [], ◌∷◌, ◌++◌, length, map, slice_get}
use Rattle.std.specs.Prelude.{if◌then◌else◌}
use Rattle.std.specs.List.{list_any}
use Rattle.irq_base.specs.declared.domains.DomainDef.{DomainDef}
use Rattle.irq_base.specs.declared.domains.MapKind.{MapKind}
use Rattle.irq_base.specs.declared.domains.MapKind.TheVariants as maps
use Rattle.domain_rules.specs.Levels.{masking_kind}
use Rattle.domain_rules.specs.Paths.{most_levels, way, kinds_from}
use Rattle.domain_rules.specs.declared.layouts.Placement.{Placement}
use Rattle.domain_rules.specs.declared.layouts.Placement.TheVariants as placements
use Rattle.domain_rules.specs.declared.layouts.Unmapped.TheVariants as reasons

abbrev pub is_mapped : Placement → Bool
is_mapped (placements.Mapped virq path) = true
is_mapped (placements.Refused why) = false

-- the path has the number at the domain
abbrev pub has_number : ℕ → ℕ → Placement → Bool
has_number domain number (placements.Mapped virq path) =
    list_any (λ level. (level.0 == domain) && (level.1 == number)) path
has_number domain number (placements.Refused why) = false

-- a line laid before has the number at the domain
abbrev pub is_used : List Placement → ℕ → ℕ → Bool
is_used earlier domain number = list_any (has_number domain number) earlier

abbrev pub unused_from : ℕ → ℕ → List Placement → ℕ → ℕ
unused_from zero number earlier domain = number
unused_from (suc n) number earlier domain =
    if is_used earlier domain number then unused_from n (number + 1) earlier domain else number

-- the lowest number that isn't used at the domain; n lines use at most n numbers, so one of the
-- numbers 0 to n is free
abbrev pub lowest_unused : List Placement → ℕ → ℕ
lowest_unused earlier domain = unused_from (length earlier) 0 earlier domain

abbrev pub is_past_map : MapKind → ℕ → Bool
is_past_map (maps.Linear size) number = nat_le size number
is_past_map maps.Tree number = false

abbrev pub is_past_domain : Option DomainDef → ℕ → Bool
is_past_domain (Some def) number = is_past_map def.map number
is_past_domain None number = false

-- the level's domain has no room for its number
abbrev pub is_past_path : List DomainDef → ℕ × ℕ → Bool
is_past_path domains level = is_past_domain (slice_get domains level.0) level.1

abbrev pub above : List ℕ → List ℕ
above [] = []
above (place ∷ places) = places

-- the line's own number at its domain, and the lowest unused one at each level above
abbrev pub path_of : List DomainDef → List Placement → ℕ × ℕ → List (ℕ × ℕ)
path_of domains earlier leaf = leaf ∷ map (λ place. (place, lowest_unused earlier place))
    (above (way most_levels domains (Some leaf.0)))

abbrev pub count_of_mapped : List Placement → ℕ
count_of_mapped [] = 0
count_of_mapped (p ∷ ps) = if is_mapped p then count_of_mapped ps + 1 else count_of_mapped ps

-- Where the line lies. It is refused if no level masks, if a level has no number for it, or if its
-- own number is used.
abbrev pub placement_of : List DomainDef → List Placement → ℕ × ℕ → Placement
placement_of domains earlier leaf =
    let path = path_of domains earlier leaf in
    if is_none (masking_kind (kinds_from domains (Some leaf.0)))
    then placements.Refused reasons.NoMask
    else if list_any (is_past_path domains) path then placements.Refused reasons.OutOfRange
    else if is_used earlier leaf.0 leaf.1 then placements.Refused reasons.Taken
    else placements.Mapped (count_of_mapped earlier + 1) path

abbrev pub layout_after : List DomainDef → List Placement → List (ℕ × ℕ) → List Placement
layout_after domains earlier [] = []
layout_after domains earlier (leaf ∷ leaves) =
    let placement = placement_of domains earlier leaf in placement
    ∷ layout_after domains (earlier ++ placement ∷ []) leaves

-- a placement for each line that is asked for, in their order
abbrev pub layout_of : List DomainDef → List (ℕ × ℕ) → List Placement
layout_of domains leaves = layout_after domains [] leaves
