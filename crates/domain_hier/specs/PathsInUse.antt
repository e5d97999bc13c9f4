-- The finite map from the virqs in use to their paths, as a list: at place i stands the path of
-- virq i + 1, if that virq is in use (virq 0 never is).
use Rattle.std.specs.Prelude.{ℕ, zero, suc, ◌+◌, if◌then◌else◌, is_some, Option, Some, None, List}
use Rattle.std.specs.Prelude.{[], ◌∷◌, slice_index_or, slice_set, map}
use Rattle.domain_rules.specs.Layout.{lowest_unused}
use Rattle.domain_rules.specs.declared.layouts.Placement.{Placement}
use Rattle.domain_rules.specs.declared.layouts.Placement.TheVariants as placements

-- the path at place i
abbrev pub slot : List (Option (List (ℕ × ℕ))) → ℕ → Option (List (ℕ × ℕ))
slot paths i = slice_index_or paths i None

-- the path of a virq; none if it isn't in use
abbrev pub path_in : List (Option (List (ℕ × ℕ))) → ℕ → Option (List (ℕ × ℕ))
path_in paths zero = None
path_in paths (suc i) = slot paths i

-- the first place without a path; the virq there is the lowest from 1 that isn't in use
abbrev pub first_free : List (Option (List (ℕ × ℕ))) → ℕ
first_free [] = 0
first_free (None ∷ paths) = 0
first_free (Some path ∷ paths) = first_free paths + 1

abbrev pub lowest_virq : List (Option (List (ℕ × ℕ))) → ℕ
lowest_virq paths = first_free paths + 1

-- the paths, with this one for the lowest virq that isn't in use
abbrev pub placed : List (Option (List (ℕ × ℕ))) → List (ℕ × ℕ) → List (Option (List (ℕ × ℕ)))
placed [] new = Some new ∷ []
placed (None ∷ paths) new = Some new ∷ paths
placed (Some path ∷ paths) new = Some path ∷ placed paths new

-- a virq's path is given up
abbrev pub freed : List (Option (List (ℕ × ℕ))) → ℕ → List (Option (List (ℕ × ℕ)))
freed paths zero = paths
freed paths (suc i) = if is_some (slot paths i) then slice_set paths i None else paths

-- the paths in use, each with its virq, from a virq on
abbrev pub in_use_from : ℕ → List (Option (List (ℕ × ℕ))) → List Placement
in_use_from virq [] = []
in_use_from virq (None ∷ paths) = in_use_from (virq + 1) paths
in_use_from virq (Some path ∷ paths) = placements.Mapped virq path ∷ in_use_from (virq + 1) paths

abbrev pub in_use : List (Option (List (ℕ × ℕ))) → List Placement
in_use paths = in_use_from 1 paths

-- levels at these places, each with the lowest number that no path in use has there
abbrev pub lowest_levels : List Placement → List ℕ → List (ℕ × ℕ)
lowest_levels earlier places = map (λ place. (place, lowest_unused earlier place)) places
