-- What is laid of a board so far, and the paths of the lines that aren't refused.
use Rattle.std.specs.Prelude.{◌≡◌, ℕ, Option, Some, List, [], ◌∷◌, ◌++◌, length, drop, slice_get}
use Rattle.board_def.specs.Layout.{layout_of}
use Rattle.board_def.specs.Seen.{BoardSeen}
use Rattle.board_def.specs.Unnamed.{defs_of, leaves_of}
use Rattle.domain_hier.specs.Hierarchies.{HierarchySeen}
use Rattle.domain_hier.specs.PathsInUse.{path_in}
use Rattle.domain_rules.specs.Layout.{layout_after}
use Rattle.domain_hier.proofs.Ways.{Falls, places}
use Rattle.domain_rules.specs.declared.layouts.Placement.{Placement}
use Rattle.domain_rules.specs.declared.layouts.Placement.TheVariants as placements

-- the paths, in the layout's order: the first has virq 1
abbrev pub paths_of : List Placement → List (Option (List (ℕ × ℕ)))
paths_of [] = []
paths_of (placements.Mapped virq path ∷ layout) = Some path ∷ paths_of layout
paths_of (placements.Refused why ∷ layout) = paths_of layout

-- a line that isn't refused has its path at the place of its virq
abbrev pub HavePaths : List (Option (List (ℕ × ℕ))) → List Placement → Type 0
HavePaths paths layout = (i virq : ℕ) (path : List (ℕ × ℕ))
    → slice_get layout i ≡ Some (placements.Mapped virq path) → path_in paths virq ≡ Some path

-- no domain stands twice in a path
abbrev pub AllFall : List Placement → Type 0
AllFall [] = Unit {0}
AllFall (placements.Mapped virq path ∷ layout) = Falls (places path) × AllFall layout
AllFall (placements.Refused why ∷ layout) = AllFall layout

-- the first `lines` of the board's lines are laid: their placements are the layout's, and the
-- hierarchy has their paths
pub record IsLaid (b : BoardSeen) (lines : ℕ) (h : HierarchySeen) (layout : List Placement)
    : Type 0 where
  pub domains : h.domains ≡ defs_of b.domains
  pub paths : h.paths ≡ paths_of layout
  pub falls : AllFall layout
  pub count : length layout ≡ lines
  pub rest : layout ++ layout_after (defs_of b.domains) layout (drop lines (leaves_of b.lines))
      ≡ layout_of b
