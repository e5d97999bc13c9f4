-- The virqs of a layout number the paths of its mapped lines, from 1.
use Rattle.std.proofs.Common.{◌≡◌, ℕ, zero, suc, ◌+◌, Bool, true, false, cond, is_none, Option, Some, List, [], ◌∷◌}
use Rattle.std.proofs.Common.{◌++◌, ◌≤◌, length, drop, refl, sym, ap, subst, ◌∙◌, append_assoc, arith}
use Rattle.std.specs.List.{slice_get, list_any}
use Rattle.std.proofs.lemmas.List.{append-nil, drop_all, length-map}
use Rattle.irq_base.specs.declared.domains.DomainDef.{DomainDef}
use Rattle.board_layout.specs.Laid.{paths_of, HavePaths, IsLaid}
use Rattle.board_def.specs.Seen.{BoardSeen}
use Rattle.board_def.specs.Unnamed.{defs_of, leaf_of, leaves_of}
use Rattle.domain_hier.specs.Hierarchies.{HierarchySeen}
use Rattle.domain_hier.specs.PathsInUse.{slot, path_in}
use Rattle.domain_rules.specs.Layout.{layout_of, layout_after, placement_of, path_of, is_past_path, is_used, count_of_mapped}
use Rattle.domain_rules.specs.Levels.{masking_kind}
use Rattle.domain_rules.specs.Paths.{kinds_from}
use Rattle.domain_rules.specs.declared.layouts.Placement.{Placement}
use Rattle.domain_rules.specs.declared.layouts.Placement.TheVariants as placements
use Rattle.domain_rules.specs.declared.layouts.Unmapped.TheVariants as reasons

number_by : (a b c : Bool) (n virq : ℕ) (own path : List (ℕ × ℕ))
    → cond a (placements.Refused reasons.NoMask) (cond b (placements.Refused reasons.OutOfRange)
    (cond c (placements.Refused reasons.Taken) (placements.Mapped n own))) ≡ placements.Mapped virq path → n ≡ virq
number_by true b c n virq own path e = absurd cc
number_by false true c n virq own path e = absurd cc
number_by false false true n virq own path e = absurd cc
number_by false false false n virq own path e = cc

-- a line that isn't refused has the virq after the virqs of the lines laid before it
number_of : (domains : List DomainDef) (earlier : List Placement) (leaf : ℕ × ℕ) (virq : ℕ) (path : List (ℕ × ℕ))
    → placement_of domains earlier leaf ≡ placements.Mapped virq path → count_of_mapped earlier + 1 ≡ virq
number_of domains earlier leaf virq path e =
    let own = path_of domains earlier leaf in
    number_by (is_none (masking_kind (kinds_from domains (Some leaf.0)))) (list_any (is_past_path domains) own)
    (is_used earlier leaf.0 leaf.1) (count_of_mapped earlier + 1) virq own path e

-- a mapped line of the layout, and the lines before it and after it
record IsAmong (all : List Placement) (virq : ℕ) (path : List (ℕ × ℕ)) : Type 0 where
  before : List Placement
  after : List Placement
  all_of : all ≡ before ++ placements.Mapped virq path ∷ after
  number : count_of_mapped before + 1 ≡ virq

among : (domains : List DomainDef) (earlier : List Placement) (leaves : List (ℕ × ℕ)) (i virq : ℕ) (path : List (ℕ × ℕ))
    → slice_get (layout_after domains earlier leaves) i ≡ Some (placements.Mapped virq path)
    → IsAmong (earlier ++ layout_after domains earlier leaves) virq path
among domains earlier [] i virq path at = absurd cc
among domains earlier (leaf ∷ leaves) zero virq path at =
    let p = placement_of domains earlier leaf in
    let rest = layout_after domains (earlier ++ p ∷ []) leaves in
    let here : p ≡ placements.Mapped virq path = cc in
    record {
      before = earlier;
      after = rest;
      all_of = ap (λ x. earlier ++ x ∷ rest) here;
      number = number_of domains earlier leaf virq path here;
    }
among domains earlier (leaf ∷ leaves) (suc i) virq path at =
    let p = placement_of domains earlier leaf in
    subst (λ (all : List Placement). IsAmong all virq path)
    (append_assoc earlier (p ∷ []) (layout_after domains (earlier ++ p ∷ []) leaves))
    (among domains (earlier ++ p ∷ []) leaves i virq path at)

-- behind the paths of the mapped lines before it stands the path of the next mapped line
path_after : (before after : List Placement) (virq : ℕ) (path : List (ℕ × ℕ))
    → slot (paths_of (before ++ placements.Mapped virq path ∷ after)) (count_of_mapped before) ≡ Some path
path_after [] after virq path = refl
path_after (placements.Mapped v p ∷ before) after virq path =
    let on : count_of_mapped before + 1 ≡ suc (count_of_mapped before) = omega arith in
    rw on (path_after before after virq path)
path_after (placements.Refused why ∷ before) after virq path = path_after before after virq path

-- the virq of a mapped line has the line's path
pub virqs_have_paths : (domains : List DomainDef) (leaves : List (ℕ × ℕ)) → HavePaths (paths_of (layout_of domains leaves)) (layout_of domains leaves)
virqs_have_paths domains leaves i virq path at =
    let own = among domains [] leaves i virq path at in
    let on : count_of_mapped own.before + 1 ≡ suc (count_of_mapped own.before) = omega arith in
    let number : virq ≡ suc (count_of_mapped own.before) = sym own.number ∙ on in
    ap (λ v. path_in (paths_of (layout_of domains leaves)) v) number
    ∙ (ap (λ ls. slot (paths_of ls) (count_of_mapped own.before)) own.all_of ∙ path_after own.before own.after virq path)

-- the paths and the layout of the domains and the lines asked for agree
pub have_paths : (domains : List DomainDef) (leaves : List (ℕ × ℕ)) (paths : List (Option (List (ℕ × ℕ)))) (layout : List Placement)
    → paths ≡ paths_of (layout_of domains leaves) → layout ≡ layout_of domains leaves → HavePaths paths layout
have_paths domains leaves paths layout are is =
    subst (λ (ps : List (Option (List (ℕ × ℕ)))). HavePaths ps layout) (sym are)
    (subst (λ (ls : List Placement). HavePaths (paths_of (layout_of domains leaves)) ls) (sym is)
    (virqs_have_paths domains leaves))

-- after all lines
pub all_have_paths : (b : BoardSeen) (lines : ℕ) (h : HierarchySeen) (layout : List Placement) → IsLaid b lines h layout
    → length b.lines ≤ lines → HavePaths h.paths layout
all_have_paths b lines h layout laid all =
    let leaves = leaves_of b.lines in
    let none : drop lines leaves ≡ [] = drop_all lines leaves (omega (arith, all, length-map b.lines leaf_of)) in
    let is : layout ≡ layout_of (defs_of b.domains) leaves =
    sym (append-nil layout) ∙ (ap (λ ls. layout ++ layout_after (defs_of b.domains) layout ls) (sym none) ∙ laid.rest) in
    have_paths (defs_of b.domains) leaves h.paths layout (laid.paths ∙ ap paths_of is) is
