-- Which domains there may be. Whether a domain is allowed depends on the domains before it.
use Rattle.std.specs.Prelude.{◌≡◌, ℕ, ◌<◌, ◌≤◌, Bool, true, false, not, ◌&&◌, ◌||◌, nat_le}
use Rattle.std.specs.Prelude.{IfSome, Option, Some, None, List, length, take, slice_get}
use Rattle.irq_base.specs.declared.domains.DomainDef.{DomainDef}
use Rattle.irq_base.specs.declared.domains.ControllerKind.{ControllerKind}
use Rattle.irq_base.specs.declared.domains.ControllerKind.TheVariants as levels
use Rattle.irq_base.specs.declared.domains.MapKind.{MapKind}
use Rattle.irq_base.specs.declared.domains.MapKind.TheVariants as maps
use Rattle.domain_rules.specs.Levels.{root_kind, is_root_kind, presents_level_kind}
use Rattle.domain_rules.specs.Paths.{most_levels, way, kinds_from}

-- P holds of each item and the items before it
abbrev pub EachAfter : {A : Type 0} → (List A → A → Type 0) → List A → Type 0
EachAfter {A} P items = (i : ℕ) (x : A) → slice_get items i ≡ Some x → P (take i items) x

abbrev pub is_msi : ControllerKind → Bool
is_msi levels.Msi = true
is_msi _ = false

-- A root has no parent, a child has one; messages are sent as edges; and a path has at most eight
-- levels.
abbrev pub is_bad_parent : List DomainDef → ControllerKind → Option ℕ → Bool
is_bad_parent earlier kind None = not (is_root_kind kind)
is_bad_parent earlier kind (Some parent) =
    is_root_kind kind
    || ((is_msi kind && presents_level_kind (root_kind (kinds_from earlier (Some parent))))
    || nat_le most_levels (length (way most_levels earlier (Some parent))))

abbrev pub IsSize : MapKind → Type 0
IsSize (maps.Linear size) = (1 ≤ size) × (size ≤ 1024)
IsSize maps.Tree = Unit {0}

pub record IsDomainAfter (earlier : List DomainDef) (def : DomainDef) : Type 0 where
  pub size : IsSize def.map
  -- its parent stands before it
  pub declared : IfSome def.parent (λ parent. parent < length earlier)
  pub parent : is_bad_parent earlier def.kind def.parent ≡ false
