-- The way from a domain to its root: how long it is, that it stays as domains are added, and what
-- an Lpi root makes of its path.
use Rattle.std.proofs.Common.{◌≡◌, ℕ, zero, suc, ◌<◌, ◌≤◌, Bool, true, false, ◌||◌, Option, Some, None, IfSome, List}
use Rattle.std.proofs.Common.{[], ◌∷◌, ◌++◌, length, map, take, refl, sym, ap, ◌∙◌, arith}
use Rattle.std.specs.List.{slice_get}
use Rattle.std.proofs.lemmas.List.{length-take}
use Rattle.irq_base.specs.declared.domains.DomainDef.{DomainDef}
use Rattle.irq_base.specs.declared.domains.ControllerKind.{ControllerKind}
use Rattle.irq_base.specs.declared.domains.ControllerKind.TheVariants as levels
use Rattle.domain_rules.specs.Domains.{EachAfter, IsDomainAfter, is_bad_parent}
use Rattle.domain_rules.specs.Levels.{is_root_kind, root_kind, keeps}
use Rattle.domain_rules.specs.Paths.{most_levels, way, kind_in, parent_in, kinds_from}

pub way_short : (n : ℕ) (domains : List DomainDef) (from : Option ℕ) → length (way n domains from) ≤ n
way_short zero domains from = omega arith
way_short (suc n) domains None = omega arith
way_short (suc n) domains (Some place) = omega (arith, way_short n domains (parent_in (slice_get domains place)))

-- the way from a declared domain stays

pub domain_stays : (xs : List DomainDef) (x : DomainDef) (i : ℕ) → i < length xs → slice_get (xs ++ x ∷ []) i ≡ slice_get xs i
domain_stays [] x i h = absurd (omega arith)
domain_stays (y ∷ ys) x zero h = refl
domain_stays (y ∷ ys) x (suc i) h = domain_stays ys x i (omega arith)

abbrev pub IsDeclared : List DomainDef → Option ℕ → Type 0
IsDeclared xs up = IfSome up (λ parent. parent < length xs)

pub declared_up : (xs : List DomainDef) → EachAfter IsDomainAfter xs → (place : ℕ) (r : Option DomainDef) → slice_get xs place ≡ r → IsDeclared xs (parent_in r)
declared_up xs each place None at = tt
declared_up xs each place (Some def) at = by def.parent (each place def at).declared
  where
    by : (up : Option ℕ) → IfSome up (λ parent. parent < length (take place xs)) → IsDeclared xs up
    by None h = tt
    by (Some parent) h = omega (arith, h, length-take place xs)

way_stays : (n : ℕ) (xs : List DomainDef) (x : DomainDef) (from : Option ℕ) → EachAfter IsDomainAfter xs → IsDeclared xs from
    → map (λ place. kind_in (slice_get (xs ++ x ∷ []) place)) (way n (xs ++ x ∷ []) from) ≡ map (λ place. kind_in (slice_get xs place)) (way n xs from)
way_stays zero xs x from each h = refl
way_stays (suc n) xs x None each h = refl
way_stays (suc n) xs x (Some place) each h =
    let same = domain_stays xs x place h in
    ap (λ r. kind_in r ∷ map (λ place. kind_in (slice_get (xs ++ x ∷ []) place)) (way n (xs ++ x ∷ []) (parent_in r))) same
    ∙ ap (λ ks. kind_in (slice_get xs place) ∷ ks) (way_stays n xs x (parent_in (slice_get xs place)) each
    (declared_up xs each place (slice_get xs place) refl))

pub kinds_stay : (xs : List DomainDef) (x : DomainDef) (place : ℕ) → EachAfter IsDomainAfter xs → place < length xs
    → kinds_from (xs ++ x ∷ []) (Some place) ≡ kinds_from xs (Some place)
kinds_stay xs x place each within = way_stays most_levels xs x (Some place) each within

-- each level above which another stands is a child
abbrev AreChildren : List DomainDef → Type 0
AreChildren domains = (place : ℕ) (def : DomainDef) → slice_get domains place ≡ Some def → (parent : ℕ)
    → def.parent ≡ Some parent → is_root_kind def.kind ≡ false

no_parent_of_root : (r rest : Bool) → (r || rest) ≡ false → r ≡ false
no_parent_of_root r rest h = grind arith

are_children : (domains : List DomainDef) → EachAfter IsDomainAfter domains → AreChildren domains
are_children domains each place def at parent up =
    no_parent_of_root (is_root_kind def.kind) _ (sym (ap (is_bad_parent (take place domains) def.kind) up) ∙ (each place def at).parent)

child_of : (domains : List DomainDef) → AreChildren domains → (place parent : ℕ) (r : Option DomainDef)
    → slice_get domains place ≡ r → parent_in r ≡ Some parent → is_root_kind (kind_in r) ≡ false
child_of domains children place parent None at up = absurd cc
child_of domains children place parent (Some def) at up = children place def at parent up

keeps_more : (k : ControllerKind) (ks : List ControllerKind) → is_root_kind k ≡ false → keeps ks ≡ true → keeps (k ∷ ks) ≡ true
keeps_more levels.Latch ks h rest = absurd cc
keeps_more levels.Plain ks h rest = absurd cc
keeps_more levels.Level ks h rest = absurd cc
keeps_more levels.Eoi ks h rest = absurd cc
keeps_more levels.Msi ks h rest = refl
keeps_more levels.Remap ks h rest = rest
keeps_more levels.Vector ks h rest = absurd cc
keeps_more levels.Lpi ks h rest = absurd cc
keeps_more levels.Pin ks h rest = absurd cc

lpi_alone : (k : ControllerKind) → k ≡ levels.Lpi → keeps (k ∷ []) ≡ true
lpi_alone k h = ap (λ k. keeps (k ∷ [])) h

lpi_keeps : (domains : List DomainDef) → AreChildren domains → (n place : ℕ)
    → root_kind (map (λ place. kind_in (slice_get domains place)) (way n domains (Some place))) ≡ levels.Lpi
    → keeps (map (λ place. kind_in (slice_get domains place)) (way n domains (Some place))) ≡ true
lpi_keeps domains children zero place root = absurd cc
lpi_keeps domains children (suc n) place root =
    by n (parent_in (slice_get domains place)) refl root (λ parent. lpi_keeps domains children n parent)
  where
    by : (n : ℕ) (up : Option ℕ) → parent_in (slice_get domains place) ≡ up
        → root_kind (kind_in (slice_get domains place)
        ∷ map (λ place. kind_in (slice_get domains place)) (way n domains up)) ≡ levels.Lpi
        → ((parent : ℕ) → root_kind (map (λ place. kind_in (slice_get domains place)) (way n domains (Some parent)))
        ≡ levels.Lpi → keeps (map (λ place. kind_in (slice_get domains place)) (way n domains (Some parent)))
        ≡ true)
        → keeps (kind_in (slice_get domains place) ∷ map (λ place. kind_in (slice_get domains place)) (way n domains up)) ≡ true
    by zero up is root rest = lpi_alone (kind_in (slice_get domains place)) root
    by (suc n) None is root rest = lpi_alone (kind_in (slice_get domains place)) root
    by (suc n) (Some parent) is root rest =
        keeps_more (kind_in (slice_get domains place)) (map (λ place. kind_in (slice_get domains place)) (way (suc n) domains (Some parent)))
        (child_of domains children place parent (slice_get domains place) refl is) (rest parent root)

-- a path whose root is an Lpi keeps
pub keeps_under_lpi : (domains : List DomainDef) → EachAfter IsDomainAfter domains → (place : ℕ)
    → root_kind (kinds_from domains (Some place)) ≡ levels.Lpi → keeps (kinds_from domains (Some place)) ≡ true
keeps_under_lpi domains each place root = lpi_keeps domains (are_children domains each) most_levels place root
