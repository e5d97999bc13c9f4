-- The kinds on a path make a chain: children, and a root at the end; and a path with messages has a
-- root that presents edges.
use Rattle.std.proofs.Common.{◌≡◌, ℕ, zero, suc, ◌+◌, ◌<◌, ◌≤◌, Bool, true, false, not, ◌&&◌, ◌||◌, Option, Some, None}
use Rattle.std.proofs.Common.{List, [], ◌∷◌, ◌++◌, length, map, take, refl, sym, ap, subst, ◌∙◌, arith}
use Rattle.std.proofs.Math.ListN.{set, length-map}
use Rattle.std.specs.List.{slice_get}
use Rattle.std.specs.Prelude.{nat_le}
use Rattle.std.proofs.lemmas.List.{map-append}
use Rattle.std.proofs.lemmas.Bool.{false≢true, leb-false}
use Rattle.irq_base.specs.declared.domains.DomainDef.{DomainDef}
use Rattle.irq_base.specs.declared.domains.ControllerKind.{ControllerKind}
use Rattle.irq_base.specs.declared.domains.ControllerKind.TheVariants as levels
use Rattle.domain_chain.specs.Chains.{is_path_of_kinds, has_messages}
use Rattle.domain_rules.specs.Domains.{EachAfter, IsDomainAfter, is_bad_parent, is_msi}
use Rattle.domain_rules.specs.Levels.{is_root_kind, root_kind, presents_level_kind}
use Rattle.domain_rules.specs.Paths.{most_levels, way, parent_in, kind_in, kind_at, kinds_on, kinds_from}
use Rattle.domain_hier.specs.Hierarchies.{IsPlaced}
use Rattle.domain_hier.proofs.Keeps.{kinds_of_places}
use Rattle.domain_hier.proofs.Ways.{IsBelow, AllBelow, places, parent_before, way_below, way_short}

-- ---- ways over fewer domains, and shorter ones

get_taken : (domains : List DomainDef) (n i : ℕ) → i < n → slice_get (take n domains) i ≡ slice_get domains i
get_taken domains zero i below = absurd (omega (arith, below))
get_taken [] (suc n) i below = refl
get_taken (d ∷ ds) (suc n) zero below = refl
get_taken (d ∷ ds) (suc n) (suc i) below = get_taken ds n i (omega (arith, below))

way_taken : (domains : List DomainDef) → EachAfter IsDomainAfter domains → (i n : ℕ) (at : Option ℕ) → IsBelow i at
    → way n (take i domains) at ≡ way n domains at
way_taken domains each i zero at below = refl
way_taken domains each i (suc n) None below = refl
way_taken domains each i (suc n) (Some p) below =
    ap (λ ps. p ∷ ps) (ap (λ o. way n (take i domains) (parent_in o)) (get_taken domains i p below)
    ∙ way_taken domains each i n (parent_in (slice_get domains p)) (lower (parent_in (slice_get domains p)) (parent_before domains each p)))
  where
    lower : (o : Option ℕ) → IsBelow p o → IsBelow i o
    lower None h = h
    lower (Some q) h = omega (arith, h, below)

way_shorter : (domains : List DomainDef) (n : ℕ) (at : Option ℕ) → length (way (suc n) domains at) ≤ n → way (suc n) domains at ≡ way n domains at
way_shorter domains zero None few = refl
way_shorter domains zero (Some p) few = absurd (omega (arith, few))
way_shorter domains (suc n) None few = refl
way_shorter domains (suc n) (Some p) few = ap (λ ps. p ∷ ps) (way_shorter domains n (parent_in (slice_get domains p)) (omega (arith, few)))

kinds_taken : (domains : List DomainDef) (i : ℕ) (ps : List ℕ) → AllBelow i ps
    → map (λ place. kind_in (slice_get (take i domains) place)) ps ≡ map (λ place. kind_in (slice_get domains place)) ps
kinds_taken domains i [] below = refl
kinds_taken domains i (p ∷ ps) below =
    ap (λ o. kind_in o ∷ map (λ place. kind_in (slice_get (take i domains) place)) ps) (get_taken domains i p below.0)
    ∙ ap (λ ks. kind_in (slice_get domains p) ∷ ks) (kinds_taken domains i ps below.1)

kinds_from_taken : (domains : List DomainDef) → EachAfter IsDomainAfter domains → (i p : ℕ) → p < i
    → kinds_from (take i domains) (Some p) ≡ kinds_from domains (Some p)
kinds_from_taken domains each i p below =
    ap (map (λ place. kind_in (slice_get (take i domains) place))) (way_taken domains each i most_levels (Some p) below)
    ∙ kinds_taken domains i (way most_levels domains (Some p)) (way_below domains each most_levels i (Some p) below)

-- ---- the kinds from a domain up

pub record IsPathOfKinds (kinds : List ControllerKind) : Type 0 where
  pub path : is_path_of_kinds kinds ≡ true
  pub edges : has_messages kinds && presents_level_kind (root_kind kinds) ≡ false

neither : (a b : Bool) → a || b ≡ false → (a ≡ false) × (b ≡ false)
neither true b e = absurd (false≢true (sym e))
neither false b e = (refl, e)

is_root_by : (b : Bool) → not b ≡ false → b ≡ true
is_root_by true e = refl
is_root_by false e = absurd (false≢true (sym e))

root_alone : (k : ControllerKind) → is_root_kind k ≡ true → IsPathOfKinds (k ∷ [])
root_alone levels.Latch r = record { path = refl; edges = refl }
root_alone levels.Plain r = record { path = refl; edges = refl }
root_alone levels.Level r = record { path = refl; edges = refl }
root_alone levels.Eoi r = record { path = refl; edges = refl }
root_alone levels.Vector r = record { path = refl; edges = refl }
root_alone levels.Lpi r = record { path = refl; edges = refl }
root_alone levels.Pin r = record { path = refl; edges = refl }
root_alone levels.Msi r = absurd (false≢true r)
root_alone levels.Remap r = absurd (false≢true r)

child_above : (k : ControllerKind) (ks : List ControllerKind) → is_root_kind k ≡ false
    → is_msi k && presents_level_kind (root_kind ks) ≡ false → IsPathOfKinds ks → IsPathOfKinds (k ∷ ks)
child_above k [] r m h = absurd (false≢true h.path)
child_above levels.Msi (x ∷ xs) r m h = record { path = h.path; edges = m }
child_above levels.Remap (x ∷ xs) r m h = record { path = h.path; edges = h.edges }
child_above levels.Latch (x ∷ xs) r m h = absurd (false≢true (sym r))
child_above levels.Plain (x ∷ xs) r m h = absurd (false≢true (sym r))
child_above levels.Level (x ∷ xs) r m h = absurd (false≢true (sym r))
child_above levels.Eoi (x ∷ xs) r m h = absurd (false≢true (sym r))
child_above levels.Vector (x ∷ xs) r m h = absurd (false≢true (sym r))
child_above levels.Lpi (x ∷ xs) r m h = absurd (false≢true (sym r))
child_above levels.Pin (x ∷ xs) r m h = absurd (false≢true (sym r))

kinds_by : (domains : List DomainDef) → EachAfter IsDomainAfter domains → (i : ℕ) (def : DomainDef) → slice_get domains i ≡ Some def
    → ((p : ℕ) → p < i → IsPathOfKinds (kinds_from domains (Some p))) → (o : Option ℕ) → def.parent ≡ o → IsBelow i o
    → is_bad_parent (take i domains) def.kind o ≡ false
    → IsPathOfKinds (kind_in (slice_get domains i) ∷ map (λ place. kind_in (slice_get domains place)) (way 7 domains o))
kinds_by domains each i def at below None is there good =
    subst (λ o. IsPathOfKinds (kind_in o ∷ [])) (sym at) (root_alone def.kind (is_root_by (is_root_kind def.kind) good))
kinds_by domains each i def at below (Some p) is there good =
    let kinds = kinds_from (take i domains) (Some p) in
    let goes = way most_levels (take i domains) (Some p) in
    let first = neither (is_root_kind def.kind) ((is_msi def.kind && presents_level_kind (root_kind kinds)) || nat_le most_levels (length goes)) good in
    let second = neither (is_msi def.kind && presents_level_kind (root_kind kinds)) (nat_le most_levels (length goes)) first.1 in
    let same : kinds ≡ kinds_from domains (Some p) = kinds_from_taken domains each i p there in
    let short : length (way 8 domains (Some p)) < 8 = omega (
      arith,
      ap length (way_taken domains each i most_levels (Some p) there),
      leb-false most_levels (length goes)
          second.1,
    ) in
    let above : way 8 domains (Some p) ≡ way 7 domains (Some p) = way_shorter domains 7 (Some p) (omega (arith, short)) in
    let root : is_msi def.kind && presents_level_kind (root_kind (kinds_from domains (Some p)))
    ≡ false = ap (λ ks. is_msi def.kind && presents_level_kind (root_kind ks)) (sym same) ∙ second.0 in
    subst (λ o. IsPathOfKinds (kind_in o ∷ map (λ place. kind_in (slice_get domains place)) (way 7 domains (Some p)))) (sym at)
    (subst (λ ps. IsPathOfKinds (def.kind ∷ map (λ place. kind_in (slice_get domains place)) ps)) above
    (child_above def.kind (kinds_from domains (Some p)) first.0 root (below p there)))

at_place : (domains : List DomainDef) (i : ℕ) → i < length domains → (def : DomainDef) × (slice_get domains i ≡ Some def)
at_place [] i within = absurd (omega (arith, within))
at_place (d ∷ ds) zero within = (d, refl)
at_place (d ∷ ds) (suc i) within = at_place ds i (omega (arith, within))

kinds_below : (domains : List DomainDef) → EachAfter IsDomainAfter domains → (bound i : ℕ) → i < bound
    → i < length domains → IsPathOfKinds (kinds_from domains (Some i))
kinds_below domains each zero i below within = absurd (omega (arith, below))
kinds_below domains each (suc bound) i below within =
    let d = at_place domains i within in
    let def = d.0 in
    let own : IsDomainAfter (take i domains) def = each i def d.1 in
    let parent : parent_in (slice_get domains i) ≡ def.parent = ap parent_in d.1 in
    let there : IsBelow i def.parent = subst (IsBelow i) parent (parent_before domains each i) in
    subst (λ o. IsPathOfKinds (kind_in (slice_get domains i) ∷ map (λ place. kind_in (slice_get domains place)) (way 7 domains o))) (sym parent)
    (kinds_by domains each i def d.1 (λ p lower. kinds_below domains each bound p (omega (arith, lower, below))
    (omega (arith, lower, within))) def.parent refl there own.parent)

-- ---- a path in use

pub path_of_kinds : (domains : List DomainDef) (path : List (ℕ × ℕ)) → EachAfter IsDomainAfter domains
    → IsPlaced domains path → IsPathOfKinds (kinds_on domains path)
path_of_kinds domains [] each own = absurd (false≢true own.masks)
path_of_kinds domains (level ∷ rest) each own =
    subst IsPathOfKinds (sym (kinds_of_places domains (level ∷ rest) ∙ ap (map (λ place. kind_in (slice_get domains place))) own.way))
    (kinds_below domains each (level.0 + 1) level.0 (omega arith) own.there)

pub placed_short : (domains : List DomainDef) (path : List (ℕ × ℕ)) → IsPlaced domains path → (length path ≤ 8) × (1 ≤ length path)
placed_short domains [] own = absurd (false≢true own.masks)
placed_short domains (level ∷ rest) own =
    let place_of : ℕ × ℕ → ℕ = λ level. level.0 in
    let as_long : length (places (level ∷ rest)) ≡ length (level ∷ rest) = length-map (level ∷ rest) place_of in
    (omega (arith, as_long, ap length own.way, way_short 8 domains (Some level.0)), omega arith)

-- ---- the kinds in an array

pub take_next : {A : Type 0} (xs : List A) (i : ℕ) (x : A) → slice_get xs i ≡ Some x → take (i + 1) xs ≡ take i xs ++ x ∷ []
take_next [] i x at = absurd cc
take_next (y ∷ ys) zero x at = let same : y ≡ x = cc in ap (λ z. z ∷ []) same
take_next (y ∷ ys) (suc i) x at = let on : suc i + 1 ≡ suc (i + 1) = omega arith in rw on (ap (λ zs. y ∷ zs) (take_next ys i x at))

pub take_set : {A : Type 0} (xs : List A) (i : ℕ) (x : A) → i < length xs → take (i + 1) (set xs i x) ≡ take i xs ++ x ∷ []
take_set [] i x within = absurd (omega (arith, within))
take_set (y ∷ ys) zero x within = refl
take_set (y ∷ ys) (suc i) x within = let on : suc i + 1 ≡ suc (i + 1) = omega arith in rw on (ap (λ zs. y ∷ zs) (take_set ys i x (omega (arith, within))))

pub take_end : {A : Type 0} (xs : List A) (i : ℕ) → slice_get xs i ≡ None → i ≤ length xs → (i ≡ length xs) × (take i xs ≡ xs)
take_end [] zero none within = (refl, refl)
take_end [] (suc i) none within = absurd (omega (arith, within))
take_end (y ∷ ys) zero none within = absurd cc
take_end (y ∷ ys) (suc i) none within = let rest = take_end ys i none (omega (arith, within)) in (omega (arith, rest.0), ap (λ zs. y ∷ zs) rest.1)

-- one more level's kind is in its place
pub kinds_go_on : (domains : List DomainDef) (path : List (ℕ × ℕ)) (kinds : List ControllerKind) (i : ℕ) (level : ℕ × ℕ)
    (k : ControllerKind) → slice_get path i ≡ Some level → k ≡ kind_at domains level → i < length kinds
    → take i kinds ≡ kinds_on domains (take i path) → take (i + 1) (set kinds i k) ≡ kinds_on domains (take (i + 1) path)
kinds_go_on domains path kinds i level k at is within e =
    take_set kinds i k within ∙ (ap (λ ks. ks ++ k ∷ []) e ∙ (ap (λ x. kinds_on domains (take i path) ++ x ∷ []) is
    ∙ (sym (map-append (kind_at domains) (take i path) (level ∷ [])) ∙ ap (kinds_on domains) (sym (take_next path i level at)))))
