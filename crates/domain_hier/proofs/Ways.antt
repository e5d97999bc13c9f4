-- The way from a domain to its root: parents stand before their children.
use Rattle.std.proofs.Common.{◌≡◌, ℕ, zero, suc, ◌<◌, ◌≤◌, Bool, true, false, ◌==◌, ◌&&◌, ◌||◌, IfSome, Option, Some}
use Rattle.std.proofs.Common.{None, List, [], ◌∷◌, length, map, take, refl, sym, ap, subst, ◌∙◌, eqb-true, arith}
use Rattle.std.specs.List.{slice_get}
use Rattle.std.proofs.lemmas.Bool.{false≢true}
use Rattle.irq_base.specs.declared.domains.DomainDef.{DomainDef}
use Rattle.domain_maps.specs.Numbers.{is_on}
use Rattle.domain_rules.specs.Domains.{EachAfter, IsDomainAfter}
use Rattle.domain_rules.specs.Paths.{way, parent_in}

length_take : {A : Type 0} (n : ℕ) (xs : List A) → length (take n xs) ≤ n
length_take zero xs = omega arith
length_take (suc n) [] = omega arith
length_take (suc n) (x ∷ xs) = omega (arith, length_take n xs)

abbrev pub IsBelow : ℕ → Option ℕ → Type 0
IsBelow n at = IfSome at (λ place. place < n)

below_more : (m n : ℕ) (at : Option ℕ) → m ≤ n → IsBelow m at → IsBelow n at
below_more m n None e h = h
below_more m n (Some p) e h = omega (arith, h, e)

-- a domain's parent stands before it
pub parent_before : (domains : List DomainDef) → EachAfter IsDomainAfter domains → (i : ℕ) → IsBelow i (parent_in (slice_get domains i))
parent_before domains each i = by (slice_get domains i) refl
  where
    by : (o : Option DomainDef) → slice_get domains i ≡ o → IsBelow i (parent_in o)
    by (Some def) is = below_more (length (take i domains)) i def.parent (length_take i domains) (each i def is).declared
    by None is = tt

pub parent_there : (domains : List DomainDef) → EachAfter IsDomainAfter domains → (i : ℕ) → i < length domains
    → IsBelow (length domains) (parent_in (slice_get domains i))
parent_there domains each i there = below_more i (length domains) (parent_in (slice_get domains i)) (omega (arith, there)) (parent_before domains each i)

-- ---- places that fall

abbrev pub AllBelow : ℕ → List ℕ → Type 0
AllBelow n [] = Unit {0}
AllBelow n (x ∷ xs) = (x < n) × AllBelow n xs

abbrev pub Falls : List ℕ → Type 0
Falls [] = Unit {0}
Falls (x ∷ xs) = AllBelow x xs × Falls xs

pub way_below : (domains : List DomainDef) → EachAfter IsDomainAfter domains → (n bound : ℕ) (at : Option ℕ)
    → IsBelow bound at → AllBelow bound (way n domains at)
way_below domains each zero bound at h = tt
way_below domains each (suc n) bound None h = tt
way_below domains each (suc n) bound (Some p) h = (
  h,
  way_below domains each n bound (parent_in (slice_get domains p))
      (below_more p bound (parent_in (slice_get domains p)) (omega (arith, h)) (parent_before domains each p)),
)

pub way_falls : (domains : List DomainDef) → EachAfter IsDomainAfter domains → (n : ℕ) (at : Option ℕ) → Falls (way n domains at)
way_falls domains each zero at = tt
way_falls domains each (suc n) None = tt
way_falls domains each (suc n) (Some p) =
    (way_below domains each n p (parent_in (slice_get domains p)) (parent_before domains each p), way_falls domains each n (parent_in (slice_get domains p)))

pub way_short : (n : ℕ) (domains : List DomainDef) (at : Option ℕ) → length (way n domains at) ≤ n
way_short zero domains at = omega arith
way_short (suc n) domains None = omega arith
way_short (suc n) domains (Some p) = omega (arith, way_short n domains (parent_in (slice_get domains p)))

-- ---- paths whose places fall

abbrev pub places : List (ℕ × ℕ) → List ℕ
places path = map (λ level. level.0) path

no_level : (t u : Bool) → t ≡ false → t && u ≡ false
no_level false u e = refl
no_level true u e = absurd (false≢true (sym e))

pub not_on : (d k : ℕ) (path : List (ℕ × ℕ)) → AllBelow d (places path) → is_on path d k ≡ false
not_on d k [] below = refl
not_on d k (level ∷ levels) below =
    ap (λ b. b || is_on levels d k) (no_level (level.0 == d) (level.1 == k) (other (level.0 == d) refl)) ∙ not_on d k levels below.1
  where
    other : (b : Bool) → (level.0 == d) ≡ b → (level.0 == d) ≡ false
    other true is = absurd (omega (arith, eqb-true level.0 d is, below.0))
    other false is = is

-- a path along which the domains' places fall has one number at a domain
pub one_number : (d j k : ℕ) (path : List (ℕ × ℕ)) → Falls (places path) → is_on path d j ≡ true → is_on path d k ≡ true → j ≡ k
one_number d j k [] falls a b = absurd (false≢true a)
one_number d j k (level ∷ levels) falls a b = by (level.0 == d) refl a b (λ x y. one_number d j k levels falls.1 x y)
  where
    last : AllBelow d (places levels) → (i : ℕ) (t : Bool) → (level.1 == i) ≡ t → t || is_on levels d i ≡ true → level.1 ≡ i
    last below i true is on = eqb-true level.1 i is
    last below i false is on = absurd (false≢true (sym (not_on d i levels below) ∙ on))

    by : (t : Bool) → (level.0 == d) ≡ t → (t && (level.1 == j)) || is_on levels d j ≡ true → (t && (level.1 == k)) || is_on levels d k ≡ true
        → (is_on levels d j ≡ true → is_on levels d k ≡ true → j ≡ k) → j ≡ k
    by true is x y rest =
        let below : AllBelow d (places levels) = subst (λ n. AllBelow n (places levels)) (eqb-true level.0 d is) falls.0 in
        sym (last below j (level.1 == j) refl x) ∙ last below k (level.1 == k) refl y
    by false is x y rest = rest x y
