-- A walk over levels, one after another, and what it knows at its end.
use Rattle.std.proofs.Common.{◌≡◌, ℕ, zero, suc, ◌+◌, ◌-◌, ◌<◌, Bool, true, false, cond, ◌&&◌, Option, Some, None}
use Rattle.std.proofs.Common.{is_none, List, [], ◌∷◌, length, map, drop, refl, sym, ap, ◌∙◌, arith}
use Rattle.std.specs.List.{slice_get}
use Rattle.irq_base.specs.declared.domains.ControllerKind.{ControllerKind}
use Rattle.irq_base.specs.declared.domains.ControllerKind.TheVariants as levels
use Rattle.irq_base.specs.declared.domains.DomainDef.{DomainDef}
use Rattle.irq_model.proofs.Lists.{next_item}
use Rattle.domain_rules.specs.Paths.{way, kind_in, parent_in, kind_at}
use Rattle.domain_rules.specs.Levels.{root_kind, last_kind, masking_kind, masks_kind}
use Rattle.board_def.specs.declared.levels.Levels.{Levels}

abbrev pub one_passed : Levels → ControllerKind → Levels
one_passed p k = record { root = k; masking = cond (is_none p.masking && masks_kind k) (Some k) p.masking; count = p.count + 1 }

abbrev pub passed : Levels → List ControllerKind → Levels
passed p [] = p
passed p (k ∷ ks) = passed (one_passed p k) ks

abbrev pub none_passed : Levels
none_passed = record { root = levels.Remap; masking = None; count = 0 }

root_passed : (p : Levels) (ks : List ControllerKind) → (passed p ks).root ≡ last_kind p.root ks
root_passed p [] = refl
root_passed p (k ∷ ks) = root_passed (one_passed p k) ks

abbrev first_masking : Option ControllerKind → List ControllerKind → Option ControllerKind
first_masking (Some k) ks = Some k
first_masking None ks = masking_kind ks

masking_passed : (p : Levels) (ks : List ControllerKind) (m : Option ControllerKind) → p.masking ≡ m → (passed p ks).masking ≡ first_masking m ks
masking_passed p [] (Some k) e = e
masking_passed p [] None e = e
masking_passed p (x ∷ ks) (Some k) e =
    masking_passed (one_passed p x) ks (Some k) (ap (λ m. cond (is_none m && masks_kind x) (Some x) m) e)
masking_passed p (x ∷ ks) None e = by (masks_kind x) refl (λ m. masking_passed (one_passed p x) ks m)
  where
    by : (b : Bool) → masks_kind x ≡ b → ((m : Option ControllerKind)
        → cond (is_none p.masking && masks_kind x) (Some x) p.masking ≡ m
        → (passed (one_passed p x) ks).masking ≡ first_masking m ks)
        → (passed (one_passed p x) ks).masking ≡ cond (masks_kind x) (Some x) (masking_kind ks)
    by true is rest = rest (Some x) (ap (λ m. cond (is_none m && masks_kind x) (Some x) m) e
        ∙ ap (λ b. cond b (Some x) None) is) ∙ sym (ap (λ b. cond b (Some x) (masking_kind ks)) is)
    by false is rest = rest None (ap (λ m. cond (is_none m && masks_kind x) (Some x) m) e
        ∙ ap (λ b. cond b (Some x) None) is) ∙ sym (ap (λ b. cond b (Some x) (masking_kind ks)) is)

count_passed : (p : Levels) (ks : List ControllerKind) → (passed p ks).count ≡ p.count + length ks
count_passed p [] = omega arith
count_passed p (k ∷ ks) = omega (arith, count_passed (one_passed p k) ks)

-- what is known after all

pub root_of_all : (ks : List ControllerKind) → (passed none_passed ks).root ≡ root_kind ks
root_of_all ks = root_passed none_passed ks

pub masking_of_all : (ks : List ControllerKind) → (passed none_passed ks).masking ≡ masking_kind ks
masking_of_all ks = masking_passed none_passed ks None refl

pub count_of_all : (ks : List ControllerKind) → (passed none_passed ks).count ≡ length ks
count_of_all ks = omega (arith, count_passed none_passed ks)

-- from a domain to its root

-- what is left of the way, n levels long at most
abbrev pub left_of_way : ℕ → List DomainDef → Option ℕ → List ControllerKind
left_of_way n domains at = map (λ place. kind_in (slice_get domains place)) (way n domains at)

pub way_step : (n m : ℕ) (domains : List DomainDef) (place : ℕ) (p : Levels) → n ≡ suc m
    → passed p (left_of_way n domains (Some place)) ≡ passed (one_passed p (kind_in (slice_get domains place)))
    (left_of_way m domains (parent_in (slice_get domains place)))
way_step n m domains place p e = ap (λ k. passed p (left_of_way k domains (Some place))) e

pub way_ends : (n : ℕ) (domains : List DomainDef) → left_of_way n domains None ≡ []
way_ends zero domains = refl
way_ends (suc n) domains = refl

pub way_full : (n : ℕ) (domains : List DomainDef) (at : Option ℕ) → n ≡ 0 → left_of_way n domains at ≡ []
way_full n domains at e = ap (λ k. left_of_way k domains at) e

-- along a path

pub path_step : (domains : List DomainDef) (path : List (ℕ × ℕ)) (i : ℕ) (level : ℕ × ℕ) (p : Levels) → slice_get path i ≡ Some level
    → passed p (map (kind_at domains) (drop i path)) ≡ passed (one_passed p (kind_at domains level)) (map (kind_at domains) (drop (i + 1) path))
path_step domains path i level p at = ap (λ rest. passed p (map (kind_at domains) rest)) (next_item path i level at)

pub path_ends : (domains : List DomainDef) (path : List (ℕ × ℕ)) (i : ℕ) → slice_get path i ≡ None → map (kind_at domains) (drop i path) ≡ []
path_ends domains [] zero at = refl
path_ends domains [] (suc i) at = refl
path_ends domains (x ∷ xs) zero at = absurd cc
path_ends domains (x ∷ xs) (suc i) at = path_ends domains xs i at

-- nothing is left
pub ended : (p : Levels) (rest ks : List ControllerKind) → passed p rest ≡ passed none_passed ks → rest ≡ [] → p ≡ passed none_passed ks
ended p rest ks e none = ap (passed p) (sym none) ∙ e

pub way_goes_on : (domains : List DomainDef) (all : List ControllerKind) (p next : Levels) (at parent : Option ℕ) (place : ℕ) → p.count < 8 → at ≡ Some place
    → next ≡ one_passed p (kind_in (slice_get domains place)) → parent ≡ parent_in (slice_get domains place)
    → passed p (left_of_way (8 - p.count) domains at) ≡ passed none_passed all
    → passed next (left_of_way (8 - next.count) domains parent) ≡ passed none_passed all
way_goes_on domains all p next at parent place few here is up e =
    let q : Levels = one_passed p (kind_in (slice_get domains place)) in
    let lower : 8 - p.count ≡ suc (8 - (p.count + 1)) = omega arith in
    ap (λ (n : Levels). passed n (left_of_way (8 - n.count) domains parent)) is
    ∙ (ap (λ a. passed q (left_of_way (8 - q.count) domains a)) up
    ∙ (sym (way_step (8 - p.count) (8 - (p.count + 1)) domains place p lower)
    ∙ (ap (λ a. passed p (left_of_way (8 - p.count) domains a)) (sym here) ∙ e)))

pub path_goes_on : (domains : List DomainDef) (path : List (ℕ × ℕ)) (p next : Levels) (level : ℕ × ℕ) → slice_get path p.count ≡ Some level
    → next ≡ one_passed p (kind_at domains level)
    → passed p (map (kind_at domains) (drop p.count path)) ≡ passed none_passed (map (kind_at domains) path)
    → passed next (map (kind_at domains) (drop next.count path)) ≡ passed none_passed (map (kind_at domains) path)
path_goes_on domains path p next level here is e =
    ap (λ (n : Levels). passed n (map (kind_at domains) (drop n.count path))) is ∙ (sym (path_step domains path p.count level p here) ∙ e)
