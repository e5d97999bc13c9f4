-- What stands at a place of a list, also after what stood there was replaced.
use Rattle.std.proofs.Common.{◌≡◌, ℕ, zero, suc, ◌<◌, ◌⊎◌, inl, inr}
use Rattle.std.proofs.Common.{Some, List, [], ◌∷◌, map, length, take, slice_get}
use Rattle.std.proofs.Common.{slice_set, refl, sym, ap, subst, arith}
use Rattle.std.proofs.Common.{get_or}
use Rattle.std.proofs.lemmas.Option.{slice_get_read}
use Rattle.irq_base.specs.declared.numbers.DriverNo.{DriverNo}
use Rattle.irq_laws.proofs.Chosen.{the_same}
use Rattle.board_def.proofs.Rising.{Rises, rises_on, head_of}

module _ {A : Type 0} where
  pub set_there : (xs : List A) (k : ℕ) (x y : A) → slice_get xs k ≡ Some x → slice_get (slice_set xs k y) k ≡ Some y
  set_there [] k x y at = cc
  set_there (z ∷ xs) zero x y at = refl
  set_there (z ∷ xs) (suc k) x y at = set_there xs k x y at

  pub set_other : (xs : List A) (k i : ℕ) (y : A) → ((i ≡ k) → ⊥) → slice_get (slice_set xs k y) i ≡ slice_get xs i
  set_other [] k i y other = refl
  set_other (z ∷ xs) zero zero y other = absurd (other refl)
  set_other (z ∷ xs) zero (suc i) y other = refl
  set_other (z ∷ xs) (suc k) zero y other = refl
  set_other (z ∷ xs) (suc k) (suc i) y other = set_other xs k i y (λ same. other (ap (λ (n : ℕ). suc n) same))

  pub set_twice : (xs : List A) (k : ℕ) (x y z : A) → slice_get xs k ≡ Some x → slice_set (slice_set xs k y) k z ≡ slice_set xs k z
  set_twice [] k x y z at = cc
  set_twice (w ∷ xs) zero x y z at = refl
  set_twice (w ∷ xs) (suc k) x y z at = ap (λ (ys : List A). w ∷ ys) (set_twice xs k x y z at)

  pub set_same : (xs : List A) (k : ℕ) (x : A) → slice_get xs k ≡ Some x → slice_set xs k x ≡ xs
  set_same [] k x at = cc
  set_same (w ∷ xs) zero x at = ap (λ (y : A). y ∷ xs) (sym (the_same w x at))
  set_same (w ∷ xs) (suc k) x at = ap (λ (ys : List A). w ∷ ys) (set_same xs k x at)

  -- what stands at a place after one was replaced
  pub set_cases : (xs : List A) (k i : ℕ) (y z : A) → slice_get (slice_set xs k y) i ≡ Some z
      → ((i ≡ k) × (y ≡ z)) ⊎ (((i ≡ k) → ⊥) × (slice_get xs i ≡ Some z))
  set_cases [] k i y z at = cc
  set_cases (w ∷ xs) zero zero y z at = inl (refl, the_same y z at)
  set_cases (w ∷ xs) zero (suc i) y z at = inr ((λ h. omega (arith, h)), at)
  set_cases (w ∷ xs) (suc k) zero y z at = inr ((λ h. omega (arith, h)), at)
  set_cases (w ∷ xs) (suc k) (suc i) y z at = elim (set_cases xs k i y z at)
      [ inl h ↦ inl (ap (λ (n : ℕ). suc n) h.0, h.1) | inr h ↦ inr ((λ same. h.0 (omega (arith, same))), h.1) ]

-- what was read there
pub read_at : {A : Type 0} (xs : List A) {k : ℕ} {x : A} → k < length xs → x ≡ get_or xs k x → slice_get xs k ≡ Some x
read_at xs {k} {x} within is = slice_get_read xs (length xs) k x refl within is

pub map_there : {A B : Type 0} (f : A → B) (xs : List A) (k : ℕ) (x : A) → slice_get xs k ≡ Some x → slice_get (map f xs) k ≡ Some (f x)
map_there f [] k x at = cc
map_there f (y ∷ ys) zero x at = ap (λ (z : _). Some (f z)) (the_same y x at)
map_there f (y ∷ ys) (suc k) x at = map_there f ys k x at

pub map_back : {A B : Type 0} (f : A → B) (xs : List A) (k : ℕ) (y : B) → slice_get (map f xs) k ≡ Some y → (x : A) × (slice_get xs k ≡ Some x) × (f x ≡ y)
map_back f [] k y at = cc
map_back f (x ∷ xs) zero y at = (x, refl, the_same (f x) y at)
map_back f (x ∷ xs) (suc k) y at = map_back f xs k y at

-- ---- drivers whose numbers rise differ

pub rising_below : (rs : List DriverNo) → Rises (λ (r : DriverNo). r.0) rs → (i j : ℕ) (r s : DriverNo)
    → slice_get rs i ≡ Some r → slice_get rs j ≡ Some s → i < j → r.0 < s.0
rising_below [] rises i j r s at_i at_j less = cc
rising_below (x ∷ xs) rises i zero r s at_i at_j less = absurd (omega (arith, less))
rising_below (x ∷ xs) rises zero (suc j) r s at_i at_j less =
    subst (λ (y : DriverNo). y.0 < s.0) (the_same x r at_i) (head_of (λ (y : DriverNo). y.0 < s.0) x (take j xs) (rises (suc j) s at_j))
rising_below (x ∷ xs) rises (suc i) (suc j) r s at_i at_j less
    = rising_below xs (rises_on (λ (r : DriverNo). r.0) x xs rises) i j r s at_i at_j (omega (arith, less))

three : (m n : ℕ) → (m < n) ⊎ ((n < m) ⊎ (m ≡ n))
three m n = grind arith

pub one_place : (rs : List DriverNo) → Rises (λ (r : DriverNo). r.0) rs → (i j : ℕ) (r s : DriverNo)
    → slice_get rs i ≡ Some r → slice_get rs j ≡ Some s → r ≡ s → i ≡ j
one_place rs rises i j r s at_i at_j same = elim (three i j) [
  | inl less ↦ absurd (let l = rising_below rs rises i j r s at_i at_j less in let e = ap (λ (d : DriverNo). d.0) same in omega (arith, l, e))
  | inr rest ↦ elim rest [
    | inl more ↦ absurd (let l = rising_below rs rises j i s r at_j at_i more in let e = ap (λ (d : DriverNo). d.0) same in omega (arith, l, e))
    | inr is ↦ is
  ]
]
