-- A list of devices that is gone over from its head.
use Rattle.std.proofs.Common.{◌≡◌, ℕ, zero, suc, ◌+◌, ◌≤◌, ◌<◌, Bool, true, false, ◌||◌, cond, Option, Some, None, List}
use Rattle.std.proofs.Common.{[], ◌∷◌, ◌++◌, take, length, slice_get, refl, sym, ap, ◌∙◌, add-one, arith}
use Rattle.std.specs.List.{list_any}
use Rattle.irq_base.specs.declared.devices.DeviceDef.{DeviceDef}
use Rattle.irq_base.specs.declared.numbers.DevNo.{DevNo}
use Rattle.irq_model.specs.Kinds.{same_dev}
use Rattle.irq_model.specs.Lines.{is_device}
use Rattle.irq_model.specs.Places.{count_of}
use Rattle.irq_model.specs.Valid.{HasDistinctDevices}
use Rattle.irq_model.proofs.Same.{same_both}
use Rattle.device_table.specs.Rows.{at, table_by}
use Rattle.device_table.proofs.Tables.{at_none}

both_none : (a b : Bool) → (a || b) ≡ false → (a ≡ false) × (b ≡ false)
both_none a b h = (grind arith, grind arith)

-- one more item up to a place
pub take_item : {A : Type 0} (xs : List A) (i : ℕ) (x : A) → slice_get xs i ≡ Some x → take (i + 1) xs ≡ take i xs ++ x ∷ []
take_item [] i x h = cc
take_item (y ∷ ys) zero x h = let e : y ≡ x = cc in ap (λ z. z ∷ []) e
take_item (y ∷ ys) (suc i) x h =
    let more : take (i + 1) ys ≡ take i ys ++ x ∷ [] = take_item ys i x h in
    ap (λ n. take n (y ∷ ys)) (add-one (suc i)) ∙ ap (λ zs. y ∷ zs) (ap (λ n. take n ys) (sym (add-one i)) ∙ more)

pub count_last : {A : Type 0} (p : A → Bool) (xs : List A) (x : A) → count_of p (xs ++ x ∷ []) ≡ count_of p xs + cond (p x) 1 0
count_last p [] x = by_test (p x)
  where
    by_test : (b : Bool) → cond b (0 + 1) 0 ≡ 0 + cond b 1 0
    by_test true = refl
    by_test false = refl
count_last p (y ∷ ys) x = by_test (p y) (count_last p ys x)
  where
    by_test : (b : Bool) → count_of p (ys ++ x ∷ []) ≡ count_of p ys + cond (p x) 1 0
        → cond b (count_of p (ys ++ x ∷ []) + 1) (count_of p (ys ++ x ∷ []))
        ≡ cond b (count_of p ys + 1) (count_of p ys) + cond (p x) 1 0
    by_test true h = omega (arith, h)
    by_test false h = h

pub count_few : {A : Type 0} (p : A → Bool) (xs : List A) → count_of p xs ≤ length xs
count_few p [] = omega arith
count_few p (y ∷ ys) = by_test (p y) (count_few p ys)
  where
    by_test : (b : Bool) → count_of p ys ≤ length ys → cond b (count_of p ys + 1) (count_of p ys) ≤ length (y ∷ ys)
    by_test true h = omega (arith, h)
    by_test false h = omega (arith, h)

-- below the length there is an item
pub none_left : {A : Type 0} {P : Type 0} (xs : List A) (i : ℕ) → i < length xs → slice_get xs i ≡ None → P
none_left [] i h e = absurd (omega (arith, h))
none_left (y ∷ ys) zero h e = cc
none_left (y ∷ ys) (suc i) h e = none_left ys i (omega (arith, h)) e

pub take_few : {A : Type 0} (xs : List A) (i : ℕ) → length (take i xs) ≤ i
take_few [] zero = omega arith
take_few [] (suc i) = omega arith
take_few (y ∷ ys) zero = omega arith
take_few (y ∷ ys) (suc i) = omega (arith, take_few ys i)

pub at_most_one : (b : Bool) → cond b 1 0 ≤ 1
at_most_one true = omega arith
at_most_one false = omega arith

-- another device than d
apart : (xs : List DeviceDef) (i : ℕ) (x : DeviceDef) (d : DevNo) → list_any (is_device d) xs ≡ false → slice_get xs i ≡ Some x → same_dev d x.dev ≡ false
apart [] i x d none h = cc
apart (y ∷ ys) zero x d none h =
    let e : y ≡ x = cc in
    ap (λ (z : DeviceDef). same_dev d z.dev) (sym e) ∙ (both_none (same_dev d y.dev) (list_any (is_device d) ys) none).0
apart (y ∷ ys) (suc i) x d none h = apart ys i x d (both_none (same_dev d y.dev) (list_any (is_device d) ys) none).1 h

-- none of the devices before one has its number
pub own_next : (xs : List DeviceDef) (i : ℕ) (x : DeviceDef) → HasDistinctDevices xs → slice_get xs i ≡ Some x → list_any (is_device x.dev) (take i xs) ≡ false
own_next [] i x own h = cc
own_next (y ∷ ys) zero x own h = refl
own_next (y ∷ ys) (suc i) x own h = neither (same_dev x.dev y.dev) (list_any (is_device x.dev) (take i ys))
    (same_both x.dev y.dev ∙ apart ys i x y.dev own.0 h) (own_next ys i x own.1 h)
  where
    neither : (a b : Bool) → a ≡ false → b ≡ false → (a || b) ≡ false
    neither a b p q = grind arith

-- the device at a place is one of them
pub there_at : (xs : List DeviceDef) (i : ℕ) (x : DeviceDef) → same_dev x.dev x.dev ≡ true → slice_get xs i ≡ Some x → list_any (is_device x.dev) xs ≡ true
there_at [] i x own h = cc
there_at (y ∷ ys) zero x own h =
    let e : y ≡ x = cc in
    first (same_dev x.dev y.dev) (list_any (is_device x.dev) ys) (ap (λ (z : DeviceDef). same_dev x.dev z.dev) e ∙ own)
  where
    first : (a b : Bool) → a ≡ true → (a || b) ≡ true
    first a b p = grind arith
there_at (y ∷ ys) (suc i) x own h = later (same_dev x.dev y.dev) (list_any (is_device x.dev) ys) (there_at ys i x own h)
  where
    later : (a b : Bool) → b ≡ true → (a || b) ≡ true
    later a b p = grind arith

-- one device more
pub any_last : (xs : List DeviceDef) (x : DeviceDef) (d : DevNo) → list_any (is_device d) (xs ++ x ∷ []) ≡ (list_any (is_device d) xs || same_dev d x.dev)
any_last [] x d = grind arith
any_last (y ∷ ys) x d = again (same_dev d y.dev) (list_any (is_device d) (ys ++ x ∷ [])) (list_any (is_device d) ys) (same_dev d x.dev) (any_last ys x d)
  where
    again : (a b c e : Bool) → b ≡ (c || e) → (a || b) ≡ ((a || c) || e)
    again a b c e h = grind arith

module _ {R : Type 0} where
  pub by_last : (f : DevNo → R) (xs : List DeviceDef) (x : DeviceDef) → table_by f (xs ++ x ∷ []) ≡ table_by f xs ++ (x.dev, f x.dev) ∷ []
  by_last f [] x = refl
  by_last f (y ∷ ys) x = ap (λ (t : List (DevNo × R)). (y.dev, f y.dev) ∷ t) (by_last f ys x)

  -- the table of one device more
  pub table_next : (f : DevNo → R) (xs : List DeviceDef) (i : ℕ) (x : DeviceDef) → slice_get xs i ≡ Some x
      → table_by f (take i xs) ++ (x.dev, f x.dev) ∷ [] ≡ table_by f (take (i + 1) xs)
  table_next f xs i x h = sym (by_last f (take i xs) x) ∙ ap (table_by f) (sym (take_item xs i x h))

  pub absent_next : (f : DevNo → R) (xs : List DeviceDef) (i : ℕ) (x : DeviceDef) → HasDistinctDevices xs
      → slice_get xs i ≡ Some x → at (table_by f (take i xs)) x.dev ≡ None
  absent_next f xs i x own h = at_none f (take i xs) x.dev (own_next xs i x own h)
