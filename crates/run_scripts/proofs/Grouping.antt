-- The items of a part of a device, and where they stand in a longer list.
use Rattle.std.proofs.Common.{◌≡◌, ℕ, zero, suc, ◌+◌, ◌<◌, ◌≤◌, ◌&&◌, Bool, true, false, cond, Some, None, List, [], ◌∷◌, ◌++◌}
use Rattle.std.proofs.Common.{length, take, drop, slice_get, refl, sym, ap, ◌∙◌, add-one, arith, length-drop}
use Rattle.std.proofs.lemmas.List.{append-nil, append_assoc, length-take}
use Rattle.std.proofs.Math.Seq.{drop-append_seam, take-append_seam}
use Rattle.irq_base.specs.declared.devices.Part.{Part}
use Rattle.irq_base.specs.declared.numbers.DevNo.{DevNo}
use Rattle.irq_model.specs.Kinds.{same_dev}
use Rattle.irq_model.specs.Lines.{same_part}
use Rattle.run_scripts.specs.Groups.{group_in}

-- one more item up to a place
pub take_item : {A : Type 0} (xs : List A) (i : ℕ) (x : A) → slice_get xs i ≡ Some x → take (i + 1) xs ≡ take i xs ++ x ∷ []
take_item [] i x h = cc
take_item (y ∷ ys) zero x h = let e : y ≡ x = cc in ap (λ z. z ∷ []) e
take_item (y ∷ ys) (suc i) x h =
    let more : take (i + 1) ys ≡ take i ys ++ x ∷ [] = take_item ys i x h in
    ap (λ n. take n (y ∷ ys)) (add-one (suc i)) ∙ ap (λ zs. y ∷ zs) (ap (λ n. take n ys) (sym (add-one i)) ∙ more)

-- all of a list
pub take_past : {A : Type 0} (xs : List A) (i : ℕ) → length xs ≤ i → take i xs ≡ xs
take_past [] zero h = refl
take_past [] (suc i) h = refl
take_past (x ∷ xs) zero h = absurd (omega arith)
take_past (x ∷ xs) (suc i) h = ap (λ ys. x ∷ ys) (take_past xs i (omega arith))

module _ {A : Type 0} where
  -- the item itself, if it is of that part of d
  abbrev pub one_of : DevNo → Part → DevNo × Part × A → List A
  one_of d part c = cond (same_dev d c.0 && same_part part c.1) (c.2 ∷ []) []

  pub group_last : (cs : List (DevNo × Part × A)) (c : DevNo × Part × A) (d : DevNo) (part : Part)
      → group_in (cs ++ c ∷ []) d part ≡ group_in cs d part ++ one_of d part c
  group_last [] c d part = refl
  group_last (x ∷ cs) c d part = by_test (same_dev d x.0 && same_part part x.1) (group_last cs c d part)
    where
      by_test : (b : Bool) → group_in (cs ++ c ∷ []) d part ≡ group_in cs d part ++ one_of d part c
          → cond b (x.2 ∷ group_in (cs ++ c ∷ []) d part) (group_in (cs ++ c ∷ []) d part)
          ≡ cond b (x.2 ∷ group_in cs d part) (group_in cs d part) ++ one_of d part c
      by_test true h = ap (λ xs. x.2 ∷ xs) h
      by_test false h = h

  -- what one more item of the list makes of it; `mine`: it is of that part of d
  pub group_more : (cs : List (DevNo × Part × A)) (i : ℕ) (c : DevNo × Part × A) (d : DevNo) (part : Part) (mine : Bool)
      → slice_get cs i ≡ Some c → (same_dev d c.0 && same_part part c.1) ≡ mine
      → group_in (take (i + 1) cs) d part ≡ group_in (take i cs) d part ++ cond mine (c.2 ∷ []) []
  group_more cs i c d part mine at is =
      ap (λ xs. group_in xs d part) (take_item cs i c at)
      ∙ (group_last (take i cs) c d part ∙ ap (λ b. group_in (take i cs) d part ++ cond b (c.2 ∷ []) []) is)

  pub pushed : (cs : List (DevNo × Part × A)) (i : ℕ) (c : DevNo × Part × A) (d : DevNo) (part : Part) (old now new : List A)
      → slice_get cs i ≡ Some c → (same_dev d c.0 && same_part part c.1) ≡ true → now ≡ old ++ group_in (take i cs) d part
      → new ≡ now ++ c.2 ∷ [] → new ≡ old ++ group_in (take (i + 1) cs) d part
  pushed cs i c d part old now new at mine was is =
      is ∙ (ap (λ xs. xs ++ c.2 ∷ []) was
      ∙ (append_assoc old (group_in (take i cs) d part) (c.2 ∷ []) ∙ ap (λ xs. old ++ xs) (sym (group_more cs i c d part true at mine))))

  pub passed : (cs : List (DevNo × Part × A)) (i : ℕ) (c : DevNo × Part × A) (d : DevNo) (part : Part) (old now : List A)
      → slice_get cs i ≡ Some c → (same_dev d c.0 && same_part part c.1) ≡ false → now ≡ old ++ group_in (take i cs) d part
      → now ≡ old ++ group_in (take (i + 1) cs) d part
  passed cs i c d part old now at other was =
      was ∙ ap (λ xs. old ++ xs) (sym (group_more cs i c d part false at other ∙ append-nil (group_in (take i cs) d part)))

  -- it has no more items than the list
  pub group_few : (cs : List (DevNo × Part × A)) (d : DevNo) (part : Part) → length (group_in cs d part) ≤ length cs
  group_few [] d part = omega arith
  group_few (x ∷ cs) d part = by_test (same_dev d x.0 && same_part part x.1) (group_few cs d part)
    where
      by_test : (b : Bool) → length (group_in cs d part) ≤ length cs
          → length (cond b (x.2 ∷ group_in cs d part) (group_in cs d part)) ≤ length (x ∷ cs)
      by_test true h = omega (arith, h)
      by_test false h = omega (arith, h)

  -- an item of the first n
  pub get_taken : (xs : List A) (n p : ℕ) → p < n → slice_get (take n xs) p ≡ slice_get xs p
  get_taken [] zero p h = absurd (omega arith)
  get_taken [] (suc n) p h = refl
  get_taken (x ∷ xs) zero p h = absurd (omega arith)
  get_taken (x ∷ xs) (suc n) zero h = refl
  get_taken (x ∷ xs) (suc n) (suc p) h = get_taken xs n p (omega arith)

  get_past : (xs : List A) (n p : ℕ) → n ≤ p → slice_get (take n xs) p ≡ None
  get_past [] zero p h = refl
  get_past [] (suc n) p h = refl
  get_past (x ∷ xs) zero p h = refl
  get_past (x ∷ xs) (suc n) zero h = absurd (omega arith)
  get_past (x ∷ xs) (suc n) (suc p) h = get_past xs n p (omega arith)

  pub get_dropped : (xs : List A) (f p : ℕ) → slice_get (drop f xs) p ≡ slice_get xs (f + p)
  get_dropped [] zero p = refl
  get_dropped [] (suc f) p = refl
  get_dropped (x ∷ xs) zero p = ap (slice_get (x ∷ xs)) (let e : p ≡ 0 + p = omega arith in e)
  get_dropped (x ∷ xs) (suc f) p =
      get_dropped xs f p ∙ ap (slice_get (x ∷ xs)) (let e : suc (f + p) ≡ suc f + p = omega arith in e)

  -- the item at a place of those that stand from f on, n of them
  pub get_at : (xs : List A) (f n p : ℕ) → p < n → slice_get (take n (drop f xs)) p ≡ slice_get xs (f + p)
  get_at xs f n p h = get_taken (drop f xs) n p h ∙ get_dropped xs f p

  pub get_none : (xs : List A) (f n p : ℕ) → n ≤ p → slice_get (take n (drop f xs)) p ≡ None
  get_none xs f n p h = get_past (drop f xs) n p h

  pub length_at : (xs : List A) (f n : ℕ) → f + n ≤ length xs → length (take n (drop f xs)) ≡ n
  length_at xs f n h = omega (arith, length-take n (drop f xs), length-drop f xs)

  -- what stands between two lists
  pub between : (a b c : List A) → take (length b) (drop (length a) (a ++ (b ++ c))) ≡ b
  between a b c = ap (take (length b)) (drop-append_seam a (b ++ c)) ∙ take-append_seam b c
