-- The items of each device of a line, one device's after another's.
use Rattle.std.proofs.Common.{◌≡◌, ℕ, ◌+◌, ◌*◌, ◌≤◌, ◌||◌, Bool, true, false, cond, Some, None, List, [], ◌∷◌, ◌++◌}
use Rattle.std.proofs.Common.{length, take, drop, refl, sym, ap, ◌∙◌, arith, length-append}
use Rattle.std.proofs.lemmas.List.{append-nil, append_assoc}
use Rattle.std.specs.List.{list_any}
use Rattle.irq_base.specs.declared.devices.DeviceDef.{DeviceDef}
use Rattle.irq_base.specs.declared.devices.Part.{Part}
use Rattle.irq_base.specs.declared.devices.Part.TheVariants as parts
use Rattle.irq_base.specs.declared.numbers.DevNo.{DevNo}
use Rattle.irq_model.specs.Kinds.{same_dev}
use Rattle.irq_model.specs.Lines.{is_device}
use Rattle.irq_model.proofs.Same.{dev_from_same}
use Rattle.device_table.specs.Rows.{at}
use Rattle.run_scripts.specs.Groups.{group_in, items_at, span_in, span_of, spans_from, AreWithin}
use Rattle.run_scripts.specs.declared.groups.Spans.{Spans}
use Rattle.run_scripts.proofs.Grouping.{group_few, between}

module _ {A : Type 0} (cs : List (DevNo × Part × A)) where
  -- the items of a device: its handler's, its thread's
  abbrev pub both_of : DevNo → List A
  both_of d = group_in cs d parts.Primary ++ group_in cs d parts.Thread

  abbrev pub laid_items : List DeviceDef → List A
  laid_items [] = []
  laid_items (x ∷ xs) = both_of x.dev ++ laid_items xs

  -- where they stand, if they follow n others
  abbrev pub laid_spans : ℕ → List DeviceDef → List (DevNo × Spans)
  laid_spans n [] = []
  laid_spans n (x ∷ xs) = (x.dev, spans_from n cs x.dev) ∷ laid_spans (n + length (both_of x.dev)) xs

  -- ---- one device more

  pub items_last : (xs : List DeviceDef) (x : DeviceDef) → laid_items (xs ++ x ∷ []) ≡ laid_items xs ++ both_of x.dev
  items_last [] x = append-nil (both_of x.dev)
  items_last (y ∷ ys) x =
      ap (λ zs. both_of y.dev ++ zs) (items_last ys x) ∙ sym (append_assoc (both_of y.dev) (laid_items ys) (both_of x.dev))

  pub spans_last : (n : ℕ) (xs : List DeviceDef) (x : DeviceDef)
      → laid_spans n (xs ++ x ∷ []) ≡ laid_spans n xs ++ (x.dev, spans_from (n + length (laid_items xs)) cs x.dev) ∷ []
  spans_last n [] x = ap (λ m. (x.dev, spans_from m cs x.dev) ∷ []) (let e : n ≡ n + 0 = omega arith in e)
  spans_last n (y ∷ ys) x =
      let long : n + length (both_of y.dev) + length (laid_items ys) ≡ n + length (both_of y.dev ++ laid_items ys)
      = omega (arith, length-append (both_of y.dev) (laid_items ys)) in
      ap (λ t. (y.dev, spans_from n cs y.dev) ∷ t) (spans_last (n + length (both_of y.dev)) ys x
      ∙ ap (λ m. laid_spans (n + length (both_of y.dev)) ys ++ (x.dev, spans_from m cs x.dev) ∷ []) long)

  pub spans_none : (n : ℕ) (xs : List DeviceDef) (d : DevNo) → list_any (is_device d) xs ≡ false → at (laid_spans n xs) d ≡ None
  spans_none n [] d h = refl
  spans_none n (x ∷ xs) d h = by_test (same_dev d x.dev) h (spans_none (n + length (both_of x.dev)) xs d)
    where
      by_test : (b : Bool) → (b || list_any (is_device d) xs) ≡ false
          → (list_any (is_device d) xs ≡ false → at (laid_spans (n + length (both_of x.dev)) xs) d ≡ None)
          → cond b (Some (spans_from n cs x.dev)) (at (laid_spans (n + length (both_of x.dev)) xs) d) ≡ None
      by_test true h rest = cc
      by_test false h rest = rest h

  both_few : (d : DevNo) → length (both_of d) ≤ 2 * length cs
  both_few d =
      omega (arith, group_few cs d parts.Primary, group_few cs d parts.Thread, length-append (group_in cs d parts.Primary) (group_in cs d parts.Thread))

  pub items_few : (xs : List DeviceDef) → length cs ≤ 65536 → length (laid_items xs) ≤ 131072 * length xs
  items_few [] h = omega arith
  items_few (x ∷ xs) h = omega (arith, both_few x.dev, length-append (both_of x.dev) (laid_items xs), items_few xs h)

  -- ---- each part's items are found

  at_first : (a rest : List A) (n : ℕ) (d : DevNo) (part : Part) → n ≡ length a
      → items_at (a ++ (both_of d ++ rest)) (span_in (Some (spans_from n cs d)) part) ≡ group_in cs d part
  at_first a rest n d parts.Primary long =
      ap (λ m. take (length (group_in cs d parts.Primary)) (drop m (a ++ (both_of d ++ rest)))) long
      ∙ (ap (λ xs. take (length (group_in cs d parts.Primary)) (drop (length a) (a ++ xs)))
      (append_assoc (group_in cs d parts.Primary) (group_in cs d parts.Thread) rest)
      ∙ between a (group_in cs d parts.Primary) (group_in cs d parts.Thread ++ rest))
  at_first a rest n d parts.Thread long =
      let h = group_in cs d parts.Primary in
      let t = group_in cs d parts.Thread in
      let far : n + length h ≡ length (a ++ h) = omega (arith, length-append a h) in
      let same : a ++ (both_of d ++ rest) ≡ (a ++ h) ++ (t ++ rest)
      = ap (λ xs. a ++ xs) (append_assoc h t rest) ∙ sym (append_assoc a h (t ++ rest)) in
      ap (λ m. take (length t) (drop m (a ++ (both_of d ++ rest)))) far
      ∙ (ap (λ xs. take (length t) (drop (length (a ++ h)) xs)) same ∙ between (a ++ h) t rest)

  found_after : (a : List A) (n : ℕ) (xs : List DeviceDef) (d : DevNo) (part : Part) → n ≡ length a → list_any (is_device d) xs ≡ true
      → items_at (a ++ laid_items xs) (span_of (laid_spans n xs) d part) ≡ group_in cs d part
  found_after a n [] d part long h = cc
  found_after a n (x ∷ xs) d part long h = by_test (same_dev d x.dev) refl h
      (found_after (a ++ both_of x.dev) (n + length (both_of x.dev)) xs d part (omega (arith, length-append a (both_of x.dev))))
    where
      next : ℕ
      next = n + length (both_of x.dev)

      by_test : (b : Bool) → same_dev d x.dev ≡ b → (b || list_any (is_device d) xs) ≡ true
          → (list_any (is_device d) xs ≡ true
          → items_at ((a ++ both_of x.dev) ++ laid_items xs) (span_of (laid_spans next xs) d part) ≡ group_in cs d part)
          → items_at (a ++ (both_of x.dev ++ laid_items xs)) (span_in (cond b (Some (spans_from n cs x.dev)) (at (laid_spans next xs) d)) part)
          ≡ group_in cs d part
      by_test true is h rest =
          at_first a (laid_items xs) n x.dev part long ∙ ap (λ (e : DevNo). group_in cs e part) (sym (dev_from_same d x.dev is))
      by_test false is h rest =
          ap (λ ys. items_at ys (span_of (laid_spans next xs) d part)) (sym (append_assoc a (both_of x.dev) (laid_items xs)))
          ∙ rest h

  pub found : (xs : List DeviceDef) (d : DevNo) (part : Part) → list_any (is_device d) xs ≡ true
      → items_at (laid_items xs) (span_of (laid_spans 0 xs) d part) ≡ group_in cs d part
  found xs d part h = found_after [] 0 xs d part refl h

  -- ---- they stand within the list

  first_within : (n : ℕ) (d : DevNo) (part : Part)
      → (span_in (Some (spans_from n cs d)) part).from + (span_in (Some (spans_from n cs d)) part).len ≤ n + length (both_of d)
  first_within n d parts.Primary = omega (arith, length-append (group_in cs d parts.Primary) (group_in cs d parts.Thread))
  first_within n d parts.Thread = omega (arith, length-append (group_in cs d parts.Primary) (group_in cs d parts.Thread))

  within_after : (n : ℕ) (xs : List DeviceDef) (d : DevNo) (part : Part)
      → (span_of (laid_spans n xs) d part).from + (span_of (laid_spans n xs) d part).len ≤ n + length (laid_items xs)
  within_after n [] d part = omega arith
  within_after n (x ∷ xs) d part = by_test (same_dev d x.dev) (within_after (n + length (both_of x.dev)) xs d part)
    where
      next : ℕ
      next = n + length (both_of x.dev)

      by_test : (b : Bool)
          → (span_of (laid_spans next xs) d part).from + (span_of (laid_spans next xs) d part).len ≤ next + length (laid_items xs)
          → (span_in (cond b (Some (spans_from n cs x.dev)) (at (laid_spans next xs) d)) part).from
          + (span_in (cond b (Some (spans_from n cs x.dev)) (at (laid_spans next xs) d)) part).len
          ≤ n + length (both_of x.dev ++ laid_items xs)
      by_test true rest = omega (arith, first_within n x.dev part, length-append (both_of x.dev) (laid_items xs))
      by_test false rest = omega (arith, rest, length-append (both_of x.dev) (laid_items xs))

  pub within : (xs : List DeviceDef) → AreWithin (laid_items xs) (laid_spans 0 xs)
  within xs d part = let h = within_after 0 xs d part in omega (arith, h)
