-- The loops that read the kind of a board.
use Rattle.std.proofs.Common.{◌≡◌, ℕ, suc, ◌+◌, ◌-◌, ◌<◌, ◌≤◌, Bool, true, false, ◌||◌, cond, Option, Some, None, List}
use Rattle.std.proofs.Common.{length, drop, slice_get, sym, ap, ◌∙◌, arith}
use Rattle.std.specs.List.{list_any}
use Rattle.domain_rules.specs.Layout.{count_of_mapped, is_mapped}
use Rattle.domain_rules.specs.declared.layouts.Placement.{Placement}
use Rattle.board_ready.specs.First.{first_from}
use Rattle.board_core.proofs.Searches.{dropped, there}
use Rattle.irq_chained.specs.Fits.{mapped_at}

more : (i : ℕ) → suc i ≡ i + 1
more i = omega arith

pub any_next : {A : Type 0} (p : A → Bool) (xs : List A) (i : ℕ) (x : A) → slice_get xs i ≡ Some x
    → list_any p (drop i xs) ≡ (p x || list_any p (drop (i + 1) xs))
any_next {A} p xs i x at = ap (λ (l : List A). list_any p l) (dropped xs i x at) ∙ ap (λ (n : ℕ). p x || list_any p (drop n xs)) (more i)

pub any_here : {A : Type 0} (p : A → Bool) (xs : List A) (i : ℕ) (x : A) → slice_get xs i ≡ Some x
    → list_any p xs ≡ list_any p (drop i xs) → p x ≡ true → true ≡ list_any p xs
any_here {A} p xs i x at so_far passes = sym (so_far ∙ (any_next p xs i x at ∙ ap (λ (b : Bool). b || list_any p (drop (i + 1) xs)) passes))

pub any_later : {A : Type 0} (p : A → Bool) (xs : List A) (i : ℕ) (x : A) → slice_get xs i ≡ Some x
    → list_any p xs ≡ list_any p (drop i xs) → p x ≡ false → list_any p xs ≡ list_any p (drop (i + 1) xs)
any_later {A} p xs i x at so_far not = so_far ∙ (any_next p xs i x at ∙ ap (λ (b : Bool). b || list_any p (drop (i + 1) xs)) not)

pub count_next : (xs : List Placement) (i total count here : ℕ) → i < length xs
    → count + count_of_mapped (drop i xs) ≡ total → here ≡ mapped_at (slice_get xs i)
    → (count + here) + count_of_mapped (drop (i + 1) xs) ≡ total
count_next xs i total count here within so_far is =
    let x = there xs i within in
    let d = ap (λ (l : List Placement). count_of_mapped l) (dropped xs i x.0 x.1)
    ∙ ap (λ (n : ℕ). cond (is_mapped x.0) (count_of_mapped (drop n xs) + 1) (count_of_mapped (drop n xs))) (more i)
    in
    let h : here ≡ mapped_at (Some x.0) = is ∙ ap (λ (o : Option Placement). mapped_at o) x.1 in
    by_kind (is_mapped x.0) (count_of_mapped (drop i xs)) (count_of_mapped (drop (i + 1) xs)) so_far d h
  where
    by_kind : (b : Bool) (now rest : ℕ) → count + now ≡ total → now ≡ cond b (rest + 1) rest → here ≡ cond b 1 0 → (count + here) + rest ≡ total
    by_kind true now rest a d h = omega (arith, a, d, h)
    by_kind false now rest a d h = omega (arith, a, d, h)

pub here_most : (xs : List Placement) (i here : ℕ) → here ≡ mapped_at (slice_get xs i) → here ≤ 1
here_most xs i here is = by_line (slice_get xs i) is
  where
    by_kind : (b : Bool) → here ≡ cond b 1 0 → here ≤ 1
    by_kind true h = omega (arith, h)
    by_kind false h = omega (arith, h)

    by_line : (o : Option Placement) → here ≡ mapped_at o → here ≤ 1
    by_line None h = omega (arith, h)
    by_line (Some p) h = by_kind (is_mapped p) h

pub first_later : (p : ℕ → Bool) (c n : ℕ) (o : Option ℕ) → c < n → o ≡ first_from p c (n - c) → p c ≡ false → o ≡ first_from p (c + 1) (n - (c + 1))
first_later p c n o less so_far not =
    let e : n - c ≡ suc (n - (c + 1)) = omega (arith, less) in
    so_far ∙ (ap (λ (k : ℕ). first_from p c k) e ∙ ap (λ (b : Bool). cond b (Some c) (first_from p (c + 1) (n - (c + 1)))) not)
