-- Lists whose items rise, and what holds of each item.
use Rattle.std.proofs.Common.{◌≡◌, ℕ, zero, suc, ◌<◌, ◌==◌, Bool, true, false, ◌||◌, IfSome, Option, Some, None}
use Rattle.std.proofs.Common.{List, [], ◌∷◌, nat_le, refl, arith}
use Rattle.std.specs.List.{All, list_any}
use Rattle.std.specs.Option.{option_map_or}
use Rattle.std.proofs.lemmas.Bool.{leb-false, eqb-true}
use Rattle.std.proofs.lemmas.List.Elements.{All-nil, All-cons, All-head, All-tail}
use Rattle.domain_rules.specs.Domains.{EachAfter}
use Rattle.domain_rules.proofs.EachAfters.{each_none}

-- a number that isn't at most the last one is above it
pub last_below : {A : Type 0} (number : A → ℕ) (n : ℕ) (last : Option A)
    → option_map_or (λ x. nat_le n (number x)) last false ≡ false → IfSome last (λ x. number x < n)
last_below number n None h = tt
last_below number n (Some x) h = leb-false n (number x) h

pub first_or_rest : {P : Type 0} (a b : Bool) → (a ≡ true → P) → (b ≡ true → P) → (a || b) ≡ true → P
first_or_rest true b first rest h = first refl
first_or_rest false b first rest h = rest h

module _ {A : Type 0} where
  -- each item of no list
  pub each_of_none : (P : List A → A → Type 0) (xs : List A) → xs ≡ [] → EachAfter P xs
  each_of_none P [] h = each_none P
  each_of_none P (x ∷ xs) h = absurd cc

  -- a condition that doesn't look at the items before
  pub each_alone : (P : List A → A → Type 0) (Q : A → Type 0) (xs : List A) → ((earlier : List A) (x : A) → P earlier x → Q x) → EachAfter P xs → All Q xs
  each_alone P Q [] follows each = All-nil Q
  each_alone P Q (x ∷ xs) follows each =
      All-cons Q x xs (follows [] x (each zero x refl))
      (each_alone (λ earlier y. P (x ∷ earlier) y) Q xs (λ earlier y p. follows (x ∷ earlier) y p) (λ i y at. each (suc i) y at))

  -- an item of a list whose items are below n is
  pub below : (number : A → ℕ) (n k : ℕ) (xs : List A) → All (λ e. number e < n) xs → list_any (λ x. number x == k) xs ≡ true → k < n
  below number n k [] all h = absurd cc
  below number n k (x ∷ xs) all h =
      first_or_rest (number x == k) (list_any (λ y. number y == k) xs)
      (λ is. let first = All-head (λ e. number e < n) x xs all in let same = eqb-true (number x) k is in
      omega arith)
      (λ is. below number n k xs (All-tail (λ e. number e < n) x xs all) is) h
