-- A place past a list's end is as good as the end.
use Rattle.std.proofs.Common.{◌≡◌, ℕ, Bool, true, false, nat_lt, List, length, min, refl, sym, ap, ◌∙◌, arith}
use Rattle.std.specs.List.{slice_get}
use Rattle.std.proofs.lemmas.Bool.{ltb-true, ltb-false}
use Rattle.std.proofs.lemmas.Option.{slice_get_past}

at_either : {A : Type 0} (xs : List A) (n m : ℕ) → m ≡ min n (length xs) → (b : Bool) → nat_lt n (length xs) ≡ b
    → slice_get xs m ≡ slice_get xs n
at_either xs n m is true h = ap (slice_get xs) (omega (arith, is, ltb-true n (length xs) h))
at_either xs n m is false h =
    let past = ltb-false n (length xs) h in
    slice_get_past xs m (omega (arith, is, past)) ∙ sym (slice_get_past xs n past)

pub at_most_all : {A : Type 0} (xs : List A) (n : ℕ) → slice_get xs (min n (length xs)) ≡ slice_get xs n
at_most_all xs n = at_either xs n (min n (length xs)) refl (nat_lt n (length xs)) refl
