-- The first place of a byte, as memchr finds it.
use Rattle.std.proofs.Common.{◌≡◌, ℕ, Bool, true, false, ltb, List, length, Option, Some, None, refl, arith}
use Rattle.std.specs.List.{position, position_or_len}
use Rattle.std.proofs.lemmas.List.Sums.{position_or_len_is}
use Rattle.std.proofs.lemmas.Bool.Decides.{nat_tests}
use Rattle.memchr.specs.Find.{IsFirstByte, is_byte}
use Rattle.log_read.specs.LogOf.{is_feed}

isnt : (b : Bool) → (b ≡ true → ⊥) → b ≡ false
isnt true h = absurd (h refl)
isnt false h = refl

-- where memchr finds the line feed is its position
pub feed_found : (xs : List ℕ) (r : Option ℕ) → IsFirstByte (is_byte 10) xs r → r ≡ position is_feed xs
feed_found xs None h =
    let at : position_or_len is_feed xs ≡ length xs = position_or_len_is is_feed xs (length xs) 0 (omega arith)
    (λ k below. isnt _ (h k (omega arith) below)) (λ below. absurd (omega (arith, below))) in
    let past : ltb (length xs) (length xs) ≡ false = grind (arith, nat_tests) in
    rw at (rw past refl)
feed_found xs (Some k) h =
    let at : position_or_len is_feed xs ≡ k = position_or_len_is is_feed xs k 0 (omega (arith, h.0.high))
    (λ j below. isnt _ (h.0.before j (omega arith) below)) (λ below. h.1) in
    let within : ltb k (length xs) ≡ true = (let high = h.0.high in grind (arith, nat_tests)) in
    rw at (rw within refl)
