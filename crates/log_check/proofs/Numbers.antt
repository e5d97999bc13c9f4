-- A number that stands before a space is read digit by digit.
use Rattle.std.proofs.Common.{◌≡◌, ℕ, ◌+◌, ◌-◌, ◌*◌, ◌/◌, ◌%◌, ◌<◌, ◌≤◌, ◌^◌, Some, None, List, [], ◌∷◌, ◌++◌}
use Rattle.std.proofs.Common.{decimal, length, refl, sym, ap, ◌∙◌, arith}
use Rattle.std.proofs.lemmas.Fmt.{decimal_by_steps}
use Rattle.log_text.specs.Formed.{IsSmall}
use Rattle.log_check.specs.Heads.{ReadsNumber}

abbrev AreDigits : List ℕ → Type 0
AreDigits [] = Unit {0}
AreDigits (d ∷ ds) = ((48 ≤ d) × (d ≤ 57)) × AreDigits ds

-- the digits, read after a number
abbrev onto : ℕ → List ℕ → ℕ
onto v [] = v
onto v (d ∷ ds) = onto (v * 10 + (d - 48)) ds

digits_more : (ds : List ℕ) (d : ℕ) → AreDigits ds → 48 ≤ d → d ≤ 57 → AreDigits (ds ++ d ∷ [])
digits_more [] d all low high = ((low, high), tt)
digits_more (c ∷ ds) d all low high = (all.0, digits_more ds d all.1 low high)

onto_more : (v : ℕ) (ds : List ℕ) (d : ℕ) → onto v (ds ++ d ∷ []) ≡ onto v ds * 10 + (d - 48)
onto_more v [] d = refl
onto_more v (c ∷ ds) d = onto_more (v * 10 + (c - 48)) ds d

grows : (v : ℕ) (ds : List ℕ) → v ≤ onto v ds
grows v [] = omega arith
grows v (d ∷ ds) = let more = grows (v * 10 + (d - 48)) ds in omega (arith, more)

abbrev Spells : ℕ → List ℕ → Type 0
Spells n ds = AreDigits ds × (onto 0 ds ≡ n)

spells_one : (n : ℕ) → n < 10 → Spells n ((48 + n) ∷ [])
spells_one n small = (((omega arith, omega (arith, small)), tt), omega arith)

spells_more : (n : ℕ) (ds : List ℕ) → 10 ≤ n → Spells (n / 10) ds → Spells n (ds ++ ((48 + n % 10) ∷ []))
spells_more n ds big before = (
  digits_more ds (48 + n % 10) before.0 (omega arith) (omega arith),
  onto_more 0 ds (48 + n % 10) ∙ (ap (λ m. m * 10 + (48 + n % 10 - 48)) before.1 ∙ omega arith),
)

spelled : (n : ℕ) → IsSmall n → Spells n (decimal n)
spelled n small = decimal_by_steps Spells spells_one spells_more n (omega (arith, small))

-- of the number, and the bytes after the space, what is left when this was read of it
pub record IsLeft (n value : ℕ) (after rest : List ℕ) : Type 0 where
  pub digits : List ℕ
  pub are : AreDigits digits
  pub text : rest ≡ digits ++ 32 ∷ after
  pub number : onto value digits ≡ n

-- so far, whatever number the bytes begin with
abbrev pub AreRead : List ℕ → ℕ → List ℕ → Type 0
AreRead bytes value rest = (n : ℕ) (after : List ℕ) → IsSmall n → bytes ≡ decimal n ++ 32 ∷ after → IsLeft n value after rest

pub at_start : (bytes : List ℕ) → AreRead bytes 0 bytes
at_start bytes n after small is = let s = spelled n small in record { digits = decimal n; are = s.0; text = is; number = s.1 }

-- the next byte: a space after the last digit, or a further digit

record IsDigit (n value byte : ℕ) (after next : List ℕ) : Type 0 where
  low : 48 ≤ byte
  high : byte ≤ 57
  left : IsLeft n (value * 10 + (byte - 48)) after next
  below : value * 10 + (byte - 48) ≤ n

same_head : (x y : ℕ) (xs ys : List ℕ) → x ∷ xs ≡ y ∷ ys → (x ≡ y) × (xs ≡ ys)
same_head x y xs ys same = (cc, cc)

by_space : (n value byte : ℕ) (after rest next : List ℕ) → IsLeft n value after rest → rest ≡ byte ∷ next → byte ≡ 32
    → (value ≡ n) × (next ≡ after)
by_space n value byte after rest next left is space = by left.digits left.are (sym is ∙ left.text) left.number
  where
    by : (ds : List ℕ) → AreDigits ds → byte ∷ next ≡ ds ++ 32 ∷ after → onto value ds ≡ n → (value ≡ n) × (next ≡ after)
    by [] all same number = (number, (same_head byte 32 next after same).1)
    by (d ∷ ds) all same number =
        let low = all.0.0 in
        let first = (same_head byte d next (ds ++ 32 ∷ after) same).0 in
        absurd (omega (arith, first, space, low))

by_digit : (n value byte : ℕ) (after rest next : List ℕ) → IsLeft n value after rest → rest ≡ byte ∷ next → (byte ≡ 32 → ⊥)
    → IsDigit n value byte after next
by_digit n value byte after rest next left is space = by left.digits left.are (sym is ∙ left.text) left.number
  where
    by : (ds : List ℕ) → AreDigits ds → byte ∷ next ≡ ds ++ 32 ∷ after → onto value ds ≡ n → IsDigit n value byte after next
    by [] all same number = absurd (space (same_head byte 32 next after same).0)
    by (d ∷ ds) all same number =
        let heads = same_head byte d next (ds ++ 32 ∷ after) same in
        let low = all.0.0 in
        let high = all.0.1 in
        let here : onto (value * 10 + (byte - 48)) ds ≡ n = ap (λ x. onto (value * 10 + (x - 48)) ds) heads.0 ∙ number in
        let more = grows (value * 10 + (byte - 48)) ds in
        record {
          low = omega (arith, heads.0, low);
          high = omega (arith, heads.0, high);
          left = record { digits = ds; are = all.1; text = heads.1; number = here };
          below = omega (arith, more, here);
        }

none_left : (n value : ℕ) (after rest : List ℕ) → IsLeft n value after rest → length rest ≡ 0 → ⊥
none_left n value after rest left none = by left.digits rest left.text none
  where
    by : (ds xs : List ℕ) → xs ≡ ds ++ 32 ∷ after → length xs ≡ 0 → ⊥
    by [] [] same none = cc
    by [] (x ∷ xs) same none = absurd (omega (arith, none))
    by (d ∷ ds) [] same none = cc
    by (d ∷ ds) (x ∷ xs) same none = absurd (omega (arith, none))

module _ (bytes : List ℕ) (value : ℕ) (rest : List ℕ) (read : AreRead bytes value rest) where
  pub no_byte : length rest ≡ 0 → ReadsNumber bytes None
  no_byte none n after small is = absurd (none_left n value after rest (read n after small is) none)

  module _ (byte : ℕ) (next : List ℕ) (first : rest ≡ byte ∷ next) where
    pub space : byte ≡ 32 → ReadsNumber bytes (Some (value, next))
    space at n after small is =
        let both = by_space n value byte after rest next (read n after small is) first at in
        ap (λ v. Some (v, next)) both.0 ∙ ap (λ (xs : List ℕ). Some (n, xs)) both.1

    module _ (no_space : byte ≡ 32 → ⊥) where
      digit : (n : ℕ) (after : List ℕ) → IsSmall n → bytes ≡ decimal n ++ 32 ∷ after → IsDigit n value byte after next
      digit n after small is = by_digit n value byte after rest next (read n after small is) first no_space

      pub no_digit : (48 ≤ byte → byte ≤ 57 → ⊥) → ReadsNumber bytes None
      no_digit isnt n after small is = let d = digit n after small is in absurd (isnt d.low d.high)

      pub too_large : (48 ≤ byte → byte ≤ 57 → 2 ^ 32 ≤ value * 10 + (byte - 48)) → ReadsNumber bytes None
      too_large large n after small is =
          let d = digit n after small is in
          let below = d.below in
          let more = large d.low d.high in
          absurd (omega (arith, below, small, more))

      pub one_more : (now : ℕ) → (48 ≤ byte → byte ≤ 57 → now ≡ value * 10 + (byte - 48)) → AreRead bytes now next
      one_more now is n after small begins =
          let d = digit n after small begins in
          record { digits = d.left.digits; are = d.left.are; text = d.left.text; number = ap (λ v. onto v d.left.digits) (is d.low d.high) ∙ d.left.number }

pub of_one_digit : (bytes : List ℕ) (byte : ℕ) (after : List ℕ) → bytes ≡ byte ∷ 32 ∷ after → 48 ≤ byte → byte ≤ 57
    → ReadsNumber bytes (Some (byte - 48, after))
of_one_digit bytes byte after is low high =
    let read = one_more bytes 0 bytes (at_start bytes) byte (32 ∷ after) is (λ space. absurd (omega (arith, low, space))) (byte - 48)
    (λ _ _. omega arith) in
    space bytes (byte - 48) (32 ∷ after) read 32 after refl refl
