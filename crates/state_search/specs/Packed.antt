-- The numbers of a state as bytes. Most numbers are small, so most take one byte.
use Rattle.std.specs.Prelude.{◌≡◌, ◌<◌, ◌^◌, ℕ, zero, suc, ◌+◌, ◌*◌, ◌/◌, ◌%◌, List, [], ◌∷◌}
use Rattle.std.specs.Prelude.{nat_lt, if◌then◌else◌, All}
use Rattle.std.specs.List.{flat_map}

-- a number below 255 is one byte; any other is 255 and its four bytes, the lowest first
abbrev pub packed_word : ℕ → List ℕ
packed_word n = if nat_lt n 255 then n ∷ []
    else 255 ∷ n % 256 ∷ n / 256 % 256 ∷ n / 65536 % 256 ∷ n / 16777216 % 256 ∷ []

abbrev pub packed : List ℕ → List ℕ
packed words = flat_map packed_word words

-- the byte below the first number's other bytes
abbrev pub onto : ℕ → List ℕ → List ℕ
onto b [] = []
onto b (n ∷ ns) = (b + 256 * n) ∷ ns

-- the numbers that the bytes have, of which the first so many belong to a number of four bytes
abbrev pub unpacked_behind : ℕ → List ℕ → List ℕ
unpacked_behind left [] = []
unpacked_behind zero (b ∷ bs) =
    if nat_lt b 255 then b ∷ unpacked_behind 0 bs else unpacked_behind 4 bs
unpacked_behind (suc zero) (b ∷ bs) = b ∷ unpacked_behind 0 bs
unpacked_behind (suc (suc left)) (b ∷ bs) = onto b (unpacked_behind (suc left) bs)

abbrev pub unpacked : List ℕ → List ℕ
unpacked bytes = unpacked_behind 0 bytes

-- a number takes 32 bits
abbrev pub IsSmall : ℕ → Type 0
IsSmall n = n < 2 ^ 32

-- the bytes are those of some numbers
abbrev pub IsPacked : List ℕ → Type 0
IsPacked bytes = (words : List ℕ) × All IsSmall words × (bytes ≡ packed words)
