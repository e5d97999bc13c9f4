-- Packed numbers, and the numbers again.
use Rattle.std.proofs.Common.{◌≡◌, ◌≤◌, ◌<◌, ◌+◌, ◌*◌, ◌/◌, ◌%◌, ℕ, Bool, true, false, nat_lt, List, [], ◌∷◌, ◌++◌}
use Rattle.std.proofs.Common.{length, drop, get_or, All, refl, ap, sym, ◌∙◌, arith, append_assoc, if◌then◌else◌}
use Rattle.std.specs.List.{AllByRecursion}
use Rattle.std.proofs.lemmas.Bool.{le-ltb}
use Rattle.std.proofs.lemmas.List.{at_drop_more, at_drop_all, length-drop, append-nil}
use Rattle.std.proofs.lemmas.List.Elements.{recursion_from_All}
use Rattle.state_search.specs.Packed.{packed_word, packed, unpacked, unpacked_behind, IsSmall, IsPacked}

-- one number, with others behind it
word_back : (n : ℕ) (bytes : List ℕ) → IsSmall n → unpacked (packed_word n ++ bytes) ≡ n ∷ unpacked bytes
word_back n bytes small = by (nat_lt n 255) refl
  where
    low : List ℕ
    low = n ∷ []

    wide : List ℕ
    wide = 255 ∷ n % 256 ∷ n / 256 % 256 ∷ n / 65536 % 256 ∷ n / 16777216 % 256 ∷ []

    by : (b : Bool) → nat_lt n 255 ≡ b → unpacked (packed_word n ++ bytes) ≡ n ∷ unpacked bytes
    by true e =
        ap (λ b. unpacked ((if b then low else wide) ++ bytes)) e
        ∙ ap (λ b. if b then n ∷ unpacked bytes else unpacked_behind 4 bytes) e
    by false e =
        let whole : n % 256 + 256 * (n / 256 % 256 + 256 * (n / 65536 % 256 + 256 * (n / 16777216 % 256))) ≡ n
        = omega (arith, small) in
        ap (λ b. unpacked ((if b then low else wide) ++ bytes)) e ∙ ap (λ m. m ∷ unpacked bytes) whole

all_back : (ws : List ℕ) → AllByRecursion IsSmall ws → unpacked (packed ws) ≡ ws
all_back [] s = refl
all_back (w ∷ ws) s = word_back w (packed ws) s.0 ∙ ap (λ t. w ∷ t) (all_back ws s.1)

pub packed_back : (ws : List ℕ) → All IsSmall ws → unpacked (packed ws) ≡ ws
packed_back ws s = all_back ws (recursion_from_All IsSmall ws s)

-- bytes that are packed numbers are those of the numbers that they have
key_of : (bytes : List ℕ) → IsPacked bytes → bytes ≡ packed (unpacked bytes)
key_of bytes p = p.2 ∙ ap packed (sym (ap unpacked p.2 ∙ packed_back p.0 p.1))

pub same_key : (a b : List ℕ) → IsPacked a → IsPacked b → unpacked a ≡ unpacked b → a ≡ b
same_key a b p q same = key_of a p ∙ (ap packed same ∙ sym (key_of b q))

-- one more number was packed
pub pack_more : (words bytes more : List ℕ) (i w : ℕ) → i < length words → w ≡ get_or words i w
    → bytes ++ packed (drop i words) ≡ packed words → more ≡ bytes ++ packed_word w
    → more ++ packed (drop (i + 1) words) ≡ packed words
pack_more words bytes more i w less at so_far is =
    ap (λ t. t ++ packed (drop (i + 1) words)) is
    ∙ (append_assoc bytes (packed_word w) (packed (drop (i + 1) words))
    ∙ (ap (λ t. bytes ++ t) (ap (λ n. packed_word n ++ packed (drop (i + 1) words)) at ∙ sym (at_drop_more packed words i w less))
    ∙ so_far))

pub packed_all : (words bytes : List ℕ) (i : ℕ) → length words ≤ i → bytes ++ packed (drop i words) ≡ packed words → bytes ≡ packed words
packed_all words bytes i end is = sym (append-nil bytes) ∙ (ap (λ t. bytes ++ t) (sym (at_drop_all packed words i end)) ∙ is)

-- fewer than four bytes have no number
few : (bs : List ℕ) → length bs < 4 → unpacked_behind 4 bs ≡ []
few [] h = refl
few (a ∷ []) h = refl
few (a ∷ b ∷ []) h = refl
few (a ∷ b ∷ c ∷ []) h = refl
few (a ∷ b ∷ c ∷ d ∷ bs) h = absurd (omega (arith, h))

pub cut_short : (bytes : List ℕ) (at d : ℕ) → at < length bytes → 255 ≤ get_or bytes at d
    → length bytes < at + 5 → unpacked (drop at bytes) ≡ []
cut_short bytes at d less wide short =
    let len = length-drop (at + 1) bytes in
    at_drop_more unpacked bytes at d less
    ∙ (ap (λ t. if t then get_or bytes at d ∷ unpacked (drop (at + 1) bytes) else unpacked_behind 4 (drop (at + 1) bytes))
    (le-ltb (get_or bytes at d) 255 wide)
    ∙ few (drop (at + 1) bytes) (omega (arith, len, short, less)))

pub unpacked_all : (words bytes all : List ℕ) (at : ℕ) → length bytes ≤ at → words ++ unpacked (drop at bytes) ≡ all → words ≡ all
unpacked_all words bytes all at end is = sym (append-nil words) ∙ (ap (λ t. words ++ t) (sym (at_drop_all unpacked bytes at end)) ∙ is)
