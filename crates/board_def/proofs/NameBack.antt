-- A name gives its bytes back.
use Rattle.std.proofs.Common.{◌≡◌, ℕ, zero, suc, ◌-◌, ◌==◌, true, false, cond, List, [], ◌∷◌, ◌++◌, length, refl, ap, ◌∙◌, arith}
use Rattle.std.proofs.Math.ListN.{replicate}
use Rattle.std.specs.List.{list_all}
use Rattle.std.proofs.lemmas.Bool.Decides.{nat_tests}
use Rattle.std.proofs.lemmas.List.{append-nil}
use Rattle.board_def.specs.Names.{is_letter, is_name_byte, is_name, name_of, before_zero, name_bytes}

zeros_end : (k : ℕ) → before_zero (replicate k 0) ≡ []
zeros_end zero = refl
zeros_end (suc k) = refl

no_zero : (b : ℕ) → is_name_byte b ≡ true → (b == 0) ≡ false
no_zero b h = grind (arith, nat_tests)

a_letter : (b : ℕ) → is_letter b ≡ true → is_name_byte b ≡ true
a_letter b h = grind (arith, nat_tests)

-- name bytes stand before the first zero
kept : (w rest : List ℕ) → list_all is_name_byte w ≡ true → before_zero (w ++ rest) ≡ w ++ before_zero rest
kept [] rest h = refl
kept (b ∷ bs) rest h =
    let is : is_name_byte b ≡ true = grind arith in
    let others : list_all is_name_byte bs ≡ true = grind arith in
    ap (λ t. cond t [] (b ∷ before_zero (bs ++ rest))) (no_zero b is) ∙ ap (λ xs. b ∷ xs) (kept bs rest others)

pub name_back : (w : List ℕ) → is_name w ≡ true → name_bytes (name_of w) ≡ w
name_back [] h = refl
name_back (b ∷ bs) h =
    let first : is_letter b ≡ true = grind arith in
    let others : list_all is_name_byte bs ≡ true = grind arith in
    let all : list_all is_name_byte (b ∷ bs) ≡ true = rw (a_letter b first) others in
    kept (b ∷ bs) (replicate (16 - length (b ∷ bs)) 0) all ∙ (ap (λ xs. (b ∷ bs) ++ xs) (zeros_end (16 - length (b ∷ bs))) ∙ append-nil (b ∷ bs))
