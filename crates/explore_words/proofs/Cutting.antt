-- A row is cut at its first space.
use Rattle.std.proofs.Common.{◌≡◌, ℕ, suc, ◌+◌, ◌-◌, Bool, true, false, not, cond, ltb, List, [], ◌∷◌, length}
use Rattle.std.proofs.Common.{take, drop, Some, None, refl, sym, ap, ◌∙◌, arith}
use Rattle.std.specs.List.{position, position_or_len, onto_first, join_with_byte}
use Rattle.std.proofs.lemmas.Bool.Decides.{nat_tests}
use Rattle.std.proofs.lemmas.List.{length-drop, take_all}
use Rattle.std.proofs.lemmas.List.Splits.{join_with_byte-slice_split}
use Rattle.log_read.specs.Left.{is_space, words_of}

abbrev cut_at : ℕ → List ℕ → List (List ℕ)
cut_at n row = cond (ltb n (length row)) (take n row ∷ words_of (drop (n + 1) row)) (row ∷ [])

onto_cut : (t : Bool) (b : ℕ) (bs front : List ℕ) (parts : List (List ℕ))
    → onto_first b (cond t (front ∷ parts) (bs ∷ [])) ≡ cond t ((b ∷ front) ∷ parts) ((b ∷ bs) ∷ [])
onto_cut true b bs front parts = refl
onto_cut false b bs front parts = refl

cut_if : (t : Bool) (b : ℕ) (bs : List ℕ) (n : ℕ) → words_of bs ≡ cut_at n bs
    → cond t ([] ∷ words_of bs) (onto_first b (words_of bs)) ≡ cut_at (cond (not t) (1 + n) 0) (b ∷ bs)
cut_if true b bs n known = let e : ltb 0 (length (b ∷ bs)) ≡ true = grind (arith, nat_tests) in rw e refl
cut_if false b bs n known =
    let e : 1 + n ≡ suc n = omega arith in
    let f : 1 + n + 1 ≡ suc (n + 1) = omega arith in
    let g : ltb (1 + n) (length (b ∷ bs)) ≡ ltb n (length bs) = grind (arith, nat_tests) in
    ap (onto_first b) known
    ∙ (onto_cut (ltb n (length bs)) b bs (take n bs) (words_of (drop (n + 1) bs))
    ∙ (ap (λ t. cond t ((b ∷ take n bs) ∷ words_of (drop (n + 1) bs)) ((b ∷ bs) ∷ [])) (sym g)
    ∙ (ap (λ m. cond (ltb (1 + n) (length (b ∷ bs))) (take m (b ∷ bs) ∷ words_of (drop (n + 1) bs)) ((b ∷ bs) ∷ [])) (sym e)
    ∙ ap (λ m. cond (ltb (1 + n) (length (b ∷ bs))) (take (1 + n) (b ∷ bs) ∷ words_of (drop m (b ∷ bs))) ((b ∷ bs) ∷ [])) (sym f))))

cut_is : (row : List ℕ) → words_of row ≡ cut_at (position_or_len is_space row) row
cut_is [] = refl
cut_is (b ∷ bs) = cut_if (is_space b) b bs (position_or_len is_space bs) (cut_is bs)

found : (t : Bool) (i n : ℕ) → Some i ≡ cond t (Some n) None → (i ≡ n) × (t ≡ true)
found true i n h = (cc, refl)
found false i n h = cc

missed : (t : Bool) (n : ℕ) → None ≡ cond t (Some n) None → t ≡ false
missed true n h = cc
missed false n h = refl

-- what is left behind the first items
pub take_rest : {X : Type 0} (xs : List X) (n : ℕ) → take (length xs - n) (drop n xs) ≡ drop n xs
take_rest xs n = take_all (length xs - n) (drop n xs) (let few = length-drop n xs in omega (arith, few))

-- the word before the first space, and the words behind it
pub at_space : (row : List ℕ) (i : ℕ) → Some i ≡ position is_space row
    → words_of row ≡ take i row ∷ words_of (take (length row - (i + 1)) (drop (i + 1) row))
at_space row i h =
    let at = found _ i (position_or_len is_space row) h in
    cut_is row
    ∙ (ap (λ t. cond t (take (position_or_len is_space row) row ∷ words_of (drop (position_or_len is_space row + 1) row)) (row ∷ [])) at.1
    ∙ (ap (λ n. take n row ∷ words_of (drop (n + 1) row)) (sym at.0)
    ∙ ap (λ rest. take i row ∷ words_of rest) (sym (take_rest row (i + 1)))))

pub no_space : (row : List ℕ) → None ≡ position is_space row → words_of row ≡ row ∷ []
no_space row h =
    cut_is row ∙ ap (λ t. cond t (take (position_or_len is_space row) row
    ∷ words_of (drop (position_or_len is_space row + 1) row)) (row ∷ []))
    (missed _ (position_or_len is_space row) h)

-- bytes that are one word are that word
pub one_word : (bytes word : List ℕ) → words_of bytes ≡ word ∷ [] → bytes ≡ word
one_word bytes word is = sym (join_with_byte-slice_split 32 bytes) ∙ ap (join_with_byte 32) is
