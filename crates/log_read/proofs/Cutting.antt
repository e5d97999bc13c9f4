-- A row is cut at its first space.
use Rattle.std.proofs.Common.{◌≡◌, ℕ, suc, ◌+◌, Bool, true, false, not, cond, ltb, List, [], ◌∷◌, length}
use Rattle.std.proofs.Common.{take, drop, Bor, ◌⊎◌, inl, inr, Some, None, refl, sym, ap, ◌∙◌, arith}
use Rattle.std.specs.List.{position, position_or_len, onto_first}
use Rattle.std.proofs.lemmas.Bool.Decides.{nat_tests}
use Rattle.std.specs.Prelude.{◌↔◌, IsTrue}
use Rattle.std.proofs.lemmas.Bool.{false≢true}
use Rattle.std.proofs.lemmas.Option.{none-some, same_Some}
use Rattle.log_read.specs.Left.{is_space, words_of, left_of}
use Rattle.log_read.specs.declared.words.Words.{Words}
use Rattle.log_read.specs.declared.words.Words.TheVariants as words

onto_some : (b : ℕ) (parts : List (List ℕ)) → onto_first b parts ≡ [] → ⊥
onto_some b [] h = cc
onto_some b (part ∷ parts) h = cc

-- there is always a word
pub some_word : (row : List ℕ) → words_of row ≡ [] → ⊥
some_word [] h = cc
some_word (b ∷ bs) h = by (is_space b) h
  where
    by : (t : Bool) → cond t ([] ∷ words_of bs) (onto_first b (words_of bs)) ≡ [] → ⊥
    by true i = cc
    by false i = onto_some b (words_of bs) i

abbrev cut_at : ℕ → List ℕ → List (List ℕ)
cut_at n row = cond (ltb n (length row)) (take n row ∷ words_of (drop (n + 1) row)) (row ∷ [])

onto_cut : (t : Bool) (b : ℕ) (bs front : List ℕ) (parts : List (List ℕ))
    → onto_first b (cond t (front ∷ parts) (bs ∷ [])) ≡ cond t ((b ∷ front) ∷ parts) ((b ∷ bs) ∷ [])
onto_cut true b bs front parts = refl
onto_cut false b bs front parts = refl

cut_if : (t : Bool) (b : ℕ) (bs : List ℕ) (n : ℕ) → words_of bs ≡ cut_at n bs
    → cond t ([] ∷ words_of bs) (onto_first b (words_of bs)) ≡ cut_at (cond (not t) (1 + n) 0) (b ∷ bs)
cut_if true b bs n known = let e : ltb 0 (length (b ∷ bs)) ≡ true = grind (arith, nat_tests) in rw e refl
cut_if false b bs n known =
    let e : 1 + n ≡ suc n = omega arith in
    let f : 1 + n + 1 ≡ suc (n + 1) = omega arith in
    let g : ltb (1 + n) (length (b ∷ bs)) ≡ ltb n (length bs) = grind (arith, nat_tests) in
    ap (onto_first b) known
    ∙ (onto_cut (ltb n (length bs)) b bs (take n bs) (words_of (drop (n + 1) bs))
    ∙ (ap (λ t. cond t ((b ∷ take n bs) ∷ words_of (drop (n + 1) bs)) ((b ∷ bs) ∷ [])) (sym g)
    ∙ (ap (λ m. cond (ltb (1 + n) (length (b ∷ bs))) (take m (b ∷ bs) ∷ words_of (drop (n + 1) bs)) ((b ∷ bs) ∷ [])) (sym e)
    ∙ ap (λ m. cond (ltb (1 + n) (length (b ∷ bs))) (take (1 + n) (b ∷ bs) ∷ words_of (drop m (b ∷ bs))) ((b ∷ bs) ∷ [])) (sym f))))

cut_is : (row : List ℕ) → words_of row ≡ cut_at (position_or_len is_space row) row
cut_is [] = refl
cut_is (b ∷ bs) = cut_if (is_space b) b bs (position_or_len is_space bs) (cut_is bs)

found : (t : Bool) (i n : ℕ) → Some i ≡ cond t (Some n) None → (i ≡ n) × (t ≡ true)
found true i n h = (cc, refl)
found false i n h = cc

missed : (t : Bool) (n : ℕ) → None ≡ cond t (Some n) None → t ≡ false
missed true n h = cc
missed false n h = refl

pub at_space : (row : List ℕ) (i : ℕ) → Some i ≡ position is_space row → words_of row ≡ take i row ∷ words_of (drop (i + 1) row)
at_space row i h =
    let at = found _ i (position_or_len is_space row) h in
    cut_is row
    ∙ (ap (λ t. cond t (take (position_or_len is_space row) row ∷ words_of (drop (position_or_len is_space row + 1) row)) (row ∷ [])) at.1
    ∙ ap (λ n. take n row ∷ words_of (drop (n + 1) row)) (sym at.0))

pub no_space : (row : List ℕ) → None ≡ position is_space row → words_of row ≡ row ∷ []
no_space row h =
    cut_is row ∙ ap (λ t. cond t (take (position_or_len is_space row) row
    ∷ words_of (drop (position_or_len is_space row + 1) row)) (row ∷ []))
    (missed _ (position_or_len is_space row) h)

-- whether no word is left

pub not_done : (left : Words) → (left ≡ words.Failed) ⊎ ((rest : Bor (List ℕ)) × (left ≡ words.More rest)) → IsTrue false ↔ (left_of left ≡ Some [])
not_done left (inl none) = (λ i. absurd (false≢true i), λ h. absurd (none-some [] (sym (ap left_of none) ∙ h)))
not_done left (inr more) = (λ i. absurd (false≢true i), λ h. absurd (some_word more.0.now (same_Some (words_of more.0.now) [] (sym (ap left_of more.1) ∙ h))))
