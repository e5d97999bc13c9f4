-- Words that stand, and that stand again.
use Rattle.std.proofs.Common.{◌≡◌, ℕ, ◌+◌, Bool, true, false, cond, ◌||◌, ltb, List, [], ◌∷◌, refl, ap, ◌∙◌, arith}
use Rattle.std.proofs.lemmas.Bool.Decides.{nat_tests}
use Rattle.board_words.specs.Forms.{is}
use Rattle.board_words.specs.Statements.{stands, count_of, stands_again}

some_if : (t : Bool) (n : ℕ) (s : Bool) → ltb 0 n ≡ s → ltb 0 (cond t (n + 1) n) ≡ (t || s)
some_if true n s h = grind (arith, nat_tests)
some_if false n s h = h

-- what stands at all is counted at least once
some_of : (text : List ℕ) (words : List (List ℕ)) → ltb 0 (count_of text words) ≡ stands text words
some_of text [] = refl
some_of text (word ∷ words) = some_if (is word text) (count_of text words) (stands text words) (some_of text words)

one_more : (n : ℕ) → ltb 1 (n + 1) ≡ ltb 0 n
one_more n = grind (arith, nat_tests)

-- after one that stands, what matters is whether it stands
pub again_first : (text word : List ℕ) (words : List (List ℕ)) → is word text ≡ true → stands_again text (word ∷ words) ≡ stands text words
again_first text word words h =
    ap (λ t. ltb 1 (cond t (count_of text words + 1) (count_of text words))) h ∙ one_more (count_of text words) ∙ some_of text words
