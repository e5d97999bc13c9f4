-- Words by their places.
use Rattle.std.proofs.Common.{◌≡◌, ℕ, ◌-◌, ◌≤◌, List, [], ◌∷◌, Bor, length, map, take, drop, get_or, sym, ap, ◌∙◌, arith}
use Rattle.explore_words.proofs.Cutting.{take_rest}

abbrev texts : List (Bor (List ℕ)) → List (List ℕ)
texts words = map (λ (w : Bor (List ℕ)). w.now) words

by_place : (words : List (Bor (List ℕ))) (none : Bor (List ℕ)) (first : List ℕ) → 2 ≤ length words → (get_or words 0 none).now ≡ first
    → texts words ≡ first ∷ (get_or words 1 none).now ∷ texts (drop 2 words)
by_place [] none first two is = absurd (omega (arith, two))
by_place (a ∷ []) none first two is = absurd (omega (arith, two))
by_place (a ∷ b ∷ words) none first two is = ap (λ t. t ∷ b.now ∷ texts words) is

-- two words, and those behind them
pub two_first : (words : List (Bor (List ℕ))) (none : Bor (List ℕ)) (first : List ℕ) → 2 ≤ length words → (get_or words 0 none).now ≡ first
    → texts words ≡ first ∷ (get_or words 1 none).now ∷ texts (take (length words - 2) (drop 2 words))
two_first words none first two is =
    by_place words none first two is ∙ ap (λ ws. first ∷ (get_or words 1 none).now ∷ texts ws) (sym (take_rest words 2))

by_first : (words : List (Bor (List ℕ))) (none : Bor (List ℕ)) (first : List ℕ) → 1 ≤ length words → (get_or words 0 none).now ≡ first
    → texts words ≡ first ∷ texts (drop 1 words)
by_first [] none first one is = absurd (omega (arith, one))
by_first (a ∷ words) none first one is = ap (λ t. t ∷ texts words) is

-- one word, and those behind it
pub one_first : (words : List (Bor (List ℕ))) (none : Bor (List ℕ)) (first : List ℕ) → 1 ≤ length words → (get_or words 0 none).now ≡ first
    → texts words ≡ first ∷ texts (take (length words - 1) (drop 1 words))
one_first words none first one is = by_first words none first one is ∙ ap (λ ws. first ∷ texts ws) (sym (take_rest words 1))
