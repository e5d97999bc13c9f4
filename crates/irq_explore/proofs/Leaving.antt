-- The words that ask for a way to be left, in parts.
use Rattle.std.proofs.Common.{◌≡◌, ℕ, List, [], ◌∷◌, ◌++◌, codes, decimal, sym, ap, ◌∙◌, append_assoc}
use Rattle.std.proofs.lemmas.Grind.{flat_map-append}
use Rattle.std.proofs.lemmas.List.{append-nil}
use Rattle.irq_base.specs.declared.numbers.LineNo.{LineNo}
use Rattle.line_wanted.specs.declared.left.Left.{Left}
use Rattle.line_wanted.specs.declared.wanted.Wanted.TheVariants as wants
use Rattle.log_text.proofs.Spacing.{joined as joined_is}
use Rattle.log_text.specs.Spaced.{spaced}
use Rattle.explore_words.specs.Rows.{hung_words, joined, standing_word, waits_word, wanted_words}

regroup : (old d r h o s u w : List ℕ) → ((((((((old ++ d) ++ r) ++ h) ++ o) ++ s) ++ o) ++ u) ++ o) ++ w
    ≡ old ++ (d ++ (r ++ (h ++ (o ++ (s ++ (o ++ (u ++ (o ++ w))))))))
regroup old d r h o s u w = simp append_assoc

-- how the line stands, and the words behind
abbrev rest_of : Left → List (List ℕ)
rest_of left = standing_word left.standing ∷ decimal left.unserved ∷ waits_word (left.stored, left.pending) ∷ []

parts : (left : Left) → spaced (codes "rest" ∷ (hung_words left.hung ++ rest_of left))
    ≡ codes " rest" ++ (spaced (hung_words left.hung) ++ (32 ∷ (standing_word left.standing
    ++ (32 ∷ (decimal left.unserved ++ (32 ∷ waits_word (left.stored, left.pending)))))))
parts left = ap (λ (xs : List ℕ). codes " rest" ++ xs)
    (flat_map-append (λ word. 32 ∷ word) (hung_words left.hung) (rest_of left)
    ∙ ap (λ (xs : List ℕ). spaced (hung_words left.hung) ++ (32 ∷ (standing_word left.standing ++ (32 ∷ (decimal left.unserved ++ (32 ∷ xs))))))
    (append-nil (waits_word (left.stored, left.pending))))

pub left_spoken : (old : List ℕ) (line : LineNo) (left : Left)
    → ((((((((old ++ decimal line.0) ++ codes " rest") ++ spaced (hung_words left.hung)) ++ 32 ∷ []) ++ standing_word left.standing) ++ 32 ∷ [])
    ++ decimal left.unserved) ++ 32 ∷ []) ++ waits_word (left.stored, left.pending) ≡ old ++ joined (wanted_words line (wants.Rest left))
left_spoken old line left =
    regroup old (decimal line.0) (codes " rest") (spaced (hung_words left.hung)) (32 ∷ []) (standing_word left.standing) (decimal left.unserved)
    (waits_word (left.stored, left.pending))
    ∙ (ap (λ (xs : List ℕ). old ++ (decimal line.0 ++ xs)) (sym (parts left))
    ∙ ap (λ (xs : List ℕ). old ++ xs) (sym (joined_is (decimal line.0) (codes "rest" ∷ (hung_words left.hung ++ rest_of left)))))
