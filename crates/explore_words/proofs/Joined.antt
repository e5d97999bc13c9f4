-- Words are put together as a row.
use Rattle.std.proofs.Common.{◌≡◌, ℕ, ◌+◌, ◌<◌, Bool, true, false, List, [], ◌∷◌, ◌++◌, length, sym, ap, ◌∙◌, arith}
use Rattle.std.proofs.lemmas.Bool.{false≢true}
use Rattle.std.proofs.lemmas.List.{length-append}
use Rattle.log_text.proofs.Spacing.{joined as spaced_behind}
use Rattle.log_text.specs.Spaced.{spaced}
use Rattle.explore_words.specs.Joining.{Joins}
use Rattle.explore_words.specs.Rows.{joined}

pub unjoined : (r : Bool) (bytes new : List ℕ) → r ≡ false → Joins [] bytes r new → 320 < length bytes
unjoined true bytes new h joins = absurd (false≢true (sym h))
unjoined false bytes new h joins = omega (arith, joins)

pushed : (r : Bool) (old bytes new : List ℕ) → r ≡ true → Joins old bytes r new → new ≡ old ++ bytes
pushed true old bytes new h joins = joins
pushed false old bytes new h joins = absurd (false≢true h)

others : (first : List ℕ) (rest : List (List ℕ)) (mid new : List ℕ) (r : Bool) → mid ≡ first → Joins mid (spaced rest) r new
    → Joins [] (joined (first ∷ rest)) r new
others first rest mid new true same joins = joins ∙ (ap (λ (xs : List ℕ). xs ++ spaced rest) same ∙ sym (spaced_behind first rest))
others first rest mid new false same joins =
    let all : length (joined (first ∷ rest)) ≡ length first + length (spaced rest) =
    ap length (spaced_behind first rest) ∙ length-append first (spaced rest) in
    let mids : length mid ≡ length first = ap length same in
    omega (arith, joins, all, mids)

pub joins_all : (first : List ℕ) (rest : List (List ℕ)) (old mid new : List ℕ) (s r : Bool) → old ≡ [] → s ≡ true → Joins old first s mid
    → Joins mid (spaced rest) r new → Joins [] (joined (first ∷ rest)) r new
joins_all first rest old mid new s r none fitted one more =
    others first rest mid new r (pushed s old first mid fitted one ∙ ap (λ (xs : List ℕ). xs ++ first) none) more
