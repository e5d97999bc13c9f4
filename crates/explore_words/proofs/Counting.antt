-- Words that spell numbers.
use Rattle.std.proofs.Common.{◌≡◌, ℕ, List, decimal, None, sym, subst, ◌∙◌, arith}
use Rattle.std.proofs.lemmas.Fmt.{decimal_injective}
use Rattle.log_read.specs.Takes.{Reads}
use Rattle.log_text.specs.Formed.{IsSmall}
use Rattle.explore_words.specs.Words.{IsCount}

-- the word spells a number that isn't in the range
pub out_of_range : (word : List ℕ) (n : ℕ) → IsSmall n → word ≡ decimal n → (IsCount n → ⊥) → Reads IsCount decimal word None
out_of_range word n fits is out = λ m h same.
    out (subst IsCount (decimal_injective m n (omega (arith, h.1)) (omega (arith, fits)) (sym same ∙ is)) h)

-- different numbers are written differently
pub same_number : (m n : ℕ) → IsSmall m → IsSmall n → decimal m ≡ decimal n → m ≡ n
same_number m n a b same = decimal_injective m n (omega (arith, a)) (omega (arith, b)) same
