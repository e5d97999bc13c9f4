-- Words that spell numbers in a range.
use Rattle.std.proofs.Common.{◌≡◌, ℕ, ◌<◌, ◌^◌, List, decimal, None, sym, subst, ◌∙◌, arith}
use Rattle.std.proofs.lemmas.Fmt.{decimal_injective}
use Rattle.log_text.specs.Formed.{IsSmall}
use Rattle.log_read.specs.Takes.{Reads}
use Rattle.irq_words.specs.Numbers.{IsBetween}

-- the word spells a number that isn't in the range
pub out_of_range : (low high : ℕ) → high < 2 ^ 32 → (word : List ℕ) (n : ℕ) → IsSmall n → word ≡ decimal n
    → (IsBetween low high n → ⊥) → Reads (IsBetween low high) decimal word None
out_of_range low high small word n fits is out = λ m h same.
    out (subst (IsBetween low high) (decimal_injective m n (omega (arith, h.1, small)) (omega (arith, fits)) (sym same ∙ is)) h)
