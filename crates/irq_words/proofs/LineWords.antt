-- Words that are lines, read from the front.
use Rattle.std.proofs.Common.{◌≡◌, ℕ, ◌≤◌, List, [], ◌∷◌, ◌++◌, decimal, Option, Some, None, sym, subst, ◌∙◌, arith}
use Rattle.std.proofs.lemmas.Fmt.{decimal_injective}
use Rattle.log_read.specs.Takes.{Reads}
use Rattle.irq_base.specs.declared.numbers.LineNo.{LineNo}
use Rattle.irq_words.specs.Lines.{IsAfter, RiseAfter, line_word}
use Rattle.irq_words.specs.Reading.{ReadsAfter, Spells}
use Rattle.irq_words.proofs.Items.{not_first, with_first}

-- the word is a line's number that isn't above `last`
pub not_after : (last number : ℕ) (word : List ℕ) → number ≤ 65535 → word ≡ decimal number → number ≤ last
    → Reads (IsAfter last) line_word word None
not_after last number word most is low = λ line h same.
    omega (arith, h.0, low, decimal_injective line.0 number (omega (arith, h.1)) (omega (arith, most)) (sym same ∙ is))

module _ (last : ℕ) where
  rise_same : (x y : LineNo) (xs : List LineNo) → IsAfter last x → IsAfter last y → line_word x ≡ line_word y → RiseAfter x.0 xs → RiseAfter y.0 xs
  rise_same x y xs a b s r =
      subst (λ n. RiseAfter n xs) (decimal_injective x.0 y.0 (omega (arith, a.1)) (omega (arith, b.1)) s) r

  pub not_line : (word : List ℕ) (words : List (List ℕ)) → Reads (IsAfter last) line_word word None
      → (items : List LineNo) → Spells (RiseAfter last) line_word (word ∷ words) items → ⊥
  not_line = not_first (IsAfter last) (λ line. RiseAfter line.0) (RiseAfter last) line_word (λ x xs h. h) (λ x xs a b. (a, b)) rise_same

  pub with_line : (word : List ℕ) (words : List (List ℕ)) (line : LineNo) → Reads (IsAfter last) line_word word (Some line)
      → (before : List LineNo) (r : Option (List LineNo)) → ReadsAfter (RiseAfter line.0) line_word (before ++ line ∷ []) words r
      → ReadsAfter (RiseAfter last) line_word before (word ∷ words) r
  with_line = with_first (IsAfter last) (λ line. RiseAfter line.0) (RiseAfter last) line_word (λ x xs h. h) (λ x xs a b. (a, b)) rise_same
