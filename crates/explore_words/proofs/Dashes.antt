-- A row begins with a digit, and so not as an option does.
use Rattle.std.proofs.Common.{◌≡◌, ℕ, ◌+◌, ◌<◌, ◌^◌, ◌%◌, Bool, true, ltb, List, [], ◌∷◌, ◌++◌, length, codes, decimal, refl, sym, ap, ◌∙◌, arith}
use Rattle.std.specs.List.{list_all}
use Rattle.std.proofs.lemmas.Bool.{and_from, and_parts, false≢true, lt-ltb}
use Rattle.std.proofs.lemmas.Fmt.{decimal_by_steps, decimal_nonempty}
use Rattle.std.proofs.lemmas.List.Folds.{list_all-append}
use Rattle.irq_base.specs.declared.numbers.LineNo.{LineNo}
use Rattle.line_wanted.specs.declared.wanted.Wanted.{Wanted}
use Rattle.line_wanted.specs.declared.wanted.Wanted.TheVariants as wants
use Rattle.log_text.proofs.Spacing.{joined as spaced_behind}
use Rattle.log_text.specs.EntryWords.{entry_words}
use Rattle.log_text.specs.Formed.{IsSmall}
use Rattle.log_text.specs.Spaced.{spaced}
use Rattle.explore_words.specs.Rows.{Spells, joined, left_words, wanted_words}

-- each byte is above that of a dash
abbrev are_above : List ℕ → Bool
are_above bytes = list_all (λ b. ltb 45 b) bytes

digits_more : (n : ℕ) (ds : List ℕ) → are_above ds ≡ true → are_above (ds ++ (48 + n % 10) ∷ []) ≡ true
digits_more n ds h =
    list_all-append (λ b. ltb 45 b) ds ((48 + n % 10) ∷ [])
    ∙ and_from (are_above ds) (are_above ((48 + n % 10) ∷ [])) h (and_from (ltb 45 (48 + n % 10)) true (lt-ltb 45 (48 + n % 10) (omega arith)) refl)

digits_above : (n : ℕ) → IsSmall n → are_above (decimal n) ≡ true
digits_above n small =
    decimal_by_steps (λ m ds. are_above ds ≡ true)
    (λ m low. and_from (ltb 45 (48 + m)) true (lt-ltb 45 (48 + m) (omega arith)) refl)
    (λ m ds low h. digits_more m ds h) n (omega (arith, small))

-- the words behind the line's number
abbrev behind : Wanted → List (List ℕ)
behind (wants.Row e) = entry_words e
behind (wants.Rest left) = codes "rest" ∷ left_words left

begins : (line : LineNo) (wanted : Wanted) → joined (wanted_words line wanted) ≡ decimal line.0 ++ spaced (behind wanted)
begins line (wants.Row e) = spaced_behind (decimal line.0) (entry_words e)
begins line (wants.Rest left) = spaced_behind (decimal line.0) (codes "rest" ∷ left_words left)

-- the bytes begin with one above
abbrev pub BeginsSo : List ℕ → Type 0
BeginsSo bytes = (b : ℕ) × (bs : List ℕ) × (bytes ≡ b ∷ bs) × (ltb 45 b ≡ true)

first_of : (ds bs : List ℕ) → 0 < length ds → are_above ds ≡ true → BeginsSo (ds ++ bs)
first_of [] bs some above = absurd (omega (arith, some))
first_of (d ∷ ds) bs some above = (d, ds ++ bs, refl, (and_parts (ltb 45 d) (are_above ds) above).0)

pub begins_so : (bytes : List ℕ) (line : LineNo) (wanted : Wanted) → Spells bytes line wanted → BeginsSo bytes
begins_so bytes line wanted is =
    let small = is.number in
    let low : line.0 < 2 ^ 64 = omega (arith, small) in
    let first = first_of (decimal line.0) (spaced (behind wanted)) (decimal_nonempty line.0 low) (digits_above line.0 small) in
    (first.0, first.1, (is.text ∙ begins line wanted) ∙ first.2, first.3)

pub no_dash : (bytes bs : List ℕ) (line : LineNo) (wanted : Wanted) → bytes ≡ 45 ∷ bs → Spells bytes line wanted → ⊥
no_dash bytes bs line wanted dash is =
    let so = begins_so bytes line wanted is in
    let same : 45 ∷ bs ≡ so.0 ∷ so.1 = sym dash ∙ so.2 in
    let first : 45 ≡ so.0 = cc in
    false≢true (ap (λ b. ltb 45 b) first ∙ so.3)

-- some bytes are there
pub no_bytes : (line : LineNo) (wanted : Wanted) → Spells [] line wanted → ⊥
no_bytes line wanted is = let so = begins_so [] line wanted is in by so.0 so.1 so.2
  where
    by : (b : ℕ) (bs : List ℕ) → [] ≡ b ∷ bs → ⊥
    by b bs same = cc

-- words whose first begins with a dash are no row
pub dashed : (first bs : List ℕ) (rest : List (List ℕ)) (line : LineNo) (wanted : Wanted) → first ≡ 45 ∷ bs
    → Spells (joined (first ∷ rest)) line wanted → ⊥
dashed first bs rest line wanted dash =
    no_dash (joined (first ∷ rest)) (bs ++ spaced rest) line wanted
    (spaced_behind first rest ∙ ap (λ (xs : List ℕ). xs ++ spaced rest) dash)
