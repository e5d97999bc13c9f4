-- The bytes of picks.
use Rattle.std.proofs.Common.{rules, get_or, length, zero, suc, ◌≡◌, ℕ, ◌<◌, ◌≤◌, ◌^◌, Bool, true, false, not, ◌&&◌, ◌||◌, cond, eqb, leb, ltb}
use Rattle.std.proofs.Common.{Some, None, List, [], ◌∷◌, decimal, refl, ap, ◌∙◌, arith}
use Rattle.std.specs.List.{list_all, flat_map}
use Rattle.std.proofs.lemmas.Bool.{and_from, and_parts, le-leb, lt-ltb, ne_eqb}
use Rattle.std.proofs.lemmas.Bool.Decides.{nat_tests}
use Rattle.std.proofs.lemmas.Fmt.{decimal_digit, decimal_nonempty, digits_decimal, digits_value-decimal, first_decimal, length-decimal-le}
use Rattle.std.proofs.lemmas.Str.Parse.{IsNumeralModel, numerals_by_fold}
use Rattle.std.proofs.lemmas.List.Elements.{All-head, All-tail}
use Rattle.std.proofs.lemmas.List.Folds.{list_all-append}
use Rattle.std.specs.Prelude.{All}
use Rattle.board_def.specs.Names.{is_digit}
use Rattle.board_words.specs.Spelling.{begins_with_zero, is_decimal, is_star, number_between, value_after, value_of}
use Rattle.board_words.specs.TextLines.{is_allowed, is_blank, is_hash}
use Rattle.irq_base.specs.declared.entries.Actor.{Actor}
use Rattle.irq_base.specs.declared.entries.Actor.TheVariants as actors
use Rattle.log_text.specs.Formed.{IsSmall}
use Rattle.explore_picks.specs.Rows.{pick_text}
use Rattle.explore_picks.specs.Stated.{IsNameable}

leb-true : (a b : ℕ) → leb a b ≡ true → a ≤ b
leb-true a b h = grind (arith, nat_tests)

-- ---- numbers

abbrev AreDigits : List ℕ → Type 0
AreDigits word = list_all is_digit word ≡ true

own : IsNumeralModel AreDigits value_of
own = numerals_by_fold AreDigits (search rules) value_after (search rules)

no_zero : (n : ℕ) → IsSmall n → not (begins_with_zero (decimal n) && ltb 1 (length (decimal n))) ≡ true
no_zero zero small = rw (decimal_digit 0 (omega arith)) refl
no_zero (suc n) small = by (decimal (suc n)) (first_decimal (suc n) (omega arith) (omega (arith, small)))
  where
    apart : (b : ℕ) → 48 < b → eqb b 48 ≡ false
    apart b h = grind (arith, nat_tests)

    by : (word : List ℕ) → 48 < get_or word 0 0 → not (begins_with_zero word && ltb 1 (length word)) ≡ true
    by [] h = refl
    by (b ∷ bs) h = ap (λ t. not (t && ltb 1 (length (b ∷ bs)))) (apart b h)

-- a number of 32 bits is read as it is written
record IsWritten (n : ℕ) : Type 0 where
  digits : list_all is_digit (decimal n) ≡ true
  decimal_is : is_decimal (decimal n) ≡ true
  value_is : value_of (decimal n) ≡ n

written : (n : ℕ) → IsSmall n → IsWritten n
written n small =
    let low : n < 2 ^ 64 = omega (arith, small) in
    let some = decimal_nonempty n low in
    let few = length-decimal-le 10 n (omega arith) (omega (arith, small)) low in
    let all = digits_decimal own n low in
    record {
      digits = all;
      decimal_is = and_from _ _ (and_from (list_all is_digit (decimal n)) _ all
          (and_from (leb 1 (length (decimal n))) (leb (length (decimal n)) 10) (le-leb 1 _ (omega (arith, some))) (le-leb _ 10 few)))
          (no_zero n small);
      value_is = digits_value-decimal own n low;
    }

pub number_is : (low high n : ℕ) → IsSmall n → low ≤ n → n ≤ high → number_between low high (decimal n) ≡ Some n
number_is low high n small above below =
    let w = written n small in
    let within : (leb low n && leb n high) ≡ true = and_from (leb low n) (leb n high) (le-leb low n above) (le-leb n high below) in
    ap (λ v. cond (is_decimal (decimal n) && (leb low v && leb v high)) (Some v) None) w.value_is
    ∙ ap (λ t. cond t (Some n) None) (and_from (is_decimal (decimal n)) (leb low n && leb n high) w.decimal_is within)

-- ---- bytes

-- a letter or a digit
abbrev pub is_plain : ℕ → Bool
is_plain b = leb 48 b && leb b 126

module _ (b : ℕ) (plain : is_plain b ≡ true) where
  low : 48 ≤ b
  low = leb-true 48 b (and_parts (leb 48 b) (leb b 126) plain).0

  other : (n : ℕ) → n < 48 → eqb b n ≡ false
  other n less = ne_eqb b n (λ same. let above = low in omega (arith, less, same, above))

  pub not_blank : is_blank b ≡ false
  not_blank =
      ap (λ t. t || (eqb b 9 || eqb b 13)) (other 32 (omega arith)) ∙ (ap (λ t. t || eqb b 13) (other 9 (omega arith)) ∙ other 13 (omega arith))

  pub not_hash : is_hash b ≡ false
  not_hash = other 35 (omega arith)

  pub not_star : is_star b ≡ false
  not_star = other 42 (omega arith)

  pub above_feed : ltb 10 b ≡ true
  above_feed = let above = low in lt-ltb 10 b (omega (arith, above))

  pub allowed : is_allowed b ≡ true
  allowed =
      let above = low in
      let printable : (leb 32 b && leb b 126) ≡ true =
      and_from (leb 32 b) (leb b 126) (le-leb 32 b (omega (arith, above))) (and_parts (leb 48 b) (leb b 126) plain).1 in
      ap (λ t. t || (eqb b 13 || (leb 32 b && leb b 126))) (other 9 (omega arith))
      ∙ (ap (λ t. t || (leb 32 b && leb b 126)) (other 13 (omega arith)) ∙ printable)

digit_plain : (b : ℕ) → is_digit b ≡ true → is_plain b ≡ true
digit_plain b digit =
    let parts = and_parts (leb 48 b) (leb b 57) digit in
    let few = leb-true b 57 parts.1 in
    and_from (leb 48 b) (leb b 126) parts.0 (le-leb b 126 (omega (arith, few)))

-- what passes one test passes the other
pub all_pass : (p q : ℕ → Bool) → ((b : ℕ) → p b ≡ true → q b ≡ true) → (bs : List ℕ) → list_all p bs ≡ true → list_all q bs ≡ true
all_pass p q each [] h = refl
all_pass p q each (b ∷ bs) h =
    let both = and_parts (p b) (list_all p bs) h in
    and_from (q b) (list_all q bs) (each b both.0) (all_pass p q each bs both.1)

pub digits_plain : (n : ℕ) → IsSmall n → list_all is_plain (decimal n) ≡ true
digits_plain n small =
    all_pass is_digit is_plain digit_plain (decimal n) (written n small).digits

-- ---- a pick's word

abbrev pub letter : Actor → ℕ
letter (actors.Thread dev) = 116
letter (actors.Cpu cpu) = 99
letter (actors.Driver driver) = 100

abbrev pub number : Actor → ℕ
number (actors.Thread dev) = dev.0
number (actors.Cpu cpu) = cpu.0
number (actors.Driver driver) = driver.0

abbrev pub word : Actor → List ℕ
word a = letter a ∷ decimal (number a)

pub small_number : (a : Actor) → IsNameable a → IsSmall (number a)
small_number (actors.Thread dev) (low, high) = omega (arith, high)
small_number (actors.Cpu cpu) high = omega (arith, high)
small_number (actors.Driver driver) (low, high) = omega (arith, high)

pub text_is : (a : Actor) → pick_text a ≡ 32 ∷ word a
text_is (actors.Thread dev) = refl
text_is (actors.Cpu cpu) = refl
text_is (actors.Driver driver) = refl

letter_plain : (a : Actor) → is_plain (letter a) ≡ true
letter_plain (actors.Thread dev) = refl
letter_plain (actors.Cpu cpu) = refl
letter_plain (actors.Driver driver) = refl

pub word_plain : (a : Actor) → IsNameable a → list_all is_plain (word a) ≡ true
word_plain a named = and_from (is_plain (letter a)) (list_all is_plain (decimal (number a))) (letter_plain a) (digits_plain (number a) (small_number a named))

-- a test that a blank passes, and each letter and digit
pub picks_pass : (p : ℕ → Bool) → p 32 ≡ true → ((b : ℕ) → is_plain b ≡ true → p b ≡ true) → (ps : List Actor) → All IsNameable ps
    → list_all p (flat_map pick_text ps) ≡ true
picks_pass p blank plain [] named = refl
picks_pass p blank plain (a ∷ ps) named =
    let own = all_pass is_plain p plain (word a) (word_plain a (All-head IsNameable a ps named)) in
    let text : list_all p (pick_text a) ≡ true = ap (list_all p) (text_is a) ∙ and_from (p 32) (list_all p (word a)) blank own in
    list_all-append p (pick_text a) (flat_map pick_text ps)
    ∙ and_from (list_all p (pick_text a)) (list_all p (flat_map pick_text ps)) text (picks_pass p blank plain ps (All-tail IsNameable a ps named))
