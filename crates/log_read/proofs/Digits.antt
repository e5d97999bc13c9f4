-- The words that spell numbers of 32 bits are exactly the words written for them.
use Rattle.std.proofs.Common.{rules, ◌≡◌, ℕ, zero, suc, ◌<◌, ◌≤◌, ◌^◌, Bool, true, false, not, ◌&&◌}
use Rattle.std.proofs.Common.{cond, eqb, leb, ltb, List, [], ◌∷◌, length, get_or, decimal, Option, Some, None, refl}
use Rattle.std.proofs.Common.{sym, ap, ◌∙◌, arith}
use Rattle.std.specs.List.{list_all}
use Rattle.std.proofs.lemmas.Bool.{and_from, and_parts, false≢true, le-leb}
use Rattle.std.proofs.lemmas.Bool.Decides.{nat_tests}
use Rattle.std.proofs.lemmas.Fmt.{decimal-digits_value, decimal_digit, digits_decimal, digits_value-decimal}
use Rattle.std.proofs.lemmas.Fmt.{decimal_nonempty, length-decimal-le, first_decimal, decimal_injective}
use Rattle.std.proofs.lemmas.Str.Parse.{IsNumeralModel, numerals_by_fold}
use Rattle.board_def.specs.Names.{is_digit}
use Rattle.board_words.specs.Spelling.{value_of, value_after, begins_with_zero, is_decimal, number_between}
use Rattle.log_text.specs.Formed.{IsSmall}
use Rattle.irq_base.specs.declared.numbers.CpuNo.{CpuNo}
use Rattle.irq_base.specs.declared.numbers.DevNo.{DevNo}
use Rattle.irq_base.specs.declared.numbers.DriverNo.{DriverNo}
use Rattle.log_read.specs.Takes.{Reads}
use Rattle.log_text.specs.EntryWords.{actor_word}
use Rattle.log_read.specs.Who.{HasSmallActor}
use Rattle.irq_base.specs.declared.entries.Actor.{Actor}
use Rattle.irq_base.specs.declared.entries.Actor.TheVariants as actors

abbrev AreDigits : List ℕ → Type 0
AreDigits word = list_all is_digit word ≡ true

own : IsNumeralModel AreDigits value_of
own = numerals_by_fold AreDigits (search rules) value_after (search rules)

leb-true : (a b : ℕ) → leb a b ≡ true → a ≤ b
leb-true a b h = grind (arith, nat_tests)

one_zero : (word : List ℕ) → not (begins_with_zero word && ltb 1 (length word)) ≡ true → 1 ≤ length word → get_or word 0 0 ≡ 48 → length word ≡ 1
one_zero [] h some first = omega (arith, some)
one_zero (b ∷ bs) h some first = by (eqb b 48) (ltb 1 (length (b ∷ bs))) same h refl
  where
    same : eqb b 48 ≡ true
    same = grind (arith, nat_tests)

    by : (s t : Bool) → s ≡ true → not (s && t) ≡ true → ltb 1 (length (b ∷ bs)) ≡ t → length (b ∷ bs) ≡ 1
    by true false i j k = grind (arith, nat_tests)
    by true true i j k = absurd (false≢true j)
    by false t i j k = absurd (false≢true i)

record IsSpelled (word : List ℕ) : Type 0 where
  digits : AreDigits word
  some : 1 ≤ length word
  few : length word ≤ 10
  first : get_or word 0 0 ≡ 48 → length word ≡ 1

spelled : (word : List ℕ) → is_decimal word ≡ true → IsSpelled word
spelled word h =
    let both = and_parts _ _ h in
    let parts = and_parts (list_all is_digit word) _ both.0 in
    let lengths = and_parts (leb 1 (length word)) (leb (length word) 10) parts.1 in
    let some = leb-true 1 (length word) lengths.0 in
    record { digits = parts.0; some = some; few = leb-true (length word) 10 lengths.1; first = one_zero word both.1 some }

-- what is written of a number is spelled as one

no_zero : (x : ℕ) → IsSmall x → not (begins_with_zero (decimal x) && ltb 1 (length (decimal x))) ≡ true
no_zero zero small = rw (decimal_digit 0 (omega arith)) refl
no_zero (suc n) small = by (decimal (suc n)) (first_decimal (suc n) (omega arith) (omega (arith, small)))
  where
    apart : (b : ℕ) → 48 < b → eqb b 48 ≡ false
    apart b h = grind (arith, nat_tests)

    by : (word : List ℕ) → 48 < get_or word 0 0 → not (begins_with_zero word && ltb 1 (length word)) ≡ true
    by [] h = refl
    by (b ∷ bs) h = ap (λ t. not (t && ltb 1 (length (b ∷ bs)))) (apart b h)

decimal_is : (x : ℕ) → IsSmall x → is_decimal (decimal x) ≡ true
decimal_is x small =
    let low : x < 2 ^ 64 = omega (arith, small) in
    let some = decimal_nonempty x low in
    let few = length-decimal-le 10 x (omega arith) (omega (arith, small)) low in
    and_from _ _ (and_from (list_all is_digit (decimal x)) _ (digits_decimal own x low)
    (and_from (leb 1 (length (decimal x))) (leb (length (decimal x)) 10) (le-leb 1 _ (omega (arith, some))) (le-leb _ 10 few)))
    (no_zero x small)

abbrev most : ℕ
most = 4294967295

chosen : (t : Bool) (v n : ℕ) → Some n ≡ cond t (Some v) None → (t ≡ true) × (n ≡ v)
chosen true v n h = (refl, cc)
chosen false v n h = cc

left_out : (t : Bool) (v : ℕ) → None ≡ cond t (Some v) None → t ≡ false
left_out true v h = cc
left_out false v h = refl

within : ℕ → Bool
within v = leb 0 v && leb v most

is_within : (v : ℕ) → IsSmall v → (leb 0 v && leb v most) ≡ true
is_within v small = and_from (leb 0 v) (leb v most) (le-leb 0 v (omega arith)) (le-leb v most (omega (arith, small)))

pub number_read : (word : List ℕ) (r : Option ℕ) → r ≡ number_between 0 most word → Reads IsSmall decimal word r
number_read word (Some n) h =
    let at = chosen _ (value_of word) n h in
    let both = and_parts (is_decimal word) _ at.0 in
    let s = spelled word both.0 in
    let high = leb-true (value_of word) most (and_parts (leb 0 (value_of word)) (leb (value_of word) most) both.1).1 in
    let back = decimal-digits_value own word s.digits (omega (arith, s.some)) s.first (omega (arith, high)) in
    (omega (arith, high, at.1), sym back ∙ ap decimal (sym at.1))
number_read word None h = λ x small is.
    let low : x < 2 ^ 64 = omega (arith, small) in
    let value : value_of word ≡ x = ap value_of is ∙ digits_value-decimal own x low in
    let spelled : is_decimal word ≡ true = ap is_decimal is ∙ decimal_is x small in
    let fits : (leb 0 (value_of word) && leb (value_of word) most) ≡ true = ap (λ v. leb 0 v && leb v most) value ∙ is_within x small in
    false≢true (sym (left_out _ (value_of word) h) ∙ and_from (is_decimal word) _ spelled fits)

-- different numbers are written differently
pub number_tells : (a b : ℕ) → IsSmall a → IsSmall b → decimal a ≡ decimal b → a ≡ b
number_tells a b small low same = decimal_injective a b (omega (arith, small)) (omega (arith, low)) same

abbrev rest : List ℕ → List ℕ
rest [] = []
rest (b ∷ bs) = bs

same_digits : (letter a b : ℕ) → IsSmall a → IsSmall b → letter ∷ decimal a ≡ letter ∷ decimal b → a ≡ b
same_digits letter a b small low same = number_tells a b small low (ap rest same)

apart : (m n : ℕ) (bs cs : List ℕ) → (m ≡ n → ⊥) → m ∷ bs ≡ n ∷ cs → ⊥
apart m n bs cs differ same = differ (ap (λ ds. get_or ds 0 0) same)

abbrev dev_no : ℕ → DevNo
dev_no n = record { 0 = n }

abbrev cpu_no : ℕ → CpuNo
cpu_no n = record { 0 = n }

abbrev driver_no : ℕ → DriverNo
driver_no n = record { 0 = n }

-- and so are those who make entries
pub actor_tells : (a b : Actor) → HasSmallActor a → HasSmallActor b → actor_word a ≡ actor_word b → a ≡ b
actor_tells (actors.Thread d) (actors.Thread e) small low same = ap (λ n. actors.Thread (dev_no n)) (same_digits 116 d.0 e.0 small low same)
actor_tells (actors.Cpu d) (actors.Cpu e) small low same = ap (λ n. actors.Cpu (cpu_no n)) (same_digits 99 d.0 e.0 small low same)
actor_tells (actors.Driver d) (actors.Driver e) small low same = ap (λ n. actors.Driver (driver_no n)) (same_digits 100 d.0 e.0 small low same)
actor_tells (actors.Thread d) (actors.Cpu e) small low same = absurd (apart 116 99 _ _ (λ i. omega (arith, i)) same)
actor_tells (actors.Thread d) (actors.Driver e) small low same = absurd (apart 116 100 _ _ (λ i. omega (arith, i)) same)
actor_tells (actors.Cpu d) (actors.Thread e) small low same = absurd (apart 99 116 _ _ (λ i. omega (arith, i)) same)
actor_tells (actors.Cpu d) (actors.Driver e) small low same = absurd (apart 99 100 _ _ (λ i. omega (arith, i)) same)
actor_tells (actors.Driver d) (actors.Thread e) small low same = absurd (apart 100 116 _ _ (λ i. omega (arith, i)) same)
actor_tells (actors.Driver d) (actors.Cpu e) small low same = absurd (apart 100 99 _ _ (λ i. omega (arith, i)) same)
