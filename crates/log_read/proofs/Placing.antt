-- A line is found by its number.
use Rattle.std.proofs.Common.{◌≡◌, ℕ, zero, suc, ◌+◌, ◌<◌, Bool, true, false, not, ◌||◌, cond, eqb, ltb, get_or, Option}
use Rattle.std.proofs.Common.{Some, None, List, [], ◌∷◌, length, refl, sym, ap, ◌∙◌, arith}
use Rattle.std.specs.List.{slice_get, position_or_len}
use Rattle.std.specs.Prelude.{MatchOption}
use Rattle.std.proofs.lemmas.Bool.{eqb-true}
use Rattle.std.proofs.lemmas.Bool.Decides.{nat_tests}
use Rattle.std.proofs.lemmas.List.Quantifiers.{position-Some}
use Rattle.board_def.specs.Find.{place_of_line}
use Rattle.board_def.specs.Rules.{has_line}
use Rattle.board_def.specs.declared.rows.LineRow.{LineRow}
use Rattle.irq_base.specs.declared.numbers.LineNo.{LineNo}
use Rattle.log_read.specs.Adding.{IsPlaceOf}

abbrev is_line : LineNo → LineRow → Bool
is_line line row = eqb line.0 row.line.0

abbrev line_no : ℕ → LineNo
line_no n = record { 0 = n }

turned : (m n : ℕ) → eqb m n ≡ false → eqb n m ≡ false
turned m n h = grind (arith, nat_tests)

none_of : (lines : List LineRow) (line : LineNo) → ltb (position_or_len (is_line line) lines) (length lines) ≡ false → has_line lines line ≡ false
none_of [] line none = refl
none_of (x ∷ xs) line none = by (eqb line.0 x.line.0) refl none (none_of xs line)
  where
    by : (b : Bool) → eqb line.0 x.line.0 ≡ b → ltb (cond (not b) (1 + position_or_len (is_line line) xs) 0) (suc (length xs)) ≡ false
        → (ltb (position_or_len (is_line line) xs) (length xs) ≡ false → has_line xs line ≡ false) → has_line (x ∷ xs) line ≡ false
    by true is past rest = let no : ltb 0 (suc (length xs)) ≡ false = past in absurd (grind (arith, nat_tests))
    by false is past rest =
        let beyond : ltb (1 + position_or_len (is_line line) xs) (suc (length xs)) ≡ false = past in
        let fewer : ltb (position_or_len (is_line line) xs) (length xs) ≡ false = grind (arith, nat_tests) in
        ap (λ t. t || has_line xs line) (turned line.0 x.line.0 is) ∙ rest fewer

there : (xs : List LineRow) (i : ℕ) (d : LineRow) → i < length xs → slice_get xs i ≡ Some (get_or xs i d)
there [] i d within = absurd (omega (arith, within))
there (x ∷ xs) zero d within = refl
there (x ∷ xs) (suc i) d within = there xs i d (omega (arith, within))

left_out : (t : Bool) (n : ℕ) → None ≡ cond t (Some n) None → t ≡ false
left_out true n h = cc
left_out false n h = refl

at_place : (lines : List LineRow) (line : LineNo) (place : ℕ) → Some place ≡ place_of_line lines line → IsPlaceOf lines line place
at_place [] line place found = cc
at_place (x ∷ xs) line place found =
    let facts = position-Some (is_line line) (x ∷ xs) place x (sym found) in
    let row = get_or (x ∷ xs) place x in
    (row, there (x ∷ xs) place x facts.0, ap line_no (sym (eqb-true line.0 row.line.0 facts.1)))

pub placed : (lines : List LineRow) (line : LineNo) (place : Option ℕ) → place ≡ place_of_line lines line
    → MatchOption place (has_line lines line ≡ false) (λ at. IsPlaceOf lines line at)
placed lines line (Some place) found = at_place lines line place found
placed lines line None none = none_of lines line (left_out _ (position_or_len (is_line line) lines) none)
