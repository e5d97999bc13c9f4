-- An input is cut row by row.
use Rattle.std.proofs.Common.{◌≡◌, ℕ, ◌+◌, ◌≤◌, Bool, true, false, cond, ◌&&◌, ◌||◌, nat_eq, Option, Some, None}
use Rattle.std.proofs.Common.{List, [], ◌∷◌, ◌++◌, codes, length, take, drop, refl, sym, ap, ◌∙◌, append_assoc}
use Rattle.std.proofs.Common.{arith, length-append}
use Rattle.std.specs.List.{concat}
use Rattle.std.specs.Str.{bytes_eq}
use Rattle.std.proofs.Math.Seq.{take-add, take-append_seam, drop-append_seam}
use Rattle.std.proofs.lemmas.List.{append-nil, length-drop, drop-drop}
use Rattle.std.proofs.lemmas.Slice.Eq.{bytes_eq-Decides}
use Rattle.log_read.proofs.RowCutting.{first_joined, joined}
use Rattle.log_read.specs.LogOf.{is_whole, rows_of}
use Rattle.irq_check.specs.Parts.{is_dashes, onto_board, parts_of, split_at_dashes}

-- a row more before the parts

pub onto_twice : (p q : List ℕ) (parts : Option (List ℕ × List ℕ)) → onto_board p (onto_board q parts) ≡ onto_board (p ++ q) parts
onto_twice p q None = refl
onto_twice p q (Some (board, log)) = ap (λ (x : List ℕ). Some (x, log)) (sym (append_assoc p q board))

pub onto_nothing : (parts : Option (List ℕ × List ℕ)) → parts ≡ onto_board [] parts
onto_nothing None = refl
onto_nothing (Some (board, log)) = refl

abbrev Parts : Type 0
Parts = Option (List ℕ × List ℕ)

-- what follows the first bytes is still to be cut
pub record IsCutTo (input rest : List ℕ) (before : ℕ) : Type 0 where
  pub left : rest ≡ drop before input
  pub within : before ≤ length input
  pub parts : parts_of input ≡ onto_board (take before input) (split_at_dashes (rows_of rest))

pub begins : (input : List ℕ) → IsCutTo input input 0
begins input = record { left = refl; within = omega arith; parts = onto_nothing (parts_of input) }

module _ (input rest : List ℕ) (before : ℕ) (cut : IsCutTo input rest before) where
  -- the last row has no line feed
  pub last_is_dashes : rows_of rest ≡ rest ∷ [] → is_dashes rest ≡ true → parts_of input ≡ Some (take before input, [])
  last_is_dashes alone holds =
      cut.parts ∙ (ap (λ (rows : List (List ℕ)). onto_board (take before input) (split_at_dashes rows)) alone
      ∙ (ap (λ t. onto_board (take before input) (cond t (Some ([], [])) (onto_board rest None))) holds
      ∙ ap (λ (x : List ℕ). Some (x, [])) (append-nil (take before input))))

  pub last_is_none : rows_of rest ≡ rest ∷ [] → is_dashes rest ≡ false → parts_of input ≡ None
  last_is_none alone fails =
      cut.parts ∙ (ap (λ (rows : List (List ℕ)). onto_board (take before input) (split_at_dashes rows)) alone
      ∙ ap (λ t. onto_board (take before input) (cond t (Some ([], [])) (onto_board rest None))) fails)

  module _ (row after : List ℕ) (is : rows_of rest ≡ row ∷ rows_of after) where
    of_row : (t : Bool) → is_dashes row ≡ t → parts_of input
        ≡ onto_board (take before input) (cond t (Some ([], concat (rows_of after)))
        (onto_board row (split_at_dashes (rows_of after))))
    of_row t e =
        cut.parts ∙ (ap (λ (rows : List (List ℕ)). onto_board (take before input) (split_at_dashes rows)) is
        ∙ ap (λ s. onto_board (take before input) (cond s (Some ([], concat (rows_of after))) (onto_board row (split_at_dashes (rows_of after))))) e)

    pub row_is_dashes : is_dashes row ≡ true → parts_of input ≡ Some (take before input, after)
    row_is_dashes holds =
        of_row true holds ∙ (ap (λ (x : List ℕ). Some (x, concat (rows_of after))) (append-nil (take before input))
        ∙ ap (λ (x : List ℕ). Some (take before input, x)) (joined after))

    text : drop before input ≡ row ++ after
    text = sym cut.left ∙ first_joined rest row after is

    front : take before input ++ row ≡ take (before + length row) input
    front = sym (take-add before (length row) input ∙ ap (λ (x : List ℕ). take before input ++ x) (ap (take (length row)) text ∙ take-append_seam row after))

    back : after ≡ drop (before + length row) input
    back = sym (sym (drop-drop (length row) before input) ∙ (ap (drop (length row)) text ∙ drop-append_seam row after))

    room : before + length row ≤ length input
    room = omega (arith, ap length text, length-append row after, length-drop before input, cut.within)

    -- the row isn't the one
    pub row_cut : is_dashes row ≡ false → IsCutTo input after (before + length row)
    row_cut fails = record {
      left = back;
      within = room;
      parts =
          of_row false fails ∙ (onto_twice (take before input) row (split_at_dashes (rows_of after))
          ∙ ap (λ (x : List ℕ). onto_board x (split_at_dashes (rows_of after))) front);
    }

-- A row with its line feed is `---` if it is so without. A row is compared byte by byte.

unended : (p q r s : Bool) → ((p && (q && (r && (s && false)))) || (p && (q && (r && false)))) ≡ (p && (q && (r && false)))
unended false q r s = refl
unended true false r s = refl
unended true true false s = refl
unended true true true false = refl
unended true true true true = refl

ended : (p q r : Bool) → ((p && (q && (r && true))) || (p && (q && (r && false)))) ≡ (p && (q && (r && true)))
ended false q r = refl
ended true false r = refl
ended true true false = refl
ended true true true = refl

short : (p q : Bool) → ((p && (q && false)) || (p && (q && false))) ≡ (p && (q && false))
short false q = refl
short true false = refl
short true true = refl

shorter : (p : Bool) → ((p && false) || (p && false)) ≡ (p && false)
shorter false = refl
shorter true = refl

pub ended_is : (line : List ℕ) → is_dashes (line ++ 10 ∷ []) ≡ bytes_eq line (codes "---")
ended_is [] = refl
ended_is (a ∷ []) = shorter (nat_eq a 45)
ended_is (a ∷ b ∷ []) = short (nat_eq a 45) (nat_eq b 45)
ended_is (a ∷ b ∷ c ∷ []) = ended (nat_eq a 45) (nat_eq b 45) (nat_eq c 45)
ended_is (a ∷ b ∷ c ∷ d ∷ []) = unended (nat_eq a 45) (nat_eq b 45) (nat_eq c 45) (nat_eq d 10)
ended_is (a ∷ b ∷ c ∷ d ∷ e ∷ rest) = unended (nat_eq a 45) (nat_eq b 45) (nat_eq c 45) (nat_eq d 10)

-- a text without a line feed at its end
pub bare_is : (text : List ℕ) → is_whole text ≡ false → is_dashes text ≡ bytes_eq text (codes "---")
bare_is text bare = by_test (bytes_eq text (codes "---\n")) refl
  where
    whole : text ≡ codes "---\n" → is_whole text ≡ true
    whole e = ap is_whole e

    by_test : (t : Bool) → bytes_eq text (codes "---\n") ≡ t → is_dashes text ≡ bytes_eq text (codes "---")
    by_test true e = let w = whole ((bytes_eq-Decides text (codes "---\n")).0 e) in cc
    by_test false e = ap (λ t. t || bytes_eq text (codes "---")) e

-- the log isn't longer than the input

abbrev log_of : Parts → List ℕ
log_of None = []
log_of (Some (board, log)) = log

short_rows : (rows : List (List ℕ)) (board log : List ℕ) → split_at_dashes rows ≡ Some (board, log) → length log ≤ length (concat rows)
short_rows [] board log is = cc
short_rows (row ∷ rows) board log is = by_row (is_dashes row) (split_at_dashes rows) (λ x y e. short_rows rows x y e) is
  where
    by_row : (t : Bool) (parts : Parts) → ((x y : List ℕ) → parts ≡ Some (x, y) → length y ≤ length (concat rows))
        → cond t (Some ([], concat rows)) (onto_board row parts) ≡ Some (board, log) → length log ≤ length (row ++ concat rows)
    by_row true parts few is = let e : concat rows ≡ log = ap log_of is in omega (arith, length-append row (concat rows), ap length e)
    by_row false None few is = cc
    by_row false (Some (x, y)) few is = let e : y ≡ log = ap log_of is in omega (arith, few x y refl, length-append row (concat rows), ap length e)

pub short_log : (input board log : List ℕ) → parts_of input ≡ Some (board, log) → length log ≤ length input
short_log input board log is = omega (arith, short_rows (rows_of input) board log is, ap length (joined input))
