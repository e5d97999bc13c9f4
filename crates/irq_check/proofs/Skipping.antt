-- Rows without a `-` are passed over.
use Rattle.std.proofs.Common.{◌≡◌, ℕ, zero, suc, ◌+◌, ◌-◌, ◌<◌, ◌≤◌, Bool, true, false, cond, ◌&&◌, ◌||◌, nat_eq, Some, None, List, [], ◌∷◌, ◌++◌}
use Rattle.std.proofs.Common.{codes, length, take, drop, get_or, refl, sym, ap, subst, ◌∙◌, arith}
use Rattle.std.specs.Str.{bytes_eq}
use Rattle.std.proofs.Math.Seq.{take-add}
use Rattle.std.proofs.lemmas.List.{length-drop, length-take-le, get_or-take, drop-drop, take_rest}
use Rattle.memchr.specs.Find.{IsFirstByte, is_byte}
use Rattle.log_read.specs.LogOf.{is_feed, onto_first, rows_of}
use Rattle.irq_check.specs.Parts.{is_dashes, onto_board, split_at_dashes, BeginsRow, SkipsTo}
use Rattle.irq_check.proofs.Cutting.{IsCutTo, onto_nothing, onto_twice}

isnt : (b : Bool) → (b ≡ true → ⊥) → b ≡ false
isnt true h = absurd (h refl)
isnt false h = refl

no_dashes : (b : ℕ) (row : List ℕ) → nat_eq b 45 ≡ false → is_dashes (b ∷ row) ≡ false
no_dashes b row h = ap (λ t. (t && bytes_eq row (codes "--\n")) || (t && bytes_eq row (codes "--"))) h

-- a row that isn't `---`
passed : (row : List ℕ) (rows : List (List ℕ)) → is_dashes row ≡ false → split_at_dashes (row ∷ rows) ≡ onto_board row (split_at_dashes rows)
passed row rows h = rw h refl

begun : (b c : ℕ) (row : List ℕ) (rows : List (List ℕ)) → nat_eq b 45 ≡ false → nat_eq c 45 ≡ false
    → split_at_dashes ((b ∷ c ∷ row) ∷ rows) ≡ onto_board (b ∷ []) (split_at_dashes ((c ∷ row) ∷ rows))
begun b c row rows is_b is_c =
    passed (b ∷ c ∷ row) rows (no_dashes b (c ∷ row) is_b)
    ∙ (sym (onto_twice (b ∷ []) (c ∷ row) (split_at_dashes rows))
    ∙ sym (ap (onto_board (b ∷ [])) (passed (c ∷ row) rows (no_dashes c row is_c))))

onto : (b c : ℕ) (rows : List (List ℕ)) → nat_eq b 45 ≡ false → nat_eq c 45 ≡ false
    → split_at_dashes (onto_first b (onto_first c rows)) ≡ onto_board (b ∷ []) (split_at_dashes (onto_first c rows))
onto b c [] is_b is_c = begun b c [] [] is_b is_c
onto b c (row ∷ rows) is_b is_c = begun b c row rows is_b is_c

onto_if : (t : Bool) (b c : ℕ) (cs : List ℕ) → nat_eq b 45 ≡ false → nat_eq c 45 ≡ false
    → split_at_dashes (onto_first b (cond t ((c ∷ []) ∷ rows_of cs) (onto_first c (rows_of cs))))
    ≡ onto_board (b ∷ []) (split_at_dashes (cond t ((c ∷ []) ∷ rows_of cs) (onto_first c (rows_of cs))))
onto_if true b c cs is_b is_c = begun b c [] (rows_of cs) is_b is_c
onto_if false b c cs is_b is_c = onto b c (rows_of cs) is_b is_c

-- the first byte, if there is one, is no `-`
abbrev First : List ℕ → Type 0
First [] = Unit {0}
First (b ∷ bs) = nat_eq b 45 ≡ false

byte_if : (t : Bool) (b : ℕ) (bs : List ℕ) → nat_eq b 45 ≡ false → (t ≡ false → First bs)
    → split_at_dashes (cond t ((b ∷ []) ∷ rows_of bs) (onto_first b (rows_of bs))) ≡ onto_board (b ∷ []) (split_at_dashes (rows_of bs))
byte_if true b bs is first = passed (b ∷ []) (rows_of bs) (no_dashes b [] is)
byte_if false b [] is first = passed (b ∷ []) [] (no_dashes b [] is)
byte_if false b (c ∷ cs) is first = onto_if (is_feed c) b c cs is (first refl)

byte : (b : ℕ) (bs : List ℕ) → nat_eq b 45 ≡ false → (is_feed b ≡ false → First bs)
    → split_at_dashes (rows_of (b ∷ bs)) ≡ onto_board (b ∷ []) (split_at_dashes (rows_of bs))
byte b bs is first = byte_if (is_feed b) b bs is first

-- no byte below n is a `-`
abbrev NoDash : List ℕ → ℕ → Type 0
NoDash bytes n = (k : ℕ) → k < n → nat_eq (get_or bytes k 0) 45 ≡ false

feeds : (b : ℕ) → b ≡ 10 → is_feed b ≡ false → ⊥
feeds b is other = let same : nat_eq b 10 ≡ true = rw is refl in cc

first_of : (bs : List ℕ) (m : ℕ) → suc m ≤ length bs → NoDash bs (suc m) → First bs
first_of [] m within none = tt
first_of (c ∷ cs) m within none = none 0 (omega arith)

pub skipped : (bytes : List ℕ) (n : ℕ) → n ≤ length bytes → NoDash bytes n → BeginsRow bytes n
    → split_at_dashes (rows_of bytes) ≡ onto_board (take n bytes) (split_at_dashes (rows_of (drop n bytes)))
skipped bytes zero within none begins = onto_nothing (split_at_dashes (rows_of bytes))
skipped [] (suc n) within none begins = absurd (omega (arith, within))
skipped (b ∷ bs) (suc zero) within none begins =
    byte b bs (none 0 (omega arith)) (λ other. absurd (feeds b (begins 0 (omega arith)) other))
skipped (b ∷ bs) (suc (suc m)) within none begins =
    let fits : suc m ≤ length bs = omega (arith, within) in
    let later : NoDash bs (suc m) = λ k below. none (suc k) (omega (arith, below)) in
    let row : BeginsRow bs (suc m) = λ k is. begins (suc k) (omega (arith, is)) in
    byte b bs (none 0 (omega arith)) (λ other. first_of bs m fits later)
    ∙ (ap (onto_board (b ∷ [])) (skipped bs (suc m) fits later row)
    ∙ onto_twice (b ∷ []) (take (suc m) bs) (split_at_dashes (rows_of (drop (suc m) bs))))

first_all : (bs : List ℕ) → NoDash bs (length bs) → First bs
first_all [] none = tt
first_all (c ∷ cs) none = none 0 (omega arith)

pub no_dash : (bytes : List ℕ) → NoDash bytes (length bytes) → split_at_dashes (rows_of bytes) ≡ None
no_dash [] none = refl
no_dash (b ∷ bs) none =
    let later : NoDash bs (length bs) = λ k below. none (suc k) (omega (arith, below)) in
    byte b bs (none 0 (omega arith)) (λ other. first_all bs later) ∙ ap (onto_board (b ∷ [])) (no_dash bs later)

-- what memchr and memrchr find

pub none_found : (bytes : List ℕ) → IsFirstByte (is_byte 45) bytes None → split_at_dashes (rows_of bytes) ≡ None
none_found bytes h = no_dash bytes (λ k below. isnt _ (h k (omega arith) below))

pub dash_found : (text front : List ℕ) (dash start : ℕ) → IsFirstByte (is_byte 45) text (Some dash) → front ≡ take dash text
    → start ≤ length front → BeginsRow front start → SkipsTo text start
dash_found text front dash start h is within begins =
    let low : start ≤ dash = omega (arith, within, ap length is, length-take-le dash text (omega (arith, h.0.high))) in
    let row : BeginsRow text start = λ k at.
    let below : k < dash = omega (arith, at, low) in
    sym (ap (λ (xs : List ℕ). get_or xs k 0) is ∙ get_or-take dash text k 0 below) ∙ begins k at in
    record {
      within = omega (arith, low, h.0.high);
      parts = skipped text start (omega (arith, low, h.0.high)) (λ k below. isnt _ (h.0.before k (omega arith) (omega (arith, below, low)))) row;
    }

module _ (input rest : List ℕ) (before : ℕ) (cut : IsCutTo input rest before) where
  rows_skipped : (start : ℕ) → SkipsTo rest start → IsCutTo input (drop start rest) (before + start)
  rows_skipped start skips = record {
    left = ap (drop start) cut.left ∙ drop-drop start before input;
    within = omega (arith, skips.within, ap length cut.left, length-drop before input, cut.within);
    parts =
        cut.parts ∙ (ap (onto_board (take before input)) skips.parts
        ∙ (onto_twice (take before input) (take start rest) (split_at_dashes (rows_of (drop start rest)))
        ∙ ap (λ (x : List ℕ). onto_board x (split_at_dashes (rows_of (drop start rest))))
        (ap (λ (x : List ℕ). take before input ++ take start x) cut.left ∙ sym (take-add before start input))));
  }

  -- the same, of the bytes as a slice from that place on gives them
  pub cut_on : (start : ℕ) → SkipsTo rest start → IsCutTo input (take (length rest - start) (drop start rest)) (before + start)
  cut_on start skips = subst (λ (xs : List ℕ). IsCutTo input xs (before + start)) (sym (take_rest rest start)) (rows_skipped start skips)
