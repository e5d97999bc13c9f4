-- A text is cut at its line feeds, and a row is read between them.
use Rattle.std.proofs.Common.{◌≡◌, ℕ, suc, ◌+◌, ◌≤◌, Bool, true, false, not, ◌&&◌, cond, eqb, ltb, List, []}
use Rattle.std.proofs.Common.{◌∷◌, ◌++◌, length, take, drop, codes, decimal, Some, None, refl, sym, ap, subst}
use Rattle.std.proofs.Common.{◌∙◌, arith}
use Rattle.std.specs.List.{concat, position, position_or_len, slice_get, join_with_byte}
use Rattle.std.proofs.lemmas.Bool.{ltb-false, eqb-true}
use Rattle.std.proofs.lemmas.Bool.Decides.{nat_tests}
use Rattle.std.proofs.lemmas.List.{append_cancel_right}
use Rattle.std.proofs.lemmas.List.Splits.{join_with_byte-slice_split}
use Rattle.std.proofs.lemmas.Option.{same_Some}
use Rattle.irq_base.specs.declared.entries.Entry.{Entry}
use Rattle.irq_base.specs.declared.numbers.LineNo.{LineNo}
use Rattle.log_text.proofs.Splitting.{row_words, row_back}
use Rattle.log_text.specs.EntryWords.{entry_words}
use Rattle.log_text.specs.Formed.{IsSmall, IsWritable, IsRowOf}
use Rattle.log_read.proofs.Taking.{both_end}
use Rattle.log_read.specs.Left.{left_of, words_of}
use Rattle.log_read.specs.LogOf.{is_feed, rows_of, onto_first, is_whole, is_passed_over}
use Rattle.log_read.specs.Takes.{TakesAs, EndsAs, Both, number_words}
use Rattle.log_read.specs.declared.words.Words.{Words}

-- cut at the first line feed

abbrev alone : List ℕ → List (List ℕ)
alone [] = []
alone (b ∷ bs) = (b ∷ bs) ∷ []

abbrev cut_at : ℕ → List ℕ → List (List ℕ)
cut_at n text = cond (ltb n (length text)) ((take n text ++ 10 ∷ []) ∷ rows_of (drop (n + 1) text)) (alone text)

onto_alone : (b : ℕ) (bs : List ℕ) → onto_first b (alone bs) ≡ (b ∷ bs) ∷ []
onto_alone b [] = refl
onto_alone b (c ∷ bs) = refl

onto_cut : (t : Bool) (b : ℕ) (bs front : List ℕ) (rows : List (List ℕ))
    → onto_first b (cond t (front ∷ rows) (alone bs)) ≡ cond t ((b ∷ front) ∷ rows) ((b ∷ bs) ∷ [])
onto_cut true b bs front rows = refl
onto_cut false b bs front rows = onto_alone b bs

cut_if : (t : Bool) (b : ℕ) (bs : List ℕ) (n : ℕ) → (t ≡ true → b ≡ 10) → rows_of bs ≡ cut_at n bs
    → cond t ((b ∷ []) ∷ rows_of bs) (onto_first b (rows_of bs)) ≡ cut_at (cond (not t) (1 + n) 0) (b ∷ bs)
cut_if true b bs n is known =
    let e : ltb 0 (length (b ∷ bs)) ≡ true = grind (arith, nat_tests) in rw e (ap (λ c. (c ∷ []) ∷ rows_of bs) (is refl))
cut_if false b bs n is known =
    let e : 1 + n ≡ suc n = omega arith in
    let f : 1 + n + 1 ≡ suc (n + 1) = omega arith in
    let g : ltb (1 + n) (length (b ∷ bs)) ≡ ltb n (length bs) = grind (arith, nat_tests) in
    ap (onto_first b) known
    ∙ (onto_cut (ltb n (length bs)) b bs (take n bs ++ 10 ∷ []) (rows_of (drop (n + 1) bs))
    ∙ (ap (λ t. cond t ((b ∷ (take n bs ++ 10 ∷ [])) ∷ rows_of (drop (n + 1) bs)) ((b ∷ bs) ∷ [])) (sym g)
    ∙ (ap (λ m. cond (ltb (1 + n) (length (b ∷ bs))) ((take m (b ∷ bs) ++ 10 ∷ []) ∷ rows_of (drop (n + 1) bs)) ((b ∷ bs) ∷ [])) (sym e)
    ∙ ap (λ m. cond (ltb (1 + n) (length (b ∷ bs))) ((take (1 + n) (b ∷ bs) ++ 10 ∷ []) ∷ rows_of (drop m (b ∷ bs))) ((b ∷ bs) ∷ [])) (sym f))))

cut_is : (text : List ℕ) → rows_of text ≡ cut_at (position_or_len is_feed text) text
cut_is [] = refl
cut_is (b ∷ bs) = cut_if (is_feed b) b bs (position_or_len is_feed bs) (eqb-true b 10) (cut_is bs)

found : (t : Bool) (i n : ℕ) → Some i ≡ cond t (Some n) None → (i ≡ n) × (t ≡ true)
found true i n h = (cc, refl)
found false i n h = cc

missed : (t : Bool) (n : ℕ) → None ≡ cond t (Some n) None → t ≡ false
missed true n h = cc
missed false n h = refl

pub at_feed : (text : List ℕ) (i : ℕ) → Some i ≡ position is_feed text → rows_of text ≡ (take i text ++ 10 ∷ []) ∷ rows_of (drop (i + 1) text)
at_feed text i h =
    let at = found _ i (position_or_len is_feed text) h in
    cut_is text
    ∙ (ap (λ t. cond t ((take (position_or_len is_feed text) text ++ 10 ∷ []) ∷ rows_of (drop (position_or_len is_feed text + 1) text)) (alone text)) at.1
    ∙ ap (λ n. (take n text ++ 10 ∷ []) ∷ rows_of (drop (n + 1) text)) (sym at.0))

alone_some : (text : List ℕ) → 1 ≤ length text → alone text ≡ text ∷ []
alone_some [] some = absurd (omega (arith, some))
alone_some (b ∷ bs) some = refl

cut_whole : (t : Bool) (b : ℕ) (n m : ℕ) → 1 + m ≤ cond (not t) (1 + n) 0 → (t ≡ false) × (m ≤ n)
cut_whole true b n m h = absurd (omega (arith, h))
cut_whole false b n m h = (refl, omega (arith, h))

unended : (text : List ℕ) → length text ≤ position_or_len is_feed text → is_whole text ≡ false
unended [] h = refl
unended (b ∷ []) h = (cut_whole (is_feed b) b 0 0 h).0
unended (b ∷ c ∷ bs) h =
    let some : 1 + length (c ∷ bs) ≤ cond (not (is_feed b)) (1 + position_or_len is_feed (c ∷ bs)) 0 = omega (arith, h) in
    unended (c ∷ bs) (cut_whole (is_feed b) b (position_or_len is_feed (c ∷ bs)) (length (c ∷ bs)) some).1

pub no_feed : (text : List ℕ) → 1 ≤ length text → None ≡ position is_feed text → (rows_of text ≡ text ∷ []) × (is_whole text ≡ false)
no_feed text some h =
    let none = missed _ (position_or_len is_feed text) h in (
      cut_is text ∙ (ap (λ t. cond t ((take (position_or_len is_feed text) text ++ 10 ∷ [])
          ∷ rows_of (drop (position_or_len is_feed text + 1) text)) (alone text)) none ∙ alone_some text some),
      unended text (ltb-false (position_or_len is_feed text) (length text) none),
    )

-- the rows of a text, one after another, are the text

onto_joined : (b : ℕ) (rows : List (List ℕ)) → concat (onto_first b rows) ≡ b ∷ concat rows
onto_joined b [] = refl
onto_joined b (row ∷ rows) = refl

joined_if : (t : Bool) (b : ℕ) (bs : List ℕ) → concat (rows_of bs) ≡ bs → concat (cond t ((b ∷ []) ∷ rows_of bs) (onto_first b (rows_of bs))) ≡ b ∷ bs
joined_if true b bs h = ap (λ (xs : List ℕ). b ∷ xs) h
joined_if false b bs h = onto_joined b (rows_of bs) ∙ ap (λ (xs : List ℕ). b ∷ xs) h

pub joined : (text : List ℕ) → concat (rows_of text) ≡ text
joined [] = refl
joined (b ∷ bs) = joined_if (is_feed b) b bs (joined bs)

pub front_joined : (text row : List ℕ) (rows : List (List ℕ)) → rows_of text ≡ row ∷ rows → text ≡ row ++ concat rows
front_joined text row rows is = sym (joined text) ∙ ap concat is

pub first_joined : (text row after : List ℕ) → rows_of text ≡ row ∷ rows_of after → text ≡ row ++ after
first_joined text row after is = front_joined text row (rows_of after) is ∙ ap (λ (xs : List ℕ). row ++ xs) (joined after)

-- rows that are passed over

pub whole_row : (row : List ℕ) → is_whole (row ++ 10 ∷ []) ≡ true
whole_row [] = refl
whole_row (b ∷ []) = refl
whole_row (b ∷ c ∷ bs) = whole_row (c ∷ bs)

pub hash_first : (row : List ℕ) (b : ℕ) → Some b ≡ slice_get row 0 → eqb b 35 ≡ is_passed_over (row ++ 10 ∷ [])
hash_first [] b h = cc
hash_first (c ∷ bs) b h = by (eqb c 35) (is_whole (c ∷ (bs ++ 10 ∷ []))) (ap (λ d. eqb d 35) (same_Some b c h)) (whole_row (c ∷ bs))
  where
    by : (t w : Bool) → eqb b 35 ≡ t → w ≡ true → eqb b 35 ≡ (t && w)
    by true w i j = i ∙ sym j
    by false w i j = i

-- a row that is read

abbrev line_no : ℕ → LineNo
line_no n = record { 0 = n }

module _ (row : List ℕ) (start mid end : Words) (n : ℕ) (e : Entry) (all : left_of start ≡ Some (words_of row))
    (number : TakesAs IsSmall number_words (λ m. m) start mid n) (entry : EndsAs IsWritable entry_words (λ f. f) mid end e) where
  whole : EndsAs {Y = ℕ × Entry} (Both IsSmall IsWritable) (λ p. decimal p.0 ∷ entry_words p.1) (λ p. (p.0, p.1)) start end (n, e)
  whole = both_end (λ m. entry_words) number entry

  written : (m : ℕ) (f : Entry) → words_of row ≡ decimal m ∷ entry_words f
      → row ++ codes "\n" ≡ join_with_byte 32 (decimal m ∷ entry_words f) ++ codes "\n"
  written m f h = ap (λ r. r ++ codes "\n") (sym (join_with_byte-slice_split 32 row) ∙ ap (join_with_byte 32) h)

  pub row_read : left_of end ≡ Some [] → IsRowOf (row ++ codes "\n") (line_no n) e
  row_read done =
      let s = whole.sound done in
      let text = written s.0.0 s.0.1 (same_Some (words_of row) (decimal s.0.0 ∷ entry_words s.0.1) (sym all ∙ s.3)) in
      let is : IsRowOf (row ++ codes "\n") (line_no s.0.0) s.0.1 = record { text = text; number = s.1.0; writable = s.1.1 } in
      subst (λ (p : ℕ × Entry). IsRowOf (row ++ codes "\n") (line_no p.0) p.1) (sym s.2) is

  pub row_unread : (left_of end ≡ Some [] → ⊥) → (line : LineNo) (f : Entry) → IsRowOf (row ++ codes "\n") line f → ⊥
  row_unread undone line f is =
      let same = append_cancel_right row (join_with_byte 32 (row_words line f)) (codes "\n") is.text in
      let words : words_of row ≡ row_words line f = ap words_of same ∙ row_back line f is.number is.writable in
      undone (whole.complete (line.0, f) (is.number, is.writable) (all ∙ ap (λ ws. Some ws) words)).1
