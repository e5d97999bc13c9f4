-- How a text falls into text lines, and a text line into words.
use Rattle.std.proofs.Common.{◌≡◌, ℕ, suc, ◌+◌, ◌<◌, ◌≤◌, nat_lt, Bool, true, false, not, cond, ◌&&◌, ◌||◌, List, [], ◌∷◌, length}
use Rattle.std.proofs.Common.{take, drop, get_or, Some, None, refl, sym, ap, ◌∙◌, subst, arith}
use Rattle.std.specs.List.{list_all, position, position_or_len, slice_get}
use Rattle.std.proofs.lemmas.Bool.Decides.{nat_tests}
use Rattle.std.proofs.lemmas.List.{take_all, drop_all}
use Rattle.std.proofs.lemmas.List.Sums.{position_or_len_is}
use Rattle.std.proofs.lemmas.Option.{same_Some}
use Rattle.board_words.specs.TextLines.{text_lines, words_of, onto_first, is_line_feed, is_blank, is_hash, without_comment, split_at_blanks, is_within_word}
use Rattle.board_words.specs.TextLines.{is_printable, is_allowed, has_bad_byte}
use Rattle.board_words.specs.Ends.{starts_word, ends_word, ends_printable}
use Rattle.board_words.specs.Seen.{are_none}

take_front : (b : ℕ) (bs : List ℕ) (n : ℕ) → take (1 + n) (b ∷ bs) ≡ b ∷ take n bs
take_front b bs n = let e : 1 + n ≡ suc n = omega arith in ap (λ m. take m (b ∷ bs)) e

drop_front : (b : ℕ) (bs : List ℕ) (n : ℕ) → drop (1 + n) (b ∷ bs) ≡ drop n bs
drop_front b bs n = let e : 1 + n ≡ suc n = omega arith in ap (λ m. drop m (b ∷ bs)) e

drop_past_front : (b : ℕ) (bs : List ℕ) (n : ℕ) → drop (1 + n + 1) (b ∷ bs) ≡ drop (n + 1) bs
drop_past_front b bs n = let e : 1 + n + 1 ≡ suc (n + 1) = omega arith in ap (λ m. drop m (b ∷ bs)) e

-- text lines

line_if : (t : Bool) (b : ℕ) (bs : List ℕ) (n : ℕ) → (n ≡ position_or_len is_line_feed bs)
    → (0 < length bs → text_lines bs ≡ take n bs ∷ text_lines (drop (n + 1) bs))
    → cond t ([] ∷ text_lines bs) (onto_first b (text_lines bs))
    ≡ take (cond (not t) (1 + n) 0) (b ∷ bs) ∷ text_lines (drop (cond (not t) (1 + n) 0 + 1) (b ∷ bs))
line_if true b bs n is known = refl
line_if false b [] n is known = rw is refl
line_if false b (c ∷ cs) n is known =
    ap (onto_first b) (known (omega arith)) ∙ rw (take_front b (c ∷ cs) n, drop_past_front b (c ∷ cs) n) refl

line_cut : (text : List ℕ) → 0 < length text
    → text_lines text ≡ take (position_or_len is_line_feed text) text ∷ text_lines (drop (position_or_len is_line_feed text + 1) text)
line_cut [] some = absurd (omega arith)
line_cut (b ∷ bs) some = line_if (is_line_feed b) b bs (position_or_len is_line_feed bs) refl (line_cut bs)

found_at : (t : Bool) (i n : ℕ) → Some i ≡ cond t (Some n) None → (i ≡ n) × (t ≡ true)
found_at true i n h = (cc, refl)
found_at false i n h = cc

pub line_first : (text : List ℕ) (i : ℕ) → Some i ≡ position is_line_feed text → text_lines text ≡ take i text ∷ text_lines (drop (i + 1) text)
line_first [] i h = cc
line_first (b ∷ bs) i h =
    let at = found_at _ i (position_or_len is_line_feed (b ∷ bs)) h in
    rw at.0 (line_cut (b ∷ bs) (omega arith))

not_found : (t : Bool) (n : ℕ) → None ≡ cond t (Some n) None → t ≡ false
not_found true n h = cc
not_found false n h = refl

pub line_alone : (text : List ℕ) → None ≡ position is_line_feed text → 0 < length text → text_lines text ≡ text ∷ []
line_alone text h some =
    let n = position_or_len is_line_feed text in
    let past : length text ≤ n = grind (arith, nat_tests, not_found _ n h) in
    let past_one : length text ≤ n + 1 = omega arith in
    line_cut text some ∙ rw (take_all n text past, drop_all (n + 1) text past_one) refl

-- a line that is printable up to its line feed

printed_if : (t : Bool) (b : ℕ) (bs : List ℕ) (n : ℕ) → is_printable b ≡ t
    → (get_or bs n 0 ≡ 10 → (position_or_len is_line_feed bs ≡ n) × (list_all is_allowed (take n bs) ≡ true))
    → get_or (b ∷ bs) (cond (not (not t)) (1 + n) 0) 0 ≡ 10
    → (position_or_len is_line_feed (b ∷ bs) ≡ cond (not (not t)) (1 + n) 0)
    × (list_all is_allowed (take (cond (not (not t)) (1 + n) 0) (b ∷ bs)) ≡ true)
printed_if true b bs n printed rest at =
    let e : 1 + n ≡ suc n = omega arith in
    let known = rest (ap (λ m. get_or (b ∷ bs) m 0) (sym e) ∙ at) in
    let no_feed : is_line_feed b ≡ false = grind (arith, nat_tests) in
    let allowed : is_allowed b ≡ true = grind (arith, nat_tests) in (
      ap (λ t. cond (not t) (1 + position_or_len is_line_feed bs) 0) no_feed ∙ ap (λ m. 1 + m) known.0,
      ap (list_all is_allowed) (take_front b bs n) ∙ ap (λ t. t && list_all is_allowed (take n bs)) allowed ∙ known.1,
    )
printed_if false b bs n printed rest at =
    let feed : is_line_feed b ≡ true = grind (arith, nat_tests) in
    (ap (λ t. cond (not t) (1 + position_or_len is_line_feed bs) 0) feed, refl)

printed : (text : List ℕ) → get_or text (position_or_len ends_printable text) 0 ≡ 10
    → (position_or_len is_line_feed text ≡ position_or_len ends_printable text)
    × (list_all is_allowed (take (position_or_len ends_printable text) text) ≡ true)
printed [] at = cc
printed (b ∷ bs) at = printed_if (is_printable b) b bs (position_or_len ends_printable bs) refl (printed bs) at

pub printed_line : (text : List ℕ) (i : ℕ) → i < length text → get_or text i 0 ≡ 10
    → ((k : ℕ) → k < i → ends_printable (get_or text k 0) ≡ false)
    → (Some i ≡ position is_line_feed text) × (has_bad_byte (take i text) ≡ false)
printed_line text i within at before =
    let ends : ends_printable (get_or text i 0) ≡ true = ap ends_printable at in
    let first = position_or_len_is ends_printable text i 0 (omega arith) before (λ h. ends) in
    let known = printed text (ap (λ m. get_or text m 0) first ∙ at) in
    let feed = known.0 ∙ first in
    let there : nat_lt i (length text) ≡ true = grind (arith, nat_tests) in (
      sym (ap (λ m. cond (nat_lt m (length text)) (Some m) None) feed ∙ ap (λ t. cond t (Some i) None) there),
      ap (λ m. has_bad_byte (take m text)) (sym first) ∙ ap not known.1,
    )

-- words

hash_is_no_blank : (b : ℕ) → is_blank b ≡ true → is_hash b ≡ false
hash_is_no_blank b h = grind (arith, nat_tests)

blank_skips : (b : ℕ) (bs : List ℕ) → is_blank b ≡ true → words_of (b ∷ bs) ≡ words_of bs
blank_skips b bs h =
    let rest = without_comment bs in
    ap (λ t. split_at_blanks (cond t [] (b ∷ rest))) (hash_is_no_blank b h)
    ∙ ap (λ t. cond t (split_at_blanks rest) (cond (is_within_word rest) (onto_first b (split_at_blanks rest)) ((b ∷ []) ∷ split_at_blanks rest))) h

comment_ends : (b : ℕ) (bs : List ℕ) → is_hash b ≡ true → words_of (b ∷ bs) ≡ []
comment_ends b bs h = ap (λ t. split_at_blanks (cond t [] (b ∷ without_comment bs))) h

begun : (b : ℕ) (bs : List ℕ) → is_blank b ≡ false → is_hash b ≡ false
    → words_of (b ∷ bs) ≡ cond (is_within_word (without_comment bs)) (onto_first b (words_of bs)) ((b ∷ []) ∷ words_of bs)
begun b bs no_blank no_hash =
    let rest = without_comment bs in
    ap (λ t. split_at_blanks (cond t [] (b ∷ rest))) no_hash
    ∙ ap (λ t. cond t (split_at_blanks rest) (cond (is_within_word rest) (onto_first b (split_at_blanks rest)) ((b ∷ []) ∷ split_at_blanks rest))) no_blank

skip_if : (t : Bool) (b : ℕ) (bs : List ℕ) → is_blank b ≡ t → words_of bs ≡ words_of (drop (position_or_len starts_word bs) bs)
    → words_of (b ∷ bs) ≡ words_of (drop (cond (not (not t)) (1 + position_or_len starts_word bs) 0) (b ∷ bs))
skip_if true b bs h rest = blank_skips b bs h ∙ rest ∙ ap words_of (sym (drop_front b bs (position_or_len starts_word bs)))
skip_if false b bs h rest = refl

skipped : (line : List ℕ) → words_of line ≡ words_of (drop (position_or_len starts_word line) line)
skipped [] = refl
skipped (b ∷ bs) = skip_if (is_blank b) b bs refl (skipped bs)

word_on : (blank hash : Bool) (b c : ℕ) (cs : List ℕ) → is_blank b ≡ false → is_hash b ≡ false → is_blank c ≡ blank → is_hash c ≡ hash
    → (is_blank c ≡ false → is_hash c ≡ false → words_of (c ∷ cs)
    ≡ (c ∷ take (position_or_len ends_word cs) cs) ∷ words_of (drop (position_or_len ends_word cs) cs))
    → words_of (b ∷ c ∷ cs) ≡ (b ∷ take (cond (not (blank || hash)) (1 + position_or_len ends_word cs) 0) (c ∷ cs))
    ∷ words_of (drop (cond (not (blank || hash)) (1 + position_or_len ends_word cs) 0) (c ∷ cs))
word_on true hash b c cs no_blank no_hash is_b is_h known =
    begun b (c ∷ cs) no_blank no_hash
    ∙ ap (λ t. cond (is_within_word (cond t [] (c ∷ without_comment cs))) (onto_first b (words_of (c ∷ cs)))
    ((b ∷ []) ∷ words_of (c ∷ cs))) (hash_is_no_blank c is_b)
    ∙ ap (λ t. cond (not t) (onto_first b (words_of (c ∷ cs))) ((b ∷ []) ∷ words_of (c ∷ cs))) is_b
word_on false true b c cs no_blank no_hash is_b is_h known =
    begun b (c ∷ cs) no_blank no_hash
    ∙ ap (λ t. cond (is_within_word (cond t [] (c ∷ without_comment cs))) (onto_first b (words_of (c ∷ cs))) ((b ∷ []) ∷ words_of (c ∷ cs))) is_h
word_on false false b c cs no_blank no_hash is_b is_h known =
    begun b (c ∷ cs) no_blank no_hash
    ∙ ap (λ t. cond (is_within_word (cond t [] (c ∷ without_comment cs))) (onto_first b (words_of (c ∷ cs))) ((b ∷ []) ∷ words_of (c ∷ cs))) is_h
    ∙ ap (λ t. cond (not t) (onto_first b (words_of (c ∷ cs))) ((b ∷ []) ∷ words_of (c ∷ cs))) is_b
    ∙ ap (onto_first b) (known is_b is_h)
    ∙ rw (take_front c cs (position_or_len ends_word cs), drop_front c cs (position_or_len ends_word cs)) refl

word_begun : (b : ℕ) (bs : List ℕ) → is_blank b ≡ false → is_hash b ≡ false
    → words_of (b ∷ bs) ≡ (b ∷ take (position_or_len ends_word bs) bs) ∷ words_of (drop (position_or_len ends_word bs) bs)
word_begun b [] no_blank no_hash = begun b [] no_blank no_hash
word_begun b (c ∷ cs) no_blank no_hash = word_on (is_blank c) (is_hash c) b c cs no_blank no_hash refl refl (word_begun c cs)

word_if : (blank hash : Bool) (b : ℕ) (bs : List ℕ) → is_blank b ≡ blank → is_hash b ≡ hash
    → 0 < cond (not (blank || hash)) (1 + position_or_len ends_word bs) 0
    → words_of (b ∷ bs) ≡ take (cond (not (blank || hash)) (1 + position_or_len ends_word bs) 0) (b ∷ bs)
    ∷ words_of (drop (cond (not (blank || hash)) (1 + position_or_len ends_word bs) 0) (b ∷ bs))
word_if true hash b bs is_b is_h some = absurd (omega arith)
word_if false true b bs is_b is_h some = absurd (omega arith)
word_if false false b bs is_b is_h some =
    word_begun b bs is_b is_h ∙ rw (take_front b bs (position_or_len ends_word bs), drop_front b bs (position_or_len ends_word bs)) refl

word_cut : (begun : List ℕ) → 0 < position_or_len ends_word begun
    → words_of begun ≡ take (position_or_len ends_word begun) begun ∷ words_of (drop (position_or_len ends_word begun) begun)
word_cut [] some = absurd (omega arith)
word_cut (b ∷ bs) some = word_if (is_blank b) (is_hash b) b bs refl refl some

-- the first word, when one begins after the blanks
pub first_word : (line : List ℕ) → 0 < position_or_len ends_word (drop (position_or_len starts_word line) line)
    → words_of line ≡ take (position_or_len ends_word (drop (position_or_len starts_word line) line))
    (drop (position_or_len starts_word line) line)
    ∷ words_of (drop (position_or_len ends_word (drop (position_or_len starts_word line) line))
    (drop (position_or_len starts_word line) line))
first_word line some = skipped line ∙ word_cut (drop (position_or_len starts_word line) line) some

comment_if : (hash : Bool) (b : ℕ) (bs : List ℕ) → is_hash b ≡ hash → cond (not hash) (1 + position_or_len ends_word bs) 0 ≡ 0 → words_of (b ∷ bs) ≡ []
comment_if true b bs h none = comment_ends b bs h
comment_if false b bs h none = absurd (omega arith)

none_if : (t : Bool) (b : ℕ) (bs : List ℕ) → is_blank b ≡ t → (position_or_len ends_word (drop (position_or_len starts_word bs) bs) ≡ 0 → words_of bs ≡ [])
    → position_or_len ends_word (drop (cond (not (not t)) (1 + position_or_len starts_word bs) 0) (b ∷ bs)) ≡ 0 → words_of (b ∷ bs) ≡ []
none_if true b bs h rest none = blank_skips b bs h ∙ rest (ap (position_or_len ends_word) (sym (drop_front b bs (position_or_len starts_word bs))) ∙ none)
none_if false b bs h rest none =
    comment_if (is_hash b) b bs refl (ap (λ t. cond (not (t || is_hash b)) (1 + position_or_len ends_word bs) 0) (sym h) ∙ none)

pub no_word : (line : List ℕ) → position_or_len ends_word (drop (position_or_len starts_word line) line) ≡ 0 → words_of line ≡ []
no_word [] none = refl
no_word (b ∷ bs) none = none_if (is_blank b) b bs refl (no_word bs) none

-- the same, of what the reader of a word computes
pub no_word_of : (line begun : List ℕ) (start end : ℕ) → start ≡ position_or_len starts_word line
    → begun ≡ drop start line → end ≡ position_or_len ends_word begun → end ≡ 0 → words_of line ≡ []
no_word_of line begun start end is_start is_begun is_end none =
    let cut : begun ≡ drop (position_or_len starts_word line) line = is_begun ∙ ap (λ n. drop n line) is_start in
    no_word line (ap (position_or_len ends_word) (sym cut) ∙ sym is_end ∙ none)

pub first_word_of : (line begun : List ℕ) (start end : ℕ) (word rest : List ℕ)
    → start ≡ position_or_len starts_word line → begun ≡ drop start line → end ≡ position_or_len ends_word begun
    → 0 < end
    → word ≡ take end begun → rest ≡ drop end begun → words_of line ≡ word ∷ words_of rest
first_word_of line begun start end word rest is_start is_begun is_end some is_word is_rest =
    let cut : begun ≡ drop (position_or_len starts_word line) line = is_begun ∙ ap (λ n. drop n line) is_start in
    let P : ℕ → Type 0 = λ n. 0 < n in
    skipped line ∙ ap words_of (sym cut) ∙ word_cut begun (subst P is_end some) ∙ ap (λ n. take n begun ∷ words_of (drop n begun)) (sym is_end)
    ∙ ap (λ (w : List ℕ). w ∷ words_of (drop end begun)) (sym is_word) ∙ ap (λ r. word ∷ words_of r) (sym is_rest)

-- whether a text line has words, by the byte at which its first blanks end

none_by : (hash : Bool) (b : ℕ) (bs : List ℕ) → is_blank b ≡ false → is_hash b ≡ hash → is_hash b ≡ are_none (words_of (b ∷ bs))
none_by true b bs no_blank h = h ∙ sym (ap are_none (comment_ends b bs h))
none_by false b bs no_blank h = h ∙ sym (ap are_none (word_begun b bs no_blank h))

get_front : (b : ℕ) (bs : List ℕ) (n : ℕ) → slice_get (b ∷ bs) (1 + n) ≡ slice_get bs n
get_front b bs n = let e : 1 + n ≡ suc n = omega arith in ap (slice_get (b ∷ bs)) e

hash_if : (t : Bool) (c : ℕ) (cs : List ℕ) (b : ℕ) → is_blank c ≡ t
    → (Some b ≡ slice_get cs (position_or_len starts_word cs) → is_hash b ≡ are_none (words_of cs))
    → Some b ≡ slice_get (c ∷ cs) (cond (not (not t)) (1 + position_or_len starts_word cs) 0) → is_hash b ≡ are_none (words_of (c ∷ cs))
hash_if true c cs b is rest at = rest (at ∙ get_front c cs (position_or_len starts_word cs)) ∙ sym (ap are_none (blank_skips c cs is))
hash_if false c cs b is rest at = ap is_hash (same_Some b c at) ∙ none_by (is_hash c) c cs is refl

pub hash_at : (line : List ℕ) (b : ℕ) → Some b ≡ slice_get line (position_or_len starts_word line) → is_hash b ≡ are_none (words_of line)
hash_at [] b at = cc
hash_at (c ∷ cs) b at = hash_if (is_blank c) c cs b refl (hash_at cs b) at

blank_if : (t : Bool) (c : ℕ) (cs : List ℕ) → is_blank c ≡ t
    → (None ≡ slice_get cs (position_or_len starts_word cs) → are_none (words_of cs) ≡ true)
    → None ≡ slice_get (c ∷ cs) (cond (not (not t)) (1 + position_or_len starts_word cs) 0) → are_none (words_of (c ∷ cs)) ≡ true
blank_if true c cs is rest at = ap are_none (blank_skips c cs is) ∙ rest (at ∙ get_front c cs (position_or_len starts_word cs))
blank_if false c cs is rest at = cc

pub all_blank : (line : List ℕ) → None ≡ slice_get line (position_or_len starts_word line) → are_none (words_of line) ≡ true
all_blank [] at = refl
all_blank (c ∷ cs) at = blank_if (is_blank c) c cs refl (all_blank cs) at
