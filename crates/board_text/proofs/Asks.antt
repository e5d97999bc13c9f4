-- A text line that is `ask` and a number.
use Rattle.std.proofs.Common.{◌≡◌, ℕ, ◌+◌, ◌-◌, ◌*◌, ◌≤◌, ◌<◌, Bool, true, false, cond, not, ◌&&◌}
use Rattle.std.proofs.Common.{Some, None, Result, List, [], ◌∷◌, ◌++◌, codes, length, get_or, take, drop, nat_le, refl, sym, ap, ◌∙◌, subst, arith}
use Rattle.std.specs.List.{list_all}
use Rattle.std.proofs.lemmas.Bool.{and_parts}
use Rattle.std.proofs.lemmas.List.{take_rest, at_drop_more}
use Rattle.std.proofs.lemmas.Bool.Decides.{nat_tests}
use Rattle.board_def.specs.Names.{is_digit}
use Rattle.irq_base.specs.declared.numbers.DevNo.{DevNo}
use Rattle.board_stated.specs.FaultsAfter.{is_empty}
use Rattle.board_stated.specs.Sections.{writer_of}
use Rattle.board_stated.specs.Stated.{board_of}
use Rattle.board_stated.specs.declared.writers.Writer.TheVariants as writers
use Rattle.board_text.specs.Given.{Takes, ReadsLine}
use Rattle.board_text.specs.Kept.{Keeps}
use Rattle.board_text.specs.declared.reader.Reader.{Reader}
use Rattle.board_text.proofs.ReadLines.{line_taken}
use Rattle.board_words.specs.Forms.{fault_of_words}
use Rattle.board_words.specs.Spelling.{number_between, value_of, is_decimal}
use Rattle.board_words.specs.Statements.{statement_of}
use Rattle.board_words.specs.TextLines.{text_lines, is_line_feed, onto_first, words_of, without_comment, split_at_blanks}
use Rattle.board_words.specs.TextLines.{has_bad_byte, is_allowed, is_blank, is_hash}
use Rattle.board_words.specs.declared.statements.CallWords.TheVariants as calls
use Rattle.board_words.specs.declared.statements.Statement.{Statement}
use Rattle.board_words.specs.declared.statements.Statement.TheVariants as statements
use Rattle.board_words.specs.declared.statements.StatementRefused.{StatementRefused}

-- the text line of an ask

abbrev asked : List ℕ → List ℕ
asked digits = codes "ask " ++ digits

digit_facts : (d : ℕ) → is_digit d ≡ true
    → (is_line_feed d ≡ false) × (is_allowed d ≡ true) × (is_hash d ≡ false) × (is_blank d ≡ false)
digit_facts d digit = (grind (arith, nat_tests), grind (arith, nat_tests), grind (arith, nat_tests), grind (arith, nat_tests))

first_digits : (ds rest : List ℕ) → list_all is_digit ds ≡ true → text_lines (ds ++ 10 ∷ rest) ≡ ds ∷ text_lines rest
first_digits [] rest all = refl
first_digits (d ∷ ds) rest all =
    let both = and_parts (is_digit d) (list_all is_digit ds) all in
    rw ((digit_facts d both.0).0, first_digits ds rest both.1) refl

first_asked : (ds rest : List ℕ) → list_all is_digit ds ≡ true → text_lines (asked ds ++ 10 ∷ rest) ≡ asked ds ∷ text_lines rest
first_asked ds rest all = ap (λ ls. onto_first 97 (onto_first 115 (onto_first 107 (onto_first 32 ls)))) (first_digits ds rest all)

allowed_digits : (ds : List ℕ) → list_all is_digit ds ≡ true → list_all is_allowed ds ≡ true
allowed_digits [] all = refl
allowed_digits (d ∷ ds) all =
    let both = and_parts (is_digit d) (list_all is_digit ds) all in
    rw ((digit_facts d both.0).1) (allowed_digits ds both.1)

good_asked : (ds : List ℕ) → list_all is_digit ds ≡ true → has_bad_byte (asked ds) ≡ false
good_asked ds all = ap (λ t. not t) (allowed_digits ds all)

digits_stay : (ds : List ℕ) → list_all is_digit ds ≡ true → without_comment ds ≡ ds
digits_stay [] all = refl
digits_stay (d ∷ ds) all =
    let both = and_parts (is_digit d) (list_all is_digit ds) all in
    rw ((digit_facts d both.0).2) (ap (λ (bs : List ℕ). d ∷ bs) (digits_stay ds both.1))

first_if : (t u : Bool) (x y z w : List (List ℕ)) → t ≡ false → u ≡ false → y ≡ w → cond t x (cond (not u) y z) ≡ w
first_if t u x y z w e f is = rw (e, f) is

one_word : (d : ℕ) (ds : List ℕ) → list_all is_digit (d ∷ ds) ≡ true → split_at_blanks (d ∷ ds) ≡ (d ∷ ds) ∷ []
one_word d [] all =
    let both = and_parts (is_digit d) true all in
    rw ((digit_facts d both.0).3) refl
one_word d (e ∷ ds) all =
    let both = and_parts (is_digit d) (list_all is_digit (e ∷ ds)) all in
    let next = and_parts (is_digit e) (list_all is_digit ds) both.1 in
    let word = one_word e ds both.1 in
    first_if (is_blank d) (is_blank e) (split_at_blanks (e ∷ ds)) (onto_first d (split_at_blanks (e ∷ ds)))
    ((d ∷ []) ∷ split_at_blanks (e ∷ ds)) ((d ∷ e ∷ ds) ∷ []) (digit_facts d both.0).3 (digit_facts e next.0).3 (ap (onto_first d) word)

spelled_if : (t : Bool) (v n : ℕ) → cond t (Some v) None ≡ Some n → (t ≡ true) × (v ≡ n)
spelled_if true v n is = (refl, cc)
spelled_if false v n is = cc

spelled : (ds : List ℕ) (n : ℕ) → number_between 1 65535 ds ≡ Some n → (list_all is_digit ds ≡ true) × (value_of ds ≡ n)
spelled ds n is =
    let told = spelled_if _ (value_of ds) n is in
    let decimal = and_parts (is_decimal ds) _ told.0 in
    let formed = and_parts _ _ decimal.0 in
    ((and_parts (list_all is_digit ds) _ formed.0).0, told.1)

words_asked : (ds : List ℕ) (n : ℕ) → number_between 1 65535 ds ≡ Some n → words_of (asked ds) ≡ codes "ask" ∷ ds ∷ []
words_asked [] n is = cc
words_asked (d ∷ ds) n is =
    let all = (spelled (d ∷ ds) n is).0 in
    ap (λ bs. onto_first 97 (onto_first 115 ((107 ∷ []) ∷ split_at_blanks bs))) (digits_stay (d ∷ ds) all)
    ∙ ap (λ ws. onto_first 97 (onto_first 115 ((107 ∷ []) ∷ ws))) (one_word d ds all)

no_fault : (version : ℕ) (ds : List ℕ) (n : ℕ) → number_between 1 65535 ds ≡ Some n → fault_of_words version (codes "ask" ∷ ds ∷ []) ≡ None
no_fault version ds n is = rw is refl

said : (ds : List ℕ) (n : ℕ) → value_of ds ≡ n → statements.Call (calls.Ask (record { 0 = n })) ≡ statement_of (codes "ask" ∷ ds ∷ [])
said ds n is = ap (λ k. statements.Call (calls.Ask (record { 0 = k }))) (sym is)

begun : (past : List Statement) (other : Bool) → writer_of past ≡ writers.Driver → (is_empty past && other) ≡ false
begun [] other at = absurd cc
begun (s ∷ past) other at =
    let some : is_empty (s ∷ past) ≡ false = grind arith in ap (λ t. t && other) some

-- in a driver's script, it is read by taking the ask
pub ask_taken : (past : List Statement) (text digits rest line : List ℕ) (left : List (List ℕ)) (dev : DevNo) (r q : Reader)
    (result : Result Unit StatementRefused) → text ≡ asked digits ++ 10 ∷ rest → number_between 1 65535 digits ≡ Some dev.0
    → r.writer ≡ writers.Driver → Keeps past r → text_lines text ≡ line ∷ left → Takes past (statements.Call (calls.Ask dev)) q result
    → ReadsLine past line q result
ask_taken past text digits rest line left dev r q result is number script keeps lines takes =
    let told = spelled digits dev.0 number in
    let cut : asked digits ∷ text_lines rest ≡ line ∷ left = sym (ap text_lines is ∙ first_asked digits rest told.0) ∙ lines in
    let same : asked digits ≡ line = cc in
    subst (λ (l : List ℕ). ReadsLine past l q result) same
    (line_taken past (asked digits) (codes "ask" ∷ digits ∷ []) (statements.Call (calls.Ask dev)) q result
    (sym (words_asked digits dev.0 number)) (good_asked digits told.0) refl (begun past _ (sym keeps.agrees.writer ∙ script))
    (no_fault (board_of past).version digits dev.0 number) (said digits dev.0 told.1) keeps.sound takes)

-- what follows it
pub ask_left : (text digits rest line : List ℕ) (left : List (List ℕ)) (n : ℕ) → text ≡ asked digits ++ 10 ∷ rest
    → number_between 1 65535 digits ≡ Some n → text_lines text ≡ line ∷ left → text_lines rest ≡ left
ask_left text digits rest line left n is number lines =
    let told = spelled digits n number in
    let cut : asked digits ∷ text_lines rest ≡ line ∷ left = sym (ap text_lines is ∙ first_asked digits rest told.0) ∙ lines in
    cc

-- the numbers of one to three digits

abbrev above_zero : ℕ → Bool
above_zero b = nat_le 49 b && nat_le b 57

one_digit : (a : ℕ) → above_zero a ≡ true → number_between 1 65535 (a ∷ []) ≡ Some (a - 48)
one_digit a some = grind (arith, nat_tests)

two_digits : (a b : ℕ) → above_zero a ≡ true → is_digit b ≡ true → number_between 1 65535 (a ∷ b ∷ []) ≡ Some (10 * (a - 48) + (b - 48))
two_digits a b some digit = grind (arith, nat_tests)

three_digits : (a b c : ℕ) → above_zero a ≡ true → is_digit b ≡ true → is_digit c ≡ true
    → number_between 1 65535 (a ∷ b ∷ c ∷ []) ≡ Some (10 * (10 * (a - 48) + (b - 48)) + (c - 48))
three_digits a b c some digit last = grind (arith, nat_tests)

-- the bytes at the front of a text, one after another

led : (b : ℕ) (bs text : List ℕ) (i : ℕ) → i < length text → get_or text i 0 ≡ b → drop (i + 1) text ≡ bs → drop i text ≡ b ∷ bs
led b bs text i less is rest = at_drop_more (λ xs. xs) text i 0 less ∙ ap (λ x. x ∷ drop (i + 1) text) is ∙ ap (λ (xs : List ℕ). b ∷ xs) rest

pub one_read : (text : List ℕ) → 6 ≤ length text → get_or text 0 0 ≡ 97 → get_or text 1 0 ≡ 115 → get_or text 2 0 ≡ 107 → get_or text 3 0 ≡ 32
    → get_or text 5 0 ≡ 10 → above_zero (get_or text 4 0) ≡ true
    → (digits : List ℕ) × (text ≡ asked digits ++ 10 ∷ take (length text - 6) (drop 6 text))
    × (number_between 1 65535 digits ≡ Some (get_or text 4 0 - 48))
one_read text long a s k blank end some =
    let digit = get_or text 4 0 in
    let after = led 10 _ text 5 (omega (arith, long)) end (sym (take_rest text 6)) in
    let number = led digit _ text 4 (omega (arith, long)) refl after in
    let word = led 107 _ text 2 (omega (arith, long)) k (led 32 _ text 3 (omega (arith, long)) blank number) in
    (digit ∷ [], led 97 _ text 0 (omega (arith, long)) a (led 115 _ text 1 (omega (arith, long)) s word), one_digit digit some)

pub two_read : (text : List ℕ) → 3 ≤ length text → get_or text 2 0 ≡ 10 → above_zero (get_or text 0 0) ≡ true → is_digit (get_or text 1 0) ≡ true
    → (digits : List ℕ) × (text ≡ digits ++ 10 ∷ take (length text - 3) (drop 3 text))
    × (number_between 1 65535 digits ≡ Some (10 * (get_or text 0 0 - 48) + (get_or text 1 0 - 48)))
two_read text long end some digit =
    let tens = get_or text 0 0 in
    let ones = get_or text 1 0 in
    let after = led 10 _ text 2 (omega (arith, long)) end (sym (take_rest text 3)) in
    let last = led ones _ text 1 (omega (arith, long)) refl after in
    (tens ∷ ones ∷ [], led tens _ text 0 (omega (arith, long)) refl last, two_digits tens ones some digit)

pub three_read : (text : List ℕ) → 4 ≤ length text → get_or text 3 0 ≡ 10 → above_zero (get_or text 0 0) ≡ true
    → is_digit (get_or text 1 0) ≡ true → is_digit (get_or text 2 0) ≡ true
    → (digits : List ℕ) × (text ≡ digits ++ 10 ∷ take (length text - 4) (drop 4 text))
    × (number_between 1 65535 digits ≡ Some (10 * (10 * (get_or text 0 0 - 48) + (get_or text 1 0 - 48)) + (get_or text 2 0 - 48)))
three_read text long end some digit other =
    let hundreds = get_or text 0 0 in
    let tens = get_or text 1 0 in
    let ones = get_or text 2 0 in
    let after = led 10 _ text 3 (omega (arith, long)) end (sym (take_rest text 4)) in
    let last = led tens _ text 1 (omega (arith, long)) refl (led ones _ text 2 (omega (arith, long)) refl after) in
    (hundreds ∷ tens ∷ ones ∷ [], led hundreds _ text 0 (omega (arith, long)) refl last, three_digits hundreds tens ones some digit other)
