-- A statement without a fault in itself has its numbers in their ranges, and its name is spelled
-- right.
use Rattle.std.proofs.Common.{◌≡◌, ℕ, ◌-◌, ◌≤◌, Bool, true, false, ◌&&◌, cond, Option, Some, None, List, [], ◌∷◌, ◌++◌}
use Rattle.std.proofs.Common.{codes, drop, get_or, not, IfSome, All, nat_lt, nat_le, is_some, refl, arith}
use Rattle.std.proofs.lemmas.List.Elements.{All-nil, All-cons}
use Rattle.std.proofs.lemmas.Bool.{leb-true}
use Rattle.board_def.specs.Names.{is_name, name_of, name_bytes}
use Rattle.board_def.proofs.NameBack.{name_back}
use Rattle.board_words.specs.Faults.{rank, earlier, first_in_order}
use Rattle.board_words.specs.Forms.{is, number, name, at, full, part_number, mask_number, level_kinds, device_kinds}
use Rattle.board_words.specs.Forms.{one_of, spurious_form, parents_form, map_form, line_options, form_after}
use Rattle.board_words.specs.Forms.{device_options, is_of_later, faults_of, fault_of_words}
use Rattle.board_words.specs.Spelling.{value_of, is_decimal, before_star, after_star, times_of, wake_by, answer_named, answered, answer_of}
use Rattle.board_words.specs.Statements.{number_at, domain_words, domain_of, device_kind, device_words, part_at, after_part}
use Rattle.board_words.specs.Statements.{onto_answers, answers_of, picks_of, call_of, statement_after, statement_of}
use Rattle.board_words.specs.declared.statements.AnswerWord.{AnswerWord}
use Rattle.board_words.specs.declared.faults.FaultKind.{FaultKind}
use Rattle.board_words.specs.declared.faults.FaultKind.TheVariants as faults
use Rattle.board_words.specs.declared.statements.CallWords.{CallWords}
use Rattle.board_words.specs.declared.statements.PickWord.{PickWord}
use Rattle.board_words.specs.declared.statements.Statement.{Statement}
use Rattle.board_words.specs.declared.statements.Statement.TheVariants as statements
use Rattle.irq_base.specs.declared.devices.Kind.{Kind}
use Rattle.irq_base.specs.declared.devices.Kind.TheVariants as kinds
use Rattle.irq_base.specs.declared.devices.Part.{Part}
use Rattle.irq_base.specs.declared.devices.Part.TheVariants as parts
use Rattle.irq_base.specs.declared.devices.ToldAnswer.{ToldAnswer}
use Rattle.irq_base.specs.declared.devices.ToldAnswer.TheVariants as tolds
use Rattle.irq_base.specs.declared.domains.MapKind.TheVariants as maps
use Rattle.irq_model.specs.RunBounds.{is_wake_word}
use Rattle.irq_model.specs.ValidRuns.{may_answer}
use Rattle.board_stated.specs.Sound.{IsWellFormed, is_new_kind}

-- ---- a list of faults without a first one is empty

one_of_two : (t : Bool) (x y : FaultKind) → cond t (Some x) (Some y) ≡ None → ⊥
one_of_two true x y h = cc
one_of_two false x y h = cc

some_first : (kind : FaultKind) (o : Option FaultKind) → earlier kind o ≡ None → ⊥
some_first kind None h = cc
some_first kind (Some other) h = one_of_two (nat_lt (rank other) (rank kind)) other kind h

pub none_listed : (kinds : List FaultKind) → first_in_order kinds ≡ None → kinds ≡ []
none_listed [] h = refl
none_listed (kind ∷ kinds) h = absurd (some_first kind (first_in_order kinds) h)

both_empty : {A : Type 0} (xs ys : List A) → xs ++ ys ≡ [] → (xs ≡ []) × (ys ≡ [])
both_empty [] ys h = (refl, h)
both_empty (x ∷ xs) ys h = absurd cc

-- ---- what words at their places are

in_range : (a b c : Bool) (v : ℕ) → cond (is_some (cond (a && (b && c)) (Some v) None)) [] (faults.BadNumber ∷ []) ≡ [] → (b ≡ true) × (c ≡ true)
in_range true true true v h = (refl, refl)
in_range true true false v h = absurd cc
in_range true false c v h = absurd cc
in_range false b c v h = absurd cc

number_fits : (low high : ℕ) (word : List ℕ) → number low high word ≡ [] → (low ≤ value_of word) × (value_of word ≤ high)
number_fits low high word h =
    let tests = in_range (is_decimal word) (nat_le low (value_of word)) (nat_le (value_of word) high) (value_of word) h in
    (leb-true low (value_of word) tests.0, leb-true (value_of word) high tests.1)

is_spelled : (t : Bool) → cond t [] (faults.BadName ∷ []) ≡ [] → t ≡ true
is_spelled true h = refl
is_spelled false h = absurd cc

name_fits : (word : List ℕ) → name word ≡ [] → is_name (name_bytes (name_of word)) ≡ true
name_fits word h = let spelled = is_spelled (is_name word) h in rw (name_back word spelled) spelled

-- the first word is a number of that range
first_number : (low high : ℕ) (rest : List (List ℕ) → List FaultKind) (words : List (List ℕ))
    → at (number low high) rest words ≡ [] → (low ≤ number_at 0 words) × (number_at 0 words ≤ high)
first_number low high rest [] h = absurd cc
first_number low high rest (word ∷ words) h = number_fits low high word (both_empty (number low high word) (rest words) h).0

-- ---- the statements

spurious_fits : (words : List (List ℕ)) → spurious_form words ≡ [] → IsWellFormed (statements.Spurious (number_at 0 words) (number_at 1 words))
spurious_fits [] h = absurd cc
spurious_fits (window ∷ []) h = let parts = both_empty (number 1 1000000 window) (faults.WrongCount ∷ []) h in absurd cc
spurious_fits (window ∷ limit ∷ words) h =
    let parts = both_empty (number 1 1000000 window) (number 0 (value_of window - 1) limit ++ full words) h in
    let w = number_fits 1 1000000 window parts.0 in
    let l = number_fits 0 (value_of window - 1) limit (both_empty (number 0 (value_of window - 1) limit) (full words) parts.1).0 in
    (w.1, omega arith)

by_map : (version : ℕ) (t u : Bool) (first of : List ℕ) (words : List (List ℕ)) → is_name (name_bytes (name_of first)) ≡ true
    → cond t (at (number 1 1024) (at (one_of (level_kinds version)) parents_form) words)
    (cond u (at (one_of (level_kinds version)) parents_form words) (faults.UnknownWord ∷ [])) ≡ []
    → IsWellFormed (statements.Domain (cond t (domain_of (first ∷ of ∷ words)
    (maps.Linear (number_at 2 (first ∷ of ∷ words))) (drop 3 (first ∷ of ∷ words)))
    (domain_of (first ∷ of ∷ words) maps.Tree (drop 2 (first ∷ of ∷ words)))))
by_map version true u first of words spelled h = (spelled, first_number 1 1024 (at (one_of (level_kinds version)) parents_form) words h)
by_map version false u first of words spelled h = (spelled, tt)

domain_fits : (version : ℕ) (words : List (List ℕ)) → at name (map_form version) words ≡ [] → IsWellFormed (statements.Domain (domain_words words))
domain_fits version [] h = absurd cc
domain_fits version (word ∷ []) h = let parts = both_empty (name word) (faults.WrongCount ∷ []) h in absurd cc
domain_fits version (word ∷ of ∷ words) h =
    let parts = both_empty (name word) (map_form version (of ∷ words)) h in
    by_map version (is of (codes "linear")) (is of (codes "tree")) word of words (name_fits word parts.0) parts.1

-- ---- the statement of a first word is of the form of that word

if_right : (t : Bool) (xs ys : List FaultKind) (s r : Statement) → (xs ≡ [] → IsWellFormed s)
    → (ys ≡ [] → IsWellFormed r) → cond t xs ys ≡ [] → IsWellFormed (cond t s r)
if_right true xs ys s r then otherwise h = then h
if_right false xs ys s r then otherwise h = otherwise h

call_or_picks : (t : Bool) (picks : List PickWord) (c : CallWords) → IsWellFormed (cond t (statements.Picks picks) (statements.Call c))
call_or_picks true picks c = tt
call_or_picks false picks c = tt

-- a kind that is spelled is a new one's

new_by : (t : Bool) (k r : Kind) → is_new_kind k ≡ true → is_new_kind r ≡ true → is_new_kind (cond t k r) ≡ true
new_by true k r h rest = h
new_by false k r h rest = rest

new_kind : (word : List ℕ) → is_new_kind (device_kind word) ≡ true
new_kind word =
    new_by (is word (codes "direct")) kinds.Direct _ refl (new_by (is word (codes "check")) kinds.Check _ refl
    (new_by (is word (codes "null")) kinds.Null _ refl (new_by (is word (codes "odd")) kinds.Odd _ refl
    (new_by (is word (codes "told")) (kinds.Told false) kinds.Stuck refl refl))))

device_fits : (version : ℕ) (words : List (List ℕ))
    → at part_number (at part_number (at (one_of (device_kinds version)) (device_options version))) words ≡ []
    → IsWellFormed (statements.Device (device_words words))
device_fits version words h =
    (first_number 1 65535 (at part_number (at (one_of (device_kinds version)) (device_options version))) words h, new_kind (get_or words 2 []))

-- an answer that is spelled is one of its part

may_if : (part : Part) (t : Bool) (a : ToldAnswer) (rest : Option ToldAnswer) → may_answer (kinds.Told true) part a ≡ true
    → IfSome rest (λ a. may_answer (kinds.Told true) part a ≡ true) → IfSome (cond t (Some a) rest) (λ a. may_answer (kinds.Told true) part a ≡ true)
may_if part true a rest h others = h
may_if part false a rest h others = others

wake_last : (part : Part) (t : Bool) → IfSome (cond t (wake_by part) None) (λ a. may_answer (kinds.Told true) part a ≡ true)
wake_last parts.Primary true = refl
wake_last parts.Primary false = tt
wake_last parts.Thread true = tt
wake_last parts.Thread false = tt

may_of : (part : Part) (a : ToldAnswer) → not (is_wake_word a) ≡ true → may_answer (kinds.Told true) part a ≡ true
may_of parts.Primary a h = refl
may_of parts.Thread tolds.Handled h = refl
may_of parts.Thread tolds.Nothing h = refl
may_of parts.Thread tolds.Claims h = refl
may_of parts.Thread tolds.Wake h = absurd cc

named_may : (part : Part) (word : List ℕ) → IfSome (answer_named part word) (λ a. may_answer (kinds.Told true) part a ≡ true)
named_may part word =
    may_if part (is word (codes "handled")) tolds.Handled _ (may_of part tolds.Handled refl)
    (may_if part (is word (codes "nothing")) tolds.Nothing _ (may_of part tolds.Nothing refl)
    (may_if part (is word (codes "claims")) tolds.Claims _ (may_of part tolds.Claims refl) (wake_last part (is word (codes "wake")))))

word_may : (part : Part) (answer : Option ToldAnswer) (times : Option ℕ) → IfSome answer (λ a. may_answer (kinds.Told true) part a ≡ true)
    → IfSome (answered answer times) (λ a. may_answer (kinds.Told true) part a.answer ≡ true)
word_may part (Some answer) (Some times) h = h
word_may part (Some answer) None h = tt
word_may part None times h = tt

onto_may : (part : Part) (o : Option AnswerWord) (answers : List AnswerWord) → IfSome o (λ a. may_answer (kinds.Told true) part a.answer ≡ true)
    → All (λ a. may_answer (kinds.Told true) part a.answer ≡ true) answers
    → All (λ a. may_answer (kinds.Told true) part a.answer ≡ true) (onto_answers o answers)
onto_may part (Some a) answers h all = All-cons (λ (a : AnswerWord). may_answer (kinds.Told true) part a.answer ≡ true) a answers h all
onto_may part None answers h all = all

answers_may : (part : Part) (words : List (List ℕ)) → All (λ a. may_answer (kinds.Told true) part a.answer ≡ true) (answers_of part words)
answers_may part [] = All-nil (λ (a : AnswerWord). may_answer (kinds.Told true) part a.answer ≡ true)
answers_may part (word ∷ words) =
    onto_may part (answer_of part word) (answers_of part words)
    (word_may part (answer_named part (before_star word)) (times_of (after_star word)) (named_may part (before_star word)))
    (answers_may part words)

after_first : (version : ℕ) (word : List ℕ) (words : List (List ℕ)) → form_after version word words ≡ [] → IsWellFormed (statement_after word words)
after_first version word words =
    if_right (is word (codes "board")) _ _ _ _ (λ h. tt) (if_right (is word (codes "cpus")) _ _ _ _ (first_number 1 32 full words)
    (if_right (is word (codes "spurious")) _ _ _ _ (spurious_fits words) (if_right (is word (codes "log")) _ _ _ _ (first_number 1 1000000 full words)
    (if_right (is word (codes "domain")) _ _ _ _ (domain_fits version words)
    (if_right (is word (codes "line")) _ _ _ _ (first_number 1 65535 (at name (at mask_number line_options)) words)
    (if_right (is word (codes "device")) _ _ _ _ (device_fits version words)
    (if_right (is word (codes "answers")) _ _ _ _ (λ h. answers_may (part_at (drop 1 words)) (after_part (drop 1 words)))
    (if_right (is word (codes "handler")) _ _ _ _ (λ h. tt) (if_right (is word (codes "thread")) _ _ _ _ (λ h. tt)
    (if_right (is word (codes "driver")) _ _ _ _ (first_number 1 65535 full words)
    (λ h. call_or_picks (is word (codes "picks")) (picks_of words) (call_of word words))))))))))))

known_word : (t : Bool) (kinds : List FaultKind) → cond t (faults.UnknownWord ∷ []) kinds ≡ [] → kinds ≡ []
known_word true kinds h = absurd cc
known_word false kinds h = h

pub statement_is_well_formed : (version : ℕ) (words : List (List ℕ)) → fault_of_words version words ≡ None → IsWellFormed (statement_of words)
statement_is_well_formed version [] h = absurd cc
statement_is_well_formed version (word ∷ words) h =
    after_first version word words (known_word (is_of_later version word) (form_after version word words) (none_listed (faults_of version (word ∷ words)) h))
