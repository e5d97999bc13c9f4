-- A statement that a text of version 1 or 2 may have says nothing that is new.
use Rattle.std.proofs.Common.{◌≡◌, ℕ, Bool, true, false, not, ◌&&◌, ◌||◌, cond, None, List, [], ◌∷◌, ◌++◌}
use Rattle.std.proofs.Common.{codes, refl, sym, ap, subst, ◌∙◌}
use Rattle.std.specs.List.{list_any, flat_map}
use Rattle.std.proofs.lemmas.Slice.Eq.{bytes_eq-Decides}
use Rattle.board_words.specs.Forms.{is, at, full, part_number, one_of, device_kinds, all_device_kinds, old_device_kinds}
use Rattle.board_words.specs.Forms.{device_flags, device_options, form_after, run_words, is_of_later, faults_of, fault_of_words}
use Rattle.board_words.specs.Statements.{stands, device_kind, device_words, call_of, statement_after, statement_of}
use Rattle.board_words.specs.Versions.{has_moments, has_runs}
use Rattle.board_words.specs.declared.faults.FaultKind.{FaultKind}
use Rattle.board_words.specs.declared.faults.FaultKind.TheVariants as faults
use Rattle.board_words.specs.declared.statements.CallWords.{CallWords}
use Rattle.board_words.specs.declared.statements.Statement.{Statement}
use Rattle.board_words.specs.declared.statements.Statement.TheVariants as statements
use Rattle.board_stated.specs.Stated.{call_of_words}
use Rattle.board_stated.proofs.WellFormed.{none_listed}
use Rattle.board_stated.specs.OfVersion.{has_old_row, is_told_kind}

-- the statement is one that earlier versions have
abbrev pub is_old : Statement → Bool
is_old (statements.Device d) = not (is_told_kind d.kind) && not d.held
is_old (statements.Answers dev part answers) = false
is_old (statements.Runs dev part) = false
is_old (statements.Call c) = has_old_row (call_of_words c)
is_old _ = true

-- ---- tests of a word

same_word : (word text : List ℕ) → is word text ≡ true → word ≡ text
same_word word text h = (bytes_eq-Decides word text).0 h

neither : (a b : Bool) → (a || b) ≡ false → (a ≡ false) × (b ≡ false)
neither true b h = absurd cc
neither false b h = (refl, h)

-- the word is none of the new ones
pub record IsNone (word : List ℕ) : Type 0 where
  pub answers : is word (codes "answers") ≡ false
  pub handler : is word (codes "handler") ≡ false
  pub thread : is word (codes "thread") ≡ false
  pub wake : is word (codes "wake") ≡ false
  pub quiet : is word (codes "quiet") ≡ false
  pub arm : is word (codes "arm") ≡ false
  pub serve : is word (codes "serve") ≡ false

none_of : (word : List ℕ) → list_any (is word) run_words ≡ false → IsNone word
none_of word h =
    let a = neither (is word (codes "answers")) _ h in
    let b = neither (is word (codes "handler")) _ a.1 in
    let c = neither (is word (codes "thread")) _ b.1 in
    let d = neither (is word (codes "sync_hard")) _ c.1 in
    let e = neither (is word (codes "disable_hard")) _ d.1 in
    let f = neither (is word (codes "wake")) _ e.1 in
    let g = neither (is word (codes "quiet")) _ f.1 in
    let i = neither (is word (codes "arm")) _ g.1 in
    let j = neither (is word (codes "serve")) _ i.1 in
    record { answers = a.0; handler = b.0; thread = c.0; wake = f.0; quiet = g.0; arm = i.0; serve = j.0 }

of_moment : (word : List ℕ) → word ≡ codes "moment" → IsNone word
of_moment word e = subst IsNone (sym e) (record { answers = refl; handler = refl; thread = refl; wake = refl; quiet = refl; arm = refl; serve = refl })

-- ---- calls

abbrev Old : CallWords → Type 0
Old c = has_old_row (call_of_words c) ≡ true

old_if : (t : Bool) (c r : CallWords) → Old c → Old r → Old (cond t c r)
old_if true c r h rest = h
old_if false c r h rest = rest

old_never : (t : Bool) (c r : CallWords) → t ≡ false → Old r → Old (cond t c r)
old_never true c r off rest = absurd cc
old_never false c r off rest = rest

old_call : (word : List ℕ) (words : List (List ℕ)) → IsNone word → Old (call_of word words)
old_call word words none =
    old_if (is word (codes "request")) _ _ refl (old_if (is word (codes "free")) _ _ refl (old_if (is word (codes "ask")) _ _ refl
    (old_if (is word (codes "disable")) _ _ refl (old_if (is word (codes "disable_nosync")) _ _ refl (old_if (is word (codes "enable")) _ _ refl
    (old_if (is word (codes "sync")) _ _ refl (old_if (is word (codes "moment")) _ _ refl (old_if (is word (codes "sync_hard")) _ _ refl
    (old_if (is word (codes "disable_hard")) _ _ refl (old_never (is word (codes "wake")) _ _ none.wake
    (old_never (is word (codes "quiet")) _ _ none.quiet (old_never (is word (codes "arm")) _ _ none.arm
    (old_never (is word (codes "serve")) _ _ none.serve refl)))))))))))))

-- ---- devices

both_empty : {A : Type 0} (xs ys : List A) → xs ++ ys ≡ [] → (xs ≡ []) × (ys ≡ [])
both_empty [] ys h = (refl, h)
both_empty (x ∷ xs) ys h = absurd cc

listed : (t : Bool) → cond t [] (faults.UnknownWord ∷ []) ≡ [] → t ≡ true
listed true h = refl
listed false h = absurd cc

old_kind : (word : List ℕ) → list_any (is word) old_device_kinds ≡ true → is_told_kind (device_kind word) ≡ false
old_kind word h = by (is word (codes "direct")) (is word (codes "check")) (is word (codes "null")) (is word (codes "stuck")) refl refl refl refl h
  where
    kind_is : (text : List ℕ) → is word text ≡ true → is_told_kind (device_kind text) ≡ false → is_told_kind (device_kind word) ≡ false
    kind_is text e f = ap (λ w. is_told_kind (device_kind w)) (same_word word text e) ∙ f

    by : (a b c d : Bool) → is word (codes "direct") ≡ a → is word (codes "check") ≡ b → is word (codes "null") ≡ c → is word (codes "stuck") ≡ d
        → (a || (b || (c || (d || false)))) ≡ true → is_told_kind (device_kind word) ≡ false
    by true b c d e f g i h = kind_is (codes "direct") e refl
    by false true c d e f g i h = kind_is (codes "check") f refl
    by false false true d e f g i h = kind_is (codes "null") g refl
    by false false false true e f g i h = kind_is (codes "stuck") i refl
    by false false false false e f g i h = absurd cc

is_plain : (told held : Bool) → told ≡ false → held ≡ false → (not told && not held) ≡ true
is_plain false false e f = refl
is_plain true held e f = absurd cc
is_plain false true e f = absurd cc

nothing_more : (words : List (List ℕ)) → full words ≡ [] → stands (codes "held") words ≡ false
nothing_more [] h = refl
nothing_more (word ∷ words) h = absurd cc

old_device : (version : ℕ) (words : List (List ℕ)) → has_runs version ≡ false
    → at part_number (at part_number (at (one_of (device_kinds version)) (device_options version))) words ≡ []
    → is_old (statements.Device (device_words words)) ≡ true
old_device version [] early h = absurd cc
old_device version (a ∷ []) early h = let parts = both_empty (part_number a) (faults.WrongCount ∷ []) h in absurd cc
old_device version (a ∷ b ∷ []) early h =
    let parts = both_empty (part_number a) _ h in
    let more = both_empty (part_number b) (faults.WrongCount ∷ []) parts.1 in absurd cc
old_device version (a ∷ b ∷ k ∷ options) early h =
    let parts = both_empty (part_number a) _ h in
    let more = both_empty (part_number b) _ parts.1 in
    let last = both_empty (one_of (device_kinds version) k) (device_options version options) more.1 in
    let kinds : one_of old_device_kinds k ≡ [] = sym (ap (λ t. one_of (cond t all_device_kinds old_device_kinds) k) early) ∙ last.0 in
    let none : full options ≡ [] = sym (ap (λ t. cond t (flat_map (one_of device_flags) options) (full options)) early) ∙ last.1 in
    is_plain (is_told_kind (device_kind k)) (stands (codes "held") options)
    (old_kind k (listed (list_any (is k) old_device_kinds) kinds)) (nothing_more options none)

-- ---- the statement of a first word

if_right : (t : Bool) (xs ys : List FaultKind) (s r : Statement) → (xs ≡ [] → is_old s ≡ true)
    → (ys ≡ [] → is_old r ≡ true) → cond t xs ys ≡ [] → is_old (cond t s r) ≡ true
if_right true xs ys s r then otherwise h = then h
if_right false xs ys s r then otherwise h = otherwise h

if_never : (t : Bool) (xs ys : List FaultKind) (s r : Statement) → t ≡ false
    → (ys ≡ [] → is_old r ≡ true) → cond t xs ys ≡ [] → is_old (cond t s r) ≡ true
if_never true xs ys s r off otherwise h = absurd cc
if_never false xs ys s r off otherwise h = otherwise h

if_last : (t : Bool) (s r : Statement) → is_old s ≡ true → is_old r ≡ true → is_old (cond t s r) ≡ true
if_last true s r h rest = h
if_last false s r h rest = rest

after_first : (version : ℕ) (word : List ℕ) (words : List (List ℕ)) → has_runs version ≡ false → IsNone word
    → form_after version word words ≡ [] → is_old (statement_after word words) ≡ true
after_first version word words early none =
    if_right (is word (codes "board")) _ _ _ _ (λ h. refl) (if_right (is word (codes "cpus")) _ _ _ _ (λ h. refl)
    (if_right (is word (codes "spurious")) _ _ _ _ (λ h. refl) (if_right (is word (codes "log")) _ _ _ _ (λ h. refl)
    (if_right (is word (codes "domain")) _ _ _ _ (λ h. refl) (if_right (is word (codes "line")) _ _ _ _ (λ h. refl)
    (if_right (is word (codes "device")) _ _ _ _ (old_device version words early)
    (if_never (is word (codes "answers")) _ _ _ _ none.answers (if_never (is word (codes "handler")) _ _ _ _ none.handler
    (if_never (is word (codes "thread")) _ _ _ _ none.thread (if_right (is word (codes "driver")) _ _ _ _ (λ h. refl)
    (λ h. if_last (is word (codes "picks")) _ _ refl (old_call word words none))))))))))))

-- no new word, and a form without a fault
known : (t : Bool) (kinds : List FaultKind) → cond t (faults.UnknownWord ∷ []) kinds ≡ [] → (t ≡ false) × (kinds ≡ [])
known true kinds h = absurd cc
known false kinds h = (refl, h)

no_new : (version : ℕ) (word : List ℕ) → has_runs version ≡ false → is_of_later version word ≡ false → IsNone word
no_new version word early h = by (is word (codes "moment")) refl h
  where
    not_listed : (any runs : Bool) → runs ≡ false → (any && not runs) ≡ false → any ≡ false
    not_listed true true e f = absurd cc
    not_listed true false e f = absurd cc
    not_listed false runs e f = refl

    by : (t : Bool) → is word (codes "moment") ≡ t → cond t (not (has_moments version))
        (list_any (is word) run_words && not (has_runs version)) ≡ false → IsNone word
    by true e h = of_moment word (same_word word (codes "moment") e)
    by false e h = none_of word (not_listed (list_any (is word) run_words) (has_runs version) early h)

pub old_statement : (version : ℕ) (words : List (List ℕ)) → has_runs version ≡ false → fault_of_words version words ≡ None → is_old (statement_of words) ≡ true
old_statement version [] early h = absurd cc
old_statement version (word ∷ words) early h =
    let both = known (is_of_later version word) (form_after version word words) (none_listed (faults_of version (word ∷ words)) h) in
    after_first version word words early (no_new version word early both.0) both.1
