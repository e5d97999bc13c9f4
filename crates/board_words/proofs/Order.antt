-- The first of several faults, place by place.
use Rattle.std.proofs.Common.{◌≡◌, ℕ, zero, suc, Bool, true, false, cond, ltb, List, [], ◌∷◌, ◌++◌, drop, get_or}
use Rattle.std.proofs.Common.{length, ◌<◌, Option, Some, None, Ok, Err, refl, sym, ap, ◌∙◌, arith}
use Rattle.std.proofs.lemmas.Bool.Decides.{nat_tests}
use Rattle.board_def.specs.Names.{name_of}
use Rattle.board_def.specs.declared.names.Name.{Name}
use Rattle.board_words.specs.Spelling.{value_of}
use Rattle.board_words.specs.Statements.{number_at, name_at}
use Rattle.board_words.specs.Faults.{rank, earlier, first_in_order}
use Rattle.board_words.specs.Forms.{at}
use Rattle.board_words.specs.Places.{both, fault_at, Takes, in_all, outcome}
use Rattle.board_words.specs.Seen.{words_left, are_none}
use Rattle.board_words.specs.declared.faults.FaultKind.{FaultKind}
use Rattle.board_words.specs.declared.faults.FaultKind.TheVariants as faults
use Rattle.board_words.specs.declared.places.Places.{Places}

pub both_none : (found : Option FaultKind) → both found None ≡ found
both_none None = refl
both_none (Some kind) = refl

chosen : (a b c : Bool) (i j k : FaultKind) → ltb (rank j) (rank k) ≡ a → ltb (rank i) (rank j) ≡ b → ltb (rank i) (rank k) ≡ c
    → both (cond a (Some j) (Some k)) (Some i) ≡ both (Some k) (cond b (Some i) (Some j))
chosen true true true i j k is_a is_b is_c = rw (is_b, is_c) refl
chosen true true false i j k is_a is_b is_c = absurd (grind (arith, nat_tests))
chosen true false c i j k is_a is_b is_c = rw (is_b, is_a) refl
chosen false true c i j k is_a is_b is_c = refl
chosen false false true i j k is_a is_b is_c = absurd (grind (arith, nat_tests))
chosen false false false i j k is_a is_b is_c = rw (is_c, is_a) refl

pub both_assoc : (f g h : Option FaultKind) → both (both f g) h ≡ both f (both g h)
both_assoc None g h = refl
both_assoc (Some k) None h = refl
both_assoc (Some k) (Some j) None = both_none (both (Some k) (Some j)) ∙ refl
both_assoc (Some k) (Some j) (Some i) = chosen _ _ _ i j k refl refl refl

first_append : (xs ys : List FaultKind) → first_in_order (xs ++ ys) ≡ both (first_in_order xs) (first_in_order ys)
first_append [] ys = refl
first_append (k ∷ xs) ys = ap (earlier k) (first_append xs ys) ∙ sym (both_assoc (Some k) (first_in_order xs) (first_in_order ys))

pub both_append : (f : Option FaultKind) (xs ys : List FaultKind) → both f (first_in_order (xs ++ ys)) ≡ both (both f (first_in_order xs)) (first_in_order ys)
both_append f xs ys = ap (both f) (first_append xs ys) ∙ sym (both_assoc f (first_in_order xs) (first_in_order ys))

-- without words a form needs nothing, or words
abbrev pub EndsWell : List FaultKind → Type 0
EndsWell [] = Unit {0}
EndsWell (k ∷ []) = k ≡ faults.WrongCount
EndsWell (k ∷ j ∷ ks) = ⊥

ended : (f : Option FaultKind) (ks : List FaultKind) → EndsWell ks
    → both f (Some faults.WrongCount) ≡ both (both f (Some faults.WrongCount)) (first_in_order ks)
ended f [] h = sym (both_none (both f (Some faults.WrongCount)))
ended f (k ∷ []) h =
    sym (both_assoc f (Some faults.WrongCount) (Some faults.WrongCount)) ∙ ap (λ j. both (both f (Some faults.WrongCount)) (Some j)) (sym h)
ended f (k ∷ j ∷ ks) h = absurd h

placed : (f : Option FaultKind) (place : List ℕ → List FaultKind) (rest : List (List ℕ) → List FaultKind) (words : List (List ℕ)) → EndsWell (rest [])
    → both f (first_in_order (at place rest words)) ≡ both (both f (fault_at place words)) (first_in_order (rest (drop 1 words)))
placed f place rest [] ends = ended f (rest []) ends
placed f place rest (word ∷ words) ends = both_append f (place word) (rest words)

-- a place is taken, and the rest of the form is left
pub step : {place : List ℕ → List FaultKind} {old new : Places} → Takes place old new → (rest : List (List ℕ) → List FaultKind) → EndsWell (rest [])
    → in_all old (at place rest) ≡ in_all new rest
step {place} {old} {new} takes rest ends =
    placed old.found place rest (words_left old.words) ends
    ∙ ap (λ f. both f (first_in_order (rest (drop 1 (words_left old.words))))) (sym takes.found)
    ∙ ap (λ ws. both new.found (first_in_order (rest ws))) (sym takes.words)

left_none : (f g : Option FaultKind) → both f g ≡ None → f ≡ None
left_none None g h = refl
left_none (Some k) None h = cc
left_none (Some k) (Some j) h = kept (ltb (rank j) (rank k)) j k h where
  kept : (t : Bool) (j k : FaultKind) → cond t (Some j) (Some k) ≡ None → Some k ≡ None
  kept true j k h = cc
  kept false j k h = h

-- if nothing is found in the end, nothing was found before
pub none_before : {place : List ℕ → List FaultKind} {old new : Places} → Takes place old new → new.found ≡ None → old.found ≡ None
none_before {place} {old} {new} takes none = left_none old.found (fault_at place (words_left old.words)) (sym takes.found ∙ none)

pub none_before_all : (old : Places) (form : List (List ℕ) → List FaultKind) (found : Option FaultKind)
    → found ≡ in_all old form → found ≡ None → old.found ≡ None
none_before_all old form found is none = left_none old.found (first_in_order (form (words_left old.words))) (sym is ∙ none)

-- the outcome of a whole form
pub whole : {A : Type 0} (form : List (List ℕ) → List FaultKind) (begun : Places) (words : List (List ℕ)) (found : Option FaultKind) (v w : A)
    → begun.found ≡ None → words_left begun.words ≡ words → in_all begun form ≡ found → (found ≡ None → v ≡ w)
    → outcome found v ≡ outcome (first_in_order (form words)) w
whole form begun words found v w none is all same =
    same_value found v w same ∙ ap (λ f. outcome f w) (sym all
    ∙ ap (λ f. both f (first_in_order (form (words_left begun.words)))) none
    ∙ ap (λ ws. first_in_order (form ws)) is) where
      same_value : {A : Type 0} (found : Option FaultKind) (v w : A) → (found ≡ None → v ≡ w) → outcome found v ≡ outcome found w
      same_value None v w same = ap (λ x. Ok x) (same refl)
      same_value (Some kind) v w same = refl

-- an outcome through a constructor
pub outcome_ok : {A B : Type 0} (g : A → B) (found : Option FaultKind) (v x : A) → Ok x ≡ outcome found v → Ok (g x) ≡ outcome found (g v)
outcome_ok g None v x h = let e : x ≡ v = cc in ap (λ y. Ok (g y)) e
outcome_ok g (Some kind) v x h = cc

pub outcome_err : {A B : Type 0} (found : Option FaultKind) (v : A) (w : B) (kind : FaultKind) → Err kind ≡ outcome found v → Err kind ≡ outcome found w
outcome_err None v w kind h = cc
outcome_err (Some other) v w kind h = let e : kind ≡ other = cc in ap (λ k. Err k) e

drop_next : (i : ℕ) (words : List (List ℕ)) → drop 1 (drop i words) ≡ drop (suc i) words
drop_next zero words = refl
drop_next (suc i) [] = refl
drop_next (suc i) (word ∷ words) = drop_next i words

-- how many words are taken
pub left : {place : List ℕ → List FaultKind} {old new : Places} (i : ℕ) (words : List (List ℕ)) → Takes place old new
    → words_left old.words ≡ drop i words → words_left new.words ≡ drop (suc i) words
left i words takes e = takes.words ∙ ap (drop 1) e ∙ drop_next i words

front_of : (i : ℕ) (words : List (List ℕ)) → get_or (drop i words) 0 [] ≡ get_or words i []
front_of zero words = refl
front_of (suc i) [] = refl
front_of (suc i) (word ∷ words) = front_of i words

-- the word that is read next
pub next_word : (i : ℕ) (words rest : List (List ℕ)) → rest ≡ drop i words → get_or rest 0 [] ≡ get_or words i []
next_word i words rest e = ap (λ ws. get_or ws 0 []) e ∙ front_of i words

pub next_number : (i : ℕ) (words rest : List (List ℕ)) (n : ℕ) → n ≡ number_at 0 rest → rest ≡ drop i words → n ≡ number_at i words
next_number i words rest n is e = is ∙ ap value_of (next_word i words rest e)

pub next_name : (i : ℕ) (words rest : List (List ℕ)) (n : Name) → n ≡ name_at 0 rest → rest ≡ drop i words → n ≡ name_at i words
next_name i words rest n is e = is ∙ ap name_of (next_word i words rest e)

pub fewer : (words : List (List ℕ)) → are_none words ≡ false → length (drop 1 words) < length words
fewer [] h = cc
fewer (word ∷ words) h = omega arith
