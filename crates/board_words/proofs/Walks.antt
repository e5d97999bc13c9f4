-- The forms that repeat: parents, options, and the way of a map.
use Rattle.std.proofs.Common.{◌≡◌, ℕ, Bool, true, false, not, cond, ◌||◌, List, [], ◌∷◌, ◌++◌, drop, get_or, codes, Option, Some, None, refl, sym, ap, ◌∙◌}
use Rattle.std.proofs.lemmas.List.{append-nil}
use Rattle.std.specs.List.{list_any, flat_map}
use Rattle.irq_base.specs.declared.devices.Part.{Part}
use Rattle.irq_base.specs.declared.devices.Part.TheVariants as parts
use Rattle.board_words.specs.Faults.{first_in_order}
use Rattle.board_words.specs.Forms.{is, at, number, name, one_of, mask_number, parents_form, line_options, map_form, level_kinds}
use Rattle.board_words.specs.Forms.{answer, answers_form, part_form}
use Rattle.board_words.specs.Places.{both, fault_at, Takes, in_all, option_texts}
use Rattle.board_words.specs.Seen.{words_left, are_none}
use Rattle.board_words.specs.Statements.{name_at, parent_name, has_more_parents}
use Rattle.board_words.specs.declared.faults.FaultKind.{FaultKind}
use Rattle.board_words.specs.declared.faults.FaultKind.TheVariants as faults
use Rattle.board_words.specs.declared.places.Places.{Places}
use Rattle.board_words.proofs.Order.{step}

-- two forms that agree on the words that are left
agree : (old : Places) (form other : List (List ℕ) → List FaultKind)
    → form (words_left old.words) ≡ other (words_left old.words) → in_all old form ≡ in_all old other
agree old form other e = ap (λ kinds. both old.found (first_in_order kinds)) e

parents_are : (words : List (List ℕ)) → are_none words ≡ false → parents_form words ≡ at (one_of (codes "parent" ∷ [])) (at name parents_form) words
parents_are [] h = cc
parents_are (word ∷ []) h = refl
parents_are (word ∷ of ∷ words) h = refl

pub one_parent : {old mid new : Places} → Takes (one_of (codes "parent" ∷ [])) old mid → Takes name mid new
    → are_none (words_left old.words) ≡ false → in_all old parents_form ≡ in_all new parents_form
one_parent {old} {mid} {new} word_takes name_takes some =
    agree old parents_form (at (one_of (codes "parent" ∷ [])) (at name parents_form)) (parents_are (words_left old.words) some)
    ∙ step word_takes (at name parents_form) refl ∙ step name_takes parents_form tt

-- the first parent, and whether more stands
pub parent_pair : (words : List (List ℕ)) → are_none words ≡ false → fault_at name (drop 1 words) ≡ None
    → (parent_name words ≡ Some (name_at 0 (drop 1 words))) × (has_more_parents words ≡ not (are_none (drop 1 (drop 1 words))))
parent_pair [] some none = cc
parent_pair (word ∷ []) some none = cc
parent_pair (word ∷ name ∷ []) some none = (refl, refl)
parent_pair (word ∷ name ∷ more ∷ words) some none = (refl, refl)

pub right_none : (f g : Option FaultKind) → both f g ≡ None → g ≡ None
right_none None g h = h
right_none (Some k) None h = refl
right_none (Some k) (Some j) h = chosen (cond_some _ j k h) where
  chosen : ⊥ → Some j ≡ None
  chosen h = absurd h

  cond_some : (t : Bool) (j k : FaultKind) → cond t (Some j) (Some k) ≡ None → ⊥
  cond_some true j k h = cc
  cond_some false j k h = cc

linear_words : (version : ℕ) (words rest : List (List ℕ)) (word : List ℕ) → words ≡ word ∷ rest → is word (codes "linear") ≡ true
    → map_form version words ≡ at (number 1 1024) (at (one_of (level_kinds version)) parents_form) rest
linear_words version words rest word e h =
    ap (map_form version) e ∙ ap (λ t. cond t (at (number 1 1024) (at (one_of (level_kinds version)) parents_form) rest)
    (cond (is word (codes "tree")) (at (one_of (level_kinds version)) parents_form rest) (faults.UnknownWord ∷ []))) h

pub linear_taken : (version : ℕ) (old : Places) (word : List ℕ) {mid new : Places} → Takes (number 1 1024) mid new
    → mid.found ≡ old.found → words_left old.words ≡ word ∷ words_left mid.words → is word (codes "linear") ≡ true
    → in_all old (map_form version) ≡ in_all new (at (one_of (level_kinds version)) parents_form)
linear_taken version old word {mid} {new} takes same e h =
    let form = at (number 1 1024) (at (one_of (level_kinds version)) parents_form) in
    ap (λ kinds. both old.found (first_in_order kinds)) (linear_words version (words_left old.words) (words_left mid.words) word e h)
    ∙ ap (λ f. both f (first_in_order (form (words_left mid.words)))) (sym same)
    ∙ step takes (at (one_of (level_kinds version)) parents_form) refl

-- the part whose answers follow

pub thread_form : (words rest : List (List ℕ)) (word : List ℕ) → words ≡ word ∷ rest → is word (codes "thread") ≡ true
    → part_form words ≡ answers_form parts.Thread rest
thread_form words rest word e h =
    ap part_form e ∙ ap (λ t. cond t (answers_form parts.Thread rest) (answers_form parts.Primary (word ∷ rest))) h

pub primary_form : (words rest : List (List ℕ)) (word : List ℕ) → words ≡ word ∷ rest → is word (codes "thread") ≡ false
    → part_form words ≡ answers_form parts.Primary words
primary_form words rest word e h =
    ap part_form e ∙ (ap (λ t. cond t (answers_form parts.Thread rest) (answers_form parts.Primary (word ∷ rest))) h
    ∙ ap (answers_form parts.Primary) (sym e))

pub no_form : (words : List (List ℕ)) → words ≡ [] → part_form words ≡ answers_form parts.Primary words
no_form words e = ap part_form e ∙ ap (answers_form parts.Primary) (sym e)

-- one or more answers, where a word is left
pub some_answers : (part : Part) (words : List (List ℕ)) → are_none words ≡ false → answers_form part words ≡ flat_map (answer part) words
some_answers part [] some = cc
some_answers part (word ∷ words) some = refl

-- options

other_if : (t s : Bool) (word : List ℕ) (then : List FaultKind) (rest : List FaultKind) → t ≡ false
    → cond t then (cond s [] (faults.UnknownWord ∷ []) ++ rest) ≡ cond (t || s) [] (faults.UnknownWord ∷ []) ++ rest
other_if true s word then rest h = cc
other_if false s word then rest h = refl

other_is : (words : List (List ℕ)) → are_none words ≡ false → is (get_or words 0 []) (codes "mask") ≡ false
    → line_options words ≡ at (one_of option_texts) line_options words
other_is [] some h = cc
other_is (word ∷ []) some h =
    ap (cond (is word (codes "mask")) (faults.WrongCount ∷ [])) (sym (append-nil (one_of (codes "unlazy" ∷ codes "later" ∷ []) word)))
    ∙ other_if (is word (codes "mask")) (list_any (is word) (codes "unlazy" ∷ codes "later" ∷ [])) word (faults.WrongCount ∷ []) [] h
other_is (word ∷ next ∷ words) some h =
    other_if (is word (codes "mask")) (list_any (is word) (codes "unlazy" ∷ codes "later" ∷ [])) word
    (mask_number next ++ line_options words) (line_options (next ∷ words)) h

pub other_option : {old new : Places} → Takes (one_of option_texts) old new → are_none (words_left old.words) ≡ false
    → is (get_or (words_left old.words) 0 []) (codes "mask") ≡ false
    → in_all old line_options ≡ in_all new line_options
other_option {old} {new} takes some h = agree old line_options (at (one_of option_texts) line_options)
    (other_is (words_left old.words) some h) ∙ step takes line_options tt

mask_if : (t s : Bool) (then rest : List FaultKind) → t ≡ true → cond t then rest ≡ cond (t || s) [] (faults.UnknownWord ∷ []) ++ then
mask_if true s then rest h = refl
mask_if false s then rest h = cc

mask_is : (words : List (List ℕ)) → are_none words ≡ false → is (get_or words 0 []) (codes "mask") ≡ true
    → line_options words ≡ at (one_of option_texts) (at mask_number line_options) words
mask_is [] some h = cc
mask_is (word ∷ []) some h =
    mask_if (is word (codes "mask")) (list_any (is word) (codes "unlazy" ∷ codes "later" ∷ [])) (faults.WrongCount ∷ [])
    (one_of (codes "unlazy" ∷ codes "later" ∷ []) word) h
mask_is (word ∷ next ∷ words) some h =
    mask_if (is word (codes "mask")) (list_any (is word) (codes "unlazy" ∷ codes "later" ∷ []))
    (mask_number next ++ line_options words) (one_of (codes "unlazy" ∷ codes "later" ∷ []) word
    ++ line_options (next ∷ words)) h

pub mask_option : {old mid new : Places} → Takes (one_of option_texts) old mid → Takes mask_number mid new
    → are_none (words_left old.words) ≡ false → is (get_or (words_left old.words) 0 []) (codes "mask") ≡ true
    → in_all old line_options ≡ in_all new line_options
mask_option {old} {mid} {new} takes mask_takes some h =
    agree old line_options (at (one_of option_texts) (at mask_number line_options)) (mask_is (words_left old.words) some h)
    ∙ step takes (at mask_number line_options) refl ∙ step mask_takes line_options tt
