-- A window and a limit below it.
use Rattle.std.proofs.Common.{◌≡◌, ℕ, ◌-◌, Bool, true, false, cond, List, [], ◌∷◌, drop, Option, Some, None, refl, sym, ap, ◌∙◌}
use Rattle.std.specs.Option.{is_some}
use Rattle.board_words.specs.Faults.{first_in_order}
use Rattle.board_words.specs.Forms.{at, number, full, spurious_form}
use Rattle.board_words.specs.Places.{both, fault_at, Takes, in_all}
use Rattle.board_words.specs.Seen.{words_left}
use Rattle.board_words.specs.Spelling.{number_between}
use Rattle.board_words.specs.Statements.{number_at}
use Rattle.board_words.specs.declared.faults.FaultKind.{FaultKind}
use Rattle.board_words.specs.declared.faults.FaultKind.TheVariants as faults
use Rattle.board_words.specs.declared.places.Places.{Places}
use Rattle.board_words.proofs.Order.{step, both_append}

-- beside a bad number another changes nothing
absorbed : (t : Bool) → both (Some faults.BadNumber) (first_in_order (cond t [] (faults.BadNumber ∷ []))) ≡ Some faults.BadNumber
absorbed true = refl
absorbed false = refl

after_bad : (low high : ℕ) (words : List (List ℕ)) → both (Some faults.BadNumber)
    (first_in_order (at (number low high) full words))
    ≡ both (Some faults.BadNumber) (first_in_order (at (λ w. []) full words))
after_bad low high [] = refl
after_bad low high (word ∷ words) =
    both_append (Some faults.BadNumber) (number low high word) (full words)
    ∙ ap (λ f. both f (first_in_order (full words))) (absorbed (is_some (number_between low high word)))

abbrev limit_form : ℕ → List (List ℕ) → List FaultKind
limit_form window words = at (number 0 (window - 1)) full words

spurious_is : (words : List (List ℕ)) → spurious_form words ≡ at (number 1 1000000) (limit_form (number_at 0 words)) words
spurious_is [] = refl
spurious_is (word ∷ words) = refl

-- the limit's range matters only if the window is well
limit_if : (t : Bool) (found : Option FaultKind) (words : List (List ℕ)) (a b : ℕ)
    → found ≡ first_in_order (cond t [] (faults.BadNumber ∷ [])) → (found ≡ None → a ≡ b)
    → both found (first_in_order (limit_form b words)) ≡ both found (first_in_order (limit_form a words))
limit_if true found words a b is same = ap (λ n. both found (first_in_order (limit_form n words))) (sym (same is))
limit_if false found words a b is same =
    ap (λ f. both f (first_in_order (limit_form b words))) is ∙ after_bad 0 (b - 1) words ∙ sym (after_bad 0 (a - 1) words)
    ∙ ap (λ f. both f (first_in_order (limit_form a words))) (sym is)

limit_at : (found : Option FaultKind) (words rest : List (List ℕ)) (a b : ℕ) → found ≡ fault_at (number 1 1000000) words
    → rest ≡ drop 1 words → (found ≡ None → a ≡ b)
    → both found (first_in_order (limit_form b rest)) ≡ both found (first_in_order (limit_form a rest))
limit_at found [] rest a b is e same = ap (λ ws. both found (first_in_order (limit_form b ws))) e
    ∙ sym (ap (λ ws. both found (first_in_order (limit_form a ws))) e)
limit_at found (word ∷ words) rest a b is e same = limit_if (is_some (number_between 1 1000000 word)) found rest a b is same

pub spurious_taken : {begun mid new : Places} (window : ℕ) → Takes (number 1 1000000) begun mid → Takes (number 0 (window - 1)) mid new → begun.found ≡ None
    → (mid.found ≡ None → window ≡ number_at 0 (words_left begun.words)) → in_all begun spurious_form ≡ in_all new full
spurious_taken {begun} {mid} {new} window window_takes limit_takes none same =
    let words = words_left begun.words in
    let found = window_takes.found ∙ ap (λ f. both f (fault_at (number 1 1000000) words)) none in
    ap (λ kinds. both begun.found (first_in_order kinds)) (spurious_is words)
    ∙ step window_takes (limit_form (number_at 0 words)) refl
    ∙ limit_at mid.found words (words_left mid.words) window (number_at 0 words) found window_takes.words same
    ∙ step limit_takes full tt
