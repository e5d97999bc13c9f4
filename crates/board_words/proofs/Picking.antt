-- Picks that are misspelled.
use Rattle.std.proofs.Common.{◌≡◌, ℕ, Bool, true, false, cond, List, [], ◌∷◌, ◌++◌, Some, None, refl, sym, ap, ◌∙◌}
use Rattle.std.specs.List.{flat_map}
use Rattle.std.specs.Option.{is_some}
use Rattle.board_words.specs.Faults.{first_in_order}
use Rattle.board_words.specs.Forms.{pick, picks_form}
use Rattle.board_words.specs.Places.{both}
use Rattle.board_words.specs.Seen.{are_none}
use Rattle.board_words.specs.Spelling.{pick_of}
use Rattle.board_words.specs.declared.faults.FaultKind.TheVariants as faults
use Rattle.board_words.proofs.Order.{both_append}

absorbed : (t : Bool) → both (Some faults.BadName) (first_in_order (cond t [] (faults.BadName ∷ []))) ≡ Some faults.BadName
absorbed true = refl
absorbed false = refl

-- beside a bad name other picks change nothing
after_bad : (words : List (List ℕ)) → both (Some faults.BadName) (first_in_order (flat_map pick words)) ≡ Some faults.BadName
after_bad [] = refl
after_bad (word ∷ words) =
    both_append (Some faults.BadName) (pick word) (flat_map pick words)
    ∙ ap (λ f. both f (first_in_order (flat_map pick words))) (absorbed (is_some (pick_of word)))
    ∙ after_bad words

bad_first : (words rest : List (List ℕ)) (word : List ℕ) → words ≡ word ∷ rest → None ≡ pick_of word
    → first_in_order (flat_map pick words) ≡ Some faults.BadName
bad_first words rest word e none =
    ap (λ ws. first_in_order (flat_map pick ws)) e
    ∙ ap (λ o. first_in_order (cond (is_some o) [] (faults.BadName ∷ []) ++ flat_map pick rest)) (sym none)
    ∙ after_bad rest

same_form : (words : List (List ℕ)) → are_none words ≡ false → picks_form words ≡ flat_map pick words
same_form [] h = cc
same_form (word ∷ words) h = refl

pub bad_pick : (all words rest : List (List ℕ)) (word : List ℕ) → are_none all ≡ false → words ≡ word ∷ rest → None ≡ pick_of word
    → first_in_order (flat_map pick words) ≡ first_in_order (flat_map pick all) → first_in_order (picks_form all) ≡ Some faults.BadName
bad_pick all words rest word some e none same = ap first_in_order (same_form all some) ∙ sym same ∙ bad_first words rest word e none
