-- A row of picks, without its `# `, states them.
use Rattle.std.proofs.Common.{◌≡◌, ℕ, ◌-◌, ◌*◌, ◌≤◌, Bool, true, false, not, cond, Option, Some, None, List, [], ◌∷◌, ◌++◌}
use Rattle.std.proofs.Common.{codes, decimal, drop, take, length, map, refl, ap, ◌∙◌, arith}
use Rattle.std.specs.List.{list_all, flat_map}
use Rattle.std.specs.Prelude.{All, is_some}
use Rattle.std.proofs.lemmas.Bool.{and_parts, false≢true}
use Rattle.std.proofs.lemmas.List.{length-drop}
use Rattle.std.proofs.lemmas.List.Elements.{All-head, All-tail, All-take, All-drop}
use Rattle.std.proofs.lemmas.List.Folds.{list_all-append}
use Rattle.board_stated.specs.Stated.{actors_picked, with_statement}
use Rattle.board_words.specs.Faults.{first_in_order}
use Rattle.board_words.specs.Forms.{fault_of_words, faults_of, pick}
use Rattle.board_words.specs.Spelling.{after_star, before_star, both_of, numbered, pick_of, picked_of, times_of}
use Rattle.board_words.specs.Statements.{onto_picks, picks_of, statement_of}
use Rattle.board_words.specs.TextLines.{is_allowed, is_blank, is_hash, is_within_word, onto_first, split_at_blanks}
use Rattle.board_words.specs.TextLines.{without_comment, words_of}
use Rattle.board_words.specs.declared.faults.FaultKind.TheVariants as faults
use Rattle.board_words.specs.declared.statements.PickWord.{PickWord}
use Rattle.irq_base.specs.declared.entries.Actor.{Actor}
use Rattle.irq_base.specs.declared.entries.Actor.TheVariants as actors
use Rattle.explore_picks.specs.Rows.{pick_text, picks_line, row_at}
use Rattle.explore_picks.specs.Stated.{AreStated, IsNameable, StatesPicks}
use Rattle.explore_picks.proofs.Bytes.{allowed, is_plain, letter, not_blank, not_hash, not_star, number, number_is, picks_pass}
use Rattle.explore_picks.proofs.Bytes.{text_is, word, word_plain}

-- ---- the words of the text line

-- no comment
no_comment : (bs : List ℕ) → list_all (λ b. not (is_hash b)) bs ≡ true → without_comment bs ≡ bs
no_comment [] h = refl
no_comment (b ∷ bs) h =
    let both = and_parts (not (is_hash b)) (list_all (λ b. not (is_hash b)) bs) h in
    by (is_hash b) both.0 ∙ ap (λ (xs : List ℕ). b ∷ xs) (no_comment bs both.1)
  where
    by : (t : Bool) → not t ≡ true → cond t [] (b ∷ without_comment bs) ≡ b ∷ without_comment bs
    by true h = absurd (false≢true h)
    by false h = refl

-- a word of letters and digits, and what stands behind it
split_word : (b : ℕ) (bs rest : List ℕ) → list_all is_plain (b ∷ bs) ≡ true → is_within_word rest ≡ false
    → split_at_blanks ((b ∷ bs) ++ rest) ≡ (b ∷ bs) ∷ split_at_blanks rest
split_word b [] rest h ends =
    let plain = (and_parts (is_plain b) true h).0 in
    ap (λ t. cond t (split_at_blanks rest) (cond (is_within_word rest) (onto_first b (split_at_blanks rest)) ((b ∷ []) ∷ split_at_blanks rest)))
    (not_blank b plain)
    ∙ ap (λ t. cond t (onto_first b (split_at_blanks rest)) ((b ∷ []) ∷ split_at_blanks rest)) ends
split_word b (c ∷ bs) rest h ends =
    let both = and_parts (is_plain b) (list_all is_plain (c ∷ bs)) h in
    let next = (and_parts (is_plain c) (list_all is_plain bs) both.1).0 in
    let more = split_at_blanks ((c ∷ bs) ++ rest) in
    ap (λ t. cond t more (cond (not (is_blank c)) (onto_first b more) ((b ∷ []) ∷ more))) (not_blank b both.0)
    ∙ (ap (λ t. cond (not t) (onto_first b more) ((b ∷ []) ∷ more)) (not_blank c next)
    ∙ ap (onto_first b) (split_word c bs rest both.1 ends))

ends_word : (ps : List Actor) → is_within_word (flat_map pick_text ps) ≡ false
ends_word [] = refl
ends_word (a ∷ ps) = ap (λ (text : List ℕ). is_within_word (text ++ flat_map pick_text ps)) (text_is a)

split_picks : (ps : List Actor) → All IsNameable ps → split_at_blanks (flat_map pick_text ps) ≡ map word ps
split_picks [] named = refl
split_picks (a ∷ ps) named =
    ap (λ (text : List ℕ). split_at_blanks (text ++ flat_map pick_text ps)) (text_is a)
    ∙ (split_word (letter a) (decimal (number a)) (flat_map pick_text ps) (word_plain a (All-head IsNameable a ps named)) (ends_word ps)
    ∙ ap (λ (ws : List (List ℕ)). word a ∷ ws) (split_picks ps (All-tail IsNameable a ps named)))

hashless : (b : ℕ) → is_plain b ≡ true → not (is_hash b) ≡ true
hashless b plain = ap not (not_hash b plain)

words_are : (ps : List Actor) → All IsNameable ps → words_of (picks_line ps) ≡ codes "picks" ∷ map word ps
words_are ps named =
    let rest = flat_map pick_text ps in
    let clean : list_all (λ b. not (is_hash b)) (picks_line ps) ≡ true =
    list_all-append (λ b. not (is_hash b)) (codes "picks") rest ∙ picks_pass (λ b. not (is_hash b)) refl hashless ps named in
    ap split_at_blanks (no_comment (picks_line ps) clean)
    ∙ (split_word 112 (105 ∷ 99 ∷ 107 ∷ 115 ∷ []) rest refl (ends_word ps) ∙ ap (λ (ws : List (List ℕ)). codes "picks" ∷ ws) (split_picks ps named))

-- ---- what a word spells

no_star : (bs : List ℕ) → list_all is_plain bs ≡ true → (before_star bs ≡ bs) × (after_star bs ≡ None)
no_star [] h = (refl, refl)
no_star (b ∷ bs) h =
    let both = and_parts (is_plain b) (list_all is_plain bs) h in
    let rest = no_star bs both.1 in
    let no = not_star b both.0 in (
      ap (λ t. cond t [] (b ∷ before_star bs)) no ∙ ap (λ (xs : List ℕ). b ∷ xs) rest.0,
      ap (λ t. cond t (Some bs) (after_star bs)) no ∙ rest.1,
    )

abbrev once : Actor → PickWord
once a = record { who = a; times = 1 }

picked : (a : Actor) → IsNameable a → picked_of (word a) ≡ Some a
picked (actors.Thread dev) (low, high) =
    ap (numbered (λ n. actors.Thread (record { 0 = n }))) (number_is 1 65535 dev.0 (omega (arith, high)) low high)
picked (actors.Cpu cpu) high = ap (numbered (λ n. actors.Cpu (record { 0 = n }))) (number_is 0 31 cpu.0 (omega (arith, high)) (omega arith) high)
picked (actors.Driver driver) (low, high) =
    ap (numbered (λ n. actors.Driver (record { 0 = n }))) (number_is 1 65535 driver.0 (omega (arith, high)) low high)

spells : (a : Actor) → IsNameable a → pick_of (word a) ≡ Some (once a)
spells a named =
    let star = no_star (word a) (word_plain a named) in
    ap (λ (w : List ℕ). both_of (picked_of w) (times_of (after_star (word a)))) star.0
    ∙ (ap (λ o. both_of o (times_of (after_star (word a)))) (picked a named) ∙ ap (λ o. both_of (Some a) (times_of o)) star.1)

all_spell : (ps : List Actor) → All IsNameable ps → picks_of (map word ps) ≡ map once ps
all_spell [] named = refl
all_spell (a ∷ ps) named =
    ap (λ o. onto_picks o (picks_of (map word ps))) (spells a (All-head IsNameable a ps named))
    ∙ ap (λ (xs : List PickWord). once a ∷ xs) (all_spell ps (All-tail IsNameable a ps named))

no_faults : (ps : List Actor) → All IsNameable ps → flat_map pick (map word ps) ≡ []
no_faults [] named = refl
no_faults (a ∷ ps) named =
    ap (λ (o : Option PickWord). cond (is_some o) [] (faults.BadName ∷ []) ++ flat_map pick (map word ps)) (spells a (All-head IsNameable a ps named))
    ∙ no_faults ps (All-tail IsNameable a ps named)

stated_once : (ps : List Actor) → flat_map actors_picked (map once ps) ≡ ps
stated_once [] = refl
stated_once (a ∷ ps) = ap (λ (xs : List Actor). a ∷ xs) (stated_once ps)

-- ---- the statement

faultless : (ps : List Actor) → All IsNameable ps → 1 ≤ length ps → (version : ℕ) → fault_of_words version (codes "picks" ∷ map word ps) ≡ None
faultless ps named some version = ap first_in_order (none ps named some)
  where
    none : (ps : List Actor) → All IsNameable ps → 1 ≤ length ps → faults_of version (codes "picks" ∷ map word ps) ≡ []
    none [] named some = absurd (omega (arith, some))
    none (a ∷ ps) named some = no_faults (a ∷ ps) named

states : (ps : List Actor) → All IsNameable ps → 1 ≤ length ps → StatesPicks (picks_line ps) ps
states ps named some = record {
  bytes = ap not (list_all-append is_allowed (codes "picks") (flat_map pick_text ps) ∙ picks_pass is_allowed refl allowed ps named);
  sound = λ version. ap (fault_of_words version) (words_are ps named) ∙ faultless ps named some version;
  adds = λ whose b.
      ap (λ (ws : List (List ℕ)). with_statement whose (statement_of ws) b) (words_are ps named)
      ∙ ap (λ (xs : List Actor). record b { picks = b.picks ++ xs }) (ap (flat_map actors_picked) (all_spell ps named) ∙ stated_once ps);
}

pub are_stated : (ps : List Actor) → All IsNameable ps → AreStated ps
are_stated ps named k within =
    let left : length (drop (24 * k) ps) ≡ length ps - 24 * k = length-drop (24 * k) ps in
    states (row_at ps k) (All-take IsNameable 24 (drop (24 * k) ps) (All-drop IsNameable (24 * k) ps named))
    (some (drop (24 * k) ps) (omega (arith, left, within)))
  where
    some : (xs : List Actor) → 1 ≤ length xs → 1 ≤ length (take 24 xs)
    some [] h = h
    some (x ∷ xs) h = omega arith
