-- Picks are added one after another: a board with fewer of them is a board too.
use Rattle.std.proofs.Common.{◌≡◌, ℕ, ◌+◌, ◌-◌, ◌<◌, Some, List, [], ◌∷◌, ◌++◌, All, drop, replicate, sym, ap, subst, ◌∙◌, append_assoc, arith, length-append}
use Rattle.std.specs.List.{flat_map, slice_get}
use Rattle.std.proofs.lemmas.List.{replicate-append-replicate, replicate_more}
use Rattle.std.proofs.lemmas.List.Elements.{All-nil, All-cons, All-head, All-tail}
use Rattle.irq_base.specs.declared.entries.Actor.{Actor}
use Rattle.board_def.specs.Rules.{IsActorOf, IsBoard}
use Rattle.board_def.specs.Seen.{BoardSeen}
use Rattle.board_def.proofs.Grows.{other_picks}
use Rattle.board_stated.specs.Stated.{actors_picked}
use Rattle.board_words.specs.declared.statements.PickWord.{PickWord}
use Rattle.board_text.proofs.Left.{left_at}

abbrev pub with_picks : BoardSeen → List Actor → BoardSeen
with_picks b picks = record b { picks = picks }

all_before : {A : Type 0} (P : A → Type 0) (xs ys : List A) → All P (xs ++ ys) → All P xs
all_before P [] ys h = All-nil P
all_before P (x ∷ xs) ys h = All-cons P x xs (All-head P x (xs ++ ys) h) (all_before P xs ys (All-tail P x (xs ++ ys) h))

pub fewer_picks : (b : BoardSeen) (xs ys : List Actor) → IsBoard (with_picks b (xs ++ ys)) → IsBoard (with_picks b xs)
fewer_picks b xs ys h =
    let more = with_picks b (xs ++ ys) in
    other_picks more xs h (omega (arith, h.few_picks, length-append xs ys)) (all_before (IsActorOf more) xs ys h.picks)

-- one of n picks of an actor, after i others
pub one_pick : (b c : BoardSeen) (a : Actor) (i n : ℕ) → i < n → c ≡ with_picks b (b.picks ++ replicate i a)
    → IsBoard (with_picks b (b.picks ++ replicate n a)) → IsBoard (with_picks c (c.picks ++ a ∷ []))
one_pick b c a i n within is h =
    let count : (i + 1) + (n - (i + 1)) ≡ n = omega arith in
    let parts : replicate n a ≡ (replicate i a ++ a ∷ []) ++ replicate (n - (i + 1)) a =
    ap (λ k. replicate k a) (sym count) ∙ (sym (replicate-append-replicate (i + 1) (n - (i + 1)) a)
    ∙ ap (λ xs. xs ++ replicate (n - (i + 1)) a) (sym (replicate_more i a))) in
    let whole : b.picks ++ replicate n a ≡ ((b.picks ++ replicate i a) ++ a ∷ []) ++ replicate (n - (i + 1)) a =
    ap (λ xs. b.picks ++ xs) parts ∙ simp append_assoc in
    let fewer = fewer_picks b ((b.picks ++ replicate i a) ++ a ∷ []) (replicate (n - (i + 1)) a) (subst (λ xs. IsBoard (with_picks b xs)) whole h) in
    subst (λ (c : BoardSeen). IsBoard (with_picks c (c.picks ++ a ∷ []))) (sym is) fewer

-- the picks of the word at place i
pub word_of_picks : (b c : BoardSeen) (picks : List PickWord) (i : ℕ) (p : PickWord) → slice_get picks i ≡ Some p → c ≡ with_picks b c.picks
    → c.picks ++ flat_map actors_picked (drop i picks) ≡ b.picks ++ flat_map actors_picked picks
    → IsBoard (with_picks b (b.picks ++ flat_map actors_picked picks)) → IsBoard (with_picks c (c.picks ++ actors_picked p))
word_of_picks b c picks i p at same left h =
    let rest = flat_map actors_picked (drop (i + 1) picks) in
    let whole : (c.picks ++ actors_picked p) ++ rest ≡ b.picks ++ flat_map actors_picked picks =
    append_assoc c.picks (actors_picked p) rest
    ∙ (ap (λ xs. c.picks ++ flat_map actors_picked xs) (sym (left_at picks i p at)) ∙ left) in
    let fewer = fewer_picks b (c.picks ++ actors_picked p) rest (subst (λ xs. IsBoard (with_picks b xs)) (sym whole) h) in
    subst (λ (x : BoardSeen). IsBoard (with_picks x (c.picks ++ actors_picked p))) (sym same) fewer

-- and after them
pub picks_so_far : (b c d : BoardSeen) (picks : List PickWord) (i : ℕ) (p : PickWord) → slice_get picks i ≡ Some p → c ≡ with_picks b c.picks
    → c.picks ++ flat_map actors_picked (drop i picks) ≡ b.picks ++ flat_map actors_picked picks
    → d ≡ with_picks c (c.picks ++ actors_picked p)
    → (d ≡ with_picks b d.picks) × (d.picks ++ flat_map actors_picked (drop (i + 1) picks) ≡ b.picks ++ flat_map actors_picked picks)
picks_so_far b c d picks i p at same left now =
    let rest = flat_map actors_picked (drop (i + 1) picks) in
    let picks_now : d.picks ≡ c.picks ++ actors_picked p = ap (λ (x : BoardSeen). x.picks) now in (
      now ∙ (ap (λ (x : BoardSeen). with_picks x (c.picks ++ actors_picked p)) same ∙ ap (with_picks b) (sym picks_now)),
      ap (λ xs. xs ++ rest) picks_now ∙ (append_assoc c.picks (actors_picked p) rest
          ∙ (ap (λ xs. c.picks ++ flat_map actors_picked xs) (sym (left_at picks i p at)) ∙ left)),
    )
