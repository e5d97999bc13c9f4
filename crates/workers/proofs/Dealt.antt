-- Actors are dealt to threads.
use Rattle.std.proofs.Common.{◌≡◌, ℕ, ◌+◌, ◌<◌, ◌≤◌, Some, List, [], ◌∷◌, ◌++◌, map, take, length, get_or, IsPermutation}
use Rattle.std.proofs.Common.{sym, ap, subst, ◌∙◌, arith}
use Rattle.std.proofs.lemmas.List.Sorted.{IsPermutation-map}
use Rattle.irq_base.specs.declared.entries.Actor.{Actor}
use Rattle.workers.proofs.Lists.{at_map, there_or}
use Rattle.workers.proofs.Manning.{taken, all_taken, map_more}

abbrev pub actor_of : ℕ × Actor → Actor
actor_of h = h.1

-- one more actor with its hand
pub hand_on : (crew : List Actor) (hands more : List (ℕ × Actor)) (i hand : ℕ) (a : Actor) → i < length crew
    → a ≡ get_or crew i a → map actor_of hands ≡ take i crew → more ≡ hands ++ (hand, a) ∷ []
    → map actor_of more ≡ take (i + 1) crew
hand_on crew hands more i hand a less at are is =
    ap (map actor_of) is ∙ (map_more actor_of hands (hand, a) ∙ (ap (λ (ws : List Actor). ws ++ a ∷ []) are
    ∙ sym (taken crew i a (there_or crew i a less ∙ ap (λ (x : Actor). Some x) (sym at)))))

-- one more actor without it
pub card_on : (hands : List (ℕ × Actor)) (dealt more : List Actor) (i : ℕ) (h : ℕ × Actor) → i < length hands
    → h ≡ get_or hands i h → dealt ≡ take i (map actor_of hands) → more ≡ dealt ++ actor_of h ∷ []
    → more ≡ take (i + 1) (map actor_of hands)
card_on hands dealt more i h less at are is =
    is ∙ (ap (λ (ws : List Actor). ws ++ actor_of h ∷ []) are
    ∙ sym (taken (map actor_of hands) i (actor_of h) (at_map actor_of hands i h
    (there_or hands i h less ∙ ap (λ (x : ℕ × Actor). Some x) (sym at)))))

as_many : (hands : List (ℕ × Actor)) → length (map actor_of hands) ≡ length hands
as_many [] = omega arith
as_many (h ∷ hs) = let e = as_many hs in omega (arith, e)

pub all_dealt : (crew : List Actor) (hands sorted : List (ℕ × Actor)) (dealt : List Actor) (i j : ℕ) → length crew ≤ i
    → map actor_of hands ≡ take i crew → IsPermutation hands sorted → length sorted ≤ j
    → dealt ≡ take j (map actor_of sorted) → IsPermutation crew dealt
all_dealt crew hands sorted dealt i j all are moved end is =
    subst (λ (ws : List Actor). IsPermutation ws dealt) (are ∙ all_taken crew i all)
    (subst (λ (ws : List Actor). IsPermutation (map actor_of hands) ws)
    (sym (is ∙ all_taken (map actor_of sorted) j (let e = as_many sorted in omega (arith, e, end))))
    (IsPermutation-map actor_of hands sorted moved))
