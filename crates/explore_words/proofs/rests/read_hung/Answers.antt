use Rattle.std.proofs.Common.{rules, ◌≡◌, ℕ, List, ◌∷◌, codes, ap, ◌∙◌}
use Rattle.log_read.specs.Left.{words_of}
use Rattle.log_text.specs.EntryWords.{actor_word}
use Rattle.explore_words.proofs.Hung.{says_somebody}
use Rattle.explore_words.proofs.rests.read_hung.Goals as goal

pub returns : goal.returns
returns c =
    let behind = c.in_ok-actor.behind.now in
    let actor = c.in_ok-actor_named.field-0 in
    let named = c.in_ok-actor_named.ensures in
    let first : c.in_ok-first.first.now ≡ codes "hung" = search rules in
    let words : words_of c.args.words.now ≡ codes "hung" ∷ actor_word actor ∷ words_of behind =
    c.in_ok-first.ensures ∙ (ap (λ (w : List ℕ). w ∷ words_of c.in_ok-first.behind.now) first
    ∙ ap (λ (ws : List (List ℕ)). codes "hung" ∷ ws) (c.in_ok-actor.ensures ∙ ap (λ (w : List ℕ). w ∷ words_of behind) named.1)) in
    (record { words = words; actor = named.0 }, λ left says. says_somebody c.args.words.now actor (words_of behind) left named.0 words says)
