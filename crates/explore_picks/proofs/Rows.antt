-- Rows of picks.
use Rattle.std.proofs.Common.{◌≡◌, ℕ, suc, zero, ◌+◌, ◌*◌, ◌/◌, ◌<◌, ◌≤◌, Some, List, [], ◌∷◌, ◌++◌, take, slice_get, sym, ap, ◌∙◌, arith, add-one}
use Rattle.std.proofs.lemmas.Grind.{flat_map-append}
use Rattle.std.proofs.lemmas.List.{append-nil, append_assoc}
use Rattle.std.proofs.lemmas.Option.{none-some}
use Rattle.std.specs.List.{flat_map}
use Rattle.irq_base.specs.declared.entries.Actor.{Actor}
use Rattle.explore_picks.specs.Rows.{pick_text}

take_suc : (ps : List Actor) (i : ℕ) (a : Actor) → slice_get ps i ≡ Some a → take (suc i) ps ≡ take i ps ++ a ∷ []
take_suc [] i a is = absurd (none-some a is)
take_suc (x ∷ ps) zero a is = let same : x ≡ a = cc in ap (λ (y : Actor). y ∷ []) same
take_suc (x ∷ ps) (suc i) a is = ap (λ (l : List Actor). x ∷ l) (take_suc ps i a is)

-- one more pick in the row
pub pick_more : (ps : List Actor) (i : ℕ) (a : Actor) → slice_get ps i ≡ Some a
    → flat_map pick_text (take (i + 1) ps) ≡ flat_map pick_text (take i ps) ++ pick_text a
pick_more ps i a is =
    ap (λ (n : ℕ). flat_map pick_text (take n ps)) (add-one i)
    ∙ (ap (flat_map pick_text) (take_suc ps i a is)
    ∙ (flat_map-append pick_text (take i ps) (a ∷ []) ∙ ap (λ (t : List ℕ). flat_map pick_text (take i ps) ++ t) (append-nil (pick_text a))))

pub row_more : (head before : List ℕ) (ps : List Actor) (i : ℕ) (a : Actor) (after : List ℕ) → slice_get ps i ≡ Some a
    → before ≡ head ++ flat_map pick_text (take i ps) → after ≡ before ++ pick_text a → after ≡ head ++ flat_map pick_text (take (i + 1) ps)
row_more head before ps i a after is so_far added =
    added ∙ (ap (λ (t : List ℕ). t ++ pick_text a) so_far
    ∙ (append_assoc head (flat_map pick_text (take i ps)) (pick_text a)
    ∙ ap (λ (t : List ℕ). head ++ t) (sym (pick_more ps i a is))))

-- a row begins within the picks
pub begins_within : (n k : ℕ) → k < (n + 23) / 24 → 24 * k ≤ n
begins_within n k lt = omega (arith, lt)
