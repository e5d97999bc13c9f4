-- A walk from an edge's place to the newest entry.
use Rattle.std.proofs.Common.{◌≡◌, ℕ, suc, ◌-◌, ◌<◌, ◌≤◌, Bool, true, false, not, ◌||◌, ◌&&◌, List, ◌∷◌, ◌++◌, length}
use Rattle.std.proofs.Common.{take, drop, get_or, sym, ap, ◌∙◌, arith, drop-cons}
use Rattle.std.proofs.lemmas.List.{take-append-drop, length-take-le, get_or-take, drop-append-le}
use Rattle.irq_base.specs.declared.lines.LineDef.{LineDef}
use Rattle.irq_base.specs.declared.entries.Entry.{Entry}
use Rattle.irq_base.specs.declared.entries.Entry.TheVariants as by
use Rattle.irq_base.specs.declared.entries.ThreadEntry.TheVariants as threads
use Rattle.irq_model.specs.Kinds.{is_take}
use Rattle.irq_model.specs.Masks.{is_masked}
use Rattle.irq_model.specs.Edges.{was_open, is_taken, is_alive, is_sent, is_sent_edge}
use Rattle.plain_next.proofs.Somewhere.{some_at, some_nowhere}

-- the entries from place i up to `place`, and then the entries from `place` on, are all entries
-- from place i on
front-append-rest : {A : Type 0} (past : List A) (place i : ℕ) → i ≤ place → place ≤ length past → drop i (take place past) ++ drop place past ≡ drop i past
front-append-rest past place i h k =
    let long : length (take place past) ≡ place = length-take-le place past k in
    let within : i ≤ length (take place past) = omega arith in
    sym (drop-append-le i (take place past) (drop place past) within) ∙ ap (λ xs. drop i xs) (take-append-drop place past)

-- one more entry in front
front_more : {A : Type 0} (past : List A) (place j : ℕ) (d : A) → j < place → place ≤ length past
    → drop j (take place past) ≡ get_or past j d ∷ drop (suc j) (take place past)
front_more past place j d h k =
    let long : length (take place past) ≡ place = length-take-le place past k in
    let within : j < length (take place past) = omega arith in
    drop-cons (take place past) j d within ∙ ap (λ x. x ∷ drop (suc j) (take place past)) (get_or-take place past j d h)

or_comm : (a b : Bool) → (a || b) ≡ (b || a)
or_comm a b = grind arith

-- whether the line was open since the edge; o says so before the entry, and m whether the entry
-- leaves the line masked
pub opened_more : (def : LineDef) (past : List Entry) (place i : ℕ) (o m : Bool) → 0 < i → i ≤ place → place < length past
    → o ≡ was_open def (drop i (take place past)) (drop place past) → m ≡ is_masked def (drop (i - 1) past)
    → (o || not m) ≡ was_open def (drop (i - 1) (take place past)) (drop place past)
opened_more def past place i o m a b l p q =
    let rest = drop place past in
    let front = drop i (take place past) in
    let none : Entry = by.Thread (record { 0 = 0 }) threads.Done in
    let x = get_or past (i - 1) none in
    let next : suc (i - 1) ≡ i = omega arith in
    let step : drop (i - 1) (take place past) ≡ x ∷ front =
    front_more past place (i - 1) none (omega arith) (omega arith) ∙ ap (λ n. x ∷ drop n (take place past)) next in
    let whole : x ∷ front ++ rest ≡ drop (i - 1) past = ap (λ ys. ys ++ rest) (sym step) ∙ front-append-rest past place (i - 1) (omega arith) (omega arith) in
    let before : (o || not m) ≡ (not (is_masked def (drop (i - 1) past)) || was_open def front rest) =
    or_comm o (not m) ∙ (ap (λ b. not b || o) q ∙ ap (λ b. not (is_masked def (drop (i - 1) past)) || b) p) in
    before ∙ (ap (λ ys. not (is_masked def ys) || was_open def front rest) (sym whole) ∙ ap (λ ys. was_open def ys rest) (sym step))

-- whether a take took the edge; t says so before the entry, m whether the line was masked then, and
-- o whether it was open since the edge
pub taken_more : (def : LineDef) (past : List Entry) (place i : ℕ) (d : Entry) (t o m : Bool) → 0 < i → i ≤ place → place < length past
    → t ≡ is_taken def (drop i (take place past)) (drop place past)
    → o ≡ was_open def (drop i (take place past)) (drop place past) → m ≡ is_masked def (drop i past)
    → ((is_take (get_or past (i - 1) d) && (not m || (not def.recalls && o))) || t) ≡ is_taken def (drop (i - 1) (take place past)) (drop place past)
taken_more def past place i d t o m a b l p q r =
    let rest = drop place past in
    let front = drop i (take place past) in
    let x = get_or past (i - 1) d in
    let next : suc (i - 1) ≡ i = omega arith in
    let step : drop (i - 1) (take place past) ≡ x ∷ front =
    front_more past place (i - 1) d (omega arith) (omega arith) ∙ ap (λ n. x ∷ drop n (take place past)) next in
    let whole : front ++ rest ≡ drop i past = front-append-rest past place i b (omega arith) in
    ap (λ v. (is_take x && (not m || (not def.recalls && o))) || v) p
    ∙ (ap (λ v. (is_take x && (not m || (not def.recalls && v))) || is_taken def front rest) q
    ∙ (ap (λ v. (is_take x && (not v || (not def.recalls && was_open def front rest))) || is_taken def front rest) r
    ∙ (ap (λ ys. (is_take x && (not (is_masked def ys) || (not def.recalls && was_open def front rest))) || is_taken def front rest) (sym whole)
    ∙ ap (λ ys. is_taken def ys rest) (sym step))))

-- some edge is presented if one at a place is, and none if none is
pub sent_at : (def : LineDef) (past : List Entry) (i : ℕ) → i < length past
    → true ≡ (is_alive def (take i past) (drop i past) && is_sent_edge def (take i past) (drop i past)) → true ≡ is_sent def past
sent_at def past i h e = sym (some_at (λ after upto. is_alive def after upto && is_sent_edge def after upto) past i h (sym e))

pub sent_nowhere : (def : LineDef) (past : List Entry) (n : ℕ) → length past ≤ n
    → ((k : ℕ) → k < n → (is_alive def (take k past) (drop k past) && is_sent_edge def (take k past) (drop k past)) ≡ false) → false ≡ is_sent def past
sent_nowhere def past n h none =
    sym (some_nowhere (λ after upto. is_alive def after upto && is_sent_edge def after upto) past (λ i l. none i (omega arith)))
