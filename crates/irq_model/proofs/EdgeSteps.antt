-- What one more entry makes of the edges that are sent and stored.
use Rattle.std.proofs.Common.{◌≡◌, Bool, true, false, not, ◌||◌, ◌&&◌, cond, subst, List, [], ◌∷◌, ◌++◌, refl, ap, ◌∙◌, arith}
use Rattle.irq_base.specs.declared.lines.LineDef.{LineDef}
use Rattle.irq_base.specs.declared.entries.Entry.{Entry}
use Rattle.irq_model.specs.Places.{some_place}
use Rattle.irq_model.specs.Kinds.{is_take}
use Rattle.irq_model.specs.Masks.{is_masked}
use Rattle.irq_model.specs.Edges.{is_edge, ends_in_edge, was_open, is_sent_edge, is_taken, is_alive, is_sent, is_stored}
use Rattle.irq_model.proofs.Somewhere.{some_ext, some_none, some_or, some_cond}

-- E: it is an edge, K: it was kept, T: it was taken, W: the line was open since, m: masked before
-- the entry, n: after it, t: the entry is a take
abbrev pub shown : Bool → Bool → Bool → Bool
shown r m W = not m || (not r && W)

abbrev pub alive : Bool → Bool → Bool → Bool
alive E K T = E && (K && not T)

pub still_sent : (r m n t E K T W : Bool) → (not m ≡ true → W ≡ true)
    → (alive E K ((t && shown r m W) || T) && shown r n (not n || W))
    ≡ (cond n (cond r false (cond t false (alive E K T && shown r m W)))
    (cond t (alive E K T && not (shown r m W)) ((alive E K T && shown r m W) ||
    (alive E K T && not (shown r m W)))))
still_sent r m n t E K T W h = grind arith

pub still_stored : (r m n t E K T W : Bool) → (not m ≡ true → W ≡ true)
    → (alive E K ((t && shown r m W) || T) && not (shown r n (not n || W)))
    ≡ (cond n (cond r (cond t (alive E K T && not (shown r m W))
    ((alive E K T && shown r m W) || (alive E K T && not (shown r m W)))) (alive E K T && not (shown r m W))) false)
still_stored r m n t E K T W h = grind arith

-- if the line is open, it was open since
pub open_since : (def : LineDef) (a u : List Entry) → not (is_masked def (a ++ u)) ≡ true → was_open def a u ≡ true
open_since def [] u h = h
open_since def (e ∷ a) u h = rw h refl

hidden : (E K T W r m : Bool) → r ≡ true → m ≡ true → (alive E K T && shown r m W) ≡ false
hidden E K T W r m a b = grind arith

seen : (E K T W r m : Bool) → m ≡ false → (alive E K T && not (shown r m W)) ≡ false
seen E K T W r m a = grind arith

-- how the edges go on, by whether the entry masks (n), whether it takes (t), and whether masking
-- takes back (r)
abbrev pub goes_sent : Bool → Bool → Bool → Bool → Bool → Bool
goes_sent r n t s w = cond n (cond r false (cond t false s)) (cond t w (s || w))

abbrev pub goes_stored : Bool → Bool → Bool → Bool → Bool → Bool
goes_stored r n t s w = cond n (cond r (cond t w (s || w)) w) false

stays_sent : (E t n m r s w : Bool) → t ≡ false → E ≡ false → n ≡ m → (r ≡ true → m ≡ true → s ≡ false)
    → (m ≡ false → w ≡ false) → ((E && not n) || goes_sent r n t s w) ≡ s
stays_sent E t n m r s w a b c d e = grind arith

stays_stored : (E t n m r k s w : Bool) → t ≡ false → E ≡ false → n ≡ m → (r ≡ true → m ≡ true → s ≡ false)
    → (m ≡ false → w ≡ false) → ((E && (k && n)) || goes_stored r n t s w) ≡ w
stays_stored E t n m r k s w a b c d e = grind arith

pub new_sent : (r n E k : Bool) → ((E && ((k || not n) && true)) && (not n || (not r && not n))) ≡ (E && not n)
new_sent r n E k = grind arith

pub new_stored : (r n E k : Bool) → ((E && ((k || not n) && true)) && not (not n || (not r && not n))) ≡ (E && (k && n))
new_stored r n E k = grind arith

pub sent_more : (def : LineDef) (e : Entry) (past : List Entry)
    → is_sent def (e ∷ past) ≡ ((is_edge def e && not (is_masked def (e ∷ past))) || goes_sent def.recalls
    (is_masked def (e ∷ past)) (is_take e) (is_sent def past) (is_stored def past))
sent_more def e past =
    let n = is_masked def (e ∷ past) in
    let t = is_take e in
    let X : List Entry → List Entry → Bool = λ a u. is_alive def a u && is_sent_edge def a u in
    let Y : List Entry → List Entry → Bool = λ a u. is_alive def a u && not (is_sent_edge def a u) in
    let each : some_place (λ a u. X (e ∷ a) u) past ≡ some_place
    (λ a u. cond n (cond def.recalls false (cond t false (X a u))) (cond t (Y a u) (X a u || Y a u))) past =
    some_ext _ _ past (λ a u is.
    subst (λ (xs : List Entry). X (e ∷ a) u ≡ cond (is_masked def (e ∷ xs))
    (cond def.recalls false (cond t false (X a u))) (cond t (Y a u) (X a u || Y a u))) is
    (still_sent def.recalls (is_masked def (a ++ u)) (is_masked def (e ∷ a ++ u)) t (ends_in_edge def u)
    (def.keeps || not (is_masked def u)) (is_taken def a u) (was_open def a u) (open_since def a u))) in
    let all : some_place (λ a u. X (e ∷ a) u) past ≡ goes_sent def.recalls n t (some_place X past) (some_place Y past) =
    each ∙ some_cond n _ _ past
    ∙ ap (λ b. cond n b (some_place (λ a u. cond t (Y a u) (X a u || Y a u)) past))
    (some_cond def.recalls _ _ past ∙ ap (λ b. cond def.recalls b (some_place (λ a u. cond t false (X a u)) past))
    (some_none past) ∙ ap (λ b. cond def.recalls false b)
    (some_cond t _ _ past ∙ ap (λ b. cond t b (some_place X past)) (some_none past)))
    ∙ ap (λ b. cond n (cond def.recalls false (cond t false (some_place X past))) b)
    (some_cond t _ _ past ∙ ap (λ b. cond t (some_place Y past) b) (some_or X Y past)) in
    ap (λ b. b || some_place (λ a u. X (e ∷ a) u) past) (new_sent def.recalls n (is_edge def e) def.keeps) ∙ ap (λ b. (is_edge def e && not n) || b) all

pub stored_more : (def : LineDef) (e : Entry) (past : List Entry)
    → is_stored def (e ∷ past) ≡ ((is_edge def e && (def.keeps && is_masked def (e ∷ past))) || goes_stored def.recalls
    (is_masked def (e ∷ past)) (is_take e) (is_sent def past) (is_stored def past))
stored_more def e past =
    let n = is_masked def (e ∷ past) in
    let t = is_take e in
    let X : List Entry → List Entry → Bool = λ a u. is_alive def a u && is_sent_edge def a u in
    let Y : List Entry → List Entry → Bool = λ a u. is_alive def a u && not (is_sent_edge def a u) in
    let each : some_place (λ a u. Y (e ∷ a) u) past ≡ some_place (λ a u. cond n (cond def.recalls (cond t (Y a u) (X a u || Y a u)) (Y a u)) false) past =
    some_ext _ _ past (λ a u is.
    subst (λ (xs : List Entry). Y (e ∷ a) u ≡ cond (is_masked def (e ∷ xs)) (cond def.recalls (cond t (Y a u) (X a u || Y a u)) (Y a u)) false) is
    (still_stored def.recalls (is_masked def (a ++ u)) (is_masked def (e ∷ a ++ u)) t (ends_in_edge def u)
    (def.keeps || not (is_masked def u)) (is_taken def a u) (was_open def a u) (open_since def a u))) in
    let all : some_place (λ a u. Y (e ∷ a) u) past ≡ goes_stored def.recalls n t (some_place X past) (some_place Y past) =
    each ∙ some_cond n _ _ past
    ∙ ap (λ b. cond n b (some_place (λ a u. false) past))
    (some_cond def.recalls _ _ past ∙ ap (λ b. cond def.recalls b (some_place Y past))
    (some_cond t _ _ past ∙ ap (λ b. cond t (some_place Y past) b) (some_or X Y past)))
    ∙ ap (λ b. cond n (cond def.recalls (cond t (some_place Y past) (some_place X past || some_place Y past)) (some_place Y past)) b) (some_none past) in
    ap (λ b. b || some_place (λ a u. Y (e ∷ a) u) past) (new_stored def.recalls n (is_edge def e) def.keeps)
    ∙ ap (λ b. (is_edge def e && (def.keeps && n)) || b) all

-- what is presented on a masked line that recalls: nothing
pub none_sent : (def : LineDef) (past : List Entry) → def.recalls ≡ true → is_masked def past ≡ true → is_sent def past ≡ false
none_sent def past recalls shut =
    some_ext _ (λ a u. false) past (λ a u is. hidden (ends_in_edge def u) (def.keeps || not (is_masked def u))
    (is_taken def a u) (was_open def a u) def.recalls (is_masked def (a ++ u)) recalls
    (ap (is_masked def) is ∙ shut))
    ∙ some_none past

-- what is kept on an open line: nothing
pub none_stored : (def : LineDef) (past : List Entry) → is_masked def past ≡ false → is_stored def past ≡ false
none_stored def past is_open =
    some_ext _ (λ a u. false) past (λ a u is. seen (ends_in_edge def u) (def.keeps || not (is_masked def u))
    (is_taken def a u) (was_open def a u) def.recalls (is_masked def (a ++ u)) (ap (is_masked def) is ∙ is_open))
    ∙ some_none past

-- an entry that is no take and no edge, and leaves the line masked or open as it was, leaves the
-- edges as they were
pub sent_quiet : (def : LineDef) (e : Entry) (past : List Entry) → is_take e ≡ false → is_edge def e ≡ false → is_masked def (e ∷ past) ≡ is_masked def past
    → is_sent def (e ∷ past) ≡ is_sent def past
sent_quiet def e past no_take no_edge same =
    sent_more def e past ∙ stays_sent (is_edge def e) (is_take e) (is_masked def (e ∷ past)) (is_masked def past)
    def.recalls (is_sent def past) (is_stored def past) no_take no_edge same (none_sent def past)
    (none_stored def past)

pub stored_quiet : (def : LineDef) (e : Entry) (past : List Entry) → is_take e ≡ false → is_edge def e ≡ false → is_masked def (e ∷ past) ≡ is_masked def past
    → is_stored def (e ∷ past) ≡ is_stored def past
stored_quiet def e past no_take no_edge same =
    stored_more def e past ∙ stays_stored (is_edge def e) (is_take e) (is_masked def (e ∷ past)) (is_masked def past)
    def.recalls def.keeps (is_sent def past) (is_stored def past) no_take no_edge same (none_sent def past)
    (none_stored def past)
