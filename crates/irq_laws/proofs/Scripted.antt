-- The complete calls of a script; and a free stands between any two requests of a device.
use Rattle.std.proofs.Common.{◌≡◌, ℕ, zero, suc, ◌<◌, ◌≤◌, ◌⊎◌, inl, inr, Bool, true, false, ◌||◌, cond, Option, Some}
use Rattle.std.proofs.Common.{List, [], ◌∷◌, ◌++◌, length, drop, nat_lt, slice_get, refl, sym, ap, ◌∙◌, subst, arith}
use Rattle.std.proofs.Common.{length-append, drop_of_length-le}
use Rattle.std.proofs.lemmas.Bool.{or_right, ltb-false, ltb-true, lt-ltb, le-ltb, false_from_ne_true}
use Rattle.std.proofs.lemmas.List.{drop-append-le}
use Rattle.irq_base.specs.declared.numbers.DevNo.{DevNo}
use Rattle.irq_base.specs.declared.numbers.DriverNo.{DriverNo}
use Rattle.irq_base.specs.declared.calls.Call.{Call}
use Rattle.irq_base.specs.declared.entries.Entry.{Entry}
use Rattle.irq_model.specs.Places.{stands}
use Rattle.irq_model.specs.Kinds.{same_driver}
use Rattle.irq_model.specs.Due.{calls_by, entries_of_call, due_of}
use Rattle.irq_model.specs.Valid.{requests_dev, frees_dev, IsFreedBetween}
use Rattle.irq_model.proofs.Same.{driver_from_same, same_self_driver}
use Rattle.irq_laws.specs.Kept.{complete}
use Rattle.irq_laws.proofs.Chosen.{chosen, the_same}
use Rattle.irq_laws.proofs.Lists.{both_ways, stands_cases}
use Rattle.irq_laws.proofs.Progress.{makes_one, same_count, same_call, due_at}

-- ---- one more entry

-- the due call isn't complete with e as its last entry
abbrev pub GoesOn : Call → Entry → Type 0
GoesOn c e = (xs : List Entry) × (nat_lt (length (xs ++ e ∷ [])) (entries_of_call c (xs ++ e ∷ [])) ≡ true)

-- after e either the same calls are complete, or the due call too
abbrev pub Completes : Call → Entry → List Call → List Call → Type 0
Completes c e was now = ((now ≡ was) × GoesOn c e) ⊎ (now ≡ c ∷ was)

none_complete : (done cs : List Call) → complete done cs [] ≡ done
none_complete done [] = refl
none_complete done (c ∷ cs) =
    ap (λ (b : Bool). cond b done (complete (c ∷ done) cs (drop (entries_of_call c []) [])))
    (lt-ltb 0 (entries_of_call c []) (let one = makes_one c [] in omega (arith, one)))

at_due : (done cs : List Call) (x : Call) (es : List Entry) (e : Entry) → nat_lt (length es) (entries_of_call x es) ≡ true
    → Completes x e done (complete done (x ∷ cs) (es ++ e ∷ []))
at_due done cs x es e some = by_test (nat_lt (length (es ++ e ∷ [])) (entries_of_call x (es ++ e ∷ []))) refl
  where
    enough : (xs : List Entry) → nat_lt (length xs) (entries_of_call x xs) ≡ true → length (xs ++ e ∷ []) ≤ entries_of_call x (xs ++ e ∷ [])
    enough [] lt = makes_one x (e ∷ [])
    enough (y ∷ ys) lt =
        let same : entries_of_call x ((y ∷ ys) ++ e ∷ []) ≡ entries_of_call x (y ∷ ys) = same_count x y (ys ++ e ∷ []) ys in
        let below = ltb-true (length (y ∷ ys)) (entries_of_call x (y ∷ ys)) lt in
        let l = length-append (y ∷ ys) (e ∷ []) in
        omega (arith, same, below, l)

    by_test : (b : Bool) → nat_lt (length (es ++ e ∷ [])) (entries_of_call x (es ++ e ∷ [])) ≡ b → Completes x e done (complete done (x ∷ cs) (es ++ e ∷ []))
    by_test true is = inl (ap (λ (b : Bool). cond b done (complete (x ∷ done) cs (drop (entries_of_call x (es ++ e ∷ [])) (es ++ e ∷ [])))) is, (es, is))
    by_test false is =
        let none : drop (entries_of_call x (es ++ e ∷ [])) (es ++ e ∷ []) ≡ [] = drop_of_length-le (es ++ e ∷ []) (enough es some) in
        inr (ap (λ (b : Bool). cond b done (complete (x ∷ done) cs (drop (entries_of_call x (es ++ e ∷ [])) (es ++ e ∷ [])))) is
        ∙ ap (λ (xs : List Entry). complete (x ∷ done) cs xs) none ∙ none_complete (x ∷ done) cs)

past_it : (done cs : List Call) (x : Call) (y e : Entry) (ys : List Entry) → nat_lt (length (y ∷ ys)) (entries_of_call x (y ∷ ys)) ≡ false
    → complete done (x ∷ cs) ((y ∷ ys) ++ e ∷ []) ≡ complete (x ∷ done) cs (drop (entries_of_call x (y ∷ ys)) (y ∷ ys) ++ e ∷ [])
past_it done cs x y e ys full =
    let k = entries_of_call x (y ∷ ys) in
    let le : k ≤ length (y ∷ ys) = ltb-false (length (y ∷ ys)) k full in
    let same : entries_of_call x ((y ∷ ys) ++ e ∷ []) ≡ k = same_count x y (ys ++ e ∷ []) ys in
    let long : nat_lt (length ((y ∷ ys) ++ e ∷ [])) k ≡ false
    = le-ltb (length ((y ∷ ys) ++ e ∷ [])) k (let l = length-append (y ∷ ys) (e ∷ []) in omega (arith, l, le)) in
    ap (λ (m : ℕ). cond (nat_lt (length ((y ∷ ys) ++ e ∷ [])) m) done (complete (x ∷ done) cs (drop m ((y ∷ ys) ++ e ∷ [])))) same
    ∙ ap (λ (b : Bool). cond b done (complete (x ∷ done) cs (drop k ((y ∷ ys) ++ e ∷ [])))) long
    ∙ ap (λ (xs : List Entry). complete (x ∷ done) cs xs) (drop-append-le k (y ∷ ys) (e ∷ []) le)

past_any : (done cs : List Call) (x : Call) (es : List Entry) (e : Entry) → nat_lt (length es) (entries_of_call x es) ≡ false
    → complete done (x ∷ cs) (es ++ e ∷ []) ≡ complete (x ∷ done) cs (drop (entries_of_call x es) es ++ e ∷ [])
past_any done cs x [] e full = absurd (let le = ltb-false 0 (entries_of_call x []) full in let one = makes_one x [] in omega (arith, le, one))
past_any done cs x (y ∷ ys) e full = past_it done cs x y e ys full

pub completes : (done cs : List Call) (es : List Entry) (e : Entry) (c : Call) (n : ℕ) → due_of cs es ≡ Some (c, n)
    → Completes c e (complete done cs es) (complete done cs (es ++ e ∷ []))
completes done [] es e c n h = cc
completes done (x ∷ cs) es e c n h = by_test (nat_lt (length es) (entries_of_call x es)) refl
    (λ g. completes (x ∷ done) cs (drop (entries_of_call x es) es) e c n g)
  where
    by_test : (b : Bool) → nat_lt (length es) (entries_of_call x es) ≡ b
        → (due_of cs (drop (entries_of_call x es) es) ≡ Some (c, n)
        → Completes c e (complete (x ∷ done) cs (drop (entries_of_call x es) es))
        (complete (x ∷ done) cs (drop (entries_of_call x es) es ++ e ∷ [])))
        → Completes c e (complete done (x ∷ cs) es) (complete done (x ∷ cs) (es ++ e ∷ []))
    by_test true is deeper =
        let same = (same_call x c (length es) n (ap (λ (b : Bool). cond b (due_at x (length es))
        (due_of cs (drop (entries_of_call x es) es))) (sym is) ∙ h)).0 in
        let was : complete done (x ∷ cs) es ≡ done = ap (λ (b : Bool). cond b done (complete (x ∷ done) cs (drop (entries_of_call x es) es))) is in
        subst (λ (w : List Call). Completes c e w (complete done (x ∷ cs) (es ++ e ∷ []))) (sym was)
        (subst (λ (y : Call). Completes y e done (complete done (x ∷ cs) (es ++ e ∷ []))) same
        (at_due done cs x es e is))
    by_test false is deeper =
        let n = deeper (ap (λ (b : Bool). cond b (due_at x (length es)) (due_of cs (drop (entries_of_call x es) es))) (sym is) ∙ h) in
        let was : complete done (x ∷ cs) es ≡ complete (x ∷ done) cs (drop (entries_of_call x es) es)
        = ap (λ (b : Bool). cond b done (complete (x ∷ done) cs (drop (entries_of_call x es) es))) is in
        subst (λ (w : List Call). Completes c e w (complete done (x ∷ cs) (es ++ e ∷ []))) (sym was)
        (subst (λ (w : List Call). Completes c e (complete (x ∷ done) cs (drop (entries_of_call x es) es)) w) (sym (past_any done cs x es e is)) n)

-- ---- requests and frees by turns

-- from here on a free by r stands before the next request of d
abbrev pub FreedFirst : List (DriverNo × Call) → DriverNo → DevNo → Type 0
FreedFirst cs r d = (j : ℕ) (b : DriverNo × Call) → slice_get cs j ≡ Some b → requests_dev d b.1 ≡ true
    → (k : ℕ) × (c : DriverNo × Call) × (k < j) × (slice_get cs k ≡ Some c) × (frees_dev d c.1 ≡ true)

-- d's requests and frees are r's
abbrev pub AllOwn : List (DriverNo × Call) → DriverNo → DevNo → Type 0
AllOwn cs r d = (j : ℕ) (b : DriverNo × Call) → slice_get cs j ≡ Some b → (requests_dev d b.1 || frees_dev d b.1) ≡ true → b.0 ≡ r

own_tail : (x : DriverNo × Call) (cs : List (DriverNo × Call)) (r : DriverNo) (d : DevNo) → AllOwn (x ∷ cs) r d → AllOwn cs r d
own_tail x cs r d own j b at is = own (suc j) b at is

between_tail : (x : DriverNo × Call) (cs : List (DriverNo × Call)) (d : DevNo) → IsFreedBetween (x ∷ cs) d → IsFreedBetween cs d
between_tail x cs d between i j a b lt at bt ra rb = shifted (between (suc i) (suc j) a b (omega (arith, lt)) at bt ra rb)
  where
    at_place : (k : ℕ) (c : DriverNo × Call) → suc i < k → k < suc j → slice_get (x ∷ cs) k ≡ Some c
        → frees_dev d c.1 ≡ true → (k : ℕ) × (c : DriverNo × Call) × (i < k) × (k < j) × (slice_get cs k ≡ Some c)
        × (frees_dev d c.1 ≡ true)
    at_place zero c low high there frees = absurd (omega (arith, low))
    at_place (suc k) c low high there frees = (k, c, omega (arith, low), omega (arith, high), there, frees)

    shifted : (k : ℕ) × (c : DriverNo × Call) × (suc i < k) × (k < suc j) × (slice_get (x ∷ cs) k ≡ Some c)
        × (frees_dev d c.1 ≡ true) → (k : ℕ) × (c : DriverNo × Call) × (i < k) × (k < j) × (slice_get cs k ≡ Some c)
        × (frees_dev d c.1 ≡ true)
    shifted h = at_place h.0 h.1 h.2 h.3 h.4 h.5

-- the first call is no free of d by r
first_tail : (x : DriverNo × Call) (cs : List (DriverNo × Call)) (r : DriverNo) (d : DevNo) → FreedFirst (x ∷ cs) r d
    → (frees_dev d x.1 ≡ true → ⊥) → FreedFirst cs r d
first_tail x cs r d first differs j b at is = shifted (first (suc j) b at is)
  where
    at_place : (k : ℕ) (c : DriverNo × Call) → k < suc j → slice_get (x ∷ cs) k ≡ Some c → frees_dev d c.1 ≡ true
        → (k : ℕ) × (c : DriverNo × Call) × (k < j) × (slice_get cs k ≡ Some c) × (frees_dev d c.1 ≡ true)
    at_place zero c high there frees = absurd (differs (subst (λ (y : DriverNo × Call). frees_dev d y.1 ≡ true) (sym (the_same x c there)) frees))
    at_place (suc k) c high there frees = (k, c, omega (arith, high), there, frees)

    shifted : (k : ℕ) × (c : DriverNo × Call) × (k < suc j) × (slice_get (x ∷ cs) k ≡ Some c) × (frees_dev d c.1 ≡ true)
        → (k : ℕ) × (c : DriverNo × Call) × (k < j) × (slice_get cs k ≡ Some c) × (frees_dev d c.1 ≡ true)
    shifted h = at_place h.0 h.1 h.2 h.3 h.4

-- behind a request of d
first_behind : (x : DriverNo × Call) (cs : List (DriverNo × Call)) (r : DriverNo) (d : DevNo)
    → IsFreedBetween (x ∷ cs) d → requests_dev d x.1 ≡ true → FreedFirst cs r d
first_behind x cs r d between now j b at is = shifted (between zero (suc j) x b (omega arith) refl at now is)
  where
    at_place : (k : ℕ) (c : DriverNo × Call) → zero < k → k < suc j → slice_get (x ∷ cs) k ≡ Some c
        → frees_dev d c.1 ≡ true → (k : ℕ) × (c : DriverNo × Call) × (k < j) × (slice_get cs k ≡ Some c)
        × (frees_dev d c.1 ≡ true)
    at_place zero c low high there frees = absurd (omega (arith, low))
    at_place (suc k) c low high there frees = (k, c, omega (arith, high), there, frees)

    shifted : (k : ℕ) × (c : DriverNo × Call) × (zero < k) × (k < suc j) × (slice_get (x ∷ cs) k ≡ Some c)
        × (frees_dev d c.1 ≡ true) → (k : ℕ) × (c : DriverNo × Call) × (k < j) × (slice_get cs k ≡ Some c)
        × (frees_dev d c.1 ≡ true)
    shifted h = at_place h.0 h.1 h.2 h.3 h.4 h.5

-- if a request of d is due, the last complete request or free of it is none but a free
pub unrequested : (r : DriverNo) (d : DevNo) (cs : List (DriverNo × Call)) (done : List Call) (es : List Entry)
    (c : Call) (n : ℕ) → AllOwn cs r d → IsFreedBetween cs d
    → (stands (requests_dev d) (frees_dev d) done ≡ true → FreedFirst cs r d) → due_of (calls_by r cs) es ≡ Some (c, n)
    → requests_dev d c ≡ true → stands (requests_dev d) (frees_dev d) (complete done (calls_by r cs) es) ≡ false
unrequested r d [] done es c n own between first due now = cc
unrequested r d (x ∷ cs) done es c n own between first due now =
    by_driver (same_driver r x.0) refl (λ more es first due. unrequested r d cs more es c n (own_tail x cs r d own) (between_tail x cs d between) first due now)
  where
    later : stands (requests_dev d) (frees_dev d) (x.1 ∷ done) ≡ true → FreedFirst cs r d
    later s = by_call (stands_cases (requests_dev d x.1) (frees_dev d x.1) (stands (requests_dev d) (frees_dev d) done) s)
      where
        by_call : (requests_dev d x.1 ≡ true) ⊎ ((frees_dev d x.1 ≡ false) × (stands (requests_dev d) (frees_dev d) done ≡ true)) → FreedFirst cs r d
        by_call (inl is) = first_behind x cs r d between is
        by_call (inr h) = first_tail x cs r d (first h.1) (λ f. both_ways (frees_dev d x.1) f h.0)

    by_test : (b : Bool) → nat_lt (length es) (entries_of_call x.1 es) ≡ b → due_of (x.1 ∷ calls_by r cs) es ≡ Some (c, n)
        → ((more : List Call) (es : List Entry) → (stands (requests_dev d) (frees_dev d) more ≡ true
        → FreedFirst cs r d) → due_of (calls_by r cs) es ≡ Some (c, n)
        → stands (requests_dev d) (frees_dev d) (complete more (calls_by r cs) es) ≡ false)
        → stands (requests_dev d) (frees_dev d) (complete done (x.1 ∷ calls_by r cs) es) ≡ false
    by_test true is due deeper =
        let same = (same_call x.1 c (length es) n (ap (λ (b : Bool). cond b (due_at x.1 (length es))
        (due_of (calls_by r cs) (drop (entries_of_call x.1 es) es))) (sym is) ∙ due)).0 in
        let asks : requests_dev d x.1 ≡ true = subst (λ (y : Call). requests_dev d y ≡ true) (sym same) now in
        ap (λ (b : Bool). stands (requests_dev d) (frees_dev d) (cond b done (complete (x.1 ∷ done) (calls_by r cs) (drop (entries_of_call x.1 es) es)))) is
        ∙ false_from_ne_true (stands (requests_dev d) (frees_dev d) done)
        (λ s. let f = first s zero x refl asks in absurd (let low = f.2 in omega (arith, low)))
    by_test false is due deeper =
        ap (λ (b : Bool). stands (requests_dev d) (frees_dev d) (cond b done (complete (x.1 ∷ done) (calls_by r cs) (drop (entries_of_call x.1 es) es)))) is
        ∙ deeper (x.1 ∷ done) (drop (entries_of_call x.1 es) es) later
        (ap (λ (b : Bool). cond b (due_at x.1 (length es))
        (due_of (calls_by r cs) (drop (entries_of_call x.1 es) es))) (sym is) ∙ due)

    by_driver : (b : Bool) → same_driver r x.0 ≡ b
        → ((more : List Call) (es : List Entry) → (stands (requests_dev d) (frees_dev d) more ≡ true
        → FreedFirst cs r d) → due_of (calls_by r cs) es ≡ Some (c, n)
        → stands (requests_dev d) (frees_dev d) (complete more (calls_by r cs) es) ≡ false)
        → stands (requests_dev d) (frees_dev d) (complete done (calls_by r (x ∷ cs)) es) ≡ false
    by_driver true is deeper =
        ap (λ (b : Bool). stands (requests_dev d) (frees_dev d) (complete done (cond b (x.1 ∷ calls_by r cs) (calls_by r cs)) es)) is
        ∙ by_test (nat_lt (length es) (entries_of_call x.1 es)) refl
        (ap (λ (b : Bool). due_of (cond b (x.1 ∷ calls_by r cs) (calls_by r cs)) es) (sym is) ∙ due) deeper
    by_driver false is deeper =
        ap (λ (b : Bool). stands (requests_dev d) (frees_dev d) (complete done (cond b (x.1 ∷ calls_by r cs) (calls_by r cs)) es)) is
        ∙ deeper done es (λ s. first_tail x cs r d (first s) (λ f. other_owner f))
        (ap (λ (b : Bool). due_of (cond b (x.1 ∷ calls_by r cs) (calls_by r cs)) es) (sym is) ∙ due)
      where
        other_owner : frees_dev d x.1 ≡ true → ⊥
        other_owner f =
            let mine : x.0 ≡ r = own zero x refl (or_right (requests_dev d x.1) (frees_dev d x.1) f) in
            both_ways (same_driver r x.0) (subst (λ (y : DriverNo). same_driver r y ≡ true) (sym mine) (same_self_driver r)) is

-- ---- the place of a due call

pub record Place (cs : List (DriverNo × Call)) (r : DriverNo) (c : Call) : Type 0 where
  pub place : ℕ
  pub call : DriverNo × Call
  pub there : slice_get cs place ≡ Some call
  pub own : call.0 ≡ r
  pub is : call.1 ≡ c

behind : (x : DriverNo × Call) (cs : List (DriverNo × Call)) (r : DriverNo) (c : Call) → Place cs r c → Place (x ∷ cs) r c
behind x cs r c p = record { place = suc p.place; call = p.call; there = p.there; own = p.own; is = p.is }

pub place_of : (r : DriverNo) (cs : List (DriverNo × Call)) (es : List Entry) (c : Call) (n : ℕ) → due_of (calls_by r cs) es ≡ Some (c, n) → Place cs r c
place_of r [] es c n h = cc
place_of r (x ∷ cs) es c n h = by_driver (same_driver r x.0) refl (λ es g. place_of r cs es c n g)
  where
    by_test : x.0 ≡ r → ((nat_lt (length es) (entries_of_call x.1 es) ≡ true)
        × (◌≡◌ {A = Option (Call × ℕ)} (due_at x.1 (length es)) (Some (c, n))))
        ⊎ ((nat_lt (length es) (entries_of_call x.1 es) ≡ false)
        × (due_of (calls_by r cs) (drop (entries_of_call x.1 es) es) ≡ Some (c, n)))
        → ((es : List Entry) → due_of (calls_by r cs) es ≡ Some (c, n) → Place cs r c) → Place (x ∷ cs) r c
    by_test mine (inl now) deeper = record { place = zero; call = x; there = refl; own = mine; is = (same_call x.1 c (length es) n now.1).0 }
    by_test mine (inr more) deeper = behind x cs r c (deeper (drop (entries_of_call x.1 es) es) more.1)

    by_driver : (b : Bool) → same_driver r x.0 ≡ b → ((es : List Entry) → due_of (calls_by r cs) es ≡ Some (c, n) → Place cs r c) → Place (x ∷ cs) r c
    by_driver true is deeper =
        by_test (sym (driver_from_same r x.0 is)) (chosen (nat_lt (length es) (entries_of_call x.1 es))
        (due_at x.1 (length es)) (due_of (calls_by r cs) (drop (entries_of_call x.1 es) es)) (c, n)
        (ap (λ (b : Bool). due_of (cond b (x.1 ∷ calls_by r cs) (calls_by r cs)) es) (sym is) ∙ h)) deeper
    by_driver false is deeper = behind x cs r c (deeper es (ap (λ (b : Bool). due_of (cond b (x.1 ∷ calls_by r cs) (calls_by r cs)) es) (sym is) ∙ h))
