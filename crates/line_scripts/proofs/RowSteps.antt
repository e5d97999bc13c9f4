-- What a new row, a row that changes, and one more call make of the scripts.
use Rattle.std.proofs.Common.{◌≡◌, ℕ, zero, suc, ◌+◌, Bool, true, false, cond, Option, Some, None, unwrap_or, List, []}
use Rattle.std.proofs.Common.{◌∷◌, ◌++◌, length, ◌<◌, take, drop, slice_get, refl, sym, ap, ◌∙◌, subst, eq-eqb}
use Rattle.std.proofs.Common.{eqb-true, add-one, IsSome, ◌&&◌, arith}
use Rattle.std.specs.Map.{lookup, set_value}
use Rattle.irq_base.specs.declared.calls.Call.{Call}
use Rattle.irq_base.specs.declared.numbers.DriverNo.{DriverNo}
use Rattle.irq_model.specs.Bounds.{is_ask_call}
use Rattle.irq_model.specs.Due.{calls_by}
use Rattle.irq_model.specs.Kinds.{same_driver}
use Rattle.irq_model.specs.Places.{count_of}
use Rattle.irq_model.proofs.Same.{driver_from_same}
use Rattle.line_scripts.specs.Rows.{RowSeen, unbegun, row_of, asks_in, asks_left, call_in, is_some_ask}

-- the same either way round
pub other_both : (r s : DriverNo) → same_driver r s ≡ false → same_driver s r ≡ false
other_both r s h = by_test (same_driver s r) refl
  where
    by_test : (b : Bool) → same_driver s r ≡ b → same_driver s r ≡ false
    by_test false e = e
    by_test true e = let t = sym (eq-eqb r.0 s.0 (sym (eqb-true s.0 r.0 e))) ∙ h in cc

some_same : (v w : RowSeen) → Some v ≡ Some w → v ≡ w
some_same v w h = cc

-- a row that changes
pub asks_set : (test : DriverNo → Bool) (es : List (DriverNo × RowSeen)) (v w : RowSeen) → lookup test es ≡ Some v
    → asks_left (set_value test es w) + asks_in v ≡ asks_left es + asks_in w
asks_set test [] v w h = cc
asks_set test (e ∷ es) v w h = by_test (test e.0) h (asks_set test es v w)
  where
    by_test : (b : Bool) → cond b (Some e.1) (lookup test es) ≡ Some v
        → (lookup test es ≡ Some v → asks_left (set_value test es w) + asks_in v ≡ asks_left es + asks_in w)
        → asks_left (cond b ((e.0, w) ∷ es) (e ∷ set_value test es w)) + asks_in v ≡ asks_in e.1 + asks_left es + asks_in w
    by_test true at rest = omega (arith, ap asks_in (some_same e.1 v at))
    by_test false at rest = omega (arith, rest at)

-- a new row
pub asks_new : (es : List (DriverNo × RowSeen)) (r : DriverNo) (v : RowSeen) → asks_left (es ++ (r, v) ∷ []) ≡ asks_left es + asks_in v
asks_new [] r v = omega arith
asks_new (e ∷ es) r v = omega (arith, asks_new es r v)

-- one more item in a list
pub count_last : {A : Type 0} (p : A → Bool) (xs : List A) (x : A) → count_of p (xs ++ x ∷ []) ≡ count_of p xs + cond (p x) 1 0
count_last p [] x = by_test (p x)
  where
    by_test : (b : Bool) → cond b (0 + 1) 0 ≡ 0 + cond b 1 0
    by_test true = refl
    by_test false = refl
count_last p (y ∷ ys) x = by_test (p y) (count_last p ys x)
  where
    by_test : (b : Bool) → count_of p (ys ++ x ∷ []) ≡ count_of p ys + cond (p x) 1 0
        → cond b (count_of p (ys ++ x ∷ []) + 1) (count_of p (ys ++ x ∷ []))
        ≡ cond b (count_of p ys + 1) (count_of p ys) + cond (p x) 1 0
    by_test true h = omega (arith, h)
    by_test false h = h

-- one more item up to a place
pub take_item : {A : Type 0} (xs : List A) (i : ℕ) (x : A) → slice_get xs i ≡ Some x → take (i + 1) xs ≡ take i xs ++ x ∷ []
take_item [] i x h = cc
take_item (y ∷ ys) zero x h = let e : y ≡ x = cc in ap (λ z. z ∷ []) e
take_item (y ∷ ys) (suc i) x h =
    let more : take (i + 1) ys ≡ take i ys ++ x ∷ [] = take_item ys i x h in
    ap (λ n. take n (y ∷ ys)) (add-one (suc i)) ∙ ap (λ zs. y ∷ zs) (ap (λ n. take n ys) (sym (add-one i)) ∙ more)

-- one more call, of its driver and of another
pub calls_last : (r : DriverNo) (cs : List (DriverNo × Call)) (who : DriverNo) (call : Call) → same_driver r who ≡ true
    → calls_by r (cs ++ (who, call) ∷ []) ≡ calls_by r cs ++ call ∷ []
calls_last r [] who call mine = ap (λ b. cond b (call ∷ []) []) mine
calls_last r (c ∷ cs) who call mine = by_test (same_driver r c.0) (calls_last r cs who call mine)
  where
    by_test : (b : Bool) → calls_by r (cs ++ (who, call) ∷ []) ≡ calls_by r cs ++ call ∷ []
        → cond b (c.1 ∷ calls_by r (cs ++ (who, call) ∷ [])) (calls_by r (cs ++ (who, call) ∷ []))
        ≡ cond b (c.1 ∷ calls_by r cs) (calls_by r cs) ++ call ∷ []
    by_test true h = ap (λ xs. c.1 ∷ xs) h
    by_test false h = h

pub calls_other : (r : DriverNo) (cs : List (DriverNo × Call)) (who : DriverNo) (call : Call)
    → same_driver r who ≡ false → calls_by r (cs ++ (who, call) ∷ []) ≡ calls_by r cs
calls_other r [] who call other = ap (λ b. cond b (call ∷ []) []) other
calls_other r (c ∷ cs) who call other = ap (λ xs. cond (same_driver r c.0) (c.1 ∷ xs) xs) (calls_other r cs who call other)

-- while no call has begun, one more call of a driver goes into its row
pub rows_more : (s n : List (DriverNo × RowSeen)) (cs : List (DriverNo × Call)) (who : DriverNo) (call : Call)
    → ((r : DriverNo) → row_of s r ≡ unbegun (calls_by r cs))
    → row_of n who ≡ record (row_of s who) { calls = (row_of s who).calls ++ call ∷ [] }
    → ((r : DriverNo) → same_driver r who ≡ false → row_of n r ≡ row_of s r)
    → (r : DriverNo) → row_of n r ≡ unbegun (calls_by r (cs ++ (who, call) ∷ []))
rows_more s n cs who call all own others r = by_test (same_driver r who) refl
  where
    by_test : (b : Bool) → same_driver r who ≡ b → row_of n r ≡ unbegun (calls_by r (cs ++ (who, call) ∷ []))
    by_test true mine =
        let e : r ≡ who = driver_from_same r who mine in
        ap (λ (x : DriverNo). row_of n x) e ∙ (own ∙ (ap (λ (x : RowSeen). record x { calls = x.calls ++ call ∷ [] })
        (ap (λ (x : DriverNo). row_of s x) (sym e) ∙ all r) ∙ ap unbegun (sym (calls_last r cs who call mine))))
    by_test false other = others r other ∙ (all r ∙ ap unbegun (sym (calls_other r cs who call other)))

-- one call of the row is complete
pub asks_from : (cs : List Call) (p : ℕ) (c : Call) → slice_get cs p ≡ Some c
    → count_of is_ask_call (drop p cs) ≡ count_of is_ask_call (drop (p + 1) cs) + cond (is_ask_call c) 1 0
asks_from [] p c h = cc
asks_from (x ∷ cs) zero c h = let e : x ≡ c = cc in by_test (is_ask_call x) ∙ ap (λ (y : Call). count_of is_ask_call cs + cond (is_ask_call y) 1 0) e
  where
    by_test : (b : Bool) → cond b (count_of is_ask_call cs + 1) (count_of is_ask_call cs) ≡ count_of is_ask_call cs + cond b 1 0
    by_test true = refl
    by_test false = omega arith
asks_from (x ∷ cs) (suc p) c h =
    asks_from cs p c h ∙ ap (λ (n : ℕ). count_of is_ask_call (drop n (x ∷ cs)) + cond (is_ask_call c) 1 0) (ap suc (add-one p) ∙ sym (add-one (suc p)))

-- the row that a look-up finds
pub row_found : (es s : List (DriverNo × RowSeen)) (who : DriverNo) (v : RowSeen) → es ≡ s → lookup (same_driver who) es ≡ Some v → row_of s who ≡ v
row_found es s who v seen at = ap (λ rows. row_of rows who) (sym seen) ∙ ap (λ o. unwrap_or o (unbegun [])) at

pub is_there : (o : Option RowSeen) (v : RowSeen) → o ≡ Some v → IsSome o
is_there o v at = subst (λ (x : Option RowSeen). IsSome x) (sym at) refl

asks_unbegun : (x : RowSeen) → x.place ≡ 0 → asks_in x ≡ count_of is_ask_call x.calls
asks_unbegun x h = ap (λ n. count_of is_ask_call (drop n x.calls)) h

-- a row takes one more call while none has begun
pub asks_pushed : (es : List (DriverNo × RowSeen)) (who : DriverNo) (v w : RowSeen) (call : Call) → lookup (same_driver who) es ≡ Some v → v.place ≡ 0
    → w ≡ record v { calls = v.calls ++ call ∷ [] } → asks_left (set_value (same_driver who) es w) ≡ asks_left es + cond (is_ask_call call) 1 0
asks_pushed es who v w call at start is =
    let first : w.place ≡ 0 = ap (λ (x : RowSeen). x.place) is ∙ start in
    let new : asks_in w ≡ count_of is_ask_call (v.calls ++ call ∷ []) = asks_unbegun w first ∙ ap (λ (x : RowSeen). count_of is_ask_call x.calls) is in
    omega (arith, asks_set (same_driver who) es v w at, new, asks_unbegun v start, count_last is_ask_call v.calls call)

-- one more entry of the call that is due
asks_stepped : (v w : RowSeen) (completes : Bool) → IsSome (call_in v) → w.calls ≡ v.calls → w.place ≡ cond completes (v.place + 1) v.place
    → asks_in v ≡ asks_in w + cond (completes && is_some_ask (call_in v)) 1 0
asks_stepped v w completes some same moved = by_call (call_in v) refl some
  where
    rest : asks_in w ≡ count_of is_ask_call (drop (cond completes (v.place + 1) v.place) v.calls)
    rest = ap (λ n. count_of is_ask_call (drop n w.calls)) moved
        ∙ ap (λ (cs : List Call). count_of is_ask_call (drop (cond completes (v.place + 1) v.place) cs)) same

    by_end : (b : Bool) (c : Call) → slice_get v.calls v.place ≡ Some c
        → count_of is_ask_call (drop v.place v.calls) ≡ count_of is_ask_call
        (drop (cond b (v.place + 1) v.place) v.calls) + cond (b && is_ask_call c) 1 0
    by_end true c at = asks_from v.calls v.place c at
    by_end false c at = omega arith

    by_call : (o : Option Call) → call_in v ≡ o → IsSome o → asks_in v ≡ asks_in w + cond (completes && is_some_ask (call_in v)) 1 0
    by_call None at none = cc
    by_call (Some c) at _ =
        by_end completes c at ∙ (ap (λ n. n + cond (completes && is_ask_call c) 1 0) (sym rest)
        ∙ ap (λ (o : Option Call). asks_in w + cond (completes && is_some_ask o) 1 0) (sym at))

pub asks_advanced : (es : List (DriverNo × RowSeen)) (who : DriverNo) (v w : RowSeen) (completes : Bool)
    → lookup (same_driver who) es ≡ Some v → IsSome (call_in v)
    → w.calls ≡ v.calls → w.place ≡ cond completes (v.place + 1) v.place
    → asks_left (set_value (same_driver who) es w) + cond (completes && is_some_ask (call_in v)) 1 0 ≡ asks_left es
asks_advanced es who v w completes at some same moved = omega (arith, asks_set (same_driver who) es v w at, asks_stepped v w completes some same moved)

-- a new row of one call
pub asks_added : (es : List (DriverNo × RowSeen)) (who : DriverNo) (v : RowSeen) (call : Call) → v ≡ unbegun (call ∷ [])
    → asks_left (es ++ (who, v) ∷ []) ≡ asks_left es + cond (is_ask_call call) 1 0
asks_added es who v call is = asks_new es who v ∙ ap (λ n. asks_left es + n) (ap asks_in is ∙ by_test (is_ask_call call))
  where
    by_test : (b : Bool) → cond b (0 + 1) 0 ≡ cond b 1 0
    by_test true = refl
    by_test false = refl

-- below the length there is an item
pub some_item : {A P : Type 0} (xs : List A) (i : ℕ) → i < length xs → slice_get xs i ≡ None → P
some_item [] i lt none = absurd (omega arith)
some_item (x ∷ xs) zero lt none = cc
some_item (x ∷ xs) (suc i) lt none = some_item xs i (omega arith) none
