-- What the entries of an actor's calls weigh together, by what each call may weigh.
use Rattle.std.proofs.Common.{◌≡◌, ℕ, ◌+◌, ◌≤◌, ◌==◌, inl, inr, Bool, true, false, cond, List, []}
use Rattle.std.proofs.Common.{◌∷◌, ◌++◌, filter, reverse, refl, ap, arith}
use Rattle.std.proofs.lemmas.Grind.{reverse_onto}
use Rattle.irq_base.specs.declared.numbers.DriverNo.{DriverNo}
use Rattle.irq_base.specs.declared.calls.Call.{Call}
use Rattle.irq_base.specs.declared.lines.LineDef.{LineDef}
use Rattle.irq_base.specs.declared.entries.Entry.{Entry}
use Rattle.irq_base.specs.declared.entries.Entry.TheVariants as by
use Rattle.irq_model.specs.Kinds.{same_driver, is_by_driver}
use Rattle.irq_model.specs.Due.{calls_by, entries_by}
use Rattle.irq_model.specs.Scripts.{MakesAll, AreMadeBy, FollowsScriptsPast}
use Rattle.irq_storms.specs.Tests.{total, is_by_any_driver}
use Rattle.irq_storms.proofs.Counting.{total_ext, total_at, totals_by_key}

-- ---- joined, reversed and filtered lists

module _ {A : Type 0} (f : A → ℕ) where
  pub total_join : (xs ys : List A) → total f (xs ++ ys) ≡ total f xs + total f ys
  total_join [] ys = omega arith
  total_join (x ∷ xs) ys = let r = total_join xs ys in omega (arith, r)

  pub total_back : (xs : List A) → total f (reverse xs) ≡ total f xs
  total_back [] = refl
  total_back (x ∷ xs) =
      let turned : total f (reverse (x ∷ xs)) ≡ total f (reverse xs ++ x ∷ []) = ap (λ (l : List A). total f l) (reverse_onto xs x []) in
      let a = total_join (reverse xs) (x ∷ []) in
      let r = total_back xs in
      omega (arith, turned, a, r)

  pub total_kept : (q : A → Bool) (xs : List A) → total f (filter q xs) ≡ total (λ x. cond (q x) (f x) 0) xs
  total_kept q [] = refl
  total_kept q (x ∷ xs) = by_test (q x) (total_kept q xs)
    where
      by_test : (b : Bool) → total f (filter q xs) ≡ total (λ x. cond (q x) (f x) 0) xs
          → total f (cond b (x ∷ filter q xs) (filter q xs)) ≡ cond b (f x) 0 + total (λ x. cond (q x) (f x) 0) xs
      by_test true h = omega (arith, h)
      by_test false h = omega (arith, h)

-- ---- the entries of calls

abbrev pub driver_key : Entry → ℕ
driver_key (by.Driver driver e) = driver.0
driver_key (by.DriverCall driver call) = driver.0
driver_key _ = 0

-- f: what an entry weighs; w: what the entries of a call weigh at most
module _ (f : Entry → ℕ) (w : Call → ℕ) (most : (c : Call) (es : List Entry) → MakesAll c es → total f es ≤ w c) where
  pub made_total : (cs : List Call) (es : List Entry) → AreMadeBy cs es → total f es ≤ total w cs
  made_total [] es h = let n : total f es ≡ 0 = ap (λ (l : List Entry). total f l) h in omega (arith, n)
  made_total (c ∷ cs) es (inl made) =
      let j = total_join f es made.0 in
      let m = most c (es ++ made.0) made.1 in
      omega (arith, j, m)
  made_total (c ∷ cs) es (inr made) =
      let s : total f es ≡ total f (made.0 ++ made.1) = ap (λ (l : List Entry). total f l) made.2 in
      let j = total_join f made.0 made.1 in
      let m = most c made.0 made.3 in
      let r = made_total cs made.1 made.4 in
      omega (arith, s, j, m, r)

  weights_by : (r : DriverNo) (cs : List (DriverNo × Call)) → total w (calls_by r cs) ≡ total_at (λ c. c.0.0) (λ c. w c.1) r.0 cs
  weights_by r [] = refl
  weights_by r (c ∷ cs) = by_test (same_driver r c.0) (weights_by r cs)
    where
      by_test : (b : Bool) → total w (calls_by r cs) ≡ total_at (λ c. c.0.0) (λ c. w c.1) r.0 cs
          → total w (cond b (c.1 ∷ calls_by r cs) (calls_by r cs))
          ≡ cond b (w c.1) 0 + total_at (λ c. c.0.0) (λ c. w c.1) r.0 cs
      by_test true h = omega (arith, h)
      by_test false h = omega (arith, h)

  -- what drivers alone weigh
  module _ (drivers_alone : (e : Entry) → is_by_any_driver e ≡ false → f e ≡ 0) where
    no_weight : (a b : Bool) (n : ℕ) → n ≡ 0 → cond a n 0 ≡ cond b n 0
    no_weight true true n h = refl
    no_weight false false n h = refl
    no_weight true false n h = h
    no_weight false true n h = omega (arith, h)

    at_driver : (k : ℕ) (e : Entry) → cond (is_by_driver (record { 0 = k }) e) (f e) 0 ≡ cond (k == driver_key e) (f e) 0
    at_driver k (by.Driver driver e) = refl
    at_driver k (by.DriverCall driver call) = refl
    at_driver k e = no_weight (is_by_driver (record { 0 = k }) e) (k == driver_key e) (f e) (drivers_alone e refl)

    of_driver : (def : LineDef) (past : List Entry) → FollowsScriptsPast def past → (k : ℕ)
        → total_at driver_key f k past ≤ total_at (λ c. c.0.0) (λ c. w c.1) k def.calls
    of_driver def past follows k =
        let r : DriverNo = record { 0 = k } in
        let made : total f (entries_by r past) ≤ total w (calls_by r def.calls) = made_total (calls_by r def.calls) (entries_by r past) (follows r) in
        let back : total f (entries_by r past) ≡ total f (filter (is_by_driver r) past) = total_back f (filter (is_by_driver r) past) in
        let kept = total_kept f (is_by_driver r) past in
        let same : total (λ e. cond (is_by_driver r e) (f e) 0) past ≡ total_at driver_key f k past = total_ext _ _ past (at_driver k) in
        let weights = weights_by r def.calls in
        omega (arith, made, back, kept, same, weights)

    -- all drivers
    pub of_drivers : (def : LineDef) (past : List Entry) → FollowsScriptsPast def past → total f past ≤ total (λ c. w c.1) def.calls
    of_drivers def past follows = totals_by_key driver_key f past (λ c. c.0.0) (λ c. w c.1) def.calls (of_driver def past follows)
