-- n lines use at most n numbers of a domain. So a search over n numbers finds the lowest unused
-- one, which is the lowest number that isn't mapped.
use Rattle.std.proofs.Common.{◌≡◌, ◌≢◌, ℕ, zero, suc, ◌+◌, ◌<◌, ◌≤◌, Bool, true, false, cond, ◌||◌, ◌==◌, ◌⊎◌, inl, inr}
use Rattle.std.proofs.Common.{List, [], ◌∷◌, length, refl, sym, ap, ◌∙◌, eqb-true, arith}
use Rattle.std.proofs.lemmas.Bool.{false≢true, eqb-false}
use Rattle.domain_rules.specs.Layout.{has_number, is_used, unused_from, lowest_unused}
use Rattle.domain_rules.specs.declared.layouts.Placement.{Placement}

-- how many numbers below c pass the test
abbrev tally : ℕ → (ℕ → Bool) → ℕ
tally zero test = 0
tally (suc c) test = cond (test c) (tally c test + 1) (tally c test)

tally_all : (c : ℕ) (test : ℕ → Bool) → ((j : ℕ) → j < c → test j ≡ true) → tally c test ≡ c
tally_all zero test all = refl
tally_all (suc c) test all = ap (λ b. cond b (tally c test + 1) (tally c test)) (all c (omega arith))
    ∙ omega (arith, tally_all c test (λ j below. all j (omega (arith, below))))

tally_none : (c : ℕ) (test : ℕ → Bool) → ((j : ℕ) → j < c → test j ≡ false) → tally c test ≡ 0
tally_none zero test none = refl
tally_none (suc c) test none = ap (λ b. cond b (tally c test + 1) (tally c test)) (none c (omega arith))
    ∙ tally_none c test (λ j below. none j (omega (arith, below)))

tally_or : (c : ℕ) (s t : ℕ → Bool) → tally c (λ j. s j || t j) ≤ tally c s + tally c t
tally_or zero s t = omega arith
tally_or (suc c) s t = by (s c) (t c) (tally c (λ j. s j || t j)) (tally c s) (tally c t) (tally_or c s t)
  where
    by : (a b : Bool) (x y z : ℕ) → x ≤ y + z → cond (a || b) (x + 1) x ≤ cond a (y + 1) y + cond b (z + 1) z
    by true true x y z e = omega (arith, e)
    by true false x y z e = omega (arith, e)
    by false true x y z e = omega (arith, e)
    by false false x y z e = omega (arith, e)

tally_one : (c : ℕ) (test : ℕ → Bool) → ((j k : ℕ) → test j ≡ true → test k ≡ true → j ≡ k) → tally c test ≤ 1
tally_one zero test one = omega arith
tally_one (suc c) test one = by (test c) refl (tally_one c test one)
  where
    other : test c ≡ true → (j : ℕ) (b : Bool) → test j ≡ b → j < c → test j ≡ false
    other here j true is below = absurd (omega (arith, one j c is here, below))
    other here j false is below = is

    by : (b : Bool) → test c ≡ b → tally c test ≤ 1 → cond b (tally c test + 1) (tally c test) ≤ 1
    by true is rest = omega (arith, tally_none c test (λ j below. other is j (test j) refl below))
    by false is rest = rest

-- each line has at most one number at the domain
abbrev pub OneEach : ℕ → List Placement → Type 0
OneEach d [] = Unit {0}
OneEach d (p ∷ ps) = ((j k : ℕ) → has_number d j p ≡ true → has_number d k p ≡ true → j ≡ k) × OneEach d ps

tally_used : (c d : ℕ) (earlier : List Placement) → OneEach d earlier → tally c (is_used earlier d) ≤ length earlier
tally_used c d [] one = omega (arith, tally_none c (is_used [] d) (λ j below. refl))
tally_used c d (p ∷ ps) one =
    omega (arith, tally_or c (λ j. has_number d j p) (is_used ps d), tally_one c (λ j. has_number d j p) one.0, tally_used c d ps one.1)

-- if all numbers below c are used, there are at least c lines
pub used_below : (c d : ℕ) (earlier : List Placement) → OneEach d earlier → ((j : ℕ) → j < c → is_used earlier d j ≡ true) → c ≤ length earlier
used_below c d earlier one all = omega (arith, tally_all c (is_used earlier d) all, tally_used c d earlier one)

pub found : (left k n d : ℕ) (earlier : List Placement) → ((j : ℕ) → j < n → is_used earlier d j ≡ true)
    → is_used earlier d n ≡ false → k ≤ n → n ≤ k + left → unused_from left k earlier d ≡ n
found zero k n d earlier all none from within = omega (arith, from, within)
found (suc left) k n d earlier all none from within =
    by (is_used earlier d k) refl (λ more. found left (k + 1) n d earlier all none more (omega (arith, within)))
  where
    by : (b : Bool) → is_used earlier d k ≡ b → (k + 1 ≤ n → unused_from left (k + 1) earlier d ≡ n) → cond b (unused_from left (k + 1) earlier d) k ≡ n
    by true is rest =
        let other : k ≢ n = λ e. false≢true (sym none ∙ (ap (is_used earlier d) (sym e) ∙ is)) in
        rest (omega (arith, from, other))
    by false is rest =
        let not_below : k < n → ⊥ = λ below. false≢true (sym is ∙ all k below) in
        omega (arith, from, not_below)

-- the lowest number that isn't used is what the search finds
pub lowest_is : (n d : ℕ) (earlier : List Placement) → OneEach d earlier
    → ((j : ℕ) → j < n → is_used earlier d j ≡ true) → is_used earlier d n ≡ false → lowest_unused earlier d ≡ n
lowest_is n d earlier one all none =
    let few : n ≤ length earlier = used_below n d earlier one all in
    found (length earlier) 0 n d earlier all none (omega arith) (omega (arith, few))

-- ---- the search finds a number that isn't used

-- one is found, or all up to the search's end are used, and that is what it gives
ends : (left k d : ℕ) (earlier : List Placement) → ((j : ℕ) → j < k → is_used earlier d j ≡ true)
    → (is_used earlier d (unused_from left k earlier d) ≡ false)
    ⊎ ((unused_from left k earlier d ≡ k + left) × ((j : ℕ) → j < k + left → is_used earlier d j ≡ true))
ends zero k d earlier all = inr (omega arith, λ j below. all j (omega (arith, below)))
ends (suc left) k d earlier all = by (is_used earlier d k) refl (λ more. ends left (k + 1) d earlier more)
  where
    up_to : is_used earlier d k ≡ true → (j : ℕ) → j < k + 1 → is_used earlier d j ≡ true
    up_to here j below = at (j == k) refl
      where
        at : (t : Bool) → (j == k) ≡ t → is_used earlier d j ≡ true
        at true e = ap (is_used earlier d) (eqb-true j k e) ∙ here
        at false e = let other : j ≢ k = eqb-false j k e in all j (omega (arith, below, other))

    by : (b : Bool) → is_used earlier d k ≡ b
        → (((j : ℕ) → j < k + 1 → is_used earlier d j ≡ true)
        → (is_used earlier d (unused_from left (k + 1) earlier d) ≡ false)
        ⊎ ((unused_from left (k + 1) earlier d ≡ k + 1 + left)
        × ((j : ℕ) → j < k + 1 + left → is_used earlier d j ≡ true)))
        → (is_used earlier d (cond b (unused_from left (k + 1) earlier d) k) ≡ false)
        ⊎ ((cond b (unused_from left (k + 1) earlier d) k ≡ k + suc left)
        × ((j : ℕ) → j < k + suc left → is_used earlier d j ≡ true))
    by true is rest = on (rest (up_to is))
      where
        on : (is_used earlier d (unused_from left (k + 1) earlier d) ≡ false)
            ⊎ ((unused_from left (k + 1) earlier d ≡ k + 1 + left)
            × ((j : ℕ) → j < k + 1 + left → is_used earlier d j ≡ true))
            → (is_used earlier d (unused_from left (k + 1) earlier d) ≡ false)
            ⊎ ((unused_from left (k + 1) earlier d ≡ k + suc left)
            × ((j : ℕ) → j < k + suc left → is_used earlier d j ≡ true))
        on (inl none) = inl none
        on (inr h) = inr (omega (arith, h.0), λ j below. h.1 j (omega (arith, below)))
    by false is rest = inl is

pub lowest_is_unused : (d : ℕ) (earlier : List Placement) → OneEach d earlier → is_used earlier d (lowest_unused earlier d) ≡ false
lowest_is_unused d earlier one = by (ends (length earlier) 0 d earlier (λ j below. absurd (omega (arith, below))))
    (is_used earlier d (lowest_unused earlier d)) refl
  where
    by : (is_used earlier d (lowest_unused earlier d) ≡ false)
        ⊎ ((lowest_unused earlier d ≡ 0 + length earlier)
        × ((j : ℕ) → j < 0 + length earlier → is_used earlier d j ≡ true))
        → (b : Bool) → is_used earlier d (lowest_unused earlier d) ≡ b → is_used earlier d (lowest_unused earlier d) ≡ false
    by (inl none) b is = none
    by (inr h) false is = is
    by (inr h) true is = absurd (omega (arith, used_below (length earlier + 1) d earlier one all))
      where
        all : (j : ℕ) → j < length earlier + 1 → is_used earlier d j ≡ true
        all j below = at (j == lowest_unused earlier d) refl
          where
            at : (t : Bool) → (j == lowest_unused earlier d) ≡ t → is_used earlier d j ≡ true
            at true e = ap (is_used earlier d) (eqb-true j (lowest_unused earlier d) e) ∙ is
            at false e = let other : j ≢ lowest_unused earlier d = eqb-false j (lowest_unused earlier d) e in h.1 j (omega (arith, below, other, h.0))
