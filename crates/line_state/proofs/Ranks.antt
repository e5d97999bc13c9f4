-- The devices of a table in the order of their numbers: each rank below their number is one's.
use Rattle.std.proofs.Common.{◌≡◌, ◌⊎◌, ℕ, ◌+◌, ◌-◌, ◌<◌, ◌≤◌, inl, inr, Bool, true, false, cond, is_some, nat_lt, Some, None, List, [], ◌∷◌}
use Rattle.std.proofs.Common.{length, refl, sym, ap, ◌∙◌, arith}
use Rattle.std.proofs.lemmas.Bool.{both_ways, cases_lt, cases_order, lt-ltb, le-ltb}
use Rattle.std.proofs.lemmas.List.Sums.{sum_by-cons}
use Rattle.std.specs.List.{sum_by}
use Rattle.irq_base.specs.declared.numbers.DevNo.{DevNo}
use Rattle.irq_model.specs.Kinds.{same_dev}
use Rattle.irq_model.proofs.Same.{dev_from_same}
use Rattle.device_table.specs.Rows.{at, has, HasOwnKeys}
use Rattle.device_table.specs.Sums.{one_if}
use Rattle.act_thread.specs.Threads.{rank_at, AreRows}
use Rattle.act_thread.specs.declared.rows.ThreadRow.{ThreadRow}
use Rattle.line_state.specs.Seen.{lowest_of}
use Rattle.line_state.proofs.LowestOf.{of_none, of_least, there_ahead, there_behind}

abbrev named : ℕ → DevNo
named n = record { 0 = n }

same_number : (a b : DevNo) → a.0 ≡ b.0 → a ≡ b
same_number a b h = ap named h

abbrev is_below : ℕ → DevNo × ThreadRow → ℕ
is_below m e = one_if (nat_lt e.0.0 m)

-- how many have numbers below m
abbrev below : List (DevNo × ThreadRow) → ℕ → ℕ
below t m = sum_by (λ (e : DevNo × ThreadRow). one_if (nat_lt e.0.0 m)) t

below_cons : (e : DevNo × ThreadRow) (es : List (DevNo × ThreadRow)) (m : ℕ) → below (e ∷ es) m ≡ is_below m e + below es m
below_cons e es m = sum_by-cons (λ (x : DevNo × ThreadRow). one_if (nat_lt x.0.0 m)) e es

counted : (e : DevNo × ThreadRow) (m : ℕ) → e.0.0 < m → is_below m e ≡ 1
counted e m h = ap one_if (lt-ltb e.0.0 m h)

uncounted : (e : DevNo × ThreadRow) (m : ℕ) → m ≤ e.0.0 → is_below m e ≡ 0
uncounted e m h = ap one_if (le-ltb e.0.0 m h)

at_most_one : (b : Bool) → one_if b ≤ 1
at_most_one true = omega arith
at_most_one false = omega arith

-- the higher the number, the more are below it
one_le : (e : DevNo × ThreadRow) (m n : ℕ) → m ≤ n → is_below m e ≤ is_below n e
one_le e m n h = by_order (cases_lt e.0.0 m)
  where
    by_order : (e.0.0 < m) ⊎ (m ≤ e.0.0) → is_below m e ≤ is_below n e
    by_order (inl less) =
        let one = counted e m less in
        let other = counted e n (omega (arith, less, h)) in
        omega (arith, one, other)
    by_order (inr le) = let none = uncounted e m le in omega (arith, none)

below_le : (t : List (DevNo × ThreadRow)) (m n : ℕ) → m ≤ n → below t m ≤ below t n
below_le [] m n h = omega arith
below_le (e ∷ es) m n h =
    let rest = below_le es m n h in
    let here = one_le e m n h in
    omega (arith, below_cons e es m, below_cons e es n, rest, here)

below_lt : (t : List (DevNo × ThreadRow)) (d : DevNo) (m : ℕ) → has t d ≡ true → d.0 < m → below t d.0 < below t m
below_lt [] d m there h = cc
below_lt (e ∷ es) d m there h = by_test (same_dev d e.0) refl there (λ t. below_lt es d m t h)
  where
    by_test : (b : Bool) → same_dev d e.0 ≡ b → is_some (cond b (Some e.1) (at es d)) ≡ true → (has es d ≡ true → below es d.0 < below es m)
        → below (e ∷ es) d.0 < below (e ∷ es) m
    by_test true is t rest =
        let num : d.0 ≡ e.0.0 = ap (λ (y : DevNo). y.0) (dev_from_same d e.0 is) in
        let none = uncounted e d.0 (omega (arith, num)) in
        let one = counted e m (omega (arith, num, h)) in
        let others = below_le es d.0 m (omega (arith, h)) in
        omega (arith, below_cons e es d.0, below_cons e es m, none, one, others)
    by_test false is t rest =
        let here = one_le e d.0 m (omega (arith, h)) in
        let others = rest t in
        omega (arith, below_cons e es d.0, below_cons e es m, here, others)

below_few : (t : List (DevNo × ThreadRow)) (m : ℕ) → below t m ≤ length t
below_few [] m = omega arith
below_few (e ∷ es) m = let one = at_most_one (nat_lt e.0.0 m) in let rest = below_few es m in omega (arith, below_cons e es m, one, rest)

rank_few : (t : List (DevNo × ThreadRow)) (d : DevNo) → has t d ≡ true → below t d.0 < length t
rank_few t d there =
    let more = below_lt t d (d.0 + 1) there (omega arith) in
    let few = below_few t (d.0 + 1) in
    omega (arith, more, few)

-- ---- each rank is one's

-- a device below m that has k others below it
record OfRank (t : List (DevNo × ThreadRow)) (m k : ℕ) : Type 0 where
  dev : DevNo
  there : has t dev ≡ true
  rank : below t dev.0 ≡ k
  low : dev.0 < m

module _ (e : DevNo × ThreadRow) (es : List (DevNo × ThreadRow)) (none : at es e.0 ≡ None) (m k : ℕ) where
  apart : (d : DevNo) → has es d ≡ true → d.0 ≡ e.0.0 → ⊥
  apart d there num =
      let same : d ≡ e.0 = same_number d e.0 num in
      both_ways (has es d) (ap (λ (x : DevNo). has es x) same ∙ ap is_some none) there

  itself : below es e.0.0 ≡ k → e.0.0 < m → OfRank (e ∷ es) m k
  itself is less =
      let own = uncounted e e.0.0 (omega arith) in
      record { dev = e.0; there = there_ahead e es; rank = omega (arith, below_cons e es e.0.0, own, is); low = less }

  -- one of the others, below the head
  before : (n : ℕ) → n ≤ m → n ≤ e.0.0 → OfRank es n k → OfRank (e ∷ es) m k
  before n le under w =
      let low = w.low in
      let own = uncounted e w.dev.0 (omega (arith, under, low)) in
      record {
        dev = w.dev;
        there = there_behind e es w.dev w.there;
        rank = omega (arith, below_cons e es w.dev.0, own, w.rank);
        low = omega (arith, low, le);
      }

  -- one of the others, above the head
  after : below es e.0.0 < k → OfRank es m (k - 1) → OfRank (e ∷ es) m k
  after more w = by_order (cases_order w.dev.0 e.0.0)
    where
      by_order : (w.dev.0 ≡ e.0.0) ⊎ ((w.dev.0 < e.0.0) ⊎ (e.0.0 < w.dev.0)) → OfRank (e ∷ es) m k
      by_order (inl same) = absurd (apart w.dev w.there same)
      by_order (inr (inl less)) = absurd (let fewer = below_lt es w.dev e.0.0 w.there less in omega (arith, fewer, w.rank, more))
      by_order (inr (inr above)) =
          let own = counted e w.dev.0 above in
          record {
            dev = w.dev;
            there = there_behind e es w.dev w.there;
            rank = omega (arith, below_cons e es w.dev.0, own, w.rank, more);
            low = w.low;
          }

of_rank : (t : List (DevNo × ThreadRow)) → HasOwnKeys t → (m k : ℕ) → k < below t m → OfRank t m k
of_rank [] own m k h = absurd (omega (arith, h))
of_rank (e ∷ es) own m k h = by_order (cases_lt e.0.0 m) (cases_order k (below es e.0.0)) (of_rank es own.1)
  where
    by_order : (e.0.0 < m) ⊎ (m ≤ e.0.0) → (k ≡ below es e.0.0) ⊎ ((k < below es e.0.0) ⊎ (below es e.0.0 < k))
        → ((n j : ℕ) → j < below es n → OfRank es n j) → OfRank (e ∷ es) m k
    by_order (inl less) (inl same) rest = itself e es own.0 m k (sym same) less
    by_order (inl less) (inr (inl fewer)) rest = before e es own.0 m k e.0.0 (omega (arith, less)) (omega arith) (rest e.0.0 k fewer)
    by_order (inl less) (inr (inr more)) rest =
        let one = counted e m less in
        after e es own.0 m k more (rest m (k - 1) (omega (arith, h, below_cons e es m, one, more)))
    by_order (inr le) order rest =
        let none = uncounted e m le in
        before e es own.0 m k m (omega arith) le (rest m k (omega (arith, h, below_cons e es m, none)))

-- ---- a look at each rank, from the lowest on

some_number : (m n : ℕ) → Some m ≡ Some n → m ≡ n
some_number m n h = cc

rank_is : (t : List (DevNo × ThreadRow)) (d : DevNo) → has t d ≡ true → rank_at t d ≡ Some (below t d.0)
rank_is t d there = ap (λ (b : Bool). cond b (Some (below t d.0)) None) there

rank_of : (t : List (DevNo × ThreadRow)) (d : DevNo) (k : ℕ) → rank_at t d ≡ Some k → (has t d ≡ true) × (below t d.0 ≡ k)
rank_of t d k h = by_test (has t d) refl h
  where
    by_test : (b : Bool) → has t d ≡ b → cond b (Some (below t d.0)) None ≡ Some k → (has t d ≡ true) × (below t d.0 ≡ k)
    by_test true is i = (is, some_number (below t d.0) k i)
    by_test false is i = cc

-- none of the devices with ranks below k passes; and what is known of the rows since a rank was looked at
pub record IsLooked (q : DevNo → Bool) (t : List (DevNo × ThreadRow)) (k : ℕ) : Type 0 where
  pub none : (d : DevNo) → has t d ≡ true → below t d.0 < k → q d ≡ false
  pub rows : 0 < k → AreRows t

module _ (q : DevNo → Bool) (t : List (DevNo × ThreadRow)) where
  pub looked_first : IsLooked q t 0
  looked_first = record { none = λ d there h. absurd (omega (arith, h)); rows = λ h. absurd (omega (arith, h)) }

  module _ (k : ℕ) (looked : IsLooked q t k) where
    pub looked_next : AreRows t → (x : DevNo) → rank_at t x ≡ Some k → q x ≡ false → IsLooked q t (k + 1)
    looked_next rows x rank fails = record { none = λ d there h. by_order d there h (cases_lt (below t d.0) k); rows = λ h. rows }
      where
        w : (has t x ≡ true) × (below t x.0 ≡ k)
        w = rank_of t x k rank

        same : (d : DevNo) → has t d ≡ true → below t d.0 ≡ k → (d.0 ≡ x.0) ⊎ ((d.0 < x.0) ⊎ (x.0 < d.0)) → q d ≡ false
        same d there is (inl num) = ap q (same_number d x num) ∙ fails
        same d there is (inr (inl less)) = absurd (let up = below_lt t d x.0 there less in omega (arith, up, is, w.1))
        same d there is (inr (inr more)) = absurd (let up = below_lt t x d.0 w.0 more in omega (arith, up, is, w.1))

        by_order : (d : DevNo) → has t d ≡ true → below t d.0 < k + 1 → (below t d.0 < k) ⊎ (k ≤ below t d.0) → q d ≡ false
        by_order d there h (inl less) = looked.none d there less
        by_order d there h (inr le) = same d there (omega (arith, le, h)) (cases_order d.0 x.0)

    pub found_at : (x : DevNo) → rank_at t x ≡ Some k → q x ≡ true → Some x ≡ lowest_of q t
    found_at x rank passes = sym (of_least q t x w.0 passes (λ d there is. by_order d there is (cases_lt d.0 x.0)))
      where
        w : (has t x ≡ true) × (below t x.0 ≡ k)
        w = rank_of t x k rank

        by_order : (d : DevNo) → has t d ≡ true → q d ≡ true → (d.0 < x.0) ⊎ (x.0 ≤ d.0) → x.0 ≤ d.0
        by_order d there is (inl less) =
            absurd (both_ways (q d) (looked.none d there (let up = below_lt t d x.0 there less in omega (arith, up, w.1))) is)
        by_order d there is (inr le) = le

    pub none_left : AreRows t → ((d : DevNo) → rank_at t d ≡ Some k → ⊥) → None ≡ lowest_of q t
    none_left rows gone = sym (of_none q t (λ d there. looked.none d there (by_order d there (cases_order (below t d.0) k))))
      where
        by_order : (d : DevNo) → has t d ≡ true → (below t d.0 ≡ k) ⊎ ((below t d.0 < k) ⊎ (k < below t d.0)) → below t d.0 < k
        by_order d there (inl same) = absurd (gone d (rank_is t d there ∙ ap Some same))
        by_order d there (inr (inl less)) = less
        by_order d there (inr (inr more)) = let o = of_rank t rows.own d.0 k more in absurd (gone o.dev (rank_is t o.dev o.there ∙ ap Some o.rank))

    pub none_at_all : 256 ≤ k → None ≡ lowest_of q t
    none_at_all all = sym (of_none q t (λ d there. looked.none d there
        (let few = rank_few t d there in let most = (looked.rows (omega (arith, all))).few in omega (arith, few, most, all))))
