-- The sets of ranks after one row has changed.
use Rattle.std.proofs.Common.{◌≡◌, ℕ, ◌<◌, ◌⊎◌, Bool, true, false, cond, eqb, Some, List, refl, sym, ap, ◌∙◌, inl, inr, eqb-true, eq-eqb, arith}
use Rattle.std.proofs.lemmas.Bool.{cases_order, eqb-false, ne_eqb}
use Rattle.irq_base.specs.declared.numbers.DevNo.{DevNo}
use Rattle.irq_model.specs.Kinds.{same_dev}
use Rattle.irq_model.proofs.Same.{dev_from_same}
use Rattle.device_table.specs.Ranks.{IsRanking}
use Rattle.device_table.specs.RankSets.{holds}
use Rattle.device_table.specs.Rows.{at, put}
use Rattle.device_table.proofs.Lowest.{at_put_same, at_put_other}
use Rattle.act_thread.specs.Marked.{is_rank, AreMarked}
use Rattle.act_thread.specs.declared.rows.ThreadRow.{ThreadRow}

-- one rank, one number
rank_apart : (ranks : List (DevNo × ℕ)) (d x : DevNo) (r : ℕ) → IsRanking ranks → at ranks d ≡ Some r → at ranks x ≡ Some r → d.0 ≡ x.0
rank_apart ranks d x r h p q = by_order (cases_order d.0 x.0)
  where
    by_order : (d.0 ≡ x.0) ⊎ ((d.0 < x.0) ⊎ (x.0 < d.0)) → d.0 ≡ x.0
    by_order (inl same) = same
    by_order (inr (inl less)) = absurd (let u : r < r = h.rises d x r r p q less in omega (arith, u))
    by_order (inr (inr more)) = absurd (let u : r < r = h.rises x d r r q p more in omega (arith, u))

some_rank : (r s : ℕ) → Some r ≡ Some s → r ≡ s
some_rank r s h = cc

some_row : (r s : ThreadRow) → Some r ≡ Some s → r ≡ s
some_row r s h = cc

module _ (p : ThreadRow → Bool) (t : List (DevNo × ThreadRow)) (ranks : List (DevNo × ℕ)) (words after : List ℕ) (d : DevNo) (old new : ThreadRow) (own : ℕ)
    (ranking : IsRanking ranks) (there : at t d ≡ Some old) (mine : at ranks d ≡ Some own) (marked : AreMarked p t ranks words)
    (more : (r : ℕ) → r < 256 → holds after r ≡ cond (is_rank r (at ranks d)) (p new) (holds words r)) where
  small : own < 256
  small = ranking.few d own mine

  at_own : holds after own ≡ p new
  at_own = more own small ∙ ap (λ b. cond b (p new) (holds words own)) (ap (is_rank own) mine ∙ eq-eqb own own refl)

  at_other : (r : ℕ) → r < 256 → (r ≡ own → ⊥) → holds after r ≡ holds words r
  at_other r low ne = more r low ∙ ap (λ b. cond b (p new) (holds words r)) (ap (is_rank r) mine ∙ ne_eqb r own ne)

  here_more : (x : DevNo) (row : ThreadRow) (r : ℕ) (b : Bool) → same_dev d x ≡ b → at (put t d new) x ≡ Some row → at ranks x ≡ Some r → holds after r ≡ p row
  here_more x row r true is found rank =
      let e : d ≡ x = dev_from_same d x is in
      let same : new ≡ row = some_row new row (sym (at_put_same t d new old there) ∙ (ap (at (put t d new)) e ∙ found)) in
      let num : r ≡ own = some_rank r own (sym rank ∙ (ap (at ranks) (sym e) ∙ mine)) in
      ap (holds after) num ∙ (at_own ∙ ap p same)
  here_more x row r false is found rank =
      let ne : r ≡ own → ⊥ = λ e. eqb-false d.0 x.0 is (rank_apart ranks d x own ranking mine (rank ∙ ap Some e)) in
      at_other r (ranking.few x r rank) ne ∙ marked.here x row r (sym (at_put_other t d x new is) ∙ found) rank

  kept_one : (r : ℕ) → (r ≡ own → ⊥) → (x : DevNo) (row : ThreadRow) → at t x ≡ Some row → at ranks x ≡ Some r
      → (b : Bool) → same_dev d x ≡ b → (y : DevNo) × (s : ThreadRow) × (at (put t d new) y ≡ Some s)
      × (at ranks y ≡ Some r)
  kept_one r ne x row found rank true is = absurd (ne (some_rank r own (sym rank ∙ (ap (at ranks) (sym (dev_from_same d x is)) ∙ mine))))
  kept_one r ne x row found rank false is = (x, row, at_put_other t d x new is ∙ found, rank)

  only_more : (r : ℕ) → r < 256 → holds after r ≡ true → (b : Bool) → eqb r own ≡ b
      → (y : DevNo) × (s : ThreadRow) × (at (put t d new) y ≡ Some s) × (at ranks y ≡ Some r)
  only_more r low is true e = (d, new, at_put_same t d new old there, mine ∙ ap Some (sym (eqb-true r own e)))
  only_more r low is false e =
      let ne : r ≡ own → ⊥ = eqb-false r own e in
      let w = marked.only r low (sym (at_other r low ne) ∙ is) in
      kept_one r ne w.0 w.1 w.2 w.3 (same_dev d w.0) refl

  pub marked_put : AreMarked p (put t d new) ranks after
  marked_put = record {
    here = λ x row r found rank. here_more x row r (same_dev d x) refl found rank;
    only = λ r low is. only_more r low is (eqb r own) refl;
  }
