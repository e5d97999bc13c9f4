-- The lowest rank belongs to the lowest device.
use Rattle.std.proofs.Common.{◌≡◌, ℕ, ◌+◌, ◌<◌, ◌≤◌, Bool, true, false, ◌||◌, ◌&&◌, ◌⊎◌, Option, Some, None, List, refl, sym, ap, subst, ◌∙◌, inl, inr, arith}
use Rattle.std.proofs.lemmas.Bool.{cases_lt, or_cases, and_parts, both_ways}
use Rattle.irq_base.specs.declared.numbers.DevNo.{DevNo}
use Rattle.device_table.specs.RankSets.{holds, IsFirst}
use Rattle.device_table.specs.Rows.{at, lowest_where}
use Rattle.device_table.specs.Sums.{one_if}
use Rattle.device_table.proofs.Lowest.{lowest_is, lowest_none}
use Rattle.device_table.proofs.Weights.{weight_has}
use Rattle.act_thread.specs.Marked.{IsKept}
use Rattle.act_thread.specs.Steps.{could_step, is_ready, is_in_run, is_returned_stage, steps_at, active_row}
use Rattle.act_thread.specs.Threads.{AreRows}
use Rattle.act_thread.specs.declared.rows.Stage.{Stage}
use Rattle.act_thread.specs.declared.rows.Stage.TheVariants as stages
use Rattle.act_thread.specs.declared.rows.ThreadRow.{ThreadRow}

-- a row that counts nothing couldn't step
at_rest : (woken goes_on : Bool) (stage : Stage) → one_if woken + one_if (is_in_run stage) ≡ 0
    → (steps_at woken stage || (goes_on && is_returned_stage stage)) ≡ false
at_rest true goes_on stage h = absurd (omega (arith, h))
at_rest false true stages.Idle h = refl
at_rest false false stages.Idle h = refl
at_rest false goes_on stages.Begun h = absurd (omega (arith, h))
at_rest false goes_on stages.Returned h = absurd (omega (arith, h))
at_rest false goes_on stages.Finished h = absurd (omega (arith, h))

module _ (t : List (DevNo × ThreadRow)) (a h : ℕ) (ranks : List (DevNo × ℕ)) (ready returned : List ℕ) (goes_on : Bool)
    (kept : IsKept t a h ranks ready returned) where
  pub rows_seen : (s : List (DevNo × ThreadRow)) → t ≡ s → AreRows s
  rows_seen s seen = subst AreRows seen (record { few = kept.few; own = kept.own })

  abbrev test : ℕ → Bool
  test r = holds ready r || (goes_on && holds returned r)

  -- the bit of a device's rank is whether its thread could step
  bit_is : (d : DevNo) (row : ThreadRow) (r : ℕ) → at t d ≡ Some row → at ranks d ≡ Some r → test r ≡ could_step goes_on row
  bit_is d row r has rank = ap (λ b. b || (goes_on && holds returned r)) (kept.readies.here d row r has rank)
      ∙ ap (λ b. is_ready row || (goes_on && b)) (kept.returns.here d row r has rank)

  pub none_found : IsFirst test None → lowest_where (could_step goes_on) t ≡ None
  none_found none = lowest_none (could_step goes_on) t kept.own
      (λ d row has. let w = kept.ranked d row has in sym (bit_is d row w.0 has w.1)
      ∙ none w.0 (kept.ranking.few d w.0 w.1))

  -- no thread is to run, and none is in a run
  pub none_active : a ≡ 0 → lowest_where (could_step goes_on) t ≡ None
  none_active none = lowest_none (could_step goes_on) t kept.own
      (λ d row has. at_rest row.woken goes_on row.stage
      (let part = weight_has active_row t d row has in omega (arith, part, kept.active, none)))

  pub one_found : (r : ℕ) (o : Option DevNo) → IsFirst test (Some r) → ((d : DevNo) → at ranks d ≡ Some r → o ≡ Some d)
      → o ≡ lowest_where (could_step goes_on) t
  one_found r o first device = by_set (or_cases (holds ready r) (goes_on && holds returned r) first.1)
    where
      least : (d : DevNo) → at ranks d ≡ Some r → (x : DevNo) (row : ThreadRow) → at t x ≡ Some row → could_step goes_on row ≡ true → d.0 ≤ x.0
      least d rank x row has could = by_order (cases_lt x.0 d.0)
        where
          w : (s : ℕ) × (at ranks x ≡ Some s)
          w = kept.ranked x row has

          by_order : (x.0 < d.0) ⊎ (d.0 ≤ x.0) → d.0 ≤ x.0
          by_order (inl less) = absurd (both_ways (test w.0) (first.2 w.0 (kept.ranking.rises x d w.0 r w.1 rank less)) (bit_is x row w.0 has w.1 ∙ could))
          by_order (inr le) = le

      of_one : (d : DevNo) × (row : ThreadRow) × (at t d ≡ Some row) × (at ranks d ≡ Some r) → o ≡ lowest_where (could_step goes_on) t
      of_one w = device w.0 w.3 ∙ sym (lowest_is (could_step goes_on) t w.0 w.1 kept.own w.2 (sym (bit_is w.0 w.1 r w.2 w.3) ∙ first.1) (least w.0 w.3))

      by_set : (holds ready r ≡ true) ⊎ ((goes_on && holds returned r) ≡ true) → o ≡ lowest_where (could_step goes_on) t
      by_set (inl is) = of_one (kept.readies.only r first.0 is)
      by_set (inr is) = of_one (kept.returns.only r first.0 (and_parts goes_on (holds returned r) is).1)
