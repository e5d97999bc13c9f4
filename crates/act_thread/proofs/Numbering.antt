-- A device's rank, read off the rows: it goes by the numbers alone.
use Rattle.std.proofs.Common.{◌≡◌, ℕ, ◌+◌, Bool, true, false, cond, is_some, nat_lt, Option, Some, None, List, [], ◌∷◌, refl, sym, ap, ◌∙◌, arith}
use Rattle.std.proofs.lemmas.List.Sums.{sum_by-cons}
use Rattle.std.specs.List.{sum_by, list_any}
use Rattle.irq_base.specs.declared.devices.DeviceDef.{DeviceDef}
use Rattle.irq_base.specs.declared.numbers.DevNo.{DevNo}
use Rattle.irq_model.specs.Kinds.{same_dev}
use Rattle.irq_model.specs.Lines.{is_device}
use Rattle.irq_model.proofs.Same.{dev_from_same}
use Rattle.device_table.specs.Ranks.{rank_in}
use Rattle.device_table.specs.Rows.{at, has, put, table_by}
use Rattle.device_table.specs.Sums.{one_if}
use Rattle.device_table.proofs.Lowest.{at_put_same, at_put_other}
use Rattle.device_table.proofs.Tables.{at_device, at_none}
use Rattle.act_thread.specs.Threads.{rank_at}
use Rattle.act_thread.specs.declared.rows.ThreadRow.{ThreadRow}

abbrev is_below : DevNo → DevNo × ThreadRow → ℕ
is_below d e = one_if (nat_lt e.0.0 d.0)

-- ---- a row that changes

below_put : (t : List (DevNo × ThreadRow)) (x d : DevNo) (r : ThreadRow) → sum_by (is_below x) (put t d r) ≡ sum_by (is_below x) t
below_put [] x d r = refl
below_put (e ∷ es) x d r = by_test (same_dev d e.0) (below_put es x d r)
  where
    by_test : (b : Bool) → sum_by (is_below x) (put es d r) ≡ sum_by (is_below x) es
        → sum_by (is_below x) (cond b ((e.0, r) ∷ es) (e ∷ put es d r)) ≡ sum_by (is_below x) (e ∷ es)
    by_test true rest = sum_by-cons (is_below x) (e.0, r) es ∙ sym (sum_by-cons (is_below x) e es)
    by_test false rest = sum_by-cons (is_below x) e (put es d r)
        ∙ (ap (λ n. is_below x e + n) rest ∙ sym (sum_by-cons (is_below x) e es))

has_put : (t : List (DevNo × ThreadRow)) (x d : DevNo) (old r : ThreadRow) → at t d ≡ Some old → has (put t d r) x ≡ has t x
has_put t x d old r there = by_test (same_dev d x) refl
  where
    by_test : (b : Bool) → same_dev d x ≡ b → has (put t d r) x ≡ has t x
    by_test true is =
        let e : d ≡ x = dev_from_same d x is in
        let now : at (put t d r) x ≡ Some r = ap (at (put t d r)) (sym e) ∙ at_put_same t d r old there in
        let was : at t x ≡ Some old = ap (at t) (sym e) ∙ there in
        ap is_some now ∙ sym (ap is_some was)
    by_test false is = ap is_some (at_put_other t d x r is)

pub rank_put : (t : List (DevNo × ThreadRow)) (x d : DevNo) (old r : ThreadRow) → at t d ≡ Some old → rank_at (put t d r) x ≡ rank_at t x
rank_put t x d old r there =
    ap (λ b. cond b (Some (sum_by (is_below x) (put t d r))) None) (has_put t x d old r there)
    ∙ ap (λ n. cond (has t x) (Some n) None) (below_put t x d r)

-- ---- the rows of a line's devices

below_all : (f : DevNo → ThreadRow) (xs : List DeviceDef) (d : DevNo) → sum_by (is_below d) (table_by f xs) ≡ rank_in xs d
below_all f [] d = refl
below_all f (x ∷ xs) d =
    sum_by-cons (is_below d) (x.dev, f x.dev) (table_by f xs)
    ∙ (ap (λ n. one_if (nat_lt x.dev.0 d.0) + n) (below_all f xs d) ∙ by_test (nat_lt x.dev.0 d.0) (rank_in xs d))
  where
    by_test : (b : Bool) (n : ℕ) → one_if b + n ≡ cond b (n + 1) n
    by_test true n = omega arith
    by_test false n = omega arith

pub rank_all : (f : DevNo → ThreadRow) (xs : List DeviceDef) (d : DevNo) → at (table_by (rank_in xs) xs) d ≡ rank_at (table_by f xs) d
rank_all f xs d = by_test (list_any (is_device d) xs) refl
  where
    by_test : (b : Bool) → list_any (is_device d) xs ≡ b → at (table_by (rank_in xs) xs) d ≡ rank_at (table_by f xs) d
    by_test true is =
        at_device (rank_in xs) xs d is
        ∙ (ap Some (sym (below_all f xs d))
        ∙ sym (ap (λ o. cond (is_some o) (Some (sum_by (is_below d) (table_by f xs))) None) (at_device f xs d is)))
    by_test false is =
        at_none (rank_in xs) xs d is
        ∙ sym (ap (λ o. cond (is_some o) (Some (sum_by (is_below d) (table_by f xs))) None) (at_none f xs d is))
