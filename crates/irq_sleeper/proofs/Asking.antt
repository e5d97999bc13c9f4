-- The search for a driver that asks.
use Rattle.std.proofs.Common.{◌≡◌, ℕ, zero, suc, ◌+◌, Bool, true, false, cond, Some, List, [], ◌∷◌, drop, slice_get, sym, ap, ◌∙◌, arith}
use Rattle.irq_base.specs.declared.numbers.DriverNo.{DriverNo}
use Rattle.irq_laws.proofs.Chosen.{the_same}
use Rattle.board_def.specs.Seen.{BoardSeen}
use Rattle.board_play.specs.Lines.{BoardLine}
use Rattle.irq_pm.specs.Phases.{asks_next, first_asking}

module _ (b : BoardSeen) (lines : List BoardLine) where
  at_driver : (rs : List DriverNo) (j : ℕ) (r : DriverNo) → slice_get rs j ≡ Some r
      → first_asking b lines (drop j rs) ≡ cond (asks_next b lines r) (Some r) (first_asking b lines (drop (suc j) rs))
  at_driver [] j r at = cc
  at_driver (x ∷ rs) zero r at = ap (λ (y : DriverNo). cond (asks_next b lines y) (Some y) (first_asking b lines rs)) (the_same x r at)
  at_driver (x ∷ rs) (suc j) r at = at_driver rs j r at

  pub found_driver : (rs : List DriverNo) (j : ℕ) (r : DriverNo) → Some r ≡ slice_get rs j → true ≡ asks_next b lines r
      → first_asking b lines rs ≡ first_asking b lines (drop j rs) → Some r ≡ first_asking b lines rs
  found_driver rs j r at asks is = sym (is ∙ (at_driver rs j r (sym at)
      ∙ ap (λ (t : Bool). cond t (Some r) (first_asking b lines (drop (suc j) rs))) (sym asks)))

  pub passed_driver : (rs : List DriverNo) (j : ℕ) (r : DriverNo) → Some r ≡ slice_get rs j
      → false ≡ asks_next b lines r → first_asking b lines rs ≡ first_asking b lines (drop j rs)
      → first_asking b lines rs ≡ first_asking b lines (drop (j + 1) rs)
  passed_driver rs j r at asks is =
      is ∙ (at_driver rs j r (sym at) ∙ (ap (λ (t : Bool). cond t (Some r) (first_asking b lines (drop (suc j) rs)))
      (sym asks) ∙ ap (λ (n : ℕ). first_asking b lines (drop n rs)) (let e : suc j ≡ j + 1 = omega arith in e)))
