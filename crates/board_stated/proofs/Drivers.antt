-- One more driver meets its rule after those before it.
use Rattle.std.proofs.Common.{◌≡◌, ℕ, ◌+◌, ◌<◌, ◌≤◌, ◌==◌, true, false, IfSome, List, [], ◌∷◌, refl, arith}
use Rattle.std.specs.List.{All}
use Rattle.std.proofs.lemmas.Bool.{eq-eqb, or_left, or_right}
use Rattle.irq_base.specs.declared.numbers.DriverNo.{DriverNo}
use Rattle.board_def.specs.Find.{last_from, last_item}
use Rattle.domain_rules.specs.Domains.{EachAfter}
use Rattle.board_def.specs.Rules.{has_driver, IsNumber, IsDriverAfter}
use Rattle.board_def.specs.Seen.{BoardSeen}
use Rattle.board_def.proofs.Rising.{all_below}
use Rattle.board_words.specs.declared.statements.Statement.TheVariants as statements
use Rattle.board_stated.specs.FaultsAfter.{is_empty, is_misplaced}
use Rattle.board_stated.specs.Stated.{driver_writing}
use Rattle.board_stated.proofs.Ascending.{last_below, below}

-- ---- the driver whose script is written

driver_rises : (n : ℕ) (drivers : List DriverNo) → EachAfter IsDriverAfter drivers → IfSome (last_item drivers) (λ d. d.0 < n) → All (λ e. e.0 < n) drivers
driver_rises n drivers each last = all_below (λ d. d.0) drivers n (λ i d at. (each i d at).rises) last

last_among : (d : DriverNo) (ds : List DriverNo) → has_driver (d ∷ ds) (last_from d ds) ≡ true
last_among d [] = or_left (d.0 == d.0) false (eq-eqb d.0 d.0 refl)
last_among d (e ∷ es) = or_right (d.0 == (last_from e es).0) (has_driver (e ∷ es) (last_from e es)) (last_among e es)

-- the driver is one of the declared ones
pub last_declared : (drivers : List DriverNo) → is_empty drivers ≡ false → has_driver drivers (driver_writing drivers) ≡ true
last_declared [] h = absurd cc
last_declared (d ∷ ds) h = last_among d ds

is_last : (n : ℕ) (drivers : List DriverNo) → (driver_writing drivers).0 < n → IfSome (last_item drivers) (λ d. d.0 < n)
is_last n [] h = tt
is_last n (d ∷ ds) h = h

-- and none is above it
pub last_greatest : (drivers : List DriverNo) (driver : DriverNo) → EachAfter IsDriverAfter drivers
    → has_driver drivers driver ≡ true → driver.0 ≤ (driver_writing drivers).0
last_greatest drivers driver each is =
    let last = (driver_writing drivers).0 in
    let h = below (λ d. d.0) (last + 1) driver.0 drivers (driver_rises (last + 1) drivers each (is_last (last + 1) drivers (omega arith))) is in
    omega arith

-- ---- one more

pub driver_after : (b : BoardSeen) (driver : DriverNo) → IsNumber driver.0 → EachAfter IsDriverAfter b.drivers
    → is_misplaced b (statements.Driver driver) ≡ false → IsDriverAfter b.drivers driver
driver_after b driver number each placed = record {
  number = number;
  rises = driver_rises driver.0 b.drivers each (last_below (λ d. d.0) driver.0 (last_item b.drivers) placed);
}
