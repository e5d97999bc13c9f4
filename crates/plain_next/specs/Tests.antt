-- What a walk asks of the test that it is handed.
use Rattle.std.specs.Prelude.{◌≡◌, Bool}

module _ {A : Type 0} where
  -- each answer of the call is the test's
  abbrev pub Computes : (A → Bool → Type 0) → (A → Bool) → Type 0
  Computes post p = (x : A) (answer : Bool) → post x answer → answer ≡ p x
