-- What each step on a word tells the claim that makes it.
use Rattle.std.specs.Prelude.{◌≡◌, ℕ, ◌==◌, Bool, true, false, if◌then◌else◌, [], ◌∷◌, ◌++◌}
use Rattle.std.specs.Int.{bit_at}
use Rattle.atomic_table.specs.Table.{Me}
use Rattle.vector_matrix.specs.declared.view.Vector.{Vector}
use Rattle.vector_matrix.specs.declared.view.View.{View}
use Rattle.vector_matrix.specs.Vectors.{is_in, IsEachOnce, without, unless_in}

-- the bit is set in the word
abbrev pub has : ℕ → ℕ → Bool
has word n = bit_at word n == 1

-- what a claim knows once it has got the vector; below, once it has met it, or given it back
abbrev pub gaining : Vector → View → View
gaining p v = record v { holds = v.holds ++ p ∷ [] }

abbrev pub meeting : Vector → View → View
meeting p v = record v { met = v.met ++ unless_in v.holds p }

abbrev pub freeing : Vector → View → View
freeing p v = record v { holds = without p v.holds; met = without p v.met }

-- The step set the vector's bit, and found it set before, or clear.
pub record Claims (p : Vector) (before : Me ℕ View) (set : Bool) (after : Me ℕ View) : Type 0 where
  pub becomes : after ≡ ((if set then meeting p before.0 else gaining p before.0), before.1)
  -- if the bit was clear, no claim held the vector, so this one didn't
  pub free : set ≡ false → is_in p before.0.holds ≡ false
  -- if the bit was set, and this is the only claim, it holds the vector
  pub whole : set ≡ true → before.0.first ≡ true → before.0.out ≡ 0 → is_in p before.0.holds ≡ true

-- The step cleared the vector's bit.
abbrev pub Frees : Vector → Me ℕ View → Me ℕ View → Type 0
Frees p before after = after ≡ (freeing p before.0, before.1)

-- The step looked, and learned what the rule says of the claim.
pub record Learns (before after : Me ℕ View) : Type 0 where
  pub becomes : after ≡ before
  pub once : IsEachOnce before.0.holds
  pub whole : before.0.first ≡ true → before.0.out ≡ 0 → (p : Vector) → is_in p before.0.met ≡ true
      → is_in p before.0.holds ≡ true
