-- The rule of the matrix: what holds between any two steps of its words and of all claims.
use Rattle.std.specs.Prelude.{◌≡◌, ℕ, ◌+◌, ◌-◌, Bool, true, false, not, if◌then◌else◌, List, []}
use Rattle.std.specs.Prelude.{◌++◌, length, sum_by, count_by, slice_index}
use Rattle.std.specs.Int.{bit_at}
use mathlib.Core.Option.{some}
use lib.ListN.{get_elem?}
use Rattle.atomic_table.specs.Table.{State}
use Rattle.vector_matrix.specs.declared.view.Vector.{Vector}
use Rattle.vector_matrix.specs.declared.view.View.{View}
use Rattle.vector_matrix.specs.Vectors.{is_in, count_of}

-- the vector's bit
abbrev pub bit_of : Vector → List ℕ → ℕ
bit_of p words = bit_at (slice_index words p.cpu.0) p.number

abbrev pub is_there : View → Bool
is_there v = not v.spent

-- how often the claim holds the vector
abbrev pub held : Vector → View → ℕ
held p v = if v.spent then 0 else count_of p v.holds

-- how often all claims together hold the vector
abbrev pub holders : Vector → List View → ℕ
holders p views = sum_by (held p) views

pub record Holds (cpus : ℕ) (s : State ℕ View) : Type 0 where
  -- there is a word for each processor
  pub words : length s.words ≡ cpus
  -- a vector's bit is set exactly if a claim holds the vector; so no other claim does, and this one
  -- holds it once
  pub bits : (p : Vector) → bit_of p s.words ≡ holders p s.views
  -- the bit of each vector that a claim met is still set
  pub met : (id : ℕ) (v : View) (p : Vector) → get_elem? s.views id ≡ some v → v.spent ≡ false
      → is_in p v.met ≡ true → bit_of p s.words ≡ 1
  -- the first claim is at place 0, and says how many other claims are still there
  pub first : (id : ℕ) (v : View) → get_elem? s.views id ≡ some v → v.first ≡ true
      → (id ≡ 0) × (v.out + 1 ≡ count_by is_there s.views)

-- the first claim, at first
abbrev pub first_view : View
first_view = record { holds = []; met = []; first = true; out = 0; spent = false }

-- the first claim after a fork, and the fork
abbrev pub left_view : View → View
left_view v = record v { out = v.out + 1 }

abbrev pub right_view : View
right_view = record { holds = []; met = []; first = false; out = 0; spent = false }

-- the first claim after it met a fork
abbrev pub met_view : View → View → View
met_view v w = record v { holds = v.holds ++ w.holds; met = v.met ++ w.met; out = v.out - 1 }

-- a fork's view after it was met
abbrev pub spent_view : View
spent_view = record { holds = []; met = []; first = false; out = 0; spent = true }
