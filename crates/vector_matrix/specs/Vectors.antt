-- Vectors, and lists of them.
use Rattle.std.specs.Prelude.{ℕ, zero, suc, ◌≤◌, ◌==◌, Bool, not, ◌&&◌, if◌then◌else◌, List, []}
use Rattle.std.specs.Prelude.{◌∷◌, ◌++◌, count_by, filter}
use Rattle.std.specs.List.{list_any}
use Rattle.irq_base.specs.declared.numbers.CpuNo.{CpuNo}
use Rattle.vector_matrix.specs.declared.view.Vector.{Vector}

-- the processor's vector with this number
abbrev pub vector_of : CpuNo → ℕ → Vector
vector_of cpu n = record { cpu = cpu; number = n }

abbrev pub same_vector : Vector → Vector → Bool
same_vector p q = (p.cpu.0 == q.cpu.0) && (p.number == q.number)

abbrev pub is_in : Vector → List Vector → Bool
is_in p all = list_any (same_vector p) all

-- how often the vector stands in the list
abbrev pub count_of : Vector → List Vector → ℕ
count_of p all = count_by (same_vector p) all

abbrev pub IsEachOnce : List Vector → Type 0
IsEachOnce all = (p : Vector) → count_of p all ≤ 1

-- the list without the vector
abbrev pub without : Vector → List Vector → List Vector
without p all = filter (λ q. not (same_vector p q)) all

-- the vector alone, if it isn't in the list
abbrev pub unless_in : List Vector → Vector → List Vector
unless_in all p = if is_in p all then [] else p ∷ []

-- the processor's vectors below n that aren't in the list
abbrev pub others_below : ℕ → CpuNo → List Vector → List Vector
others_below zero cpu all = []
others_below (suc n) cpu all = others_below n cpu all ++ unless_in all (vector_of cpu n)
