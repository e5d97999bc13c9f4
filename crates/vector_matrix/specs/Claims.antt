-- What contracts see of a matrix and of a claim.
use Rattle.std.specs.Prelude.{◌≡◌, ℕ, ◌<◌, ◌≤◌, Bool, true, false, List, [], ◌∷◌, ◌++◌}
use Rattle.atomic_table.specs.Seated.{TableId}
use Rattle.atomic_table.specs.Table.{Me}
use Rattle.irq_base.specs.declared.numbers.CpuNo.{CpuNo}
use Rattle.vector_matrix.specs.declared.claim.ClaimAnswer.{ClaimAnswer}
use Rattle.vector_matrix.specs.declared.claim.ClaimAnswer.TheVariants as answers
use Rattle.vector_matrix.specs.declared.view.Vector.{Vector}
use Rattle.vector_matrix.specs.declared.view.View.{View}
use Rattle.vector_matrix.specs.Vectors.{vector_of, is_in, IsEachOnce, unless_in, others_below}

-- What is seen of a matrix: which one it is, how many processors it has, and how many vectors each
-- processor has.
pub record MatrixSeen : Type 0 where
  pub table : TableId
  pub cpus : ℕ
  pub vectors : ℕ

-- What is seen of a claim: its matrix, the vectors that it holds, those that it found taken,
-- whether it is the first claim, and how many of its forks it hasn't met.
pub record ClaimSeen : Type 0 where
  pub table : TableId
  pub holds : List Vector
  pub met : List Vector
  pub first : Bool
  pub out : ℕ

-- a claim with this view
abbrev pub claim_seen : TableId → View → ClaimSeen
claim_seen table v =
    record { table = table; holds = v.holds; met = v.met; first = v.first; out = v.out }

abbrev pub IsClaimOf : MatrixSeen → ClaimSeen → Type 0
IsClaimOf matrix claim = claim.table ≡ matrix.table

-- it is the only claim
abbrev pub IsWhole : ClaimSeen → Type 0
IsWhole claim = (claim.first ≡ true) × (claim.out ≡ 0)

-- a first claim, or a fork, that has claimed nothing
abbrev pub new_claim : TableId → Bool → ClaimSeen
new_claim table first = record { table = table; holds = []; met = []; first = first; out = 0 }

-- the vector that was got, if any
abbrev pub gained : CpuNo → ClaimAnswer → List Vector
gained cpu (answers.Got n) = vector_of cpu n ∷ []
gained cpu answers.Full = []

-- how many of the processor's vectors were found taken: those below the one that was got, or all
abbrev pub passed : ℕ → ClaimAnswer → ℕ
passed vectors (answers.Got n) = n
passed vectors answers.Full = vectors

-- if a vector was got, this holds of its number
abbrev pub IfGot : ClaimAnswer → (ℕ → Type 0) → Type 0
IfGot (answers.Got n) P = P n
IfGot answers.Full P = Unit {0}

-- The claim got the vector, which it didn't hold before.
pub record Gains (p : Vector) (old new : ClaimSeen) : Type 0 where
  pub free : is_in p old.holds ≡ false
  pub becomes : new ≡ record old { holds = old.holds ++ p ∷ [] }

-- The claim found the vector taken, by itself or not.
pub record FindsTaken (p : Vector) (old new : ClaimSeen) : Type 0 where
  pub becomes : new ≡ record old { met = old.met ++ unless_in old.holds p }
  -- by itself, if it is the only claim
  pub whole : IsWhole old → is_in p old.holds ≡ true

-- The claim found taken all vectors of the processor below n.
pub record PassedBy (n : ℕ) (cpu : CpuNo) (old new : ClaimSeen) : Type 0 where
  pub becomes : new ≡ record old { met = old.met ++ others_below n cpu old.holds }
  pub whole : IsWhole old → (u : ℕ) → u < n → is_in (vector_of cpu u) old.holds ≡ true

-- What every matrix keeps: a word for each processor, no slots, and 64 vectors at most.
pub record IsMatrix (table : TableId) (told cpus vectors : ℕ) : Type 0 where
  pub each : table.words ≡ cpus
  pub slots : table.slots ≡ 0
  pub key : told ≡ cpus
  pub some : 1 ≤ cpus
  pub few : cpus ≤ 32
  pub small : vectors ≤ 64

-- What every claim of a matrix with `cpus` processors keeps.
pub record IsClaim (cpus : ℕ) (me : Me ℕ View) : Type 0 where
  pub there : me.0.spent ≡ false
  pub idle : me.1 ≡ []
  pub once : IsEachOnce me.0.holds
  -- each vector that it holds has a bit in the words
  pub inside : (p : Vector) → is_in p me.0.holds ≡ true → (p.cpu.0 < cpus) × (p.number < 64)
  -- if it is the only claim, it holds all that it met
  pub whole : me.0.first ≡ true → me.0.out ≡ 0 → (p : Vector) → is_in p me.0.met ≡ true
      → is_in p me.0.holds ≡ true
