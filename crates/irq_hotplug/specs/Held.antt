-- What is seen of the vectors that are held.
use Rattle.std.specs.Prelude.{◌≡◌, ℕ, ◌≤◌, Bool, List, length}
use Rattle.vector_matrix.specs.Claims.{ClaimSeen, MatrixSeen, IsClaimOf, IsWhole}
use Rattle.vector_matrix.specs.Vectors.{is_in}
use Rattle.vector_matrix.specs.declared.view.Vector.{Vector}

-- the number of processors, that of the vectors of each, and the vectors that are held
pub record HeldSeen : Type 0 where
  pub cpus : ℕ
  pub vectors : ℕ
  pub held : List Vector

-- the vector is held
abbrev pub held_in : HeldSeen → Vector → Bool
held_in h v = is_in v h.held

-- The claim is the matrix's only one.
pub record IsHeldBy (matrix : MatrixSeen) (claim : ClaimSeen) (cpus vectors : ℕ) : Type 0 where
  pub claim_of : IsClaimOf matrix claim
  pub whole : IsWhole claim
  pub cpus_is : matrix.cpus ≡ cpus
  pub vectors_is : matrix.vectors ≡ vectors
  pub few : cpus ≤ 32
  pub small : vectors ≤ 64

-- the online processors are told of each processor that has vectors
pub record IsSized (h : HeldSeen) (online : List Bool) : Type 0 where
  pub each : length online ≡ h.cpus
  pub most : length online ≤ 32
