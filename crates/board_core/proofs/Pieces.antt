-- The log's pieces.
use Rattle.std.proofs.Common.{◌≡◌, ℕ, ◌+◌, ◌%◌, ◌≤◌, ◌<◌, List, [], length, sym, subst, arith}
use Rattle.board_core.specs.Pieces.{EndsPiece, piece_end, IsPieced}

-- one more move fits
pub fits_more : (moves capacity : ℕ) → piece_end moves ≤ capacity → moves + 1 ≤ capacity
fits_more moves capacity room = omega (arith, room)

-- with it, the piece still is there to its end
pub goes_on : (moves capacity : ℕ) → piece_end moves ≤ capacity → IsPieced (moves + 1) capacity
goes_on moves capacity room = record {
  first = omega (arith, room);
  whole = λ inside. (let apart : (moves + 1) % 256 ≡ 0 → ⊥ = λ ends. inside (omega arith, ends) in omega (arith, room, apart));
}

-- of a log without moves the first piece is there
pub first_piece : (order : List ℕ) (capacity : ℕ) → order ≡ [] → 256 ≤ capacity → IsPieced (length order) capacity
first_piece order capacity none room =
    subst (λ (ks : List ℕ). IsPieced (length ks) capacity) (sym none) (record { first = room; whole = λ inside. room })

-- room for one more piece was missing, so the log is at the end of one
pub piece_missing : (moves capacity : ℕ) → IsPieced moves capacity → moves % 256 ≡ 0 → capacity < moves + 256 → EndsPiece moves
piece_missing moves capacity pieced ends missing = (let first = pieced.first in omega (arith, first, missing), ends)

-- a log that has begun anew isn't at the end of a piece
pub begun_anew : (moves : ℕ) → moves ≡ 0 → EndsPiece moves → ⊥
begun_anew moves none ends = let some = ends.0 in omega (arith, none, some)

pub within_piece : (moves : ℕ) → (moves % 256 ≡ 0 → ⊥) → EndsPiece moves → ⊥
within_piece moves apart ends = apart ends.1
