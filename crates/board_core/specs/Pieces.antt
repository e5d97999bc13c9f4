-- The log takes memory in pieces, each with room for 256 moves. It has the first from the start.
use Rattle.std.specs.Prelude.{◌≡◌, ◌+◌, ◌-◌, ◌%◌, ◌≤◌, ℕ}

-- The log of this length is at the end of a piece: for one more move it takes memory for the next
-- piece. At any other length it has room.
abbrev pub EndsPiece : ℕ → Type 0
EndsPiece moves = (1 ≤ moves) × (moves % 256 ≡ 0)

-- how many moves the log has at the end of the piece that one more move falls into
abbrev pub piece_end : ℕ → ℕ
piece_end moves = moves - moves % 256 + 256

-- The room that was taken reaches to the end of the piece; at the end of a piece there may be no
-- more. The first piece is always there.
pub record IsPieced (moves capacity : ℕ) : Type 0 where
  pub first : 256 ≤ capacity
  pub whole : (EndsPiece moves → ⊥) → piece_end moves ≤ capacity
