-- What is printed of moves.
use Rattle.std.specs.Prelude.{ℕ, List}
use Rattle.std.specs.List.{flat_map}
use Rattle.board_play.specs.Lines.{Move}
use Rattle.log_text.specs.Rows.{entry_text}

-- a row for each move, the oldest first
abbrev pub moves_text : List Move → List ℕ
moves_text g = flat_map (λ m. entry_text m.0 m.1) g
