-- Moves whose numbers can be written.
use Rattle.board_play.specs.Lines.{Move}
use Rattle.log_text.specs.Formed.{HasSmallNumbers, IsSmall}

-- each number of the move takes 32 bits
abbrev pub HasSmallMove : Move → Type 0
HasSmallMove m = IsSmall m.0.0 × HasSmallNumbers m.1
