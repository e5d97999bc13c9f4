-- The moves of a play have rows.
use Rattle.std.proofs.Common.{List, [], ◌∷◌, reverse, subst}
use Rattle.std.specs.List.{All}
use Rattle.std.proofs.lemmas.List.{reverse-reverse}
use Rattle.std.proofs.lemmas.List.Elements.{All-nil, All-cons}
use Rattle.irq_base.specs.declared.entries.Actor.{Actor}
use Rattle.board_def.specs.Seen.{BoardSeen}
use Rattle.board_play.specs.Lines.{Move, lines_of}
use Rattle.board_play.specs.Play.{IsChosen}
use Rattle.board_play.proofs.Moves.{moves_on, choice_is}
use Rattle.board_play.proofs.Parts.{due_of}
use Rattle.board_report.proofs.Printable.{printable, turned}
use Rattle.play_report.specs.Printing.{HasRow}

chosen_printable : (b : BoardSeen) (picks : List Actor) (g : List Move) (left : List Actor) → IsChosen b picks g left → All HasRow g
chosen_printable b picks [] left chosen = All-nil HasRow
chosen_printable b picks (m ∷ g) left chosen =
    let who = choice_is b (lines_of b g) chosen.0 m left chosen.2 in
    let on = moves_on b (lines_of b g) who.actor m who.moves in
    All-cons HasRow m g (printable on.line.def on.line.past m.1 (due_of on.line.def on.line.past who.actor m.1 on.due))
    (chosen_printable b picks g chosen.0 chosen.1)

-- each move so far has a row
pub moves_have_rows : (b : BoardSeen) (picks : List Actor) (g : List Move) (left : List Actor) → IsChosen b picks (reverse g) left → All HasRow g
moves_have_rows b picks g left chosen = subst (All HasRow) (reverse-reverse g) (turned HasRow (reverse g) (chosen_printable b picks (reverse g) left chosen))
