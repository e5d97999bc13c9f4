-- The moves of a play that is made pick by pick have rows.
use Rattle.std.proofs.Common.{◌≡◌, Option, Some, IfSome, List, [], ◌∷◌, reverse, subst}
use Rattle.std.specs.List.{All}
use Rattle.std.proofs.lemmas.List.{reverse-reverse}
use Rattle.std.proofs.lemmas.List.Elements.{All-nil, All-cons}
use Rattle.irq_base.specs.declared.entries.Actor.{Actor}
use Rattle.board_def.specs.Seen.{BoardSeen}
use Rattle.board_play.specs.Lines.{Move, lines_of}
use Rattle.board_play.proofs.Moves.{moves_on}
use Rattle.board_play.proofs.Parts.{due_of}
use Rattle.board_report.proofs.Printable.{printable, turned}
use Rattle.play_report.specs.Printing.{HasRow}
use Rattle.explore_picks.specs.Made.{ArePicked}
use Rattle.explore_picks.specs.Small.{HasSmallMove}
use Rattle.std.proofs.Common.{drop, slice_get}
use Rattle.std.proofs.lemmas.Option.{same_Some}

printable_so : (b : BoardSeen) (picks : List Actor) (g : List Move) → ArePicked b picks g → All HasRow g
printable_so b [] [] h = All-nil HasRow
printable_so b [] (m ∷ g) h = absurd h
printable_so b (a ∷ picks) [] h = absurd h
printable_so b (a ∷ picks) (m ∷ g) h =
    let on = moves_on b (lines_of b g) a m h.1 in
    All-cons HasRow m g (printable on.line.def on.line.past m.1 (due_of on.line.def on.line.past a m.1 on.due)) (printable_so b picks g h.0)

pub moves_have_rows : (b : BoardSeen) (picks : List Actor) (g : List Move) → ArePicked b picks (reverse g) → All HasRow g
moves_have_rows b picks g h = subst (All HasRow) (reverse-reverse g) (turned HasRow (reverse g) (printable_so b picks (reverse g) h))

pub some_is : {X : Type 0} (P : X → Type 0) (o : Option X) (x : X) → o ≡ Some x → IfSome o P → P x
some_is P o x is h = subst (λ t. IfSome t P) is h

-- the numbers of all moves are small, if those of the next and of the rest are
pub small_next : (xs : List Move) (m : Move) (rest : List Move) → Some m ≡ slice_get xs 0 → rest ≡ drop 1 xs → HasSmallMove m
    → All HasSmallMove rest → All HasSmallMove xs
small_next [] m rest first is own others = cc
small_next (x ∷ xs) m rest first is own others =
    All-cons HasSmallMove x xs (subst HasSmallMove (same_Some m x first) own) (subst (All HasSmallMove) is others)
