use Rattle.std.proofs.Common.{sym, ap, ◌∙◌}
use Rattle.board_def.specs.Find.{place_of_line}
use Rattle.board_def.specs.Seen.{BoardSeen}
use Rattle.board_def.proofs.Rising.{place_near}
use Rattle.board_def.proofs.board.Board.place_of_line.Goals as goal

pub returns : goal.returns
returns c =
    place_near c.self.inside.lines c.likely_place-likely.result c.in-Some.row c.args.line (λ i x at. (c.self.invariant.lines i x at).rises)
    c.in-Some.ensures (sym c.eq.ensures ∙ c.if-eq.true) ∙ ap (λ (b : BoardSeen). place_of_line b.lines c.args.line) c.self.view_is
