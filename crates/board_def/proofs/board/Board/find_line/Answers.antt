use Rattle.std.proofs.Common.{sym, ap, ◌∙◌}
use Rattle.board_def.specs.LineOf.{find_line}
use Rattle.board_def.specs.Seen.{BoardSeen}
use Rattle.board_def.proofs.Rising.{line_near}
use Rattle.board_def.proofs.Tabled.{line_found}
use Rattle.board_def.proofs.board.Board.find_line.Goals as goal

pub returns : goal.returns
returns c =
    line_near c.self.inside.lines c.likely_place.result c.in-Some.row c.args.line (λ i x at. (c.self.invariant.lines i x at).rises)
    c.in-Some.ensures (sym c.eq.ensures ∙ c.if-eq.true) ∙ ap (λ (b : BoardSeen). find_line b.lines c.args.line) c.self.view_is

pub returns-2 : goal.returns-2
returns-2 c = c.find.ensures ∙ (line_found c.args.line c.self.inside.lines ∙ ap (λ (b : BoardSeen). find_line b.lines c.args.line) c.self.view_is)
