use Rattle.std.proofs.Common.{◌∙◌, ◌++◌, [], ◌∷◌, sym, subst}
use Rattle.board_def.specs.Inside.{board_seen}
use Rattle.board_def.specs.Rules.{IsBoard, IsLineAfter}
use Rattle.board_def.specs.Seen.{BoardSeen}
use Rattle.domain_rules.proofs.EachAfters.{each_last}
use Rattle.board_def.proofs.Rising.{no_line}
use Rattle.board_def.proofs.Tabled.{line_found}
use Rattle.board_def.proofs.board.Board.add_line.Goals as goal

pub push-requires : goal.push-requires
push-requires c =
    let b = board_seen c.self.inside in
    let row = c.args.row in
    let after = subst (λ (b : BoardSeen). IsBoard (record b { lines = b.lines ++ row ∷ [] })) (sym c.self.view_is) c.requires.board in
    line_found row.line b.lines ∙ no_line row.line b.lines (each_last (IsLineAfter (record b { lines = b.lines ++ row ∷ [] })) b.lines row after.lines).rises
