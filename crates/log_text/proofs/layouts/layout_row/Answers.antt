use Rattle.std.proofs.Common.{◌∙◌, sym, arith}
use Rattle.log_text.proofs.Levels.{layout_length, none_there}
use Rattle.log_text.proofs.layouts.layout_row.Goals as goal

pub unreachable-requires-in_default-get : goal.unreachable-requires-in_default-get
unreachable-requires-in_default-get c =
    let all = layout_length c.args.board.now c.args.layout.now c.requires.layout in
    none_there c.args.layout.now c.args.place (omega (arith, all, c.requires.line)) (sym c.get.ensures ∙ c.in_default-get.is)
