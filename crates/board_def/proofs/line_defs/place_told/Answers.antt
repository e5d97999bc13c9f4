use Rattle.std.proofs.Common.{◌∙◌, sym}
use Rattle.board_def.proofs.Defining.{told_given, told_nowhere}
use Rattle.board_def.proofs.line_defs.place_told.Goals as goal

pub returns-in_ok-add_answer : goal.returns-in_ok-add_answer
returns-in_ok-add_answer c =
    told_given c.args.board.now c.args.index c.args.row c.in-Some.place c.index_mut.result.now c.is_board.ensures.board
    c.requires.there (sym c.in-Some.ensures) c.args.defs.now.items c.requires.before
    c.index_mut.ensures.value c.add_answer.new.def c.in_ok-add_answer.ensures

pub returns-in_default : goal.returns-in_default
returns-in_default c = c.requires.before ∙ told_nowhere c.args.board.now c.args.index c.args.row c.requires.there (sym c.in_default.ensures)
