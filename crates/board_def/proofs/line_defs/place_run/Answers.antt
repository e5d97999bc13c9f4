use Rattle.std.proofs.Common.{◌∙◌, sym}
use Rattle.board_def.proofs.Defining.{run_given, run_nowhere}
use Rattle.board_def.proofs.line_defs.place_run.Goals as goal

pub returns-in_ok-add_run : goal.returns-in_ok-add_run
returns-in_ok-add_run c =
    run_given c.args.board.now c.args.index c.args.call c.in-Some.place c.index_mut.result.now c.is_board.ensures.board
    c.requires.there (sym c.in-Some.ensures) c.args.defs.now.items c.requires.before
    c.index_mut.ensures.value c.add_run.new.def c.in_ok-add_run.ensures

pub returns-in_default : goal.returns-in_default
returns-in_default c = c.requires.before ∙ run_nowhere c.args.board.now c.args.index c.args.call c.requires.there (sym c.in_default.ensures)
