use Rattle.board_gen.proofs.Growing.{line_grows}
use Rattle.board_gen.proofs.lines.add_row.Goals as goal

pub add_line-requires : goal.add_line-requires
add_line-requires c =
    record {
      board = line_grows c.args.board.now c.args.number c.args.domain c.is_board.ensures.board c.requires.cpus
          c.requires.log c.requires.domains c.requires.count c.requires.number c.requires.domain c.requires.rises;
    }
