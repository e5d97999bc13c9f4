use Rattle.board_gen.proofs.Growing.{root_grows}
use Rattle.board_gen.proofs.boards.add_root.Goals as goal

pub add_domain-requires : goal.add_domain-requires
add_domain-requires c =
    record {
      board = root_grows c.args.board.now c.args.name.now c.new.result c.args.kind c.new.ensures
          c.is_board.ensures.board c.requires.few c.requires.spelled c.requires.new c.requires.root;
    }
