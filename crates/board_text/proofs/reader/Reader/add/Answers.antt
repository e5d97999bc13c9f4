use Rattle.std.proofs.Common.{subst}
use Rattle.board_text.specs.Owned.{Owns}
use Rattle.board_text.proofs.Made.{calls_stay}
use Rattle.board_text.proofs.OneMore.{next_is_board, agrees_more, owns_read}
use Rattle.board_text.proofs.reader.Reader.add.Goals as goal

pub add_statement-requires : goal.add_statement-requires
add_statement-requires c = next_is_board c.args.self.now c.args.statement.now c.requires.next

pub returns : goal.returns
returns c = λ past h.
    let r = c.args.self.now in
    agrees_more past r record {
      board = c.add_statement.new.board;
      log = c.log_after-self.result;
      section = c.of-self.result;
      writer = c.writer_after-self.result;
      turn = c.turn_after-self.result;
      stood = c.with-self.result;
      owners = r.owners;
    }
    c.args.statement.now h c.in_ok-add_statement.ensures c.log_after-self.ensures c.of-self.ensures c.writer_after-self.ensures
    c.turn_after-self.ensures (c.with-self.ensures past h.stood)
    (subst (Owns r.owners) (calls_stay r.writer r.board c.args.statement.now c.requires.other) (owns_read past r h))
