use Rattle.std.proofs.Common.{true, refl}
use Rattle.board_text.proofs.Made.{call_agrees}
use Rattle.board_text.proofs.OneMore.{owns_read}
use Rattle.board_text.proofs.reader.Reader.add_call.Goals as goal

pub returns : goal.returns
returns c = λ past words h is.
    let r = c.args.self.now in
    call_agrees past r record {
      board = c.add_call.new.self;
      log = r.log;
      section = r.section;
      writer = r.writer;
      turn = r.turn;
      stood = record r.stood { begun = true };
      owners = c.note.new.self;
    }
    words c.args.call h c.requires.writer is c.in_ok-add_call.ensures.added refl refl refl refl refl
    (c.in_ok-note.ensures r.board.calls (owns_read past r h))
