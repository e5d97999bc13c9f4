use Rattle.std.proofs.Common.{true, refl}
use Rattle.board_text.proofs.Made.{run_agrees}
use Rattle.board_text.proofs.reader.Reader.add_run_call.Goals as goal

pub returns : goal.returns
returns c = λ past words h is.
    let r = c.args.self.now in
    run_agrees past r record {
      board = c.add_run.new.self;
      log = r.log;
      section = r.section;
      writer = r.writer;
      turn = r.turn;
      stood = record r.stood { begun = true };
      owners = r.owners;
    }
    c.args.call.dev c.args.call.part words c.args.call h c.requires.writer is c.in_ok-add_run.ensures.added refl refl refl refl refl refl
