use Rattle.std.proofs.Common.{arith, ap, ◌∙◌}
use Rattle.irq_check.specs.Checked.{board_and_log, with_log}
use Rattle.irq_check.proofs.Cutting.{short_log}
use Rattle.irq_check.proofs.WholeInput.{not_too_long}
use Rattle.irq_check.proofs.checking.check_bytes.Goals as goal

pub judge_log-requires : goal.judge_log-requires
judge_log-requires g c = omega (arith, c.if-bytes-gt-LONGEST_INPUT.false, short_log c.args.bytes.now c.in-Some.text.now c.in-Some.log.now c.in-Some.ensures)

pub returns-in-Ok : goal.returns-in-Ok
returns-in-Ok g c =
    let log = c.in-Some.log.now in
    record {
      exact = record {
        board = c.in_ok-board.board;
        log = log;
        states = not_too_long c.args.bytes.now c.if-bytes-gt-LONGEST_INPUT.false
            ∙ (ap board_and_log c.in-Some.ensures ∙ ap (with_log log) c.in_ok-board.ensures.exact);
        judged = c.in-Ok.ensures.judged;
        explained = c.in-Ok.ensures.explained;
      };
      printable = c.in-Ok.ensures.printable;
    }
