use Rattle.std.proofs.Common.{◌<◌, ◌∙◌, length, sym, arith}
use Rattle.board_stated.specs.Stated.{answers_told}
use Rattle.board_text.proofs.Left.{item_there, mapped_more}
use Rattle.board_text.proofs.adding.told_rows.Goals as goal
use Rattle.board_text.proofs.adding.told_rows.Goals.{in-Some+in_ok-add_told_times, in_default}

pub loop-i-preserved : goal.loop-i-preserved
loop-i-preserved c =
    let answers = c.args.answers.now in
    let within : c.loop-i.i < length answers = omega arith in
    elim c.match-get.branch [
      | in-Some+in_ok-add_told_times w ↦
          mapped_more (answers_told c.line_of_device-line.result c.args.dev c.args.part) answers c.loop-i.i w.in-Some.word c.loop-i.rows.items
          c.match-get.rows.items (sym c.get.ensures ∙ w.in-Some.is) c.loop-i.invariant (rw w.rows-is w.in_ok-add_told_times.ensures)
      | in_default w ↦ absurd (item_there answers c.loop-i.i (sym c.get.ensures ∙ w.in_default.is) within)
    ]
