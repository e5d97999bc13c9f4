use Rattle.std.proofs.Common.{◌+◌, sym}
use Rattle.std.proofs.lemmas.List.{take_rest}
use Rattle.board_words.proofs.Texts.{line_first}
use Rattle.board_words.proofs.text_lines.TextLines.next_checked.Goals as goal

pub returns-in-Some : goal.returns-in-Some
returns-in-Some c =
    let text = c.args.self.now.rest.now in
    let told = c.in-Some.ensures in
    (rw (take_rest text (c.in-Some.end + 1)) (line_first text c.in-Some.end told.0), sym told.1)
