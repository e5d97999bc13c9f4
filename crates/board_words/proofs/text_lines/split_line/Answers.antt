use Rattle.std.proofs.Common.{◌+◌}
use Rattle.std.proofs.lemmas.List.{take_rest}
use Rattle.board_words.proofs.Texts.{line_first}
use Rattle.board_words.proofs.text_lines.split_line.Goals as goal

pub returns-in-Some : goal.returns-in-Some
returns-in-Some c = rw (take_rest c.args.text.now (c.in-Some.end + 1)) (line_first c.args.text.now c.in-Some.end (rw c.in-Some.is at c.line_feed.ensures))
