use Rattle.std.proofs.Common.{◌*◌, ◌≤◌, ◌<◌, length}
use Rattle.board_text.proofs.Ending.{ends_large, ends_good, log_fits}
use Rattle.board_text.proofs.reader.Reader.end.Goals as goal

pub set_log-requires : goal.set_log-requires
set_log-requires c =
    let r = c.args.self in
    let few : r.log * length r.board.lines ≤ 4000000 = rw (← c.from.ensures, ← c.lines_len.ensures) c.if-from-lines_len-gt-MOST_ENTRIES.false in
    record { board = log_fits r c.requires few }

pub returns : goal.returns
returns c = λ past h.
    let r = c.args.self in
    let few : r.log * length r.board.lines ≤ 4000000 = rw (← c.from.ensures, ← c.lines_len.ensures) c.if-from-lines_len-gt-MOST_ENTRIES.false in
    ends_good past r c.set_log.new.self h few c.set_log.ensures.set

pub returns-then-from-lines_len-gt-MOST_ENTRIES : goal.returns-then-from-lines_len-gt-MOST_ENTRIES
returns-then-from-lines_len-gt-MOST_ENTRIES c = λ past h.
    let r = c.args.self in
    let more : 4000000 < r.log * length r.board.lines = rw (← c.from.ensures, ← c.lines_len.ensures) c.if-from-lines_len-gt-MOST_ENTRIES.true in
    ends_large past r h more
