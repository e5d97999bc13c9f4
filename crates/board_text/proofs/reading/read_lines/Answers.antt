use Rattle.std.proofs.Common.{◌≡◌, ◌<◌, length, arith}
use Rattle.std.proofs.lemmas.Bool.Decides.{nat_tests}
use Rattle.board_words.specs.TextLines.{text_lines}
use Rattle.board_text.proofs.LinesRead.{lines_within, next_read, next_fault, fewer_left, all_read}
use Rattle.board_text.proofs.reading.read_lines.Goals as goal

pub overflow_add-at : goal.overflow_add-at
overflow_add-at c = omega (arith, c.loop-rest.invariant.counted, c.requires, lines_within c.args.bytes.now)

pub loop-rest-smaller : goal.loop-rest-smaller
loop-rest-smaller c =
    let some : 0 < length c.loop-rest.rest.now = grind (arith, nat_tests, c.is_empty.ensures, c.loop-rest-test.true) in
    fewer_left c.loop-rest.rest.now c.in-Ok.after.now some c.in-Ok.ensures.left

pub loop-rest-preserved : goal.loop-rest-preserved
loop-rest-preserved c =
    let some : 0 < length c.loop-rest.rest.now = grind (arith, nat_tests, c.is_empty.ensures, c.loop-rest-test.true) in
    next_read (text_lines c.args.bytes.now) c.loop-rest.rest.now c.in-Ok.after.now c.loop-rest.at c.loop-rest.reader c.read_line.new.self
    c.loop-rest.invariant some c.in-Ok.ensures.read c.in-Ok.ensures.left

pub returns-in-Err-Fault : goal.returns-in-Err-Fault
returns-in-Err-Fault c =
    let some : 0 < length c.loop-rest.rest.now = grind (arith, nat_tests, c.is_empty.ensures, c.loop-rest-test.true) in
    let told = next_fault (text_lines c.args.bytes.now) c.loop-rest.rest.now c.loop-rest.at c.loop-rest.reader c.read_line.new.self
    c.in-Err-Fault.kind c.loop-rest.invariant some (rw c.in-Err-Fault.field-0-is at c.in-Err-Fault.ensures.read) in
    rw (c.fault_at.ensures, c.in-Err-Fault.kind-is) told

pub returns : goal.returns
returns c =
    let none : length c.loop-rest.rest.now ≡ 0 = grind (arith, nat_tests, c.is_empty.ensures, c.loop-rest-test.false) in
    all_read (text_lines c.args.bytes.now) c.loop-rest.rest.now c.loop-rest.at c.loop-rest.reader c.loop-rest.invariant none
