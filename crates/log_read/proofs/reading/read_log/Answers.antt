use Rattle.std.proofs.Common.{rules, ◌≡◌, [], ◌∷◌, ◌++◌, drop, sym, ◌∙◌, arith}
use Rattle.log_read.proofs.Telling.{first_malformed, unended_row, judged_wrong, judged_fine, drop_next, tell_next, all_told, short_logs, as_many}
use Rattle.log_read.specs.LogOf.{rows_of, entries_of}
use Rattle.log_read.proofs.reading.read_log.Goals as goal

pub returns-in_default-clause-log : goal.returns-in_default-clause-log
returns-in_default-clause-log c =
    let b = c.args.board.now in
    first_malformed b (rows_of c.args.bytes.now) c.loop-rest.row c.loop-rest.rest.now [] (entries_of c.loop-rest.logs)
    (sym c.loop-rest.invariant.left ∙ c.in_default.ensures.rows.0) c.loop-rest.invariant.told
    (unended_row b c.loop-rest.rest.now c.in_default.ensures.rows.1)

pub returns-then-not-branch-clause-log : goal.returns-then-not-branch-clause-log
returns-then-not-branch-clause-log c =
    let b = c.args.board.now in
    let row = c.in-Some.text.now ++ 10 ∷ [] in
    first_malformed b (rows_of c.args.bytes.now) c.loop-rest.row row (rows_of c.in-Some.after.now) (entries_of c.loop-rest.logs)
    (sym c.loop-rest.invariant.left ∙ c.in-Some.ensures.rows) c.loop-rest.invariant.told
    (judged_wrong b row c.in_ok-add_row.field-0 (entries_of c.loop-rest.logs) (entries_of c.add_row.new.logs) (search rules) c.in_ok-add_row.ensures)

pub loop-rest-preserved : goal.loop-rest-preserved
loop-rest-preserved c =
    let b = c.args.board.now in
    let rows = rows_of c.args.bytes.now in
    let row = c.in-Some.text.now ++ 10 ∷ [] in
    let at : drop c.loop-rest.row rows ≡ row ∷ rows_of c.in-Some.after.now = sym c.loop-rest.invariant.left ∙ c.in-Some.ensures.rows in
    record {
      left = sym (drop_next rows c.loop-rest.row row (rows_of c.in-Some.after.now) at);
      told =
          tell_next c.args.board.now c.is_board.ensures.board rows c.loop-rest.row row (rows_of c.in-Some.after.now)
          (entries_of c.loop-rest.logs) (entries_of c.add_row.new.logs) at c.loop-rest.invariant.told
          (judged_fine b row c.in_ok-add_row.field-0 (entries_of c.loop-rest.logs) (entries_of c.add_row.new.logs) (search rules) c.in_ok-add_row.ensures);
      within = omega (arith, c.loop-rest.invariant.within, c.in-Some.ensures.shorter);
    }

pub returns-clause-log : goal.returns-clause-log
returns-clause-log c = all_told c.args.board.now c.args.bytes.now c.loop-rest.rest.now c.loop-rest.row
    c.loop-rest.logs c.loop-rest.invariant.left (search rules) c.loop-rest.invariant.told

pub returns-clause-few : goal.returns-clause-few
returns-clause-few c =
    let b = c.args.board.now in
    short_logs b c.args.bytes.now c.loop-rest.logs
    (all_told b c.args.bytes.now c.loop-rest.rest.now c.loop-rest.row c.loop-rest.logs c.loop-rest.invariant.left (search rules) c.loop-rest.invariant.told)

pub returns-clause-each : goal.returns-clause-each
returns-clause-each c =
    let b = c.args.board.now in
    as_many b (rows_of c.args.bytes.now) c.loop-rest.logs
    (all_told b c.args.bytes.now c.loop-rest.rest.now c.loop-rest.row c.loop-rest.logs c.loop-rest.invariant.left (search rules) c.loop-rest.invariant.told)
