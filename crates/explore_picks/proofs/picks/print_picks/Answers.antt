use Rattle.std.proofs.Common.{◌<◌, ◌+◌, ◌/◌, ◌∙◌, ap, length, subst, List, ℕ, arith, Ok}
use Rattle.std.proofs.lemmas.Result.{err_from_is_err_and}
use Rattle.std.specs.List.{flat_map, range_with_len}
use Rattle.irq_io.specs.Whole.{WritesAll}
use Rattle.board_report.proofs.Writing.{items_done, items_failed, number_at, numbers_all}
use Rattle.explore_picks.specs.Rows.{picks_row, row_at}
use Rattle.explore_picks.proofs.picks.print_picks.Goals as goal

pub returns-in_err-write_all-clause-content : goal.returns-in_err-write_all-clause-content
returns-in_err-write_all-clause-content g c =
    let rows = (length c.args.picks.now + 23) / 24 in
    let within : c.loop-place.place < (length c.args.picks.now + 23) / 24 = omega (arith, c.loop-place-test.true) in
    let p = err_from_is_err_and c.from_residual.result c.from_residual.ensures.1 in
    rw (p.1, p.2) (items_failed (λ k. picks_row (row_at c.args.picks.now k)) (g.O.Sink.written c.args.out.now) (g.O.Sink.written c.loop-place.out)
    (g.O.Sink.written c.write_all.new.sink) (range_with_len 0 rows) c.loop-place.place c.loop-place.place
    c.bytes.result.now c.in_err-write_all.field-0.0 (number_at rows c.loop-place.place within)
    (c.bytes.ensures.bytes ∙ (c.picks_row.ensures ∙ ap picks_row c.picks_of.ensures.picks))
    c.loop-place.invariant.content c.in_err-write_all.ensures.content)

pub loop-place-preserved : goal.loop-place-preserved
loop-place-preserved g c =
    let rows = (length c.args.picks.now + 23) / 24 in
    let within : c.loop-place.place < (length c.args.picks.now + 23) / 24 = omega (arith, c.loop-place-test.true) in
    record {
      content =
          items_done (λ k. picks_row (row_at c.args.picks.now k)) (g.O.Sink.written c.args.out.now) (g.O.Sink.written c.loop-place.out)
          (g.O.Sink.written c.write_all.new.sink) (range_with_len 0 rows) c.loop-place.place c.loop-place.place
          c.bytes.result.now (number_at rows c.loop-place.place within)
          (c.bytes.ensures.bytes ∙ (c.picks_row.ensures ∙ ap picks_row c.picks_of.ensures.picks))
          c.loop-place.invariant.content c.in_ok-write_all.ensures.content;
      faults = c.in_ok-write_all.ensures.cause ∙ c.loop-place.invariant.faults;
    }

pub returns-clause-content : goal.returns-clause-content
returns-clause-content g c =
    let rows = (length c.args.picks.now + 23) / 24 in
    subst (λ (text : List ℕ). WritesAll (g.O.Sink.written c.args.out.now) (g.O.Sink.written c.loop-place.out) text (Ok tt))
    (ap (flat_map (λ k. picks_row (row_at c.args.picks.now k))) (numbers_all rows c.loop-place.place
    (omega (arith, c.loop-place-test.false)))) c.loop-place.invariant.content
