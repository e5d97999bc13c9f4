use Rattle.std.proofs.Common.{◌≡◌, ◌&&◌, slice_get, sym, ap, ◌∙◌}
use Rattle.board_def.specs.Layout.{layout_of}
use Rattle.irq_pm.specs.SleptBoard.{is_mapped_at, wakes_row}
use Rattle.irq_pm.proofs.Fits.{found_row, passed_row}
use Rattle.irq_pm.proofs.fitting.can_wake.Goals as goal

pub returns-then-wakes_row : goal.returns-then-wakes_row
returns-then-wakes_row c =
    let place : c.get.result ≡ slice_get (layout_of c.args.board.now) c.loop-i.i = c.get.ensures
    ∙ ap (λ places. slice_get places c.loop-i.i) c.requires.layout in
    found_row c.args.board.now c.loop-i.i c.in-Some.row c.args.line c.in-Some.ensures
    (ap (λ p. is_mapped_at p && wakes_row c.args.line c.in-Some.row) (sym place) ∙ sym c.if-wakes_row.ensures) c.loop-i.invariant

pub loop-i-preserved : goal.loop-i-preserved
loop-i-preserved c =
    let place : c.get.result ≡ slice_get (layout_of c.args.board.now) c.loop-i.i = c.get.ensures
    ∙ ap (λ places. slice_get places c.loop-i.i) c.requires.layout in
    passed_row c.args.board.now c.loop-i.i c.in-Some.row c.args.line c.in-Some.ensures
    (ap (λ p. is_mapped_at p && wakes_row c.args.line c.in-Some.row) (sym place) ∙ sym c.if-wakes_row.ensures) c.loop-i.invariant
