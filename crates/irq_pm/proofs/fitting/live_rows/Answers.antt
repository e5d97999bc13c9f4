use Rattle.std.proofs.Common.{◌≡◌, ◌+◌, ◌++◌, [], ◌∷◌, cond, slice_get, sym, ap, ◌∙◌}
use Rattle.board_def.specs.Layout.{layout_of}
use Rattle.irq_pm.specs.SleptBoard.{is_mapped_at}
use Rattle.irq_pm.proofs.Fits.{live_from, more_rows}
use Rattle.irq_pm.proofs.fitting.live_rows.Goals as goal

pub loop-i-preserved : goal.loop-i-preserved
loop-i-preserved c =
    let b = c.args.board.now in
    let place : c.get.result ≡ slice_get (layout_of b) c.loop-i.i = c.get.ensures ∙ ap (λ places. slice_get places c.loop-i.i) c.requires.layout in
    more_rows b c.loop-i.i c.in-Some.row c.loop-i.rows.items c.in-Some.ensures c.loop-i.invariant
    ∙ ap (λ xs. xs ++ live_from b (c.loop-i.i + 1))
    (ap (λ p. c.loop-i.rows.items ++ cond (is_mapped_at p) (c.in-Some.row ∷ []) []) (sym place) ∙ sym c.in_ok-add_mapped.ensures)
