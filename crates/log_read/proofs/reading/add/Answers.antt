use Rattle.std.proofs.Common.{[], ◌∷◌, ◌++◌, ap, ◌∙◌}
use Rattle.irq_base.specs.Seen.{HistorySeen}
use Rattle.log_read.proofs.reading.add.Goals.{then-spare-eq0+in_ok-reserve, else-spare-eq0}
use Rattle.log_read.proofs.Telling.{adds}
use Rattle.log_read.proofs.reading.add.Goals as goal

pub returns : goal.returns
returns c =
    let h = c.history_mut-history.result.now in
    adds c.args.logs.now c.args.place c.args.entry h c.push.new.self c.history_mut-history.ensures.value
    (c.push.ensures.entries ∙ ap (λ es. es ++ c.args.entry ∷ []) (elim c.if-spare-eq0.branch [
      | then-spare-eq0+in_ok-reserve w ↦ ap (λ (s : HistorySeen). s.entries) w.history-is ∙ w.reserve.ensures.same
      | else-spare-eq0 w ↦ ap (λ (s : HistorySeen). s.entries) w.history-is
    ]))
