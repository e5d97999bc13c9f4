use Rattle.std.proofs.Common.{◌≡◌, true, sym, ap, ◌∙◌}
use Rattle.device_table.specs.Rows.{at}
use Rattle.act_thread.specs.Threads.{rank_at}
use Rattle.act_thread.proofs.Finding.{rows_seen}
use Rattle.act_thread.proofs.threads.Threads.device.Goals as goal

pub returns-clause-device : goal.returns-clause-device
returns-clause-device c = λ d.
    let own : at c.self.inside.ranks d ≡ rank_at c.args.self.now d = c.self.invariant.numbered d ∙ ap (λ t. rank_at t d) c.self.view_is in
    (λ h. sym own ∙ (c.device.ensures d).0 h, λ h. (c.device.ensures d).1 (own ∙ h))

pub returns-clause-rows : goal.returns-clause-rows
returns-clause-rows c =
    let i = c.self.inside in
    rows_seen i.rows i.active i.held i.ranks i.ready i.returned true c.self.invariant _ c.self.view_is
