use Rattle.std.proofs.Common.{◌≡◌, true}
use Rattle.act_thread.specs.Steps.{woken_row}
use Rattle.act_thread.proofs.Changing.{unchanged}
use Rattle.act_thread.proofs.threads.Threads.wake.Goals as goal

pub returns-then-row : goal.returns-then-row
returns-then-row c =
    let no : c.in-Some.row.woken ≡ true = c.if-row.true in
    unchanged (woken_row c.args.oneshot) _ _ c.args.dev c.in-Some.row c.self.view_is c.in-Some.ensures (rw no)
