use Rattle.std.proofs.Common.{◌≡◌, false, sym, ◌∙◌}
use Rattle.act_thread.specs.Steps.{may_end, done_row}
use Rattle.act_thread.proofs.Changing.{unchanged}
use Rattle.act_thread.proofs.threads.Threads.done.Goals as goal

pub returns-else-may_end : goal.returns-else-may_end
returns-else-may_end c =
    let no : may_end c.args.oneshot c.in-Some.row ≡ false = sym c.may_end.ensures ∙ c.if-may_end.false in
    unchanged (done_row c.args.oneshot) _ _ c.args.dev c.in-Some.row c.self.view_is c.in-Some.ensures (rw no)
