use Rattle.std.proofs.Common.{◌≡◌, false, sym, ◌∙◌}
use Rattle.act_thread.specs.Steps.{may_return, returned_row}
use Rattle.act_thread.proofs.Changing.{unchanged}
use Rattle.act_thread.proofs.threads.Threads.returned.Goals as goal

pub returns-else-may_return : goal.returns-else-may_return
returns-else-may_return c =
    let no : may_return c.in-Some.row ≡ false = sym c.may_return.ensures ∙ c.if-may_return.false in
    unchanged returned_row _ _ c.args.dev c.in-Some.row c.self.view_is c.in-Some.ensures (rw no)
