use Rattle.std.proofs.Common.{◌≡◌, false, sym, ◌∙◌}
use Rattle.act_thread.specs.Steps.{may_begin, begun_row}
use Rattle.act_thread.proofs.Changing.{unchanged}
use Rattle.act_thread.proofs.threads.Threads.begin.Goals as goal

pub returns-else-may_begin : goal.returns-else-may_begin
returns-else-may_begin c =
    let no : may_begin c.in-Some.row ≡ false = sym c.may_begin.ensures ∙ c.if-may_begin.false in
    unchanged begun_row _ _ c.args.dev c.in-Some.row c.self.view_is c.in-Some.ensures (rw no)
