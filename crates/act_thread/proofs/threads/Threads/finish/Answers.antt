use Rattle.std.proofs.Common.{◌≡◌, false, sym, ◌∙◌}
use Rattle.act_thread.specs.Steps.{is_returned, finished_row}
use Rattle.act_thread.proofs.Changing.{unchanged}
use Rattle.act_thread.proofs.threads.Threads.finish.Goals as goal

pub returns-else-is_returned-clause-rows : goal.returns-else-is_returned-clause-rows
returns-else-is_returned-clause-rows c =
    let no : is_returned c.in-Some.row ≡ false = sym c.is_returned.ensures ∙ c.if-is_returned.false in
    unchanged finished_row _ _ c.args.dev c.in-Some.row c.self.view_is c.in-Some.ensures (rw no)
