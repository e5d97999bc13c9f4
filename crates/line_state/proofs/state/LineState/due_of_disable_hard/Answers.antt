use Rattle.std.proofs.Common.{rules, ◌≡◌, option_map}
use Rattle.line_marks.specs.Calls.{clear_by}
use Rattle.line_state.specs.Entries.{call_made}
use Rattle.line_state.proofs.state.LineState.due_of_disable_hard.Goals as goal

pub returns-in_default : goal.returns-in_default
returns-in_default g c def =
    let is : option_map (call_made def c.args.self.now.state) c.due_clear.result ≡ clear_by c.args.self.now.state = c.due_clear.ensures def in
    search rules
