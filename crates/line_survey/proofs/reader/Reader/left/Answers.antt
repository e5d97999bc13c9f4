use Rattle.std.proofs.Common.{sym, subst}
use Rattle.line_core.specs.Hanging.{lowest_hung_by}
use Rattle.line_space.proofs.Beside.{scripted_at}
use Rattle.line_space.proofs.HungAgain.{hung_again}
use Rattle.line_wanted.specs.Left.{Leaves}
use Rattle.line_wanted.specs.declared.left.Left.{Left}
use Rattle.line_survey.proofs.Lefts.{left_is}
use Rattle.line_survey.proofs.reader.Reader.left.Goals as goal

pub returns-clause-left : goal.returns-clause-left
returns-clause-left c = λ past runs legal words still.
    let def = c.args.def.now in
    let s = c.read_into.new.state in
    let scripts = c.read_into.new.scripts in
    let are = c.read_into.ensures.scripts in
    let some = c.requires.past in
    let scripted = scripted_at def some.0 s scripts c.requires.valid runs some.1 some.3 c.read_into.ensures.runs are
    (c.read_into.ensures.places some.0 some.1 some.2) (c.in_ok-read_into.ensures.state some.0 some.1 some.2) in
    let again = c.in_ok-read_into.ensures.state past legal words in
    subst (λ (left : Left). Leaves def left past) (sym (c.left_in.ensures runs scripted))
    (record {
      still = still;
      hung = hung_again def past c.requires.valid runs legal scripts are.calls (c.read_into.ensures.places past legal words) s.state again;
      left_is = left_is def past c.requires.valid legal (lowest_hung_by def s.state scripts) s.state again;
    })
