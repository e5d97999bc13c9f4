use Rattle.line_marks.specs.Facts.{serves_in}
use Rattle.line_state.proofs.Idle.{serves_nothing}
use Rattle.line_state.proofs.state.LineState.serve_run.Goals as goal

pub returns-then-not-serves-clause-state : goal.returns-then-not-serves-clause-state
returns-then-not-serves-clause-state g c =
    serves_nothing c.args.def.now c.args.self.now.state c.args.there.run.def.dev
    (serves_in c.args.self.now.state.facts c.args.there.run.part c.args.there.run.def.dev)
