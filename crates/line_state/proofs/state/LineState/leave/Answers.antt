use Rattle.line_marks.specs.CpuDue.{is_held}
use Rattle.line_state.proofs.EndIs.{edge_goes_on}
use Rattle.line_state.proofs.state.LineState.leave.Goals as goal

pub returns-in-Edge-clause-state : goal.returns-in-Edge-clause-state
returns-in-Edge-clause-state g c =
    edge_goes_on c.args.def.now c.leave_edge.result.again (is_held c.args.self.now.state) c.args.self.now.state
    c.leave_edge.new.self.state c.in-Edge.is (c.leave_edge.ensures.state c.args.def.now)
