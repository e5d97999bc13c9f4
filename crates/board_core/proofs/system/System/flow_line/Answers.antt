use Rattle.std.proofs.Common.{arith}
use Rattle.board_core.proofs.InLists.{read_at}
use Rattle.board_core.proofs.Kept.{kept_system}
use Rattle.board_core.proofs.OfProcessors.{flow_within, flow_number, no_flow_number}
use Rattle.board_core.proofs.system.System.flow_line.Goals as goal

pub index-requires : goal.index-requires
index-requires g c =
    let system = kept_system c.is_board.ensures.board c.self.invariant c.self.view_is in
    let s = c.self.inside in
    let there = flow_within system c.args.cpu c.in-Some.k
    c.in-Some.ensures in
    omega (arith, there, s.line_numbers.ok.0)

pub returns-in-Some : goal.returns-in-Some
returns-in-Some g c =
    let system = kept_system c.is_board.ensures.board c.self.invariant c.self.view_is in
    flow_number system c.args.cpu c.in-Some.k
    (record { 0 = c.index.result.now }) c.in-Some.ensures
    (read_at c.self.inside.line_numbers.items (flow_within system c.args.cpu c.in-Some.k c.in-Some.ensures)
    c.index.ensures)

pub returns-in-None : goal.returns-in-None
returns-in-None g c =
    let system = kept_system c.is_board.ensures.board c.self.invariant c.self.view_is in
    no_flow_number system c.args.cpu c.in-None.ensures
