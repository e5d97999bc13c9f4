use Rattle.std.proofs.Common.{nat_lt, cond, None, ap, ◌∙◌, arith}
use Rattle.board_ready.specs.Ready.{flow_line}
use Rattle.board_ready.specs.Seen.{ReadySeen}
use Rattle.board_ready.proofs.Searching.{flow_found}
use Rattle.board_ready.proofs.ready.ReadyActors.flow_line.Goals as goal

pub returns : goal.returns
returns c =
    let k = c.self.invariant in
    c.first.ensures
    ∙ (flow_found c.self.inside.lines.items c.self.inside.flows c.args.cpu.0 k.few_lines (omega (arith, c.if-cpu-ge-CPUS.false)) k.flows
    ∙ ap (λ (s : ReadySeen). cond (nat_lt c.args.cpu.0 32) (flow_line s.lines c.args.cpu.0) None) c.self.view_is)
