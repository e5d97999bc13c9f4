use Rattle.std.proofs.Common.{map, length, sym, ap, ◌∙◌}
use Rattle.board_core.specs.Seen.{SystemSeen}
use Rattle.board_core.proofs.Walking.{walk_length}
use Rattle.board_core.proofs.system.System.log_len.Goals as goal

pub returns : goal.returns
returns g c =
    let s = c.self.inside in
    let told = walk_length s.order.items s.begun (map g.L.IrqLine.seen s.lines.items) c.self.invariant.told in
    let log = ap (λ (v : SystemSeen). length v.log) c.self.view_is in
    c.len.ensures ∙ (s.order.ok.0 ∙ (sym told ∙ log))
