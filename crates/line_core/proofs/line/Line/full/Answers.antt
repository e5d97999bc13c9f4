use Rattle.std.proofs.Common.{◌≤◌, length, ap, subst, arith}
use Rattle.line_core.specs.Seen.{WiredSeen}
use Rattle.line_core.proofs.line.Line.full.Goals as goal

pub returns : goal.returns
returns g c =
    let room = subst (λ (w : WiredSeen). length w.line.entries ≤ w.line.def.log) c.self.view_is c.self.invariant.room in
    let len = c.requires.len in
    let log = c.requires.log in
    record { line_is = ap (λ (w : WiredSeen). w.line.def.line) c.self.view_is; told = len; log = omega (arith, room, len, log) }
