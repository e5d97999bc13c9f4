use Rattle.std.proofs.Common.{nat_lt, ◌&&◌, slice_get, ap, ◌∙◌, arith}
use Rattle.board_ready.specs.Ready.{has_take}
use Rattle.board_ready.specs.Seen.{ReadySeen}
use Rattle.board_ready.proofs.Searching.{take_found, no_take_kept}
use Rattle.board_ready.proofs.ready.ReadyActors.takes.Goals as goal

pub returns-then-cpu-ge-CPUS : goal.returns-then-cpu-ge-CPUS
returns-then-cpu-ge-CPUS c = λ k less. no_take_kept c.args.self.now.lines c.args.cpu.0 k (omega (arith, c.if-cpu-ge-CPUS.true))

pub returns : goal.returns
returns c = λ k less.
    c.lines.ensures k less
    ∙ (take_found c.self.inside.lines.items c.self.inside.takes c.args.cpu.0 k (omega (arith, c.if-cpu-ge-CPUS.false)) less c.self.invariant.takes
    ∙ ap (λ (s : ReadySeen). nat_lt c.args.cpu.0 32 && has_take c.args.cpu.0 (slice_get s.lines k)) c.self.view_is)
