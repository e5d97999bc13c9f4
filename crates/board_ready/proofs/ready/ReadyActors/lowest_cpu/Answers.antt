use Rattle.std.proofs.Common.{nat_lt, is_some, ◌&&◌, ap, ◌∙◌}
use Rattle.board_ready.specs.Ready.{cpu_line, lowest_cpu}
use Rattle.board_ready.specs.Seen.{ReadySeen}
use Rattle.board_ready.proofs.Searching.{cpus_waiting, cpu_below, first_moves, moves_if_none}
use Rattle.board_ready.proofs.ready.ReadyActors.lowest_cpu.Goals as goal

pub lowest_that_moves-requires : goal.lowest_that_moves-requires
lowest_that_moves-requires c = λ i less.
    let k = c.self.invariant in
    cpus_waiting c.self.inside.lines.items c.self.inside.flows c.self.inside.takes c.cpus.result c.cpus-2.result
    k.few_lines k.flows k.takes c.cpus.ensures.some c.cpus-2.ensures.some c.cpus.ensures.few c.cpus-2.ensures.few i less
    ∙ ap (λ (s : ReadySeen). nat_lt i 32 && is_some (cpu_line s.lines i)) c.self.view_is

pub returns-then-cpus-eq0-clause-first : goal.returns-then-cpus-eq0-clause-first
returns-then-cpus-eq0-clause-first c =
    let k = c.self.invariant in
    c.first_bit.ensures
    ∙ (first_moves c.self.inside.lines.items _
    (cpus_waiting c.self.inside.lines.items c.self.inside.flows c.self.inside.takes c.cpus.result c.cpus-2.result
    k.few_lines k.flows k.takes c.cpus.ensures.some c.cpus-2.ensures.some c.cpus.ensures.few c.cpus-2.ensures.few)
    (λ i. moves_if_none c.self.inside.lines.items c.self.inside.spins c.cpus-3.result i k.few_lines k.spins c.if-cpus-eq0.true c.cpus-3.ensures.some)
    ∙ ap (λ (s : ReadySeen). lowest_cpu s.lines) c.self.view_is)

pub returns-then-cpus-eq0-clause-few : goal.returns-then-cpus-eq0-clause-few
returns-then-cpus-eq0-clause-few c = cpu_below c.args.self.now.lines c.first_bit.result (returns-then-cpus-eq0-clause-first c)
