use Rattle.std.proofs.Common.{ℕ, Option, sym, ap, ◌∙◌, arith}
use Rattle.board_ready.specs.First.{first_of}
use Rattle.board_ready.specs.Ready.{flow_or_take, cpu_line}
use Rattle.board_ready.specs.Seen.{ReadySeen}
use Rattle.board_ready.specs.Sets.{is_of}
use Rattle.board_ready.proofs.Searching.{chosen_line}
use Rattle.board_ready.proofs.ready.ReadyActors.cpu_line.Goals as goal

pub returns-in-Some : goal.returns-in-Some
returns-in-Some c =
    let k = c.self.invariant in
    ap (λ (o : Option ℕ). flow_or_take o (first_of (is_of c.self.inside.takes c.args.cpu.0) 64)) (sym c.in-Some.is ∙ c.first.ensures)
    ∙ (chosen_line c.self.inside.lines.items c.self.inside.flows c.self.inside.takes c.args.cpu.0 k.few_lines
    (omega (arith, c.if-cpu-ge-CPUS.false)) k.flows k.takes
    ∙ ap (λ (s : ReadySeen). cpu_line s.lines c.args.cpu.0) c.self.view_is)

pub returns-in-None : goal.returns-in-None
returns-in-None c =
    let k = c.self.invariant in
    c.first-in-None.ensures
    ∙ (ap (λ (o : Option ℕ). flow_or_take o (first_of (is_of c.self.inside.takes c.args.cpu.0) 64)) (sym c.in-None.is ∙ c.first.ensures)
    ∙ (chosen_line c.self.inside.lines.items c.self.inside.flows c.self.inside.takes c.args.cpu.0 k.few_lines
    (omega (arith, c.if-cpu-ge-CPUS.false)) k.flows k.takes
    ∙ ap (λ (s : ReadySeen). cpu_line s.lines c.args.cpu.0) c.self.view_is))
