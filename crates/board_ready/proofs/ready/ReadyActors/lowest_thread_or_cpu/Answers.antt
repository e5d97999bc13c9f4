use Rattle.std.proofs.Common.{ℕ, Option, sym, ap, ◌∙◌}
use Rattle.board_ready.specs.Ready.{lowest_thread, lowest_cpu, thread_or, cpu_actor}
use Rattle.board_ready.specs.Seen.{ReadySeen}
use Rattle.board_ready.specs.declared.parts.ReadyThread.{ReadyThread}
use Rattle.board_ready.proofs.Searching.{thread_found}
use Rattle.board_ready.proofs.ready.ReadyActors.lowest_thread_or_cpu.Goals as goal

pub returns-in-Some : goal.returns-in-Some
returns-in-Some c =
    ap (λ (o : Option ReadyThread). thread_or o (cpu_actor (lowest_cpu c.args.self.now.lines)))
    (sym c.in-Some.is ∙ (c.first.ensures ∙ (thread_found c.self.inside.lines.items c.self.inside.threads
    c.self.invariant.few_lines c.self.invariant.threads
    ∙ ap (λ (s : ReadySeen). lowest_thread s.lines) c.self.view_is)))

pub returns-in-Some-lowest_cpu : goal.returns-in-Some-lowest_cpu
returns-in-Some-lowest_cpu c =
    ap (λ (o : Option ℕ). cpu_actor o) (sym c.in-Some-lowest_cpu.is ∙ c.lowest_cpu.ensures.first)
    ∙ ap (λ (o : Option ReadyThread). thread_or o (cpu_actor (lowest_cpu c.args.self.now.lines)))
    (sym c.in-None.is ∙ (c.first.ensures ∙ (thread_found c.self.inside.lines.items c.self.inside.threads
    c.self.invariant.few_lines c.self.invariant.threads
    ∙ ap (λ (s : ReadySeen). lowest_thread s.lines) c.self.view_is)))

pub returns-in-None-lowest_cpu : goal.returns-in-None-lowest_cpu
returns-in-None-lowest_cpu c =
    ap (λ (o : Option ℕ). cpu_actor o) (sym c.in-None-lowest_cpu.is ∙ c.lowest_cpu.ensures.first)
    ∙ ap (λ (o : Option ReadyThread). thread_or o (cpu_actor (lowest_cpu c.args.self.now.lines)))
    (sym c.in-None.is ∙ (c.first.ensures ∙ (thread_found c.self.inside.lines.items c.self.inside.threads
    c.self.invariant.few_lines c.self.invariant.threads
    ∙ ap (λ (s : ReadySeen). lowest_thread s.lines) c.self.view_is)))
