use Rattle.std.proofs.Common.{◌≡◌, None, ap, sym, subst, ◌∙◌}
use Rattle.irq_base.specs.declared.entries.Actor.{Actor}
use Rattle.irq_line.specs.Seen.{LineSeen}
use Rattle.line_core.proofs.InWay.{cpu_told, no_call_in_way, thread_told, wait_told}
use Rattle.line_core.proofs.More.{line_scripted}
use Rattle.line_core.proofs.Stepping.{line_of}
use Rattle.line_core.specs.InWay.{by_wait}
use Rattle.line_core.specs.Seen.{WiredSeen}
use Rattle.line_state.specs.Seen.{runs_seen}
use Rattle.line_obstacles.specs.Obstacles.{obstacle_of}
use Rattle.line_core.proofs.obstacles.LineTellsObstacles.obstacle.Goals as goal

pub returns-in-Cpu : goal.returns-in-Cpu
returns-in-Cpu g c =
    let line : LineSeen = line_of c.self.inside.def c.self.inside.history in
    subst (λ (w : WiredSeen). c.of_cpu.result ≡ obstacle_of w.line c.args.actor) c.self.view_is
    (subst (λ (a : Actor). c.of_cpu.result ≡ obstacle_of line a) (sym c.in-Cpu.is)
    (c.of_cpu.ensures line.def (line_scripted line.def line.entries
    (record { seen = c.self.inside.state; scripts = c.self.inside.scripts; is = c.self.invariant }))
    ∙ cpu_told line c.self.inside.state.state c.self.inside.scripts (runs_seen c.self.inside.state) c.self.invariant c.in-Cpu.cpu))

pub returns-in-Thread : goal.returns-in-Thread
returns-in-Thread g c =
    let line : LineSeen = line_of c.self.inside.def c.self.inside.history in
    subst (λ (w : WiredSeen). c.of_thread.result ≡ obstacle_of w.line c.args.actor) c.self.view_is
    (subst (λ (a : Actor). c.of_thread.result ≡ obstacle_of line a) (sym c.in-Thread.is)
    (c.of_thread.ensures line.def (line_scripted line.def line.entries
    (record { seen = c.self.inside.state; scripts = c.self.inside.scripts; is = c.self.invariant }))
    ∙ thread_told line c.self.inside.state.state c.self.inside.scripts (runs_seen c.self.inside.state)
    c.self.invariant c.in-Thread.dev))

pub returns-in-Some : goal.returns-in-Some
returns-in-Some g c =
    let line : LineSeen = line_of c.self.inside.def c.self.inside.history in
    let due = sym c.due.ensures ∙ c.in-Some.is in
    subst (λ (w : WiredSeen). c.of_wait.result ≡ obstacle_of w.line c.args.actor) c.self.view_is
    (subst (λ (a : Actor). c.of_wait.result ≡ obstacle_of line a) (sym c.in-Driver.is)
    (c.of_wait.ensures ∙ (ap (by_wait c.self.inside.state.state c.self.inside.def.devices) c.wait_of.ensures
    ∙ wait_told line c.self.inside.state.state c.self.inside.scripts (runs_seen c.self.inside.state) c.self.invariant c.in-Driver.driver
    c.in-Some.call c.in-Some.made due)))

pub returns-in-None : goal.returns-in-None
returns-in-None g c =
    let line : LineSeen = line_of c.self.inside.def c.self.inside.history in
    let none = sym c.due.ensures ∙ c.in-None.is in
    subst (λ (w : WiredSeen). None ≡ obstacle_of w.line c.args.actor) c.self.view_is
    (subst (λ (a : Actor). None ≡ obstacle_of line a) (sym c.in-Driver.is)
    (no_call_in_way line c.self.inside.state.state c.self.inside.scripts (runs_seen c.self.inside.state) c.self.invariant c.in-Driver.driver none))
