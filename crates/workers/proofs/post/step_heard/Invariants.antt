use Rattle.std.specs.Prelude.{IfSome}
use Rattle.callbacks.specs.Seen.{answer_to}
use Rattle.workers.proofs.Trying.{Waits}
use Rattle.workers.proofs.post.step_heard.Given as goal

abbrev pub invariant-loop : goal.invariant-loop
invariant-loop g l = record {
  waits : Waits l.line l.fn.pass l.pass;
  given : IfSome l.before.said (λ said. g.H.SharedHandler.gave l.handlers said.run (answer_to said.run));
}
