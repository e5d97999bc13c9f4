use Rattle.std.proofs.Common.{◌≡◌, ℕ, ◌+◌, Option, Some, Result, Ok, Err, slice_get, sym, ap, ◌∙◌, subst}
use Rattle.irq_base.specs.declared.entries.Entry.{Entry}
use Rattle.irq_line.specs.declared.answers.StepRefused.{StepRefused}
use Rattle.workers.specs.Seen.{JobSeen}
use Rattle.workers.specs.Attempts.{StepsPost, StepsCpu, flow_after}
use Rattle.workers.specs.Terms.{terms_of}
use Rattle.workers.proofs.Flowing.{cpu_rests, cpu_moved}
use Rattle.workers.proofs.Handing.{handed_on}
use Rattle.workers.proofs.job.Job.step_cpu.Goals as goal

pub returns-in-Some : goal.returns-in-Some
returns-in-Some g c =
    let s = subst (λ (o : Option Entry). StepsPost (terms_of g.L.IrqLine.seen g.L.IrqLine.may_want
    (g.H.SharedHandler.gave c.args.handlers.now)) c.args.lines.now c.args.place (Ok o) c.args.self.now c.try_post.new.self)
    c.in-Some.is c.in_ok-moved.ensures in
    let from = ap (λ (j : JobSeen). j.first) c.self.view_is ∙ ap (λ (j : JobSeen). j.first) s.is in
    cpu_moved (terms_of g.L.IrqLine.seen g.L.IrqLine.may_want (g.H.SharedHandler.gave c.args.handlers.now)) c.args.lines.now c.args.place c.args.self.now
    c.try_post.new.self c.requires.posted c.requires.flow
    c.requires.its c.requires.free c.in-Some.entry s c.flow_at-flow.result
    (record {
      actor = c.self.inside.actor;
      first = c.self.inside.first;
      posts = c.self.inside.posts.items;
      flow
          = c.flow_after-self-inside.result;
      at = c.self.inside.at;
      left = c.self.inside.left;
      end = c.self.inside.end;
    })
    (c.flow_at-flow.ensures s.line (ap (λ (n : ℕ). slice_get c.args.lines.now (n + c.args.place)) from ∙ s.at_line))
    (ap (λ (f : Option ℕ). record {
      actor = c.self.inside.actor;
      first = c.self.inside.first;
      posts
          = c.self.inside.posts.items;
      flow = f;
      at = c.self.inside.at;
      left = c.self.inside.left;
      end = c.self.inside.end;
    })
    c.flow_after-self-inside.ensures
    ∙ ap (λ (j : JobSeen). record j { flow = flow_after c.flow_at-flow.result c.in-Some.entry c.args.place j.flow }) c.self.view_is)

pub returns-in_default : goal.returns-in_default
returns-in_default g c =
    cpu_rests (terms_of g.L.IrqLine.seen g.L.IrqLine.may_want (g.H.SharedHandler.gave c.args.handlers.now)) c.args.lines.now c.args.place c.args.self.now
    c.try_post.new.self c.requires.posted c.requires.flow c.requires.its c.requires.free (Ok c.in_ok-moved.moved) c.in_ok-moved.ensures
    (λ e is. let same : c.in_ok-moved.moved ≡ Some e = cc in c.in_default.not-Some e same)

pub returns-in_err-moved : goal.returns-in_err-moved
returns-in_err-moved g c =
    subst (λ (tried : Result (Option Entry) StepRefused). StepsCpu (terms_of g.L.IrqLine.seen g.L.IrqLine.may_want
    (g.H.SharedHandler.gave c.args.handlers.now)) c.args.lines.now c.args.place tried c.args.self.now c.try_post.new.self)
    (sym (handed_on c.from_residual.ensures.1))
    (cpu_rests (terms_of g.L.IrqLine.seen g.L.IrqLine.may_want (g.H.SharedHandler.gave c.args.handlers.now)) c.args.lines.now c.args.place c.args.self.now
    c.try_post.new.self c.requires.posted c.requires.flow c.requires.its c.requires.free (Err c.in_err-moved.field-0.0) c.in_err-moved.ensures
    (λ e is. cc))
