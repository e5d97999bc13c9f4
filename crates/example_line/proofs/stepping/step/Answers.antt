use Rattle.example_line.proofs.Counted.{step_heard}
use Rattle.example_line.proofs.stepping.step.Goals as goal

pub returns-in-Ok-Added-clause-heard : goal.returns-in-Ok-Added-clause-heard
returns-in-Ok-Added-clause-heard g c = λ first so_far.
    step_heard g.H.Handler.hears _ _ c.args.actor first _ _ c.step.result c.step.ensures.answer c.step.ensures.def c.step.ensures.heard so_far

pub returns-in-Ok-NotYet-clause-heard : goal.returns-in-Ok-NotYet-clause-heard
returns-in-Ok-NotYet-clause-heard g c = λ first so_far.
    step_heard g.H.Handler.hears _ _ c.args.actor first _ _ c.step.result c.step.ensures.answer c.step.ensures.def c.step.ensures.heard so_far

pub returns-in-Err-Full-clause-heard : goal.returns-in-Err-Full-clause-heard
returns-in-Err-Full-clause-heard g c = λ first so_far.
    step_heard g.H.Handler.hears _ _ c.args.actor first _ _ c.step.result c.step.ensures.answer c.step.ensures.def c.step.ensures.heard so_far

pub returns-in-Err-NoMemory-clause-heard : goal.returns-in-Err-NoMemory-clause-heard
returns-in-Err-NoMemory-clause-heard g c = λ first so_far.
    step_heard g.H.Handler.hears _ _ c.args.actor first _ _ c.step.result c.step.ensures.answer c.step.ensures.def c.step.ensures.heard so_far
