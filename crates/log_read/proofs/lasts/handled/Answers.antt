use Rattle.std.proofs.Common.{sym, ◌∙◌}
use Rattle.std.proofs.lemmas.Bool.{false≢true}
use Rattle.log_read.proofs.Saying.{handled_ended, handled_nothing, handled_handled}
use Rattle.log_read.proofs.lasts.handled.Goals as goal

pub returns-then-is_done : goal.returns-then-is_done
returns-then-is_done c = handled_ended c.args.words.now c.args.served (c.is_done.ensures.0 c.if-is_done.true)

pub returns-then-served : goal.returns-then-served
returns-then-served c =
    handled_nothing c.args.words.now _ c.args.served c.if-served.true
    (λ done. false≢true (sym c.if-is_done.false ∙ c.is_done.ensures.1 done)) c.expect.ensures

pub returns : goal.returns
returns c =
    handled_handled c.args.words.now _ c.args.served c.if-served.false
    (λ done. false≢true (sym c.if-is_done.false ∙ c.is_done.ensures.1 done)) c.expect-2.ensures
