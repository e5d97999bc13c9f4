use Rattle.std.proofs.Common.{sym, ◌∙◌}
use Rattle.std.proofs.lemmas.Bool.{false≢true}
use Rattle.log_read.proofs.Saying.{edge_ended, edge_said}
use Rattle.log_read.proofs.lasts.edge.Goals as goal

pub returns-then-is_done : goal.returns-then-is_done
returns-then-is_done c = edge_ended c.args.words.now (c.is_done.ensures.0 c.if-is_done.true)

pub returns : goal.returns
returns c =
    edge_said c.args.words.now _ (λ done. false≢true (sym c.if-is_done.false ∙ c.is_done.ensures.1 done)) c.expect.ensures
