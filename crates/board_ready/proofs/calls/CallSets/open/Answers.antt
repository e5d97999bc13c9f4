use Rattle.std.proofs.Common.{ap, ◌∙◌}
use Rattle.board_ready.specs.Sets.{CallsSeen, may_go_on}
use Rattle.board_ready.proofs.Numbers.{all_have}
use Rattle.board_ready.proofs.calls.CallSets.open.Goals as goal

pub returns : goal.returns
returns c = λ r.
    all_have c.self.inside.waiting.nothing c.unless-flow.result c.unless-threads.result c.unless-mutex.result
    c.unless-freed.result r _ _ _ _ (c.unless-flow.ensures r) (c.unless-threads.ensures r)
    (c.unless-mutex.ensures r) (c.unless-freed.ensures r)
    ∙ ap (λ (s : CallsSeen). may_go_on c.args.blocks s.waiting r) c.self.view_is
