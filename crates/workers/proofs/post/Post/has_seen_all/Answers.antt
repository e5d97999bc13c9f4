use Rattle.std.proofs.Common.{ap}
use Rattle.workers.specs.Seen.{PostSeen}
use Rattle.workers.proofs.Trying.{glances_so}
use Rattle.workers.proofs.post.Post.has_seen_all.Goals as goal

pub returns-clause-looks : goal.returns-clause-looks
returns-clause-looks g c =
    glances_so c.args.self.now.pass.knows c.self.inside.pass.knows c.look-count.new.pass.knows c.look-count.result c.front.result
    (ap (λ (s : PostSeen). s.pass.knows) c.self.view_is) c.look-count.ensures.knows c.front.ensures
