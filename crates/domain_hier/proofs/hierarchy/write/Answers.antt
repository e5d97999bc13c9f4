use Rattle.domain_maps.proofs.Levels.{gives_back}
use Rattle.domain_hier.proofs.hierarchy.write.Goals as goal

pub returns-then-is_err-clause-err : goal.returns-then-is_err-clause-err
returns-then-is_err-clause-err c d k = gives_back c.args.maps.now c.args.path d k _ _ _ c.requires.room
    (c.in_ok-write.ensures.ok d k) (c.give_up.ensures.numbers d k)
