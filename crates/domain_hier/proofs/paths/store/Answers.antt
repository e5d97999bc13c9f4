use Rattle.std.proofs.Common.{sym, ◌∙◌, arith}
use Rattle.domain_hier.proofs.Slots.{place_at_end, place_within}
use Rattle.domain_hier.proofs.paths.store.Goals as goal

pub returns-then-free-len-clause-ok : goal.returns-then-free-len-clause-ok
returns-then-free-len-clause-ok c = place_within c.args.paths.now.items c.args.path c.args.free c.requires (omega (arith, c.if-free-len.true, c.len.ensures))

pub returns-in_ok-push-clause-ok : goal.returns-in_ok-push-clause-ok
returns-in_ok-push-clause-ok c = c.in_ok-push.ensures.items
    ∙ sym (place_at_end c.args.paths.now.items c.args.path
    (omega (arith, c.if-free-len.false, c.len.ensures, c.requires)))
