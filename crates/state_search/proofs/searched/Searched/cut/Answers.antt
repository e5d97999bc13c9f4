use Rattle.std.proofs.Common.{◌<◌, true≢false, length, refl, subst, sym, ◌∙◌}
use Rattle.state_search.proofs.Walking.{cut_none}
use Rattle.state_search.proofs.searched.Searched.cut.Goals as goal

pub depth-requires : goal.depth-requires
depth-requires g c = subst (λ n. n < length c.args.self.now.paths) (sym c.looked.ensures) (c.if-is_open.ensures.0 refl)

pub returns-else-is_open : goal.returns-else-is_open
returns-else-is_open g c = sym (cut_none c.args.self.now (λ lt. true≢false (sym (c.is_open.ensures.1 lt) ∙ c.if-is_open.false)))
