use Rattle.std.proofs.Common.{length, ap, sym, ◌∙◌}
use Rattle.state_search.proofs.Walking.{paths_len}
use Rattle.state_search.proofs.searched.Searched.len.Goals as goal

pub returns : goal.returns
returns g c = c.len.ensures ∙ (sym (paths_len c.self.inside.states) ∙ ap (λ s. length s.paths) c.self.view_is)
