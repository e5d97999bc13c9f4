use Rattle.std.proofs.Common.{◌++◌, [], List, ℕ, ap, ◌∙◌}
use Rattle.irq_base.specs.declared.lines.LineDef.{LineDef}
use Rattle.line_futures.specs.Canon.{canon}
use Rattle.line_words.proofs.Whole.{if_ok}
use Rattle.line_words.specs.Node.{node}
use Rattle.line_words.specs.Told.{places_told, state_told}
use Rattle.line_space.proofs.Firsts.{first_words}
use Rattle.line_space.proofs.space.LineSpaceSpaceEntry.first.Goals as goal

pub returns-clause-first : goal.returns-clause-first
returns-clause-first c =
    let def = c.self.inside.def in
    let told = state_told c.self.inside.more def (canon c.in_ok-state.state.state) (places_told c.in_ok-scripts.scripts c.as_slice-drivers.result.now) in
    if_ok c.write.result (λ written. written ∙ (ap (λ (k : List ℕ). k ++ told) c.requires
    ∙ (first_words def c.self.invariant.valid c.self.invariant.valid_runs c.in_ok-state.state
    c.in_ok-scripts.scripts c.self.inside.more c.as_slice-drivers.result.now c.in_ok-state.ensures.first
    c.in_ok-state.ensures.runs
    c.in_ok-scripts.ensures.scripts c.in_ok-scripts.ensures.places c.in_ok-scripts.ensures.withins c.self.invariant.more
    (c.as_slice-drivers.ensures.value ∙ c.self.invariant.drivers)
    ∙ ap (λ (d : LineDef). node d []) c.self.view_is)))
    c.write.ensures
