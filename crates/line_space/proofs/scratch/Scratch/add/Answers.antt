use Rattle.std.proofs.Common.{◌≡◌, ◌++◌, [], ◌∷◌, List, ℕ, ap, ◌∙◌}
use Rattle.line_futures.specs.Canon.{canon}
use Rattle.line_words.proofs.Whole.{if_ok}
use Rattle.line_words.specs.Told.{places_told, state_told}
use Rattle.line_space.proofs.scratch.Scratch.add.Goals as goal

pub returns-clause-found : goal.returns-clause-found
returns-clause-found c =
    let told = state_told c.args.more c.args.def.now (canon c.args.self.now.state.state) (places_told c.args.self.now.scripts c.args.drivers.now) in
    let words : c.as_slice.result.now ≡ told
    = c.as_slice.ensures.value ∙ (c.in_ok-write.ensures ∙ ap (λ (k : List ℕ). k ++ told) c.clear.ensures.items) in
    if_ok c.push.result (λ pushed. pushed ∙ ap (λ (w : List ℕ). c.args.found.now ++ (c.args.entry, w) ∷ []) words) c.push.ensures.added
