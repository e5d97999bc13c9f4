use Rattle.std.proofs.Common.{◌≡◌, length, ap, sym, ◌∙◌, arith}
use Rattle.std.proofs.lemmas.Bool.{ltb-true, lt-ltb}
use Rattle.state_search.proofs.Walking.{paths_len}
use Rattle.state_search.proofs.searched.Searched.is_open.Goals as goal

pub returns : goal.returns
returns g c =
    let i = c.looked.result in
    let n = c.len.result in
    let place : i ≡ c.args.self.now.looked = c.looked.ensures in
    let long : n ≡ length c.args.self.now.paths = c.len.ensures ∙ (sym (paths_len c.self.inside.states) ∙ ap (λ s. length s.paths) c.self.view_is) in
    (λ h. omega (arith, ltb-true i n h, place, long), λ h. lt-ltb i n (omega (arith, h, place, long)))
