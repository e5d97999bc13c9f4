use Rattle.std.proofs.Common.{◌<◌, ◌-◌, Some, length, take, drop, refl, slice_get, ap, sym, ◌∙◌, arith}
use Rattle.std.proofs.lemmas.Option.{slice_get_read}
use Rattle.state_search.proofs.Finding.{found_at, found_long}
use Rattle.state_search.proofs.found.Found.get.Goals as goal

pub returns : goal.returns
returns g c =
    let r = c.index-row.result.now in
    let rows = c.self.inside.rows.items in
    let ws = c.self.inside.words.items in
    let h : c.args.place < length rows = omega (arith, found_long rows ws, ap length c.self.view_is, c.requires) in
    ap (λ t. slice_get t c.args.place) (sym c.self.view_is)
    ∙ (found_at rows ws c.args.place r (slice_get_read rows (length rows) c.args.place r refl h c.index-row.ensures)
    ∙ ap (λ w. Some (r.label, take (r.to - r.from) (drop r.from w))) (sym c.deref.ensures.value))
