use Rattle.std.proofs.Common.{◌≡◌, ◌<◌, Some, length, sym, ap, ◌∙◌, slice_get}
use Rattle.std.proofs.lemmas.Bool.{ltb-true}
use Rattle.std.proofs.lemmas.Option.{slice_get-get_or}
use Rattle.irq_base.proofs.SameEntries.{found_same}
use Rattle.explore_picks.proofs.playing.is_at.Goals as goal

pub returns-in-Some : goal.returns-in-Some
returns-in-Some c =
    let lt : c.args.place < length c.args.wanted.now = ltb-true c.args.place (length c.args.wanted.now) (sym c.in-Some.ensures.lookup.0) in
    let there : slice_get c.args.wanted.now c.args.place ≡ Some c.in-Some.next.now =
    slice_get-get_or c.args.wanted.now c.args.place _ lt ∙ ap Some (sym c.in-Some.ensures.lookup.1) in
    let same = found_same (Some c.in-Some.next.now) c.args.entry c.eq.result c.eq.ensures in
    (λ is. there ∙ same.0 is, λ at. same.1 (sym there ∙ at))
