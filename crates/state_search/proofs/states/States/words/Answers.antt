use Rattle.std.proofs.Common.{Some, slice_get, ap, sym, ◌∙◌}
use Rattle.state_search.specs.Packed.{unpacked}
use Rattle.state_search.specs.Paths.{states_of}
use Rattle.state_search.proofs.Kept.{words_at}
use Rattle.state_search.proofs.states.States.words.Goals as goal

pub returns : goal.returns
returns g c =
    ap (λ t. slice_get (states_of t) c.args.place) (sym c.self.view_is)
    ∙ (words_at c.self.inside.rows.entries c.args.place c.in-Some.packed.now c.in-Some.field-0-1.now
    (sym c.in-Some.ensures.entry)
    ∙ ap Some (ap unpacked (sym c.as_slice.ensures.value) ∙ sym c.in_ok-unpack-in-Some.ensures))
