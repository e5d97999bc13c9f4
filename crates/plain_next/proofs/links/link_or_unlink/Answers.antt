use Rattle.std.proofs.Common.{◌∷◌, ◌++◌, [], sym, ap, ◌∙◌}
use Rattle.plain_next.proofs.Linked.{without, linked_request, linked_unlink}
use Rattle.plain_next.proofs.links.link_or_unlink.Goals as goal

pub returns-in_ok-put_last : goal.returns-in_ok-put_last
returns-in_ok-put_last c = λ past h.
    let dev = c.in-Some.dev in
    c.in_ok-put_last.ensures ∙ (ap (λ ds. without dev ds ++ dev ∷ []) h
    ∙ sym (linked_request c.args.entry dev past (sym c.in-Some.is ∙ c.dev_linked.ensures)))

pub returns-in-Some-dev_unlinked : goal.returns-in-Some-dev_unlinked
returns-in-Some-dev_unlinked c = λ past h.
    let dev = c.in-Some-dev_unlinked.dev in
    c.take_out.ensures ∙ (ap (without dev) h ∙ sym (linked_unlink c.args.entry dev past (sym c.in-Some-dev_unlinked.is ∙ c.dev_unlinked.ensures)))
