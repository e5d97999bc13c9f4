use Rattle.line_orders.proofs.storms.step_within_bound.Goals as goal

pub unreachable-requires : goal.unreachable-requires
unreachable-requires g c =
    let full = rw c.in-Err-Full.field-0-is at c.in-Err-Full.ensures.answer in
    c.next_step_is_not_full.ensures.not_full c.requires.bounded c.requires.ample c.args.actor c.in-Err-Full.field-0-0 c.in-Err-Full.field-0-1 full.0
