use Rattle.std.proofs.Common.{◌-◌, length, sym, ◌∙◌, arith}
use Rattle.domain_rules.specs.Levels.{root_kind}
use Rattle.domain_chain.proofs.PathKinds.{has_level, root_is_last, root_is_root, root_after, by_messages, by_its_root}
use Rattle.domain_chain.proofs.PathKinds.{edges_of, open_behind, message_chain, root_chain}
use Rattle.domain_chain.proofs.chain.Chain.new.Goals as goal

pub root_of-root-requires : goal.root_of-root-requires
root_of-root-requires c =
    let kinds = c.args.kinds.now in
    rw (root_is_last kinds (length kinds - 1) c.requires.path (omega (arith, has_level kinds c.requires.path))) (root_is_root kinds c.requires.path)

pub made-requires-clause-open : goal.made-requires-clause-open
made-requires-clause-open c =
    let kinds = c.args.kinds.now in
    let m = by_messages kinds c.requires.path c.requires.masks (sym c.masks_by_message.ensures ∙ c.if-masks_by_message.true) in
    open_behind (root_kind kinds) _ _ (root_after kinds _ c.requires.path c.root_of-root.ensures.cell)
    c.opened.ensures.cell (edges_of kinds c.requires.edges m.1)

pub returns-then-masks_by_message : goal.returns-then-masks_by_message
returns-then-masks_by_message c =
    let kinds = c.args.kinds.now in
    let m = by_messages kinds c.requires.path c.requires.masks (sym c.masks_by_message.ensures ∙ c.if-masks_by_message.true) in
    c.made.ensures ∙ message_chain kinds _ _ _ c.args.number c.new.ensures
    (root_after kinds _ c.requires.path c.root_of-root.ensures.cell) c.opened.ensures.cell m.0 m.1
    (edges_of kinds c.requires.edges m.1)

pub returns : goal.returns
returns c =
    let kinds = c.args.kinds.now in
    let m = by_its_root kinds c.requires.path c.requires.masks (sym c.masks_by_message.ensures ∙ c.if-masks_by_message.false) in
    c.made-2.ensures ∙ root_chain kinds _ c.args.number (root_after kinds _ c.requires.path c.root_of-root.ensures.cell) m.0 m.1
