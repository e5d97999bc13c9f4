use Rattle.std.proofs.Common.{◌≡◌, take, ◌&&◌, List, ap, ◌∙◌}
use Rattle.irq_base.specs.declared.domains.ControllerKind.{ControllerKind}
use Rattle.domain_chain.specs.Chains.{is_path_of_kinds, has_messages}
use Rattle.domain_rules.specs.Levels.{root_kind, presents_level_kind}
use Rattle.domain_rules.specs.Paths.{kinds_on}
use Rattle.domain_hier.proofs.PathKinds.{IsPathOfKinds, path_of_kinds}
use Rattle.domain_hier.proofs.levels.chain_on.Goals as goal

kinds_are : (c : goal.After-root_number) → take c.len.result c.kinds_of-kinds.result ≡ kinds_on c.args.domains.now c.args.path.now
kinds_are c = ap (λ n. take n c.kinds_of-kinds.result) c.len.ensures ∙ c.kinds_of-kinds.ensures

are_kinds : (c : goal.After-root_number) → IsPathOfKinds (kinds_on c.args.domains.now c.args.path.now)
are_kinds c = path_of_kinds c.args.domains.now c.args.path.now c.requires.each
    (record { there = c.requires.placed.there; way = c.requires.placed.way; masks = c.requires.placed.masks })

pub new-requires-clause-path : goal.new-requires-clause-path
new-requires-clause-path c = ap is_path_of_kinds (kinds_are c) ∙ (are_kinds c).path

pub new-requires-clause-edges : goal.new-requires-clause-edges
new-requires-clause-edges c = ap (λ (ks : List ControllerKind). has_messages ks && presents_level_kind (root_kind ks)) (kinds_are c) ∙ (are_kinds c).edges
