use Rattle.std.proofs.Common.{sym, subst}
use Rattle.line_makers.specs.Chips.{HasAllChips}
use Rattle.line_makers.proofs.Chained.{has_all_chips}
use Rattle.domain_hier.specs.Hierarchies.{HierarchySeen}
use Rattle.line_makers.proofs.making.OverDomains.of_board.Goals as goal

pub returns-clause-makes : goal.returns-clause-makes
returns-clause-makes g c =
    subst (λ (h : HierarchySeen). HasAllChips h c.args.board.now) (sym c.new.ensures)
    (has_all_chips c.args.domains.now c.args.board.now c.is_board.ensures.board c.requires.domains c.requires.paths)
