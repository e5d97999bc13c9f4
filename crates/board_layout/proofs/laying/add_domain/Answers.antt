use Rattle.std.proofs.Common.{◌≡◌, ◌++◌, ◌∷◌, [], Some, sym, subst, ap, ◌∙◌, List}
use Rattle.std.specs.List.{slice_get}
use Rattle.std.specs.Option.{option_map}
use Rattle.std.proofs.lemmas.Option.{slice_get-map}
use Rattle.irq_base.specs.declared.domains.DomainDef.{DomainDef}
use Rattle.board_def.specs.Unnamed.{def_of, defs_of}
use Rattle.board_def.proofs.Unnaming.{defs_allowed}
use Rattle.domain_hier.proofs.PathKinds.{take_next}
use Rattle.domain_hier.specs.Hierarchies.{HierarchySeen}
use Rattle.domain_rules.specs.Domains.{IsDomainAfter}
use Rattle.board_layout.proofs.laying.add_domain.Goals as goal

pub add_domain-requires : goal.add_domain-requires
add_domain-requires c =
    let rows = c.args.board.now.domains in
    let at : slice_get (defs_of rows) c.args.place ≡ Some c.in-Some.row.def = slice_get-map def_of rows c.args.place
    ∙ ap (option_map def_of) (sym c.in-Some.ensures) in
    subst (λ (ds : List DomainDef). IsDomainAfter ds c.in-Some.row.def) (sym c.requires.before)
    (defs_allowed rows c.is_board.ensures.board.domains c.args.place c.in-Some.row.def at)

pub returns-clause-domains : goal.returns-clause-domains
returns-clause-domains c =
    let rows = c.args.board.now.domains in
    let at : slice_get (defs_of rows) c.args.place ≡ Some c.in-Some.row.def = slice_get-map def_of rows c.args.place
    ∙ ap (option_map def_of) (sym c.in-Some.ensures) in
    ap (λ (h : HierarchySeen). h.domains) c.in_ok-add_domain.ensures.ok
    ∙ (ap (λ ds. ds ++ c.in-Some.row.def ∷ []) c.requires.before
    ∙ sym (take_next (defs_of rows) c.args.place c.in-Some.row.def at))
