use Rattle.std.proofs.Common.{◌≡◌, Some, [], ◌∷◌, ◌++◌, ap, ◌∙◌}
use Rattle.domain_hier.specs.Hierarchies.{HierarchySeen}
use Rattle.domain_hier.specs.PathsInUse.{in_use, placed}
use Rattle.domain_rules.specs.Layout.{path_of}
use Rattle.board_tests.specs.declared.lines.TheConstants.{VECTOR, NEAR}
use Rattle.board_tests.proofs.lines.near_vectors.Goals as goal

two_lines : (h a b d e : HierarchySeen) → h ≡ record { domains = []; paths = [] }
    → a ≡ record h { domains = h.domains ++ VECTOR ∷ [] } → b ≡ record a { domains = a.domains ++ NEAR ∷ [] }
    → d ≡ record b { paths = placed b.paths (path_of b.domains (in_use b.paths) (1, 39)) }
    → e ≡ record d { paths = placed d.paths (path_of d.domains (in_use d.paths) (1, 40)) }
    → e ≡ record { domains = VECTOR ∷ NEAR ∷ []; paths = Some ((1, 39) ∷ (0, 0) ∷ []) ∷ Some ((1, 40) ∷ (0, 1) ∷ []) ∷ [] }
two_lines h a b d e none root leaf first second =
    let domains : b ≡ record { domains = VECTOR ∷ NEAR ∷ []; paths = [] } =
    leaf ∙ ap (λ (x : HierarchySeen). record x { domains = x.domains ++ NEAR ∷ [] })
    (root ∙ ap (λ (x : HierarchySeen). record x { domains = x.domains ++ VECTOR ∷ [] }) none) in
    let one : d ≡ record { domains = VECTOR ∷ NEAR ∷ []; paths = Some ((1, 39) ∷ (0, 0) ∷ []) ∷ [] } =
    first ∙ ap (λ (x : HierarchySeen). record x { paths = placed x.paths (path_of x.domains (in_use x.paths) (1, 39)) }) domains in
    second ∙ ap (λ (x : HierarchySeen). record x { paths = placed x.paths (path_of x.domains (in_use x.paths) (1, 40)) }) one

pub returns : goal.returns
returns c =
    two_lines c.new-domains.result c.add_domain.new.self c.add_domain-2.new.self c.alloc.new.self c.alloc-2.new.self
    c.new-domains.ensures c.in_ok-add_domain.ensures.ok c.in_ok-add_domain-2.ensures.ok
    c.in-Ok.ensures.after c.in-Ok-alloc.ensures.after
