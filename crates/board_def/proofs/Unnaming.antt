-- A board's domains without their names.
use Rattle.std.proofs.Common.{◌≡◌, ℕ, ◌<◌, Option, Some, None, IfSome, List, length, take, refl, sym, subst, ◌∙◌, arith}
use Rattle.std.specs.List.{slice_get}
use Rattle.std.specs.Option.{option_map}
use Rattle.std.proofs.lemmas.Option.{slice_get-map}
use Rattle.std.proofs.lemmas.List.{take-map, length-map}
use Rattle.irq_base.specs.declared.domains.DomainDef.{DomainDef}
use Rattle.domain_rules.specs.Domains.{EachAfter, IsDomainAfter}
use Rattle.board_def.specs.Rules.{IsDomainRowAfter}
use Rattle.board_def.specs.Unnamed.{def_of, defs_of}
use Rattle.board_def.specs.declared.rows.DomainRow.{DomainRow}

-- they keep the rules of domains
pub defs_allowed : (rows : List DomainRow) → EachAfter IsDomainRowAfter rows → EachAfter IsDomainAfter (defs_of rows)
defs_allowed rows each i def at =
    by (slice_get rows i) refl (sym (slice_get-map def_of rows i) ∙ at)
  where
    by : (r : Option DomainRow) → slice_get rows i ≡ r → option_map def_of r ≡ Some def → IsDomainAfter (take i (defs_of rows)) def
    by None there is = absurd cc
    by (Some row) there is =
        let same : def_of row ≡ def = cc in
        subst (λ (earlier : List DomainDef). IsDomainAfter earlier def) (sym (take-map def_of i rows))
        (subst (λ (d : DomainDef). IsDomainAfter (defs_of (take i rows)) d) same (each i row there).def)

-- a place among the rows is one among the domains
pub declared_def : (rows : List DomainRow) (up : Option ℕ) → IfSome up (λ p. p < length rows) → IfSome up (λ p. p < length (defs_of rows))
declared_def rows None h = tt
declared_def rows (Some p) h = omega (arith, h, length-map rows def_of)
