-- One more domain meets its rule after those before it.
use Rattle.std.proofs.Common.{◌≡◌, ℕ, ◌<◌, true, false, ◌||◌, refl, IfSome, Option, Some, None, List, [], ◌∷◌, length, arith}
use Rattle.std.proofs.lemmas.Bool.{or_parts}
use Rattle.board_def.specs.Find.{place_of_name}
use Rattle.board_def.specs.Rules.{has_name, IsDomainRowAfter}
use Rattle.board_def.specs.Seen.{BoardSeen}
use Rattle.board_def.specs.declared.names.Name.{Name}
use Rattle.board_def.specs.declared.rows.DomainRow.{DomainRow}
use Rattle.board_def.proofs.Finds.{place_within}
use Rattle.board_def.proofs.Unnaming.{declared_def}
use Rattle.board_words.specs.declared.statements.DomainWords.{DomainWords}
use Rattle.board_words.specs.declared.statements.Statement.TheVariants as statements
use Rattle.board_stated.specs.FaultsAfter.{has_bad_parent}
use Rattle.board_stated.specs.Sound.{IsWellFormed}
use Rattle.board_stated.specs.Stated.{place_or_first, parent_place, domain_row}

-- ---- the place of a name is one of the list

some_within : (rows : List DomainRow) (name : Name) (o : Option ℕ) → place_of_name rows name ≡ o → IfSome o (λ p. p < length rows)
some_within rows name (Some p) at = place_within rows name p at
some_within rows name None at = tt

pub name_place : (rows : List DomainRow) (name : Name) → IfSome (place_of_name rows name) (λ p. p < length rows)
name_place rows name = some_within rows name (place_of_name rows name) refl

place_in : (o : Option ℕ) (n : ℕ) → 0 < n → IfSome o (λ p. p < n) → place_or_first o < n
place_in (Some p) n some h = h
place_in None n some h = some

pub named_place : (rows : List DomainRow) (name : Name) → has_name rows name ≡ true → place_or_first (place_of_name rows name) < length rows
named_place [] name h = absurd cc
named_place (row ∷ rows) name h = place_in (place_of_name (row ∷ rows) name) (length (row ∷ rows)) (omega arith) (name_place (row ∷ rows) name)

parent_declared : (rows : List DomainRow) (parent : Option Name) → IfSome (parent_place rows parent) (λ p. p < length rows)
parent_declared rows (Some name) = name_place rows name
parent_declared rows None = tt

-- ---- one more

pub domain_after : (b : BoardSeen) (d : DomainWords) → IsWellFormed (statements.Domain d) → (has_name b.domains d.name || d.twice) ≡ false
    → has_bad_parent b (statements.Domain d) ≡ false → IsDomainRowAfter b.domains (domain_row b.domains d)
domain_after b d fits once parent = record {
  spelled = fits.0;
  new = (or_parts (has_name b.domains d.name) d.twice once).0;
  def = record { size = fits.1; declared = declared_def b.domains (parent_place b.domains d.parent) (parent_declared b.domains d.parent); parent = parent };
}
