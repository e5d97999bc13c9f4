-- What is declared, and where it is found.
use Rattle.std.proofs.Common.{◌≡◌, ℕ, suc, ◌-◌, ◌+◌, ◌<◌, ◌==◌, Bool, true, false, cond, ◌||◌, not, nat_lt, Some, None}
use Rattle.std.proofs.Common.{List, [], ◌∷◌, length, is_some, refl, ◌∙◌, arith}
use Rattle.std.specs.List.{slice_get, position_or_len}
use Rattle.std.proofs.lemmas.Bool.Decides.{nat_tests}
use Rattle.std.proofs.lemmas.List.Quantifiers.{position-Some}
use Rattle.irq_base.specs.declared.numbers.LineNo.{LineNo}
use Rattle.board_def.specs.Find.{place_of_name, last_from, last_item}
use Rattle.board_def.specs.LineOf.{find_line}
use Rattle.board_def.specs.Rules.{has_line, has_name, is_domain_named}
use Rattle.board_def.specs.declared.names.Name.{Name}
use Rattle.board_def.specs.declared.rows.DomainRow.{DomainRow}
use Rattle.board_def.specs.declared.rows.LineRow.{LineRow}

-- a line is declared exactly if it is found
pub has_line_found : (lines : List LineRow) (line : LineNo) → has_line lines line ≡ is_some (find_line lines line)
has_line_found [] line = refl
has_line_found (x ∷ xs) line = by (x.line.0 == line.0) (has_line_found xs line)
  where
    by : (b : Bool) → has_line xs line ≡ is_some (find_line xs line) → (b || has_line xs line) ≡ is_some (cond b (Some x) (find_line xs line))
    by true rest = refl
    by false rest = rest

-- a name is a domain's exactly if a domain of it has a place
pub has_name_place : (domains : List DomainRow) (name : Name) → has_name domains name ≡ is_some (place_of_name domains name)
has_name_place domains name = walk domains ∙ shown (nat_lt (position_or_len (is_domain_named name) domains)
    (length domains)) (position_or_len (is_domain_named name) domains)
  where
    shown : (b : Bool) (n : ℕ) → b ≡ is_some (cond b (Some n) None)
    shown true n = refl
    shown false n = refl

    one : (b h : Bool) (n m : ℕ) → h ≡ nat_lt n m → (b || h) ≡ nat_lt (cond (not b) (1 + n) 0) (suc m)
    one true h n m rest = grind (arith, nat_tests)
    one false h n m rest = grind (arith, nat_tests)

    walk : (rows : List DomainRow) → has_name rows name ≡ nat_lt (position_or_len (is_domain_named name) rows) (length rows)
    walk [] = refl
    walk (x ∷ xs) = one (is_domain_named name x) (has_name xs name) (position_or_len (is_domain_named name) xs) (length xs) (walk xs)

-- the place of a name is a domain's
pub place_within : (domains : List DomainRow) (name : Name) (place : ℕ) → place_of_name domains name ≡ Some place → place < length domains
place_within [] name place at = absurd cc
place_within (x ∷ xs) name place at = (position-Some (is_domain_named name) (x ∷ xs) place x at).0

-- the last item stands at the last place
pub last_at : {A : Type 0} (xs : List A) → slice_get xs (length xs - 1) ≡ last_item xs
last_at [] = refl
last_at (x ∷ xs) = let front : suc (length xs) - 1 ≡ length xs = omega arith in rw front (from x xs)
  where
    from : {A : Type 0} (x : A) (xs : List A) → slice_get (x ∷ xs) (length xs) ≡ Some (last_from x xs)
    from x [] = refl
    from x (y ∷ ys) = from y ys
