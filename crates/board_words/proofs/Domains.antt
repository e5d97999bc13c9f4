-- What a domain statement says, by what stands before and after the way of its map.
use Rattle.std.proofs.Common.{◌≡◌, ℕ, Bool, true, false, cond, List, [], ◌∷◌, drop, get_or, codes, refl}
use Rattle.board_words.specs.Forms.{is}
use Rattle.board_words.specs.Places.{map_kind, after_map}
use Rattle.board_words.specs.Statements.{name_at, number_at, controller_kind, parent_name, has_more_parents, domain_words}
use Rattle.board_words.specs.declared.statements.DomainWords.{DomainWords}
use Rattle.irq_base.specs.declared.domains.MapKind.TheVariants as maps
use Rattle.board_def.specs.declared.names.Name.{Name}

abbrev pub domain_by : List (List ℕ) → DomainWords
domain_by words =
    let rest = after_map (drop 1 words) in
    record {
      name = name_at 0 words;
      map = map_kind (drop 1 words);
      kind = controller_kind (get_or rest 0 []);
      parent = parent_name (drop 1 rest);
      twice = has_more_parents (drop 1 rest);
    }

abbrev said_at : Name → List (List ℕ) → Bool → DomainWords
said_at name words linear =
    let rest = cond linear (drop 2 words) (drop 1 words) in
    record {
      name = name;
      map = cond linear (maps.Linear (number_at 1 words)) maps.Tree;
      kind = controller_kind (get_or rest 0 []);
      parent = parent_name (drop 1 rest);
      twice = has_more_parents (drop 1 rest);
    }

by_map : (t : Bool) (name : Name) (words : List (List ℕ)) → cond t (said_at name words true) (said_at name words false) ≡ said_at name words t
by_map true name words = refl
by_map false name words = refl

pub domain_is : (words : List (List ℕ)) → domain_words words ≡ domain_by words
domain_is [] = refl
domain_is (word ∷ words) = by_map (is (get_or words 0 []) (codes "linear")) (name_at 0 (word ∷ words)) words
