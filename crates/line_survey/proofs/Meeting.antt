-- Which states are wanted, by what is found after them.
use Rattle.std.proofs.Common.{◌≡◌, ◌<◌, ◌≤◌, ℕ, true, false, Contains, List, ◌∷◌, map, length}
use Rattle.std.proofs.Common.{slice_get, Some, sym, ap, subst, ◌∙◌, arith}
use Rattle.std.proofs.Common.{true≢false}
use Rattle.std.proofs.lemmas.List.{length-map}
use Rattle.std.proofs.lemmas.Option.{slice_get_within}
use Rattle.irq_base.proofs.SameEntries.{same_entries}
use Rattle.irq_base.specs.contracts.entries.EntryEq.TheImpl.Laws as entry_laws
use Rattle.irq_base.specs.declared.entries.Entry.{Entry}
use Rattle.irq_model.specs.Legal.{IsDue, IsLegalPast}
use Rattle.line_space.proofs.SearchLaws.{path_is_legal}
use Rattle.line_wanted.specs.Left.{Leaves}
use Rattle.line_wanted.specs.contracts.left.LeftEq.TheImpl.Laws as left_laws
use Rattle.line_wanted.specs.contracts.left.LeftPartialEq.TheImpl as left_eq
use Rattle.line_wanted.specs.declared.left.Left.{Left}
use Rattle.line_wanted.specs.declared.wanted.Wanted.{Wanted}
use Rattle.line_wanted.specs.declared.wanted.Wanted.TheVariants as wants
use Rattle.line_words.specs.Node.{node}
use Rattle.state_search.proofs.Places.{all_at, one_at, contains_at, contains_from, map_at, map_from, there}
use Rattle.state_search.specs.Paths.{IsPath, AreSteps}
use Rattle.line_survey.proofs.OneLeft.{one_left}
use Rattle.line_survey.proofs.Rests.{settled_none, none_settled}
use Rattle.line_survey.specs.Kept.{same_entry, IsValidLine}
use Rattle.line_survey.specs.Rests.{IsStill}
use Rattle.line_survey.specs.Answers.{IsMetBy}
use Rattle.line_survey.specs.Wanting.{WantedSeen}

-- ---- what was found has the entry

abbrev pub labels_of : List (Entry × List ℕ) → List Entry
labels_of found = map (λ f. f.0) found

module _ (found : List (Entry × List ℕ)) (e : Entry) where
  -- the label at the place isn't the entry
  abbrev pub IsOther : ℕ → Type 0
  IsOther k = (f : Entry × List ℕ) → slice_get found k ≡ Some f → f.0 ≡ e → ⊥

  pub is_there : (k : ℕ) (x : Entry) (ws : List ℕ) → slice_get found k ≡ Some (x, ws) → same_entry x e ≡ true → Contains (labels_of found) e
  is_there k x ws at same =
      contains_from (labels_of found) k e (map_at (λ (f : Entry × List ℕ). f.0) found k (x, ws) at ∙ ap Some (same_entries x e same))

  pub is_other : (k : ℕ) (x : Entry) (ws : List ℕ) → slice_get found k ≡ Some (x, ws) → same_entry x e ≡ false → IsOther k
  is_other k x ws at differ f is same =
      let one : x ≡ f.0 = ap (λ (f : Entry × List ℕ). f.0) (one_at found k (x, ws) f at is) in
      true≢false (sym (subst (λ (y : Entry). same_entry x y ≡ true) (one ∙ same) (entry_laws.laws-law.refl x)) ∙ differ)

  pub all_other : (n : ℕ) → ((k : ℕ) → k < n → IsOther k) → length found ≤ n → Contains (labels_of found) e → ⊥
  all_other n others all has =
      let at = contains_at (labels_of found) e has in
      let f = map_from (λ (f : Entry × List ℕ). f.0) found at.0 e at.1 in
      let lt : at.0 < length found = slice_get_within found at.0 f.0 f.1 in
      others at.0 (omega (arith, lt, all)) f.0 f.1 f.2

-- ways that `==` tells apart are not the same
pub other_left : (p q : Left) → (left_eq.eq-value).it p q ≡ false → p ≡ q → ⊥
other_left p q differ same =
    true≢false (sym (subst (λ (x : Left). (left_eq.eq-value).it p x ≡ true) same (left_laws.laws-law.refl p)) ∙ differ)

-- ---- a state with these numbers, after which this was found

module _ (s : WantedSeen) (words : List ℕ) (found : List (Entry × List ℕ))
    (steps : (g : List Entry) → IsPath (IsDue s.def) g → node s.def g ≡ words → AreSteps (IsDue s.def) (node s.def) g found) where
  abbrev IsDueIn : List Entry → (Entry × List ℕ) → Type 0
  IsDueIn g f = IsDue s.def f.0 g × (node s.def (f.0 ∷ g) ≡ f.1)

  pub row_met : (e : Entry) → s.wanted ≡ wants.Row e → Contains (labels_of found) e → (g : List Entry) → IsPath (IsDue s.def) g → node s.def g ≡ words
      → IsMetBy s.def s.wanted g
  row_met e is has g path same =
      let at = contains_at (labels_of found) e has in
      let f = map_from (λ (f : Entry × List ℕ). f.0) found at.0 e at.1 in
      let due = all_at (IsDueIn g) found at.0 f.0 (steps g path same).each f.1 in
      subst (λ (w : Wanted). IsMetBy s.def w g) (sym is) (subst (λ (x : Entry). IsDue s.def x g) f.2 due.0)

  pub row_unmet : (e : Entry) → s.wanted ≡ wants.Row e → (Contains (labels_of found) e → ⊥) → (g : List Entry) → IsPath (IsDue s.def) g → node s.def g ≡ words
      → IsMetBy s.def s.wanted g → ⊥
  row_unmet e is lacks g path same met = lacks ((steps g path same).all e (subst (λ (w : Wanted). IsMetBy s.def w g) is met))

  module _ (asked : IsValidLine s.def) (left : Left) (is : s.wanted ≡ wants.Rest left) where
    leaves : (g : List Entry) → IsMetBy s.def s.wanted g → Leaves s.def left g
    leaves g met = subst (λ (w : Wanted). IsMetBy s.def w g) is met

    -- something is due
    pub moves_on : 0 < length found → (g : List Entry) → IsPath (IsDue s.def) g → node s.def g ≡ words → IsMetBy s.def s.wanted g → ⊥
    moves_on some g path same met =
        let f = there found 0 some in
        settled_none s.def asked g (leaves g met).still f.0.0 (all_at (IsDueIn g) found 0 f.0 (steps g path same).each f.1).0

    -- nothing is due, and this is how the line is left
    module _ (none : length found ≡ 0) (told : Left)
        (tells : (past : List Entry) → IsLegalPast s.def past → words ≡ node s.def past → IsStill s.def past → Leaves s.def told past) where
      still : (g : List Entry) → IsPath (IsDue s.def) g → node s.def g ≡ words → IsStill s.def g
      still g path same = none_settled s.def asked g (λ e due. no_entry e ((steps g path same).all e due))
        where
          no_entry : (e : Entry) → Contains (labels_of found) e → ⊥
          no_entry e has = absurd (omega (arith, has.1, length-map found (λ (f : Entry × List ℕ). f.0), none))

      said : (g : List Entry) → IsPath (IsDue s.def) g → node s.def g ≡ words → Leaves s.def told g
      said g path same = tells g (path_is_legal s.def g path) (sym same) (still g path same)

      pub rest_met : told ≡ left → (g : List Entry) → IsPath (IsDue s.def) g → node s.def g ≡ words → IsMetBy s.def s.wanted g
      rest_met so g path same =
          let l : Leaves s.def left g = subst (λ (x : Left). Leaves s.def x g) so (said g path same) in
          subst (λ (w : Wanted). IsMetBy s.def w g) (sym is) l

      pub rest_unmet : (told ≡ left → ⊥) → (g : List Entry) → IsPath (IsDue s.def) g → node s.def g ≡ words → IsMetBy s.def s.wanted g → ⊥
      rest_unmet other g path same met = other (one_left s.def g told left (said g path same) (leaves g met))
