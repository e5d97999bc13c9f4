-- What a search for something wanted says of it.
use Rattle.std.proofs.Common.{◌≡◌, ◌≤◌, ◌<◌, ◌-◌, ◌⊎◌, inl, inr, ℕ, zero, suc, Option, None, Some, List, [], ◌∷◌, length}
use Rattle.std.proofs.Common.{◌++◌, IfSome, reverse, slice_get, refl, ap, sym, subst, ◌∙◌, arith}
use Rattle.std.specs.Option.{option_map}
use Rattle.std.proofs.lemmas.Bool.{cases_lt}
use Rattle.std.proofs.lemmas.List.{reverse-append}
use Rattle.std.proofs.lemmas.Option.{slice_get_within}
use Rattle.irq_base.specs.declared.entries.Entry.{Entry}
use Rattle.irq_base.specs.declared.lines.LineDef.{LineDef}
use Rattle.irq_model.specs.Legal.{IsDue, IsLegalPast}
use Rattle.line_survey.specs.Kept.{IsValidLine}
use Rattle.line_space.proofs.SearchLaws.{path_is_legal, legal_is_path}
use Rattle.line_wanted.specs.Wanted.{Meets, IsShortest, IsNever, IsNotWithin}
use Rattle.line_wanted.specs.declared.left.Left.{Left}
use Rattle.line_wanted.specs.declared.wanted.Wanted.{Wanted}
use Rattle.line_wanted.specs.declared.wanted.Wanted.TheVariants as wants
use Rattle.line_words.specs.Node.{node}
use Rattle.state_search.proofs.Places.{all_at, one_at, same_some}
use Rattle.state_search.proofs.Rooted.{if_some_from}
use Rattle.state_search.specs.Paths.{IsPath, IsBelow, IsNearest, LeavesOut, NoneWanted, Searches}
use Rattle.state_search.specs.Seen.{SearchSeen, cut_of}
use Rattle.line_survey.proofs.Lists.{no_items}
use Rattle.line_survey.proofs.Rests.{settled_none}
use Rattle.line_survey.specs.Answers.{IsAnswer, IsMetBy, known_within}
use Rattle.line_survey.specs.Searched.{IsSearchOf}
use Rattle.line_survey.specs.Seen.{LineSearchSeen}
use Rattle.line_survey.specs.Wanting.{unmet_answer, whole_past}
use Rattle.line_survey.specs.declared.answer.Answer.TheVariants as answers

module _ (def : LineDef) where
  -- a history as wanted comes of a past by which it is met, and the other way round
  record MetBy (w : Wanted) (h : List Entry) : Type 0 where
    past : List Entry
    legal : IsLegalPast def past
    met : IsMetBy def w past
    whole : h ≡ whole_past w past

  met_by : (w : Wanted) (h : List Entry) → Meets def w h → MetBy w h
  met_by (wants.Row e) h m =
      let legal = subst (λ (x : List Entry). IsLegalPast def x) m.1.1 m.0 in
      record { past = m.1.0; legal = legal.1; met = legal.0; whole = m.1.1 }
  met_by (wants.Rest left) h m = record { past = h; legal = m.0; met = m.1; whole = refl }

  meets : (w : Wanted) (p : List Entry) → IsLegalPast def p → IsMetBy def w p → Meets def w (whole_past w p)
  meets (wants.Row e) p legal met = ((met, legal), (p, refl))
  meets (wants.Rest left) p legal met = (legal, met)

  longer : (w : Wanted) (p q : List Entry) → length p ≤ length q → length (whole_past w p) ≤ length (whole_past w q)
  longer (wants.Row e) p q le = omega (arith, le)
  longer (wants.Rest left) p q le = le

  module _ (w : Wanted) (s : SearchSeen Entry) (searches : Searches (IsDue def) (node def) s.paths s.looked (cut_of s)) where
    legal_at : (k : ℕ) (p : List Entry) → slice_get s.paths k ≡ Some p → IsLegalPast def p
    legal_at k p at = path_is_legal def p (all_at (IsPath (IsDue def)) s.paths k p searches.paths_are at)

    pub shortest_found : (n : IsNearest (IsDue def) (IsMetBy def w) s.paths s.looked) → IsShortest def w (whole_past w n.path)
    shortest_found n = record {
      meets = meets w n.path (legal_at s.looked n.path n.there) n.is_wanted;
      least = λ h m.
          let x = met_by w h m in
          subst (λ (t : List Entry). length (whole_past w n.path) ≤ length t) (sym x.whole)
          (longer w n.path x.past (n.least x.past (legal_is_path def x.past x.legal) x.met));
    }

    module _ (none : NoneWanted (IsDue def) (IsMetBy def w) s.paths s.looked (cut_of s)) where
      pub is_never : cut_of s ≡ None → IsNever def w
      is_never whole h m =
          let x = met_by w h m in
          let B : Option ℕ → Type 0 = λ o. IsBelow o (length x.past) in
          none.below x.past (legal_is_path def x.past x.legal) (subst B (sym whole) tt) x.met

      -- none is met below the cut
      module _ (asked : IsValidLine def) (d : ℕ) (cut : cut_of s ≡ Some d) (left_out : LeavesOut (IsDue def) (node def) s.paths s.looked) where
        far : (p : List Entry) → IsLegalPast def p → IsMetBy def w p → d ≤ length p
        far p legal met = by (cases_lt (length p) d)
          where
            by : (length p < d) ⊎ (d ≤ length p) → d ≤ length p
            by (inl less) =
                let B : Option ℕ → Type 0 = λ o. IsBelow o (length p) in
                absurd (none.below p (legal_is_path def p legal) (subst B (sym cut) less) met)
            by (inr more) = more

        -- the state at the cut goes on
        not_first : (left : Left) → (p : List Entry) → length p ≡ 0 → d ≡ 0 → IsMetBy def (wants.Rest left) p → ⊥
        not_first left p none zero' met = by_next (slice_get s.paths s.looked) refl cut
          where
            by_next : (o : Option (List Entry)) → slice_get s.paths s.looked ≡ o → option_map length o ≡ Some d → ⊥
            by_next None at is = let never : ⊥ = cc in never
            by_next (Some q) at is =
                let same : length q ≡ d = same_some (length q) d is in
                let empty : q ≡ [] = no_items q (omega (arith, same, zero')) in
                let here : p ≡ [] = no_items p none in
                let on = left_out q at in
                settled_none def asked p met.still on.0 (subst (IsDue def on.0) (empty ∙ sym here) on.1)

        within : (v : Wanted) (p : List Entry) → d ≤ length p
            → (length p ≡ 0 → d ≡ 0 → (left : Left) → v ≡ wants.Rest left → ⊥)
            → known_within v d < length (whole_past v p)
        within (wants.Row e) p le apart = omega (arith, le)
        within (wants.Rest left) p le apart = by d (length p) refl refl
          where
            by : (n m : ℕ) → n ≡ d → m ≡ length p → d - 1 < length p
            by zero zero here there = absurd (apart (sym there) (sym here) left refl)
            by zero (suc m) here there = omega (arith, here, there)
            by (suc n) m here there = omega (arith, here, le)

        pub is_not_within : IsNotWithin def w (known_within w d)
        is_not_within h m =
            let x = met_by w h m in
            subst (λ (t : List Entry). known_within w d < length t) (sym x.whole)
            (within w x.past (far x.past x.legal x.met) (λ none zero' left is.
            not_first left x.past none zero' (subst (λ (v : Wanted). IsMetBy def v x.past) is x.met)))

        pub not_within_said : (most : ℕ) → length s.paths ≤ most → length s.paths ≡ most → IsAnswer most def w (answers.NotWithin (known_within w d))
        not_within_said most within all =
            let search : LineSearchSeen = record { def = def; searched = s } in
            let of : IsSearchOf most def search = record {
              of = refl;
              searches = searches;
              within = within;
              cut = if_some_from (λ d. length s.paths ≡ most) (cut_of s) (λ d is. all);
              left_out = left_out;
            } in
            (is_not_within, search, of, none.passed, sym (ap (option_map (known_within w)) cut))

      -- what is said where it isn't met
      pub unmet_said : (most : ℕ) → IsValidLine def → length s.paths ≤ most → LeavesOut (IsDue def) (node def) s.paths s.looked
          → IfSome (cut_of s) (λ d. length s.paths ≡ most) → (cut : Option ℕ) → cut_of s ≡ cut → IsAnswer most def w (unmet_answer w cut)
      unmet_said most asked few left_out all None is = is_never is
      unmet_said most asked few left_out all (Some d) is =
          not_within_said asked d is left_out most few (subst (λ (o : Option ℕ). IfSome o (λ d. length s.paths ≡ most)) is all)

    -- the cut is small
    pub cut_few : (most : ℕ) → most ≤ 100000000 → length s.paths ≤ most → IfSome (cut_of s) (λ d. d ≤ 100000000)
    cut_few most few within = by (slice_get s.paths s.looked) refl
      where
        by : (o : Option (List Entry)) → slice_get s.paths s.looked ≡ o → IfSome (option_map length o) (λ d. d ≤ 100000000)
        by None at = tt
        by (Some q) at =
            let short : length q ≤ s.looked = searches.short s.looked q at in
            let lt : s.looked < length s.paths = slice_get_within s.paths s.looked q at in
            omega (arith, short, lt, within, few)

-- the entries of the history
pub rest_whole : (w : Wanted) (left : Left) → w ≡ wants.Rest left → (paths : List (List Entry)) (k : ℕ) (es : List Entry)
    → slice_get paths k ≡ Some (reverse es) → (p : List Entry) → slice_get paths k ≡ Some p → reverse es ≡ whole_past w p
rest_whole w left is paths k es path p at =
    subst (λ (v : Wanted). reverse es ≡ whole_past v p) (sym is) (one_at paths k (reverse es) p path at)

pub row_whole : (w : Wanted) (e : Entry) → w ≡ wants.Row e → (paths : List (List Entry)) (k : ℕ) (es new : List Entry)
    → slice_get paths k ≡ Some (reverse es) → new ≡ es ++ e ∷ [] → (p : List Entry) → slice_get paths k ≡ Some p → reverse new ≡ whole_past w p
row_whole w e is paths k es new path pushed p at =
    let whole : reverse new ≡ e ∷ p =
    ap (λ (x : List Entry). reverse x) pushed ∙ (reverse-append es (e ∷ []) ∙ ap (λ (x : List Entry). e ∷ x) (one_at paths k (reverse es) p path at)) in
    subst (λ (v : Wanted). reverse new ≡ whole_past v p) (sym is) whole
