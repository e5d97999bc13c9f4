-- What a search says of a row.
use Rattle.std.proofs.Common.{◌≡◌, ◌<◌, ℕ, List, ◌∷◌, length}
use Rattle.std.proofs.Common.{slice_index_or, refl, ap, sym, subst, arith}
use Rattle.std.proofs.lemmas.Option.{slice_get_within}
use Rattle.irq_base.specs.declared.entries.Entry.{Entry}
use Rattle.irq_base.specs.declared.lines.LineDef.{LineDef}
use Rattle.irq_model.specs.Legal.{IsLegalPast}
use Rattle.line_space.specs.Found.{IsShortest as IsShortestBefore}
use Rattle.line_wanted.specs.Wanted.{IsShortest}
use Rattle.line_wanted.specs.declared.wanted.Wanted.TheVariants as wants
use Rattle.state_search.specs.Seen.{SearchSeen}
use Rattle.state_search.specs.declared.firsts.First.{First}
use Rattle.line_survey.specs.Kept.{IsOfLine}

module _ (def : LineDef) (s : SearchSeen Entry) (line : IsOfLine def s) (e : Entry) where
  pub shortest_of : (past : List Entry) → IsShortestBefore def e past → IsShortest def (wants.Row e) (e ∷ past)
  shortest_of past is = record {
    meets = (is.legal, (past, refl));
    least = λ h meets.
        let legal : IsLegalPast def (e ∷ meets.1.0) = subst (λ (x : List Entry). IsLegalPast def x) meets.1.1 meets.0 in
        let least = is.least meets.1.0 legal in
        let longer : length h ≡ length (e ∷ meets.1.0) = ap length meets.1.1 in omega arith;
  }

-- the state of each entry that was met is there
pub first_there : (def : LineDef) (s : SearchSeen Entry) (line : IsOfLine def s) (fs : List (First Entry)) → fs ≡ s.firsts
    → (k : ℕ) (d : First Entry) → k < length fs → (slice_index_or fs k d).place < length s.paths
first_there def s line fs same k d =
    subst
    (λ (gs : List (First Entry)). k < length gs → (slice_index_or gs k d).place < length s.paths)
    (sym same)
    (λ lt. let x = line.firsts.each k d lt in slice_get_within s.paths (slice_index_or s.firsts k d).place x.0 x.1)
