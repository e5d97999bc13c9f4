-- The judges of new lines.
use Rattle.std.proofs.Common.{◌≡◌, ◌⊎◌, inl, inr, ℕ, zero, suc, ◌+◌, ◌<◌, ◌≤◌, Option, Some, None, List, [], ◌∷◌, ◌++◌}
use Rattle.std.proofs.Common.{get_or, length, refl, sym, ap, subst, ◌∙◌, arith, length-append}
use Rattle.std.specs.List.{slice_get}
use Rattle.std.specs.Option.{option_map}
use Rattle.std.specs.Prelude.{slice_set}
use Rattle.std.proofs.lemmas.List.{length-map}
use Rattle.std.proofs.lemmas.Option.{same_Some, slice_get-map}
use Rattle.board_def.specs.Layout.{layout_of}
use Rattle.board_def.specs.LineOf.{line_defs_of, line_of_row}
use Rattle.board_def.specs.Seen.{BoardSeen}
use Rattle.board_def.specs.declared.rows.LineRow.{LineRow}
use Rattle.domain_rules.specs.declared.layouts.Placement.{Placement}
use Rattle.domain_rules.specs.declared.layouts.Placement.TheVariants as placements
use Rattle.irq_base.specs.declared.lines.LineDef.{LineDef}
use Rattle.irq_laws.specs.LogLimit.{with_log}
use Rattle.irq_line.specs.Seen.{LineSeen}
use Rattle.log_check.specs.JudgeSeen.{JudgeSeen}
use Rattle.log_check.specs.Judging.{HaveJudged, IsMade, MakesEach, MakesFor, Stands, most, part_at, part_of}
use Rattle.log_check.proofs.Lines.{get_set_other, get_there, there}

pub new_stands : (b : BoardSeen) (row : LineRow) (placement : Option Placement) (line : Option LineSeen)
    → IsMade (line_of_row b row) placement line → Stands (part_of b row placement) line None []
new_stands b row (Some (placements.Mapped virq path)) (Some line) made = (tt, made.0, made.1)
new_stands b row (Some (placements.Mapped virq path)) None made = absurd made
new_stands b row (Some (placements.Refused why)) (Some line) made = cc
new_stands b row (Some (placements.Refused why)) None made = refl
new_stands b row None (Some line) made = cc
new_stands b row None None made = refl

-- the first n judges are made
pub record AreMade (b : BoardSeen) (n : ℕ) (judges : List JudgeSeen) : Type 0 where
  pub many : length judges ≡ n
  pub each : (i : ℕ) (row : LineRow) (judge : JudgeSeen) → slice_get b.lines i ≡ Some row
      → slice_get judges i ≡ Some judge → Stands (part_at b row i) judge.line judge.first []

get_push : {X : Type 0} (xs : List X) (y z : X) (i : ℕ) → slice_get (xs ++ y ∷ []) i ≡ Some z → (slice_get xs i ≡ Some z) ⊎ ((i ≡ length xs) × (y ≡ z))
get_push [] y z zero at = inr (refl, same_Some y z at)
get_push [] y z (suc i) at = cc
get_push (x ∷ xs) y z zero at = inl at
get_push (x ∷ xs) y z (suc i) at = by (get_push xs y z i at)
  where
    by : (slice_get xs i ≡ Some z) ⊎ ((i ≡ length xs) × (y ≡ z)) → (slice_get xs i ≡ Some z) ⊎ ((suc i ≡ suc (length xs)) × (y ≡ z))
    by (inl h) = inl h
    by (inr (h, k)) = inr (ap suc h, k)

one_made_more : (b : BoardSeen) (n : ℕ) (old : List JudgeSeen) (judge : JudgeSeen) (row : LineRow) → AreMade b n old → slice_get b.lines n ≡ Some row
    → Stands (part_at b row n) judge.line judge.first [] → AreMade b (n + 1) (old ++ judge ∷ [])
one_made_more b n old judge row made atl own = record {
  many = length-append old (judge ∷ [])
      ∙ ap (λ m. m + 1) made.many;
  each = λ i r j at atj. by i r j at (get_push old judge j i atj);
}
  where
    by : (i : ℕ) (r : LineRow) (j : JudgeSeen) → slice_get b.lines i ≡ Some r
        → (slice_get old i ≡ Some j) ⊎ ((i ≡ length old) × (judge ≡ j)) → Stands (part_at b r i) j.line j.first []
    by i r j at (inl before) = made.each i r j at before
    by i r j at (inr (last, same)) =
        let here : i ≡ n = last ∙ made.many in
        let same_row : row ≡ r = same_Some row r (sym atl ∙ (ap (λ (k : ℕ). slice_get b.lines k) (sym here) ∙ at)) in
        subst (λ (k : ℕ). Stands (part_at b r k) j.line j.first []) (sym here)
        (subst (λ (x : LineRow). Stands (part_at b x n) j.line j.first []) same_row
        (subst (λ (x : JudgeSeen). Stands (part_at b row n) x.line x.first []) same own))

-- the definition that a line is made of

module _ (b : BoardSeen) (defs : List LineDef) (i : ℕ) (d : LineDef) (within : i < length defs)
    (many : length defs ≡ length (line_defs_of b)) (left : slice_get defs i ≡ slice_get (line_defs_of b) i)
    (value : d ≡ get_or defs i d) where
  pub row_of : (row : LineRow) × (slice_get b.lines i ≡ Some row) × (d ≡ line_of_row b row)
  row_of =
      let as_many : length (line_defs_of b) ≡ length b.lines = length-map b.lines (line_of_row b) in
      let row = get_there b.lines i (omega (arith, within, many, as_many)) in
      let own : slice_get defs i ≡ Some d = there defs i d within ∙ ap (λ (x : LineDef). Some x) (sym value) in
      let other : slice_get (line_defs_of b) i ≡ Some (line_of_row b row.0) = slice_get-map (line_of_row b) b.lines i ∙ ap (option_map (line_of_row b)) row.1 in
      (row.0, row.1, same_Some d (line_of_row b row.0) (sym own ∙ (left ∙ other)))

  makes_by : (makes : ℕ → LineDef → Type 0) (placement : Option Placement) → MakesEach makes b
      → placement ≡ slice_get (layout_of b) i → MakesFor makes d placement
  makes_by makes (Some (placements.Mapped virq path)) each placed
      = subst (λ (x : LineDef). makes virq (with_log x most)) (sym row_of.2)
      (each i virq path row_of.0 row_of.1 (sym placed))
  makes_by makes (Some (placements.Refused why)) each placed = tt
  makes_by makes None each placed = tt

  pub makes_for : (makes : ℕ → LineDef → Type 0) (placement : Option Placement) (layout : List Placement)
      → MakesEach makes b → layout ≡ layout_of b → placement ≡ slice_get layout i → MakesFor makes d placement
  makes_for makes placement layout each laid placed = makes_by makes placement each (placed ∙ ap (λ (ps : List Placement). slice_get ps i) laid)

  pub one_made : (old new : List JudgeSeen) (judge : JudgeSeen) (line : Option LineSeen) (placement : Option Placement)
      (layout : List Placement) → AreMade b i old → new ≡ old ++ judge ∷ [] → IsMade d placement line
      → judge.line ≡ line → judge.first ≡ None → layout ≡ layout_of b → placement ≡ slice_get layout i → AreMade b (i + 1) new
  one_made old new judge line placement layout made is own same first laid placed =
      let here : placement ≡ slice_get (layout_of b) i = placed ∙ ap (λ (ps : List Placement). slice_get ps i) laid in
      let now : IsMade (line_of_row b row_of.0) (slice_get (layout_of b) i) line =
      subst (λ (p : Option Placement). IsMade (line_of_row b row_of.0) p line) here (subst (λ (x : LineDef). IsMade x placement line) row_of.2 own) in
      let stands : Stands (part_at b row_of.0 i) line None [] = new_stands b row_of.0 (slice_get (layout_of b) i) line now in
      let of_judge : Stands (part_at b row_of.0 i) judge.line judge.first [] =
      subst (λ (x : Option LineSeen). Stands (part_at b row_of.0 i) x judge.first []) (sym same)
      (subst (λ (f : Option ℕ). Stands (part_at b row_of.0 i) line f []) (sym first) stands) in
      subst (λ (js : List JudgeSeen). AreMade b (i + 1) js) (sym is) (one_made_more b i old judge row_of.0 made row_of.1 of_judge)

pub left_after : (b : BoardSeen) (defs : List LineDef) (i : ℕ) (d : LineDef)
    → ((j : ℕ) → i ≤ j → slice_get defs j ≡ slice_get (line_defs_of b) j) → (j : ℕ) → i + 1 ≤ j
    → slice_get (slice_set defs i d) j ≡ slice_get (line_defs_of b) j
left_after b defs i d left j above = get_set_other defs i j d (λ same. omega (arith, same, above)) ∙ left j (omega (arith, above))

pub all_made : (b : BoardSeen) (n : ℕ) (judges : List JudgeSeen) → AreMade b n judges → n ≡ length (line_defs_of b) → HaveJudged b [] judges
all_made b n judges made is = record { many = made.many ∙ (is ∙ length-map b.lines (line_of_row b)); each = made.each }
