-- The lines that are surveyed, one more after another.
use Rattle.std.proofs.Common.{◌≡◌, ℕ, zero, suc, ◌+◌, ◌<◌, Bool, true, false, ◌&&◌, cond, Option, Some, None, List, [], ◌∷◌, ◌++◌}
use Rattle.std.proofs.Common.{All, map, length, take, slice_get, refl, sym, ap, ◌∙◌, subst, add-one, append-nil, arith}
use Rattle.std.specs.List.{AllZip, filter}
use Rattle.std.proofs.lemmas.List.{map-append, length-map, take_all}
use Rattle.std.proofs.lemmas.List.Elements.{All-push, filter-append}
use Rattle.std.proofs.lemmas.Option.{same_Some}
use Rattle.irq_base.specs.declared.lines.LineDef.{LineDef}
use Rattle.irq_base.specs.declared.numbers.LineNo.{LineNo}
use Rattle.board_def.specs.Layout.{layout_of}
use Rattle.board_def.specs.LineOf.{line_of_row, line_defs_of}
use Rattle.board_def.specs.Seen.{BoardSeen}
use Rattle.board_def.specs.declared.rows.LineRow.{LineRow}
use Rattle.domain_rules.specs.Layout.{is_mapped}
use Rattle.domain_rules.specs.declared.layouts.Placement.{Placement}
use Rattle.board_play.specs.Lines.{mapped}
use Rattle.irq_explore.specs.Surveyed.{AreSurveys, HasRows, IsSurveyOf, is_asked}
use Rattle.irq_explore.specs.Surveying.{AddsSurvey, is_surveyed}
use Rattle.irq_explore.specs.declared.surveying.LineSurvey.{LineSurvey}

-- the row, if its line takes part
abbrev row_if : LineRow → Option Placement → List LineRow
row_if row None = []
row_if row (Some p) = cond (is_mapped p) (row ∷ []) []

mapped_more : (rows : List LineRow) (places : List Placement) (i : ℕ) (row : LineRow) → slice_get rows i ≡ Some row
    → mapped (take (suc i) rows) places ≡ mapped (take i rows) places ++ row_if row (slice_get places i)
mapped_more [] places i row at = cc
mapped_more (r ∷ rs) [] zero row at = refl
mapped_more (r ∷ rs) [] (suc i) row at = refl
mapped_more (r ∷ rs) (p ∷ ps) zero row at = ap (λ (x : LineRow). cond (is_mapped p) (x ∷ []) []) (same_Some r row at)
mapped_more (r ∷ rs) (p ∷ ps) (suc i) row at = by_test (is_mapped p) (mapped_more rs ps i row at)
  where
    by_test : (b : Bool) → mapped (take (suc i) rs) ps ≡ mapped (take i rs) ps ++ row_if row (slice_get ps i)
        → cond b (r ∷ mapped (take (suc i) rs) ps) (mapped (take (suc i) rs) ps)
        ≡ cond b (r ∷ mapped (take i rs) ps) (mapped (take i rs) ps) ++ row_if row (slice_get ps i)
    by_test true deeper = ap (λ (xs : List LineRow). r ∷ xs) deeper
    by_test false deeper = deeper

-- the item of a mapped list comes of an item
map_back : {A B : Type 0} (f : A → B) (xs : List A) (k : ℕ) (y : B) → slice_get (map f xs) k ≡ Some y → (x : A) × (slice_get xs k ≡ Some x) × (f x ≡ y)
map_back f [] k y at = cc
map_back f (x ∷ xs) zero y at = (x, refl, same_Some (f x) y at)
map_back f (x ∷ xs) (suc k) y at = map_back f xs k y at

-- the definitions of the first i lines, as far as they take part and are asked for
abbrev pub asked_to : BoardSeen → Option LineNo → ℕ → List LineDef
asked_to b asked i = filter (is_asked asked) (map (line_of_row b) (mapped (take i b.lines) (layout_of b)))

module _ (b : BoardSeen) (asked : Option LineNo) (i : ℕ) where
  last_of : (row : LineRow) (placement : Option Placement)
      → filter (is_asked asked) (map (line_of_row b) (row_if row placement))
      ≡ cond (is_surveyed asked (line_of_row b row) placement) (line_of_row b row ∷ []) []
  last_of row None = refl
  last_of row (Some p) = by_map (is_mapped p)
    where
      by_map : (m : Bool) → filter (is_asked asked) (map (line_of_row b) (cond m (row ∷ []) []))
          ≡ cond (m && is_asked asked (line_of_row b row)) (line_of_row b row ∷ []) []
      by_map true = refl
      by_map false = refl

  more_of_row : (row : LineRow) → slice_get b.lines i ≡ Some row
      → asked_to b asked (i + 1) ≡ asked_to b asked i
      ++ cond (is_surveyed asked (line_of_row b row) (slice_get (layout_of b) i)) (line_of_row b row ∷ []) []
  more_of_row row at =
      let f = line_of_row b in
      let before = mapped (take i b.lines) (layout_of b) in
      let last = row_if row (slice_get (layout_of b) i) in
      ap (λ (n : ℕ). asked_to b asked n) (add-one i)
      ∙ (ap (λ (rows : List LineRow). filter (is_asked asked) (map f rows)) (mapped_more b.lines (layout_of b) i row at)
      ∙ (ap (λ (ds : List LineDef). filter (is_asked asked) ds) (map-append f before last)
      ∙ (filter-append (is_asked asked) (map f before) (map f last)
      ∙ ap (λ (ds : List LineDef). asked_to b asked i ++ ds) (last_of row (slice_get (layout_of b) i)))))

  more : (def : LineDef) → slice_get (line_defs_of b) i ≡ Some def
      → asked_to b asked (i + 1) ≡ asked_to b asked i ++ cond (is_surveyed asked def (slice_get (layout_of b) i)) (def ∷ []) []
  more def at =
      let row = map_back (line_of_row b) b.lines i def at in
      subst (λ (d : LineDef). asked_to b asked (i + 1) ≡ asked_to b asked i ++ cond (is_surveyed asked d (slice_get (layout_of b) i)) (d ∷ []) [])
      row.2 (more_of_row row.0 row.1)

  by_test : (t : Bool) (def : LineDef) → slice_get (line_defs_of b) i ≡ Some def → is_surveyed asked def (slice_get (layout_of b) i) ≡ t
      → asked_to b asked (i + 1) ≡ asked_to b asked i ++ cond t (def ∷ []) []
  by_test t def at is = more def at ∙ ap (λ (x : Bool). asked_to b asked i ++ cond x (def ∷ []) []) is

  -- one more line, which isn't surveyed, or is
  pub passed : (most : ℕ) (surveys : List LineSurvey) (def : LineDef) → slice_get (line_defs_of b) i ≡ Some def
      → is_surveyed asked def (slice_get (layout_of b) i) ≡ false → AllZip (IsSurveyOf most) (asked_to b asked i) surveys
      → AllZip (IsSurveyOf most) (asked_to b asked (i + 1)) surveys
  passed most surveys def at is so_far =
      subst (λ (ds : List LineDef). AllZip (IsSurveyOf most) ds surveys) (sym (by_test false def at is ∙ append-nil (asked_to b asked i))) so_far

  pub added : (most : ℕ) (surveys : List LineSurvey) (def : LineDef) (survey : LineSurvey) → slice_get (line_defs_of b) i ≡ Some def
      → is_surveyed asked def (slice_get (layout_of b) i) ≡ true → AllZip (IsSurveyOf most) (asked_to b asked i) surveys
      → IsSurveyOf most def survey → AllZip (IsSurveyOf most) (asked_to b asked (i + 1)) (surveys ++ survey ∷ [])
  added most surveys def survey at is so_far one =
      subst (λ (ds : List LineDef). AllZip (IsSurveyOf most) ds (surveys ++ survey ∷ [])) (sym (by_test true def at is))
      (zip_push most (asked_to b asked i) surveys def survey so_far one)
    where
      zip_push : (most : ℕ) (xs : List LineDef) (ys : List LineSurvey) (x : LineDef) (y : LineSurvey) → AllZip (IsSurveyOf most) xs ys
          → IsSurveyOf most x y → AllZip (IsSurveyOf most) (xs ++ x ∷ []) (ys ++ y ∷ [])
      zip_push most [] [] x y h r = (r, tt)
      zip_push most [] (b ∷ ys) x y h r = absurd h
      zip_push most (a ∷ xs) [] x y h r = absurd h
      zip_push most (a ∷ xs) (b ∷ ys) x y h r = (h.0, zip_push most xs ys x y h.1 r)

  adds : (t : Bool) (most : ℕ) (old new : List LineSurvey) (def : LineDef) → slice_get (line_defs_of b) i ≡ Some def
      → is_surveyed asked def (slice_get (layout_of b) i) ≡ t → AddsSurvey most def t old new → AllZip (IsSurveyOf most) (asked_to b asked i) old
      → AllZip (IsSurveyOf most) (asked_to b asked (i + 1)) new
  adds false most old new def at is same so_far =
      subst (λ (ss : List LineSurvey). AllZip (IsSurveyOf most) (asked_to b asked (i + 1)) ss) (sym same) (passed most old def at is so_far)
  adds true most old new def at is one so_far =
      subst (λ (ss : List LineSurvey). AllZip (IsSurveyOf most) (asked_to b asked (i + 1)) ss) (sym one.1)
      (added most old def one.0 at is so_far one.2)

  -- the line at this place, with its placement
  pub next : (most : ℕ) (old new : List LineSurvey) (def : LineDef) (placement : Option Placement) → slice_get (line_defs_of b) i ≡ Some def
      → placement ≡ slice_get (layout_of b) i → AddsSurvey most def (is_surveyed asked def placement) old new
      → AllZip (IsSurveyOf most) (asked_to b asked i) old → AllZip (IsSurveyOf most) (asked_to b asked (i + 1)) new
  next most old new def placement at placed one so_far =
      adds (is_surveyed asked def placement) most old new def at (ap (is_surveyed asked def) (sym placed)) one so_far

-- all rows can be printed still
pub rows_next : (t : Bool) (most : ℕ) (old new : List LineSurvey) (def : LineDef) → AddsSurvey most def t old new → All HasRows old → All HasRows new
rows_next false most old new def same rows = subst (All HasRows) (sym same) rows
rows_next true most old new def one rows = subst (All HasRows) (sym one.1) (All-push HasRows old one.0 rows one.3)

-- all lines
pub all_taken : (b : BoardSeen) (asked : Option LineNo) (most i : ℕ) (defs : List LineDef) (surveys : List LineSurvey) → defs ≡ line_defs_of b
    → (i < length defs → ⊥) → AllZip (IsSurveyOf most) (asked_to b asked i) surveys → AreSurveys b most asked surveys
all_taken b asked most i defs surveys are past so_far =
    let many : length defs ≡ length b.lines = ap length are ∙ length-map b.lines (line_of_row b) in
    subst (λ (rows : List LineRow). AllZip (IsSurveyOf most) (filter (is_asked asked) (map (line_of_row b) (mapped rows (layout_of b)))) surveys)
    (take_all i b.lines (omega (arith, past, many))) so_far

-- a survey is added
pub one_more : (most : ℕ) (def : LineDef) (old new : List LineSurvey) (survey : LineSurvey) (t : Bool) → t ≡ true → new ≡ old ++ survey ∷ []
    → IsSurveyOf most def survey → HasRows survey → AddsSurvey most def t old new
one_more most def old new survey true is same of rows = (survey, same, of, rows)
one_more most def old new survey false is same of rows = cc
