-- Which lines of a board take part, by the rows: exactly the lines that the layout maps.
use Rattle.std.proofs.Common.{◌≡◌, ℕ, zero, suc, ◌<◌, Bool, true, false, cond, Option, Some, None, List, [], ◌∷◌, map}
use Rattle.std.proofs.Common.{take, slice_get, refl, sym, ap, ◌∙◌, subst}
use Rattle.irq_base.specs.declared.lines.LineDef.{LineDef}
use Rattle.irq_base.specs.declared.numbers.LineNo.{LineNo}
use Rattle.irq_model.specs.Kinds.{same_line}
use Rattle.irq_laws.proofs.Chosen.{the_same}
use Rattle.domain_rules.specs.Layout.{is_mapped}
use Rattle.domain_rules.specs.declared.layouts.Placement.{Placement}
use Rattle.board_def.specs.Layout.{layout_of}
use Rattle.board_def.specs.LineOf.{line_of_row}
use Rattle.board_def.specs.Rules.{IsBoard}
use Rattle.board_def.specs.Seen.{BoardSeen}
use Rattle.board_def.specs.declared.rows.LineRow.{LineRow}
use Rattle.board_def.proofs.Rising.{Rises, rises_on, head_of, differ, differ_back}
use Rattle.board_play.specs.Lines.{BoardLine, mapped, defs_of, find_line}

abbrev pub is_mapped_at : Option Placement → Bool
is_mapped_at None = false
is_mapped_at (Some place) = is_mapped place

-- the definition stands somewhere among these
pub record Stands (defs : List LineDef) (d : LineDef) : Type 0 where
  pub place : ℕ
  pub at : slice_get defs place ≡ Some d

further : (e : LineDef) (defs : List LineDef) (d : LineDef) → Stands defs d → Stands (e ∷ defs) d
further e defs d s = record { place = suc s.place; at = s.at }

stands : (b : BoardSeen) (rows : List LineRow) (places : List Placement) (i : ℕ) (row : LineRow)
    → slice_get rows i ≡ Some row → is_mapped_at (slice_get places i) ≡ true
    → Stands (map (line_of_row b) (mapped rows places)) (line_of_row b row)
stands b [] places i row at is = cc
stands b (r ∷ rows) [] i row at is = cc
stands b (r ∷ rows) (p ∷ places) zero row at is =
    subst (λ (t : Bool). Stands (map (line_of_row b) (cond t (r ∷ mapped rows places) (mapped rows places))) (line_of_row b row)) (sym is)
    (record { place = zero; at = ap (λ (x : LineRow). Some (line_of_row b x)) (the_same r row at) })
stands b (r ∷ rows) (p ∷ places) (suc i) row at is = by_test (is_mapped p) (stands b rows places i row at is)
  where
    by_test : (t : Bool) → Stands (map (line_of_row b) (mapped rows places)) (line_of_row b row)
        → Stands (map (line_of_row b) (cond t (r ∷ mapped rows places) (mapped rows places))) (line_of_row b row)
    by_test true s = further (line_of_row b r) (map (line_of_row b) (mapped rows places)) (line_of_row b row) s
    by_test false s = s

-- the line of a row that the layout maps takes part
pub takes_part : (b : BoardSeen) (i : ℕ) (row : LineRow) → slice_get b.lines i ≡ Some row
    → is_mapped_at (slice_get (layout_of b) i) ≡ true → Stands (defs_of b) (line_of_row b row)
takes_part b i row at is = stands b b.lines (layout_of b) i row at is

-- ---- and no others

heads : (d e : LineDef) (ds es : List LineDef) → d ∷ ds ≡ e ∷ es → (d ≡ e) × (ds ≡ es)
heads d e ds es is = (cc, cc)

-- the first is of another number
find_later : (x : BoardLine) (xs : List BoardLine) (line : LineNo) → same_line line x.def.line ≡ false → find_line (x ∷ xs) line ≡ find_line xs line
find_later x xs line other = ap (λ (t : Bool). cond t (Some x) (find_line xs line)) other

none_above : (b : BoardSeen) (rows : List LineRow) (places : List Placement) (lines : List BoardLine) (line : LineNo)
    → map (λ (x : BoardLine). x.def) lines ≡ map (line_of_row b) (mapped rows places)
    → ((i : ℕ) (row : LineRow) → slice_get rows i ≡ Some row → line.0 < row.line.0) → find_line lines line ≡ None
none_above b rows places [] line are above = refl
none_above b [] places (x ∷ xs) line are above = cc
none_above b (r ∷ rows) [] (x ∷ xs) line are above = cc
none_above b (r ∷ rows) (p ∷ places) (x ∷ xs) line are above =
    by_test (is_mapped p) are (λ ys is. none_above b rows places ys line is (λ i row at. above (suc i) row at))
  where
    by_test : (t : Bool) → x.def ∷ map (λ (x : BoardLine). x.def) xs ≡ map (line_of_row b) (cond t (r ∷ mapped rows places) (mapped rows places))
        → ((ys : List BoardLine) → map (λ (x : BoardLine). x.def) ys ≡ map (line_of_row b) (mapped rows places)
        → find_line ys line ≡ None) → find_line (x ∷ xs) line ≡ None
    by_test true is deeper =
        let both = heads x.def (line_of_row b r) (map (λ (x : BoardLine). x.def) xs) (map (line_of_row b) (mapped rows places)) is in
        find_later x xs line (ap (λ (d : LineDef). same_line line d.line) both.0 ∙ differ line.0 r.line.0 (above zero r refl))
        ∙ deeper xs both.1
    by_test false is deeper = deeper (x ∷ xs) is

above_first : (r : LineRow) (rows : List LineRow) → Rises (λ (row : LineRow). row.line.0) (r ∷ rows)
    → (i : ℕ) (row : LineRow) → slice_get rows i ≡ Some row → r.line.0 < row.line.0
above_first r rows rises i row at = head_of (λ (x : LineRow). x.line.0 < row.line.0) r (take i rows) (rises (suc i) row at)

none : (b : BoardSeen) (rows : List LineRow) (places : List Placement) (lines : List BoardLine)
    → Rises (λ (row : LineRow). row.line.0) rows → map (λ (x : BoardLine). x.def) lines
    ≡ map (line_of_row b) (mapped rows places)
    → (i : ℕ) (row : LineRow) → slice_get rows i ≡ Some row → is_mapped_at (slice_get places i) ≡ false → find_line lines row.line ≡ None
none b [] places lines rises are i row at not = cc
none b (r ∷ rows) [] [] rises are i row at not = refl
none b (r ∷ rows) [] (x ∷ xs) rises are i row at not = cc
none b (r ∷ rows) (p ∷ places) lines rises are zero row at not =
    let here : r ≡ row = the_same r row at in
    subst (λ (x : LineRow). find_line lines x.line ≡ None) here
    (none_above b rows places lines r.line (are ∙ ap (λ (t : Bool). map (line_of_row b)
    (cond t (r ∷ mapped rows places) (mapped rows places))) not) (above_first r rows rises))
none b (r ∷ rows) (p ∷ places) [] rises are (suc i) row at not = refl
none b (r ∷ rows) (p ∷ places) (x ∷ xs) rises are (suc i) row at not =
    by_test (is_mapped p) are (λ ys is. none b rows places ys (rises_on (λ (row : LineRow). row.line.0) r rows rises) is i row at not)
  where
    by_test : (t : Bool) → x.def ∷ map (λ (x : BoardLine). x.def) xs ≡ map (line_of_row b) (cond t (r ∷ mapped rows places) (mapped rows places))
        → ((ys : List BoardLine) → map (λ (x : BoardLine). x.def) ys ≡ map (line_of_row b) (mapped rows places)
        → find_line ys row.line ≡ None) → find_line (x ∷ xs) row.line ≡ None
    by_test true is deeper =
        let both = heads x.def (line_of_row b r) (map (λ (x : BoardLine). x.def) xs) (map (line_of_row b) (mapped rows places)) is in
        find_later x xs row.line (ap (λ (d : LineDef). same_line row.line d.line) both.0 ∙ differ_back r.line.0 row.line.0 (above_first r rows rises i row at))
        ∙ deeper xs both.1
    by_test false is deeper = deeper (x ∷ xs) is

pub numbers_rise : (b : BoardSeen) → IsBoard b → Rises (λ (row : LineRow). row.line.0) b.lines
numbers_rise b board i row at = (board.lines i row at).rises

-- the line of a row that the layout doesn't map isn't among the lines that take part
pub takes_no_part : (b : BoardSeen) → IsBoard b → (lines : List BoardLine)
    → map (λ (x : BoardLine). x.def) lines ≡ defs_of b → (i : ℕ) (row : LineRow) → slice_get b.lines i ≡ Some row
    → is_mapped_at (slice_get (layout_of b) i) ≡ false
    → find_line lines row.line ≡ None
takes_no_part b board lines are i row at not = none b b.lines (layout_of b) lines (numbers_rise b board) are i row at not
