-- The lines of a board, made one after another.
use Rattle.std.proofs.Common.{◌≡◌, ℕ, zero, suc, ◌+◌, ◌<◌, ◌≤◌, Bool, true, false, cond, Option, Some, None, List, []}
use Rattle.std.proofs.Common.{◌∷◌, ◌++◌, map, length, take, slice_get, get_or, refl, sym, ap, ◌∙◌, subst, arith}
use Rattle.std.proofs.Common.{add-one, append-nil}
use Rattle.std.proofs.Math.ListN.{length-map}
use Rattle.std.proofs.lemmas.List.{map-append}
use Rattle.std.proofs.lemmas.Option.{slice_get_read}
use Rattle.irq_base.specs.declared.lines.LineDef.{LineDef}
use Rattle.irq_line.specs.Seen.{LineSeen}
use Rattle.irq_laws.proofs.Chosen.{the_same}
use Rattle.board_def.specs.Layout.{layout_of}
use Rattle.board_def.specs.LineOf.{line_of_row, line_defs_of}
use Rattle.board_def.specs.Seen.{BoardSeen}
use Rattle.board_def.specs.declared.rows.LineRow.{LineRow}
use Rattle.domain_rules.specs.Layout.{is_mapped}
use Rattle.domain_rules.specs.declared.layouts.Placement.{Placement}
use Rattle.domain_rules.specs.declared.layouts.Placement.TheVariants as placements
use Rattle.board_play.specs.Lines.{BoardLine, mapped, lines_at}
use Rattle.board_core.specs.Making.{MakesAll, IsNewLine, AreNew}
use Rattle.board_core.specs.Seen.{board_line, board_lines}
use Rattle.board_core.proofs.MadeOf.{all_taken, map_more}
use Rattle.board_core.proofs.InLists.{map_back}

-- the row, if its line takes part
abbrev row_if : LineRow → Option Placement → List LineRow
row_if row None = []
row_if row (Some p) = cond (is_mapped p) (row ∷ []) []

mapped_more : (rows : List LineRow) (places : List Placement) (i : ℕ) (row : LineRow) → slice_get rows i ≡ Some row
    → mapped (take (suc i) rows) places ≡ mapped (take i rows) places ++ row_if row (slice_get places i)
mapped_more [] places i row at = cc
mapped_more (r ∷ rs) [] zero row at = refl
mapped_more (r ∷ rs) [] (suc i) row at = refl
mapped_more (r ∷ rs) (p ∷ ps) zero row at = ap (λ (x : LineRow). cond (is_mapped p) (x ∷ []) []) (the_same r row at)
mapped_more (r ∷ rs) (p ∷ ps) (suc i) row at = by_test (is_mapped p) (mapped_more rs ps i row at)
  where
    by_test : (b : Bool) → mapped (take (suc i) rs) ps ≡ mapped (take i rs) ps ++ row_if row (slice_get ps i)
        → cond b (r ∷ mapped (take (suc i) rs) ps) (mapped (take (suc i) rs) ps)
        ≡ cond b (r ∷ mapped (take i rs) ps) (mapped (take i rs) ps) ++ row_if row (slice_get ps i)
    by_test true deeper = ap (λ (xs : List LineRow). r ∷ xs) deeper
    by_test false deeper = deeper

lines_append : (ds es : List LineDef) → lines_at (ds ++ es) [] ≡ lines_at ds [] ++ lines_at es []
lines_append [] es = refl
lines_append (d ∷ ds) es = ap (λ (xs : List BoardLine). record { def = d; past = [] } ∷ xs) (lines_append ds es)

-- the lines of the first i rows
abbrev pub first_lines : BoardSeen → ℕ → List BoardLine
first_lines board i = lines_at (map (line_of_row board) (mapped (take i board.lines) (layout_of board))) []

lines_more : (board : BoardSeen) (i : ℕ) (row : LineRow) → slice_get board.lines i ≡ Some row
    → first_lines board (i + 1) ≡ first_lines board i ++ lines_at
    (map (line_of_row board) (row_if row (slice_get (layout_of board) i))) []
lines_more board i row at =
    let f = line_of_row board in
    let before = mapped (take i board.lines) (layout_of board) in
    let last = row_if row (slice_get (layout_of board) i) in
    ap (λ (n : ℕ). first_lines board n) (add-one i)
    ∙ (ap (λ (rows : List LineRow). lines_at (map f rows) []) (mapped_more board.lines (layout_of board) i row at)
    ∙ (ap (λ (ds : List LineDef). lines_at ds []) (map-append f before last) ∙ lines_append (map f before) (map f last)))

-- one more row, whose line takes no part, or was made
pub line_passed : (board : BoardSeen) (i : ℕ) (def : LineDef) (made : Option LineSeen)
    → slice_get (line_defs_of board) i ≡ Some def → made ≡ None → IsNewLine def (slice_get (layout_of board) i) made
    → first_lines board (i + 1) ≡ first_lines board i
line_passed board i def made at none is =
    let row = map_back (line_of_row board) board.lines i def at in
    lines_more board i row.0 row.1 ∙ by_place row.0 (slice_get (layout_of board) i)
    (subst (λ (m : Option LineSeen). IsNewLine (line_of_row board row.0) (slice_get (layout_of board) i) m) none
    (subst (λ (d : LineDef). IsNewLine d (slice_get (layout_of board) i) made) (sym row.2) is))
  where
    by_place : (row : LineRow) (o : Option Placement) → IsNewLine (line_of_row board row) o None
        → first_lines board i ++ lines_at (map (line_of_row board) (row_if row o)) [] ≡ first_lines board i
    by_place row None is = append-nil (first_lines board i)
    by_place row (Some (placements.Mapped virq path)) is = absurd is
    by_place row (Some (placements.Refused why)) is = append-nil (first_lines board i)

pub line_pushed : {X : Type 0} (f : X → LineSeen) (xs new : List X) (y : X) (board : BoardSeen) (i : ℕ) (def : LineDef)
    (made : Option LineSeen) → slice_get (line_defs_of board) i ≡ Some def → made ≡ Some (f y)
    → IsNewLine def (slice_get (layout_of board) i) made
    → board_lines (map f xs) ≡ first_lines board i → new ≡ xs ++ y ∷ [] → board_lines (map f new) ≡ first_lines board (i + 1)
line_pushed f xs new y board i def made at some is old push =
    let row = map_back (line_of_row board) board.lines i def at in
    let its = subst (λ (m : Option LineSeen). IsNewLine (line_of_row board row.0) (slice_get (layout_of board) i) m)
    some (subst (λ (d : LineDef). IsNewLine d (slice_get (layout_of board) i) made) (sym row.2) is) in
    ap (λ (zs : List _). board_lines (map f zs)) push
    ∙ (ap (λ (zs : List LineSeen). board_lines zs) (map_more f xs y) ∙ (map_more board_line (map f xs) (f y)
    ∙ (ap (λ (ls : List BoardLine). ls ++ board_line (f y) ∷ []) old
    ∙ (by_place row.0 (slice_get (layout_of board) i) its ∙ sym (lines_more board i row.0 row.1)))))
  where
    by_place : (row : LineRow) (o : Option Placement) → IsNewLine (line_of_row board row) o (Some (f y))
        → first_lines board i ++ board_line (f y) ∷ []
        ≡ first_lines board i ++ lines_at (map (line_of_row board) (row_if row o)) []
    by_place row None is = cc
    by_place row (Some (placements.Mapped virq path)) is = ap (λ (x : BoardLine). first_lines board i ++ x ∷ []) is
    by_place row (Some (placements.Refused why)) is = cc

-- the definition at a place, and what the maker is to make it of
pub def_here : (board : BoardSeen) (defs : List LineDef) (i : ℕ) (def : LineDef) → defs ≡ line_defs_of board
    → i < length defs → def ≡ get_or defs i def → slice_get (line_defs_of board) i ≡ Some def
def_here board defs i def are within is = ap (λ (ds : List LineDef). slice_get ds i) (sym are) ∙ slice_get_read defs (length defs) i def refl within is

pub made_here : (makes : ℕ → LineDef → Type 0) (board : BoardSeen) (i : ℕ) (def : LineDef)
    → MakesAll makes board (layout_of board) → slice_get (line_defs_of board) i ≡ Some def → (o : Option Placement)
    → o ≡ slice_get (layout_of board) i
    → (virq : ℕ) (path : List (ℕ × ℕ)) → o ≡ Some (placements.Mapped virq path) → makes virq def
made_here makes board i def all at o is virq path mapped =
    let row = map_back (line_of_row board) board.lines i def at in
    subst (λ (d : LineDef). makes virq d) row.2 (all i virq path row.0 row.1 (sym is ∙ mapped))

-- all rows
pub all_lines : (board : BoardSeen) (i : ℕ) (lines : List LineSeen) → length (line_defs_of board) ≤ i
    → board_lines lines ≡ first_lines board i → AreNew board lines
all_lines board i lines end is = is ∙ ap (λ (rows : List LineRow). lines_at
    (map (line_of_row board) (mapped rows (layout_of board))) [])
    (all_taken board.lines i (let n = length-map board.lines (line_of_row board) in omega (arith, end, n)))
