-- A board has few lines.
use Rattle.std.proofs.Common.{◌≡◌, suc, ◌≤◌, Bool, true, false, cond, List, [], ◌∷◌, map, length, ap, arith}
use Rattle.std.proofs.Math.ListN.{length-map}
use Rattle.irq_base.specs.declared.lines.LineDef.{LineDef}
use Rattle.irq_line.specs.Seen.{LineSeen}
use Rattle.board_def.specs.Layout.{layout_of}
use Rattle.domain_rules.specs.Layout.{is_mapped}
use Rattle.board_def.specs.LineOf.{line_of_row}
use Rattle.board_def.specs.Rules.{IsBoard}
use Rattle.board_def.specs.Seen.{BoardSeen}
use Rattle.domain_rules.specs.declared.layouts.Placement.{Placement}
use Rattle.board_def.specs.declared.rows.LineRow.{LineRow}
use Rattle.board_play.specs.Lines.{BoardLine, mapped, defs_of}
use Rattle.board_core.specs.Seen.{board_line, board_lines}

fewer_mapped : (rows : List LineRow) (places : List Placement) → length (mapped rows places) ≤ length rows
fewer_mapped [] places = omega arith
fewer_mapped (row ∷ rows) [] = omega arith
fewer_mapped (row ∷ rows) (place ∷ places) = by_test (is_mapped place) (fewer_mapped rows places)
  where
    by_test : (b : Bool) → length (mapped rows places) ≤ length rows → length (cond b (row ∷ mapped rows places) (mapped rows places)) ≤ suc (length rows)
    by_test true le = omega (arith, le)
    by_test false le = omega (arith, le)

pub few_lines : (board : BoardSeen) → IsBoard board → (lines : List LineSeen)
    → map (λ (x : BoardLine). x.def) (board_lines lines) ≡ defs_of board → length lines ≤ 64
few_lines board isb lines is =
    let a = length-map lines board_line in
    let b = length-map (board_lines lines) (λ (x : BoardLine). x.def) in
    let c = length-map (mapped board.lines (layout_of board)) (line_of_row board) in
    let d = fewer_mapped board.lines (layout_of board) in
    let e = ap (λ (ds : List LineDef). length ds) is in
    let f = isb.few_lines in
    omega (arith, a, b, c, d, e, f)
