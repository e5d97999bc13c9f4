-- The levels of a board's paths, and their names.
use Rattle.std.proofs.Common.{◌≡◌, ℕ, zero, suc, ◌≤◌, ◌<◌, Bool, true, false, ◌&&◌, Option, Some, None, List, [], ◌∷◌}
use Rattle.std.proofs.Common.{◌++◌, length, slice_get, codes, decimal, sym, ap, subst, ◌∙◌, append_assoc, arith}
use Rattle.std.specs.List.{list_all}
use Rattle.std.proofs.lemmas.Bool.{ltb-true}
use Rattle.board_def.specs.Layout.{layout_of}
use Rattle.board_def.specs.Unnamed.{defs_of, leaf_of, leaves_of}
use Rattle.std.specs.Option.{option_map}
use Rattle.std.proofs.lemmas.Option.{slice_get-map}
use Rattle.domain_rules.proofs.Placed.{laid, laid_all, placed_path, path_short}
use Rattle.domain_rules.specs.Layout.{path_of}
use Rattle.std.proofs.lemmas.List.{length-map}
use Rattle.board_def.specs.Names.{is_letter, is_name, is_name_byte, name_bytes}
use Rattle.board_def.specs.Rules.{IsBoard}
use Rattle.board_def.specs.Seen.{BoardSeen}
use Rattle.domain_rules.specs.declared.layouts.Placement.{Placement}
use Rattle.domain_rules.specs.declared.layouts.Placement.TheVariants as placements
use Rattle.board_def.specs.declared.rows.DomainRow.{DomainRow}
use Rattle.board_def.specs.declared.rows.LineRow.{LineRow}
use Rattle.log_text.proofs.Spacing.{joined, spaced_two}
use Rattle.log_text.specs.LayoutRows.{IsShort, placement_words, text_of_both, layout_row_text}
use Rattle.log_text.specs.Spaced.{spaced}

right : (a b : Bool) → (a && b) ≡ true → b ≡ true
right true b h = h
right false b h = cc

short_name : (bytes : List ℕ) → is_name bytes ≡ true → length bytes ≤ 16
short_name [] h = omega arith
short_name (b ∷ bs) h =
    let few : length bs < 16 = ltb-true (length bs) 16 (right (list_all is_name_byte bs) _ (right (is_letter b) _ h)) in omega (arith, few)

-- a domain's name has at most sixteen bytes
pub name_short : (b : BoardSeen) (i : ℕ) (row : DomainRow) → IsBoard b → slice_get b.domains i ≡ Some row → length (name_bytes row.name) ≤ 16
name_short b i row board at = short_name (name_bytes row.name) (board.domains i row at).spelled

-- there is a place for each line
pub layout_length : (b : BoardSeen) (layout : List Placement) → layout ≡ layout_of b → length layout ≡ length b.lines
layout_length b layout is = ap length is ∙ (laid_all (defs_of b.domains) [] (leaves_of b.lines) ∙ length-map b.lines leaf_of)

-- a line's path has at most eight levels
placed_short : (b : BoardSeen) (i : ℕ) (row : LineRow) (placement : Placement) → IsBoard b
    → slice_get b.lines i ≡ Some row → slice_get (layout_of b) i ≡ Some placement → IsShort placement
placed_short b i row (placements.Mapped virq path) board at is =
    let defs = defs_of b.domains in
    let leaf : slice_get (leaves_of b.lines) i ≡ Some (leaf_of row)
    = slice_get-map leaf_of b.lines i ∙ ap (option_map leaf_of) at in
    let before = laid defs [] (leaves_of b.lines) i (leaf_of row) (placements.Mapped virq path) leaf is in
    let own : path_of defs before.0 (leaf_of row) ≡ path = placed_path defs before.0 (leaf_of row) virq path before.1 in
    subst (λ (path : List (ℕ × ℕ)). length path ≤ 8) own (path_short defs before.0 (leaf_of row))
placed_short b i row (placements.Refused why) board at is = tt

at_layout : (b : BoardSeen) (layout : List Placement) (i : ℕ) (placement : Placement) → layout ≡ layout_of b
    → slice_get layout i ≡ Some placement → slice_get (layout_of b) i ≡ Some placement
at_layout b layout i placement is at = sym (ap (λ (ps : List Placement). slice_get ps i) is) ∙ at

pub short_at : (b : BoardSeen) (layout : List Placement) (i : ℕ) (row : LineRow) (placement : Placement) → IsBoard b
    → layout ≡ layout_of b → slice_get b.lines i ≡ Some row → slice_get layout i ≡ Some placement
    → IsShort placement
short_at b layout i row placement board is at there = placed_short b i row placement board at (at_layout b layout i placement is there)

-- within a list there is an item
pub none_there : (layout : List Placement) (i : ℕ) → i < length layout → slice_get layout i ≡ None → ⊥
none_there [] i within none = omega (arith, within)
none_there (p ∷ ps) zero within none = cc
none_there (p ∷ ps) (suc i) within none = none_there ps i (omega (arith, within)) none

-- the row, piece by piece
pub row_is : (b : BoardSeen) (layout : List Placement) (i : ℕ) (row : LineRow) (placement : Placement)
    → layout ≡ layout_of b → slice_get b.lines i ≡ Some row → slice_get layout i ≡ Some placement
    → (((codes "#" ++ spaced (codes "irq" ∷ [])) ++ spaced (decimal row.line.0 ∷ []))
    ++ spaced (placement_words b.domains placement)) ++ codes "\n" ≡ layout_row_text b i
row_is b layout i row placement is at there =
    let words = placement_words b.domains placement in
    let start = codes "#" ++ spaced (codes "irq" ∷ []) in
    let number = spaced (decimal row.line.0 ∷ []) in
    let whole : (start ++ number) ++ spaced words ≡ codes "#" ++ spaced (codes "irq" ∷ decimal row.line.0 ∷ words) =
    append_assoc start number (spaced words) ∙ (append_assoc (codes "#") (spaced (codes "irq" ∷ []))
    (number ++ spaced words) ∙ ap (λ text. codes "#" ++ text) (spaced_two (codes "irq") (decimal row.line.0) words))
    in
    ap (λ text. text ++ codes "\n") (whole ∙ sym (joined (codes "#") (codes "irq" ∷ decimal row.line.0 ∷ words)))
    ∙ (ap (λ (p : Option Placement). text_of_both b.domains (Some row) p)
    (sym (at_layout b layout i placement is there))
    ∙ ap (λ (r : Option LineRow). text_of_both b.domains r (slice_get (layout_of b) i)) (sym at))
