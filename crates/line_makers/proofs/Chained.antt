-- A hierarchy that is laid for a board has chips for each of its lines that takes part.
use Rattle.std.proofs.Common.{◌≡◌, ℕ, not, ◌&&◌, [], Option, Some, IsSomeAnd, List, refl, sym, ap, subst, ◌∙◌}
use Rattle.std.specs.List.{slice_get}
use Rattle.std.specs.Option.{option_map}
use Rattle.std.proofs.lemmas.Option.{slice_get-map}
use Rattle.irq_base.specs.Cell.{fresh_cell, is_edge_trigger}
use Rattle.irq_base.specs.declared.domains.ControllerKind.{ControllerKind}
use Rattle.irq_base.specs.declared.domains.ControllerKind.TheVariants as levels
use Rattle.irq_model.specs.Lines.{is_eoi_flow}
use Rattle.board_def.specs.Layout.{layout_of}
use Rattle.board_def.specs.LineOf.{line_of_row}
use Rattle.board_def.specs.Rules.{IsBoard}
use Rattle.board_def.specs.Seen.{BoardSeen}
use Rattle.board_def.specs.Unnamed.{defs_of, leaf_of, leaves_of}
use Rattle.board_def.specs.declared.rows.LineRow.{LineRow}
use Rattle.board_def.proofs.RunRules.{valid_runs}
use Rattle.board_def.proofs.Validity.{valid_row}
use Rattle.board_layout.specs.Laid.{paths_of}
use Rattle.line_makers.specs.Chips.{HasAllChips, cell_of_line}
use Rattle.board_layout.proofs.Numbering.{virqs_have_paths}
use Rattle.domain_hier.specs.Hierarchies.{HierarchySeen}
use Rattle.domain_hier.specs.PathsInUse.{path_in}
use Rattle.domain_rules.specs.Layout.{path_of}
use Rattle.domain_rules.specs.Levels.{cell_of, root_kind, trigger_of_root, flow_of_root, keeps, recalls, retriggers, serves_kind}
use Rattle.domain_rules.specs.Paths.{kinds_from, kinds_on}
use Rattle.domain_rules.proofs.Placed.{laid, placed_path, path_kinds}
use Rattle.domain_rules.specs.declared.layouts.Placement.TheVariants as placements

-- ---- the cell of a board's line

-- an interrupt is kept in service if a level line goes by the fast-EOI flow
served_by : (k : ControllerKind) → serves_kind k ≡ (not (is_edge_trigger (trigger_of_root k)) && is_eoi_flow (flow_of_root k))
served_by levels.Latch = refl
served_by levels.Plain = refl
served_by levels.Level = refl
served_by levels.Eoi = refl
served_by levels.Msi = refl
served_by levels.Remap = refl
served_by levels.Vector = refl
served_by levels.Lpi = refl
served_by levels.Pin = refl

-- the levels from a line's domain are together the cell that its definition describes
cell_of_row : (b : BoardSeen) (row : LineRow) → cell_of (kinds_from (defs_of b.domains) (Some row.domain)) ≡ cell_of_line (line_of_row b row)
cell_of_row b row =
    let kinds = kinds_from (defs_of b.domains) (Some row.domain) in
    ap (fresh_cell (trigger_of_root (root_kind kinds)) (keeps kinds) (recalls kinds) (retriggers kinds)) (served_by (root_kind kinds))

-- the kinds on a line's path in the layout are the kinds on the way from its domain
kinds_of_row : (b : BoardSeen) (i virq : ℕ) (path : List (ℕ × ℕ)) (row : LineRow) → slice_get b.lines i ≡ Some row
    → slice_get (layout_of b) i ≡ Some (placements.Mapped virq path)
    → kinds_on (defs_of b.domains) path ≡ kinds_from (defs_of b.domains) (Some row.domain)
kinds_of_row b i virq path row at is =
    let defs = defs_of b.domains in
    let leaf : slice_get (leaves_of b.lines) i ≡ Some (leaf_of row) = slice_get-map leaf_of b.lines i ∙ ap (option_map leaf_of) at in
    let before = laid defs [] (leaves_of b.lines) i (leaf_of row) (placements.Mapped virq path) leaf is in
    let own : path_of defs before.0 (leaf_of row) ≡ path = placed_path defs before.0 (leaf_of row) virq path before.1 in
    subst (λ path. kinds_on defs path ≡ kinds_from defs (Some row.domain)) own (path_kinds defs before.0 (leaf_of row))

-- ---- all of them

some_and : {A : Type 0} (P : A → Type 0) (o : Option A) (x : A) → o ≡ Some x → P x → IsSomeAnd o P
some_and P o x e p = subst (λ (o : Option _). IsSomeAnd o P) (sym e) p

pub has_all_chips : (h : HierarchySeen) (b : BoardSeen) → IsBoard b → h.domains ≡ defs_of b.domains → h.paths ≡ paths_of (layout_of b) → HasAllChips h b
has_all_chips h b board same paths i virq path row at is =
    let there : path_in h.paths virq ≡ Some path = ap (λ ps. path_in ps virq) paths ∙ virqs_have_paths (defs_of b.domains) (leaves_of b.lines) i virq path is in
    let cell : cell_of (kinds_on h.domains path) ≡ cell_of_line (line_of_row b row) =
    ap (λ ds. cell_of (kinds_on ds path)) same ∙ (ap cell_of (kinds_of_row b i virq path row at is) ∙ cell_of_row b row) in
    record {
      valid = valid_row b i row board at;
      runs = valid_runs b board row;
      chips = some_and (λ path. cell_of (kinds_on h.domains path) ≡ cell_of_line (line_of_row b row)) (path_in h.paths virq) path there cell;
    }
