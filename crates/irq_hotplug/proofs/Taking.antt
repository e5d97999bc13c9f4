-- Which lines of a board take part.
use Rattle.std.proofs.Common.{◌≡◌, ℕ, ◌+◌, ◌<◌, ◌≤◌, Option, Some, None, List, [], ◌∷◌, ◌++◌, length, drop, IfSome}
use Rattle.std.proofs.Common.{refl, ap, ◌∙◌, sym, subst, arith, append_assoc, max}
use Rattle.std.specs.Prelude.{option_to_list}
use Rattle.std.specs.List.{slice_get}
use Rattle.std.proofs.lemmas.List.{drop_more, length-map}
use Rattle.std.proofs.lemmas.Option.{get_or_from_slice_get, slice_get_within, slice_get-get_or}
use Rattle.domain_rules.proofs.Placed.{laid_all}
use Rattle.domain_rules.specs.declared.layouts.Placement.{Placement}
use Rattle.domain_rules.specs.declared.layouts.Placement.TheVariants as placements
use Rattle.board_def.specs.Layout.{layout_of}
use Rattle.board_def.specs.LineOf.{line_of_row, line_defs_of}
use Rattle.board_def.specs.Seen.{BoardSeen}
use Rattle.board_def.specs.Unnamed.{defs_of, leaves_of, leaf_of}
use Rattle.irq_base.specs.declared.lines.LineDef.{LineDef}
use Rattle.irq_hotplug.specs.Fleet.{berth_if, berths_from}
use Rattle.irq_hotplug.specs.Kept.{IsBare}
use Rattle.irq_hotplug.specs.declared.berths.Berth.{Berth}

-- there is a place for each line
pub as_many : (b : BoardSeen) (defs : List LineDef) (layout : List Placement) → defs ≡ line_defs_of b → layout ≡ layout_of b → length layout ≡ length defs
as_many b defs layout defs_is layout_is =
    ap length layout_is ∙ (laid_all (defs_of b.domains) [] (leaves_of b.lines) ∙ length-map b.lines leaf_of)
    ∙ sym (ap length defs_is ∙ length-map b.lines (line_of_row b))

-- one line on
one_from : (defs : List LineDef) (places : List Placement) (i : ℕ) (def : LineDef) (place : Placement)
    → drop i defs ≡ def ∷ drop (i + 1) defs → slice_get places i ≡ Some place
    → berths_from (drop i defs) (drop i places) ≡ option_to_list (berth_if def (Some place)) ++ berths_from (drop (i + 1) defs) (drop (i + 1) places)
one_from defs places i def place left at =
    ap (λ ds. berths_from ds (drop i places)) left
    ∙ ap (berths_from (def ∷ drop (i + 1) defs)) (drop_more places i place (slice_get_within places i place at)
    ∙ ap (λ x. x ∷ drop (i + 1) places) (get_or_from_slice_get places i place place at))

-- a turn: the line takes part and is put behind those before it, or not
pub turn : (defs : List LineDef) (places : List Placement) (i : ℕ) (def : LineDef) (got : Option Placement) (p : Option Berth) (before after all : List Berth)
    → length places ≡ length defs → i < length defs → drop i defs ≡ def ∷ drop (i + 1) defs → got ≡ slice_get places i → p ≡ berth_if def got
    → before ++ berths_from (drop i defs) (drop i places) ≡ all → after ≡ before ++ option_to_list p
    → after ++ berths_from (drop (i + 1) defs) (drop (i + 1) places) ≡ all
turn defs places i def None p before after all many lt left got_is p_is so_far put = absurd (past places i (sym got_is) (omega (arith, many, lt)))
  where
    past : (xs : List Placement) (k : ℕ) → slice_get xs k ≡ None → k < length xs → ⊥
    past [] k none within = omega (arith, within)
    past (x ∷ xs) k none within = some_none (x ∷ xs) k x (slice_get-get_or (x ∷ xs) k x within) none
      where
        some_none : (ys : List Placement) (j : ℕ) (d : Placement) {y : Placement} → slice_get ys j ≡ Some y → slice_get ys j ≡ None → ⊥
        some_none ys j d at none = cc
turn defs places i def (Some place) p before after all many lt left got_is p_is so_far put =
    let rest = berths_from (drop (i + 1) defs) (drop (i + 1) places) in
    ap (λ xs. xs ++ rest) put ∙ append_assoc before (option_to_list p) rest
    ∙ ap (λ q. before ++ (option_to_list q ++ rest)) p_is
    ∙ sym (ap (λ xs. before ++ xs) (one_from defs places i def place left (sym got_is))) ∙ so_far

if_bare : (def : LineDef) (got : Option Placement) → IfSome (berth_if def got) IsBare
if_bare def None = tt
if_bare def (Some (placements.Mapped virq path)) = record { queue = at_least (length def.devices); place = refl }
  where
    at_least : (n : ℕ) → 1 ≤ max 1 n
    at_least n = omega arith
if_bare def (Some (placements.Refused why)) = tt

pub is_bare : (def : LineDef) (got : Option Placement) (p : Option Berth) (b : Berth) → p ≡ berth_if def got → p ≡ Some b → IsBare b
is_bare def got p b is some = subst (λ (q : Option Berth). IfSome q IsBare) (sym is ∙ some) (if_bare def got)
