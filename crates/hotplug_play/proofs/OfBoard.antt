-- The lines that are placed are the board's, and their moves have room.
use Rattle.std.proofs.Common.{◌≡◌, ℕ, ◌+◌, ◌*◌, ◌≤◌, ◌==◌, true, List, length, count_by, sym, subst, ap, ◌∙◌, arith}
use Rattle.std.proofs.lemmas.List.Elements.{All-weaker}
use Rattle.std.proofs.lemmas.List.Folds.{list_any_at}
use Rattle.std.proofs.lemmas.List.Sums.{count_by-le-length}
use Rattle.std.proofs.lemmas.Nat.{mul-le}
use Rattle.std.proofs.lemmas.Option.{get_or_from_slice_get, slice_get_within}
use Rattle.board_def.proofs.Rising.{equals_itself}
use Rattle.board_def.specs.Rules.{IsBoard, has_line}
use Rattle.board_def.specs.Seen.{BoardSeen}
use Rattle.board_def.specs.declared.rows.LineRow.{LineRow}
use Rattle.irq_base.specs.declared.numbers.LineNo.{LineNo}
use Rattle.irq_hotplug.specs.Fleet.{FleetSeen, berths_of, fleet_after}
use Rattle.irq_hotplug.specs.declared.berths.Berth.{Berth}
use Rattle.irq_hotplug.specs.declared.events.Event.{Event}
use Rattle.hotplug_plan.specs.Planned.{AreLinesOf, IsForHotplug, is_off, moves_of}
use Rattle.hotplug_plan.proofs.Few.{few_berths, few_moves}
use Rattle.hotplug_play.proofs.Aiming.{IsLineOf, aims_after}

line_there : (b : BoardSeen) (x : Berth) → IsLineOf b x → has_line b.lines x.line ≡ true
line_there b x is =
    list_any_at (λ (row : LineRow). row.line.0 == x.line.0) b.lines is.index is.row (slice_get_within b.lines is.index is.row is.there)
    (ap (λ (row : LineRow). row.line.0 == x.line.0) (get_or_from_slice_get b.lines is.index is.row is.row is.there)
    ∙ ap (λ (l : LineNo). is.row.line.0 == l.0) (sym is.number) ∙ equals_itself is.row.line.0)

module _ (b : BoardSeen) (isb : IsBoard b) (vectors : ℕ) (es : List Event) (f : FleetSeen) (is : f ≡ fleet_after b vectors es) where
  -- each line is the board's
  pub lines_of_fleet : AreLinesOf b f.berths
  lines_of_fleet =
      subst (λ (g : FleetSeen). AreLinesOf b g.berths) (sym is)
      (All-weaker (IsLineOf b) (λ x. has_line b.lines x.line ≡ true) (line_there b) (fleet_after b vectors es).berths (aims_after b isb vectors es).lines)

  -- the moves have room behind the board's calls
  pub room_for_moves : IsForHotplug b → length es ≤ 64 → length b.calls + length (moves_of f.said) ≤ 16384
  room_for_moves fits few =
      subst (λ (g : FleetSeen). length b.calls + length (moves_of g.said) ≤ 16384) (sym is)
      (most (length b.calls) (length (moves_of (fleet_after b vectors es).said)) (length (berths_of b)) (count_by is_off es) fits.few_calls
      (few_moves b vectors es) (omega (arith, few_berths b, isb.few_lines)) (omega (arith, count_by-le-length is_off es, few)))
    where
      most : (calls moves lines offs : ℕ) → calls ≤ 12224 → moves ≤ lines * (1 + offs) → lines ≤ 64 → offs ≤ 64 → calls + moves ≤ 16384
      most calls moves lines offs few_calls few_moves few_lines few =
          omega (arith, few_calls, few_moves, mul-le lines (1 + offs) 64 65 few_lines (omega (arith, few)))
