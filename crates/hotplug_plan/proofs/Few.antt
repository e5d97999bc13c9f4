-- How many moves there can be.
use Rattle.std.proofs.Common.{◌≡◌, ℕ, ◌+◌, ◌*◌, ◌≤◌, Bool, true, false, Option, Some, None, List, [], ◌∷◌}
use Rattle.std.proofs.Common.{◌++◌, length, cond, count_by, ap, ◌∙◌, arith, length-append, replicate}
use Rattle.std.proofs.lemmas.List.Sums.{sum_by-cons}
use Rattle.std.proofs.lemmas.Grind.{flat_map-append}
use Rattle.std.proofs.lemmas.List.{length-map}
use Rattle.irq_base.specs.declared.lines.LineDef.{LineDef}
use Rattle.irq_base.specs.declared.numbers.CpuNo.{CpuNo}
use Rattle.domain_rules.specs.declared.layouts.Placement.{Placement}
use Rattle.domain_rules.specs.declared.layouts.Placement.TheVariants as placements
use Rattle.board_def.specs.Layout.{layout_of}
use Rattle.board_def.specs.LineOf.{line_defs_of, line_of_row}
use Rattle.board_def.specs.Seen.{BoardSeen}
use Rattle.vector_matrix.specs.declared.view.Vector.{Vector}
use Rattle.irq_hotplug.specs.Berths.{all_found}
use Rattle.irq_hotplug.specs.Fleet.{FleetSeen, after_events, after_off, after_on, after_off_by, after_on_by, berths_from}
use Rattle.irq_hotplug.specs.Fleet.{berths_of, first_fleet, fleet_after, found_off, off_answer, on_answer, placed_fleet}
use Rattle.irq_hotplug.specs.Fleet.{says}
use Rattle.irq_hotplug.specs.Rows.{all_rows, placed_row, rows_for}
use Rattle.irq_hotplug.specs.declared.berths.Berth.{Berth}
use Rattle.irq_hotplug.specs.declared.berths.Moving.{Moving}
use Rattle.irq_hotplug.specs.declared.berths.Moving.TheVariants as moving
use Rattle.irq_hotplug.specs.declared.events.Event.{Event}
use Rattle.irq_hotplug.specs.declared.events.Event.TheVariants as events
use Rattle.irq_hotplug.specs.declared.rows.FleetRow.{FleetRow}
use Rattle.irq_hotplug.specs.declared.rows.FleetRow.TheVariants as rows
use Rattle.irq_hotplug.specs.declared.rows.OffAnswer.{OffAnswer}
use Rattle.irq_hotplug.specs.declared.rows.OffAnswer.TheVariants as offs
use Rattle.irq_hotplug.specs.declared.rows.OnAnswer.{OnAnswer}
use Rattle.irq_hotplug.specs.declared.rows.OnAnswer.TheVariants as ons
use Rattle.irq_hotplug.proofs.Settling.{settled_length}
use Rattle.hotplug_plan.specs.Planned.{is_off, move_of, moves_of}

both : (xs ys : List FleetRow) → length (moves_of (xs ++ ys)) ≡ length (moves_of xs) + length (moves_of ys)
both xs ys = ap length (flat_map-append move_of xs ys) ∙ length-append (moves_of xs) (moves_of ys)

one : (row : FleetRow) → length (moves_of (row ∷ [])) ≤ 1
one (rows.Placed line v queues queue true) = omega arith
one (rows.Placed line v queues queue false) = omega arith
one (rows.Unplaced line) = omega arith
one (rows.Off cpu answer) = omega arith
one (rows.On cpu answer) = omega arith

for_line : (m : Moving) (b : Berth) (p : Option Vector) → length (moves_of (rows_for m b p)) ≤ 1
for_line m b (Some v) = one (placed_row b v)
for_line moving.All b None = omega arith
for_line (moving.From cpu) b None = omega arith

in_rows : (m : Moving) (bs : List Berth) (ps : List (Option Vector)) → length (moves_of (all_rows m bs ps)) ≤ length bs
in_rows m [] ps = omega arith
in_rows m (b ∷ bs) [] = omega arith
in_rows m (b ∷ bs) (p ∷ ps) = omega (arith, both (rows_for m b p) (all_rows m bs ps), for_line m b p, in_rows m bs ps)

-- what an event adds: `most` moves
pub record Adds (most : ℕ) (f g : FleetSeen) : Type 0 where
  pub moves : length (moves_of g.said) ≤ length (moves_of f.said) + most
  pub berths : length g.berths ≤ length f.berths

says_off : (f : FleetSeen) (cpu : CpuNo) (answer : OffAnswer) → Adds (length f.berths) f (says f (rows.Off cpu answer))
says_off f cpu answer = record { moves = omega (arith, both f.said (rows.Off cpu answer ∷ [])); berths = omega arith }

says_on : (f : FleetSeen) (cpu : CpuNo) (answer : OnAnswer) → Adds 0 f (says f (rows.On cpu answer))
says_on f cpu answer = record { moves = omega (arith, both f.said (rows.On cpu answer ∷ [])); berths = omega arith }

off_adds : (f : FleetSeen) (cpu : CpuNo) (answer : OffAnswer) → Adds (length f.berths) f (after_off_by f cpu answer)
off_adds f cpu offs.Ok =
    let news = all_rows (moving.From cpu) f.berths (found_off f cpu) in
    record {
      moves = omega (arith, both f.said (rows.Off cpu offs.Ok ∷ news), in_rows (moving.From cpu) f.berths (found_off f cpu));
      berths = settled_length f.berths (found_off f cpu);
    }
off_adds f cpu offs.NotThere = says_off f cpu offs.NotThere
off_adds f cpu offs.NotOnline = says_off f cpu offs.NotOnline
off_adds f cpu offs.LastOne = says_off f cpu offs.LastOne
off_adds f cpu (offs.NoVector line) = says_off f cpu (offs.NoVector line)

on_adds : (f : FleetSeen) (cpu : CpuNo) (answer : OnAnswer) → Adds 0 f (after_on_by f cpu answer)
on_adds f cpu ons.Ok = record { moves = omega (arith, both f.said (rows.On cpu ons.Ok ∷ [])); berths = omega arith }
on_adds f cpu ons.NotThere = says_on f cpu ons.NotThere
on_adds f cpu ons.IsOnline = says_on f cpu ons.IsOnline

mul_more : (a b : ℕ) → a * (1 + b) ≡ a + a * b
mul_more a b = grind arith

mul_none : (a b : ℕ) → a * (0 + b) ≡ a * b
mul_none a b = grind arith

few_at_events : (n : ℕ) (f : FleetSeen) (es : List Event) → length f.berths ≤ n
    → length (moves_of (after_events f es).said) ≤ length (moves_of f.said) + n * count_by is_off es
few_at_events n f [] few = omega arith
few_at_events n f (events.Off cpu ∷ es) few =
    let adds = off_adds f cpu (off_answer f cpu) in
    sum_up (length (moves_of (after_events (after_off f cpu) es).said)) (length (moves_of (after_off f cpu).said))
    (length (moves_of f.said)) (length f.berths) n (count_by is_off es) (count_by is_off (events.Off cpu ∷ es))
    (few_at_events n (after_off f cpu) es (omega (arith, adds.berths, few))) adds.moves few (sum_by-cons (λ e. cond (is_off e) 1 0) (events.Off cpu) es)
  where
    sum_up : (end now before berths n rest all : ℕ) → end ≤ now + n * rest → now ≤ before + berths → berths ≤ n → all ≡ 1 + rest → end ≤ before + n * all
    sum_up end now before berths n rest all later adds few is = omega (arith, ap (λ k. n * k) is, mul_more n rest, later, adds, few)
few_at_events n f (events.On cpu ∷ es) few =
    let adds = on_adds f cpu (on_answer f.online cpu) in
    sum_up (length (moves_of (after_events (after_on f cpu) es).said)) (length (moves_of (after_on f cpu).said)) (length (moves_of f.said))
    n (count_by is_off es) (count_by is_off (events.On cpu ∷ es))
    (few_at_events n (after_on f cpu) es (omega (arith, adds.berths, few))) adds.moves (sum_by-cons (λ e. cond (is_off e) 1 0) (events.On cpu) es)
  where
    sum_up : (end now before n rest all : ℕ) → end ≤ now + n * rest → now ≤ before + 0 → all ≡ 0 + rest → end ≤ before + n * all
    sum_up end now before n rest all later adds is = omega (arith, ap (λ k. n * k) is, mul_none n rest, later, adds)

few_at_first : (vectors : ℕ) (online : List Bool) (bare : List Berth) → length (moves_of (placed_fleet vectors online bare).said) ≤ length bare
few_at_first vectors online bare = in_rows moving.All bare (all_found moving.All vectors online bare [] bare)

few_placed : (vectors : ℕ) (online : List Bool) (bare : List Berth) → length (placed_fleet vectors online bare).berths ≤ length bare
few_placed vectors online bare = settled_length bare (all_found moving.All vectors online bare [] bare)

few_lines : (defs : List LineDef) (places : List Placement) → length (berths_from defs places) ≤ length defs
few_lines [] places = omega arith
few_lines (def ∷ defs) [] = omega arith
few_lines (def ∷ defs) (placements.Mapped virq path ∷ places) = omega (arith, few_lines defs places)
few_lines (def ∷ defs) (placements.Refused why ∷ places) = omega (arith, few_lines defs places)

-- each line that takes part is one of the board's
pub few_berths : (b : BoardSeen) → length (berths_of b) ≤ length b.lines
few_berths b = omega (arith, few_lines (line_defs_of b) (layout_of b), length-map b.lines (line_of_row b))

pub few_moves : (b : BoardSeen) (vectors : ℕ) (es : List Event)
    → length (moves_of (fleet_after b vectors es).said) ≤ length (berths_of b) * (1 + count_by is_off es)
few_moves b vectors es =
    let bare = berths_of b in
    let online = replicate b.cpus true in
    all (length (moves_of (fleet_after b vectors es).said)) (length (moves_of (first_fleet b vectors).said)) (length bare) (count_by is_off es)
    (few_at_events (length bare) (first_fleet b vectors) es (few_placed vectors online bare)) (few_at_first vectors online bare)
  where
    all : (end first n offs : ℕ) → end ≤ first + n * offs → first ≤ n → end ≤ n * (1 + offs)
    all end first n offs later most = omega (arith, mul_more n offs, later, most)
