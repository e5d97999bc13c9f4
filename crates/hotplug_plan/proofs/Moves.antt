-- The moves that are said.
use Rattle.std.proofs.Common.{◌≡◌, ℕ, ◌==◌, Bool, true, false, ◌||◌, ◌^◌, List, [], ◌∷◌}
use Rattle.std.proofs.Common.{All, refl, subst, arith, eqb-true}
use Rattle.std.specs.List.{list_any}
use Rattle.std.proofs.lemmas.Bool.{false≢true}
use Rattle.std.proofs.lemmas.List.Elements.{All-append, All-weaker}
use Rattle.board_def.proofs.Rising.{head_of, tail_of, all_of}
use Rattle.board_def.specs.Rules.{has_line}
use Rattle.board_def.specs.Seen.{BoardSeen}
use Rattle.board_def.specs.declared.rows.LineRow.{LineRow}
use Rattle.board_driver.specs.Longer.{IsOfALine}
use Rattle.irq_base.specs.declared.calls.Call.TheVariants as calls
use Rattle.irq_base.specs.declared.numbers.LineNo.{LineNo}
use Rattle.irq_hotplug.specs.Kept.{IsSaidOf, has_berth}
use Rattle.hotplug_plan.specs.Planned.{AreLinesOf, HasCpu, move_of, moves_of}
use Rattle.irq_hotplug.specs.declared.berths.Berth.{Berth}
use Rattle.irq_hotplug.specs.declared.rows.FleetRow.{FleetRow}
use Rattle.irq_hotplug.specs.declared.rows.FleetRow.TheVariants as rows

cpu_of : (berths : List Berth) (row : FleetRow) → IsSaidOf berths row → HasCpu row
cpu_of berths (rows.Placed line v queues queue moved) is = is.1
cpu_of berths (rows.Unplaced line) is = tt
cpu_of berths (rows.Off cpu answer) is = tt
cpu_of berths (rows.On cpu answer) is = tt

pub have_cpus : (berths : List Berth) (said : List FleetRow) → All (IsSaidOf berths) said → All HasCpu said
have_cpus berths said all = All-weaker (IsSaidOf berths) HasCpu (cpu_of berths) said all

line_there : (b : BoardSeen) (bs : List Berth) (line : LineNo) → AreLinesOf b bs → has_berth bs line ≡ true → has_line b.lines line ≡ true
line_there b [] line are has = absurd (false≢true has)
line_there b (x ∷ xs) line are has = by (x.line.0 == line.0) refl has
    (λ h. line_there b xs line (tail_of (λ (y : Berth). has_line b.lines y.line ≡ true) x xs are) h)
  where
    number_of : ℕ → LineNo
    number_of n = record { 0 = n }

    by : (t : Bool) → (x.line.0 == line.0) ≡ t → (t || has_berth xs line) ≡ true
        → (has_berth xs line ≡ true → has_line b.lines line ≡ true) → has_line b.lines line ≡ true
    by true same h rest =
        subst (λ n. list_any (λ (row : LineRow). row.line.0 == n) b.lines ≡ true) (eqb-true x.line.0 line.0 same)
        (head_of (λ (y : Berth). has_line b.lines y.line ≡ true) x xs are)
    by false same h rest = rest h

move_ok : (b : BoardSeen) (berths : List Berth) (row : FleetRow) → AreLinesOf b berths → IsSaidOf berths row → All (IsOfALine b) (move_of row)
move_ok b berths (rows.Placed line v queues queue true) are is =
    all_of (IsOfALine b) (record { line = line; call = calls.Affinity (2 ^ v.cpu.0) }) []
    (record { line = line_there b berths line are is.0; no_device = refl }) (λ k d h. absurd (omega arith))
move_ok b berths (rows.Placed line v queues queue false) are is = λ k d h. absurd (omega arith)
move_ok b berths (rows.Unplaced line) are is = λ k d h. absurd (omega arith)
move_ok b berths (rows.Off cpu answer) are is = λ k d h. absurd (omega arith)
move_ok b berths (rows.On cpu answer) are is = λ k d h. absurd (omega arith)

-- each move is of a line of the board
pub moves_ok : (b : BoardSeen) (berths : List Berth) (said : List FleetRow) → AreLinesOf b berths
    → All (IsSaidOf berths) said → All (IsOfALine b) (moves_of said)
moves_ok b berths [] are all = λ k d h. absurd (omega arith)
moves_ok b berths (row ∷ said) are all =
    All-append (IsOfALine b) (move_of row) (moves_of said)
    (move_ok b berths row are (head_of (IsSaidOf berths) row said all))
    (moves_ok b berths said are (tail_of (IsSaidOf berths) row said all))
