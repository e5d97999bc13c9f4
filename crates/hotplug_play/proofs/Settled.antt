-- What each line keeps as lines are settled.
use Rattle.std.proofs.Common.{◌+◌, ◌≤◌, cond, Option, Some, None, List, [], ◌∷◌, map, count_by, All}
use Rattle.std.proofs.Common.{arith}
use Rattle.board_def.proofs.Rising.{head_of, tail_of, all_of}
use Rattle.board_def.specs.LineOf.{line_of_row}
use Rattle.board_def.specs.Seen.{BoardSeen}
use Rattle.board_def.specs.declared.rows.LineRow.{LineRow}
use Rattle.domain_rules.specs.declared.layouts.Placement.{Placement}
use Rattle.domain_rules.specs.declared.layouts.Placement.TheVariants as placements
use Rattle.vector_matrix.specs.declared.view.Vector.{Vector}
use Rattle.irq_hotplug.specs.Berths.{all_settled, is_at, settled, stands_at}
use Rattle.irq_hotplug.specs.Fleet.{berth_of, berths_from}
use Rattle.irq_hotplug.specs.declared.berths.Berth.{Berth}
use Rattle.irq_hotplug.proofs.Counting.{count_more}

-- what a line keeps as it is settled holds of all settled lines
pub settled_all : (P : Berth → Type 0) → ((x : Berth) (p : Option Vector) → P x → P (settled p x)) → (bs : List Berth) (ps : List (Option Vector))
    → All P bs → All P (all_settled bs ps)
settled_all P keeps [] ps all = λ k d h. absurd (omega arith)
settled_all P keeps (x ∷ xs) [] all = λ k d h. absurd (omega arith)
settled_all P keeps (x ∷ xs) (p ∷ ps) all =
    all_of P (settled p x) (all_settled xs ps) (keeps x p (head_of P x xs all)) (settled_all P keeps xs ps (tail_of P x xs all))

-- what holds of the rows of lines holds of the lines that take part
pub first_all : (b : BoardSeen) (P : Berth → Type 0) (Q : LineRow → Type 0) → ((row : LineRow) → Q row → P (berth_of (line_of_row b row)))
    → (rows : List LineRow) (places : List Placement) → All Q rows → All P (berths_from (map (line_of_row b) rows) places)
first_all b P Q makes [] places all = λ k d h. absurd (omega arith)
first_all b P Q makes (row ∷ rows) [] all = λ k d h. absurd (omega arith)
first_all b P Q makes (row ∷ rows) (placements.Mapped virq path ∷ places) all =
    all_of P (berth_of (line_of_row b row)) (berths_from (map (line_of_row b) rows) places) (makes row (head_of Q row rows all))
    (first_all b P Q makes rows places (tail_of Q row rows all))
first_all b P Q makes (row ∷ rows) (placements.Refused why ∷ places) all = first_all b P Q makes rows places (tail_of Q row rows all)

-- ---- vectors of settled lines

one_counts : (v : Vector) (x : Berth) (p : Option Vector) → cond (stands_at v (settled p x)) 1 0 ≤ cond (stands_at v x) 1 0 + cond (is_at v p) 1 0
one_counts v x (Some w) = omega arith
one_counts v x None = omega arith

-- a settled line has a vector that it had, or that it found
pub settled_counts : (v : Vector) (bs : List Berth) (ps : List (Option Vector))
    → count_by (stands_at v) (all_settled bs ps) ≤ count_by (stands_at v) bs + count_by (is_at v) ps
settled_counts v [] ps = omega arith
settled_counts v (x ∷ xs) [] = omega arith
settled_counts v (x ∷ xs) (p ∷ ps) =
    omega (
      arith,
      count_more (stands_at v) (settled p x) (all_settled xs ps),
      count_more (stands_at v) x xs,
      count_more (is_at v) p ps,
      one_counts v x p,
      settled_counts v xs ps,
    )
