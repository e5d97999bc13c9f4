-- What is said is said of lines that take part.
use Rattle.std.proofs.Common.{◌≡◌, ℕ, ◌≤◌, ◌==◌, Bool, true, ◌||◌, Option, Some, None, List, [], ◌∷◌, length, get_or, All, refl, ap, ◌∙◌, arith}
use Rattle.std.proofs.lemmas.List.Elements.{All-append, All-weaker}
use Rattle.std.proofs.lemmas.List.Folds.{list_any_at}
use Rattle.board_def.proofs.Rising.{head_of, tail_of, all_of, equals_itself}
use Rattle.irq_base.specs.declared.numbers.LineNo.{LineNo}
use Rattle.vector_matrix.specs.declared.view.Vector.{Vector}
use Rattle.irq_hotplug.specs.Berths.{IfThere, IsOnline, all_settled, settled}
use Rattle.irq_hotplug.specs.Kept.{IsSaidOf, has_berth}
use Rattle.irq_hotplug.specs.Rows.{all_rows, rows_for, placed_row}
use Rattle.irq_hotplug.specs.declared.berths.Berth.{Berth}
use Rattle.irq_hotplug.specs.declared.berths.Moving.{Moving}
use Rattle.irq_hotplug.specs.declared.berths.Moving.TheVariants as moving
use Rattle.irq_hotplug.specs.declared.rows.FleetRow.{FleetRow}
use Rattle.irq_hotplug.specs.declared.rows.FleetRow.TheVariants as rows

has_settled : (line : LineNo) (bs : List Berth) (ps : List (Option Vector)) → length ps ≡ length bs → has_berth (all_settled bs ps) line ≡ has_berth bs line
has_settled line [] ps same = refl
has_settled line (b ∷ bs) [] same = absurd (omega (arith, same))
has_settled line (b ∷ bs) (p ∷ ps) same =
    by p ∙ ap (λ t. (b.line.0 == line.0) || t) (has_settled line bs ps (omega (arith, same)))
  where
    by : (q : Option Vector) → has_berth (settled q b ∷ all_settled bs ps) line ≡ ((b.line.0 == line.0) || has_berth (all_settled bs ps) line)
    by (Some v) = refl
    by None = refl

one_kept : (bs : List Berth) (ps : List (Option Vector)) → length ps ≡ length bs → (row : FleetRow) → IsSaidOf bs row → IsSaidOf (all_settled bs ps) row
one_kept bs ps same (rows.Placed line v queues queue moved) is = (has_settled line bs ps same ∙ is.0, is.1)
one_kept bs ps same (rows.Unplaced line) is = tt
one_kept bs ps same (rows.Off cpu answer) is = tt
one_kept bs ps same (rows.On cpu answer) is = tt

-- what was said stays said of them as they are settled
pub said_kept : (bs : List Berth) (ps : List (Option Vector)) (said : List FleetRow) → length ps ≡ length bs → All (IsSaidOf bs) said
    → All (IsSaidOf (all_settled bs ps)) said
said_kept bs ps said same all = All-weaker (IsSaidOf bs) (IsSaidOf (all_settled bs ps)) (one_kept bs ps same) said all

said_for : (all : List Berth) (vectors : ℕ) (online : List Bool) (m : Moving) (b : Berth) (p : Option Vector) → length online ≤ 32
    → has_berth all b.line ≡ true → IfThere (IsOnline vectors online) p → All (IsSaidOf all) (rows_for m b p)
said_for all vectors online m b (Some v) few has is =
    all_of (IsSaidOf all) (placed_row b v) [] (has, omega (arith, is.there, few)) (λ k d h. absurd (omega arith))
said_for all vectors online moving.All b None few has is =
    all_of (IsSaidOf all) (rows.Unplaced b.line) [] tt (λ k d h. absurd (omega arith))
said_for all vectors online (moving.From cpu) b None few has is = λ k d h. absurd (omega arith)

said_all : (all : List Berth) (vectors : ℕ) (online : List Bool) (m : Moving) (bs : List Berth) (ps : List (Option Vector)) → length online ≤ 32
    → All (λ (b : Berth). has_berth all b.line ≡ true) bs → All (IfThere (IsOnline vectors online)) ps → All (IsSaidOf all) (all_rows m bs ps)
said_all all vectors online m [] ps few has found = λ k d h. absurd (omega arith)
said_all all vectors online m (b ∷ bs) [] few has found = λ k d h. absurd (omega arith)
said_all all vectors online m (b ∷ bs) (p ∷ ps) few has found =
    All-append (IsSaidOf all) (rows_for m b p) (all_rows m bs ps)
    (said_for all vectors online m b p few (head_of (λ (x : Berth). has_berth all x.line ≡ true) b bs has)
    (head_of (IfThere (IsOnline vectors online)) p ps found))
    (said_all all vectors online m bs ps few (tail_of (λ (x : Berth). has_berth all x.line ≡ true) b bs has)
    (tail_of (IfThere (IsOnline vectors online)) p ps found))

all_in : (bs : List Berth) → All (λ (b : Berth). has_berth bs b.line ≡ true) bs
all_in bs k d h = list_any_at (λ b. b.line.0 == (get_or bs k d).line.0) bs k d h (equals_itself (get_or bs k d).line.0)

-- what is said of lines as they are placed
pub rows_said : (vectors : ℕ) (online : List Bool) (m : Moving) (bs : List Berth) (ps : List (Option Vector)) → length online ≤ 32 → length ps ≡ length bs
    → All (IfThere (IsOnline vectors online)) ps → All (IsSaidOf (all_settled bs ps)) (all_rows m bs ps)
rows_said vectors online m bs ps few same found =
    said_kept bs ps (all_rows m bs ps) same (said_all bs vectors online m bs ps few (all_in bs) found)
