-- Where a line is placed at last, there its interrupts go.
use Rattle.std.proofs.Common.{◌≡◌, ℕ, ◌==◌, Bool, true, false, cond, Option, Some, None, List, [], ◌∷◌, All, refl, sym, ap, ◌∙◌, subst, reverse, eqb-true}
use Rattle.std.specs.List.{slice_get}
use Rattle.board_def.proofs.Rising.{head_of, tail_of}
use Rattle.board_def.specs.Layout.{layout_of}
use Rattle.board_def.specs.LineOf.{find_line, line_of_row}
use Rattle.board_def.specs.Rules.{IsBoard}
use Rattle.board_def.specs.Seen.{BoardSeen}
use Rattle.board_def.specs.declared.rows.LineRow.{LineRow}
use Rattle.board_driver.specs.Longer.{last_driver}
use Rattle.domain_rules.specs.declared.layouts.Placement.TheVariants as placements
use Rattle.irq_base.specs.declared.entries.Actor.{Actor}
use Rattle.irq_base.specs.declared.entries.Actor.TheVariants as actors
use Rattle.irq_base.specs.declared.entries.Entry.{Entry}
use Rattle.irq_base.specs.declared.lines.LineDef.{LineDef}
use Rattle.irq_base.specs.declared.numbers.CpuNo.{CpuNo}
use Rattle.irq_base.specs.declared.numbers.LineNo.{LineNo}
use Rattle.irq_model.specs.Due.{due_call}
use Rattle.irq_model.specs.Legal.{IsLegal}
use Rattle.irq_model.specs.Next.{next}
use Rattle.irq_model.specs.Settled.{IsSettled}
use Rattle.irq_model.specs.Signal.{lowest_in}
use Rattle.irq_model.specs.Waits.{IsCaughtPast}
use Rattle.vector_matrix.specs.declared.view.Vector.{Vector}
use Rattle.irq_hotplug.specs.Berths.{IfThere, place_of, place_on}
use Rattle.irq_hotplug.specs.Fleet.{FleetSeen, fleet_after}
use Rattle.irq_hotplug.specs.declared.berths.Berth.{Berth}
use Rattle.irq_hotplug.specs.declared.berths.Place.{Place}
use Rattle.irq_hotplug.specs.declared.events.Event.{Event}
use Rattle.hotplug_plan.specs.Planned.{IsForHotplug, moves_of, planned}
use Rattle.hotplug_play.specs.Aims.{AimsAt}
use Rattle.hotplug_play.proofs.Aiming.{Aims, IsAimed, IsHere, IsLineOf, aims_after, target_after, the_row}
use Rattle.hotplug_play.proofs.Moments.{keeps_after}
use Rattle.hotplug_play.proofs.Moving.{IsMovedBy, goes_there, last_mask, move_is_due, never_caught}
use Rattle.hotplug_play.proofs.Scripts.{calls_on, mask_aims, moved_by_last, moves_by_last}

-- ---- the line that is at a place

pub record IsAt (P : Berth → Type 0) (line : LineNo) (place : Place) : Type 0 where
  pub berth : Berth
  pub number : berth.line ≡ line
  pub vector : Vector
  pub has : berth.place ≡ Some vector
  pub cpu_is : vector.cpu ≡ place.cpu
  pub holds : P berth

at_place : (P : Berth → Type 0) (bs : List Berth) (line : LineNo) (place : Place) → All P bs → place_of bs line ≡ Some place → IsAt P line place
at_place P [] line place all is = absurd cc
at_place P (x ∷ xs) line place all is = by (x.line.0 == line.0) refl is (λ at. at_place P xs line place (tail_of P x xs all) at)
  where
    number_of : ℕ → LineNo
    number_of n = record { 0 = n }

    on : (p : Option Vector) → x.place ≡ p → x.line ≡ line → place_on x p ≡ Some place → IsAt P line place
    on (Some v) has same at =
        record {
          berth = x;
          number = same;
          vector = v;
          has = has;
          cpu_is = (let e : v.cpu ≡ place.cpu = cc in e);
          holds = head_of P x xs all;
        }
    on None has same at = absurd cc

    by : (t : Bool) → (x.line.0 == line.0) ≡ t → cond t (place_on x x.place) (place_of xs line) ≡ Some place
        → (place_of xs line ≡ Some place → IsAt P line place) → IsAt P line place
    by true same at deeper = on x.place refl (ap number_of (eqb-true x.line.0 line.0 same)) at
    by false other at deeper = deeper at

-- what holds of each line
pub record Known (b : BoardSeen) (f : FleetSeen) (x : Berth) : Type 0 where
  pub line : IsLineOf b x
  pub aimed : IsAimed b.cpus f.said x
  pub here : IsHere x

all_known : (b : BoardSeen) (f : FleetSeen) → Aims b f → All (Known b f) f.berths
all_known b f aims k d h = record { line = aims.lines k d h; aimed = aims.aimed k d h; here = aims.here k d h }

some_row : (x y : LineRow) → Some x ≡ Some y → x ≡ y
some_row x y is = cc

here_is : (x : Berth) (v : Vector) → IsHere x → x.place ≡ Some v → x.target ≡ Some v.cpu
here_is x v here has = subst (λ p. IfThere (λ w. x.target ≡ Some w.cpu) p) has here

-- the line's row is the row with its number
its_row : (b : BoardSeen) → IsBoard b → (i : ℕ) (row : LineRow) → slice_get b.lines i ≡ Some row → (x : Berth) → IsLineOf b x → x.line ≡ row.line
    → (index : ℕ) × (virq : ℕ) × (path : List (ℕ × ℕ)) × (slice_get b.lines index ≡ Some row)
    × (slice_get (layout_of b) index ≡ Some (placements.Mapped virq path)) × (x.mask ≡ row.mask)
its_row b board i row at x line number =
    let same : line.row ≡ row =
    some_row line.row row (sym (the_row b board line.index line.row line.there) ∙ ap (find_line b.lines) (line.number ∙ number) ∙ the_row b board i row at) in
    (line.index, line.virq, line.path, line.there ∙ ap (λ (r : LineRow). Some r) same, line.takes_part, line.mask ∙ ap (λ (r : LineRow). r.mask) same)

-- a placed line takes part
pub takes_part : (b : BoardSeen) → IsBoard b → (vectors : ℕ) (es : List Event) (i : ℕ) (row : LineRow) (place : Place) → slice_get b.lines i ≡ Some row
    → place_of (fleet_after b vectors es).berths row.line ≡ Some place
    → (index : ℕ) × (virq : ℕ) × (path : List (ℕ × ℕ)) × (slice_get b.lines index ≡ Some row)
    × (slice_get (layout_of b) index ≡ Some (placements.Mapped virq path))
takes_part b board vectors es i row place at is =
    let f = fleet_after b vectors es in
    let x = at_place (IsLineOf b) f.berths row.line place (aims_after b board vectors es).lines is in
    let its = its_row b board i row at x.berth x.holds x.number in
    (its.0, its.1, its.2, its.3, its.4)

-- the rows put the place's processor in force last
aimed_at : (b : BoardSeen) → IsBoard b → (f : FleetSeen) → Aims b f → (i : ℕ) (row : LineRow) (place : Place) → slice_get b.lines i ≡ Some row
    → place_of f.berths row.line ≡ Some place → target_after row.line (lowest_in b.cpus row.mask) f.said ≡ Some place.cpu
aimed_at b board f aims i row place at is =
    let x = at_place (Known b f) f.berths row.line place (all_known b f aims) is in
    let its = its_row b board i row at x.berth x.holds.line x.number in
    ap (λ (l : LineNo). target_after l (lowest_in b.cpus row.mask) f.said) (sym x.number)
    ∙ ap (λ m. target_after x.berth.line (lowest_in b.cpus m) f.said) (sym its.5)
    ∙ sym x.holds.aimed ∙ here_is x.berth x.vector x.holds.here x.has ∙ ap (λ (c : CpuNo). Some c) x.cpu_is

-- where driver 65535 has made all its calls on the line
aims_when_made : (b : BoardSeen) (vectors : ℕ) (es : List Event) (i : ℕ) (row : LineRow) (place : Place) (h : List Entry)
    → IsBoard b → IsForHotplug b → slice_get b.lines i ≡ Some row → place_of (fleet_after b vectors es).berths row.line ≡ Some place
    → IsLegal (line_of_row (planned b (fleet_after b vectors es)) row) h
    → due_call (line_of_row (planned b (fleet_after b vectors es)) row) last_driver (reverse h) ≡ None
    → AimsAt place.cpu (line_of_row (planned b (fleet_after b vectors es)) row) h
aims_when_made b vectors es i row place h board fits at is legal made =
    let f = fleet_after b vectors es in
    let def = line_of_row (planned b f) row in
    let said = (keeps_after b vectors es).said in
    let there : lowest_in b.cpus (last_mask row.mask (calls_on row.line (moves_of f.said))) ≡ Some place.cpu =
    mask_aims b row.line row.mask f.said said ∙ aimed_at b board f (aims_after b board vectors es) i row place at is in
    let both = goes_there def last_driver (moved_by_last b board fits f i row at said) place.cpu (reverse h) legal made
    (ap (λ cs. lowest_in b.cpus (last_mask row.mask cs)) (moves_by_last b board fits f row) ∙ there) in
    record { target_is = both.0; takes = both.1 }

pub moves_aim : (b : BoardSeen) (vectors : ℕ) (es : List Event) (i : ℕ) (row : LineRow) (place : Place) (h : List Entry)
    → IsBoard b → IsForHotplug b → slice_get b.lines i ≡ Some row → place_of (fleet_after b vectors es).berths row.line ≡ Some place
    → IsLegal (line_of_row (planned b (fleet_after b vectors es)) row) h
    → IsSettled (line_of_row (planned b (fleet_after b vectors es)) row) h
    → AimsAt place.cpu (line_of_row (planned b (fleet_after b vectors es)) row) h
moves_aim b vectors es i row place h board fits at is legal settled =
    aims_when_made b vectors es i row place h board fits at is legal (settled.complete last_driver)

-- ---- beside actors that hang

-- driver 65535 never hangs, and is never held up
pub never_caught_by_last : (b : BoardSeen) (vectors : ℕ) (es : List Event) (i : ℕ) (row : LineRow) → IsBoard b → IsForHotplug b
    → slice_get b.lines i ≡ Some row → (def : LineDef) → line_of_row (planned b (fleet_after b vectors es)) row ≡ def
    → (past : List Entry) → IsCaughtPast def past (actors.Driver last_driver) → ⊥
never_caught_by_last b vectors es i row board fits at def is past caught =
    never_caught def last_driver
    (subst (λ (d : LineDef). IsMovedBy d last_driver) is (moved_by_last b board fits (fleet_after b vectors es) i row at (keeps_after b vectors es).said))
    past caught

-- `MayBe` says what may still be due on the line: if that is no entry of driver 65535
pub moves_aim_beside : (b : BoardSeen) (vectors : ℕ) (es : List Event) (i : ℕ) (row : LineRow) (place : Place) (h : List Entry)
    → IsBoard b → IsForHotplug b → slice_get b.lines i ≡ Some row → place_of (fleet_after b vectors es).berths row.line ≡ Some place
    → IsLegal (line_of_row (planned b (fleet_after b vectors es)) row) h
    → (MayBe : Actor → Entry → Type 0)
    → ((a : Actor) (e : Entry) → next (line_of_row (planned b (fleet_after b vectors es)) row) h a ≡ Some e → MayBe a e)
    → ((e : Entry) → MayBe (actors.Driver last_driver) e → ⊥)
    → AimsAt place.cpu (line_of_row (planned b (fleet_after b vectors es)) row) h
moves_aim_beside b vectors es i row place h board fits at is legal MayBe due none =
    aims_when_made b vectors es i row place h board fits at is legal
    (move_is_due (line_of_row (planned b (fleet_after b vectors es)) row) last_driver
    (moved_by_last b board fits (fleet_after b vectors es) i row at (keeps_after b vectors es).said) (reverse h)
    (by_next (next (line_of_row (planned b (fleet_after b vectors es)) row) h (actors.Driver last_driver)) refl))
  where
    by_next : (o : Option Entry) → next (line_of_row (planned b (fleet_after b vectors es)) row) h (actors.Driver last_driver) ≡ o
        → next (line_of_row (planned b (fleet_after b vectors es)) row) h (actors.Driver last_driver) ≡ None
    by_next None rests = rests
    by_next (Some e) moves = absurd (none e (due (actors.Driver last_driver) e moves))
