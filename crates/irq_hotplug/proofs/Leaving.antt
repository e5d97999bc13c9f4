-- What a fleet keeps as a processor goes offline, as all lines are placed first, and as it says something.
use Rattle.std.proofs.Common.{◌≡◌, ℕ, ◌≤◌, nat_lt, nat_le, Bool, true, false, cond, Option, Some, None, List, [], ◌∷◌}
use Rattle.std.proofs.Common.{◌++◌, length, count_by, All, refl, ap, ◌∙◌, sym, subst, arith, append_assoc, zero-add}
use Rattle.std.proofs.Common.{length-set}
use Rattle.std.specs.Prelude.{slice_set, unwrap_or, OnErr, OnOk, Result, Ok, Err}
use Rattle.std.specs.List.{list_any}
use Rattle.std.proofs.lemmas.List.{set-set, set-get_or}
use Rattle.std.proofs.lemmas.List.Elements.{All-append, All-push}
use Rattle.board_def.proofs.Rising.{all_of}
use Rattle.irq_base.specs.declared.numbers.CpuNo.{CpuNo}
use Rattle.irq_base.specs.declared.numbers.LineNo.{LineNo}
use Rattle.vector_matrix.specs.Vectors.{count_of, is_in, same_vector}
use Rattle.vector_matrix.specs.declared.view.Vector.{Vector}
use Rattle.irq_hotplug.specs.Berths.{IfThere, IsOnline, IsPlaced, all_found, all_settled, left_out, stands_at}
use Rattle.irq_hotplug.specs.Fleet.{FleetSeen, after_off, after_off_by, found_off, off_answer, off_refusal, unless_left, without_cpu}
use Rattle.irq_hotplug.specs.Held.{HeldSeen, IsSized}
use Rattle.irq_hotplug.specs.Kept.{HasQueue, IsBare, IsFleet, IsSaidOf}
use Rattle.irq_hotplug.specs.Placing.{is_online}
use Rattle.irq_hotplug.specs.Rows.{all_rows}
use Rattle.irq_hotplug.specs.declared.berths.Berth.{Berth}
use Rattle.irq_hotplug.specs.declared.berths.Moving.{Moving}
use Rattle.irq_hotplug.specs.declared.berths.Moving.TheVariants as moving
use Rattle.irq_hotplug.specs.declared.rows.FleetRow.{FleetRow}
use Rattle.irq_hotplug.specs.declared.rows.FleetRow.TheVariants as rows
use Rattle.irq_hotplug.specs.declared.rows.OffAnswer.{OffAnswer}
use Rattle.irq_hotplug.specs.declared.rows.OffAnswer.TheVariants as offs
use Rattle.irq_hotplug.proofs.Counting.{any_counts}
use Rattle.irq_hotplug.proofs.Saying.{rows_said, said_kept}
use Rattle.irq_hotplug.proofs.Settling.{all_online, bare_queues, found_length, placed_first, placed_off, settled_length, settled_queues}

none_before : (P : Option Vector → Type 0) → All P []
none_before P = λ k d h. absurd (omega arith)

found_all : (m : Moving) (vectors : ℕ) (online : List Bool) (berths : List Berth)
    → All (IfThere (IsOnline vectors online)) (all_found m vectors online berths [] berths)
found_all m vectors online berths = all_online m vectors online berths [] berths (none_before (IfThere (IsOnline vectors online)))

pub as_many_found : (m : Moving) (vectors : ℕ) (online : List Bool) (berths : List Berth) → length (all_found m vectors online berths [] berths) ≡ length berths
as_many_found m vectors online berths = found_length m vectors online berths [] berths ∙ zero-add (length berths)

-- what is held is what the lines have
pub held_is_there : (held : List Vector) (berths : List Berth) (v : Vector) → count_of v held ≡ count_by (stands_at v) berths
    → is_in v held ≡ list_any (stands_at v) berths
held_is_there held berths v tie = any_counts (same_vector v) held ∙ ap (nat_lt 0) tie ∙ sym (any_counts (stands_at v) berths)

-- one row more, or none if there was no memory
pub said_more : {A B : Type 0} (berths : List Berth) (said now : List FleetRow) (row : FleetRow) (r : Result A B) → OnOk r (now ≡ said ++ row ∷ [])
    → OnErr r (now ≡ said)
    → All (IsSaidOf berths) said → IsSaidOf berths row → All (IsSaidOf berths) now
said_more berths said now row (Ok a) done failed all is = subst (All (IsSaidOf berths)) (sym done) (All-push (IsSaidOf berths) said row all is)
said_more berths said now row (Err b) done failed all is = subst (All (IsSaidOf berths)) (sym failed) all

-- a processor that was taken out and put back
pub back_online : (online : List Bool) (c : ℕ) → is_online online c ≡ true → slice_set (slice_set online c false) c true ≡ online
back_online online c is = set-set online c false true ∙ ap (slice_set online c) (sym is) ∙ set-get_or online c false

-- all lines are placed first
pub fleet_first : (h : HeldSeen) (vectors : ℕ) (online : List Bool) (bare next : List Berth) (said : List FleetRow)
    → IsSized h online → h.vectors ≡ vectors → ((v : Vector) → count_of v h.held ≡ count_by (stands_at v) next) → length bare ≤ 64 → All IsBare bare
    → next ≡ all_settled bare (all_found moving.All vectors online bare [] bare)
    → said ≡ all_rows moving.All bare (all_found moving.All vectors online bare [] bare)
    → IsFleet h vectors online next said
fleet_first h vectors online bare next said sized number tie few bare_all next_is said_is =
    let found = all_found moving.All vectors online bare [] bare in
    let all = found_all moving.All vectors online bare in
    let many = as_many_found moving.All vectors online bare in
    record {
      sized = sized;
      number = number;
      tie = tie;
      queues = subst (All HasQueue) (sym next_is) (settled_queues bare found (bare_queues bare bare_all));
      placed = subst (All (IsPlaced vectors online)) (sym next_is) (placed_first vectors online bare found bare_all all);
      few = omega (arith, settled_length bare found, ap length next_is, few);
      rows = subst (λ bs. All (IsSaidOf bs) said) (sym next_is) (subst (All (IsSaidOf (all_settled bare found))) (sym said_is)
          (rows_said vectors online moving.All bare found sized.most many all));
    }

-- a processor is offline, and its lines are settled on the others
pub fleet_emptied : (h after : HeldSeen) (vectors : ℕ) (online : List Bool) (cpu : CpuNo) (berths next : List Berth) (said now : List FleetRow)
    (answer : OffAnswer)
    → IsFleet h vectors online berths said → after.cpus ≡ h.cpus → after.vectors ≡ h.vectors → ((v : Vector)
    → count_of v after.held ≡ count_by (stands_at v) next)
    → next ≡ all_settled berths (all_found (moving.From cpu) vectors (without_cpu online cpu) berths [] berths)
    → now ≡ said ++ rows.Off cpu answer ∷ all_rows (moving.From cpu) berths (all_found (moving.From cpu) vectors (without_cpu online cpu) berths [] berths)
    → left_out (moving.From cpu) berths (all_found (moving.From cpu) vectors (without_cpu online cpu) berths [] berths) ≡ None
    → IsFleet after vectors (without_cpu online cpu) next now
fleet_emptied h after vectors online cpu berths next said now answer inv cpus number tie next_is now_is none =
    let rest = without_cpu online cpu in
    let found = all_found (moving.From cpu) vectors rest berths [] berths in
    let all = found_all (moving.From cpu) vectors rest berths in
    let many = as_many_found (moving.From cpu) vectors rest berths in
    let most : length rest ≤ 32 = omega (arith, length-set online cpu.0 false, inv.sized.most) in
    let told = All-append (IsSaidOf (all_settled berths found)) said (rows.Off cpu answer ∷ all_rows (moving.From cpu) berths found)
    (said_kept berths found said many inv.rows)
    (all_of (IsSaidOf (all_settled berths found)) (rows.Off cpu answer) (all_rows (moving.From cpu) berths found) tt
    (rows_said vectors rest (moving.From cpu) berths found most many all)) in
    record {
      sized = record { each = length-set online cpu.0 false ∙ inv.sized.each ∙ sym cpus; most = most };
      number = number ∙ inv.number;
      tie = tie;
      queues = subst (All HasQueue) (sym next_is) (settled_queues berths found inv.queues);
      placed = subst (All (IsPlaced vectors rest)) (sym next_is) (placed_off vectors online cpu berths found inv.placed all none);
      few = omega (arith, settled_length berths found, ap length next_is, inv.few);
      rows = subst (λ bs. All (IsSaidOf bs) now) (sym next_is) (subst (All (IsSaidOf (all_settled berths found))) (sym now_is) told);
    }

-- a processor stays online, since a line found no vector
pub fleet_stays : (h after : HeldSeen) (vectors : ℕ) (online back : List Bool) (berths : List Berth) (said : List FleetRow) (cpu : CpuNo)
    (answer : OffAnswer) (now : List FleetRow)
    → IsFleet h vectors online berths said → back ≡ online → after.cpus ≡ h.cpus → after.vectors ≡ h.vectors → ((v : Vector)
    → count_of v after.held ≡ count_by (stands_at v) berths)
    → now ≡ said ++ rows.Off cpu answer ∷ [] → IsFleet after vectors back berths now
fleet_stays h after vectors online back berths said cpu answer now inv is cpus number tie now_is =
    record {
      sized = record { each = ap length is ∙ inv.sized.each ∙ sym cpus; most = subst (λ (xs : List Bool). length xs ≤ 32) (sym is) inv.sized.most };
      number = number ∙ inv.number;
      tie = tie;
      queues = inv.queues;
      placed = subst (λ (xs : List Bool). All (IsPlaced vectors xs) berths) (sym is) inv.placed;
      few = inv.few;
      rows = subst (All (IsSaidOf berths)) (sym now_is) (All-push (IsSaidOf berths) said (rows.Off cpu answer) inv.rows tt);
    }

-- what is said first of a processor, and then of its lines
pub said_both : (said put now : List FleetRow) (row : FleetRow) (more : List FleetRow) → put ≡ said ++ row ∷ [] → now ≡ put ++ more → now ≡ said ++ row ∷ more
said_both said put now row more first then = then ∙ ap (λ xs. xs ++ more) first ∙ append_assoc said (row ∷ []) more

-- ---- what is answered

-- a processor that may go is online
pub was_online : (online : List Bool) (cpu : CpuNo) → off_refusal online cpu ≡ None → is_online online cpu.0 ≡ true
was_online online cpu may = by (nat_lt cpu.0 (length online)) (is_online online cpu.0) may
  where
    by : (there on : Bool)
        → cond there (cond on (cond (nat_le (count_by (λ b. b) online) 1) (Some offs.LastOne) None) (Some offs.NotOnline)) (Some offs.NotThere) ≡ None
        → on ≡ true
    by true true none = refl
    by true false none = absurd cc
    by false on none = absurd cc

-- what the lines find is what the definition says
pub found_is : (f : FleetSeen) (cpu : CpuNo) (vectors : ℕ) (online : List Bool) (berths : List Berth) (found : List (Option Vector))
    → vectors ≡ f.vectors → online ≡ without_cpu f.online cpu → berths ≡ f.berths → found ≡ all_found (moving.From cpu) vectors online berths [] berths
    → found ≡ found_off f cpu
found_is f cpu vectors online berths found vectors_is online_is berths_is is =
    is ∙ ap (λ n. all_found (moving.From cpu) n online berths [] berths) vectors_is
    ∙ ap (λ xs. all_found (moving.From cpu) f.vectors xs berths [] berths) online_is
    ∙ ap (λ bs. all_found (moving.From cpu) f.vectors (without_cpu f.online cpu) bs [] bs) berths_is

-- a line found no vector
pub after_refused : (f : FleetSeen) (cpu : CpuNo) (line : LineNo) (berths : List Berth) (found : List (Option Vector)) (left : Option LineNo)
    (back : List Bool) (now : List FleetRow)
    → off_refusal f.online cpu ≡ None → found ≡ found_off f cpu → berths ≡ f.berths → left ≡ left_out (moving.From cpu) berths found → left ≡ Some line
    → back ≡ f.online → now ≡ f.said ++ rows.Off cpu (offs.NoVector line) ∷ []
    → record f { online = back; said = now } ≡ after_off f cpu
after_refused f cpu line berths found left back now may found_eq berths_eq left_is some back_is now_is =
    let at : List Bool → List FleetRow → FleetSeen = λ on said. record f { online = on; said = said } in
    let answered : off_answer f cpu ≡ offs.NoVector line =
    ap (λ r. unwrap_or r (unless_left (left_out (moving.From cpu) f.berths (found_off f cpu)))) may
    ∙ ap unless_left (sym (ap (λ bs. left_out (moving.From cpu) bs found) berths_eq ∙ ap (left_out (moving.From cpu) f.berths) found_eq) ∙ sym left_is
    ∙ some) in
    ap (λ on. at on now) back_is ∙ ap (at f.online) now_is ∙ sym (ap (after_off_by f cpu) answered)
