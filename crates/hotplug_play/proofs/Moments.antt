-- Where lines are at each moment.
use Rattle.std.proofs.Common.{◌≡◌, ℕ, ◌%◌, ◌<◌, ◌≤◌, nat_lt, nat_le, Bool, true, false, cond, Option, Some, None, List, [], ◌∷◌, ◌++◌}
use Rattle.std.proofs.Common.{length, count_by, All, refl, ap, ◌∙◌, subst, arith, length-set, replicate}
use Rattle.std.specs.Prelude.{unwrap_or}
use Rattle.std.proofs.lemmas.List.{length-replicate}
use Rattle.std.proofs.lemmas.List.Elements.{All-append, All-weaker, All-push}
use Rattle.board_def.proofs.Rising.{head_of, tail_of, all_of}
use Rattle.irq_base.specs.declared.numbers.CpuNo.{CpuNo}
use Rattle.irq_base.specs.declared.numbers.LineNo.{LineNo}
use Rattle.board_def.specs.Layout.{layout_of}
use Rattle.board_def.specs.Seen.{BoardSeen}
use Rattle.vector_matrix.specs.declared.view.Vector.{Vector}
use Rattle.irq_hotplug.specs.Berths.{IfThere, IsOnline, IsPlaced, all_found, all_settled, left_out, settled, stands_at}
use Rattle.irq_hotplug.specs.Fleet.{FleetSeen, after_event, after_events, after_off_by, after_on_by, berths_of, first_fleet, fleet_after}
use Rattle.irq_hotplug.specs.Fleet.{found_off, off_answer, off_refusal, on_answer, unless_left, without_cpu}
use Rattle.irq_hotplug.specs.Kept.{IsBare}
use Rattle.irq_hotplug.specs.Placing.{is_online}
use Rattle.irq_hotplug.specs.Rows.{all_rows, is_move, rows_for}
use Rattle.irq_hotplug.specs.declared.berths.Berth.{Berth}
use Rattle.irq_hotplug.specs.declared.berths.Moving.{Moving}
use Rattle.irq_hotplug.specs.declared.berths.Moving.TheVariants as moving
use Rattle.irq_hotplug.specs.declared.events.Event.{Event}
use Rattle.irq_hotplug.specs.declared.events.Event.TheVariants as events
use Rattle.irq_hotplug.specs.declared.rows.FleetRow.{FleetRow}
use Rattle.irq_hotplug.specs.declared.rows.FleetRow.TheVariants as rows
use Rattle.irq_hotplug.specs.declared.rows.OffAnswer.{OffAnswer}
use Rattle.irq_hotplug.specs.declared.rows.OffAnswer.TheVariants as offs
use Rattle.irq_hotplug.specs.declared.rows.OnAnswer.{OnAnswer}
use Rattle.irq_hotplug.specs.declared.rows.OnAnswer.TheVariants as ons
use Rattle.irq_hotplug.proofs.Settling.{all_online, bare_counts, placed_first, placed_off, placed_on}
use Rattle.hotplug_play.specs.Moments.{ArePlaced, IsPlacing, KeepPlaces, queues_of}
use Rattle.hotplug_play.proofs.Finding.{found_once}
use Rattle.hotplug_play.proofs.Settled.{first_all, settled_all, settled_counts}

-- ---- an offline that is answered by Ok

no_refusal : (online : List Bool) (cpu : CpuNo) (left : Option LineNo)
    → unwrap_or (off_refusal online cpu) (unless_left left) ≡ offs.Ok → left ≡ None
no_refusal online cpu left ok = by (nat_lt cpu.0 (length online)) (is_online online cpu.0) (nat_le (count_by (λ on. on) online) 1) left ok
  where
    by : (there on last : Bool) (l : Option LineNo)
        → unwrap_or (cond there (cond on (cond last (Some offs.LastOne) None) (Some offs.NotOnline)) (Some offs.NotThere)) (unless_left l) ≡ offs.Ok
        → l ≡ None
    by true true false None ok = refl
    by true true false (Some x) ok = absurd cc
    by true true true l ok = absurd cc
    by true false last l ok = absurd cc
    by false on last l ok = absurd cc

-- ---- what is kept

module _ (b : BoardSeen) where
  abbrev HasQueues : Berth → Type 0
  HasQueues x = x.queues ≡ queues_of b x.line

  abbrev IsIn : Option Vector → Type 0
  IsIn p = IfThere (λ v. v.cpu.0 < b.cpus) p

  pub record Keeps (f : FleetSeen) : Type 0 where
    pub cpus : length f.online ≡ b.cpus
    pub differ : (v : Vector) → count_by (stands_at v) f.berths ≤ 1
    pub placed : All (IsPlaced f.vectors f.online) f.berths
    pub own : All HasQueues f.berths
    pub said : All (IsPlacing b) f.said

  queues_kept : (x : Berth) (p : Option Vector) → HasQueues x → HasQueues (settled p x)
  queues_kept x (Some v) is = is
  queues_kept x None is = is

  in_machine : (vectors : ℕ) (online : List Bool) → length online ≡ b.cpus → (p : Option Vector) → IfThere (IsOnline vectors online) p → IsIn p
  in_machine vectors online same None is = tt
  in_machine vectors online same (Some v) is = omega (arith, is.there, same)

  placing : (m : Moving) (x : Berth) (p : Option Vector) → HasQueues x → IsIn p → All (IsPlacing b) (rows_for m x p)
  placing m x (Some v) own inside =
      all_of (IsPlacing b) (rows.Placed x.line v x.queues (v.cpu.0 % x.queues) (is_move x.target v.cpu)) []
      (inside, own, ap (λ n. v.cpu.0 % n) own) (λ k d h. absurd (omega arith))
  placing moving.All x None own inside = all_of (IsPlacing b) (rows.Unplaced x.line) [] tt (λ k d h. absurd (omega arith))
  placing (moving.From cpu) x None own inside = λ k d h. absurd (omega arith)

  placings : (m : Moving) (bs : List Berth) (ps : List (Option Vector)) → All HasQueues bs → All IsIn ps → All (IsPlacing b) (all_rows m bs ps)
  placings m [] ps own inside = λ k d h. absurd (omega arith)
  placings m (x ∷ xs) [] own inside = λ k d h. absurd (omega arith)
  placings m (x ∷ xs) (p ∷ ps) own inside =
      All-append (IsPlacing b) (rows_for m x p) (all_rows m xs ps) (placing m x p (head_of HasQueues x xs own) (head_of IsIn p ps inside))
      (placings m xs ps (tail_of HasQueues x xs own) (tail_of IsIn p ps inside))

  one_each : (vectors : ℕ) (online : List Bool) (m : Moving) (bs : List Berth) → ((v : Vector) → count_by (stands_at v) bs ≤ 1)
      → (v : Vector) → count_by (stands_at v) (all_settled bs (all_found m vectors online bs [] bs)) ≤ 1
  one_each vectors online m bs differ v =
      omega (
        arith,
        settled_counts v bs (all_found m vectors online bs [] bs),
        found_once m vectors online bs [] bs (λ w. omega (arith, differ w)) v,
      )

  -- ---- at first

  bare : All IsBare (berths_of b)
  bare = first_all b IsBare (λ row. Unit {0}) (λ row is. record { queue = omega arith; place = refl }) b.lines (layout_of b) (λ k d h. tt)

  own_first : All HasQueues (berths_of b)
  own_first = first_all b HasQueues (λ row. Unit {0}) (λ row is. refl) b.lines (layout_of b) (λ k d h. tt)

  keeps_first : (vectors : ℕ) → Keeps (first_fleet b vectors)
  keeps_first vectors =
      let online = replicate b.cpus true in
      let found = all_found moving.All vectors online (berths_of b) [] (berths_of b) in
      let on : All (IfThere (IsOnline vectors online)) found =
      all_online moving.All vectors online (berths_of b) [] (berths_of b) (λ k d h. absurd (omega arith)) in
      let cpus : length online ≡ b.cpus = length-replicate b.cpus true in
      record {
        cpus = cpus;
        differ = one_each vectors online moving.All (berths_of b) (λ v. omega (arith, bare_counts (berths_of b) v bare));
        placed = placed_first vectors online (berths_of b) found bare on;
        own = settled_all HasQueues queues_kept (berths_of b) found own_first;
        said = placings moving.All (berths_of b) found own_first
            (All-weaker (IfThere (IsOnline vectors online)) IsIn (in_machine vectors online cpus) found on);
      }

  -- ---- events

  keeps_ok : (f : FleetSeen) (cpu : CpuNo) → off_answer f cpu ≡ offs.Ok → Keeps f → Keeps (after_off_by f cpu offs.Ok)
  keeps_ok f cpu ok keeps =
      let online = without_cpu f.online cpu in
      let found = found_off f cpu in
      let cpus : length online ≡ b.cpus = length-set f.online cpu.0 false ∙ keeps.cpus in
      let on : All (IfThere (IsOnline f.vectors online)) found =
      all_online (moving.From cpu) f.vectors online f.berths [] f.berths (λ k d h. absurd (omega arith)) in
      let said : All (IsPlacing b) (all_rows (moving.From cpu) f.berths found) =
      placings (moving.From cpu) f.berths found keeps.own (All-weaker (IfThere (IsOnline f.vectors online)) IsIn (in_machine f.vectors online cpus) found on) in
      record {
        cpus = cpus;
        differ = one_each f.vectors online (moving.From cpu) f.berths keeps.differ;
        placed = placed_off f.vectors f.online cpu f.berths found keeps.placed on
            (no_refusal f.online cpu (left_out (moving.From cpu) f.berths found) ok);
        own = settled_all HasQueues queues_kept f.berths found keeps.own;
        said = All-append (IsPlacing b) f.said (rows.Off cpu offs.Ok ∷ all_rows (moving.From cpu) f.berths found) keeps.said
            (all_of (IsPlacing b) (rows.Off cpu offs.Ok) (all_rows (moving.From cpu) f.berths found) tt said);
      }

  keeps_row : (f : FleetSeen) (row : FleetRow) → IsPlacing b row → Keeps f → Keeps (record f { said = f.said ++ row ∷ [] })
  keeps_row f row is keeps =
      record {
        cpus = keeps.cpus;
        differ = keeps.differ;
        placed = keeps.placed;
        own = keeps.own;
        said = All-push (IsPlacing b) f.said row keeps.said is;
      }

  keeps_off : (f : FleetSeen) (cpu : CpuNo) (answer : OffAnswer) → off_answer f cpu ≡ answer → Keeps f → Keeps (after_off_by f cpu answer)
  keeps_off f cpu offs.Ok is keeps = keeps_ok f cpu is keeps
  keeps_off f cpu offs.NotThere is keeps = keeps_row f (rows.Off cpu offs.NotThere) tt keeps
  keeps_off f cpu offs.NotOnline is keeps = keeps_row f (rows.Off cpu offs.NotOnline) tt keeps
  keeps_off f cpu offs.LastOne is keeps = keeps_row f (rows.Off cpu offs.LastOne) tt keeps
  keeps_off f cpu (offs.NoVector line) is keeps = keeps_row f (rows.Off cpu (offs.NoVector line)) tt keeps

  keeps_on : (f : FleetSeen) (cpu : CpuNo) (answer : OnAnswer) → Keeps f → Keeps (after_on_by f cpu answer)
  keeps_on f cpu ons.Ok keeps =
      record {
        cpus = length-set f.online cpu.0 true ∙ keeps.cpus;
        differ = keeps.differ;
        placed = placed_on f.vectors f.online cpu.0 f.berths keeps.placed;
        own = keeps.own;
        said = All-push (IsPlacing b) f.said (rows.On cpu ons.Ok) keeps.said tt;
      }
  keeps_on f cpu ons.NotThere keeps = keeps_row f (rows.On cpu ons.NotThere) tt keeps
  keeps_on f cpu ons.IsOnline keeps = keeps_row f (rows.On cpu ons.IsOnline) tt keeps

  keeps_event : (f : FleetSeen) (e : Event) → Keeps f → Keeps (after_event f e)
  keeps_event f (events.Off cpu) keeps = keeps_off f cpu (off_answer f cpu) refl keeps
  keeps_event f (events.On cpu) keeps = keeps_on f cpu (on_answer f.online cpu) keeps

  keeps_events : (f : FleetSeen) (es : List Event) → Keeps f → Keeps (after_events f es)
  keeps_events f [] keeps = keeps
  keeps_events f (e ∷ es) keeps = keeps_events (after_event f e) es (keeps_event f e keeps)

  pub keeps_after : (vectors : ℕ) (es : List Event) → Keeps (fleet_after b vectors es)
  keeps_after vectors es = keeps_events (first_fleet b vectors) es (keeps_first vectors)

-- ---- the vectors of each processor

off_vectors : (f : FleetSeen) (cpu : CpuNo) (answer : OffAnswer) → (after_off_by f cpu answer).vectors ≡ f.vectors
off_vectors f cpu offs.Ok = refl
off_vectors f cpu offs.NotThere = refl
off_vectors f cpu offs.NotOnline = refl
off_vectors f cpu offs.LastOne = refl
off_vectors f cpu (offs.NoVector line) = refl

on_vectors : (f : FleetSeen) (cpu : CpuNo) (answer : OnAnswer) → (after_on_by f cpu answer).vectors ≡ f.vectors
on_vectors f cpu ons.Ok = refl
on_vectors f cpu ons.NotThere = refl
on_vectors f cpu ons.IsOnline = refl

event_vectors : (f : FleetSeen) (e : Event) → (after_event f e).vectors ≡ f.vectors
event_vectors f (events.Off cpu) = off_vectors f cpu (off_answer f cpu)
event_vectors f (events.On cpu) = on_vectors f cpu (on_answer f.online cpu)

same_vectors : (f : FleetSeen) (es : List Event) → (after_events f es).vectors ≡ f.vectors
same_vectors f [] = refl
same_vectors f (e ∷ es) = same_vectors (after_event f e) es ∙ event_vectors f e

pub are_placed : (b : BoardSeen) (vectors : ℕ) (es : List Event) → ArePlaced b vectors (fleet_after b vectors es)
are_placed b vectors es =
    let f = fleet_after b vectors es in
    let keeps = keeps_after b vectors es in
    let same : f.vectors ≡ vectors = same_vectors (first_fleet b vectors) es in
    record {
      cpus = keeps.cpus;
      vectors_are = same;
      differ = keeps.differ;
      online = subst (λ n. All (IsPlaced n f.online) f.berths) same keeps.placed;
      queues = keeps.said;
    }

pub keep_places : (b : BoardSeen) (vectors : ℕ) (es : List Event) → KeepPlaces b vectors es
keep_places b vectors es before after is = are_placed b vectors before
