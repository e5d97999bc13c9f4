-- Each line's target is the one that its rows put in force last.
use Rattle.std.proofs.Common.{◌≡◌, ℕ, suc, ◌%◌, ◌<◌, ◌==◌, Bool, true, false, not, cond, Option, Some, None, List, [], ◌∷◌, ◌++◌, map}
use Rattle.std.proofs.Common.{slice_get, get_or, All, refl, ap, ◌∙◌, sym, subst, arith, append_assoc, eqb-true, replicate, take}
use Rattle.std.proofs.lemmas.List.Elements.{All-weaker}
use Rattle.std.proofs.lemmas.Option.{slice_get-get_or}
use Rattle.board_def.proofs.Rising.{Rises, head_of, tail_of, all_of, differ, differ_back, equals_itself, line_at, rises_on}
use Rattle.board_def.specs.Layout.{layout_of}
use Rattle.board_def.specs.LineOf.{find_line, line_of_row}
use Rattle.board_def.specs.Rules.{IsBoard}
use Rattle.board_def.specs.Seen.{BoardSeen}
use Rattle.board_def.specs.declared.rows.LineRow.{LineRow}
use Rattle.domain_rules.specs.declared.layouts.Placement.{Placement}
use Rattle.domain_rules.specs.declared.layouts.Placement.TheVariants as placements
use Rattle.irq_base.specs.declared.numbers.CpuNo.{CpuNo}
use Rattle.irq_base.specs.declared.numbers.LineNo.{LineNo}
use Rattle.irq_model.specs.Signal.{lowest_in}
use Rattle.vector_matrix.specs.declared.view.Vector.{Vector}
use Rattle.irq_hotplug.specs.Berths.{IfThere, all_found, all_settled, settled}
use Rattle.irq_hotplug.specs.Fleet.{FleetSeen, after_event, after_events, after_off_by, after_on_by, berth_of, berths_from, berths_of, first_fleet, fleet_after}
use Rattle.irq_hotplug.specs.Fleet.{found_off, off_answer, on_answer}
use Rattle.irq_hotplug.specs.Rows.{all_rows, is_move, rows_for}
use Rattle.irq_hotplug.specs.declared.berths.Berth.{Berth}
use Rattle.irq_hotplug.specs.declared.berths.Moving.{Moving}
use Rattle.irq_hotplug.specs.declared.berths.Moving.TheVariants as moving
use Rattle.irq_hotplug.specs.declared.events.Event.{Event}
use Rattle.irq_hotplug.specs.declared.events.Event.TheVariants as events
use Rattle.irq_hotplug.specs.declared.rows.FleetRow.{FleetRow}
use Rattle.irq_hotplug.specs.declared.rows.FleetRow.TheVariants as rows
use Rattle.irq_hotplug.specs.declared.rows.OffAnswer.{OffAnswer}
use Rattle.irq_hotplug.specs.declared.rows.OffAnswer.TheVariants as offs
use Rattle.irq_hotplug.specs.declared.rows.OnAnswer.{OnAnswer}
use Rattle.irq_hotplug.specs.declared.rows.OnAnswer.TheVariants as ons
use Rattle.hotplug_play.proofs.Settled.{first_all, settled_all}

-- ---- what rows put in force

-- the line's target after a row, if it was this
abbrev pub target_by : LineNo → Option CpuNo → FleetRow → Option CpuNo
target_by line t (rows.Placed l v queues queue true) = cond (l.0 == line.0) (Some v.cpu) t
target_by line t (rows.Placed l v queues queue false) = t
target_by line t _ = t

-- the line's target after all rows
abbrev pub target_after : LineNo → Option CpuNo → List FleetRow → Option CpuNo
target_after line t [] = t
target_after line t (row ∷ said) = target_after line (target_by line t row) said

pub target_both : (line : LineNo) (t : Option CpuNo) (xs ys : List FleetRow) → target_after line t (xs ++ ys) ≡ target_after line (target_after line t xs) ys
target_both line t [] ys = refl
target_both line t (x ∷ xs) ys = target_both line (target_by line t x) xs ys

other_move : (l line : LineNo) (v : Vector) (queues queue : ℕ) (t : Option CpuNo) (moved : Bool) → (l.0 == line.0) ≡ false
    → target_by line t (rows.Placed l v queues queue moved) ≡ t
other_move l line v queues queue t true other = ap (λ same. cond same (Some v.cpu) t) other
other_move l line v queues queue t false other = refl

-- a row of another line puts nothing in force
other_rows : (m : Moving) (x : Berth) (p : Option Vector) (line : LineNo) (t : Option CpuNo) → (x.line.0 == line.0) ≡ false
    → target_after line t (rows_for m x p) ≡ t
other_rows m x (Some v) line t other = other_move x.line line v x.queues (v.cpu.0 % x.queues) t (is_move x.target v.cpu) other
other_rows moving.All x None line t other = refl
other_rows (moving.From cpu) x None line t other = refl

abbrev IsOther : LineNo → Berth → Type 0
IsOther line x = (x.line.0 == line.0) ≡ false

others_rows : (m : Moving) (bs : List Berth) (ps : List (Option Vector)) (line : LineNo) (t : Option CpuNo) → All (IsOther line) bs
    → target_after line t (all_rows m bs ps) ≡ t
others_rows m [] ps line t others = refl
others_rows m (x ∷ xs) [] line t others = refl
others_rows m (x ∷ xs) (p ∷ ps) line t others =
    target_both line t (rows_for m x p) (all_rows m xs ps)
    ∙ ap (λ u. target_after line u (all_rows m xs ps)) (other_rows m x p line t (head_of (IsOther line) x xs others))
    ∙ others_rows m xs ps line t (tail_of (IsOther line) x xs others)

stays : (now : Option CpuNo) (cpu : CpuNo) → is_move now cpu ≡ false → now ≡ Some cpu
stays None cpu none = absurd cc
stays (Some c) cpu none = let named : ℕ → CpuNo = λ n. record { 0 = n } in ap (λ n. Some (named n)) (eqb-true c.0 cpu.0 (is (c.0 == cpu.0) none))
  where
    is : (t : Bool) → not t ≡ false → t ≡ true
    is true none = refl
    is false none = absurd cc

own_move : (x : Berth) (v : Vector) (queues queue : ℕ) (moved : Bool) → is_move x.target v.cpu ≡ moved
    → target_by x.line x.target (rows.Placed x.line v queues queue moved) ≡ Some v.cpu
own_move x v queues queue true is = ap (λ same. cond same (Some v.cpu) x.target) (equals_itself x.line.0)
own_move x v queues queue false is = stays x.target v.cpu is

own_rows : (m : Moving) (x : Berth) (p : Option Vector) → target_after x.line x.target (rows_for m x p) ≡ (settled p x).target
own_rows m x (Some v) = own_move x v x.queues (v.cpu.0 % x.queues) (is_move x.target v.cpu) refl
own_rows moving.All x None = refl
own_rows (moving.From cpu) x None = refl

-- ---- lines apart

-- the numbers of the lines rise
abbrev pub AreApart : List Berth → Type 0
AreApart [] = Unit {0}
AreApart (x ∷ xs) = All (λ y. x.line.0 < y.line.0) xs × AreApart xs

above_kept : (n : ℕ) (x : Berth) (p : Option Vector) → n < x.line.0 → n < (settled p x).line.0
above_kept n x (Some v) is = is
above_kept n x None is = is

settled_line : (x : Berth) (p : Option Vector) → (settled p x).line.0 ≡ x.line.0
settled_line x (Some v) = refl
settled_line x None = refl

apart_kept : (bs : List Berth) (ps : List (Option Vector)) → AreApart bs → AreApart (all_settled bs ps)
apart_kept [] ps apart = tt
apart_kept (x ∷ xs) [] apart = tt
apart_kept (x ∷ xs) (p ∷ ps) apart = (
  subst (λ n. All (λ y. n < y.line.0) (all_settled xs ps)) (sym (settled_line x p))
      (settled_all (λ y. x.line.0 < y.line.0) (above_kept x.line.0) xs ps apart.0),
  apart_kept xs ps apart.1,
)

-- ---- aimed lines

module _ (cpus : ℕ) where
  -- the line's target is what the rows put in force
  abbrev pub IsAimed : List FleetRow → Berth → Type 0
  IsAimed said x = x.target ≡ target_after x.line (lowest_in cpus x.mask) said

  aimed_here : (m : Moving) (said more : List FleetRow) (x : Berth) (p : Option Vector) → IsAimed said x
      → ((t : Option CpuNo) → target_after x.line t more ≡ t) → IsAimed (said ++ (rows_for m x p ++ more)) (settled p x)
  aimed_here m said more x p aimed quiet = by p (own_rows m x p) refl
    where
      at : (r : List FleetRow) → target_after x.line (lowest_in cpus x.mask) (said ++ (r ++ more)) ≡ target_after x.line x.target r
      at r =
          target_both x.line (lowest_in cpus x.mask) said (r ++ more)
          ∙ target_both x.line (target_after x.line (lowest_in cpus x.mask) said) r more
          ∙ quiet (target_after x.line (target_after x.line (lowest_in cpus x.mask) said) r)
          ∙ ap (λ t. target_after x.line t r) (sym aimed)

      by : (q : Option Vector) → target_after x.line x.target (rows_for m x p) ≡ (settled q x).target → q ≡ p
          → IsAimed (said ++ (rows_for m x p ++ more)) (settled q x)
      by (Some v) own is = sym own ∙ sym (at (rows_for m x p))
      by None own is = sym own ∙ sym (at (rows_for m x p))

  aimed_behind : (said first more : List FleetRow) (y : Berth) → ((t : Option CpuNo) → target_after y.line t first ≡ t) → IsAimed (said ++ more) y
      → IsAimed (said ++ (first ++ more)) y
  aimed_behind said first more y quiet aimed =
      aimed ∙ target_both y.line (lowest_in cpus y.mask) said more
      ∙ ap (λ t. target_after y.line t more) (sym (quiet (target_after y.line (lowest_in cpus y.mask) said)))
      ∙ sym (target_both y.line (target_after y.line (lowest_in cpus y.mask) said) first more)
      ∙ sym (target_both y.line (lowest_in cpus y.mask) said (first ++ more))

  pub aimed_all : (m : Moving) (said : List FleetRow) (bs : List Berth) (ps : List (Option Vector)) → AreApart bs → All (IsAimed said) bs
      → All (IsAimed (said ++ all_rows m bs ps)) (all_settled bs ps)
  aimed_all m said [] ps apart aimed = λ k d h. absurd (omega arith)
  aimed_all m said (x ∷ xs) [] apart aimed = λ k d h. absurd (omega arith)
  aimed_all m said (x ∷ xs) (p ∷ ps) apart aimed =
      let rest : All (IsAimed (said ++ all_rows m xs ps)) (all_settled xs ps) = aimed_all m said xs ps apart.1 (tail_of (IsAimed said) x xs aimed) in
      let above : All (λ y. x.line.0 < y.line.0) (all_settled xs ps) = settled_all (λ y. x.line.0 < y.line.0) (above_kept x.line.0) xs ps apart.0 in
      all_of (IsAimed (said ++ (rows_for m x p ++ all_rows m xs ps))) (settled p x) (all_settled xs ps)
      (aimed_here m said (all_rows m xs ps) x p (head_of (IsAimed said) x xs aimed)
      (λ t. others_rows m xs ps x.line t (All-weaker (λ y. x.line.0 < y.line.0) (IsOther x.line) (λ y is. differ_back x.line.0 y.line.0 is) xs apart.0)))
      (λ k d h. let y = get_or (all_settled xs ps) k d in
      aimed_behind said (rows_for m x p) (all_rows m xs ps) y (λ t. other_rows m x p y.line t (differ x.line.0 y.line.0 (above k d h))) (rest k d h))

  aimed_quiet : (said : List FleetRow) (row : FleetRow) (bs : List Berth) → ((line : LineNo) (t : Option CpuNo) → target_by line t row ≡ t)
      → All (IsAimed said) bs → All (IsAimed (said ++ row ∷ [])) bs
  aimed_quiet said row bs quiet aimed =
      All-weaker (IsAimed said) (IsAimed (said ++ row ∷ [])) (λ x is. is ∙ sym (target_both x.line (lowest_in cpus x.mask) said (row ∷ [])
      ∙ quiet x.line (target_after x.line (lowest_in cpus x.mask) said))) bs aimed

-- a placed line's target is its place's processor
abbrev pub IsHere : Berth → Type 0
IsHere x = IfThere (λ v. x.target ≡ Some v.cpu) x.place

here_kept : (x : Berth) (p : Option Vector) → IsHere x → IsHere (settled p x)
here_kept x (Some v) is = refl
here_kept x None is = is

-- ---- the board's lines

-- the line is that of a row that takes part, and has its mask
pub record IsLineOf (b : BoardSeen) (x : Berth) : Type 0 where
  pub index : ℕ
  pub row : LineRow
  pub virq : ℕ
  pub path : List (ℕ × ℕ)
  pub there : slice_get b.lines index ≡ Some row
  pub takes_part : slice_get (layout_of b) index ≡ Some (placements.Mapped virq path)
  pub number : row.line ≡ x.line
  pub mask : x.mask ≡ row.mask

line_kept : (b : BoardSeen) (x : Berth) (p : Option Vector) → IsLineOf b x → IsLineOf b (settled p x)
line_kept b x (Some v) is =
    record {
      index = is.index;
      row = is.row;
      virq = is.virq;
      path = is.path;
      there = is.there;
      takes_part = is.takes_part;
      number = is.number;
      mask = is.mask;
    }
line_kept b x None is = is

first_lines : (b : BoardSeen) (P : Berth → Type 0) (rows : List LineRow) (places : List Placement)
    → ((k : ℕ) (row : LineRow) (virq : ℕ) (path : List (ℕ × ℕ)) → slice_get rows k ≡ Some row → slice_get places k ≡ Some (placements.Mapped virq path)
    → P (berth_of (line_of_row b row)))
    → All P (berths_from (map (line_of_row b) rows) places)
first_lines b P [] places makes = λ k d h. absurd (omega arith)
first_lines b P (row ∷ rows) [] makes = λ k d h. absurd (omega arith)
first_lines b P (row ∷ rows) (placements.Mapped virq path ∷ places) makes =
    all_of P (berth_of (line_of_row b row)) (berths_from (map (line_of_row b) rows) places) (makes 0 row virq path refl refl)
    (first_lines b P rows places (λ k. makes (suc k)))
first_lines b P (row ∷ rows) (placements.Refused why ∷ places) makes = first_lines b P rows places (λ k. makes (suc k))

abbrev RowsApart : List LineRow → Type 0
RowsApart [] = Unit {0}
RowsApart (x ∷ xs) = All (λ y. x.line.0 < y.line.0) xs × RowsApart xs

rows_apart : (xs : List LineRow) → Rises (λ (row : LineRow). row.line.0) xs → RowsApart xs
rows_apart [] rises = tt
rows_apart (x ∷ xs) rises = (
  λ k d h. head_of (λ (e : LineRow). e.line.0 < (get_or xs k d).line.0) x (take k xs) (rises (suc k) (get_or xs k d) (slice_get-get_or xs k d h)),
  rows_apart xs (rises_on (λ (row : LineRow). row.line.0) x xs rises),
)

lines_rise : (b : BoardSeen) → IsBoard b → Rises (λ (row : LineRow). row.line.0) b.lines
lines_rise b board i row at = (board.lines i row at).rises

first_apart : (b : BoardSeen) (rows : List LineRow) (places : List Placement) → RowsApart rows → AreApart (berths_from (map (line_of_row b) rows) places)
first_apart b [] places apart = tt
first_apart b (row ∷ rows) [] apart = tt
first_apart b (row ∷ rows) (placements.Mapped virq path ∷ places) apart =
    (first_all b (λ y. row.line.0 < y.line.0) (λ r. row.line.0 < r.line.0) (λ r is. is) rows places apart.0, first_apart b rows places apart.1)
first_apart b (row ∷ rows) (placements.Refused why ∷ places) apart = first_apart b rows places apart.1

-- the row with a line's number
pub the_row : (b : BoardSeen) → IsBoard b → (i : ℕ) (row : LineRow) → slice_get b.lines i ≡ Some row → find_line b.lines row.line ≡ Some row
the_row b board i row at = line_at b.lines i row (lines_rise b board) at

-- ---- at each moment

pub record Aims (b : BoardSeen) (f : FleetSeen) : Type 0 where
  pub lines : All (IsLineOf b) f.berths
  pub apart : AreApart f.berths
  pub aimed : All (IsAimed b.cpus f.said) f.berths
  pub here : All IsHere f.berths

module _ (b : BoardSeen) where
  aims_first : IsBoard b → (vectors : ℕ) → Aims b (first_fleet b vectors)
  aims_first board vectors =
      let bare = berths_of b in
      let found = all_found moving.All vectors (replicate b.cpus true) bare [] bare in
      let lines : All (IsLineOf b) bare =
      first_lines b (IsLineOf b) b.lines (layout_of b) (λ k row virq path at place. record {
        index = k;
        row = row;
        virq = virq;
        path = path;
        there = at;
        takes_part = place;
        number = refl;
        mask = refl;
      }) in
      let apart : AreApart bare = first_apart b b.lines (layout_of b) (rows_apart b.lines (lines_rise b board)) in
      let aimed : All (IsAimed b.cpus []) bare =
      first_all b (IsAimed b.cpus []) (λ row. Unit {0}) (λ row is. refl) b.lines (layout_of b) (λ k d h. tt) in
      let here : All IsHere bare = first_all b IsHere (λ row. Unit {0}) (λ row is. tt) b.lines (layout_of b) (λ k d h. tt) in
      record {
        lines = settled_all (IsLineOf b) (line_kept b) bare found lines;
        apart = apart_kept bare found apart;
        aimed = aimed_all b.cpus moving.All [] bare found apart aimed;
        here = settled_all IsHere here_kept bare found here;
      }

  aims_ok : (f : FleetSeen) (cpu : CpuNo) → Aims b f → Aims b (after_off_by f cpu offs.Ok)
  aims_ok f cpu aims =
      let found = found_off f cpu in
      let first : All (IsAimed b.cpus (f.said ++ rows.Off cpu offs.Ok ∷ [])) f.berths =
      aimed_quiet b.cpus f.said (rows.Off cpu offs.Ok) f.berths (λ line t. refl) aims.aimed in
      record {
        lines = settled_all (IsLineOf b) (line_kept b) f.berths found aims.lines;
        apart = apart_kept f.berths found aims.apart;
        aimed = subst (λ said. All (IsAimed b.cpus said) (all_settled f.berths found))
            (append_assoc f.said (rows.Off cpu offs.Ok ∷ []) (all_rows (moving.From cpu) f.berths found))
            (aimed_all b.cpus (moving.From cpu) (f.said ++ rows.Off cpu offs.Ok ∷ []) f.berths found aims.apart first);
        here = settled_all IsHere here_kept f.berths found aims.here;
      }

  aims_row : (f : FleetSeen) (row : FleetRow) → ((line : LineNo) (t : Option CpuNo) → target_by line t row ≡ t) → Aims b f
      → Aims b (record f { said = f.said ++ row ∷ [] })
  aims_row f row quiet aims =
      record { lines = aims.lines; apart = aims.apart; aimed = aimed_quiet b.cpus f.said row f.berths quiet aims.aimed; here = aims.here }

  aims_off : (f : FleetSeen) (cpu : CpuNo) (answer : OffAnswer) → Aims b f → Aims b (after_off_by f cpu answer)
  aims_off f cpu offs.Ok aims = aims_ok f cpu aims
  aims_off f cpu offs.NotThere aims = aims_row f (rows.Off cpu offs.NotThere) (λ line t. refl) aims
  aims_off f cpu offs.NotOnline aims = aims_row f (rows.Off cpu offs.NotOnline) (λ line t. refl) aims
  aims_off f cpu offs.LastOne aims = aims_row f (rows.Off cpu offs.LastOne) (λ line t. refl) aims
  aims_off f cpu (offs.NoVector line) aims = aims_row f (rows.Off cpu (offs.NoVector line)) (λ line t. refl) aims

  aims_on : (f : FleetSeen) (cpu : CpuNo) (answer : OnAnswer) → Aims b f → Aims b (after_on_by f cpu answer)
  aims_on f cpu ons.Ok aims =
      record {
        lines = aims.lines;
        apart = aims.apart;
        aimed = aimed_quiet b.cpus f.said (rows.On cpu ons.Ok) f.berths (λ line t. refl) aims.aimed;
        here = aims.here;
      }
  aims_on f cpu ons.NotThere aims = aims_row f (rows.On cpu ons.NotThere) (λ line t. refl) aims
  aims_on f cpu ons.IsOnline aims = aims_row f (rows.On cpu ons.IsOnline) (λ line t. refl) aims

  aims_event : (f : FleetSeen) (e : Event) → Aims b f → Aims b (after_event f e)
  aims_event f (events.Off cpu) aims = aims_off f cpu (off_answer f cpu) aims
  aims_event f (events.On cpu) aims = aims_on f cpu (on_answer f.online cpu) aims

  aims_events : (f : FleetSeen) (es : List Event) → Aims b f → Aims b (after_events f es)
  aims_events f [] aims = aims
  aims_events f (e ∷ es) aims = aims_events (after_event f e) es (aims_event f e aims)

  pub aims_after : IsBoard b → (vectors : ℕ) (es : List Event) → Aims b (fleet_after b vectors es)
  aims_after board vectors es = aims_events (first_fleet b vectors) es (aims_first board vectors)
