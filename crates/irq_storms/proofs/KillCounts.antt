-- A level line that was killed is disabled, and has no flow, until it is started. A level line that
-- answered a take with Off is masked and disabled until it is started.
use Rattle.std.proofs.Common.{◌≡◌, ◌+◌, ◌≤◌, ◌⊎◌, inl, inr, Bool, true, false, not, ◌||◌, ◌&&◌, cond, List, [], ◌∷◌, refl, sym, ap, ◌∙◌, subst, arith}
use Rattle.std.proofs.lemmas.Bool.{or_parts, or_left, false_from_ne_true, true_from_ne_false}
use Rattle.irq_base.specs.declared.numbers.CpuNo.{CpuNo}
use Rattle.irq_base.specs.declared.lines.FlowKind.{FlowKind}
use Rattle.irq_base.specs.declared.lines.FlowKind.TheVariants as flows
use Rattle.irq_base.specs.declared.lines.LineDef.{LineDef}
use Rattle.irq_base.specs.declared.entries.Entry.{Entry}
use Rattle.irq_base.specs.declared.entries.Entry.TheVariants as by
use Rattle.irq_base.specs.declared.entries.CpuEntry.TheVariants as cpus
use Rattle.irq_base.specs.declared.entries.ThreadEntry.TheVariants as threads
use Rattle.irq_base.specs.declared.entries.DriverEntry.TheVariants as drivers
use Rattle.irq_base.specs.declared.entries.CallEntry.TheVariants as called
use Rattle.irq_base.specs.declared.entries.Way.{Way}
use Rattle.irq_base.specs.declared.entries.Way.TheVariants as ways
use Rattle.irq_base.specs.declared.entries.TakeAnswer.{TakeAnswer}
use Rattle.irq_base.specs.declared.entries.TakeAnswer.TheVariants as takes
use Rattle.irq_base.specs.declared.entries.Note.{Note}
use Rattle.irq_base.specs.declared.entries.Note.TheVariants as notes
use Rattle.irq_model.specs.Places.{stands, count_of}
use Rattle.irq_model.specs.Kinds.{is_take, is_handle, is_busy, is_off, is_kill, is_start, is_disable, is_reopening, is_leave, is_again}
use Rattle.irq_model.specs.Lines.{is_edge_line, is_level_line, is_edge_flow, is_eoi_flow, serves}
use Rattle.irq_model.specs.Links.{depth, is_disabled, is_none_linked, is_oneshot}
use Rattle.irq_model.specs.Masks.{masks, take_masks, is_masked}
use Rattle.irq_model.specs.Asks.{is_high}
use Rattle.irq_model.specs.Rounds.{has_flow}
use Rattle.irq_model.specs.Edges.{is_sent}
use Rattle.irq_model.specs.Waiting.{is_pending}
use Rattle.irq_model.specs.Signal.{signals}
use Rattle.irq_model.specs.Spurious.{note_of}
use Rattle.irq_model.specs.Threads.{is_woken, is_other_unfinished}
use Rattle.irq_model.specs.Legal.{IsDue, IsLegalPast}
use Rattle.irq_model.specs.Valid.{IsValid}
use Rattle.irq_model.proofs.MaskSteps.{masked_more}
use Rattle.irq_laws.specs.Kept.{KeepsDepth}
use Rattle.irq_laws.proofs.KeptAlways.{kept}
use Rattle.irq_laws.proofs.DepthKept.{StaysEnabled, enabled_before}
use Rattle.irq_laws.proofs.Lists.{stands_cases, both_ways}
use Rattle.irq_laws.proofs.Masking.{level_is_not, busy_has_flow, not_disabled, zero_depth, never_off, take_masked}
use Rattle.irq_laws.proofs.RunsKept.{handle_idle}
use Rattle.irq_laws.proofs.Starts.{soft_has_edges}
use Rattle.irq_laws.proofs.ImpliesFlow.{again_by, unmask_by, take_due, end_due}
use Rattle.irq_laws.proofs.ImpliesThread.{finish_due}
use Rattle.irq_storms.specs.Storms.{IsShut, IsClosed}
use Rattle.irq_storms.specs.Judged.{one_if}
use Rattle.irq_storms.proofs.Counting.{count_more}
use Rattle.irq_storms.proofs.Running.{StaysBelow, runs_below}
use Rattle.irq_storms.proofs.RunCounts.{flow_before, flow_closed, flow_stays}

-- ---- a level line's ends leave

again_level : (def : LineDef) (f : FlowKind) (past : List Entry) (note : Note) → IsValid def → is_level_line def ≡ true
    → def.flow ≡ f → again_by def f past note ≡ false
again_level def flows.Edge past note valid level is = level_is_not (is_edge_line def) (valid.edge_flow (ap is_edge_flow is)) level
again_level def flows.Level past note valid level is = refl
again_level def flows.Eoi past note valid level is = none (is_edge_line def) _ level
  where
    none : (a b : Bool) → not a ≡ true → (a && b) ≡ false
    none a b h = grind arith

pub leaves : (def : LineDef) (c : CpuNo) (again unmask : Bool) (note : Note) (past : List Entry) → IsValid def
    → is_level_line def ≡ true → IsDue def (by.Cpu c (cpus.End again unmask note)) past → again ≡ false
leaves def c again unmask note past valid level due = (end_due def c again unmask note past due).again_is
    ∙ again_level def def.flow past (note_of def past) valid level refl

-- no flow after an end
pub no_flow_after : (def : LineDef) (c : CpuNo) (again unmask : Bool) (note : Note) (past : List Entry) → IsValid def
    → is_level_line def ≡ true → IsDue def (by.Cpu c (cpus.End again unmask note)) past
    → has_flow def (by.Cpu c (cpus.End again unmask note) ∷ past) ≡ false
no_flow_after def c again unmask note past valid level due =
    subst (λ (a : Bool). has_flow def (by.Cpu c (cpus.End a unmask note) ∷ past) ≡ false)
    (sym (leaves def c again unmask note past valid level due)) (flow_closed def c unmask note past)

-- ---- disabled stays disabled until a start

disabled_from : (past : List Entry) → (depth past ≡ 0 → ⊥) → is_disabled past ≡ true
disabled_from past h = true_from_ne_false (is_disabled past) (λ off. h (zero_depth past off))

pub stays_disabled : (def : LineDef) (e : Entry) (past : List Entry) → IsDue def e past → KeepsDepth def past
    → is_start e ≡ false → is_disabled past ≡ true → is_disabled (e ∷ past) ≡ true
stays_disabled def e past due k no_start was = disabled_from (e ∷ past) (λ zero. by_case (enabled_before def e past due k zero))
  where
    by_case : (is_start e ≡ true) ⊎ StaysEnabled e past → ⊥
    by_case (inl s) = both_ways (is_start e) s no_start
    by_case (inr s) = both_ways (is_disabled past) was (not_disabled past s.was)

disabled_by_kill : (def : LineDef) (e : Entry) (past : List Entry) → IsDue def e past → KeepsDepth def past
    → is_start e ≡ false → is_kill e ≡ true → is_disabled (e ∷ past) ≡ true
disabled_by_kill def e past due k no_start kills = disabled_from (e ∷ past) (λ zero. by_case (enabled_before def e past due k zero))
  where
    by_case : (is_start e ≡ true) ⊎ StaysEnabled e past → ⊥
    by_case (inl s) = both_ways (is_start e) s no_start
    by_case (inr s) = both_ways (is_kill e) kills (or_parts (is_disable e) (is_kill e) s.no_deepening).1

-- ---- after a kill

kill_alone : (e : Entry) → is_kill e ≡ true → is_start e ≡ false
kill_alone (by.Cpu c (cpus.End again unmask note)) h = refl
kill_alone (by.DriverCall s (called.Enable answer)) h = cc
kill_alone (by.Driver s (drivers.Request flags answer opened x)) h = cc
kill_alone e h = cc

-- an end that kills leaves, on every line
kill_leaves : (def : LineDef) (f : FlowKind) (past : List Entry) → again_by def f past notes.Killed ≡ false
kill_leaves def flows.Edge past = off (is_pending def past) (is_disabled past)
  where
    off : (p d : Bool) → (p && not (d || true)) ≡ false
    off p d = grind arith
kill_leaves def flows.Level past = refl
kill_leaves def flows.Eoi past = off (is_edge_line def) (is_pending def past) (is_disabled past)
  where
    off : (g p d : Bool) → (g && (p && not (d || true))) ≡ false
    off g p d = grind arith

killed_note : (c : CpuNo) (again unmask : Bool) (note : Note) → is_kill (by.Cpu c (cpus.End again unmask note)) ≡ true → note ≡ notes.Killed
killed_note c again unmask notes.Killed h = refl
killed_note c again unmask notes.Quiet h = cc
killed_note c again unmask notes.Counted h = cc

kill_closes : (def : LineDef) (e : Entry) (past : List Entry) → IsDue def e past → is_kill e ≡ true → has_flow def (e ∷ past) ≡ false
kill_closes def (by.Cpu c (cpus.End again unmask note)) past due h =
    let u = end_due def c again unmask note past due in
    let killed : note_of def past ≡ notes.Killed = sym u.note_is ∙ killed_note c again unmask note h in
    let leaves_now : again ≡ false = u.again_is ∙ ap (again_by def def.flow past) killed ∙ kill_leaves def def.flow past in
    subst (λ (a : Bool). has_flow def (by.Cpu c (cpus.End a unmask note) ∷ past) ≡ false) (sym leaves_now) (flow_closed def c unmask note past)
kill_closes def e past due h = cc

no_handle : (def : LineDef) (e : Entry) (past : List Entry) → IsDue def e past → is_disabled past ≡ true → is_handle e ≡ false
no_handle def (by.Cpu c (cpus.Take way takes.Handle)) past due off =
    both_ways (is_disabled past) off (or_parts (is_disabled past) (is_none_linked past)
    (handle_idle def past (take_due def c way takes.Handle past due).answer_is).1).0
no_handle def (by.Cpu c (cpus.Take way takes.Busy)) past due off = refl
no_handle def (by.Cpu c (cpus.Take way takes.Off)) past due off = refl
no_handle def e past due off = refl

pub shut_past : (def : LineDef) (past : List Entry) → IsValid def → IsLegalPast def past → stands is_kill is_start past ≡ true → IsShut def past
shut_past def [] valid legal h = cc
shut_past def (e ∷ past) valid legal h = by_case
    (stands_cases (is_kill e) (is_start e) (stands is_kill is_start past) h)
    (λ s. shut_past def past valid legal.1 s)
  where
    by_case : (is_kill e ≡ true) ⊎ ((is_start e ≡ false) × (stands is_kill is_start past ≡ true))
        → (stands is_kill is_start past ≡ true → IsShut def past) → IsShut def (e ∷ past)
    by_case (inl kills) deeper =
        record {
          disabled = disabled_by_kill def e past legal.0 (kept def past valid legal.1).depth (kill_alone e kills)
              kills;
          no_flow = kill_closes def e past legal.0 kills;
        }
    by_case (inr s) deeper =
        let was = deeper s.1 in
        record {
          disabled = stays_disabled def e past legal.0 (kept def past valid legal.1).depth s.0 was.disabled;
          no_flow = false_from_ne_true (has_flow def (e ∷ past))
              (λ f. both_ways (has_flow def past) (flow_before def e past (no_handle def e past legal.0 was.disabled) f)
              was.no_flow);
        }

-- ---- after a take that was answered Off

off_masks : (def : LineDef) (f : FlowKind) (c : CpuNo) (way : Way) (past : List Entry) → take_masks def f (by.Cpu c (cpus.Take way takes.Off)) past ≡ true
off_masks def flows.Edge c way past = refl
off_masks def flows.Level c way past = refl
off_masks def flows.Eoi c way past = refl

masked_at_off : (def : LineDef) (e : Entry) (past : List Entry) → is_off e ≡ true → is_masked def (e ∷ past) ≡ true
masked_at_off def (by.Cpu c (cpus.Take way takes.Off)) past h =
    take_masked def def.flow c way takes.Off past refl ∙ or_left _ (is_masked def past) (off_masks def def.flow c way past)
masked_at_off def (by.Cpu c (cpus.Take way takes.Busy)) past h = cc
masked_at_off def (by.Cpu c (cpus.Take way takes.Handle)) past h = cc
masked_at_off def e past h = cc

disabled_at_off : (def : LineDef) (e : Entry) (past : List Entry) → IsDue def e past → KeepsDepth def past → is_off e ≡ true → is_disabled (e ∷ past) ≡ true
disabled_at_off def (by.Cpu c (cpus.Take way takes.Off)) past due k h =
    stays_disabled def (by.Cpu c (cpus.Take way takes.Off)) past due k refl (disabled_from past (λ zero. never_off def c way past due k zero))
disabled_at_off def (by.Cpu c (cpus.Take way takes.Busy)) past due k h = cc
disabled_at_off def (by.Cpu c (cpus.Take way takes.Handle)) past due k h = cc
disabled_at_off def e past due k h = cc

off_by_flow : (def : LineDef) (f : FlowKind) (past : List Entry) (note : Note) → is_disabled past ≡ true → unmask_by def f past note ≡ false
off_by_flow def flows.Edge past note off = none (is_pending def past) (is_disabled past) _ (is_masked def past) off
  where
    none : (p d k m : Bool) → d ≡ true → ((p && not (d || k)) && m) ≡ false
    none p d k m h = grind arith
off_by_flow def flows.Level past note off = none (is_disabled past) _ _ off
  where
    none : (d k m : Bool) → d ≡ true → (not (d || k) && m) ≡ false
    none d k m h = grind arith
off_by_flow def flows.Eoi past note off = none (is_edge_line def) (is_disabled past) _ (is_oneshot past) _ off
  where
    none : (g d k o m : Bool) → d ≡ true → (not g && ((not (d || k) && o) && m)) ≡ false
    none g d k o m h = grind arith

not_reopened : (def : LineDef) (e : Entry) (past : List Entry) → IsDue def e past → is_disabled past ≡ true → is_reopening e ≡ false
not_reopened def (by.Cpu c (cpus.End again unmask note)) past due off = (end_due def c again unmask note past due).unmask_is
    ∙ off_by_flow def def.flow past (note_of def past) off
not_reopened def (by.Thread x (threads.Finish kept unmask)) past due off =
    (finish_due def x kept unmask past due).unmask_is ∙ none (is_woken past x) (is_disabled past) (is_masked def past) (is_other_unfinished def past x) off
  where
    none : (w d m o : Bool) → d ≡ true → (not w && (not d && (m && not o))) ≡ false
    none w d m o h = grind arith
not_reopened def e past due off = refl

stays_masked : (def : LineDef) (e : Entry) (past : List Entry) → is_start e ≡ false → is_reopening e ≡ false
    → is_masked def past ≡ true → is_masked def (e ∷ past) ≡ true
stays_masked def e past no_start no_open was = masked_more def e past
    ∙ stays (masks def (e ∷ past)) (is_start e) (is_reopening e) (is_masked def past) no_start no_open was
  where
    stays : (m s r k : Bool) → s ≡ false → r ≡ false → k ≡ true → (m || (not (s || r) && k)) ≡ true
    stays m s r k a b c = grind arith

pub closed_past : (def : LineDef) (past : List Entry) → IsValid def → IsLegalPast def past → stands is_start is_off past ≡ false → IsClosed def past
closed_past def [] valid legal h = record { masked = refl; disabled = refl }
closed_past def (e ∷ past) valid legal h = by_off (is_off e) refl (λ s. closed_past def past valid legal.1 s)
  where
    no_start : (s o k : Bool) → (s || (not o && k)) ≡ false → s ≡ false
    no_start s o k h = grind arith

    not_since : (s o k : Bool) → (s || (not o && k)) ≡ false → o ≡ false → k ≡ false
    not_since s o k h i = grind arith

    by_off : (b : Bool) → is_off e ≡ b → (stands is_start is_off past ≡ false → IsClosed def past) → IsClosed def (e ∷ past)
    by_off true is deeper = record {
      masked = masked_at_off def e past is;
      disabled
          = disabled_at_off def e past legal.0 (kept def past valid legal.1).depth is;
    }
    by_off false is deeper =
        let was = deeper (not_since (is_start e) (is_off e) (stands is_start is_off past) h is) in
        let s = no_start (is_start e) (is_off e) (stands is_start is_off past) h in
        record {
          masked = stays_masked def e past s (not_reopened def e past legal.0 was.disabled) was.masked;
          disabled = stays_disabled def e past legal.0 (kept def past valid legal.1).depth s was.disabled;
        }

-- ---- the takes of a level line

-- it takes by its signal alone, while it is open
signals_open : (def : LineDef) (past : List Entry) → is_level_line def ≡ true → signals def past ≡ true
    → (is_masked def past ≡ false) × ((serves def && has_flow def past) ≡ false)
signals_open def past level h = by_line (is_edge_line def) level h
  where
    open_by : (a m s : Bool) → (a && (not m && not s)) ≡ true → (m ≡ false) × (s ≡ false)
    open_by a m s h = (grind arith, grind arith)

    by_line : (b : Bool) → not b ≡ true → cond b (is_sent def past)
        (is_high def past && (not (is_masked def past) && not (serves def && has_flow def past))) ≡ true
        → (is_masked def past ≡ false) × ((serves def && has_flow def past) ≡ false)
    by_line true level h = cc
    by_line false level h = open_by (is_high def past) (is_masked def past) (serves def && has_flow def past) h

level_take : (def : LineDef) (c : CpuNo) (way : Way) (answer : TakeAnswer) (past : List Entry) → IsLegalPast def past
    → is_level_line def ≡ true → IsDue def (by.Cpu c (cpus.Take way answer)) past
    → (is_masked def past ≡ false) × ((serves def && has_flow def past) ≡ false)
level_take def c ways.Line answer past legal level due = signals_open def past level ((take_due def c ways.Line answer past due).by_line refl)
level_take def c ways.Resend answer past legal level due
    = level_is_not (is_edge_line def) (soft_has_edges def past legal
    ((take_due def c ways.Resend answer past due).by_resend refl).1) level

-- o: answered Off, s: a start since the last such take, k: a start
off_marks : (o s k : Bool) → (o ≡ true → s ≡ true) → one_if o + one_if (k || (not o && s)) ≤ one_if s + one_if k
off_marks o s k h = grind arith

off_started : (def : LineDef) (e : Entry) (past : List Entry) → IsValid def → IsLegalPast def past
    → is_level_line def ≡ true → IsDue def e past → is_off e ≡ true → stands is_start is_off past ≡ true
off_started def (by.Cpu c (cpus.Take way answer)) past valid legal level due h =
    true_from_ne_false (stands is_start is_off past) (λ none. both_ways (is_masked def past)
    (closed_past def past valid legal none).masked (level_take def c way answer past legal level due).0)
off_started def e past valid legal level due h = cc

-- the takes that were answered Off, plus one if there was a start since, are at most the starts
pub offs_past : (def : LineDef) (past : List Entry) → IsValid def → IsLegalPast def past → is_level_line def ≡ true
    → count_of is_off past + one_if (stands is_start is_off past) ≤ count_of is_start past
offs_past def past valid legal level =
    runs_below def is_off is_start (λ past. one_if (stands is_start is_off past)) refl
    (λ e past legal due. off_marks (is_off e) (stands is_start is_off past) (is_start e)
    (off_started def e past valid legal level due)) past legal

-- ---- the takes that were answered Busy

-- a flow is in progress on an open line of the level flow; none takes place on a line of the
-- fast-EOI flow
abbrev pub may_be_busy : LineDef → List Entry → Bool
may_be_busy def past = not (is_eoi_flow def.flow) && (has_flow def past && not (is_masked def past))

level_masks : (def : LineDef) (f : FlowKind) (e : Entry) (past : List Entry) → IsValid def → is_level_line def ≡ true
    → def.flow ≡ f → is_take e ≡ true → (is_eoi_flow f || take_masks def f e past) ≡ true
level_masks def flows.Edge e past valid level is h = level_is_not (is_edge_line def) (valid.edge_flow (ap is_edge_flow is)) level
level_masks def flows.Level e past valid level is h = h
level_masks def flows.Eoi e past valid level is h = refl

busy_at_take : (def : LineDef) (c : CpuNo) (way : Way) (answer : TakeAnswer) (past : List Entry) → IsValid def
    → IsLegalPast def past → is_level_line def ≡ true → IsDue def (by.Cpu c (cpus.Take way answer)) past
    → may_be_busy def (by.Cpu c (cpus.Take way answer) ∷ past) ≡ false
busy_at_take def c way answer past valid legal level due =
    let e = by.Cpu c (cpus.Take way answer) in
    none (is_eoi_flow def.flow) (take_masks def def.flow e past) (has_flow def (e ∷ past)) (is_masked def (e ∷ past))
    (is_masked def past) (level_masks def def.flow e past valid level refl refl)
    (take_masked def def.flow c way answer past refl)
  where
    none : (g t f m k : Bool) → (g || t) ≡ true → m ≡ (t || k) → (not g && (f && not m)) ≡ false
    none g t f m k h i = grind arith

busy_before : (def : LineDef) (c : CpuNo) (way : Way) (past : List Entry) → IsLegalPast def past
    → is_level_line def ≡ true → IsDue def (by.Cpu c (cpus.Take way takes.Busy)) past → may_be_busy def past ≡ true
busy_before def c way past legal level due =
    let shown = level_take def c way takes.Busy past legal level due in
    all (is_level_line def) (is_eoi_flow def.flow) (has_flow def past) (is_masked def past) level shown.0 shown.1 (busy_has_flow def c way past due)
  where
    all : (l g f m : Bool) → l ≡ true → m ≡ false → ((l && g) && f) ≡ false → f ≡ true → (not g && (f && not m)) ≡ true
    all l g f m a b c d = grind arith

-- an entry that is neither a take, nor an end, nor a finish
kept_mark : (g f f' u m m' x : Bool) → f' ≡ f → m' ≡ (x || (not (u || false) && m))
    → one_if (not g && (f' && not m')) ≤ one_if (not g && (f && not m)) + one_if u
kept_mark g f f' u m m' x h i = grind arith

kept_quiet : (def : LineDef) (e : Entry) (past : List Entry) → is_handle e ≡ false → is_leave e ≡ false
    → is_again e ≡ false → is_reopening e ≡ false → one_if (may_be_busy def (e ∷ past)) ≤ one_if (may_be_busy def past)
    + one_if (is_start e)
kept_quiet def e past a b c shut =
    kept_mark (is_eoi_flow def.flow) (has_flow def past) (has_flow def (e ∷ past)) (is_start e) (is_masked def past)
    (is_masked def (e ∷ past)) (masks def (e ∷ past)) (flow_stays def e past a b c)
    (masked_more def e past ∙ ap (λ (r : Bool). masks def (e ∷ past) || (not (is_start e || r) && is_masked def past)) shut)

no_flow_marks : (g f m : Bool) → f ≡ false → one_if (not g && (f && not m)) ≡ 0
no_flow_marks g f m h = grind arith

busy_more : (def : LineDef) (e : Entry) (past : List Entry) → IsValid def → is_level_line def ≡ true
    → IsLegalPast def past → IsDue def e past → StaysBelow is_busy is_start (λ past. one_if (may_be_busy def past)) e
    past
busy_more def (by.Cpu c (cpus.Take way takes.Busy)) past valid level legal due =
    let after : one_if (may_be_busy def (by.Cpu c (cpus.Take way takes.Busy) ∷ past))
    ≡ 0 = ap one_if (busy_at_take def c way takes.Busy past valid legal level due) in
    let was : one_if (may_be_busy def past) ≡ 1 = ap one_if (busy_before def c way past legal level due) in
    omega (arith, after, was)
busy_more def (by.Cpu c (cpus.Take way takes.Handle)) past valid level legal due =
    let after : one_if (may_be_busy def (by.Cpu c (cpus.Take way takes.Handle) ∷ past))
    ≡ 0 = ap one_if (busy_at_take def c way takes.Handle past valid legal level due) in omega (arith, after)
busy_more def (by.Cpu c (cpus.Take way takes.Off)) past valid level legal due =
    let after : one_if (may_be_busy def (by.Cpu c (cpus.Take way takes.Off) ∷ past))
    ≡ 0 = ap one_if (busy_at_take def c way takes.Off past valid legal level due) in omega (arith, after)
busy_more def (by.Cpu c (cpus.End again unmask note)) past valid level legal due =
    let e = by.Cpu c (cpus.End again unmask note) in
    let after = no_flow_marks (is_eoi_flow def.flow) (has_flow def (e ∷ past)) (is_masked def (e ∷ past))
    (no_flow_after def c again unmask note past valid level due) in
    omega (arith, after)
busy_more def (by.Thread x (threads.Finish kept unmask)) past valid level legal due =
    let e = by.Thread x (threads.Finish kept unmask) in
    let after = no_flow_marks (is_eoi_flow def.flow) (has_flow def (e ∷ past)) (is_masked def (e ∷ past))
    (flow_stays def e past refl refl refl ∙ (finish_due def x kept unmask past due).no_flow) in
    omega (arith, after)
busy_more def e past valid level legal due = let k = kept_quiet def e past refl refl refl refl in omega (arith, k)

-- the takes that were answered Busy, plus one if another may be, are at most the starts
pub busy_past : (def : LineDef) (past : List Entry) → IsValid def → IsLegalPast def past → is_level_line def ≡ true
    → count_of is_busy past + one_if (may_be_busy def past) ≤ count_of is_start past
busy_past def past valid legal level =
    runs_below def is_busy is_start (λ past. one_if (may_be_busy def past))
    (no_flow_marks (is_eoi_flow def.flow) false (is_masked def []) refl)
    (λ e past legal due. busy_more def e past valid level legal due) past legal

-- no take is answered so on the fast-EOI flow
not_serving : (l g f : Bool) → l ≡ true → g ≡ true → ((l && g) && f) ≡ false → f ≡ false
not_serving l g f a b c = grind arith

not_busy : (def : LineDef) (e : Entry) (past : List Entry) → IsLegalPast def past → is_level_line def ≡ true
    → is_eoi_flow def.flow ≡ true → IsDue def e past → is_busy e ≡ false
not_busy def (by.Cpu c (cpus.Take way takes.Busy)) past legal level eoi due =
    both_ways (has_flow def past) (busy_has_flow def c way past due)
    (not_serving (is_level_line def) (is_eoi_flow def.flow) (has_flow def past) level eoi
    (level_take def c way takes.Busy past legal level due).1)
not_busy def (by.Cpu c (cpus.Take way takes.Handle)) past legal level eoi due = refl
not_busy def (by.Cpu c (cpus.Take way takes.Off)) past legal level eoi due = refl
not_busy def e past legal level eoi due = refl

pub none_busy : (def : LineDef) (past : List Entry) → IsLegalPast def past → is_level_line def ≡ true → is_eoi_flow def.flow ≡ true → count_of is_busy past ≡ 0
none_busy def [] legal level eoi = refl
none_busy def (e ∷ past) legal level eoi =
    let m = count_more is_busy e past in
    let r = none_busy def past legal.1 level eoi in
    let n : one_if (is_busy e) ≡ 0 = ap one_if (not_busy def e past legal.1 level eoi legal.0) in
    omega (arith, m, r, n)
