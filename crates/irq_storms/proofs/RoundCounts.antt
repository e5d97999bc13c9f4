-- The rounds of an edge line, by the edges that its devices make: each round takes one, and each
-- place where an interrupt waits for a round holds one.
use Rattle.std.proofs.Common.{◌≡◌, ℕ, ◌+◌, ◌≤◌, Bool, true, false, not, ◌||◌, ◌&&◌, cond, List, [], ◌∷◌, reverse, refl, sym, arith}
use Rattle.std.proofs.lemmas.Bool.{and_parts}
use Rattle.irq_base.specs.declared.lines.FlowKind.{FlowKind}
use Rattle.irq_base.specs.declared.lines.FlowKind.TheVariants as flows
use Rattle.irq_base.specs.declared.lines.LineDef.{LineDef}
use Rattle.irq_base.specs.declared.entries.Entry.{Entry}
use Rattle.irq_base.specs.declared.entries.Entry.TheVariants as by
use Rattle.irq_base.specs.declared.entries.CpuEntry.TheVariants as cpus
use Rattle.irq_base.specs.declared.entries.Way.TheVariants as ways
use Rattle.irq_base.specs.declared.entries.TakeAnswer.TheVariants as takes
use Rattle.irq_base.specs.declared.entries.Note.{Note}
use Rattle.irq_base.specs.declared.entries.Resend.{Resend}
use Rattle.irq_base.specs.declared.entries.Resend.TheVariants as resends
use Rattle.irq_base.specs.declared.entries.Opened.{Opened}
use Rattle.irq_base.specs.declared.entries.Opened.TheVariants as opens
use Rattle.irq_model.specs.Places.{count_of}
use Rattle.irq_model.specs.Kinds.{opened_of, is_started_opened, is_chip_opened, is_soft_opened, is_line_take, is_again, is_device_edge, is_chip_start}
use Rattle.irq_model.specs.Lines.{is_edge_line, is_eoi_flow}
use Rattle.irq_model.specs.Rounds.{begins_round}
use Rattle.irq_model.specs.Waiting.{is_pending, is_soft}
use Rattle.irq_model.specs.Edges.{is_sent, is_stored}
use Rattle.irq_model.specs.Next.{is_off_now}
use Rattle.irq_model.specs.Spurious.{note_of}
use Rattle.irq_model.specs.RunBounds.{RoundsAreCountedPast}
use Rattle.irq_model.specs.Legal.{IsDue, IsLegal, IsLegalPast}
use Rattle.irq_laws.proofs.ImpliesFlow.{again_by, end_due}
use Rattle.irq_laws.proofs.Starts.{resends_what_is_pending}
use Rattle.irq_laws.proofs.TakeLaws.{marks_more, resend_needs}
use Rattle.irq_storms.specs.Judged.{one_if}
use Rattle.irq_storms.proofs.Counting.{count_more}

-- ---- what is pending, and what the software resends

-- E: an edge line, f: the fast-EOI flow, p: pending, w: the software resends
line_handled : (E f p w : Bool) → one_if (true || (false && not f)) + one_if ((false || (E && false)) || (not (true || (false || false)) && p))
    + one_if (false || (not false && w)) + (one_if false + one_if (f && false)) ≤ one_if p + one_if w + one_if true
line_handled E f p w = grind arith

line_left : (o b E f p w : Bool) → one_if (false || (false && not f)) + one_if ((o || (E && b)) || (not (false || (false || false)) && p))
    + one_if (false || (not false && w)) + (one_if false + one_if (f && false)) ≤ one_if p + one_if w + one_if true
line_left o b E f p w = grind arith

resend_handled : (E f p w : Bool) → w ≡ true → one_if (true || (false && not f)) + one_if ((false || (E && false)) || (not (true || (false || false)) && p))
    + one_if (false || (not true && w)) + (one_if false + one_if (f && false)) ≤ one_if p + one_if w + one_if false
resend_handled E f p w h = grind arith

resend_left : (o b E f p w : Bool) → w ≡ true → one_if (false || (false && not f)) + one_if ((o || (E && b)) || (not (false || (false || false)) && p))
    + one_if (false || (not true && w)) + (one_if false + one_if (f && false)) ≤ one_if p + one_if w + one_if false
resend_left o b E f p w h = grind arith

goes_on : (E f p w : Bool) → p ≡ true → one_if (false || (true && not f)) + one_if ((false || (E && false)) || (not (false || (true || false)) && p))
    + one_if (false || (not false && w)) + (one_if false + one_if (f && true)) ≤ one_if p + one_if w + one_if false
goes_on E f p w h = grind arith

leaves : (E f p w : Bool) → one_if (false || (false && not f)) + one_if ((false || (E && false)) || (not (false || (false || false)) && p))
    + one_if (false || (not false && w)) + (one_if false + one_if (f && false)) ≤ one_if p + one_if w + one_if false
leaves E f p w = grind arith

chip_pends : (E p g : Bool) → resends.Chip ≡ cond (E && p) (cond g resends.Chip resends.Soft) resends.No → p ≡ true
chip_pends E true g h = refl
chip_pends true false g h = cc
chip_pends false false g h = cc

soft_pends : (E p g : Bool) → resends.Soft ≡ cond (E && p) (cond g resends.Chip resends.Soft) resends.No → p ≡ true
soft_pends E true g h = refl
soft_pends true false g h = cc
soft_pends false false g h = cc

-- the marks that an entry leaves which opens the line so
abbrev OpensSo : Bool → Bool → Bool → Bool → Opened → Type 0
OpensSo E f p w o = one_if (false || (false && not f)) + one_if ((false || (E && false)) || (not (false || (false || is_started_opened o)) && p))
    + one_if (is_soft_opened o || (not false && w)) + (one_if (is_chip_opened o) + one_if (f && false)) ≤ one_if p + one_if w + one_if false

by_chip : (E f p w : Bool) → p ≡ true → one_if (false || (false && not f)) + one_if ((false || (E && false)) || (not (false || (false || true)) && p))
    + one_if (false || (not false && w)) + (one_if true + one_if (f && false)) ≤ one_if p + one_if w + one_if false
by_chip E f p w h = grind arith

by_soft : (E f p w : Bool) → p ≡ true → one_if (false || (false && not f)) + one_if ((false || (E && false)) || (not (false || (false || true)) && p))
    + one_if (true || (not false && w)) + (one_if false + one_if (f && false)) ≤ one_if p + one_if w + one_if false
by_soft E f p w h = grind arith

by_none : (E f p w : Bool) → one_if (false || (false && not f)) + one_if ((false || (E && false)) || (not (false || (false || true)) && p))
    + one_if (false || (not false && w)) + (one_if false + one_if (f && false)) ≤ one_if p + one_if w + one_if false
by_none E f p w = grind arith

opens_so : (E f p w g : Bool) (o : Opened) → ((r : Resend) → o ≡ opens.Started r → r ≡ cond (E && p) (cond g resends.Chip resends.Soft) resends.No)
    → OpensSo E f p w o
opens_so E f p w g opens.No k = leaves E f p w
opens_so E f p w g opens.Unbalanced k = leaves E f p w
opens_so E f p w g opens.Lowered k = leaves E f p w
opens_so E f p w g (opens.Started resends.No) k = by_none E f p w
opens_so E f p w g (opens.Started resends.Chip) k = by_chip E f p w (chip_pends E p g (k resends.Chip refl))
opens_so E f p w g (opens.Started resends.Soft) k = by_soft E f p w (soft_pends E p g (k resends.Soft refl))

pub again_pends : (def : LineDef) (f : FlowKind) (past : List Entry) (note : Note) → again_by def f past note ≡ true → is_pending def past ≡ true
again_pends def flows.Edge past note h = (and_parts (is_pending def past) (not (is_off_now past note)) h).0
again_pends def flows.Eoi past note h = (and_parts (is_pending def past) (not (is_off_now past note)) (and_parts (is_edge_line def) _ h).1).0
again_pends def flows.Level past note h = cc

-- the rounds, and what waits without a signal, are paid by the takes of the line
abbrev WaitsCounted : LineDef → Entry → List Entry → Type 0
WaitsCounted def e past = one_if (begins_round def e) + one_if (is_pending def (e ∷ past)) + one_if (is_soft (e ∷ past))
    + (one_if (is_chip_start e) + one_if (is_eoi_flow def.flow && is_again e))
    ≤ one_if (is_pending def past) + one_if (is_soft past) + one_if (is_line_take e)

waits_more : (def : LineDef) (e : Entry) (past : List Entry) → IsDue def e past → WaitsCounted def e past
waits_more def (by.Cpu c (cpus.Take ways.Line takes.Handle)) past due
    = line_handled (is_edge_line def) (is_eoi_flow def.flow) (is_pending def past) (is_soft past)
waits_more def (by.Cpu c (cpus.Take ways.Line takes.Busy)) past due =
    line_left false true (is_edge_line def) (is_eoi_flow def.flow) (is_pending def past) (is_soft past)
waits_more def (by.Cpu c (cpus.Take ways.Line takes.Off)) past due =
    line_left true false (is_edge_line def) (is_eoi_flow def.flow) (is_pending def past) (is_soft past)
waits_more def (by.Cpu c (cpus.Take ways.Resend takes.Handle)) past due =
    resend_handled (is_edge_line def) (is_eoi_flow def.flow) (is_pending def past) (is_soft past)
    (resend_needs def (by.Cpu c (cpus.Take ways.Resend takes.Handle)) past due refl)
waits_more def (by.Cpu c (cpus.Take ways.Resend takes.Busy)) past due =
    resend_left false true (is_edge_line def) (is_eoi_flow def.flow) (is_pending def past) (is_soft past)
    (resend_needs def (by.Cpu c (cpus.Take ways.Resend takes.Busy)) past due refl)
waits_more def (by.Cpu c (cpus.Take ways.Resend takes.Off)) past due =
    resend_left true false (is_edge_line def) (is_eoi_flow def.flow) (is_pending def past) (is_soft past)
    (resend_needs def (by.Cpu c (cpus.Take ways.Resend takes.Off)) past due refl)
waits_more def (by.Cpu c (cpus.End true unmask note)) past due =
    goes_on (is_edge_line def) (is_eoi_flow def.flow) (is_pending def past) (is_soft past)
    (again_pends def def.flow past (note_of def past) (sym (end_due def c true unmask note past due).again_is))
waits_more def (by.Cpu c (cpus.End false unmask note)) past due = leaves (is_edge_line def) (is_eoi_flow def.flow) (is_pending def past) (is_soft past)
waits_more def e past due =
    opens_so (is_edge_line def) (is_eoi_flow def.flow) (is_pending def past) (is_soft past) def.retriggers (opened_of e)
    (λ r h. resends_what_is_pending def e past r due h)

-- ---- the rounds

abbrev waiting : LineDef → List Entry → ℕ
waiting def past = one_if (is_sent def past) + one_if (is_stored def past) + one_if (is_pending def past) + one_if (is_soft past)

rounds_more : (def : LineDef) (e : Entry) (past : List Entry) → IsDue def e past → is_edge_line def ≡ true
    → one_if (begins_round def e) + waiting def (e ∷ past) ≤ waiting def past + one_if (is_device_edge e)
rounds_more def e past due edge = plain _ _ _ _ _ _ _ _ _ _ _ _ _ (marks_more def e past due edge) (waits_more def e past due)
  where
    plain : (b p k p' k' s w s' w' t a c f : ℕ) → t + (s' + w') ≤ (s + w) + ((a + c) + f) → b + p' + k' + (c + f) ≤ p + k + t
        → b + (s' + w' + p' + k') ≤ (s + w + p + k) + a
    plain b p k p' k' s w s' w' t a c f h i = omega (arith, h, i)

rounds_below : (def : LineDef) (past : List Entry) → IsLegalPast def past → is_edge_line def ≡ true
    → count_of (begins_round def) past + waiting def past ≤ count_of is_device_edge past
rounds_below def [] legal edge = omega arith
rounds_below def (e ∷ past) legal edge =
    summed _ _ _ _ _ _ _ _ (count_more (begins_round def) e past) (count_more is_device_edge e past) (rounds_below def past legal.1 edge)
    (rounds_more def e past legal.0 edge)
  where
    summed : (r' a' r a x y m n : ℕ) → r' ≡ r + x → a' ≡ a + y → r + m ≤ a → x + n ≤ m + y → r' + n ≤ a'
    summed r' a' r a x y m n h i j l = omega (arith, h, i, j, l)

pub rounds_of_edges : (def : LineDef) (past : List Entry) → IsLegalPast def past → is_edge_line def ≡ true
    → count_of (begins_round def) past ≤ count_of is_device_edge past
rounds_of_edges def past legal edge = plain _ _ _ (rounds_below def past legal edge)
  where
    plain : (r m a : ℕ) → r + m ≤ a → r ≤ a
    plain r m a h = omega (arith, h)

pub rounds_past : (def : LineDef) (past : List Entry) → IsLegalPast def past → RoundsAreCountedPast def past
rounds_past def past legal edge = plain _ _ _ _ _ _ (rounds_below def past legal edge)
  where
    plain : (r s w p k a : ℕ) → r + (s + w + p + k) ≤ a → r + s + w + p + k ≤ a
    plain r s w p k a h = omega (arith, h)

pub rounds_are_counted : (def : LineDef) (h : List Entry) → IsLegal def h → RoundsAreCountedPast def (reverse h)
rounds_are_counted def h legal = rounds_past def (reverse h) legal
