-- The takes of an edge line, by the edges that its devices make, and by its starts.
use Rattle.std.proofs.Common.{◌≡◌, ℕ, ◌+◌, ◌≤◌, Bool, true, false, not, ◌||◌, ◌&&◌, cond, Some, is_some, List, [], ◌∷◌, reverse, refl, sym, ap, ◌∙◌, arith}
use Rattle.irq_base.specs.declared.lines.LineDef.{LineDef}
use Rattle.irq_base.specs.declared.entries.Entry.{Entry}
use Rattle.irq_base.specs.declared.entries.Entry.TheVariants as by
use Rattle.irq_base.specs.declared.entries.CpuEntry.TheVariants as cpus
use Rattle.irq_base.specs.declared.entries.Way.TheVariants as ways
use Rattle.irq_base.specs.declared.entries.TakeAnswer.TheVariants as takes
use Rattle.irq_base.specs.declared.entries.Resend.TheVariants as resends
use Rattle.irq_base.specs.declared.entries.Opened.{Opened}
use Rattle.irq_base.specs.declared.entries.Opened.TheVariants as opens
use Rattle.irq_model.specs.Places.{count_of, last_of}
use Rattle.irq_model.specs.Kinds.{opened_of, is_started_opened, is_chip_opened, is_soft_opened, is_take, is_line_take}
use Rattle.irq_model.specs.Kinds.{is_resend_take, is_handle, is_busy, is_again, is_start, is_chip_start, is_soft_start}
use Rattle.irq_model.specs.Lines.{is_edge_line, is_eoi_flow}
use Rattle.irq_model.specs.Links.{is_disabled, is_none_linked}
use Rattle.irq_model.specs.Rounds.{closes, cpu_of_handle, flow, has_flow}
use Rattle.irq_model.specs.Waiting.{clears_pending, is_pending}
use Rattle.irq_model.specs.Spurious.{note_of}
use Rattle.irq_model.specs.Legal.{IsDue, IsLegal, IsLegalPast}
use Rattle.irq_model.proofs.RoundSteps.{flow_quiet}
use Rattle.irq_laws.proofs.ImpliesFlow.{take_due, end_due, has_a_flow}
use Rattle.irq_laws.proofs.TakeLaws.{takes_are_counted}
use Rattle.irq_storms.specs.Judged.{one_if}
use Rattle.irq_storms.specs.Storms.{EdgeIsCounted}
use Rattle.irq_storms.proofs.Counting.{mark_most, count_more, count_imply}
use Rattle.irq_storms.proofs.Running.{StaysBelow, runs_below}
use Rattle.irq_storms.proofs.RoundCounts.{again_pends, rounds_of_edges}

-- ---- takes by their ways

pub takes_by_way : (past : List Entry) → count_of is_take past ≡ count_of is_line_take past + count_of is_resend_take past
takes_by_way [] = refl
takes_by_way (by.Cpu c (cpus.Take ways.Line answer) ∷ past) = let r = takes_by_way past in omega (arith, r)
takes_by_way (by.Cpu c (cpus.Take ways.Resend answer) ∷ past) = let r = takes_by_way past in omega (arith, r)
takes_by_way (e ∷ past) = takes_by_way past

resend_marks : (o : Opened) → one_if (is_chip_opened o) + one_if (is_soft_opened o) ≤ one_if (is_started_opened o)
resend_marks opens.No = omega arith
resend_marks opens.Unbalanced = omega arith
resend_marks opens.Lowered = omega arith
resend_marks (opens.Started resends.No) = omega arith
resend_marks (opens.Started resends.Chip) = omega arith
resend_marks (opens.Started resends.Soft) = omega arith

pub resends_past : (past : List Entry) → count_of is_chip_start past + count_of is_soft_start past ≤ count_of is_start past
resends_past [] = omega arith
resends_past (e ∷ past) =
    summed _ _ _ _ _ _ _ _ _ (count_more is_chip_start e past) (count_more is_soft_start e past)
    (count_more is_start e past) (resends_past past) (resend_marks (opened_of e))
  where
    summed : (r' h' g' r h g x y z : ℕ) → r' ≡ r + x → h' ≡ h + y → g' ≡ g + z → r + h ≤ g → x + y ≤ z → r' + h' ≤ g'
    summed r' h' g' r h g x y z a b c d e = omega (arith, a, b, c, d, e)

-- ---- the ends with again are at most the takes that were answered busy

-- a flow is in progress, and something is pending
abbrev goes_on_later : LineDef → List Entry → Bool
goes_on_later def past = has_flow def past && is_pending def past

-- f: a flow, x: it was busy, E: an edge line, k: it clears, s: pending
no_flow_mark : (f s : Bool) → f ≡ false → one_if (f && s) ≡ 0
no_flow_mark f s h = grind arith

cleared_mark : (f x E s : Bool) → one_if (f && ((x || (E && false)) || (false && s))) ≤ one_if x
cleared_mark f x E s = grind arith

kept_mark : (f E k s : Bool) → one_if (f && ((false || (E && false)) || (not k && s))) ≤ one_if (f && s)
kept_mark f E k s = grind arith

off_idle : (f o : Bool) → takes.Off ≡ cond f takes.Busy (cond o takes.Off takes.Handle) → f ≡ false
off_idle true o h = cc
off_idle false o h = refl

pend_more : (def : LineDef) (e : Entry) (past : List Entry) → IsDue def e past → StaysBelow is_again is_busy (λ past. one_if (goes_on_later def past)) e past
pend_more def (by.Cpu c (cpus.Take way takes.Handle)) past due =
    let m = cleared_mark (has_flow def (by.Cpu c (cpus.Take way takes.Handle) ∷ past)) false (is_edge_line def) (is_pending def past) in omega (arith, m)
pend_more def (by.Cpu c (cpus.Take way takes.Busy)) past due = let m
    = mark_most (goes_on_later def (by.Cpu c (cpus.Take way takes.Busy) ∷ past)) in omega (arith, m)
pend_more def (by.Cpu c (cpus.Take way takes.Off)) past due =
    let e = by.Cpu c (cpus.Take way takes.Off) in
    let same : has_flow def (e ∷ past) ≡ has_flow def past = ap is_some (flow_quiet def e past refl refl refl) in
    let idle = off_idle (has_flow def past) (is_disabled past || is_none_linked past) (take_due def c way takes.Off past due).answer_is in
    let m = no_flow_mark (has_flow def (e ∷ past)) (is_pending def (e ∷ past)) (same ∙ idle) in
    omega (arith, m)
pend_more def (by.Cpu c (cpus.End true unmask note)) past due =
    let u = end_due def c true unmask note past due in
    let f = has_a_flow c (flow def past) u.of_flow in
    let p = again_pends def def.flow past (note_of def past) (sym u.again_is) in
    let was : one_if (goes_on_later def past) ≡ 1 = both (has_flow def past) (is_pending def past) f p in
    let m = cleared_mark (has_flow def (by.Cpu c (cpus.End true unmask note) ∷ past)) false (is_edge_line def) (is_pending def past) in
    omega (arith, m, was)
  where
    both : (a b : Bool) → a ≡ true → b ≡ true → one_if (a && b) ≡ 1
    both a b h i = grind arith
pend_more def (by.Cpu c (cpus.End false unmask note)) past due = let m = closed (is_eoi_flow def.flow) in omega (arith, m)
  where
    closed : (b : Bool) → one_if (is_some (cpu_of_handle
        (cond (false || (true || (b && false))) (Some (by.Cpu c (cpus.End false unmask note)))
        (last_of (λ e. is_handle e || closes def e) past))) && is_pending def (by.Cpu c (cpus.End false unmask note) ∷ past))
        ≡ 0
    closed b = refl
pend_more def e past due =
    let same : has_flow def (e ∷ past) ≡ has_flow def past = ap is_some (flow_quiet def e past refl refl refl) in
    let m = kept_mark (has_flow def past) (is_edge_line def) (clears_pending e) (is_pending def past) in
    let s : one_if (goes_on_later def (e ∷ past)) ≡ one_if (has_flow def past && is_pending def (e ∷ past))
    = ap (λ (f : Bool). one_if (f && is_pending def (e ∷ past))) same in
    omega (arith, m, s)

agains_past : (def : LineDef) (past : List Entry) → IsLegalPast def past → count_of is_again past + one_if (goes_on_later def past) ≤ count_of is_busy past
agains_past def past legal =
    runs_below def is_again is_busy (λ past. one_if (goes_on_later def past)) refl (λ e past legal due. pend_more def e past due) past legal

-- ---- the law

again_alone : (e f : Bool) → (f && e) ≡ true → e ≡ true
again_alone e f h = grind arith

pub edge_is_counted : (def : LineDef) (h : List Entry) → IsLegal def h → EdgeIsCounted def h
edge_is_counted def h legal edge =
    let past = reverse h in
    let t = takes_are_counted def h legal in
    record {
      agains = agains_past def past legal;
      rounds = rounds_of_edges def past legal edge;
      takes = plain _ _ _ _ _ _ _ _ _ (takes_by_way past) (t.line edge) (t.resend edge) (resends_past past)
          (count_imply (λ e. is_eoi_flow def.flow && is_again e) is_again past (λ e. again_alone (is_again e) (is_eoi_flow def.flow)));
    }
  where
    plain : (t l r a c f so st ag : ℕ) → t ≡ l + r → l ≤ a + c + f → r ≤ so → c + so ≤ st → f ≤ ag → t ≤ a + st + ag
    plain t l r a c f so st ag h i j k m = omega (arith, h, i, j, k, m)
