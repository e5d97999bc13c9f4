-- Takes are counted: an edge line takes no more interrupts than came.
use Rattle.std.proofs.Common.{◌≡◌, ℕ, ◌+◌, ◌≤◌, Bool, true, false, not, ◌||◌, ◌&&◌, cond, List, [], ◌∷◌, reverse, refl, ap, ap₂, ◌∙◌, arith}
use Rattle.irq_base.specs.declared.lines.LineDef.{LineDef}
use Rattle.irq_base.specs.declared.entries.Entry.{Entry}
use Rattle.irq_base.specs.declared.entries.Entry.TheVariants as by
use Rattle.irq_base.specs.declared.entries.CpuEntry.TheVariants as cpus
use Rattle.irq_base.specs.declared.entries.Way.TheVariants as ways
use Rattle.irq_model.specs.Places.{count_of}
use Rattle.irq_model.specs.Kinds.{is_take, is_line_take, is_resend_take, is_device_edge, is_chip_start, is_soft_start, is_again}
use Rattle.irq_model.specs.Lines.{is_edge_line, is_eoi_flow, serves}
use Rattle.irq_model.specs.Masks.{is_masked}
use Rattle.irq_model.specs.Asks.{is_high}
use Rattle.irq_model.specs.Rounds.{has_flow}
use Rattle.irq_model.specs.Waiting.{is_soft}
use Rattle.irq_model.specs.Edges.{is_edge, is_sent, is_stored}
use Rattle.irq_model.specs.Signal.{signals}
use Rattle.irq_model.specs.Laws.{TakesAreCounted}
use Rattle.irq_model.specs.Legal.{IsDue, IsLegal, IsLegalPast}
use Rattle.irq_model.proofs.EdgeSteps.{goes_sent, goes_stored, sent_more, stored_more}
use Rattle.irq_laws.proofs.ImpliesFlow.{take_due}

-- a mark as a number
abbrev pub one_if : Bool → ℕ
one_if b = cond b 1 0

count_more : (p : Entry → Bool) (e : Entry) (past : List Entry) → count_of p (e ∷ past) ≡ count_of p past + one_if (p e)
count_more p e past = by_test (p e) (count_of p past)
  where
    by_test : (b : Bool) (n : ℕ) → cond b (n + 1) n ≡ n + cond b 1 0
    by_test true n = refl
    by_test false n = omega arith

-- ---- the marks that an entry leaves

-- g: it is an edge
marks_untaken : (g k r n s w : Bool) → one_if ((g && not n) || goes_sent r n false s w) + one_if
    ((g && (k && n)) || goes_stored r n false s w) ≤ one_if s + one_if w + one_if g
marks_untaken g k r n s w = grind arith

marks_taken : (k r n s w : Bool) → one_if ((false && not n) || goes_sent r n true s w) + one_if ((false && (k && n)) || goes_stored r n true s w) ≤ one_if w
marks_taken k r n s w = grind arith

one_of_three : (g a c f : Bool) → one_if (g && (a || (c || f))) ≤ one_if a + one_if c + one_if f
one_of_three g a c f = grind arith

-- the marks after an entry, less the takes by the line, are no more than before, with the edges
-- that came
abbrev pub MarksCounted : LineDef → Entry → List Entry → Type 0
MarksCounted def e past =
    one_if (is_line_take e) + (one_if (is_sent def (e ∷ past)) + one_if (is_stored def (e ∷ past)))
    ≤ (one_if (is_sent def past) + one_if (is_stored def past)) +
    ((one_if (is_device_edge e) + one_if (is_chip_start e)) + one_if (is_eoi_flow def.flow && is_again e))

untaken : (def : LineDef) (e : Entry) (past : List Entry) → is_take e ≡ false → is_line_take e ≡ false → MarksCounted def e past
untaken def e past no_take no_line =
    let m = marks_untaken (is_edge def e) def.keeps def.recalls (is_masked def (e ∷ past)) (is_sent def past) (is_stored def past) in
    let s : is_sent def (e ∷ past) ≡ ((is_edge def e && not (is_masked def (e ∷ past))) || goes_sent def.recalls
    (is_masked def (e ∷ past)) false (is_sent def past) (is_stored def past)) =
    sent_more def e past ∙ ap (λ (b : Bool). (is_edge def e && not (is_masked def (e ∷ past))) || goes_sent def.recalls
    (is_masked def (e ∷ past)) b (is_sent def past) (is_stored def past)) no_take in
    let w : is_stored def (e ∷ past) ≡ ((is_edge def e && (def.keeps && is_masked def (e ∷ past))) || goes_stored
    def.recalls (is_masked def (e ∷ past)) false (is_sent def past) (is_stored def past)) =
    stored_more def e past ∙ ap (λ (b : Bool). (is_edge def e && (def.keeps && is_masked def (e ∷ past))) || goes_stored
    def.recalls (is_masked def (e ∷ past)) b (is_sent def past) (is_stored def past)) no_take in
    let s_num = ap one_if s in
    let w_num = ap one_if w in
    let t_num : one_if (is_line_take e) ≡ 0 = ap one_if no_line in
    let e_num = one_of_three (is_edge_line def) (is_device_edge e) (is_chip_start e) (is_eoi_flow def.flow && is_again e) in
    plain _ _ _ _ _ _ _ _ _ _ _ t_num s_num w_num m e_num
  where
    plain : (t s w s' w' a c f x y g : ℕ) → t ≡ 0 → s' ≡ x → w' ≡ y → x + y ≤ s + w + g → g ≤ a + c + f → t + (s' + w') ≤ (s + w) + ((a + c) + f)
    plain t s w s' w' a c f x y g h i j k l = omega (arith, h, i, j, k, l)

taken_by_line : (def : LineDef) (past : List Entry) → is_edge_line def ≡ true → signals def past ≡ true → is_sent def past ≡ true
taken_by_line def past edge h = by_line (is_edge_line def) edge h
  where
    by_line : (b : Bool) → b ≡ true → cond b (is_sent def past)
        (is_high def past && (not (is_masked def past) && not (serves def && has_flow def past))) ≡ true
        → is_sent def past ≡ true
    by_line true i h = h
    by_line false i h = cc

no_edge : (g f : Bool) → (g && (false || (false || (f && false)))) ≡ false
no_edge g f = grind arith

-- a take is no edge, and takes what was presented
taken : (def : LineDef) (e : Entry) (past : List Entry) → is_take e ≡ true → is_edge def e ≡ false
    → one_if (is_sent def (e ∷ past)) + one_if (is_stored def (e ∷ past)) ≤ one_if (is_stored def past)
taken def e past takes none =
    let m = marks_taken def.keeps def.recalls (is_masked def (e ∷ past)) (is_sent def past) (is_stored def past) in
    let s : is_sent def (e ∷ past) ≡ ((false && not (is_masked def (e ∷ past))) || goes_sent def.recalls
    (is_masked def (e ∷ past)) true (is_sent def past) (is_stored def past)) =
    sent_more def e past ∙ ap₂ (λ (g b : Bool). (g && not (is_masked def (e ∷ past))) || goes_sent def.recalls
    (is_masked def (e ∷ past)) b (is_sent def past) (is_stored def past)) none takes in
    let w : is_stored def (e ∷ past) ≡ ((false && (def.keeps && is_masked def (e ∷ past))) || goes_stored def.recalls
    (is_masked def (e ∷ past)) true (is_sent def past) (is_stored def past)) =
    stored_more def e past ∙ ap₂ (λ (g b : Bool). (g && (def.keeps && is_masked def (e ∷ past))) || goes_stored
    def.recalls (is_masked def (e ∷ past)) b (is_sent def past) (is_stored def past)) none takes in
    plain _ _ _ _ _ (ap one_if s) (ap one_if w) m
  where
    plain : (s' w' x y w : ℕ) → s' ≡ x → w' ≡ y → x + y ≤ w → s' + w' ≤ w
    plain s' w' x y w h i j = omega (arith, h, i, j)

pub marks_more : (def : LineDef) (e : Entry) (past : List Entry) → IsDue def e past → is_edge_line def ≡ true → MarksCounted def e past
marks_more def (by.Cpu c (cpus.Take ways.Line answer)) past due edge =
    let m = taken def (by.Cpu c (cpus.Take ways.Line answer)) past refl (no_edge (is_edge_line def) (is_eoi_flow def.flow)) in
    let s : one_if (is_sent def past) ≡ 1 = ap one_if (taken_by_line def past edge ((take_due def c ways.Line answer past due).by_line refl)) in
    plain _ _ _ _ _ m s
  where
    plain : (s w s' w' f : ℕ) → s' + w' ≤ w → s ≡ 1 → 1 + (s' + w') ≤ (s + w) + ((0 + 0) + f)
    plain s w s' w' f h i = omega (arith, h, i)
marks_more def (by.Cpu c (cpus.Take ways.Resend answer)) past due edge
    = plain _ _ _ _ _ (taken def (by.Cpu c (cpus.Take ways.Resend answer)) past refl
    (no_edge (is_edge_line def) (is_eoi_flow def.flow)))
  where
    plain : (s w s' w' f : ℕ) → s' + w' ≤ w → 0 + (s' + w') ≤ (s + w) + ((0 + 0) + f)
    plain s w s' w' f h = omega (arith, h)
marks_more def e past due edge = untaken def e past refl refl

-- ---- the counts

line_past : (def : LineDef) (past : List Entry) → IsLegalPast def past → is_edge_line def ≡ true
    → count_of is_line_take past + (one_if (is_sent def past) + one_if (is_stored def past)) ≤
    (count_of is_device_edge past + count_of is_chip_start past) + count_of (λ e. is_eoi_flow def.flow && is_again e)
    past
line_past def [] legal edge = omega arith
line_past def (e ∷ past) legal edge =
    summed _ _ _ _ _ _ _ _ _ _ _ _ _ _ (count_more is_line_take e past) (count_more is_device_edge e past)
    (count_more is_chip_start e past) (count_more (λ e. is_eoi_flow def.flow && is_again e) e past)
    (line_past def past legal.1 edge) (marks_more def e past legal.0 edge)
  where
    summed : (t' a' c' f' t a c f x y z u m n : ℕ) → t' ≡ t + x → a' ≡ a + y → c' ≡ c + z → f' ≡ f + u
        → t + m ≤ (a + c) + f → x + n ≤ m + ((y + z) + u) → t' + n ≤ (a' + c') + f'
    summed t' a' c' f' t a c f x y z u m n h i j l o p = omega (arith, h, i, j, l, o, p)

soft_marks : (k r s : Bool) → (r ≡ true → s ≡ true) → one_if r + one_if (k || (not r && s)) ≤ one_if s + one_if k
soft_marks k r s h = grind arith

pub resend_needs : (def : LineDef) (e : Entry) (past : List Entry) → IsDue def e past → is_resend_take e ≡ true → is_soft past ≡ true
resend_needs def (by.Cpu c (cpus.Take ways.Resend answer)) past due h = ((take_due def c ways.Resend answer past due).by_resend refl).1
resend_needs def (by.Cpu c (cpus.Take ways.Line answer)) past due h = cc
resend_needs def e past due h = cc

resend_past : (def : LineDef) (past : List Entry) → IsLegalPast def past → count_of is_resend_take past + one_if (is_soft past) ≤ count_of is_soft_start past
resend_past def [] legal = omega arith
resend_past def (e ∷ past) legal =
    summed _ _ _ _ _ _ _ _ (count_more is_resend_take e past) (count_more is_soft_start e past)
    (resend_past def past legal.1) (soft_marks (is_soft_start e) (is_resend_take e) (is_soft past)
    (resend_needs def e past legal.0))
  where
    summed : (t' k' t k x y m n : ℕ) → t' ≡ t + x → k' ≡ k + y → t + m ≤ k → x + n ≤ m + y → t' + n ≤ k'
    summed t' k' t k x y m n h i j l = omega (arith, h, i, j, l)

pub takes_are_counted : (def : LineDef) (h : List Entry) → IsLegal def h → TakesAreCounted def h
takes_are_counted def h legal =
    record {
      line = λ edge. below _ _ _ (line_past def (reverse h) legal edge);
      resend = λ edge. below _ _ _ (resend_past def (reverse h) legal);
    }
  where
    below : (t m n : ℕ) → t + m ≤ n → t ≤ n
    below t m n h = omega (arith, h)
