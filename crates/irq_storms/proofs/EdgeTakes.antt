-- The takes on the edge flow: one that calls no handler masks the line, so it has an opening of its
-- own.
use Rattle.std.proofs.Common.{◌≡◌, ◌+◌, ◌*◌, ◌≤◌, Bool, true, false, not, ◌||◌, ◌&&◌, cond, List, [], ◌∷◌, reverse, refl, sym, ap, ◌∙◌, subst, arith}
use Rattle.std.proofs.lemmas.List.{reverse-reverse}
use Rattle.std.proofs.lemmas.Bool.{and_parts, false_from_ne_true}
use Rattle.irq_base.specs.declared.numbers.DevNo.{DevNo}
use Rattle.irq_base.specs.declared.lines.FlowKind.{FlowKind}
use Rattle.irq_base.specs.declared.lines.FlowKind.TheVariants as flows
use Rattle.irq_base.specs.declared.lines.LineDef.{LineDef}
use Rattle.irq_base.specs.declared.entries.Entry.{Entry}
use Rattle.irq_base.specs.declared.entries.Entry.TheVariants as by
use Rattle.irq_base.specs.declared.entries.CpuEntry.TheVariants as cpus
use Rattle.irq_base.specs.declared.entries.ThreadEntry.TheVariants as threads
use Rattle.irq_base.specs.declared.entries.Way.TheVariants as ways
use Rattle.irq_base.specs.declared.entries.TakeAnswer.{TakeAnswer}
use Rattle.irq_base.specs.declared.entries.TakeAnswer.TheVariants as takes
use Rattle.irq_model.specs.Places.{count_of}
use Rattle.irq_model.specs.Kinds.{is_take, is_line_take, is_resend_take, is_handle, is_start, is_soft_start}
use Rattle.irq_model.specs.Lines.{is_edge_line, is_edge_flow, is_eoi_flow, serves}
use Rattle.irq_model.specs.Masks.{masks, take_masks, is_masked, unmasks}
use Rattle.irq_model.specs.Asks.{is_high}
use Rattle.irq_model.specs.Rounds.{begins_round, has_flow}
use Rattle.irq_model.specs.Edges.{is_edge, is_sent, is_stored}
use Rattle.irq_model.specs.Links.{is_disabled}
use Rattle.irq_model.specs.Threads.{is_woken, is_other_unfinished}
use Rattle.irq_model.specs.Signal.{signals}
use Rattle.irq_model.specs.Legal.{IsDue, IsLegalPast}
use Rattle.irq_model.specs.Valid.{IsValid}
use Rattle.irq_model.proofs.EdgeSteps.{goes_sent, sent_more}
use Rattle.irq_model.proofs.MaskSteps.{masked_more}
use Rattle.irq_laws.proofs.KeptAlways.{kept}
use Rattle.irq_laws.proofs.Lists.{both_ways}
use Rattle.irq_laws.proofs.Masking.{zero_depth}
use Rattle.irq_laws.proofs.ImpliesFlow.{take_due}
use Rattle.irq_laws.proofs.ImpliesThread.{finish_due}
use Rattle.irq_laws.proofs.TakeLaws.{takes_are_counted}
use Rattle.irq_storms.specs.Judged.{one_if}
use Rattle.irq_storms.specs.Tests.{is_end}
use Rattle.irq_storms.proofs.Counting.{mark_most, count_more}
use Rattle.irq_storms.proofs.EdgeCounts.{resends_past}
use Rattle.irq_storms.proofs.RunCounts.{rounds_past}
use Rattle.irq_storms.proofs.LevelBound.{handles_begin}

-- a take by the line that calls no handler
abbrev is_left_take : Entry → Bool
is_left_take (by.Cpu cpu (cpus.Take ways.Line takes.Busy)) = true
is_left_take (by.Cpu cpu (cpus.Take ways.Line takes.Off)) = true
is_left_take _ = false

-- the line is open, or an edge is presented
abbrev is_offered : LineDef → List Entry → Bool
is_offered def past = not (is_masked def past) || is_sent def past

sent_there : (def : LineDef) (past : List Entry) → is_edge_line def ≡ true → signals def past ≡ true → is_sent def past ≡ true
sent_there def past edge h = by_line (is_edge_line def) edge h
  where
    by_line : (b : Bool) → b ≡ true → cond b (is_sent def past)
        (is_high def past && (not (is_masked def past) && not (serves def && has_flow def past))) ≡ true → is_sent def past ≡ true
    by_line true i h = h
    by_line false i h = cc

-- a take that calls no handler masks the edge flow
left_masks : (def : LineDef) (f : FlowKind) (e : Entry) (past : List Entry) → is_edge_flow f ≡ true → is_left_take e ≡ true → take_masks def f e past ≡ true
left_masks def flows.Edge (by.Cpu c (cpus.Take ways.Line takes.Busy)) past flow h = refl
left_masks def flows.Edge (by.Cpu c (cpus.Take ways.Line takes.Off)) past flow h = refl
left_masks def flows.Edge (by.Cpu c (cpus.Take ways.Line takes.Handle)) past flow h = cc
left_masks def flows.Edge (by.Cpu c (cpus.Take ways.Resend answer)) past flow h = cc
left_masks def flows.Edge e past flow h = cc
left_masks def flows.Level e past flow h = cc
left_masks def flows.Eoi e past flow h = cc

left_is_take : (e : Entry) → is_left_take e ≡ true → (is_take e ≡ true) × (is_line_take e ≡ true)
left_is_take (by.Cpu c (cpus.Take ways.Line takes.Busy)) h = (refl, refl)
left_is_take (by.Cpu c (cpus.Take ways.Line takes.Off)) h = (refl, refl)
left_is_take e h = cc

left_no_edge : (def : LineDef) (e : Entry) → is_left_take e ≡ true → is_edge def e ≡ false
left_no_edge def (by.Cpu c (cpus.Take ways.Line takes.Busy)) h = none (is_edge_line def) (is_eoi_flow def.flow)
  where
    none : (g f : Bool) → (g && (false || (false || (f && false)))) ≡ false
    none g f = grind arith
left_no_edge def (by.Cpu c (cpus.Take ways.Line takes.Off)) h = none (is_edge_line def) (is_eoi_flow def.flow)
  where
    none : (g f : Bool) → (g && (false || (false || (f && false)))) ≡ false
    none g f = grind arith
left_no_edge def e h = cc

module _ (def : LineDef) (valid : IsValid def) (flow : is_edge_flow def.flow ≡ true) where
  edge : is_edge_line def ≡ true
  edge = valid.edge_flow flow

  -- after a take that calls no handler nothing is offered
  offered_after : (e : Entry) (past : List Entry) → is_left_take e ≡ true → is_offered def (e ∷ past) ≡ false
  offered_after e past is =
      let masks_now : masks def (e ∷ past) ≡ true = first (take_masks def def.flow e past) _ (left_masks def def.flow e past flow is) in
      let masked : is_masked def (e ∷ past) ≡ true = masked_more def e past ∙ first (masks def (e ∷ past)) _ masks_now in
      let sent : is_sent def (e ∷ past) ≡ false =
      sent_more def e past ∙ none (is_edge def e) (is_masked def (e ∷ past)) def.recalls (is_take e) (is_sent def past) (is_stored def past)
      (left_no_edge def e is) masked (left_is_take e is).0 in
      off (is_masked def (e ∷ past)) (is_sent def (e ∷ past)) masked sent
    where
      first : (a b : Bool) → a ≡ true → (a || b) ≡ true
      first a b h = grind arith

      none : (g n r t s w : Bool) → g ≡ false → n ≡ true → t ≡ true → ((g && not n) || goes_sent r n t s w) ≡ false
      none g n r t s w a b c = grind arith

      off : (m s : Bool) → m ≡ true → s ≡ false → (not m || s) ≡ false
      off m s h i = grind arith

  -- before it something was
  offered_before : (e : Entry) (past : List Entry) → IsDue def e past → is_left_take e ≡ true → is_offered def past ≡ true
  offered_before (by.Cpu c (cpus.Take ways.Line answer)) past due is =
      second (not (is_masked def past)) (is_sent def past) (sent_there def past edge ((take_due def c ways.Line answer past due).by_line refl))
    where
      second : (a b : Bool) → b ≡ true → (a || b) ≡ true
      second a b h = grind arith
  offered_before (by.Cpu c (cpus.Take ways.Resend answer)) past due is = cc
  offered_before e past due is = cc

  -- what isn't opened stays as it was, or less
  offered_less : (e : Entry) (past : List Entry) → unmasks e ≡ false → is_offered def (e ∷ past) ≡ true → is_offered def past ≡ true
  offered_less e past quiet h =
      by_tests (is_edge def e) (masks def (e ∷ past)) (unmasks e) (is_masked def past) def.recalls (is_take e) (is_sent def past) (is_stored def past)
      (is_masked def (e ∷ past)) (is_sent def (e ∷ past)) quiet (masked_more def e past) (sent_more def e past) h
    where
      by_tests : (g k u m r t s w m2 s2 : Bool) → u ≡ false → m2 ≡ (k || (not u && m)) → s2 ≡ ((g && not m2) || goes_sent r m2 t s w)
          → (not m2 || s2) ≡ true → (not m || s) ≡ true
      by_tests g k u false r t s w m2 s2 a b c d = refl
      by_tests g k u true r t true w m2 s2 a b c d = refl
      by_tests g k u true r t false w m2 s2 a b c d =
          let masked : m2 ≡ true = b ∙ still k u a in
          let none : s2 ≡ false = c ∙ ap (λ (n : Bool). (g && not n) || goes_sent r n t false w) masked ∙ gone g r t w in
          both_ways (not m2 || s2) d (off m2 s2 masked none)
        where
          still : (k u : Bool) → u ≡ false → (k || (not u && true)) ≡ true
          still k u h = grind arith

          gone : (g r t w : Bool) → ((g && not true) || goes_sent r true t false w) ≡ false
          gone g r t w = grind arith

          off : (m s : Bool) → m ≡ true → s ≡ false → (not m || s) ≡ false
          off m s h i = grind arith

  left_more : (e : Entry) (past : List Entry) → IsDue def e past
      → one_if (is_left_take e) + one_if (is_offered def (e ∷ past)) ≤ one_if (is_offered def past) + one_if (unmasks e)
  left_more e past due = by_tests (is_left_take e) (unmasks e) refl refl
    where
      fewer : (a b : Bool) → (a ≡ true → b ≡ true) → one_if a ≤ one_if b
      fewer true true h = omega arith
      fewer true false h = let n = h refl in cc
      fewer false b h = omega arith

      by_tests : (l u : Bool) → is_left_take e ≡ l → unmasks e ≡ u
          → one_if (is_left_take e) + one_if (is_offered def (e ∷ past)) ≤ one_if (is_offered def past) + one_if (unmasks e)
      by_tests true u il iu =
          let l : one_if (is_left_take e) ≡ 1 = ap one_if il in
          let after : one_if (is_offered def (e ∷ past)) ≡ 0 = ap one_if (offered_after e past il) in
          let was : one_if (is_offered def past) ≡ 1 = ap one_if (offered_before e past due il) in
          omega (arith, l, after, was)
      by_tests false true il iu =
          let l : one_if (is_left_take e) ≡ 0 = ap one_if il in
          let o : one_if (unmasks e) ≡ 1 = ap one_if iu in
          let m = mark_most (is_offered def (e ∷ past)) in
          omega (arith, l, o, m)
      by_tests false false il iu =
          let l : one_if (is_left_take e) ≡ 0 = ap one_if il in
          let f = fewer (is_offered def (e ∷ past)) (is_offered def past) (offered_less e past iu) in
          omega (arith, l, f)

  lefts_past : (past : List Entry) → IsLegalPast def past → count_of is_left_take past + one_if (is_offered def past) ≤ count_of unmasks past
  lefts_past [] legal = let m = closed in omega (arith, m)
    where
      closed : one_if (is_offered def []) ≡ 0
      closed = refl
  lefts_past (e ∷ past) legal =
      let r = lefts_past past legal.1 in
      let m = left_more e past legal.0 in
      let a = count_more is_left_take e past in
      let b = count_more unmasks e past in
      omega (arith, r, m, a, b)

  -- ---- what opens the line: its starts, and ends that go on

  no_finish : (x : DevNo) (kept_bit unmask : Bool) (past : List Entry) → IsLegalPast def (by.Thread x (threads.Finish kept_bit unmask) ∷ past) → unmask ≡ false
  no_finish x kept_bit unmask past legal = false_from_ne_true unmask (λ opens. in_flow opens)
    where
      in_flow : unmask ≡ true → ⊥
      in_flow opens =
          let u = finish_due def x kept_bit unmask past legal.0 in
          let p = and_parts (not (is_woken past x)) _ (sym u.unmask_is ∙ opens) in
          let q = and_parts (not (is_disabled past)) (is_masked def past && not (is_other_unfinished def past x)) p.1 in
          let m = (and_parts (is_masked def past) (not (is_other_unfinished def past x)) q.1).0 in
          let f = ((kept def past valid legal.1).edges.edge_flow flow m (zero_depth past (off (is_disabled past) q.0))).0 in
          both_ways (has_flow def past) f u.no_flow
        where
          off : (b : Bool) → not b ≡ true → b ≡ false
          off true h = cc
          off false h = refl

  opens_more : (e : Entry) (past : List Entry) → IsLegalPast def (e ∷ past) → one_if (unmasks e) ≤ one_if (is_start e) + one_if (is_end e)
  opens_more (by.Cpu c (cpus.End again unmask note)) past legal = one unmask
    where
      one : (b : Bool) → one_if (false || b) ≤ 0 + 1
      one true = omega arith
      one false = omega arith
  opens_more (by.Thread x (threads.Finish kept_bit unmask)) past legal =
      let z : one_if (false || unmask) ≡ 0 = ap (λ (b : Bool). one_if (false || b)) (no_finish x kept_bit unmask past legal) in omega (arith, z)
  opens_more e past legal = start_alone (is_start e)
    where
      start_alone : (b : Bool) → one_if (b || false) ≤ one_if b + 0
      start_alone true = omega arith
      start_alone false = omega arith

  opens_past : (past : List Entry) → IsLegalPast def past → count_of unmasks past ≤ count_of is_start past + count_of is_end past
  opens_past [] legal = omega arith
  opens_past (e ∷ past) legal =
      let r = opens_past past legal.1 in
      let m = opens_more e past legal in
      let a = count_more unmasks e past in
      let b = count_more is_start e past in
      let c = count_more is_end e past in
      omega (arith, r, m, a, b, c)

  -- ---- all takes

  takes_by_kind : (past : List Entry) → count_of is_take past ≤ count_of is_handle past + count_of is_left_take past + count_of is_resend_take past
  takes_by_kind [] = omega arith
  takes_by_kind (by.Cpu c (cpus.Take ways.Line takes.Handle) ∷ past) = let r = takes_by_kind past in omega (arith, r)
  takes_by_kind (by.Cpu c (cpus.Take ways.Line takes.Busy) ∷ past) = let r = takes_by_kind past in omega (arith, r)
  takes_by_kind (by.Cpu c (cpus.Take ways.Line takes.Off) ∷ past) = let r = takes_by_kind past in omega (arith, r)
  takes_by_kind (by.Cpu c (cpus.Take ways.Resend answer) ∷ past) = resent answer (takes_by_kind past)
    where
      resent : (a : TakeAnswer) → count_of is_take past ≤ count_of is_handle past + count_of is_left_take past + count_of is_resend_take past
          → count_of is_take (by.Cpu c (cpus.Take ways.Resend a) ∷ past)
          ≤ count_of is_handle (by.Cpu c (cpus.Take ways.Resend a) ∷ past) + count_of is_left_take (by.Cpu c (cpus.Take ways.Resend a) ∷ past)
          + count_of is_resend_take (by.Cpu c (cpus.Take ways.Resend a) ∷ past)
      resent takes.Handle h = omega (arith, h)
      resent takes.Busy h = omega (arith, h)
      resent takes.Off h = omega (arith, h)
  takes_by_kind (e ∷ past) = takes_by_kind past

  resent_past : (past : List Entry) → IsLegalPast def past → count_of is_resend_take past ≤ count_of is_start past
  resent_past past legal =
      let turned : reverse (reverse past) ≡ past = reverse-reverse past in
      let t = takes_are_counted def (reverse past) (subst (λ (l : List Entry). IsLegalPast def l) (sym turned) legal) in
      let r = subst (λ (l : List Entry). count_of is_resend_take l ≤ count_of is_soft_start l) turned (t.resend edge) in
      let s = resends_past past in
      omega (arith, r, s)

  pub edge_takes : (past : List Entry) → IsLegalPast def past → count_of is_take past ≤ 2 * count_of (begins_round def) past + 2 * count_of is_start past
  edge_takes past legal =
      let k = takes_by_kind past in
      let h = handles_begin def past in
      let l = lefts_past past legal in
      let o = opens_past past legal in
      let r = resent_past past legal in
      let e = rounds_past def past legal in
      omega (arith, k, h, l, o, r, e)
