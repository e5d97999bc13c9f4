-- What the enable finds by which a driver ends its disable.
use Rattle.std.proofs.Common.{◌≡◌, ℕ, ◌+◌, ◌-◌, ◌<◌, ◌==◌, Bool, true, false, ◌||◌, ◌&&◌, cond, is_some, List, [], ◌∷◌}
use Rattle.std.proofs.Common.{reverse, refl, sym, ap, ◌∙◌, subst, arith, eq-eqb}
use Rattle.std.proofs.lemmas.Bool.{and_from, or_parts, ne_eqb, false_from_ne_true}
use Rattle.std.proofs.lemmas.List.{reverse-reverse}
use Rattle.std.specs.List.{list_any}
use Rattle.irq_base.specs.declared.devices.DeviceDef.{DeviceDef}
use Rattle.irq_base.specs.declared.numbers.DevNo.{DevNo}
use Rattle.irq_base.specs.declared.numbers.DriverNo.{DriverNo}
use Rattle.irq_base.specs.declared.lines.LineDef.{LineDef}
use Rattle.irq_base.specs.declared.entries.Actor.TheVariants as actors
use Rattle.irq_base.specs.declared.entries.Entry.{Entry}
use Rattle.irq_base.specs.declared.entries.Entry.TheVariants as by
use Rattle.irq_base.specs.declared.entries.CallEntry.TheVariants as called
use Rattle.irq_base.specs.declared.entries.EnableAnswer.{EnableAnswer}
use Rattle.irq_base.specs.declared.entries.EnableAnswer.TheVariants as enables
use Rattle.irq_base.specs.declared.entries.Resend.{Resend}
use Rattle.irq_base.specs.declared.entries.Resend.TheVariants as resends
use Rattle.irq_model.specs.Places.{before, count_of}
use Rattle.irq_model.specs.Kinds.{opened_by_enable, is_take, is_kill, is_start, is_started_opened, is_lowering_opened}
use Rattle.irq_model.specs.Kinds.{is_chip_opened, is_soft_opened, is_chip_start, is_soft_start}
use Rattle.irq_model.specs.Lines.{is_edge_line}
use Rattle.irq_model.specs.Links.{is_empty, is_none_linked, depth}
use Rattle.irq_model.specs.Asks.{is_high}
use Rattle.irq_model.specs.Rounds.{has_flow}
use Rattle.irq_model.specs.Waiting.{is_pending}
use Rattle.irq_model.specs.Threads.{is_woken, is_running, is_unfinished, is_some_unfinished}
use Rattle.irq_model.specs.Owed.{is_owed}
use Rattle.irq_model.specs.Next.{resend_of}
use Rattle.irq_model.specs.Legal.{IsDue, IsLegal, IsLegalPast}
use Rattle.irq_model.specs.Laws.{IsHandledNext}
use Rattle.irq_model.specs.Valid.{IsValid}
use Rattle.irq_model.proofs.RoundSteps.{flow_quiet}
use Rattle.irq_model.proofs.DepthSteps.{raised, lowered, raised_more}
use Rattle.irq_laws.specs.Kept.{Kept}
use Rattle.irq_laws.proofs.KeptAlways.{kept}
use Rattle.irq_laws.proofs.ServedLaws.{served_when_idle}
use Rattle.irq_laws.proofs.ImpliesDriver.{enable_due}
use Rattle.irq_pm.specs.Sleeping.{is_disable_by, is_enable_by, since_disable, before_disable, is_asleep}
use Rattle.irq_pm.specs.SleptLines.{IsAtRest, IsResume, IsReopening, ResumesAsItWas}
use Rattle.irq_pm.proofs.Held.{Held, held}
use Rattle.irq_pm.proofs.SleepLaws.{each_legal, rests}

-- ---- the enable's answer

abbrev answer_by : Bool → Bool → Bool → Resend → EnableAnswer
answer_by none zero one resend = cond (none || zero) enables.Unbalanced (cond one (enables.Started resend) enables.Lowered)

lowers : (n z o : Bool) (resend : Resend) → n ≡ false → z ≡ false → is_lowering_opened (opened_by_enable (answer_by n z o resend)) ≡ true
lowers true z o resend a b = cc
lowers false true o resend a b = cc
lowers false false true resend a b = refl
lowers false false false resend a b = refl

lowers_none : (n z o : Bool) (resend : Resend) → n ≡ true → is_lowering_opened (opened_by_enable (answer_by n z o resend)) ≡ false
lowers_none true z o resend a = refl
lowers_none false z o resend a = cc

starts : (n z o : Bool) (resend : Resend) → n ≡ false → z ≡ false → o ≡ true → answer_by n z o resend ≡ enables.Started resend
starts true z o resend a b c = cc
starts false true o resend a b c = cc
starts false false true resend a b c = refl
starts false false false resend a b c = cc

not_zero : (n : ℕ) → 0 < n → (n == 0) ≡ false
not_zero n h = ne_eqb n 0 (λ is. omega (arith, h, is))

-- ---- the depth after it

lower_by : (up low n m : ℕ) (d : ℕ) → n ≡ up → m ≡ low + 1 → up - low ≡ d + 1 → n - m ≡ d
lower_by up low n m d a b h = omega (arith, a, b, h)

moved : (d k n : ℕ) → n ≡ d + 1 + k → n ≡ (d + k) + 1
moved d k n h = omega (arith, h)

restored : (s : DriverNo) (answer : EnableAnswer) (past : List Entry) (d : ℕ)
    → is_lowering_opened (opened_by_enable answer) ≡ true → depth past ≡ d + 1
    → depth (by.DriverCall s (called.Enable answer) ∷ past) ≡ d
restored s answer past d lowering was =
    let n = raised_more (by.DriverCall s (called.Enable answer)) past refl in
    let low : lowered (by.DriverCall s (called.Enable answer) ∷ past) ≡ lowered past + 1 = n.1
    ∙ ap (λ (b : Bool). cond b (lowered past + 1) (lowered past)) lowering in
    lower_by (raised past) (lowered past) (raised (by.DriverCall s (called.Enable answer) ∷ past))
    (lowered (by.DriverCall s (called.Enable answer) ∷ past)) d n.0 low was

unchanged : (s : DriverNo) (answer : EnableAnswer) (past : List Entry)
    → is_lowering_opened (opened_by_enable answer) ≡ false → depth (by.DriverCall s (called.Enable answer) ∷ past) ≡ depth past
unchanged s answer past same =
    let n = raised_more (by.DriverCall s (called.Enable answer)) past refl in
    let low : lowered (by.DriverCall s (called.Enable answer) ∷ past) ≡ lowered past = n.1 ∙ ap (λ (b : Bool). cond b (lowered past + 1) (lowered past)) same in
    let up : raised (by.DriverCall s (called.Enable answer) ∷ past) ≡ raised past = n.0 in
    rw (up, low) refl

-- what r's disable keeps until its enable
slept : (def : LineDef) (r : DriverNo) (e : Entry) (past : List Entry) → IsValid def → IsLegalPast def (e ∷ past) → IsResume r e past → Held def r past
slept def r e past valid legal i = held def r past valid legal.1 i.suspended i.alone

some_deep : (def : LineDef) (r : DriverNo) (past : List Entry) → Held def r past → 0 < depth past
some_deep def r past k =
    let was : depth past ≡ depth (before_disable r past) + 1 + count_of is_kill (since_disable r past) = k.deeper in
    omega (arith, was)

restores_at : (def : LineDef) (r : DriverNo) (e : Entry) (past : List Entry) → IsDue def e past
    → is_enable_by r e ≡ true → Held def r past → is_none_linked past ≡ false
    → depth (e ∷ past) ≡ depth (before_disable r past) + count_of is_kill (since_disable r past)
restores_at def r (by.DriverCall s (called.Enable answer)) past due mine k some =
    let lowering = lowers (is_none_linked past) (depth past == 0) (depth past == 1) (resend_of def past) some
    (not_zero (depth past) (some_deep def r past k)) in
    restored s answer past (depth (before_disable r past) + count_of is_kill (since_disable r past))
    (ap (λ (a : EnableAnswer). is_lowering_opened (opened_by_enable a)) (enable_due def (actors.Driver s) answer past due) ∙ lowering)
    (moved (depth (before_disable r past)) (count_of is_kill (since_disable r past)) (depth past) k.deeper)
restores_at def r e past due mine k some = cc

unlinked_at : (def : LineDef) (r : DriverNo) (e : Entry) (past : List Entry) → IsDue def e past
    → is_enable_by r e ≡ true → is_none_linked past ≡ true → depth (e ∷ past) ≡ depth past
unlinked_at def r (by.DriverCall s (called.Enable answer)) past due mine none =
    unchanged s answer past
    (ap (λ (a : EnableAnswer). is_lowering_opened (opened_by_enable a)) (enable_due def (actors.Driver s) answer past due)
    ∙ lowers_none (is_none_linked past) (depth past == 0) (depth past == 1) (resend_of def past) none)
unlinked_at def r e past due mine none = cc

-- ---- a line that was open

legal_before : (def : LineDef) (p : Entry → Bool) (past : List Entry) → IsLegalPast def past → IsLegalPast def (before p past)
legal_before def p [] legal = tt
legal_before def p (e ∷ past) legal = by_test (p e) (legal_before def p past legal.1)
  where
    by_test : (b : Bool) → IsLegalPast def (before p past) → IsLegalPast def (cond b past (before p past))
    by_test true deeper = legal.1
    by_test false deeper = deeper

none_counted : (xs : List Entry) → list_any is_kill xs ≡ false → count_of is_kill xs ≡ 0
none_counted [] h = refl
none_counted (x ∷ xs) h =
    let parts = or_parts (is_kill x) (list_any is_kill xs) h in
    ap (λ (b : Bool). cond b (count_of is_kill xs + 1) (count_of is_kill xs)) parts.0 ∙ none_counted xs parts.1

-- it is one disable deep, and has something linked
record WasOpen (past : List Entry) : Type 0 where
  one : depth past ≡ 1
  some : is_none_linked past ≡ false

was_open : (def : LineDef) (r : DriverNo) (e : Entry) (past : List Entry) → IsValid def → IsLegalPast def (e ∷ past) → IsReopening r e past → WasOpen past
was_open def r e past valid legal i =
    let k = slept def r e past valid legal i.resume in
    let was : depth past ≡ depth (before_disable r past) + 1 + count_of is_kill (since_disable r past) = k.deeper in
    let zero : depth (before_disable r past) ≡ 0 = i.open_before in
    let none : count_of is_kill (since_disable r past) ≡ 0 = none_counted (since_disable r past) i.unkilled in
    let linked_then = ((kept def (before_disable r past) valid (legal_before def (is_disable_by r) past legal.1)).depth.enabled zero).1 in
    record { one = omega (arith, was, zero, none); some = ap is_empty k.links ∙ linked_then }

started : (def : LineDef) (s : DriverNo) (answer : EnableAnswer) (past : List Entry)
    → IsDue def (by.DriverCall s (called.Enable answer)) past → WasOpen past → answer ≡ enables.Started (resend_of def past)
started def s answer past due w =
    let is = w.one in
    (enable_due def (actors.Driver s) answer past due)
    ∙ starts (is_none_linked past) (depth past == 0) (depth past == 1) (resend_of def past) w.some
    (not_zero (depth past) (omega (arith, is))) (eq-eqb (depth past) 1 is)

opens_at : (def : LineDef) (r : DriverNo) (e : Entry) (past : List Entry) → IsDue def e past → is_enable_by r e ≡ true
    → WasOpen past → (is_start e ≡ true) × (depth (e ∷ past) ≡ 0)
opens_at def r (by.DriverCall s (called.Enable answer)) past due mine w =
    let is = started def s answer past due w in (
      ap (λ (a : EnableAnswer). is_started_opened (opened_by_enable a)) is,
      restored s answer past 0
          (ap (λ (a : EnableAnswer). is_lowering_opened (opened_by_enable a)) is) w.one,
    )
opens_at def r e past due mine w = cc

-- what is pending on an edge line is sent again
sent_again : (p t : Bool) → p ≡ true → (is_chip_opened
    (opened_by_enable (enables.Started (cond p (cond t resends.Chip resends.Soft) resends.No))) || is_soft_opened
    (opened_by_enable (enables.Started (cond p (cond t resends.Chip resends.Soft) resends.No)))) ≡ true
sent_again true true h = refl
sent_again true false h = refl
sent_again false t h = cc

resends_at : (def : LineDef) (r : DriverNo) (e : Entry) (past : List Entry) → IsDue def e past → is_enable_by r e ≡ true
    → WasOpen past → is_edge_line def ≡ true → is_pending def past ≡ true → (is_chip_start e || is_soft_start e) ≡ true
resends_at def r (by.DriverCall s (called.Enable answer)) past due mine w edge pends =
    ap (λ (a : EnableAnswer). is_chip_opened (opened_by_enable a) || is_soft_opened (opened_by_enable a)) (started def s answer past due w)
    ∙ sent_again (is_edge_line def && is_pending def past) def.retriggers (and_from (is_edge_line def) (is_pending def past) edge pends)
resends_at def r e past due mine w edge pends = cc

-- ---- after a sleep

pub none_any : (p : DeviceDef → Bool) (xs : List DeviceDef) → ((x : DeviceDef) → p x ≡ false) → list_any p xs ≡ false
none_any p [] h = refl
none_any p (x ∷ xs) h = rw (h x, none_any p xs h) refl

not_at_work : {P : Type 0} (w r f : Bool) → (w || r) ≡ false → (w || (r && f)) ≡ true → P
not_at_work true r f a b = cc
not_at_work false true f a b = cc
not_at_work false false f a b = cc

all_finished : (def : LineDef) (past : List Entry) → Kept def past → IsAtRest def past → is_some_unfinished def past ≡ false
all_finished def past k rest =
    none_any (λ x. is_unfinished past x.dev) def.devices
    (λ x. false_from_ne_true (is_unfinished past x.dev)
    (λ h. not_at_work (is_woken past x.dev) (is_running past x.dev) _ (rest.no_thread x.dev)
    (k.rest.at_work x.dev h)))

-- the line is open, has no flow, and no thread is unfinished
record IsReady (def : LineDef) (past : List Entry) : Type 0 where
  open_now : depth past ≡ 0
  no_flow : has_flow def past ≡ false
  finished : is_some_unfinished def past ≡ false

ready : (def : LineDef) (r : DriverNo) (e : Entry) (past : List Entry) → is_enable_by r e ≡ true → depth (e ∷ past) ≡ 0
    → Kept def past → IsAtRest def past → IsReady def (e ∷ past)
ready def r (by.DriverCall s (called.Enable answer)) past mine zero k rest =
    record {
      open_now = zero;
      no_flow = ap is_some (flow_quiet def (by.DriverCall s (called.Enable answer)) past refl refl refl)
          ∙ rest.no_flow;
      finished = all_finished def past k rest;
    }
ready def r e past mine zero k rest = cc

ready_at : (def : LineDef) (r : DriverNo) (e : Entry) (past : List Entry) → IsValid def → IsLegalPast def (e ∷ past)
    → IsReopening r e past → is_asleep r past ≡ true → IsReady def (e ∷ past)
ready_at def r e past valid legal i asleep =
    ready def r e past i.resume.enable (opens_at def r e past legal.0 i.resume.enable
    (was_open def r e past valid legal i)).1 (kept def past valid legal.1)
    (rests def r past valid legal.1 asleep i.resume.alone)

-- the same, of the history turned round twice
turned : (P : List Entry → Type 0) (past : List Entry) → P past → P (reverse (reverse past))
turned P past h = subst P (sym (reverse-reverse past)) h

handled_owed : (def : LineDef) (past : List Entry) → IsValid def → IsLegalPast def past → IsReady def past → (d : DevNo)
    → is_owed def d past ≡ true → IsHandledNext def (reverse past)
handled_owed def past valid legal k d h =
    (served_when_idle def (reverse past) valid (turned (λ es. IsLegalPast def es) past legal)).owed
    (turned (λ es. depth es ≡ 0) past k.open_now) (turned (λ es. has_flow def es ≡ false) past k.no_flow) d (turned (λ es. is_owed def d es ≡ true) past h)

handled_high : (def : LineDef) (past : List Entry) → IsValid def → IsLegalPast def past → IsReady def past
    → is_high def past ≡ true → IsHandledNext def (reverse past)
handled_high def past valid legal k h =
    (served_when_idle def (reverse past) valid (turned (λ es. IsLegalPast def es) past legal)).high
    (turned (λ es. depth es ≡ 0) past k.open_now) (turned (λ es. has_flow def es ≡ false) past k.no_flow)
    (turned (λ es. is_high def es ≡ true) past h) (turned (λ es. is_some_unfinished def es ≡ false) past k.finished)

-- ---- together

pub resumes_as_it_was : (def : LineDef) (r : DriverNo) (h : List Entry) → IsValid def → IsLegal def h → ResumesAsItWas def r h
resumes_as_it_was def r h valid legal =
    record {
      restores = each_legal def (λ e past. IsResume r e past → is_none_linked past ≡ false
          → depth (e ∷ past) ≡ depth (before_disable r past) + count_of is_kill (since_disable r past))
          (λ e past l i some. restores_at def r e past l.0 i.enable (slept def r e past valid l i) some) (reverse h) legal;
      unlinked = each_legal def (λ e past. IsResume r e past → is_none_linked past ≡ true
          → depth (e ∷ past) ≡ depth past) (λ e past l i none. unlinked_at def r e past l.0 i.enable none) (reverse h)
          legal;
      opens = each_legal def (λ e past. IsReopening r e past → (is_start e ≡ true) × (depth (e ∷ past) ≡ 0))
          (λ e past l i. opens_at def r e past l.0 i.resume.enable (was_open def r e past valid l i)) (reverse h) legal;
      resends = λ edge. each_legal def (λ e past. IsReopening r e past → list_any is_take (since_disable r past) ≡ true
          → (is_chip_start e || is_soft_start e) ≡ true)
          (λ e past l i took. resends_at def r e past l.0 i.resume.enable (was_open def r e past valid l i) edge
          ((slept def r e past valid l i.resume).pending edge took)) (reverse h) legal;
      owed = each_legal def (λ e past. IsReopening r e past → is_asleep r past ≡ true → (d : DevNo)
          → is_owed def d (e ∷ past) ≡ true → IsHandledNext def (reverse (e ∷ past)))
          (λ e past l i asleep d h. handled_owed def (e ∷ past) valid l (ready_at def r e past valid l i asleep) d h) (reverse h) legal;
      high = each_legal def (λ e past. IsReopening r e past → is_asleep r past ≡ true → is_high def (e ∷ past) ≡ true → IsHandledNext def (reverse (e ∷ past)))
          (λ e past l i asleep h. handled_high def (e ∷ past) valid l (ready_at def r e past valid l i asleep) h) (reverse h) legal;
    }
