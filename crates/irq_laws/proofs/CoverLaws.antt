-- Each owed edge is somewhere: presented, kept, pending, in a software resend, or its device is
-- still ahead in the round.
use Rattle.std.proofs.Common.{◌≡◌, ◌⊎◌, inl, inr, Bool, true, false, not, ◌||◌, ◌&&◌, ◌==◌, cond, Some, None, is_some}
use Rattle.std.proofs.Common.{List, [], ◌∷◌, reverse, refl, sym, ap, ◌∙◌, subst, arith}
use Rattle.std.proofs.lemmas.Bool.{and_parts, and_from, or_cases, or_left, or_right}
use Rattle.std.specs.List.{list_any}
use Rattle.irq_base.specs.declared.numbers.CpuNo.{CpuNo}
use Rattle.irq_base.specs.declared.numbers.DevNo.{DevNo}
use Rattle.irq_base.specs.declared.lines.LineDef.{LineDef}
use Rattle.irq_base.specs.declared.entries.Actor.{Actor}
use Rattle.irq_base.specs.declared.entries.Actor.TheVariants as actors
use Rattle.irq_base.specs.declared.entries.Entry.{Entry}
use Rattle.irq_base.specs.declared.entries.Entry.TheVariants as by
use Rattle.irq_base.specs.declared.entries.CpuEntry.TheVariants as cpus
use Rattle.irq_base.specs.declared.entries.DriverEntry.TheVariants as drivers
use Rattle.irq_base.specs.declared.entries.CallEntry.{CallEntry}
use Rattle.irq_base.specs.declared.entries.CallEntry.TheVariants as called
use Rattle.irq_base.specs.declared.entries.Note.{Note}
use Rattle.irq_base.specs.declared.entries.Resend.{Resend}
use Rattle.irq_base.specs.declared.entries.Resend.TheVariants as resends
use Rattle.irq_base.specs.declared.entries.EnableAnswer.{EnableAnswer}
use Rattle.irq_base.specs.declared.entries.EnableAnswer.TheVariants as enables
use Rattle.irq_base.specs.declared.entries.Opened.{Opened}
use Rattle.irq_base.specs.declared.entries.Opened.TheVariants as opens
use Rattle.irq_base.specs.declared.entries.LinkAnswer.{LinkAnswer}
use Rattle.irq_base.specs.declared.entries.LinkAnswer.TheVariants as links
use Rattle.irq_base.specs.declared.entries.TakeAnswer.TheVariants as takes
use Rattle.irq_model.specs.Places.{some_place, since, last_of}
use Rattle.irq_model.specs.Kinds.{opened_by_enable, is_device_edge, is_begin, unlinks_dev, links_dev, is_take, is_again}
use Rattle.irq_model.specs.Kinds.{is_handle, is_start, is_soft_start, is_chip_start, is_resend_take, is_chip_opened}
use Rattle.irq_model.specs.Kinds.{is_soft_opened, is_started_opened, opened_of, opened_by_call, made_by, is_disable, is_kill, is_last_unlink}
use Rattle.irq_model.specs.Lines.{is_edge_line, is_eoi_flow}
use Rattle.irq_model.specs.Links.{linked, is_linked, is_started, is_none_linked, depth, has_spurious_mark}
use Rattle.irq_model.specs.Masks.{is_masked, unmasks}
use Rattle.irq_model.specs.Rounds.{flow, has_flow, has_begun, is_ahead, first_left, begins_round, closes, cpu_of_handle}
use Rattle.irq_model.specs.Waiting.{is_pending, is_soft, clears_pending}
use Rattle.irq_model.specs.Edges.{is_edge, is_sent, is_stored}
use Rattle.irq_model.specs.Owed.{comes_to, IsCovered, IsCoveredPast}
use Rattle.irq_model.specs.Next.{resend_of, enable_answer, opened_by_request}
use Rattle.irq_model.specs.Legal.{IsDue, IsLegal, IsLegalPast}
use Rattle.irq_model.specs.Valid.{IsValid}
use Rattle.irq_model.proofs.EdgeSteps.{goes_sent, goes_stored, sent_more, stored_more}
use Rattle.irq_model.proofs.MaskSteps.{masked_by_opening}
use Rattle.irq_model.proofs.WaitSteps.{pending_by_clearing}
use Rattle.irq_laws.specs.Kept.{Kept}
use Rattle.irq_laws.proofs.Lists.{both_ways}
use Rattle.irq_laws.proofs.Requested.{of_linked}
use Rattle.irq_laws.proofs.Owing.{owes, owed_cases, owed_linked}
use Rattle.irq_laws.proofs.Masking.{start_opens, IsPlain, flow_same}
use Rattle.irq_laws.proofs.KeptAlways.{kept}
use Rattle.irq_laws.proofs.ImpliesFlow.{end_due, has_a_flow}
use Rattle.irq_laws.proofs.ImpliesDriver.{enable_due, request_due, opened_with}

-- where an owed edge may be
abbrev pub is_covered : LineDef → List Entry → DevNo → Bool
is_covered def past d = is_sent def past || (is_stored def past || (is_pending def past || (is_soft past || is_ahead def past d)))

-- ---- the chip's marks

marks_kept : (g k r n s w : Bool) → (s || w) ≡ true → (((g && not n) || goes_sent r n false s w) || ((g && (k && n)) || goes_stored r n false s w)) ≡ true
marks_kept g k r n s w h = grind arith

marks_new : (g k r n s w : Bool) → g ≡ true → (not n || k) ≡ true
    → (((g && not n) || goes_sent r n false s w) || ((g && (k && n)) || goes_stored r n false s w)) ≡ true
marks_new g k r n s w h i = grind arith

by_marks : (def : LineDef) (e : Entry) (past : List Entry) → is_take e ≡ false
    → (((is_edge def e && not (is_masked def (e ∷ past))) || goes_sent def.recalls (is_masked def (e ∷ past)) false (is_sent def past) (is_stored def past))
    || ((is_edge def e && (def.keeps && is_masked def (e ∷ past))) || goes_stored def.recalls (is_masked def (e ∷ past))
    false (is_sent def past) (is_stored def past))) ≡ true
    → (is_sent def (e ∷ past) || is_stored def (e ∷ past)) ≡ true
by_marks def e past no_take h = rw (sent_more def e past, stored_more def e past, no_take) h

-- an entry that is no take leaves what was presented or kept presented or kept
keeps_marks : (def : LineDef) (e : Entry) (past : List Entry) → is_take e ≡ false
    → (is_sent def past || is_stored def past) ≡ true → (is_sent def (e ∷ past) || is_stored def (e ∷ past)) ≡ true
keeps_marks def e past no_take h = by_marks def e past no_take
    (marks_kept (is_edge def e) def.keeps def.recalls (is_masked def (e ∷ past)) (is_sent def past) (is_stored def past)
    h)

-- an edge that comes to an open line, or to one whose chip keeps, is presented or kept
new_mark : (def : LineDef) (e : Entry) (past : List Entry) → is_take e ≡ false → is_edge def e ≡ true
    → (not (is_masked def (e ∷ past)) || def.keeps) ≡ true → (is_sent def (e ∷ past) || is_stored def (e ∷ past)) ≡ true
new_mark def e past no_take edge shown = by_marks def e past no_take
    (marks_new (is_edge def e) def.keeps def.recalls (is_masked def (e ∷ past)) (is_sent def past) (is_stored def past)
    edge shown)

-- ---- the four places of an owed edge

four : (s w p f a : Bool) → (s || (w || (p || (f || a)))) ≡ ((s || w) || (p || (f || a)))
four s w p f a = grind arith

pub by_place : {P : Type 0} (def : LineDef) (past : List Entry) (d : DevNo) → is_covered def past d ≡ true
    → ((is_sent def past || is_stored def past) ≡ true → P) → (is_pending def past ≡ true → P)
    → (is_soft past ≡ true → P) → (is_ahead def past d ≡ true → P) → P
by_place {P} def past d h marks pending soft ahead = first
    (or_cases _ _ (sym (four (is_sent def past) (is_stored def past) (is_pending def past) (is_soft past)
    (is_ahead def past d)) ∙ h))
  where
    third : (is_soft past ≡ true) ⊎ (is_ahead def past d ≡ true) → P
    third (inl x) = soft x
    third (inr x) = ahead x

    second : (is_pending def past ≡ true) ⊎ ((is_soft past || is_ahead def past d) ≡ true) → P
    second (inl x) = pending x
    second (inr x) = third (or_cases _ _ x)

    first : ((is_sent def past || is_stored def past) ≡ true) ⊎ ((is_pending def past || (is_soft past || is_ahead def past d)) ≡ true) → P
    first (inl x) = marks x
    first (inr x) = second (or_cases _ _ x)

by_mark : (def : LineDef) (past : List Entry) (d : DevNo) → (is_sent def past || is_stored def past) ≡ true → is_covered def past d ≡ true
by_mark def past d h = four (is_sent def past) (is_stored def past) (is_pending def past) (is_soft past) (is_ahead def past d) ∙ or_left _ _ h

by_pending : (def : LineDef) (past : List Entry) (d : DevNo) → is_pending def past ≡ true → is_covered def past d ≡ true
by_pending def past d h = or_right (is_sent def past) _ (or_right (is_stored def past) _ (or_left (is_pending def past) _ h))

by_soft : (def : LineDef) (past : List Entry) (d : DevNo) → is_soft past ≡ true → is_covered def past d ≡ true
by_soft def past d h = or_right (is_sent def past) _ (or_right (is_stored def past) _ (or_right (is_pending def past) _ (or_left (is_soft past) _ h)))

by_ahead : (def : LineDef) (past : List Entry) (d : DevNo) → is_ahead def past d ≡ true → is_covered def past d ≡ true
by_ahead def past d h = or_right (is_sent def past) _ (or_right (is_stored def past) _ (or_right (is_pending def past) _ (or_right (is_soft past) _ h)))

-- ---- a start sends again what is pending

started_by : (a b : Bool) (x : Resend) → is_started_opened
    (opened_by_enable (cond a enables.Unbalanced (cond b (enables.Started x) enables.Lowered))) ≡ true
    → opened_by_enable (cond a enables.Unbalanced (cond b (enables.Started x) enables.Lowered)) ≡ opens.Started x
started_by true b x h = cc
started_by false true x h = refl
started_by false false x h = cc

enable_resends : (def : LineDef) (past : List Entry) → is_started_opened (opened_by_enable (enable_answer def past))
    ≡ true → opened_by_enable (enable_answer def past) ≡ opens.Started (resend_of def past)
enable_resends def past h = started_by (is_none_linked past || (depth past == 0)) (depth past == 1) (resend_of def past) h

request_by : (def : LineDef) (past : List Entry) (n f m : Bool)
    → is_started_opened (cond n (cond f opens.No (opens.Started (resend_of def past)))
    (cond m (opened_by_enable (enable_answer def past)) opens.No)) ≡ true
    → cond n (cond f opens.No (opens.Started (resend_of def past)))
    (cond m (opened_by_enable (enable_answer def past)) opens.No) ≡ opens.Started (resend_of def past)
request_by def past true true m h = cc
request_by def past true false m h = refl
request_by def past false f true h = enable_resends def past h
request_by def past false f false h = cc

call_resends : (def : LineDef) (a : Actor) (call : CallEntry) (past : List Entry) → IsDue def (made_by a call) past
    → is_started_opened (opened_by_call call) ≡ true → opened_by_call call ≡ opens.Started (resend_of def past)
call_resends def a (called.Enable answer) past due h =
    let is = enable_due def a answer past due in
    ap opened_by_enable is ∙ enable_resends def past (subst (λ (x : EnableAnswer). is_started_opened (opened_by_enable x) ≡ true) is h)
call_resends def a call past due h = cc

start_resends : (def : LineDef) (e : Entry) (past : List Entry) → IsDue def e past → is_start e ≡ true → opened_of e ≡ opens.Started (resend_of def past)
start_resends def (by.CpuCall c call) past due h = call_resends def (actors.Cpu c) call past due h
start_resends def (by.ThreadCall x call) past due h = call_resends def (actors.Thread x) call past due h
start_resends def (by.DriverCall s call) past due h = call_resends def (actors.Driver s) call past due h
start_resends def (by.Driver s (drivers.Request flags links.Linked opened x)) past due h =
    let u = request_due def s x flags links.Linked opened past due in
    let is : opened ≡ opened_by_request def flags past = u.opened_is ∙ ap (λ (a : LinkAnswer). opened_with def flags past a) (sym u.answer_is) in
    is ∙ request_by def past (is_none_linked past) flags.noauto (has_spurious_mark past) (subst (λ (o : Opened). is_started_opened o ≡ true) is h)
start_resends def (by.Driver s (drivers.Request flags (links.Refused error) opened x)) past due h =
    let u = request_due def s x flags (links.Refused error) opened past due in
    let is : opened ≡ opens.No = u.opened_is ∙ ap (λ (a : LinkAnswer). opened_with def flags past a) (sym u.answer_is) in
    both_ways (is_started_opened opened) h (ap is_started_opened is)
start_resends def e past due h = cc

-- what is pending when a start comes is sent by the chip, or kept for the software
resend_cases : (g p r : Bool) → g ≡ true → p ≡ true → (is_chip_opened
    (opens.Started (cond (g && p) (cond r resends.Chip resends.Soft) resends.No)) ≡ true)
    ⊎ (is_soft_opened (opens.Started (cond (g && p) (cond r resends.Chip resends.Soft) resends.No)) ≡ true)
resend_cases true true true a b = inl refl
resend_cases true true false a b = inr refl
resend_cases false p r a b = cc
resend_cases true false r a b = cc

edges_by : (g a c x : Bool) → g ≡ true → c ≡ true → (g && (a || (c || x))) ≡ true
edges_by g a c x h i = grind arith

start_covers : (def : LineDef) (e : Entry) (past : List Entry) (d : DevNo) → IsDue def e past → is_take e ≡ false
    → is_edge_line def ≡ true → is_start e ≡ true → is_pending def past ≡ true → is_covered def (e ∷ past) d ≡ true
start_covers def e past d due no_take edge starts p = by_case (resend_cases (is_edge_line def) (is_pending def past) def.retriggers edge p)
  where
    by_case : (is_chip_opened (opens.Started (resend_of def past)) ≡ true)
        ⊎ (is_soft_opened (opens.Started (resend_of def past)) ≡ true) → is_covered def (e ∷ past) d ≡ true
    by_case (inl chip) =
        let c : is_chip_start e ≡ true = ap is_chip_opened (start_resends def e past due starts) ∙ chip in
        by_mark def (e ∷ past) d (new_mark def e past no_take
        (edges_by (is_edge_line def) (is_device_edge e) (is_chip_start e) (is_eoi_flow def.flow && is_again e) edge c)
        (or_left _ _ (ap not (start_opens def e past starts))))
    by_case (inr soft) =
        let c : is_soft_start e ≡ true = ap is_soft_opened (start_resends def e past due starts) ∙ soft in
        by_soft def (e ∷ past) d (or_left (is_soft_start e) _ c)

-- ---- a device that is ahead

linked_stays : (k u l : Bool) → u ≡ false → l ≡ true → (k || (not u && l)) ≡ true
linked_stays k u l a b = grind arith

round_more : (def : LineDef) (e : Entry) (past : List Entry) (d : DevNo) → IsPlain e → has_begun def (e ∷ past) d ≡ (is_begin d e || has_begun def past d)
round_more def e past d plain = ap (λ (b : Bool). list_any (is_begin d) (cond b [] (e ∷ since (begins_round def) past)))
    (no_round (is_handle e) (is_again e) (is_eoi_flow def.flow) plain.no_handle plain.no_again)
  where
    no_round : (h a f : Bool) → h ≡ false → a ≡ false → (h || (a && not f)) ≡ false
    no_round h a f x y = grind arith

ahead_parts : (f l b : Bool) → (f && (l && not b)) ≡ true → (f ≡ true) × (b ≡ false)
ahead_parts f l b h = (grind arith, grind arith)

ahead_from : (f l b : Bool) → f ≡ true → l ≡ true → b ≡ false → (f && (l && not b)) ≡ true
ahead_from f l b x y z = grind arith

either_false : (a b : Bool) → a ≡ false → b ≡ false → (a || b) ≡ false
either_false a b x y = grind arith

ahead_stays : (def : LineDef) (e : Entry) (past : List Entry) (d : DevNo) → IsPlain e → is_linked past d ≡ true
    → unlinks_dev d e ≡ false → is_begin d e ≡ false → is_ahead def past d ≡ true → is_ahead def (e ∷ past) d ≡ true
ahead_stays def e past d plain linked no_unlink no_begin h =
    let p = ahead_parts (has_flow def past) (is_linked past d) (has_begun def past d) h in
    ahead_from (has_flow def (e ∷ past)) (is_linked (e ∷ past) d) (has_begun def (e ∷ past) d)
    (flow_same def e past plain ∙ p.0) (linked_stays (links_dev d e) (unlinks_dev d e) (is_linked past d) no_unlink
    linked)
    (round_more def e past d plain ∙ either_false (is_begin d e) (has_begun def past d) no_begin p.1)

-- if no device is left, each linked one was called
all_begun : (def : LineDef) (past : List Entry) (ds : List DevNo) → first_left def past ds ≡ None → list_any (λ x. not (has_begun def past x)) ds ≡ false
all_begun def past [] h = refl
all_begun def past (x ∷ xs) h = by_test (has_begun def past x) refl (all_begun def past xs)
  where
    by_test : (b : Bool) → has_begun def past x ≡ b → (first_left def past xs ≡ None
        → list_any (λ x. not (has_begun def past x)) xs ≡ false)
        → list_any (λ x. not (has_begun def past x)) (x ∷ xs) ≡ false
    by_test true is deeper = either_false (not (has_begun def past x)) _ (ap not is)
        (deeper (ap (λ (b : Bool). cond b (first_left def past xs) (Some x)) (sym is) ∙ h))
    by_test false is deeper = let n : Some x ≡ None = ap (λ (b : Bool). cond b (first_left def past xs) (Some x)) (sym is) ∙ h in cc

none_ahead : {P : Type 0} (def : LineDef) (past : List Entry) (d : DevNo) → first_left def past (linked past) ≡ None
    → is_linked past d ≡ true → is_ahead def past d ≡ true → P
none_ahead def past d none there h =
    let p = ahead_parts (has_flow def past) (is_linked past d) (has_begun def past d) h in
    both_ways (list_any (λ x. not (has_begun def past x)) (linked past))
    (of_linked (λ x. not (has_begun def past x)) past d there (ap not p.1)) (all_begun def past (linked past) none)

-- ---- each entry

clears_none : (h a s p : Bool) → h ≡ false → a ≡ false → s ≡ false → p ≡ true → (not (h || (a || s)) && p) ≡ true
clears_none h a s p x y z w = grind arith

soft_stays : (k r s : Bool) → r ≡ false → s ≡ true → (k || (not r && s)) ≡ true
soft_stays k r s a b = grind arith

resend_not : (e : Entry) → is_take e ≡ false → is_resend_take e ≡ false
resend_not (by.Cpu c (cpus.Take way answer)) h = cc
resend_not e h = refl

covered_plain : (def : LineDef) (e : Entry) (past : List Entry) (d : DevNo) → IsDue def e past → IsPlain e
    → is_edge_line def ≡ true → is_linked past d ≡ true → unlinks_dev d e ≡ false → is_begin d e ≡ false
    → is_covered def past d ≡ true → is_covered def (e ∷ past) d ≡ true
covered_plain def e past d due plain edge linked no_unlink no_begin h =
    by_place def past d h
    (λ m. by_mark def (e ∷ past) d (keeps_marks def e past plain.no_take m))
    (λ p. by_start (is_start e) refl p)
    (λ s. by_soft def (e ∷ past) d (soft_stays (is_soft_start e) (is_resend_take e) (is_soft past) (resend_not e plain.no_take) s))
    (λ a. by_ahead def (e ∷ past) d (ahead_stays def e past d plain linked no_unlink no_begin a))
  where
    by_start : (b : Bool) → is_start e ≡ b → is_pending def past ≡ true → is_covered def (e ∷ past) d ≡ true
    by_start true starts p = start_covers def e past d due plain.no_take edge starts p
    by_start false no_start p = by_pending def (e ∷ past) d
        (pending_by_clearing def e past plain.no_take ∙ clears_none (is_handle e) (is_again e) (is_start e)
        (is_pending def past) plain.no_handle plain.no_again no_start p)

-- an end that goes on: on the fast-EOI flow it is an edge, on the others it begins a round
covered_again : (def : LineDef) (c : CpuNo) (unmask : Bool) (note : Note) (past : List Entry) (d : DevNo) → IsValid def
    → IsDue def (by.Cpu c (cpus.End true unmask note)) past → is_edge_line def ≡ true → is_linked past d ≡ true
    → is_covered def (by.Cpu c (cpus.End true unmask note) ∷ past) d ≡ true
covered_again def c unmask note past d valid due edge linked = by_flow (is_eoi_flow def.flow) refl
  where
    by_flow : (b : Bool) → is_eoi_flow def.flow ≡ b → is_covered def (by.Cpu c (cpus.End true unmask note) ∷ past) d ≡ true
    by_flow true eoi =
        by_mark def (by.Cpu c (cpus.End true unmask note) ∷ past) d
        (new_mark def (by.Cpu c (cpus.End true unmask note)) past refl (and_from _ _ edge (and_from _ _ eoi refl))
        (or_right (not (is_masked def (by.Cpu c (cpus.End true unmask note) ∷ past))) def.keeps
        (valid.eoi_keeps edge eoi)))
    by_flow false other =
        by_ahead def (by.Cpu c (cpus.End true unmask note) ∷ past) d
        (ahead_from (has_flow def (by.Cpu c (cpus.End true unmask note) ∷ past)) (is_linked past d)
        (has_begun def (by.Cpu c (cpus.End true unmask note) ∷ past) d)
        (ap (λ (b : Bool). is_some (cpu_of_handle (cond (b && true) (Some (by.Cpu c (cpus.End true unmask note)))
        (last_of (λ e. is_handle e || closes def e) past)))) other
        ∙ has_a_flow c (flow def past) (end_due def c true unmask note past due).of_flow)
        linked
        (ap (λ (b : Bool). list_any (is_begin d) (cond (not b) [] (by.Cpu c (cpus.End true unmask note) ∷ since (begins_round def) past))) other))

covered_leave : (def : LineDef) (c : CpuNo) (unmask : Bool) (note : Note) (past : List Entry) (d : DevNo)
    → IsDue def (by.Cpu c (cpus.End false unmask note)) past → is_linked past d ≡ true → is_covered def past d ≡ true
    → is_covered def (by.Cpu c (cpus.End false unmask note) ∷ past) d ≡ true
covered_leave def c unmask note past d due linked h =
    by_place def past d h
    (λ m. by_mark def (by.Cpu c (cpus.End false unmask note) ∷ past) d (keeps_marks def (by.Cpu c (cpus.End false unmask note)) past refl m))
    (λ p. by_pending def (by.Cpu c (cpus.End false unmask note) ∷ past) d (pending_by_clearing def (by.Cpu c (cpus.End false unmask note)) past refl ∙ p))
    (λ s. by_soft def (by.Cpu c (cpus.End false unmask note) ∷ past) d s)
    (λ a. none_ahead def past d (end_due def c false unmask note past due).none_left linked a)

-- an edge that was owed before
covered_old : (def : LineDef) (e : Entry) (past : List Entry) (d : DevNo) → IsValid def → IsDue def e past
    → is_edge_line def ≡ true → is_linked past d ≡ true → unlinks_dev d e ≡ false → is_begin d e ≡ false
    → is_covered def past d ≡ true → is_covered def (e ∷ past) d ≡ true
covered_old def (by.Cpu c (cpus.Take way takes.Handle)) past d valid due edge linked no_unlink no_begin h =
    by_ahead def (by.Cpu c (cpus.Take way takes.Handle) ∷ past) d (ahead_from true (is_linked past d) false refl linked refl)
covered_old def (by.Cpu c (cpus.Take way takes.Busy)) past d valid due edge linked no_unlink no_begin h =
    by_pending def (by.Cpu c (cpus.Take way takes.Busy) ∷ past) d (ap (λ (b : Bool). (b && true) || is_pending def past) edge)
covered_old def (by.Cpu c (cpus.Take way takes.Off)) past d valid due edge linked no_unlink no_begin h
    = by_pending def (by.Cpu c (cpus.Take way takes.Off) ∷ past) d refl
covered_old def (by.Cpu c (cpus.End true unmask note)) past d valid due edge linked no_unlink no_begin h
    = covered_again def c unmask note past d valid due edge linked
covered_old def (by.Cpu c (cpus.End false unmask note)) past d valid due edge linked no_unlink no_begin h = covered_leave def c unmask note past d due linked h
covered_old def e past d valid due edge linked no_unlink no_begin h =
    covered_plain def e past d due (record { no_take = refl; no_handle = refl; no_leave = refl; no_again = refl }) edge linked no_unlink no_begin h

-- an edge that comes now, by an entry that neither masks nor opens the line
covered_edge : (def : LineDef) (e : Entry) (past : List Entry) (d : DevNo) → Kept def past → is_device_edge e ≡ true → is_edge_line def ≡ true
    → is_started past ≡ true → is_take e ≡ false → (is_disable e || is_kill e) ≡ false → is_last_unlink e ≡ false → unmasks e ≡ false
    → clears_pending e ≡ false → is_covered def (e ∷ past) d ≡ true
covered_edge def e past d k edges edge started no_take no_deepening no_last no_open clears_not = by_test (is_masked def past) def.keeps refl refl
  where
    same : is_masked def (e ∷ past) ≡ is_masked def past
    same = masked_by_opening def e past no_take no_deepening no_last ∙ ap (λ (b : Bool). not b && is_masked def past) no_open

    shown : (not (is_masked def (e ∷ past)) || def.keeps) ≡ true → is_covered def (e ∷ past) d ≡ true
    shown h = by_mark def (e ∷ past) d (new_mark def e past no_take (and_from _ _ edge (or_left (is_device_edge e) _ edges)) h)

    by_test : (m k : Bool) → is_masked def past ≡ m → def.keeps ≡ k → is_covered def (e ∷ past) d ≡ true
    by_test false b is it = shown (or_left _ _ (ap not (same ∙ is)))
    by_test true true is it = shown (or_right (not (is_masked def (e ∷ past))) def.keeps it)
    by_test true false is it = by_pending def (e ∷ past) d
        (pending_by_clearing def e past no_take ∙ ap (λ (b : Bool). not b && is_pending def past) clears_not ∙ k.edges.dropped edge it is started)

covered_now : (def : LineDef) (e : Entry) (past : List Entry) (d : DevNo) → Kept def past → is_edge_line def ≡ true
    → is_device_edge e ≡ true → is_started past ≡ true → is_covered def (e ∷ past) d ≡ true
covered_now def (by.Driver r (drivers.Ask makes x)) past d k edge comes started =
    covered_edge def (by.Driver r (drivers.Ask makes x)) past d k comes edge started refl refl refl refl refl
covered_now def (by.CpuCall c (called.Arm makes x)) past d k edge comes started =
    covered_edge def (by.CpuCall c (called.Arm makes x)) past d k comes edge started refl refl refl refl refl
covered_now def (by.ThreadCall y (called.Arm makes x)) past d k edge comes started =
    covered_edge def (by.ThreadCall y (called.Arm makes x)) past d k comes edge started refl refl refl refl refl
covered_now def (by.DriverCall r (called.Arm makes x)) past d k edge comes started =
    covered_edge def (by.DriverCall r (called.Arm makes x)) past d k comes edge started refl refl refl refl refl
covered_now def e past d k edge comes started = cc

covered_at : (def : LineDef) → IsValid def → (past : List Entry) → IsLegalPast def past → is_edge_line def ≡ true
    → (d : DevNo) → some_place (owes d) past ≡ true → is_covered def past d ≡ true
covered_at def valid [] legal edge d h = cc
covered_at def valid (e ∷ past) legal edge d h = by_case (owed_cases d e past h) (covered_at def valid past legal.1 edge d)
  where
    by_case : (comes_to d (e ∷ past) ≡ true) ⊎ ((some_place (owes d) past ≡ true) × (unlinks_dev d e ≡ false)
        × (is_begin d e ≡ false)) → (some_place (owes d) past ≡ true → is_covered def past d ≡ true)
        → is_covered def (e ∷ past) d ≡ true
    by_case (inl now) deeper =
        let p = and_parts (is_device_edge e) (is_started past && is_linked past d) now in
        covered_now def e past d (kept def past valid legal.1) edge p.0 (and_parts (is_started past) (is_linked past d) p.1).0
    by_case (inr was) deeper = covered_old def e past d valid legal.0 edge (owed_linked d past was.0) was.1 was.2 (deeper was.0)

pub covered : (def : LineDef) (past : List Entry) → IsValid def → IsLegalPast def past → IsCoveredPast def past
covered def past valid legal d h = let p = and_parts (is_edge_line def) (some_place (owes d) past) h in covered_at def valid past legal p.0 d p.1

pub is_covered_law : (def : LineDef) (h : List Entry) → IsValid def → IsLegal def h → IsCovered def h
is_covered_law def h valid legal = covered def (reverse h) valid legal
