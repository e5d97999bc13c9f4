-- Each entry keeps: the depth is exact, and a line that isn't disabled is started.
use Rattle.std.proofs.Common.{◌≡◌, ℕ, ◌+◌, ◌-◌, ◌≤◌, ◌==◌, ◌⊎◌, inl, inr, Bool, true, false, not, ◌||◌, ◌&&◌, cond}
use Rattle.std.proofs.Common.{List, [], ◌∷◌, ◌++◌, filter, refl, sym, ap, ◌∙◌, subst, arith, eqb-true}
use Rattle.std.proofs.lemmas.Bool.{and_from, or_left, or_right, or_parts, eqb-false}
use Rattle.irq_base.specs.declared.numbers.DevNo.{DevNo}
use Rattle.irq_base.specs.declared.calls.Flags.{Flags}
use Rattle.irq_base.specs.declared.lines.LineDef.{LineDef}
use Rattle.irq_base.specs.declared.entries.Actor.{Actor}
use Rattle.irq_base.specs.declared.entries.Actor.TheVariants as actors
use Rattle.irq_base.specs.declared.entries.Entry.{Entry}
use Rattle.irq_base.specs.declared.entries.Entry.TheVariants as by
use Rattle.irq_base.specs.declared.entries.DriverEntry.TheVariants as drivers
use Rattle.irq_base.specs.declared.entries.CallEntry.{CallEntry}
use Rattle.irq_base.specs.declared.entries.CallEntry.TheVariants as called
use Rattle.irq_base.specs.declared.entries.Resend.{Resend}
use Rattle.irq_base.specs.declared.entries.EnableAnswer.{EnableAnswer}
use Rattle.irq_base.specs.declared.entries.EnableAnswer.TheVariants as enables
use Rattle.irq_base.specs.declared.entries.Opened.{Opened}
use Rattle.irq_base.specs.declared.entries.Opened.TheVariants as opens
use Rattle.irq_base.specs.declared.entries.LinkAnswer.{LinkAnswer}
use Rattle.irq_base.specs.declared.entries.LinkAnswer.TheVariants as links
use Rattle.irq_base.specs.declared.entries.UnlinkAnswer.TheVariants as unlinks
use Rattle.irq_model.specs.Places.{count_of}
use Rattle.irq_model.specs.Kinds.{same_dev, opened_of, opened_by_enable, is_start, is_started_opened, is_lowering_opened, is_last_unlink, is_disable, is_kill}
use Rattle.irq_model.specs.Kinds.{opened_by_call, disables, made_by, unlinks_last}
use Rattle.irq_model.specs.Links.{linked, requested, is_linked, is_none_linked, is_empty, is_first_request, is_reset}
use Rattle.irq_model.specs.Links.{is_deepening, is_lowering, depth, is_started, has_spurious_mark}
use Rattle.irq_model.specs.Next.{enable_answer, opened_by_request, resend_of, is_only}
use Rattle.irq_model.specs.Legal.{IsDue}
use Rattle.irq_model.proofs.LinkSteps.{linked_request, linked_unlink}
use Rattle.irq_model.proofs.ListSteps.{linked_refused, linked_not_there, count_filter, requested_once}
use Rattle.irq_model.proofs.DepthSteps.{raised, lowered, raised_reset, raised_more}
use Rattle.irq_model.proofs.Same.{same_both}
use Rattle.irq_laws.specs.Actors.{by_someone}
use Rattle.irq_laws.specs.Kept.{KeepsDepth}
use Rattle.irq_laws.proofs.Lists.{both_ways}
use Rattle.irq_laws.proofs.ImpliesDriver.{enable_due, request_due, unlink_due, opened_with}

-- ---- what an enable, or the enable within a request, tells of the depth

pub record Opens (past : List Entry) (o : Opened) : Type 0 where
  pub lowered_from : o ≡ opens.Lowered → 2 ≤ depth past
  pub started_from : is_started_opened o ≡ true → depth past ≡ 1
  pub some_linked : is_lowering_opened o ≡ true → is_none_linked past ≡ false

two_at_least : (n : ℕ) → (n == 0) ≡ false → (n == 1) ≡ false → 2 ≤ n
two_at_least n a b = let x = eqb-false n 0 a in let y = eqb-false n 1 b in grind arith

by_answer : (past : List Entry) (n z o : Bool) (resend : Resend) → is_none_linked past ≡ n → (depth past == 0) ≡ z → (depth past == 1) ≡ o
    → Opens past (opened_by_enable (cond (n || z) enables.Unbalanced (cond o (enables.Started resend) enables.Lowered)))
by_answer past true z o resend a b c = record { lowered_from = λ h. cc; started_from = λ h. cc; some_linked = λ h. cc }
by_answer past false true o resend a b c = record { lowered_from = λ h. cc; started_from = λ h. cc; some_linked = λ h. cc }
by_answer past false false true resend a b c = record { lowered_from = λ h. cc; started_from = λ h. eqb-true (depth past) 1 c; some_linked = λ h. a }
by_answer past false false false resend a b c = record { lowered_from = λ h. two_at_least (depth past) b c; started_from = λ h. cc; some_linked = λ h. a }

enable_opens : (def : LineDef) (past : List Entry) → Opens past (opened_by_enable (enable_answer def past))
enable_opens def past = by_answer past (is_none_linked past) (depth past == 0) (depth past == 1) (resend_of def past) refl refl refl

no_opens : (past : List Entry) → Opens past opens.No
no_opens past = record { lowered_from = λ h. cc; started_from = λ h. cc; some_linked = λ h. cc }

-- a first request starts the line or not; a further one is an enable, or nothing
request_opens : (def : LineDef) (flags : Flags) (past : List Entry) → is_none_linked past ≡ false → Opens past (opened_by_request def flags past)
request_opens def flags past some = by_mark (is_none_linked past) (has_spurious_mark past) some
  where
    by_mark : (n m : Bool) → n ≡ false → Opens past (cond n
        (cond flags.noauto opens.No (opens.Started (resend_of def past)))
        (cond m (opened_by_enable (enable_answer def past)) opens.No))
    by_mark true m h = cc
    by_mark false true h = enable_opens def past
    by_mark false false h = no_opens past

first_opens : (def : LineDef) (flags : Flags) (past : List Entry) → is_none_linked past ≡ true → opened_by_request def flags past ≡ opens.Lowered → ⊥
first_opens def flags past none is = by_flag (is_none_linked past) flags.noauto none is
  where
    by_flag : (n f : Bool) → n ≡ true → cond n (cond f opens.No (opens.Started (resend_of def past)))
        (cond (has_spurious_mark past) (opened_by_enable (enable_answer def past)) opens.No) ≡ opens.Lowered → ⊥
    by_flag true true h i = cc
    by_flag true false h i = cc
    by_flag false f h i = cc

call_opens : (def : LineDef) (a : Actor) (call : CallEntry) (past : List Entry) → IsDue def (made_by a call) past → Opens past (opened_by_call call)
call_opens def a (called.Enable answer) past due =
    subst (λ (x : EnableAnswer). Opens past (opened_by_enable x)) (sym (enable_due def a answer past due)) (enable_opens def past)
call_opens def a call past due = no_opens past

-- the same of any due entry that isn't a first request
pub opens_at : (def : LineDef) (e : Entry) (past : List Entry) → IsDue def e past → is_first_request (e ∷ past) ≡ false → Opens past (opened_of e)
opens_at def (by.CpuCall c call) past due later = call_opens def (actors.Cpu c) call past due
opens_at def (by.ThreadCall x call) past due later = call_opens def (actors.Thread x) call past due
opens_at def (by.DriverCall s call) past due later = call_opens def (actors.Driver s) call past due
opens_at def (by.Driver s (drivers.Request flags links.Linked opened x)) past due later =
    let u = request_due def s x flags links.Linked opened past due in
    let is : opened ≡ opened_by_request def flags past = u.opened_is ∙ ap (λ (a : LinkAnswer). opened_with def flags past a) (sym u.answer_is) in
    subst (λ (o : Opened). Opens past o) (sym is) (request_opens def flags past later)
opens_at def (by.Driver s (drivers.Request flags (links.Refused error) opened x)) past due later =
    let u = request_due def s x flags (links.Refused error) opened past due in
    let is : opened ≡ opens.No = u.opened_is ∙ ap (λ (a : LinkAnswer). opened_with def flags past a) (sym u.answer_is) in
    subst (λ (o : Opened). Opens past o) (sym is) (no_opens past)
opens_at def e past due later = no_opens past

-- ---- the depth is exact

lowers : (o : Opened) → is_lowering_opened o ≡ true → (is_started_opened o ≡ true) ⊎ (o ≡ opens.Lowered)
lowers opens.No h = cc
lowers opens.Unbalanced h = cc
lowers opens.Lowered h = inr refl
lowers (opens.Started resend) h = inl refl

-- an entry that lowers the depth finds it at one at least
lowers_some : (past : List Entry) (o : Opened) → Opens past o → is_lowering_opened o ≡ true → 1 ≤ depth past
lowers_some past o k h = by_case (lowers o h)
  where
    by_case : (is_started_opened o ≡ true) ⊎ (o ≡ opens.Lowered) → 1 ≤ depth past
    by_case (inl starts) = let one = k.started_from starts in omega (arith, one)
    by_case (inr lower) = let two = k.lowered_from lower in omega (arith, two)

exact_by : (def : LineDef) (e : Entry) (past : List Entry) → IsDue def e past → lowered past ≤ raised past → (b : Bool)
    → is_reset (e ∷ past) ≡ b → lowered (e ∷ past) ≤ raised (e ∷ past)
exact_by def e past due k true is = let n = (raised_reset e past is).1 in omega (arith, n)
exact_by def e past due k false is = by_lowering (is_lowering e) (is_deepening e) refl refl (raised_more e past is)
  where
    by_lowering : (l d : Bool) → is_lowering e ≡ l → is_deepening e ≡ d
        → (raised (e ∷ past) ≡ cond (is_deepening e) (raised past + 1) (raised past))
        × (lowered (e ∷ past) ≡ cond (is_lowering e) (lowered past + 1) (lowered past))
        → lowered (e ∷ past) ≤ raised (e ∷ past)
    by_lowering false false il id n =
        let r : raised (e ∷ past) ≡ raised past = n.0 ∙ ap (λ (b : Bool). cond b (raised past + 1) (raised past)) id in
        let l : lowered (e ∷ past) ≡ lowered past = n.1 ∙ ap (λ (b : Bool). cond b (lowered past + 1) (lowered past)) il in
        omega (arith, r, l, k)
    by_lowering false true il id n =
        let r : raised (e ∷ past) ≡ raised past + 1 = n.0 ∙ ap (λ (b : Bool). cond b (raised past + 1) (raised past)) id in
        let l : lowered (e ∷ past) ≡ lowered past = n.1 ∙ ap (λ (b : Bool). cond b (lowered past + 1) (lowered past)) il in
        omega (arith, r, l, k)
    by_lowering true true il id n =
        let r : raised (e ∷ past) ≡ raised past + 1 = n.0 ∙ ap (λ (b : Bool). cond b (raised past + 1) (raised past)) id in
        let l : lowered (e ∷ past) ≡ lowered past + 1 = n.1 ∙ ap (λ (b : Bool). cond b (lowered past + 1) (lowered past)) il in
        omega (arith, r, l, k)
    by_lowering true false il id n =
        let r : raised (e ∷ past) ≡ raised past = n.0 ∙ ap (λ (b : Bool). cond b (raised past + 1) (raised past)) id in
        let l : lowered (e ∷ past) ≡ lowered past + 1 = n.1 ∙ ap (λ (b : Bool). cond b (lowered past + 1) (lowered past)) il in
        let some : 1 ≤ raised past - lowered past = lowers_some past (opened_of e)
        (opens_at def e past due (or_parts (is_last_unlink e) (is_first_request (e ∷ past)) is).1) il in
        omega (arith, r, l, some)

exact_more : (def : LineDef) (e : Entry) (past : List Entry) → IsDue def e past → lowered past ≤ raised past → lowered (e ∷ past) ≤ raised (e ∷ past)
exact_more def e past due k = exact_by def e past due k (is_reset (e ∷ past)) refl

-- ---- when the depth is zero

-- what an entry tells that leaves an enabled line enabled
pub record StaysEnabled (e : Entry) (past : List Entry) : Type 0 where
  pub was : depth past ≡ 0
  pub no_start : is_start e ≡ false
  pub no_deepening : (is_disable e || is_kill e) ≡ false
  pub no_last : is_last_unlink e ≡ false
  pub not_first : is_first_request (e ∷ past) ≡ false

disables_alone : (call : CallEntry) → (disables call || false) ≡ true → is_lowering_opened (opened_by_call call) ≡ false
disables_alone (called.Enable answer) h = cc
disables_alone call h = refl

deep_alone : (e : Entry) → is_deepening e ≡ true → is_lowering e ≡ false
deep_alone (by.CpuCall c call) h = disables_alone call h
deep_alone (by.ThreadCall x call) h = disables_alone call h
deep_alone (by.DriverCall s call) h = disables_alone call h
deep_alone (by.Driver s (drivers.Request flags answer opened x)) h = cc
deep_alone e h = refl

zero_by : (def : LineDef) (e : Entry) (past : List Entry) → IsDue def e past → lowered past ≤ raised past
    → raised (e ∷ past) - lowered (e ∷ past) ≡ 0 → is_start e ≡ false → (b : Bool) → is_reset (e ∷ past) ≡ b
    → StaysEnabled e past
zero_by def e past due k zero no_start true is =
    let n = raised_reset e past is in
    let r : raised (e ∷ past) ≡ 1 = n.0 ∙ ap (λ (b : Bool). cond {A = ℕ} b 0 1) no_start in
    let l : lowered (e ∷ past) ≡ 0 = n.1 in
    absurd (omega (arith, r, l, zero))
zero_by def e past due k zero no_start false is = by_sides (is_deepening e) (is_lowering e) refl refl (raised_more e past is)
  where
    by_sides : (d l : Bool) → is_deepening e ≡ d → is_lowering e ≡ l
        → (raised (e ∷ past) ≡ cond (is_deepening e) (raised past + 1) (raised past))
        × (lowered (e ∷ past) ≡ cond (is_lowering e) (lowered past + 1) (lowered past)) → StaysEnabled e past
    by_sides true l id il n =
        let low = deep_alone e id in
        let r : raised (e ∷ past) ≡ raised past + 1 = n.0 ∙ ap (λ (b : Bool). cond b (raised past + 1) (raised past)) id in
        let l : lowered (e ∷ past) ≡ lowered past = n.1 ∙ ap (λ (b : Bool). cond b (lowered past + 1) (lowered past)) low in
        absurd (omega (arith, r, l, k, zero))
    by_sides false true id il n = by_case (lowers (opened_of e) il)
      where
        by_case : (is_started_opened (opened_of e) ≡ true) ⊎ (opened_of e ≡ opens.Lowered) → StaysEnabled e past
        by_case (inl starts) = both_ways (is_start e) starts no_start
        by_case (inr lower) =
            let r : raised (e ∷ past) ≡ raised past = n.0 ∙ ap (λ (b : Bool). cond b (raised past + 1) (raised past)) id in
            let l : lowered (e ∷ past) ≡ lowered past + 1 = n.1 ∙ ap (λ (b : Bool). cond b (lowered past + 1) (lowered past)) il in
            let two : 2 ≤ raised past - lowered past =
            (opens_at def e past due (or_parts (is_last_unlink e) (is_first_request (e ∷ past)) is).1).lowered_from
            lower in
            absurd (omega (arith, r, l, two, zero))
    by_sides false false id il n =
        let p = or_parts (is_last_unlink e) (is_first_request (e ∷ past)) is in
        let r : raised (e ∷ past) ≡ raised past = n.0 ∙ ap (λ (b : Bool). cond b (raised past + 1) (raised past)) id in
        let l : lowered (e ∷ past) ≡ lowered past = n.1 ∙ ap (λ (b : Bool). cond b (lowered past + 1) (lowered past)) il in
        let was : raised past - lowered past ≡ 0 = omega (arith, r, l, zero) in
        record { was = was; no_start = no_start; no_deepening = id; no_last = p.0; not_first = p.1 }

-- a line that is enabled after an entry was started by it, or was enabled before
pub enabled_before : (def : LineDef) (e : Entry) (past : List Entry) → IsDue def e past → KeepsDepth def past
    → depth (e ∷ past) ≡ 0 → (is_start e ≡ true) ⊎ StaysEnabled e past
enabled_before def e past due k zero = by_start (is_start e) refl
  where
    by_start : (b : Bool) → is_start e ≡ b → (is_start e ≡ true) ⊎ StaysEnabled e past
    by_start true is = inl is
    by_start false is = inr (zero_by def e past due k.exact zero is (is_reset (e ∷ past)) refl)

-- ---- something stays linked

some_last : (xs : List DevNo) (d : DevNo) → is_empty (xs ++ d ∷ []) ≡ false
some_last [] d = refl
some_last (x ∷ xs) d = refl

some_kept : (x y : DevNo) (ys : List DevNo) → same_dev x y ≡ false → is_empty (filter (λ z. not (same_dev z x)) (y ∷ ys)) ≡ false
some_kept x y ys other = ap (λ (b : Bool). is_empty (cond (not b) (y ∷ filter (λ z. not (same_dev z x)) ys)
    (filter (λ z. not (same_dev z x)) ys))) (same_both y x ∙ other)

some_behind : (x y : DevNo) (ys : List DevNo) → same_dev x y ≡ true → is_empty ys ≡ false → count_of (same_dev x) ys ≡ 0
    → is_empty (filter (λ z. not (same_dev z x)) (y ∷ ys)) ≡ false
some_behind x y [] same h none = cc
some_behind x y (z ∷ zs) same h none =
    ap (λ (b : Bool). is_empty (cond (not b) (y ∷ filter (λ z. not (same_dev z x)) (z ∷ zs))
    (filter (λ z. not (same_dev z x)) (z ∷ zs)))) (same_both y x ∙ same)
    ∙ some_kept x z zs (differs (same_dev x z) none)
  where
    differs : (b : Bool) → cond b (count_of (same_dev x) zs + 1) (count_of (same_dev x) zs) ≡ 0 → b ≡ false
    differs true h = absurd (omega (arith, h))
    differs false h = refl

-- one of several is taken out
some_left : (x : DevNo) (xs : List DevNo) → is_only x xs ≡ false → is_empty xs ≡ false → count_of (same_dev x) xs ≤ 1
    → is_empty (filter (λ z. not (same_dev z x)) xs) ≡ false
some_left x [] only h once = h
some_left x (y ∷ ys) only h once = by_test (same_dev x y) refl
  where
    by_test : (b : Bool) → same_dev x y ≡ b → is_empty (filter (λ z. not (same_dev z x)) (y ∷ ys)) ≡ false
    by_test true same =
        let more : is_empty ys ≡ false = ap (λ (b : Bool). b && is_empty ys) (sym same) ∙ only in
        let count : count_of (same_dev x) ys + 1 ≤ 1 = subst (λ (b : Bool). cond b (count_of (same_dev x) ys + 1) (count_of (same_dev x) ys) ≤ 1) same once in
        some_behind x y ys same more (omega (arith, count))
    by_test false other = some_kept x y ys other

last_when : (b last v : Bool) → unlinks.Unlinked last ≡ cond b (unlinks.Unlinked v) unlinks.NotThere → last ≡ v
last_when true last v h = cc
last_when false last v h = cc

call_leaves_some : (def : LineDef) (a : Actor) (call : CallEntry) (past : List Entry) → IsDue def (made_by a call) past → unlinks_last call ≡ false
    → is_none_linked past ≡ false → is_none_linked (by_someone call ∷ past) ≡ false
call_leaves_some def a (called.Unlink (unlinks.Unlinked last) x) past due no_last some =
    let is = last_when (is_linked past x) last (is_only x (linked past)) (unlink_due def a x (unlinks.Unlinked last) past due).answer_is in
    let once : count_of (same_dev x) (linked past) ≤ 1
    = (let n = count_filter (same_dev x) (is_linked past) (requested past) in let m = requested_once x past in
    omega (arith, n, m)) in
    ap is_empty (linked_unlink (record { 0 = 0 }) x last past) ∙ some_left x (linked past) (sym is ∙ no_last) some once
call_leaves_some def a (called.Unlink unlinks.NotThere x) past due no_last some = ap is_empty (linked_not_there (record { 0 = 0 }) x past) ∙ some
call_leaves_some def a call past due no_last some = some

still_some : (def : LineDef) (e : Entry) (past : List Entry) → IsDue def e past → is_last_unlink e ≡ false
    → is_none_linked past ≡ false → is_none_linked (e ∷ past) ≡ false
still_some def (by.Driver s (drivers.Request flags links.Linked opened x)) past due no_last some
    = ap is_empty (linked_request s x flags opened past) ∙ some_last (filter (λ y. not (same_dev y x)) (linked past)) x
still_some def (by.Driver s (drivers.Request flags (links.Refused error) opened x)) past due no_last some
    = ap is_empty (linked_refused s x flags error opened past) ∙ some
still_some def (by.CpuCall c call) past due no_last some = call_leaves_some def (actors.Cpu c) call past due no_last some
still_some def (by.ThreadCall x call) past due no_last some = call_leaves_some def (actors.Thread x) call past due no_last some
still_some def (by.DriverCall s call) past due no_last some = call_leaves_some def (actors.Driver s) call past due no_last some
still_some def e past due no_last some = some

lowers_by : (o : Opened) → is_started_opened o ≡ true → is_lowering_opened o ≡ true
lowers_by (opens.Started resend) h = refl
lowers_by opens.No h = cc
lowers_by opens.Unbalanced h = cc
lowers_by opens.Lowered h = cc

call_starts_some : (def : LineDef) (a : Actor) (call : CallEntry) (past : List Entry) → IsDue def (made_by a call) past
    → is_started_opened (opened_by_call call) ≡ true → is_none_linked (by_someone call ∷ past) ≡ false
call_starts_some def a (called.Enable answer) past due starts =
    (call_opens def a (called.Enable answer) past due).some_linked (lowers_by (opened_by_enable answer) starts)
call_starts_some def a call past due starts = cc

-- a line that is started has something linked
started_some : (def : LineDef) (e : Entry) (past : List Entry) → IsDue def e past → is_start e ≡ true → is_none_linked (e ∷ past) ≡ false
started_some def (by.CpuCall c call) past due starts = call_starts_some def (actors.Cpu c) call past due starts
started_some def (by.ThreadCall x call) past due starts = call_starts_some def (actors.Thread x) call past due starts
started_some def (by.DriverCall s call) past due starts = call_starts_some def (actors.Driver s) call past due starts
started_some def (by.Driver s (drivers.Request flags links.Linked opened x)) past due starts
    = ap is_empty (linked_request s x flags opened past) ∙ some_last (filter (λ y. not (same_dev y x)) (linked past)) x
started_some def (by.Driver s (drivers.Request flags (links.Refused error) opened x)) past due starts =
    let u = request_due def s x flags (links.Refused error) opened past due in
    let is : opened ≡ opens.No = u.opened_is ∙ ap (λ (a : LinkAnswer). opened_with def flags past a) (sym u.answer_is) in
    let n : is_started_opened opened ≡ false = ap is_started_opened is in
    both_ways (is_started_opened opened) starts n
started_some def e past due starts = cc

-- ---- an enabled line is started

enabled_more : (def : LineDef) (e : Entry) (past : List Entry) → IsDue def e past → KeepsDepth def past
    → depth (e ∷ past) ≡ 0 → (is_started (e ∷ past) ≡ true) × (is_none_linked (e ∷ past) ≡ false)
enabled_more def e past due k zero = by_case (enabled_before def e past due k zero)
  where
    by_case : (is_start e ≡ true) ⊎ StaysEnabled e past → (is_started (e ∷ past) ≡ true) × (is_none_linked (e ∷ past) ≡ false)
    by_case (inl starts) = (or_left (is_start e) _ starts, started_some def e past due starts)
    by_case (inr q) =
        let n = k.enabled q.was in
        (or_right (is_start e) _ (and_from _ _ (ap not q.no_last) n.0), still_some def e past due q.no_last n.1)

pub depth_more : (def : LineDef) (e : Entry) (past : List Entry) → IsDue def e past → KeepsDepth def past → KeepsDepth def (e ∷ past)
depth_more def e past due k = record { exact = exact_more def e past due k.exact; enabled = enabled_more def e past due k }

pub no_depth : (def : LineDef) → KeepsDepth def []
no_depth def = record { exact = omega arith; enabled = λ h. absurd (omega (arith, h)) }
