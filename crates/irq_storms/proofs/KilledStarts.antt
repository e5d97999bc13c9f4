-- Runs start a killed line no more often than drivers make other calls than asks.
use Rattle.std.proofs.Common.{◌≡◌, ◌⊎◌, inl, inr, ℕ, ◌+◌, ◌-◌, ◌≤◌, Bool, true, false, not, ◌||◌, ◌&&◌, cond, List, []}
use Rattle.std.proofs.Common.{◌∷◌, filter, length, refl, sym, ap, ◌∙◌, arith}
use Rattle.std.proofs.lemmas.Bool.{and_parts, or_parts, or_cases, false_from_ne_true}
use Rattle.std.specs.List.{list_any}
use Rattle.irq_base.specs.declared.numbers.DevNo.{DevNo}
use Rattle.irq_base.specs.declared.numbers.DriverNo.{DriverNo}
use Rattle.irq_base.specs.declared.calls.Call.{Call}
use Rattle.irq_base.specs.declared.calls.Call.TheVariants as calls
use Rattle.irq_base.specs.declared.devices.DeviceDef.{DeviceDef}
use Rattle.irq_base.specs.declared.lines.LineDef.{LineDef}
use Rattle.irq_base.specs.declared.entries.Actor.{Actor}
use Rattle.irq_base.specs.declared.entries.Actor.TheVariants as actors
use Rattle.irq_base.specs.declared.entries.Entry.{Entry}
use Rattle.irq_base.specs.declared.entries.Entry.TheVariants as by
use Rattle.irq_base.specs.declared.entries.CpuEntry.TheVariants as cpus
use Rattle.irq_base.specs.declared.entries.DriverEntry.TheVariants as drivers
use Rattle.irq_base.specs.declared.entries.CallEntry.{CallEntry}
use Rattle.irq_base.specs.declared.entries.CallEntry.TheVariants as called
use Rattle.irq_base.specs.declared.entries.LinkAnswer.TheVariants as links
use Rattle.irq_base.specs.declared.entries.Opened.{Opened}
use Rattle.irq_base.specs.declared.entries.Opened.TheVariants as opens
use Rattle.irq_base.specs.declared.entries.UnlinkAnswer.TheVariants as unlinks
use Rattle.irq_model.specs.Places.{stands, count_of}
use Rattle.irq_model.specs.Kinds.{same_dev, made_by, is_kill, is_start, is_disable, is_started_opened, is_lowering_opened, opened_of}
use Rattle.irq_model.specs.Kinds.{is_linked_request, is_last_unlink, unlinks_last}
use Rattle.irq_model.specs.Links.{linked, is_linked, is_empty, is_none_linked, is_first_request, is_reset, is_deepening, is_lowering, depth}
use Rattle.irq_model.specs.Threads.{is_woken, is_running, is_unfinished}
use Rattle.irq_model.specs.Reason.{is_called}
use Rattle.irq_model.specs.Bounds.{is_ask_call, other_calls}
use Rattle.irq_model.specs.Scripts.{MakesSteps, MakesAll, steps_in}
use Rattle.irq_model.specs.RunBounds.{EnablesOnlyItsOwn}
use Rattle.irq_model.specs.Next.{is_only}
use Rattle.irq_model.specs.Legal.{IsDue, IsLegalPast}
use Rattle.irq_model.specs.Valid.{IsValid}
use Rattle.irq_model.specs.ValidRuns.{HasValidRuns}
use Rattle.irq_model.proofs.LinkSteps.{linked_unlink}
use Rattle.irq_model.proofs.ListSteps.{linked_refused, linked_not_there}
use Rattle.irq_model.proofs.DepthSteps.{raised, lowered, raised_reset, raised_more}
use Rattle.irq_model.proofs.Same.{same_both, same_self}
use Rattle.irq_laws.specs.Actors.{by_someone}
use Rattle.irq_laws.specs.Kept.{Kept}
use Rattle.irq_laws.proofs.Lists.{both_ways}
use Rattle.irq_laws.proofs.KeptAlways.{kept}
use Rattle.irq_laws.proofs.DepthKept.{Opens, opens_at}
use Rattle.irq_laws.proofs.RestKept.{none_freed}
use Rattle.irq_laws.proofs.Requested.{of_linked}
use Rattle.irq_laws.proofs.ImpliesDriver.{request_due, unlink_due}
use Rattle.irq_laws.proofs.ScriptLaws.{is_shared, shared_all, few_steps, follows_past}
use Rattle.irq_storms.specs.Judged.{one_if, count_where, starts_killed}
use Rattle.irq_storms.specs.Tests.{total, is_by_any_driver}
use Rattle.irq_storms.proofs.Counting.{count_more, count_total, total_none}
use Rattle.irq_storms.proofs.Weights.{of_drivers}
use Rattle.irq_storms.proofs.EndCounts.{where_more}
use Rattle.irq_storms.proofs.OwedEnables.{owns, owes, owed, sum_if, is_yield, yields, owed_more}

-- ---- what is linked

no_more : (x : DevNo) (xs : List DevNo) → is_empty xs ≡ true → is_empty (filter (λ z. not (same_dev z x)) xs) ≡ true
no_more x [] h = refl
no_more x (y ∷ ys) h = cc

only_none : (x : DevNo) (xs : List DevNo) → is_only x xs ≡ true → is_empty (filter (λ z. not (same_dev z x)) xs) ≡ true
only_none x [] h = cc
only_none x (y ∷ ys) h =
    let p = and_parts (same_dev x y) (is_empty ys) h in
    ap (λ (b : Bool). is_empty (cond (not b) (y ∷ filter (λ z. not (same_dev z x)) ys) (filter (λ z. not (same_dev z x)) ys))) (same_both y x ∙ p.0)
    ∙ no_more x ys p.1

call_none : (call : CallEntry) (past : List Entry) → is_none_linked past ≡ true → is_none_linked (by_someone call ∷ past) ≡ true
call_none (called.Unlink (unlinks.Unlinked last) x) past none = ap is_empty (linked_unlink (record { 0 = 0 }) x last past) ∙ no_more x (linked past) none
call_none (called.Unlink unlinks.NotThere x) past none = ap is_empty (linked_not_there (record { 0 = 0 }) x past) ∙ none
call_none call past none = none

still_none : (e : Entry) (past : List Entry) → is_linked_request e ≡ false → is_none_linked past ≡ true → is_none_linked (e ∷ past) ≡ true
still_none (by.Driver s (drivers.Request flags links.Linked opened x)) past h none = cc
still_none (by.Driver s (drivers.Request flags (links.Refused error) opened x)) past h none = ap is_empty (linked_refused s x flags error opened past) ∙ none
still_none (by.CpuCall c call) past h none = call_none call past none
still_none (by.ThreadCall x call) past h none = call_none call past none
still_none (by.DriverCall s call) past h none = call_none call past none
still_none e past h none = none

last_when : (b last v : Bool) → unlinks.Unlinked last ≡ cond b (unlinks.Unlinked v) unlinks.NotThere → last ≡ v
last_when true last v h = cc
last_when false last v h = cc

last_none : (def : LineDef) (a : Actor) (call : CallEntry) (past : List Entry) → IsDue def (made_by a call) past → unlinks_last call ≡ true
    → is_none_linked (by_someone call ∷ past) ≡ true
last_none def a (called.Unlink (unlinks.Unlinked last) x) past due h =
    let is = last_when (is_linked past x) last (is_only x (linked past)) (unlink_due def a x (unlinks.Unlinked last) past due).answer_is in
    ap is_empty (linked_unlink (record { 0 = 0 }) x last past) ∙ only_none x (linked past) (sym is ∙ h)
last_none def a call past due h = cc

unlinked_none : (def : LineDef) (e : Entry) (past : List Entry) → IsDue def e past → is_last_unlink e ≡ true → is_none_linked (e ∷ past) ≡ true
unlinked_none def (by.CpuCall c call) past due h = last_none def (actors.Cpu c) call past due h
unlinked_none def (by.ThreadCall x call) past due h = last_none def (actors.Thread x) call past due h
unlinked_none def (by.DriverCall s call) past due h = last_none def (actors.Driver s) call past due h
unlinked_none def e past due h = cc

-- ---- the depth

-- any entry but a reset
depth_moves : (def : LineDef) (e : Entry) (past : List Entry) → IsValid def → IsLegalPast def (e ∷ past) → is_reset (e ∷ past) ≡ false
    → depth (e ∷ past) + one_if (is_lowering e) ≡ depth past + one_if (is_deepening e)
depth_moves def e past valid legal other =
    let n = raised_more e past other in
    let was = (kept def past valid legal.1).depth.exact in
    let is = (kept def (e ∷ past) valid legal).depth.exact in
    plain (raised past) (lowered past) (raised (e ∷ past)) (lowered (e ∷ past)) (is_deepening e) (is_lowering e) was is n.0 n.1
  where
    plain : (r l r2 l2 : ℕ) (d w : Bool) → l ≤ r → l2 ≤ r2 → r2 ≡ cond d (r + 1) r → l2 ≡ cond w (l + 1) l → (r2 - l2) + one_if w ≡ (r - l) + one_if d
    plain r l r2 l2 true true h i j k = omega (arith, h, i, j, k)
    plain r l r2 l2 true false h i j k = omega (arith, h, i, j, k)
    plain r l r2 l2 false true h i j k = omega (arith, h, i, j, k)
    plain r l r2 l2 false false h i j k = omega (arith, h, i, j, k)

-- a reset
depth_reset : (e : Entry) (past : List Entry) → is_reset (e ∷ past) ≡ true → depth (e ∷ past) ≡ cond (is_start e) 0 1
depth_reset e past is =
    let n = raised_reset e past is in
    let r = n.0 in
    let l = n.1 in
    omega (arith, r, l)

-- ---- what is owed, while something is linked

abbrev owed_now : LineDef → List Entry → ℕ
owed_now def past = cond (is_none_linked past) 0 (owed def past)

abbrev shut : List Entry → ℕ
shut past = one_if (stands is_kill is_start past)

abbrev Owed : LineDef → List Entry → Type 0
Owed def past = count_where starts_killed past + owed_now def past + shut past ≤ depth past + count_of yields past

-- runs started the killed line no more often than drivers yielded
record Counted (def : LineDef) (past : List Entry) : Type 0 where
  sum : Owed def past
  few : count_where starts_killed past ≤ count_of yields past

module _ (def : LineDef) (valid : IsValid def) (runs : HasValidRuns def) (rules : EnablesOnlyItsOwn def) where
  now_more : (e : Entry) (past : List Entry) → IsLegalPast def (e ∷ past) → is_reset (e ∷ past) ≡ false
      → owed_now def (e ∷ past) + one_if (is_lowering e) ≤ owed_now def past + one_if (is_disable e) + one_if (yields e)
  now_more e past legal other = by_test (is_none_linked past) refl
    where
      parts : (is_last_unlink e ≡ false) × (is_first_request (e ∷ past) ≡ false)
      parts = or_parts (is_last_unlink e) (is_first_request (e ∷ past)) other

      opens_so : Opens past (opened_of e)
      opens_so = opens_at def e past legal.0 parts.1

      no_request : (l n : Bool) → n ≡ true → (l && n) ≡ false → l ≡ false
      no_request l n h i = grind arith

      fewer : (b : Bool) (n : ℕ) → cond b 0 n ≤ n
      fewer true n = omega arith
      fewer false n = omega arith

      by_test : (b : Bool) → is_none_linked past ≡ b
          → cond (is_none_linked (e ∷ past)) 0 (owed def (e ∷ past)) + one_if (is_lowering e) ≤ cond b 0 (owed def past)
          + one_if (is_disable e) + one_if (yields e)
      by_test true none =
          let still = still_none e past (no_request (is_linked_request e) (is_none_linked past) none parts.1) none in
          let z : cond (is_none_linked (e ∷ past)) 0 (owed def (e ∷ past)) ≡ 0 = ap (λ (b : Bool). cond b 0 (owed def (e ∷ past))) still in
          let l : one_if (is_lowering e) ≡ 0 = ap one_if
          (false_from_ne_true (is_lowering e) (λ low. both_ways (is_none_linked past) none
          (opens_so.some_linked low))) in
          omega (arith, z, l)
      by_test false some =
          let m = owed_more def valid runs rules e past legal in
          let f = fewer (is_none_linked (e ∷ past)) (owed def (e ∷ past)) in
          omega (arith, m, f)

  -- the marks of a kill and of a start
  marks : (k g s r : Bool) → (k ≡ true → g ≡ false) → one_if (k || (not g && s)) + one_if (not r && (g && s)) ≤ one_if s + one_if k
  marks true true s r h = let n = h refl in cc
  marks true false s r h = both s r
    where
      both : (s r : Bool) → 1 + one_if (not r && (false && s)) ≤ one_if s + 1
      both s true = omega arith
      both s false = omega arith
  marks false true true true h = omega arith
  marks false true true false h = omega arith
  marks false true false true h = omega arith
  marks false true false false h = omega arith
  marks false false s true h = omega arith
  marks false false s false h = omega arith

  kill_alone : (e : Entry) → is_kill e ≡ true → (is_start e ≡ false) × (is_disable e ≡ false)
  kill_alone (by.Cpu c (cpus.End again unmask note)) h = (refl, refl)
  kill_alone e h = cc

  deep_parts : (e : Entry) → one_if (is_deepening e) ≡ one_if (is_disable e) + one_if (is_kill e)
  deep_parts e = by_tests (is_disable e) (is_kill e) (λ k. (kill_alone e k).1)
    where
      by_tests : (d k : Bool) → (k ≡ true → d ≡ false) → one_if (d || k) ≡ one_if d + one_if k
      by_tests true true h = let n = h refl in cc
      by_tests true false h = refl
      by_tests false true h = refl
      by_tests false false h = refl

  start_lowers : (o : Opened) → is_started_opened o ≡ true → is_lowering_opened o ≡ true
  start_lowers (opens.Started resend) h = refl
  start_lowers opens.No h = cc
  start_lowers opens.Lowered h = cc
  start_lowers opens.Unbalanced h = cc

  start_calm : (e : Entry) → is_start e ≡ true → is_deepening e ≡ false
  start_calm (by.CpuCall c (called.Enable answer)) h = refl
  start_calm (by.ThreadCall x (called.Enable answer)) h = refl
  start_calm (by.DriverCall r (called.Enable answer)) h = refl
  start_calm (by.Driver r (drivers.Request flags answer opened x)) h = refl
  start_calm e h = cc

  -- an entry but a reset
  counted_more : (e : Entry) (past : List Entry) → IsLegalPast def (e ∷ past) → is_reset (e ∷ past) ≡ false → Counted def past → Counted def (e ∷ past)
  counted_more e past legal other c = record { sum = sum_more; few = by_start (starts_killed e past) refl }
    where
      z : count_where starts_killed (e ∷ past) ≡ count_where starts_killed past + one_if (starts_killed e past)
      z = where_more starts_killed e past

      y : count_of yields (e ∷ past) ≡ count_of yields past + one_if (yields e)
      y = count_more yields e past

      sum_more : Owed def (e ∷ past)
      sum_more =
          let n = now_more e past legal other in
          let d = depth_moves def e past valid legal other in
          let p = deep_parts e in
          let m = marks (is_kill e) (is_start e) (stands is_kill is_start past) (is_by_any_driver e) (λ k. (kill_alone e k).0) in
          let s = c.sum in
          omega (arith, n, d, p, m, s, z, y)

      by_start : (b : Bool) → starts_killed e past ≡ b → count_where starts_killed (e ∷ past) ≤ count_of yields (e ∷ past)
      by_start false is =
          let o : one_if (starts_killed e past) ≡ 0 = ap one_if is in
          let f = c.few in
          omega (arith, z, y, o, f)
      by_start true is =
          let started = (and_parts (is_start e) (stands is_kill is_start past) (and_parts (not (is_by_any_driver e)) _ is).1).0 in
          let first = (or_parts (is_last_unlink e) (is_first_request (e ∷ past)) other).1 in
          let one = (opens_at def e past legal.0 first).started_from started in
          let low : one_if (is_lowering e) ≡ 1 = ap one_if (start_lowers (opened_of e) started) in
          let calm : one_if (is_deepening e) ≡ 0 = ap one_if (start_calm e started) in
          let d = depth_moves def e past valid legal other in
          let s = sum_more in
          omega (arith, one, low, calm, d, s)

  -- ---- a reset

  nothing_owed : (past : List Entry) → ((d : DevNo) → (is_woken past d ≡ false) × (is_running past d ≡ false) × (is_called past d ≡ false)) → owed def past ≡ 0
  nothing_owed past rest =
      total_none (λ (x : DeviceDef). owes def x.dev past) def.devices (λ x. none (owns def x.dev) _ _ _ _ _ _ (rest x.dev).2 (rest x.dev).0 (rest x.dev).1)
    where
      none : (o k p w r u a : Bool) → k ≡ false → w ≡ false → r ≡ false → sum_if o (k && p) w ((r && not u) && not a) ≡ 0
      none true k p w r u a h i j = rw (h, i, j) refl
      none false k p w r u a h i j = refl

  -- at a first request all threads are at rest
  first_rest : (e : Entry) (past : List Entry) → IsLegalPast def (e ∷ past) → is_first_request (e ∷ past) ≡ true → owed def (e ∷ past) ≡ 0
  first_rest (by.Driver s (drivers.Request flags links.Linked opened x)) past legal first =
      nothing_owed past (λ d. at_rest d)
    where
      k : Kept def past
      k = kept def past valid legal.1

      unlinked : (d : DevNo) → is_linked past d ≡ false
      unlinked d = false_from_ne_true (is_linked past d) (λ there. some (linked past) first (of_linked (same_dev d) past d there (same_self d)))
        where
          some : (xs : List DevNo) → is_empty xs ≡ true → list_any (same_dev d) xs ≡ true → ⊥
          some [] none h = cc
          some (y ∷ ys) none h = cc

      at_rest : (d : DevNo) → (is_woken past d ≡ false) × (is_running past d ≡ false) × (is_called past d ≡ false)
      at_rest d =
          let u = request_due def s x flags links.Linked opened past legal.0 in
          let r = k.rest.at_rest d (unlinked d) (none_freed def past k u.no_mutex d) in
          let a = or_parts (is_woken past d) (is_running past d || (is_unfinished past d || is_called past d)) r in
          let b = or_parts (is_running past d) (is_unfinished past d || is_called past d) a.1 in
          let c = or_parts (is_unfinished past d) (is_called past d) b.1 in
          (a.0, b.0, c.1)
  first_rest (by.Driver s (drivers.Request flags (links.Refused error) opened x)) past legal first = cc
  first_rest e past legal first = cc

  no_kill : (e : Entry) → is_last_unlink e ≡ true → is_kill e ≡ false
  no_kill (by.Cpu c (cpus.End again unmask note)) h = cc
  no_kill e h = refl

  link_no_kill : (e : Entry) → is_linked_request e ≡ true → is_kill e ≡ false
  link_no_kill (by.Cpu c (cpus.End again unmask note)) h = cc
  link_no_kill e h = refl

  unlink_no_start : (e : Entry) → is_last_unlink e ≡ true → is_start e ≡ false
  unlink_no_start (by.CpuCall c (called.Unlink answer x)) h = refl
  unlink_no_start (by.ThreadCall d (called.Unlink answer x)) h = refl
  unlink_no_start (by.DriverCall r (called.Unlink answer x)) h = refl
  unlink_no_start e h = cc

  by_no_run : (e : Entry) (past : List Entry) → is_linked_request e ≡ true → starts_killed e past ≡ false
  by_no_run (by.Driver s e) past h = refl
  by_no_run e past h = cc

  counted_reset : (e : Entry) (past : List Entry) → IsLegalPast def (e ∷ past) → is_reset (e ∷ past) ≡ true → Counted def past → Counted def (e ∷ past)
  counted_reset e past legal is c = by_case (or_cases (is_last_unlink e) (is_first_request (e ∷ past)) is)
    where
      z : count_where starts_killed (e ∷ past) ≡ count_where starts_killed past + one_if (starts_killed e past)
      z = where_more starts_killed e past

      y : count_of yields (e ∷ past) ≡ count_of yields past + one_if (yields e)
      y = count_more yields e past

      -- nothing is owed now, nor started by a run
      done : one_if (starts_killed e past) ≡ 0 → owed_now def (e ∷ past) ≡ 0 → shut (e ∷ past) ≤ depth (e ∷ past) → Counted def (e ∷ past)
      done o n s = let f = c.few in record { sum = omega (arith, z, y, o, n, s, f); few = omega (arith, z, y, o, f) }

      by_marks : (k g s : Bool) → k ≡ false → one_if (k || (not g && s)) ≤ cond g 0 1
      by_marks true g s h = cc
      by_marks false true s h = omega arith
      by_marks false false true h = omega arith
      by_marks false false false h = omega arith

      shut_less : is_kill e ≡ false → shut (e ∷ past) ≤ depth (e ∷ past)
      shut_less calm = let d = depth_reset e past is in let m = by_marks (is_kill e) (is_start e) (stands is_kill is_start past) calm in omega (arith, d, m)

      no_start : (r g s : Bool) → g ≡ false → one_if (not r && (g && s)) ≡ 0
      no_start true g s h = refl
      no_start false false s h = refl
      no_start false true s h = cc

      less : (b : Bool) → ◌≡◌ {A = ℕ} (cond b 0 0) 0
      less true = refl
      less false = refl

      by_case : (is_last_unlink e ≡ true) ⊎ (is_first_request (e ∷ past) ≡ true) → Counted def (e ∷ past)
      by_case (inl last) =
          done (no_start (is_by_any_driver e) (is_start e) (stands is_kill is_start past) (unlink_no_start e last))
          (ap (λ (b : Bool). cond b 0 (owed def (e ∷ past))) (unlinked_none def e past legal.0 last)) (shut_less (no_kill e last))
      by_case (inr first) =
          let link = (and_parts (is_linked_request e) (is_none_linked past) first).0 in
          done (ap one_if (by_no_run e past link))
          (ap (λ (n : ℕ). cond (is_none_linked (e ∷ past)) 0 n) (first_rest e past legal first)
          ∙ less (is_none_linked (e ∷ past))) (shut_less (link_no_kill e link))

  counted_past : (past : List Entry) → IsLegalPast def past → Counted def past
  counted_past [] legal = record { sum = omega arith; few = omega arith }
  counted_past (e ∷ past) legal = by_test (is_reset (e ∷ past)) refl (counted_past past legal.1)
    where
      by_test : (b : Bool) → is_reset (e ∷ past) ≡ b → Counted def past → Counted def (e ∷ past)
      by_test true is c = counted_reset e past legal is c
      by_test false is c = counted_more e past legal is c

-- ---- drivers yield once a call

steps_yield : (c : Call) (cs : List CallEntry) → MakesSteps c cs → total (λ call. one_if (is_yield call)) cs ≤ 1
steps_yield (calls.Free x) (called.Unlink unlinks.NotThere dev ∷ []) m = omega arith
steps_yield (calls.Free x) (called.Unlink (unlinks.Unlinked last) dev ∷ called.HardClear ∷ called.Freed gone ∷ []) m = omega arith
steps_yield calls.Disable (called.Disable ∷ called.HardClear ∷ called.Synced ∷ []) m = omega arith
steps_yield calls.DisableNosync (called.Disable ∷ []) m = omega arith
steps_yield calls.Enable (called.Enable answer ∷ []) m = omega arith
steps_yield calls.Sync (called.HardClear ∷ called.Synced ∷ []) m = omega arith
steps_yield calls.SyncHard (called.HardClear ∷ []) m = omega arith
steps_yield calls.DisableHard (called.Disable ∷ called.HardClear ∷ []) m = omega arith
steps_yield (calls.Wake x) (called.Wake woken dev ∷ []) m = one woken
  where
    one : (b : Bool) → one_if b + 0 ≤ 1
    one true = omega arith
    one false = omega arith
steps_yield (calls.Quiet x) (called.Quiet dev ∷ []) m = omega arith
steps_yield (calls.Arm x) (called.Arm edge dev ∷ []) m = omega arith
steps_yield (calls.Serve x) (called.Serve dev served ∷ []) m = omega arith
steps_yield c cs m = absurd m

yields_of : (es : List Entry) → length (steps_in es) ≡ length es → total (λ e. one_if (yields e)) es ≤ total (λ call. one_if (is_yield call)) (steps_in es)
yields_of [] l = omega arith
yields_of (by.CpuCall c call ∷ es) l = let r = yields_of es (omega (arith, l)) in omega (arith, r)
yields_of (by.ThreadCall x call ∷ es) l = let r = yields_of es (omega (arith, l)) in omega (arith, r)
yields_of (by.DriverCall s call ∷ es) l = let r = yields_of es (omega (arith, l)) in omega (arith, r)
yields_of (by.Cpu c e ∷ es) l = absurd (let f = few_steps es in omega (arith, f, l))
yields_of (by.Thread x e ∷ es) l = absurd (let f = few_steps es in omega (arith, f, l))
yields_of (by.Driver s e ∷ es) l = absurd (let f = few_steps es in omega (arith, f, l))

shared_yields : (c : Call) → is_shared c ≡ true → (es : List Entry) → MakesAll c es → total (λ e. one_if (yields e)) es ≤ one_if (not (is_ask_call c))
shared_yields c is es m =
    let all = shared_all c is es m in
    let y = yields_of es all.1 in
    let s = steps_yield c (steps_in es) all.0 in
    let o = other c is in
    omega (arith, y, s, o)
  where
    other : (c : Call) → is_shared c ≡ true → one_if (not (is_ask_call c)) ≡ 1
    other (calls.Ask d) h = cc
    other c h = refl

call_yields : (c : Call) (es : List Entry) → MakesAll c es → total (λ e. one_if (yields e)) es ≤ one_if (not (is_ask_call c))
call_yields (calls.Ask d) (by.Driver r (drivers.Ask edge dev) ∷ []) m = omega arith
call_yields (calls.Request d flags) (by.Driver r (drivers.Request given answer opened dev) ∷ []) m = omega arith
call_yields (calls.Affinity mask) (by.Driver r (drivers.Affinity answer given) ∷ []) m = omega arith
call_yields (calls.Moment at) (by.Driver r (drivers.Moment given) ∷ []) m = omega arith
call_yields (calls.Free d) es m = shared_yields (calls.Free d) refl es m
call_yields calls.Disable es m = shared_yields calls.Disable refl es m
call_yields calls.DisableNosync es m = shared_yields calls.DisableNosync refl es m
call_yields calls.Enable es m = shared_yields calls.Enable refl es m
call_yields calls.Sync es m = shared_yields calls.Sync refl es m
call_yields calls.SyncHard es m = shared_yields calls.SyncHard refl es m
call_yields calls.DisableHard es m = shared_yields calls.DisableHard refl es m
call_yields (calls.Wake d) es m = shared_yields (calls.Wake d) refl es m
call_yields (calls.Quiet d) es m = shared_yields (calls.Quiet d) refl es m
call_yields (calls.Arm d) es m = shared_yields (calls.Arm d) refl es m
call_yields (calls.Serve d) es m = shared_yields (calls.Serve d) refl es m
call_yields c es m = absurd m.0

yields_alone : (e : Entry) → is_by_any_driver e ≡ false → one_if (yields e) ≡ 0
yields_alone (by.Driver r e) other = cc
yields_alone (by.DriverCall r call) other = cc
yields_alone e other = refl

yields_past : (def : LineDef) (past : List Entry) → IsLegalPast def past → count_of yields past ≤ other_calls def
yields_past def past legal =
    let all = of_drivers (λ e. one_if (yields e)) (λ c. one_if (not (is_ask_call c))) call_yields yields_alone def past
    (λ r. follows_past def past legal (actors.Driver r)) in
    let a = count_total yields past in
    let b = count_total (λ (c : DriverNo × Call). not (is_ask_call c.1)) def.calls in
    omega (arith, all, a, b)

pub killed_starts : (def : LineDef) (past : List Entry) → IsValid def → HasValidRuns def → EnablesOnlyItsOwn def → IsLegalPast def past
    → count_where starts_killed past ≤ other_calls def
killed_starts def past valid runs rules legal =
    let c = (counted_past def valid runs rules past legal).few in
    let y = yields_past def past legal in
    omega (arith, c, y)
