-- The runs that meet something unserved, of the part that serves their device: each of them serves
-- some, by returning or by a call, so they are at most the asks.
use Rattle.std.proofs.Common.{◌≡◌, ℕ, ◌+◌, ◌≤◌, ◌==◌, ◌⊎◌, inl, inr, Bool, true, false, not, ◌||◌, ◌&&◌, cond, nat_lt}
use Rattle.std.proofs.Common.{Option, Some, None, List, [], ◌∷◌, ◌++◌, reverse, refl, sym, ap, ◌∙◌, subst, arith, eqb-true}
use Rattle.std.proofs.lemmas.Bool.{and_parts, or_cases, or_left, or_right, ltb-true, ltb-false}
use Rattle.std.proofs.lemmas.List.{reverse-reverse}
use Rattle.std.specs.List.{list_any}
use Rattle.irq_base.specs.declared.numbers.DevNo.{DevNo}
use Rattle.irq_base.specs.declared.calls.Call.{Call}
use Rattle.irq_base.specs.declared.calls.Call.TheVariants as calls
use Rattle.irq_base.specs.declared.devices.Kind.{Kind}
use Rattle.irq_base.specs.declared.devices.Kind.TheVariants as kinds
use Rattle.irq_base.specs.declared.devices.Answer.TheVariants as answers
use Rattle.irq_base.specs.declared.devices.Part.{Part}
use Rattle.irq_base.specs.declared.devices.Part.TheVariants as parts
use Rattle.irq_base.specs.declared.devices.ToldAnswer.{ToldAnswer}
use Rattle.irq_base.specs.declared.lines.LineDef.{LineDef}
use Rattle.irq_base.specs.declared.entries.Entry.{Entry}
use Rattle.irq_base.specs.declared.entries.Entry.TheVariants as by
use Rattle.irq_base.specs.declared.entries.CpuEntry.TheVariants as cpus
use Rattle.irq_base.specs.declared.entries.ThreadEntry.TheVariants as threads
use Rattle.irq_base.specs.declared.entries.CallEntry.{CallEntry}
use Rattle.irq_base.specs.declared.entries.CallEntry.TheVariants as called
use Rattle.irq_base.specs.Handlers.{serving_part, answer_of}
use Rattle.irq_model.specs.Places.{since, before, count_of, EachEntry}
use Rattle.irq_model.specs.Kinds.{same_dev, is_ask, is_begin, is_return, is_begin_or_return, is_thread_begin, is_thread_return, is_done, is_serve, serves_this}
use Rattle.irq_model.specs.Lines.{kind_of, run_script}
use Rattle.irq_model.specs.Asks.{begins_run, serves_itself, serving, unless_by_script, unserved_asks, taken_away}
use Rattle.irq_model.specs.Threads.{is_running}
use Rattle.irq_model.specs.Reason.{is_called}
use Rattle.irq_model.specs.Runs.{met_by, makes_calls, is_recognised, entries_of_run, serves_by_word, is_that_part, told_of, served_by_run}
use Rattle.irq_model.specs.RunLaws.{calls_of_run, is_in_run}
use Rattle.irq_model.specs.Scripts.{MakesSteps, MakesAll, MakesAllOf, steps_in}
use Rattle.irq_model.specs.Legal.{IsDue, IsLegalPast}
use Rattle.irq_model.proofs.Same.{same_self, dev_from_same}
use Rattle.irq_laws.specs.Kept.{KeepsRuns}
use Rattle.irq_laws.proofs.ScriptLaws.{runs_past, follows_run_scripts}
use Rattle.irq_laws.proofs.Lists.{both_ways}
use Rattle.irq_laws.proofs.ImpliesFlow.{begin_due, return_due}
use Rattle.irq_laws.proofs.ImpliesThread.{thread_return_due, done_due, has_returned}
use Rattle.irq_storms.specs.Judged.{one_if}
use Rattle.irq_storms.specs.Tests.{serves_of, asks_served, total}
use Rattle.irq_storms.proofs.Counting.{count_more}
use Rattle.irq_storms.proofs.ServedCounts.{served_of, stands_began}
use Rattle.irq_storms.proofs.ThreadCounts.{begin_tells, returned_since}
use Rattle.irq_storms.proofs.Within.{served_since, in_balance, serve_takes, any_back, any_kept, any_since_narrow}
use Rattle.irq_storms.proofs.Paying.{sum_over}

-- ---- a run of d that hasn't returned

abbrev pub is_in : Part → DevNo → List Entry → Bool
is_in parts.Primary d past = is_called past d
is_in parts.Thread d past = is_in_run past d

abbrev pub returns_run : Part → DevNo → Entry → Bool
returns_run parts.Primary d e = is_return d e
returns_run parts.Thread d e = is_thread_return d e

both_true : (b c : Bool) → b ≡ true → c ≡ true → (b && c) ≡ true
both_true b c h i = grind arith

pub has_begun_run : (p : Part) (d : DevNo) (past : List Entry) → is_in p d past ≡ true → list_any (begins_run p d) past ≡ true
has_begun_run parts.Primary d past h = stands_began (is_begin d) (is_return d) past h
has_begun_run parts.Thread d past h = stands_began (is_thread_begin d) (is_done d) past (and_parts (is_running past d) _ h).0

-- before it begins it isn't there
pub not_in_before : (def : LineDef) (p : Part) (d : DevNo) (e : Entry) (past : List Entry) → KeepsRuns def past → IsDue def e past
    → begins_run p d e ≡ true → is_in p d past ≡ false
not_in_before def parts.Primary d (by.Cpu c (cpus.Begin x)) past k due h = by_test (is_called past d) refl
  where
    by_test : (b : Bool) → is_called past d ≡ b → b ≡ false
    by_test false is = refl
    by_test true is = let a = k.called d is in let n = (begin_due def c x past due).none_at_work in let z = sym a ∙ n in cc
not_in_before def parts.Primary d e past k due h = cc
not_in_before def parts.Thread d e past k due h = none (is_running past d) (has_returned past d) (begin_tells def d e past due h).1
  where
    none : (r u : Bool) → r ≡ false → (r && not u) ≡ false
    none r u i = grind arith

-- it stays until it returns
not_done : (def : LineDef) (d : DevNo) (e : Entry) (past : List Entry) → IsDue def e past → is_in_run past d ≡ true → is_done d e ≡ false
not_done def d (by.Thread x threads.Done) past due h = by_test (same_dev d x) refl
  where
    by_test : (b : Bool) → same_dev d x ≡ b → b ≡ false
    by_test false is = refl
    by_test true is =
        let r = subst (λ (y : DevNo). has_returned past y ≡ true) (sym (dev_from_same d x is)) (done_due def x past due).returned in
        let p = from_run (is_running past d) (has_returned past d) h in
        both_ways (has_returned past d) r p
      where
        from_run : (r u : Bool) → (r && not u) ≡ true → u ≡ false
        from_run r u i = grind arith
not_done def d e past due h = refl

pub stays_in : (def : LineDef) (p : Part) (d : DevNo) (e : Entry) (past : List Entry) → IsDue def e past
    → begins_run p d e ≡ false → returns_run p d e ≡ false → is_in p d past ≡ true → is_in p d (e ∷ past) ≡ true
stays_in def parts.Primary d e past due no_begin no_return h = by_tests (is_begin d e) (is_return d e) (is_called past d) no_return h
  where
    by_tests : (b r c : Bool) → r ≡ false → c ≡ true → (b || (not r && c)) ≡ true
    by_tests b r c i j = grind arith
stays_in def parts.Thread d e past due no_begin no_return h =
    ap (λ (u : Bool). is_running (e ∷ past) d && not u) (returned_since d e past)
    ∙ by_tests (is_thread_begin d e) (is_done d e) (is_running past d) (is_thread_return d e) (has_returned past d) no_begin no_return
    (not_done def d e past due h) h
  where
    by_tests : (b o r t u : Bool) → b ≡ false → t ≡ false → o ≡ false → (r && not u) ≡ true → ((b || (not o && r)) && not (cond b false (t || u))) ≡ true
    by_tests b o r t u i j k l = grind arith

pub begun_in : (q : Part) (d : DevNo) (e : Entry) (past : List Entry) → begins_run q d e ≡ true → is_in q d (e ∷ past) ≡ true
begun_in parts.Primary d e past h = or_left (is_begin d e) (not (is_return d e) && is_called past d) h
begun_in parts.Thread d e past h =
    ap (λ (u : Bool). is_running (e ∷ past) d && not u) (returned_since d e past)
    ∙ by_tests (is_thread_begin d e) (not (is_done d e) && is_running past d) (is_thread_return d e || has_returned past d) h
  where
    by_tests : (b r u : Bool) → b ≡ true → ((b || r) && not (cond b false u)) ≡ true
    by_tests b r u i = grind arith

-- ---- a script that serves its device

steps_serve : (d : DevNo) (cs : List CallEntry) → MakesSteps (calls.Serve d) cs → list_any (serves_this d) cs ≡ true
steps_serve d (called.Serve dev served ∷ []) h =
    or_left (same_dev d dev) false (subst (λ (y : DevNo). same_dev d y ≡ true) (sym h) (same_self d))
steps_serve d cs h = absurd h

any_step : (d : DevNo) (es : List Entry) → list_any (serves_this d) (steps_in es) ≡ true → list_any (is_serve d) es ≡ true
any_step d [] h = h
any_step d (by.CpuCall c call ∷ es) h = either (serves_this d call) _ _ (any_step d es) h
  where
    either : (a b c : Bool) → (b ≡ true → c ≡ true) → (a || b) ≡ true → (a || c) ≡ true
    either a b c i h = grind arith
any_step d (by.ThreadCall x call ∷ es) h = either (serves_this d call) _ _ (any_step d es) h
  where
    either : (a b c : Bool) → (b ≡ true → c ≡ true) → (a || b) ≡ true → (a || c) ≡ true
    either a b c i h = grind arith
any_step d (by.DriverCall s call ∷ es) h = either (serves_this d call) _ _ (any_step d es) h
  where
    either : (a b c : Bool) → (b ≡ true → c ≡ true) → (a || b) ≡ true → (a || c) ≡ true
    either a b c i h = grind arith
any_step d (by.Cpu c e ∷ es) h = any_step d es h
any_step d (by.Thread x e ∷ es) h = any_step d es h
any_step d (by.Driver s e ∷ es) h = any_step d es h

call_serves : (d : DevNo) (c : Call) (es : List Entry) → serves_itself d c ≡ true → MakesAll c es → list_any (is_serve d) es ≡ true
call_serves d (calls.Serve x) es h m =
    any_step d es (subst (λ (y : DevNo). list_any (serves_this y) (steps_in es) ≡ true) (sym (dev_from_same d x h)) (steps_serve x (steps_in es) m.0))
call_serves d c es h m = cc

any_of_joined : (p : Entry → Bool) (xs ys : List Entry) → (list_any p xs || list_any p ys) ≡ true → list_any p (xs ++ ys) ≡ true
any_of_joined p [] ys h = h
any_of_joined p (x ∷ xs) ys h = by_test (p x) h (any_of_joined p xs ys)
  where
    by_test : (b : Bool) → ((b || list_any p xs) || list_any p ys) ≡ true → ((list_any p xs || list_any p ys) ≡ true → list_any p (xs ++ ys) ≡ true)
        → (b || list_any p (xs ++ ys)) ≡ true
    by_test true h deeper = refl
    by_test false h deeper = deeper h

script_serves : (d : DevNo) (cs : List Call) (es : List Entry) → list_any (serves_itself d) cs ≡ true → MakesAllOf cs es → list_any (is_serve d) es ≡ true
script_serves d [] es h m = cc
script_serves d (c ∷ cs) es h m =
    subst (λ (xs : List Entry). list_any (is_serve d) xs ≡ true) (sym m.2)
    (any_of_joined (is_serve d) m.0 m.1
    (by_case (or_cases (serves_itself d c) (list_any (serves_itself d) cs) h) (λ later. script_serves d cs m.1 later m.4)))
  where
    by_case : (serves_itself d c ≡ true) ⊎ (list_any (serves_itself d) cs ≡ true) → (list_any (serves_itself d) cs ≡ true → list_any (is_serve d) m.1 ≡ true)
        → (list_any (is_serve d) m.0 || list_any (is_serve d) m.1) ≡ true
    by_case (inl now) deeper = or_left (list_any (is_serve d) m.0) (list_any (is_serve d) m.1) (call_serves d c m.0 now m.3)
    by_case (inr later) deeper = or_right (list_any (is_serve d) m.0) (list_any (is_serve d) m.1) (deeper later)

wider : (d : DevNo) (e : Entry) → is_begin d e ≡ true → is_begin_or_return e ≡ true
wider d (by.Cpu c (cpus.Begin x)) h = refl
wider d e h = cc

own_entries : (p : Part) (d : DevNo) (q : Entry → Bool) (past : List Entry) → list_any q (entries_of_run p d past) ≡ true
    → list_any q (since (begins_run p d) past) ≡ true
own_entries parts.Primary d q past h = any_since_narrow q (is_begin d) is_begin_or_return (wider d) past (any_kept q _ _ (any_back q _ h))
own_entries parts.Thread d q past h = any_kept q _ _ (any_back q _ h)

-- ---- a run that has returned made its script

abbrev pub Made : LineDef → Part → DevNo → List Entry → Type 0
Made def p d past = MakesAllOf (calls_of_run def p d past) (entries_of_run p d past)

pub run_made : (def : LineDef) (p : Part) (d : DevNo) (e : Entry) (past : List Entry) → IsLegalPast def (e ∷ past)
    → returns_run p d e ≡ true → Made def p d past
run_made def p d e past legal h =
    let turned : reverse (reverse (e ∷ past)) ≡ e ∷ past = reverse-reverse (e ∷ past) in
    let laws = follows_run_scripts def (reverse (e ∷ past)) (subst (λ (l : List Entry). IsLegalPast def l) (sym turned) legal) in
    by_part p (subst (λ (l : List Entry). EachEntry (λ e past. (d : DevNo) → is_return d e ≡ true → Made def parts.Primary d past) l) turned laws.handlers)
    (subst (λ (l : List Entry). EachEntry (λ e past. (d : DevNo) → is_thread_return d e ≡ true → Made def parts.Thread d past) l) turned laws.threads) h
  where
    by_part : (p : Part) → EachEntry (λ e past. (d : DevNo) → is_return d e ≡ true → Made def parts.Primary d past) (e ∷ past)
        → EachEntry (λ e past. (d : DevNo) → is_thread_return d e ≡ true → Made def parts.Thread d past) (e ∷ past)
        → returns_run p d e ≡ true → Made def p d past
    by_part parts.Primary handlers threads h = handlers.0 d h
    by_part parts.Thread handlers threads h = threads.0 d h

-- ---- the part that serves, whatever the board says

pub record AlwaysServes (def : LineDef) (p : Part) (d : DevNo) : Type 0 where
  pub part : serving_part (kind_of def d) ≡ Some p
  pub word : (told : Option ToldAnswer) → serves_by_word (kind_of def d) told ≡ true
  pub makes : (past : List Entry) → nat_lt 0 (met_by def p d past) ≡ true → makes_calls def p d past ≡ true

-- what a return says that it served
served_count : (def : LineDef) (p : Part) (d : DevNo) (e : Entry) (past : List Entry) → IsDue def e past → returns_run p d e ≡ true
    → asks_served d e ≡ served_by_run def p d past
served_count def parts.Primary d (by.Cpu c (cpus.Return answer x n)) past due h =
    ap (λ (b : Bool). cond b n 0) h ∙ (return_due def c x answer n past due).served_is
    ∙ ap (λ (y : DevNo). served_by_run def parts.Primary y past) (sym (dev_from_same d x h))
served_count def parts.Primary d e past due h = cc
served_count def parts.Thread d (by.Thread x (threads.Return handled n)) past due h =
    ap (λ (b : Bool). cond b n 0) h ∙ (thread_return_due def x handled n past due).served_is
    ∙ ap (λ (y : DevNo). served_by_run def parts.Thread y past) (sym (dev_from_same d x h))
served_count def parts.Thread d e past due h = cc

same_part_self : (p : Part) → is_that_part p (Some p) ≡ true
same_part_self parts.Primary = refl
same_part_self parts.Thread = refl

module _ (def : LineDef) (p : Part) (d : DevNo) (always : AlwaysServes def p d) where
  -- a run that met something and returns has served something, by now or by its return
  by_return : (e : Entry) (past : List Entry) → IsLegalPast def (e ∷ past) → returns_run p d e ≡ true → is_in p d past ≡ true
      → nat_lt 0 (met_by def p d past) ≡ true → 1 ≤ asks_served d e + served_since p d past
  by_return e past legal returns run met = by_script (list_any (serves_itself d) (run_script def d p)) refl
    where
      some : 1 ≤ met_by def p d past
      some = let l = ltb-true 0 (met_by def p d past) met in omega (arith, l)

      served : list_any (is_serve d) (since (begins_run p d) past) ≡ true → 1 ≤ asks_served d e + served_since p d past
      served h = let t = serve_takes def p d past legal.1 (has_begun_run p d past run) h in omega (arith, t, some)

      by_serve : (c : Bool) → list_any (is_serve d) (since (begins_run p d) past) ≡ c → asks_served d e ≡ cond c 0 (met_by def p d past)
          → 1 ≤ asks_served d e + served_since p d past
      by_serve true is count = served is
      by_serve false is count = omega (arith, count, some)

      by_script : (c : Bool) → list_any (serves_itself d) (run_script def d p) ≡ c → 1 ≤ asks_served d e + served_since p d past
      by_script true is =
          let calls_are : calls_of_run def p d past ≡ run_script def d p = ap (λ (m : Bool). cond m (run_script def d p) []) (always.makes past met) in
          let m = subst (λ (cs : List Call). MakesAllOf cs (entries_of_run p d past)) calls_are (run_made def p d e past legal returns) in
          served (own_entries p d (is_serve d) past (script_serves d (run_script def d p) (entries_of_run p d past) is m))
      by_script false is =
          let part : serving def d ≡ Some p = ap (unless_by_script def d) always.part ∙ ap (λ (s : Bool). cond s None (Some p)) is in
          let takes : (is_that_part p (serving def d) && serves_by_word (kind_of def d) (told_of def p d past)) ≡ true =
          both_true _ _ (ap (is_that_part p) part ∙ same_part_self p) (always.word (told_of def p d past)) in
          by_serve (list_any (is_serve d) (since (begins_run p d) past)) refl
          (served_count def p d e past legal.0 returns ∙ ap (λ (t : Bool). cond t (taken_away def p d past) 0) takes)

  abbrev pub meets : Entry → List Entry → Bool
  meets e past = begins_run p d e && nat_lt 0 (unserved_asks def d past)

  -- the run met something, and nothing was served since
  abbrev owing : List Entry → Bool
  owing past = is_in p d past && (nat_lt 0 (met_by def p d past) && (served_since p d past == 0))

  record IsOwing (past : List Entry) : Type 0 where
    run : is_in p d past ≡ true
    met : nat_lt 0 (met_by def p d past) ≡ true
    none : served_since p d past ≡ 0

  from_owing : (past : List Entry) → owing past ≡ true → IsOwing past
  from_owing past h =
      let x = and_parts (is_in p d past) _ h in
      let y = and_parts (nat_lt 0 (met_by def p d past)) (served_since p d past == 0) x.1 in
      record { run = x.0; met = y.0; none = eqb-true (served_since p d past) 0 y.1 }

  abbrev Keeps : Entry → List Entry → Type 0
  Keeps e past = one_if (meets e past) + one_if (owing past) ≤ one_if (owing (e ∷ past)) + one_if (serves_of d e)

  at_begin : (e : Entry) (past : List Entry) → IsLegalPast def (e ∷ past) → begins_run p d e ≡ true → Keeps e past
  at_begin e past legal is =
      let none : one_if (owing past) ≡ 0 = ap one_if (ap (λ (i : Bool). i && (nat_lt 0 (met_by def p d past) && (served_since p d past == 0)))
      (not_in_before def p d e past (runs_past def past legal.1) legal.0 is)) in
      let met : met_by def p d (e ∷ past) ≡ unserved_asks def d past
      = ap (λ (c : Bool). unserved_asks def d (cond c past (before (begins_run p d) past))) is in
      let since_is : served_since p d (e ∷ past) ≡ 0 = ap (λ (c : Bool). total (asks_served d) (cond c [] (e ∷ since (begins_run p d) past))) is in
      let same = all_true (begins_run p d e) (is_in p d (e ∷ past)) (nat_lt 0 (unserved_asks def d past)) (nat_lt 0 (met_by def p d (e ∷ past)))
      (served_since p d (e ∷ past) == 0) is (begun_in p d e past is) (ap (nat_lt 0) met) (ap (λ (n : ℕ). n == 0) since_is) in
      omega (arith, none, same)
    where
      all_true : (g i u m z : Bool) → g ≡ true → i ≡ true → m ≡ u → z ≡ true → one_if (g && u) ≡ one_if (i && (m && z))
      all_true g i u m z j k l n = grind arith

  still_owing : (e : Entry) (past : List Entry) → IsLegalPast def (e ∷ past) → begins_run p d e ≡ false → asks_served d e ≡ 0 → IsOwing past
      → owing (e ∷ past) ≡ true
  still_owing e past legal other nothing o = by_test (returns_run p d e) refl
    where
      both : (i m z : Bool) → i ≡ true → m ≡ true → z ≡ true → (i && (m && z)) ≡ true
      both i m z j k l = grind arith

      by_test : (r : Bool) → returns_run p d e ≡ r → owing (e ∷ past) ≡ true
      by_test true is = absurd (let r = by_return e past legal is o.run o.met in let n = o.none in omega (arith, r, n, nothing))
      by_test false is =
          let met : met_by def p d (e ∷ past) ≡ met_by def p d past =
          ap (λ (c : Bool). unserved_asks def d (cond c past (before (begins_run p d) past))) other in
          let since_is : served_since p d (e ∷ past) ≡ asks_served d e + served_since p d past =
          ap (λ (c : Bool). total (asks_served d) (cond c [] (e ∷ since (begins_run p d) past))) other in
          let n = o.none in
          let zero : served_since p d (e ∷ past) ≡ 0 = omega (arith, since_is, n, nothing) in
          both _ _ _ (stays_in def p d e past legal.0 other is o.run) (ap (nat_lt 0) met ∙ o.met) (ap (λ (m : ℕ). m == 0) zero)

  keeps_more : (e : Entry) (past : List Entry) → IsLegalPast def (e ∷ past) → Keeps e past
  keeps_more e past legal = by_tests (begins_run p d e) (nat_lt 0 (asks_served d e)) (owing past) refl refl refl
    where
      most : (c : Bool) → one_if c ≤ 1
      most true = omega arith
      most false = omega arith

      by_tests : (g s o : Bool) → begins_run p d e ≡ g → nat_lt 0 (asks_served d e) ≡ s → owing past ≡ o → Keeps e past
      by_tests true s o ig is io = at_begin e past legal ig
      by_tests false true o ig is io =
          let none : one_if (meets e past) ≡ 0 = ap one_if (ap (λ (c : Bool). c && nat_lt 0 (unserved_asks def d past)) ig) in
          let one : one_if (serves_of d e) ≡ 1 = ap one_if is in
          let m = most (owing past) in
          omega (arith, none, one, m)
      by_tests false false false ig is io =
          let none : one_if (meets e past) ≡ 0 = ap one_if (ap (λ (c : Bool). c && nat_lt 0 (unserved_asks def d past)) ig) in
          let zero : one_if (owing past) ≡ 0 = ap one_if io in
          omega (arith, none, zero)
      by_tests false false true ig is io =
          let none : one_if (meets e past) ≡ 0 = ap one_if (ap (λ (c : Bool). c && nat_lt 0 (unserved_asks def d past)) ig) in
          let nothing : asks_served d e ≡ 0 = (let l = ltb-false 0 (asks_served d e) is in omega (arith, l)) in
          let m = most (owing past) in
          let o : one_if (owing (e ∷ past)) ≡ 1 = ap one_if (still_owing e past legal ig nothing (from_owing past io)) in
          omega (arith, none, m, o)

  meets_serve : (past : List Entry) → IsLegalPast def past
      → sum_over (λ e past. one_if (meets e past)) past ≤ count_of (serves_of d) past + one_if (owing past)
  meets_serve [] legal = omega arith
  meets_serve (e ∷ past) legal =
      let r = meets_serve past legal.1 in
      let k = keeps_more e past legal in
      let m = count_more (serves_of d) e past in
      omega (arith, r, k, m)

  owing_unserved : (past : List Entry) → IsLegalPast def past → one_if (owing past) ≤ unserved_asks def d past
  owing_unserved past legal = by_test (owing past) refl
    where
      by_test : (c : Bool) → owing past ≡ c → one_if c ≤ unserved_asks def d past
      by_test false is = omega arith
      by_test true is =
          let o = from_owing past is in
          let i = in_balance def p d past legal (has_begun_run p d past o.run) in
          let l = ltb-true 0 (met_by def p d past) o.met in
          let n = o.none in
          omega (arith, i, l, n)

  -- the runs that meet something unserved are at most the asks
  pub meetings : (past : List Entry) → IsLegalPast def past → sum_over (λ e past. one_if (meets e past)) past ≤ count_of (is_ask d) past
  meetings past legal =
      let m = meets_serve past legal in
      let o = owing_unserved past legal in
      let s = served_of def d past legal in
      omega (arith, m, o, s)

-- ---- the kinds whose runs serve so

pub direct_serves : (def : LineDef) (d : DevNo) → kind_of def d ≡ kinds.Direct → AlwaysServes def parts.Primary d
direct_serves def d is = record {
  part = ap serving_part is;
  word = λ told. ap (λ (k : Kind). serves_by_word k told) is;
  makes = λ past met. ap (λ (k : Kind). is_recognised (answer_of k parts.Primary (met_by def parts.Primary d past) (told_of def parts.Primary d past))) is
      ∙ ap (λ (b : Bool). is_recognised (cond b answers.Handled answers.Nothing)) met;
}

pub check_serves : (def : LineDef) (d : DevNo) → kind_of def d ≡ kinds.Check → AlwaysServes def parts.Thread d
check_serves def d is = record { part = ap serving_part is; word = λ told. ap (λ (k : Kind). serves_by_word k told) is; makes = λ past met. refl }

pub null_serves : (def : LineDef) (d : DevNo) → kind_of def d ≡ kinds.Null → AlwaysServes def parts.Thread d
null_serves def d is = record { part = ap serving_part is; word = λ told. ap (λ (k : Kind). serves_by_word k told) is; makes = λ past met. refl }
