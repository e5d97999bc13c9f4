-- The runs that answer Handled: at most the asks, and the words of told devices that say so.
use Rattle.std.proofs.Common.{◌≡◌, ℕ, ◌+◌, ◌≤◌, ◌==◌, Bool, true, false, not, ◌&&◌, cond, nat_lt, Option, Some, None}
use Rattle.std.proofs.Common.{List, [], ◌∷◌, refl, sym, ap, ◌∙◌, subst, arith}
use Rattle.std.proofs.lemmas.Bool.{and_parts}
use Rattle.irq_base.specs.declared.numbers.DevNo.{DevNo}
use Rattle.irq_base.specs.declared.devices.Answer.{Answer}
use Rattle.irq_base.specs.declared.devices.Answer.TheVariants as answers
use Rattle.irq_base.specs.declared.devices.Kind.{Kind}
use Rattle.irq_base.specs.declared.devices.Kind.TheVariants as kinds
use Rattle.irq_base.specs.declared.devices.Part.{Part}
use Rattle.irq_base.specs.declared.devices.Part.TheVariants as parts
use Rattle.irq_base.specs.declared.devices.ToldAnswer.{ToldAnswer}
use Rattle.irq_base.specs.declared.devices.ToldAnswer.TheVariants as tolds
use Rattle.irq_base.specs.declared.lines.LineDef.{LineDef}
use Rattle.irq_base.specs.declared.entries.Entry.{Entry}
use Rattle.irq_base.specs.declared.entries.Entry.TheVariants as by
use Rattle.irq_base.specs.declared.entries.CpuEntry.TheVariants as cpus
use Rattle.irq_base.specs.declared.entries.ThreadEntry.TheVariants as threads
use Rattle.irq_base.specs.Handlers.{answer_of, answer_of_told}
use Rattle.irq_model.specs.Places.{before, count_of}
use Rattle.irq_model.specs.Kinds.{same_dev, is_any_ask, is_ask, is_handled}
use Rattle.irq_model.specs.Lines.{kind_of, same_part, told_in, told_answers}
use Rattle.irq_model.specs.Asks.{begins_run, unserved_asks}
use Rattle.irq_model.specs.Threads.{is_running}
use Rattle.irq_model.specs.Runs.{met_by, told_of, answer_of_run_now}
use Rattle.irq_model.specs.RunBounds.{is_told_handled, told_handled}
use Rattle.irq_model.specs.Legal.{IsLegalPast}
use Rattle.irq_model.proofs.Same.{dev_from_same}
use Rattle.irq_laws.proofs.ScriptLaws.{runs_past}
use Rattle.irq_laws.proofs.ImpliesFlow.{return_due}
use Rattle.irq_laws.proofs.ImpliesThread.{thread_return_due, has_returned}
use Rattle.irq_storms.specs.Judged.{one_if}
use Rattle.irq_storms.specs.Tests.{answers_handled}
use Rattle.irq_storms.proofs.Counting.{count_more, count_ext, count_total, total_at, at_key, totals_by_two}
use Rattle.irq_storms.proofs.ServedCounts.{key_ask}
use Rattle.irq_storms.proofs.ThreadCounts.{dev_key}
use Rattle.irq_storms.proofs.Meeting.{is_in, returns_run, AlwaysServes, meetings, direct_serves, check_serves, null_serves}
use Rattle.irq_storms.proofs.ToldWords.{not_in_after, in_before, told_counted}
use Rattle.irq_storms.proofs.Paying.{StaysPaid, is_paid, sum_alone}

-- ---- a run of d's part that answers Handled

abbrev pub handles : Part → DevNo → Entry → Bool
handles parts.Primary d (by.Cpu cpu (cpus.Return answer dev served)) = same_dev d dev && is_handled answer
handles parts.Thread d (by.Thread dev (threads.Return handled served)) = same_dev d dev && handled
handles part d _ = false

pub handles_returns : (p : Part) (d : DevNo) (e : Entry) → handles p d e ≡ true → returns_run p d e ≡ true
handles_returns parts.Primary d (by.Cpu c (cpus.Return answer x n)) h = (and_parts (same_dev d x) (is_handled answer) h).0
handles_returns parts.Primary d e h = cc
handles_returns parts.Thread d (by.Thread x (threads.Return handled n)) h = (and_parts (same_dev d x) handled h).0
handles_returns parts.Thread d e h = cc

begins_no_handle : (p : Part) (d : DevNo) (e : Entry) → begins_run p d e ≡ true → handles p d e ≡ false
begins_no_handle parts.Primary d (by.Cpu c (cpus.Begin x)) h = refl
begins_no_handle parts.Primary d e h = cc
begins_no_handle parts.Thread d (by.Thread x threads.Begin) h = refl
begins_no_handle parts.Thread d e h = cc

-- its run is there, and the answer is what the board says
pub record HandledRun (def : LineDef) (p : Part) (d : DevNo) (past : List Entry) : Type 0 where
  pub run : is_in p d past ≡ true
  pub answer : is_handled (answer_of_run_now def p d past) ≡ true

pub handled_run : (def : LineDef) (p : Part) (d : DevNo) (e : Entry) (past : List Entry) → IsLegalPast def (e ∷ past) → handles p d e ≡ true
    → HandledRun def p d past
handled_run def parts.Primary d (by.Cpu c (cpus.Return answer x n)) past legal h =
    let p = and_parts (same_dev d x) (is_handled answer) h in
    let u = return_due def c x answer n past legal.0 in
    subst (λ (y : DevNo). HandledRun def parts.Primary y past) (sym (dev_from_same d x p.0))
    (record { run = ((runs_past def past legal.1).working x u.is_at_work).0; answer = sym (ap is_handled u.answer_is) ∙ p.1 })
handled_run def parts.Primary d e past legal h = cc
handled_run def parts.Thread d (by.Thread x (threads.Return handled n)) past legal h =
    let p = and_parts (same_dev d x) handled h in
    let u = thread_return_due def x handled n past legal.0 in
    subst (λ (y : DevNo). HandledRun def parts.Thread y past) (sym (dev_from_same d x p.0))
    (record { run = both (is_running past x) (has_returned past x) u.running u.not_returned; answer = sym u.handled_is ∙ p.1 })
  where
    both : (r t : Bool) → r ≡ true → t ≡ false → (r && not t) ≡ true
    both r t a b = grind arith
handled_run def parts.Thread d e past legal h = cc

-- ---- runs that have to meet something

module _ (def : LineDef) (p : Part) (d : DevNo) (always : AlwaysServes def p d)
    (needs : (past : List Entry) → is_handled (answer_of_run_now def p d past) ≡ true → nat_lt 0 (met_by def p d past) ≡ true) where
  abbrev rest : List Entry → ℕ
  rest past = one_if (is_in p d past && nat_lt 0 (met_by def p d past))

  abbrev meets_d : Entry → List Entry → Bool
  meets_d e past = begins_run p d e && nat_lt 0 (unserved_asks def d past)

  handled_more : (e : Entry) (past : List Entry) → IsLegalPast def (e ∷ past)
      → StaysPaid (λ e past. one_if (handles p d e)) (λ e past. one_if (meets_d e past)) rest e past
  handled_more e past legal = by_tests (begins_run p d e) (handles p d e) refl refl
    where
      most : (i m : Bool) → one_if (i && m) ≤ one_if m
      most true m = omega arith
      most false true = omega arith
      most false false = omega arith

      fewer : (i j m n : Bool) → (i ≡ true → j ≡ true) → m ≡ n → one_if (i && m) ≤ one_if (j && n)
      fewer true true true true h k = omega arith
      fewer true true false n h k = omega arith
      fewer true true true false h k = cc
      fewer true false m n h k = let z = h refl in cc
      fewer false j m n h k = omega arith

      by_tests : (g t : Bool) → begins_run p d e ≡ g → handles p d e ≡ t
          → one_if (handles p d e) + rest (e ∷ past) ≤ rest past + one_if (meets_d e past)
      by_tests true t ig it =
          let none : one_if (handles p d e) ≡ 0 = ap one_if (begins_no_handle p d e ig) in
          let met : met_by def p d (e ∷ past) ≡ unserved_asks def d past
          = ap (λ (c : Bool). unserved_asks def d (cond c past (before (begins_run p d) past))) ig in
          let m = most (is_in p d (e ∷ past)) (nat_lt 0 (met_by def p d (e ∷ past))) in
          let s : one_if (nat_lt 0 (met_by def p d (e ∷ past))) ≡ one_if (nat_lt 0 (unserved_asks def d past)) = ap (λ (n : ℕ). one_if (nat_lt 0 n)) met in
          let w : one_if (meets_d e past) ≡ one_if (nat_lt 0 (unserved_asks def d past))
          = ap (λ (c : Bool). one_if (c && nat_lt 0 (unserved_asks def d past))) ig in
          omega (arith, none, m, s, w)
      by_tests false true ig it =
          let h = handled_run def p d e past legal it in
          let one : one_if (handles p d e) ≡ 1 = ap one_if it in
          let was : rest past ≡ 1 = ap one_if (both _ _ h.run (needs past h.answer)) in
          let after : rest (e ∷ past) ≡ 0 =
          ap (λ (i : Bool). one_if (i && nat_lt 0 (met_by def p d (e ∷ past)))) (not_in_after p d e past (handles_returns p d e it)) in
          omega (arith, one, was, after)
        where
          both : (a b : Bool) → a ≡ true → b ≡ true → (a && b) ≡ true
          both a b h i = grind arith
      by_tests false false ig it =
          let none : one_if (handles p d e) ≡ 0 = ap one_if it in
          let met : met_by def p d (e ∷ past) ≡ met_by def p d past =
          ap (λ (c : Bool). unserved_asks def d (cond c past (before (begins_run p d) past))) ig in
          let f = fewer (is_in p d (e ∷ past)) (is_in p d past) (nat_lt 0 (met_by def p d (e ∷ past))) (nat_lt 0 (met_by def p d past))
          (in_before p d e past ig) (ap (nat_lt 0) met) in
          omega (arith, none, f)

  pub handled_by_asks : (past : List Entry) → IsLegalPast def past → count_of (handles p d) past ≤ count_of (is_ask d) past
  handled_by_asks past legal =
      let r = is_paid def (λ e past. one_if (handles p d e)) (λ e past. one_if (meets_d e past)) rest (none_in p) handled_more past legal in
      let m = meetings def p d always past legal in
      let a = sum_alone (λ e. one_if (handles p d e)) past in
      let t = count_total (handles p d) past in
      omega (arith, r, m, a, t)
    where
      none_in : (p : Part) → one_if (is_in p d [] && nat_lt 0 (met_by def p d [])) ≡ 0
      none_in parts.Primary = refl
      none_in parts.Thread = refl

-- ---- told runs

told_word : (told : Option ToldAnswer) → is_handled (answer_of_told told) ≡ true → (w : ToldAnswer) × (told ≡ Some w) × (is_told_handled w ≡ true)
told_word (Some tolds.Handled) h = (tolds.Handled, refl, refl)
told_word (Some tolds.Claims) h = (tolds.Claims, refl, refl)
told_word (Some tolds.Wake) h = cc
told_word (Some tolds.Nothing) h = cc
told_word None h = cc

handled_by_words : (def : LineDef) (p : Part) (d : DevNo) (threaded : Bool) → kind_of def d ≡ kinds.Told threaded → (past : List Entry)
    → IsLegalPast def past → count_of (handles p d) past ≤ count_of is_told_handled (told_answers def d p)
handled_by_words def p d threaded kind past legal =
    told_counted def p d is_told_handled (handles p d) (handles_returns p d) (begins_no_handle p d) there past legal
  where
    there : (e : Entry) (past : List Entry) → IsLegalPast def (e ∷ past) → handles p d e ≡ true
        → (is_in p d past ≡ true) × (w : ToldAnswer) × (told_of def p d past ≡ Some w) × (is_told_handled w ≡ true)
    there e past legal h =
        let r = handled_run def p d e past legal h in
        let told : is_handled (answer_of_told (told_of def p d past)) ≡ true =
        sym (ap (λ (k : Kind). is_handled (answer_of k p (met_by def p d past) (told_of def p d past))) kind) ∙ r.answer in
        let w = told_word (told_of def p d past) told in
        (r.run, w.0, w.1, w.2)

-- ---- runs that never answer so

handled_never : (def : LineDef) (p : Part) (d : DevNo) → ((past : List Entry) → is_handled (answer_of_run_now def p d past) ≡ false) → (past : List Entry)
    → IsLegalPast def past → count_of (handles p d) past ≡ 0
handled_never def p d never [] legal = refl
handled_never def p d never (e ∷ past) legal = by_test (handles p d e) refl (handled_never def p d never past legal.1)
  where
    by_test : (b : Bool) → handles p d e ≡ b → count_of (handles p d) past ≡ 0 → cond b (count_of (handles p d) past + 1) (count_of (handles p d) past) ≡ 0
    by_test true is r = let h = handled_run def p d e past legal is in let a = h.answer in let n = never past in let z = sym a ∙ n in cc
    by_test false is r = r

-- ---- by the kind of the device

if_some : (b : Bool) (a : Answer) → is_handled a ≡ false → is_handled (cond b a answers.Nothing) ≡ false
if_some true a h = h
if_some false a h = refl

if_handled : (b : Bool) → is_handled (cond b answers.Handled answers.Nothing) ≡ true → b ≡ true
if_handled true h = refl
if_handled false h = cc

module _ (def : LineDef) (d : DevNo) (past : List Entry) (legal : IsLegalPast def past) where
  abbrev words : Part → ℕ
  words p = count_of is_told_handled (told_answers def d p)

  abbrev Few : Type 0
  Few = count_of (handles parts.Primary d) past + count_of (handles parts.Thread d) past ≤ count_of (is_ask d) past + (words parts.Primary + words parts.Thread)

  answers_as : (p : Part) (k : Kind) → kind_of def d ≡ k → (past : List Entry)
      → is_handled (answer_of_run_now def p d past) ≡ is_handled (answer_of k p (met_by def p d past) (told_of def p d past))
  answers_as p k is past = ap (λ (k : Kind). is_handled (answer_of k p (met_by def p d past) (told_of def p d past))) is

  by_kind : (k : Kind) → kind_of def d ≡ k → Few
  by_kind kinds.Direct is =
      let h = handled_by_asks def parts.Primary d (direct_serves def d is)
      (λ past a. if_handled _ (sym (answers_as parts.Primary kinds.Direct is past) ∙ a)) past legal in
      let t = handled_never def parts.Thread d (λ past. answers_as parts.Thread kinds.Direct is past) past legal in
      omega (arith, h, t)
  by_kind kinds.Check is =
      let h = handled_never def parts.Primary d (λ past. answers_as parts.Primary kinds.Check is past ∙ if_some _ answers.Wake refl) past legal in
      let t = handled_by_asks def parts.Thread d (check_serves def d is)
      (λ past a. if_handled _ (sym (answers_as parts.Thread kinds.Check is past) ∙ a)) past legal in
      omega (arith, h, t)
  by_kind kinds.Null is =
      let h = handled_never def parts.Primary d (λ past. answers_as parts.Primary kinds.Null is past) past legal in
      let t = handled_by_asks def parts.Thread d (null_serves def d is)
      (λ past a. if_handled _ (sym (answers_as parts.Thread kinds.Null is past) ∙ a)) past legal in
      omega (arith, h, t)
  by_kind kinds.Stuck is =
      let h = handled_never def parts.Primary d (λ past. answers_as parts.Primary kinds.Stuck is past) past legal in
      let t = handled_never def parts.Thread d (λ past. answers_as parts.Thread kinds.Stuck is past) past legal in
      omega (arith, h, t)
  by_kind kinds.Odd is =
      let h = handled_never def parts.Primary d (λ past. answers_as parts.Primary kinds.Odd is past) past legal in
      let t = handled_never def parts.Thread d (λ past. answers_as parts.Thread kinds.Odd is past) past legal in
      omega (arith, h, t)
  by_kind (kinds.Told threaded) is =
      let h = handled_by_words def parts.Primary d threaded is past legal in
      let t = handled_by_words def parts.Thread d threaded is past legal in
      omega (arith, h, t)

-- ---- of all devices

abbrev word_key : DevNo × Part × ToldAnswer → ℕ
word_key c = c.0.0

abbrev word_mark : DevNo × Part × ToldAnswer → ℕ
word_mark c = one_if (is_told_handled c.2)

words_in : (d : DevNo) (cs : List (DevNo × Part × ToldAnswer))
    → count_of is_told_handled (told_in cs d parts.Primary) + count_of is_told_handled (told_in cs d parts.Thread)
    ≡ total_at word_key word_mark d.0 cs
words_in d [] = refl
words_in d (c ∷ cs) = by_tests (d.0 == c.0.0) c.1 (words_in d cs)
  where
    one : (w : Bool) (m n t : ℕ) → m + n ≡ t → cond w (m + 1) m + n ≡ one_if w + t
    one true m n t h = omega (arith, h)
    one false m n t h = omega (arith, h)

    two : (w : Bool) (m n t : ℕ) → m + n ≡ t → m + cond w (n + 1) n ≡ one_if w + t
    two true m n t h = omega (arith, h)
    two false m n t h = omega (arith, h)

    by_tests : (b : Bool) (part : Part)
        → count_of is_told_handled (told_in cs d parts.Primary) + count_of is_told_handled (told_in cs d parts.Thread) ≡ total_at word_key word_mark d.0 cs
        → count_of is_told_handled (cond (b && same_part parts.Primary part) (c.2 ∷ told_in cs d parts.Primary) (told_in cs d parts.Primary))
        + count_of is_told_handled (cond (b && same_part parts.Thread part) (c.2 ∷ told_in cs d parts.Thread) (told_in cs d parts.Thread))
        ≡ cond b (one_if (is_told_handled c.2)) 0 + total_at word_key word_mark d.0 cs
    by_tests true parts.Primary h = one (is_told_handled c.2) _ _ _ h
    by_tests true parts.Thread h = two (is_told_handled c.2) _ _ _ h
    by_tests false part h = omega (arith, h)

no_mark : (b : Bool) → ◌≡◌ {A = ℕ} (cond b 0 0) 0
no_mark true = refl
no_mark false = refl

key_handled : (k : ℕ) (e : Entry) → cond (k == dev_key e) (one_if (answers_handled e)) 0
    ≡ one_if (handles parts.Primary (record { 0 = k }) e) + one_if (handles parts.Thread (record { 0 = k }) e)
key_handled k (by.Cpu c (cpus.Return answer x n)) = by_tests (k == x.0) (is_handled answer)
  where
    by_tests : (a b : Bool) → cond a (one_if b) 0 ≡ one_if (a && b) + 0
    by_tests true true = refl
    by_tests true false = refl
    by_tests false b = refl
key_handled k (by.Thread x (threads.Return handled n)) = by_tests (k == x.0) handled
  where
    by_tests : (a b : Bool) → cond a (one_if b) 0 ≡ 0 + one_if (a && b)
    by_tests true true = refl
    by_tests true false = refl
    by_tests false b = refl
key_handled k e = no_mark (k == dev_key e)

two_parts : (k : ℕ) (past : List Entry) → total_at dev_key (λ e. one_if (answers_handled e)) k past
    ≡ count_of (handles parts.Primary (record { 0 = k })) past + count_of (handles parts.Thread (record { 0 = k })) past
two_parts k [] = refl
two_parts k (e ∷ past) =
    let r = two_parts k past in
    let a = count_more (handles parts.Primary (record { 0 = k })) e past in
    let b = count_more (handles parts.Thread (record { 0 = k })) e past in
    let m = key_handled k e in
    omega (arith, r, a, b, m)

pub handled_past : (def : LineDef) (past : List Entry) → IsLegalPast def past → count_of answers_handled past ≤ count_of is_any_ask past + told_handled def
handled_past def past legal =
    let all = totals_by_two dev_key (λ e. one_if (answers_handled e)) past dev_key (λ e. one_if (is_any_ask e)) past word_key word_mark def.told each in
    let a = count_total answers_handled past in
    let b = count_total is_any_ask past in
    let c = count_total (λ (c : DevNo × Part × ToldAnswer). is_told_handled c.2) def.told in
    omega (arith, all, a, b, c)
  where
    each : (k : ℕ) → total_at dev_key (λ e. one_if (answers_handled e)) k past
        ≤ total_at dev_key (λ e. one_if (is_any_ask e)) k past + total_at word_key word_mark k def.told
    each k =
        let d : DevNo = record { 0 = k } in
        let t = two_parts k past in
        let f = by_kind def d past legal (kind_of def d) refl in
        let a = count_ext _ _ past (key_ask k) in
        let b = at_key dev_key past is_any_ask k in
        let w = words_in d def.told in
        omega (arith, t, f, a, b, w)
