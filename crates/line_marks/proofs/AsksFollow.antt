-- The counts of the asks, and what is quiet, follow the history.
use Rattle.std.proofs.Common.{◌≡◌, ℕ, ◌+◌, min, Bool, true, false, not, ◌||◌, ◌&&◌, cond, ltb, Option, Some, None, List}
use Rattle.std.proofs.Common.{[], ◌∷◌, refl, sym, ap, ap₂, ◌∙◌, arith}
use Rattle.irq_base.specs.declared.devices.Answer.{Answer}
use Rattle.irq_base.specs.declared.devices.Part.{Part}
use Rattle.irq_base.specs.declared.devices.Part.TheVariants as parts
use Rattle.irq_base.specs.declared.entries.Entry.{Entry}
use Rattle.irq_base.specs.declared.entries.Entry.TheVariants as by
use Rattle.irq_base.specs.declared.entries.CpuEntry.TheVariants as cpus
use Rattle.irq_base.specs.declared.entries.ThreadEntry.TheVariants as threads
use Rattle.irq_base.specs.declared.entries.DriverEntry.TheVariants as drivers
use Rattle.irq_base.specs.declared.entries.CallEntry.{CallEntry}
use Rattle.irq_base.specs.declared.entries.CallEntry.TheVariants as called_by
use Rattle.irq_base.specs.declared.lines.LineDef.{LineDef}
use Rattle.irq_base.specs.declared.numbers.CpuNo.{CpuNo}
use Rattle.irq_base.specs.declared.numbers.DriverNo.{DriverNo}
use Rattle.irq_base.specs.declared.numbers.DevNo.{DevNo}
use Rattle.irq_model.specs.Asks.{begins_run, returns_served, left_by_runs, since_served_run, serving, unserved_asks}
use Rattle.irq_model.specs.Kinds.{same_dev, is_ask, is_begin, is_thread_begin, is_serve, serves_this, quiets, arms, turns_off, turns_on}
use Rattle.irq_model.specs.Places.{since, before, count_of}
use Rattle.irq_model.specs.Runs.{is_that_part}
use Rattle.irq_model.specs.Valid.{IsValid}
use Rattle.irq_model.proofs.Same.{same_self, same_both}
use Rattle.device_table.specs.Rows.{change}
use Rattle.device_table.proofs.Tables.{same_table, change_any}
use Rattle.ask_counts.specs.Facts.{all_facts}
use Rattle.ask_counts.specs.declared.facts.DeviceFacts.{DeviceFacts}
use Rattle.ask_counts.specs.declared.rows.AskRow.{AskRow}
use Rattle.ask_counts.specs.Rows.{no_asks, asked, called, begun, served, emptied, turned_off, turned_on}
use Rattle.line_marks.proofs.FactsFixed.{facts_are}
use Rattle.line_marks.specs.Asks.{since_begun, fresh_asks, ask_row, asks_of, asks_after, asks_by_call}

-- ---- each count

abbrev counted : Bool → Bool → ℕ → ℕ
counted reset more n = cond reset 0 (cond more (n + 1) n)

count_since : (p q : Entry → Bool) (e : Entry) (past : List Entry) → count_of p (since q (e ∷ past)) ≡ counted (q e) (p e) (count_of p (since q past))
count_since p q e past = by_test (q e)
  where
    by_test : (b : Bool) → count_of p (cond b [] (e ∷ since q past)) ≡ counted b (p e) (count_of p (since q past))
    by_test true = refl
    by_test false = refl

-- the entry begins a run of the part that serves, or returns from one that served
abbrev pub begins_serving : Option Part → DevNo → Entry → Bool
begins_serving None d e = false
begins_serving (Some part) d e = begins_run part d e

abbrev pub ends_serving : Option Part → DevNo → Entry → Bool
ends_serving None d e = false
ends_serving (Some part) d e = returns_served part d e

abbrev asks_since_serve : DevNo → List Entry → ℕ
asks_since_serve d past = count_of (is_ask d) (since (is_serve d) past)

begun_more : (o : Option Part) (d : DevNo) (e : Entry) (past : List Entry)
    → since_begun o d (e ∷ past) ≡ counted (begins_serving o d e) (is_ask d e) (since_begun o d past)
begun_more None d e past = refl
begun_more (Some part) d e past = count_since (is_ask d) (begins_run part d) e past

left_more : (o : Option Part) (d : DevNo) (e : Entry) (past : List Entry)
    → left_by_runs o d (e ∷ past) ≡ cond (ends_serving o d e) (since_begun o d past)
    (cond (is_ask d e) (left_by_runs o d past + 1) (left_by_runs o d past))
left_more None d e past = refl
left_more (Some part) d e past = ap (λ n. n + count_of (is_ask d)
    (since (begins_run part d) (before (returns_served part d) (e ∷ past))))
    (count_since (is_ask d) (returns_served part d) e past) ∙ by_test (returns_served part d e) (is_ask d e)
  where
    E : Entry → Bool
    E = returns_served part d

    by_test : (b a : Bool) → counted b a (count_of (is_ask d) (since E past)) + count_of (is_ask d)
        (since (begins_run part d) (cond b past (before E past)))
        ≡ cond b (since_begun (Some part) d past) (cond a (since_served_run part d past + 1) (since_served_run part d past))
    by_test true a = omega arith
    by_test false true = omega arith
    by_test false false = refl

-- ---- the counts after one more entry, by its tests: it asks, begins or ends a run that serves, or
-- serves by a call; no two at once

fresh_by : (asks begins serves : Bool) (s f : ℕ) → (begins && asks) ≡ false → (serves && asks) ≡ false
    → min (counted serves asks s) (counted begins asks f) ≡ cond (serves || begins) 0 (cond asks (min s f + 1) (min s f))
fresh_by true true serves s f h i = cc
fresh_by true false true s f h i = cc
fresh_by true false false s f h i = omega arith
fresh_by false true true s f h i = omega arith
fresh_by false true false s f h i = omega arith
fresh_by false false true s f h i = omega arith
fresh_by false false false s f h i = refl

unserved_by : (asks ends serves : Bool) (s l f : ℕ) → (ends && asks) ≡ false → (serves && asks) ≡ false → (serves && ends) ≡ false
    → min (counted serves asks s) (cond ends f (cond asks (l + 1) l))
    ≡ cond serves 0 (cond ends (min s f) (cond asks (min s l + 1) (min s l)))
unserved_by true true serves s l f h i j = cc
unserved_by true false true s l f h i j = cc
unserved_by true false false s l f h i j = omega arith
unserved_by false true true s l f h i j = cc
unserved_by false true false s l f h i j = refl
unserved_by false false true s l f h i j = omega arith
unserved_by false false false s l f h i j = refl

-- the tests of an entry exclude one another
record Excludes (o : Option Part) (d : DevNo) (e : Entry) : Type 0 where
  begins_no_ask : (begins_serving o d e && is_ask d e) ≡ false
  ends_no_ask : (ends_serving o d e && is_ask d e) ≡ false
  serves_no_ask : (is_serve d e && is_ask d e) ≡ false
  serves_no_end : (is_serve d e && ends_serving o d e) ≡ false

no_more : (b : Bool) → (b && false) ≡ false
no_more true = refl
no_more false = refl

excludes : (o : Option Part) (d : DevNo) (e : Entry) → Excludes o d e
excludes None d (by.Driver r (drivers.Ask edge x)) = record { begins_no_ask = refl; ends_no_ask = refl; serves_no_ask = refl; serves_no_end = refl }
excludes (Some parts.Primary) d (by.Driver r (drivers.Ask edge x)) =
    record { begins_no_ask = refl; ends_no_ask = refl; serves_no_ask = refl; serves_no_end = refl }
excludes (Some parts.Thread) d (by.Driver r (drivers.Ask edge x)) =
    record { begins_no_ask = refl; ends_no_ask = refl; serves_no_ask = refl; serves_no_end = refl }
excludes o d (by.CpuCall c call) = record {
  begins_no_ask = no_more (begins_serving o d (by.CpuCall c call));
  ends_no_ask = no_more (ends_serving o d (by.CpuCall c call));
  serves_no_ask = no_more (serves_this d call);
  serves_no_end = none_ends o;
}
  where
    none_ends : (o : Option Part) → (serves_this d call && ends_serving o d (by.CpuCall c call)) ≡ false
    none_ends None = no_more (serves_this d call)
    none_ends (Some parts.Primary) = no_more (serves_this d call)
    none_ends (Some parts.Thread) = no_more (serves_this d call)
excludes o d (by.ThreadCall x call) = record {
  begins_no_ask = no_more (begins_serving o d (by.ThreadCall x call));
  ends_no_ask = no_more (ends_serving o d (by.ThreadCall x call));
  serves_no_ask = no_more (serves_this d call);
  serves_no_end = none_ends o;
}
  where
    none_ends : (o : Option Part) → (serves_this d call && ends_serving o d (by.ThreadCall x call)) ≡ false
    none_ends None = no_more (serves_this d call)
    none_ends (Some parts.Primary) = no_more (serves_this d call)
    none_ends (Some parts.Thread) = no_more (serves_this d call)
excludes o d (by.DriverCall r call) = record {
  begins_no_ask = no_more (begins_serving o d (by.DriverCall r call));
  ends_no_ask = no_more (ends_serving o d (by.DriverCall r call));
  serves_no_ask = no_more (serves_this d call);
  serves_no_end = none_ends o;
}
  where
    none_ends : (o : Option Part) → (serves_this d call && ends_serving o d (by.DriverCall r call)) ≡ false
    none_ends None = no_more (serves_this d call)
    none_ends (Some parts.Primary) = no_more (serves_this d call)
    none_ends (Some parts.Thread) = no_more (serves_this d call)
excludes o d e = record {
  begins_no_ask = no_more (begins_serving o d e);
  ends_no_ask = no_more (ends_serving o d e);
  serves_no_ask = refl;
  serves_no_end = refl;
}

pub fresh_more : (def : LineDef) (d : DevNo) (e : Entry) (past : List Entry)
    → fresh_asks def d (e ∷ past) ≡ cond (is_serve d e || begins_serving (serving def d) d e) 0
    (cond (is_ask d e) (fresh_asks def d past + 1) (fresh_asks def d past))
fresh_more def d e past =
    let o = serving def d in
    let x = excludes o d e in
    ap₂ (λ (a b : ℕ). min a b) (count_since (is_ask d) (is_serve d) e past) (begun_more o d e past)
    ∙ fresh_by (is_ask d e) (begins_serving o d e) (is_serve d e) (asks_since_serve d past) (since_begun o d past) x.begins_no_ask x.serves_no_ask

pub unserved_more : (def : LineDef) (d : DevNo) (e : Entry) (past : List Entry)
    → unserved_asks def d (e ∷ past) ≡ cond (is_serve d e) 0 (cond (ends_serving (serving def d) d e) (fresh_asks def d past)
    (cond (is_ask d e) (unserved_asks def d past + 1) (unserved_asks def d past)))
unserved_more def d e past =
    let o = serving def d in
    let x = excludes o d e in
    ap₂ (λ (a b : ℕ). min a b) (count_since (is_ask d) (is_serve d) e past) (left_more o d e past)
    ∙ unserved_by (is_ask d e) (ends_serving o d e) (is_serve d e) (asks_since_serve d past) (left_by_runs o d past) (since_begun o d past)
    x.ends_no_ask x.serves_no_ask x.serves_no_end

met_more : (def : LineDef) (d : DevNo) (p : Entry → Bool) (e : Entry) (past : List Entry)
    → unserved_asks def d (before p (e ∷ past)) ≡ cond (p e) (unserved_asks def d past) (unserved_asks def d (before p past))
met_more def d p e past = by_test (p e)
  where
    by_test : (b : Bool) → unserved_asks def d (cond b past (before p past)) ≡ cond b (unserved_asks def d past) (unserved_asks def d (before p past))
    by_test true = refl
    by_test false = refl

-- ---- the row after one more entry, by the tests

abbrev by_tests : Bool → Bool → Bool → Bool → Bool → Bool → Bool → Bool → AskRow → AskRow
by_tests asks begins ends serves calls runs off on r = record {
  unserved = cond serves 0 (cond ends r.fresh (cond asks (r.unserved + 1) r.unserved));
  fresh = cond (serves || begins) 0 (cond asks (r.fresh + 1) r.fresh);
  met_by_handler = cond calls r.unserved r.met_by_handler;
  met_by_thread = cond runs r.unserved r.met_by_thread;
  quiet = off || (not on && r.quiet);
}

same_row : (a b : AskRow) → a.unserved ≡ b.unserved → a.fresh ≡ b.fresh → a.met_by_handler ≡ b.met_by_handler → a.met_by_thread ≡ b.met_by_thread
    → a.quiet ≡ b.quiet → a ≡ b
same_row a b h i j k l =
    (let e : ◌≡◌ {A = AskRow} (record {
      unserved = a.unserved;
      fresh = a.fresh;
      met_by_handler = a.met_by_handler;
      met_by_thread = a.met_by_thread;
      quiet = a.quiet;
    }) b = rw (h, i, j, k, l) refl in e)

row_more : (def : LineDef) (e : Entry) (past : List Entry) (d : DevNo)
    → ask_row def (e ∷ past) d ≡ by_tests (is_ask d e) (begins_serving (serving def d) d e)
    (ends_serving (serving def d) d e) (is_serve d e) (is_begin d e) (is_thread_begin d e) (turns_off d e) (turns_on d e) (ask_row def past d)
row_more def e past d =
    let o = serving def d in
    same_row (ask_row def (e ∷ past) d) (by_tests (is_ask d e) (begins_serving o d e) (ends_serving o d e) (is_serve d e)
    (is_begin d e) (is_thread_begin d e) (turns_off d e) (turns_on d e) (ask_row def past d))
    (unserved_more def d e past) (fresh_more def d e past) (met_more def d (is_begin d) e past) (met_more def d (is_thread_begin d) e past) refl

-- when no test passes
no_test : (o : Option Part) (d : DevNo) (e : Entry) → is_ask d e ≡ false → begins_serving o d e ≡ false
    → ends_serving o d e ≡ false → is_serve d e ≡ false → is_begin d e ≡ false → is_thread_begin d e ≡ false
    → turns_off d e ≡ false → turns_on d e ≡ false → (r : AskRow)
    → by_tests (is_ask d e) (begins_serving o d e) (ends_serving o d e) (is_serve d e) (is_begin d e) (is_thread_begin d e)
    (turns_off d e) (turns_on d e) r ≡ r
no_test o d e a b c s f g q u r = rw (a, b, c, s, f, g, q, u) refl

-- an entry that is none of a serving
serves_not : (o : Option Part) (d : DevNo) (e : Entry) → is_begin d e ≡ false → is_thread_begin d e ≡ false → begins_serving o d e ≡ false
serves_not None d e a b = refl
serves_not (Some parts.Primary) d e a b = a
serves_not (Some parts.Thread) d e a b = b

ends_not : (o : Option Part) (d : DevNo) (e : Entry) → returns_served parts.Primary d e ≡ false → returns_served parts.Thread d e ≡ false
    → ends_serving o d e ≡ false
ends_not None d e a b = refl
ends_not (Some parts.Primary) d e a b = a
ends_not (Some parts.Thread) d e a b = b

record IsOther (d : DevNo) (e : Entry) : Type 0 where
  asks : is_ask d e ≡ false
  serves : is_serve d e ≡ false
  calls : is_begin d e ≡ false
  runs : is_thread_begin d e ≡ false
  returns : returns_served parts.Primary d e ≡ false
  ends : returns_served parts.Thread d e ≡ false
  off : turns_off d e ≡ false
  on : turns_on d e ≡ false

row_same : (def : LineDef) (e : Entry) (past : List Entry) (d : DevNo) → IsOther d e → ask_row def (e ∷ past) d ≡ ask_row def past d
row_same def e past d h =
    let o = serving def d in
    row_more def e past d ∙ no_test o d e h.asks (serves_not o d e h.calls h.runs) (ends_not o d e h.returns h.ends) h.serves h.calls h.runs
    h.off h.on (ask_row def past d)

-- the entry of x, by its tests
own : (def : LineDef) (e : Entry) (past : List Entry) (x : DevNo) (h : AskRow → AskRow)
    → by_tests (is_ask x e) (begins_serving (serving def x) x e) (ends_serving (serving def x) x e) (is_serve x e) (is_begin x e)
    (is_thread_begin x e) (turns_off x e) (turns_on x e) (ask_row def past x) ≡ h (ask_row def past x)
    → ((d : DevNo) → same_dev d x ≡ false → IsOther d e) → IsValid def → asks_of def (e ∷ past) ≡ change h (asks_of def past) x
own def e past x h here apart valid =
    change_any (ask_row def past) (ask_row def (e ∷ past)) h def.devices x valid.distinct (row_more def e past x ∙ here)
    (λ d other. row_same def e past d (apart d (same_both d x ∙ other)))

quiet : (def : LineDef) (e : Entry) (past : List Entry) → ((d : DevNo) → IsOther d e) → asks_of def (e ∷ past) ≡ asks_of def past
quiet def e past h = same_table (ask_row def past) (ask_row def (e ∷ past)) def.devices (λ d. row_same def e past d (h d))

none : (d : DevNo) (e : Entry) → is_ask d e ≡ false → is_serve d e ≡ false → is_begin d e ≡ false → is_thread_begin d e ≡ false
    → returns_served parts.Primary d e ≡ false → returns_served parts.Thread d e ≡ false → turns_off d e ≡ false → turns_on d e ≡ false → IsOther d e
none d e a s c r p t f o = record { asks = a; serves = s; calls = c; runs = r; returns = p; ends = t; off = f; on = o }

-- ---- runs, by the part that serves

called_is : (o : Option Part) (x : DevNo) (c : CpuNo) (r : AskRow)
    → by_tests false (begins_serving o x (by.Cpu c (cpus.Begin x))) (ends_serving o x (by.Cpu c (cpus.Begin x))) false
    (is_begin x (by.Cpu c (cpus.Begin x))) false false false r ≡ called (is_that_part parts.Primary o) r
called_is None x c r = rw (same_self x) refl
called_is (Some parts.Primary) x c r = rw (same_self x) refl
called_is (Some parts.Thread) x c r = rw (same_self x) refl

returned_is : (o : Option Part) (x : DevNo) (c : CpuNo) (a : Answer) (n : ℕ) (r : AskRow)
    → by_tests false (begins_serving o x (by.Cpu c (cpus.Return a x n))) (ends_serving o x (by.Cpu c (cpus.Return a x n))) false false
    false false false r ≡ served (is_that_part parts.Primary o && ltb 0 n) r
returned_is None x c a n r = refl
returned_is (Some parts.Primary) x c a n r = rw (same_self x) refl
returned_is (Some parts.Thread) x c a n r = refl

begun_is : (o : Option Part) (x : DevNo) (r : AskRow) → by_tests false (begins_serving o x (by.Thread x threads.Begin))
    (ends_serving o x (by.Thread x threads.Begin)) false false (is_thread_begin x (by.Thread x threads.Begin)) false false r
    ≡ begun (is_that_part parts.Thread o) r
begun_is None x r = rw (same_self x) refl
begun_is (Some parts.Primary) x r = rw (same_self x) refl
begun_is (Some parts.Thread) x r = rw (same_self x) refl

run_is : (o : Option Part) (x : DevNo) (handled : Bool) (n : ℕ) (r : AskRow)
    → by_tests false (begins_serving o x (by.Thread x (threads.Return handled n)))
    (ends_serving o x (by.Thread x (threads.Return handled n))) false false false false false r ≡ served (is_that_part parts.Thread o && ltb 0 n) r
run_is None x handled n r = refl
run_is (Some parts.Primary) x handled n r = refl
run_is (Some parts.Thread) x handled n r = rw (same_self x) refl

asked_is : (o : Option Part) (x : DevNo) (w : DriverNo) (edge : Bool) (r : AskRow)
    → by_tests (is_ask x (by.Driver w (drivers.Ask edge x))) (begins_serving o x (by.Driver w (drivers.Ask edge x)))
    (ends_serving o x (by.Driver w (drivers.Ask edge x))) false false false false false r ≡ asked r
asked_is None x w edge r = rw (same_self x) refl
asked_is (Some parts.Primary) x w edge r = rw (same_self x) refl
asked_is (Some parts.Thread) x w edge r = rw (same_self x) refl

-- ---- calls, whoever makes them

abbrev by_call : DevNo → CallEntry → AskRow → AskRow
by_call d call r = by_tests false false false (serves_this d call) false false (quiets d call) (arms d call) r

-- the entry is the step of a call
record IsCall (call : CallEntry) (e : Entry) : Type 0 where
  asks : (d : DevNo) → is_ask d e ≡ false
  calls : (d : DevNo) → is_begin d e ≡ false
  runs : (d : DevNo) → is_thread_begin d e ≡ false
  returns : (d : DevNo) → returns_served parts.Primary d e ≡ false
  ends : (d : DevNo) → returns_served parts.Thread d e ≡ false
  serves : (d : DevNo) → is_serve d e ≡ serves_this d call
  off : (d : DevNo) → turns_off d e ≡ quiets d call
  on : (d : DevNo) → turns_on d e ≡ arms d call

call_is : (o : Option Part) (d : DevNo) (call : CallEntry) (e : Entry) (r : AskRow) → IsCall call e
    → by_tests (is_ask d e) (begins_serving o d e) (ends_serving o d e) (is_serve d e) (is_begin d e) (is_thread_begin d e)
    (turns_off d e) (turns_on d e) r ≡ by_call d call r
call_is o d call e r k = rw (
  k.asks d,
  serves_not o d e (k.calls d) (k.runs d),
  ends_not o d e (k.returns d) (k.ends d),
  k.serves d,
  k.calls d,
  k.runs d,
  k.off d,
  k.on d,
) refl

own_call : (def : LineDef) (call : CallEntry) (e : Entry) (past : List Entry) (x : DevNo) (h : AskRow → AskRow) → IsCall call e
    → by_call x call (ask_row def past x) ≡ h (ask_row def past x)
    → ((d : DevNo) → same_dev d x ≡ false → (serves_this d call ≡ false) × (quiets d call ≡ false) × (arms d call ≡ false))
    → IsValid def → asks_of def (e ∷ past) ≡ change h (asks_of def past) x
own_call def call e past x h k here apart valid =
    own def e past x h (call_is (serving def x) x call e (ask_row def past x) k ∙ here)
    (λ d other. let a = apart d other in
    none d e (k.asks d) (k.serves d ∙ a.0) (k.calls d) (k.runs d) (k.returns d) (k.ends d) (k.off d ∙ a.1) (k.on d ∙ a.2)) valid

quiet_call : (def : LineDef) (call : CallEntry) (e : Entry) (past : List Entry) → IsCall call e
    → ((d : DevNo) → (serves_this d call ≡ false) × (quiets d call ≡ false) × (arms d call ≡ false)) → asks_of def (e ∷ past) ≡ asks_of def past
quiet_call def call e past k h = quiet def e past (λ d. let a = h d in
    none d e (k.asks d) (k.serves d ∙ a.0) (k.calls d) (k.runs d) (k.returns d) (k.ends d) (k.off d ∙ a.1) (k.on d ∙ a.2))

call_more : (def : LineDef) (call : CallEntry) (e : Entry) (past : List Entry) → IsCall call e → IsValid def
    → asks_of def (e ∷ past) ≡ asks_by_call call (asks_of def past)
call_more def (called_by.Serve x n) e past k valid = own_call def (called_by.Serve x n) e past x emptied k
    (rw (same_self x) refl) (λ d other. (other, refl, refl)) valid
call_more def (called_by.Quiet x) e past k valid = own_call def (called_by.Quiet x) e past x turned_off k
    (rw (same_self x) refl) (λ d other. (refl, other, refl)) valid
call_more def (called_by.Arm edge x) e past k valid =
    own_call def (called_by.Arm edge x) e past x turned_on k (rw (same_self x) refl) (λ d other. (refl, refl, other)) valid
call_more def call e past k valid = quiet_call def call e past k (λ d. (refl, refl, refl))

by_cpu : (c : CpuNo) (call : CallEntry) → IsCall call (by.CpuCall c call)
by_cpu c call = record {
  asks = λ d. refl;
  calls = λ d. refl;
  runs = λ d. refl;
  returns = λ d. refl;
  ends = λ d. refl;
  serves = λ d. refl;
  off = λ d. refl;
  on = λ d. refl;
}

by_thread : (x : DevNo) (call : CallEntry) → IsCall call (by.ThreadCall x call)
by_thread x call = record {
  asks = λ d. refl;
  calls = λ d. refl;
  runs = λ d. refl;
  returns = λ d. refl;
  ends = λ d. refl;
  serves = λ d. refl;
  off = λ d. refl;
  on = λ d. refl;
}

by_driver : (r : DriverNo) (call : CallEntry) → IsCall call (by.DriverCall r call)
by_driver r call = record {
  asks = λ d. refl;
  calls = λ d. refl;
  runs = λ d. refl;
  returns = λ d. refl;
  ends = λ d. refl;
  serves = λ d. refl;
  off = λ d. refl;
  on = λ d. refl;
}

-- ---- all of it

unserving : (b : Bool) (n : Bool) → b ≡ false → (b && n) ≡ false
unserving true n h = cc
unserving false n h = refl

pub asks_more : (def : LineDef) (e : Entry) (past : List Entry) → IsValid def → asks_of def (e ∷ past) ≡ asks_after (all_facts def) e (asks_of def past)
asks_more def (by.Driver w (drivers.Ask edge x)) past valid = own def (by.Driver w (drivers.Ask edge x)) past x asked
    (asked_is (serving def x) x w edge (ask_row def past x))
    (λ d other. none d (by.Driver w (drivers.Ask edge x)) other refl refl refl refl refl refl refl) valid
asks_more def (by.Cpu c (cpus.Begin x)) past valid = own def (by.Cpu c (cpus.Begin x)) past x (called (is_that_part parts.Primary (serving def x)))
    (called_is (serving def x) x c (ask_row def past x)) (λ d other. none d (by.Cpu c (cpus.Begin x)) refl refl other refl refl refl refl refl) valid
    ∙ ap (λ (f : DeviceFacts). change (called (is_that_part parts.Primary f.serving)) (asks_of def past) x) (sym (facts_are def x))
asks_more def (by.Cpu c (cpus.Return a x n)) past valid = own def (by.Cpu c (cpus.Return a x n)) past x
    (served (is_that_part parts.Primary (serving def x) && ltb 0 n)) (returned_is (serving def x) x c a n (ask_row def past x))
    (λ d other. none d (by.Cpu c (cpus.Return a x n)) refl refl refl refl (unserving (same_dev d x) (ltb 0 n) other) refl refl refl) valid
    ∙ ap (λ (f : DeviceFacts). change (served (is_that_part parts.Primary f.serving && ltb 0 n)) (asks_of def past) x) (sym (facts_are def x))
asks_more def (by.Thread x threads.Begin) past valid = own def (by.Thread x threads.Begin) past x
    (begun (is_that_part parts.Thread (serving def x))) (begun_is (serving def x) x (ask_row def past x))
    (λ d other. none d (by.Thread x threads.Begin) refl refl refl other refl refl refl refl) valid
    ∙ ap (λ (f : DeviceFacts). change (begun (is_that_part parts.Thread f.serving)) (asks_of def past) x) (sym (facts_are def x))
asks_more def (by.Thread x (threads.Return handled n)) past valid = own def (by.Thread x (threads.Return handled n)) past x
    (served (is_that_part parts.Thread (serving def x) && ltb 0 n)) (run_is (serving def x) x handled n (ask_row def past x))
    (λ d other. none d (by.Thread x (threads.Return handled n)) refl refl refl refl refl (unserving (same_dev d x) (ltb 0 n) other) refl refl) valid
    ∙ ap (λ (f : DeviceFacts). change (served (is_that_part parts.Thread f.serving && ltb 0 n)) (asks_of def past) x) (sym (facts_are def x))
asks_more def (by.CpuCall c call) past valid = call_more def call (by.CpuCall c call) past (by_cpu c call) valid
asks_more def (by.ThreadCall x call) past valid = call_more def call (by.ThreadCall x call) past (by_thread x call) valid
asks_more def (by.DriverCall r call) past valid = call_more def call (by.DriverCall r call) past (by_driver r call) valid
asks_more def e past valid = quiet def e past (λ d. none d e refl refl refl refl refl refl refl refl)

-- nothing was asked yet
pub asks_first : (def : LineDef) (d : DevNo) → ask_row def [] d ≡ no_asks
asks_first def d =
    let none : unserved_asks def d [] ≡ 0 = nothing (left_by_runs (serving def d) d []) in
    same_row (ask_row def [] d) no_asks none (nothing (since_begun (serving def d) d [])) none none refl
  where
    nothing : (n : ℕ) → min 0 n ≡ 0
    nothing n = omega arith
