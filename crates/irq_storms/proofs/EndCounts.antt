-- The ends that were judged handled, deferred, or nothing.
use Rattle.std.proofs.Common.{◌≡◌, ℕ, ◌+◌, ◌-◌, ◌*◌, ◌<◌, ◌≤◌, ◌==◌, Bool, true, false, not, ◌||◌, ◌&&◌, cond, nat_lt}
use Rattle.std.proofs.Common.{List, [], ◌∷◌, refl, sym, ap, ◌∙◌, arith, le-ltb}
use Rattle.std.proofs.Math.Nat.{mul-add, mul-one, mul_comm, mul_assoc, mul-le-mul_left}
use Rattle.std.proofs.lemmas.Bool.{false_from_ne_true}
use Rattle.irq_base.specs.declared.numbers.CpuNo.{CpuNo}
use Rattle.irq_base.specs.declared.lines.LineDef.{LineDef}
use Rattle.irq_base.specs.declared.entries.Entry.{Entry}
use Rattle.irq_base.specs.declared.entries.Entry.TheVariants as by
use Rattle.irq_base.specs.declared.entries.CpuEntry.TheVariants as cpus
use Rattle.irq_base.specs.declared.entries.ThreadEntry.TheVariants as threads
use Rattle.irq_base.specs.declared.entries.DriverEntry.TheVariants as drivers
use Rattle.irq_base.specs.declared.entries.TakeAnswer.TheVariants as takes
use Rattle.irq_base.specs.declared.entries.LinkAnswer.TheVariants as links
use Rattle.irq_base.specs.declared.entries.Note.{Note}
use Rattle.irq_base.specs.declared.entries.Note.TheVariants as notes
use Rattle.std.proofs.Common.{is_some, Some}
use Rattle.std.specs.List.{list_any}
use Rattle.irq_model.specs.Places.{stands, since, last_of, count_of}
use Rattle.irq_model.specs.Kinds.{is_handled, is_handle, returns_handled, is_kill, is_start, is_linked_request}
use Rattle.irq_model.specs.Lines.{is_eoi_flow}
use Rattle.irq_model.specs.Rounds.{closes, begins_round, cpu_of_handle, flow, has_flow}
use Rattle.irq_model.specs.Spurious.{Counts, now, round_wakes, round_handles, noted_end, counts_of}
use Rattle.irq_model.specs.Legal.{IsDue, IsLegalPast}
use Rattle.irq_model.specs.Valid.{IsValid}
use Rattle.irq_laws.proofs.Lists.{both_ways}
use Rattle.irq_laws.proofs.ImpliesFlow.{end_due, has_a_flow}
use Rattle.irq_storms.specs.Tests.{is_end, answers_handled, is_moment, is_renewal}
use Rattle.irq_storms.specs.Judged.{one_if, count_where, judgement, is_handled_judgement, is_nothing_judgement}
use Rattle.irq_storms.specs.Judged.{ends_handled, ends_nothing, ends_deferred, ends_clearing, handled_ends}
use Rattle.irq_storms.specs.Judged.{nothing_ends, deferred_ends, clearing_ends, breaks, serving_marks, is_late, allowance, renews, renewals}
use Rattle.irq_storms.specs.Judged.{allowed}
use Rattle.irq_storms.proofs.Counting.{mark_most, count_more}
use Rattle.irq_storms.proofs.RunCounts.{flow_stays}
use Rattle.irq_storms.proofs.KillCounts.{shut_past}
use Rattle.irq_storms.proofs.WindowRule.{is_killed, room_after, allowed_most, EndFacts, end_facts}

-- ---- counts that look at what stands before

pub where_more : (p : Entry → List Entry → Bool) (e : Entry) (past : List Entry) → count_where p (e ∷ past) ≡ count_where p past + one_if (p e past)
where_more p e past = by_test (p e past) (count_where p past)
  where
    by_test : (b : Bool) (n : ℕ) → cond b (n + 1) n ≡ n + cond b 1 0
    by_test true n = refl
    by_test false n = omega arith

where_of : (p : Entry → Bool) (past : List Entry) → count_where (λ e past. p e) past ≡ count_of p past
where_of p [] = refl
where_of p (e ∷ past) = let a = where_more (λ e past. p e) e past in let b = count_more p e past in let r = where_of p past in omega (arith, a, b, r)

abbrev StaysWithin : (Entry → List Entry → Bool) → (Entry → List Entry → Bool) → (List Entry → ℕ) → (List Entry → ℕ) → Entry → List Entry → Type 0
StaysWithin p q m k e past = one_if (p e past) + m (e ∷ past) + k past ≤ m past + k (e ∷ past) + one_if (q e past)

runs_within : (def : LineDef) (p q : Entry → List Entry → Bool) (m k : List Entry → ℕ) → m [] ≡ 0
    → ((e : Entry) (past : List Entry) → IsLegalPast def past → IsDue def e past → StaysWithin p q m k e past)
    → (past : List Entry) → IsLegalPast def past → count_where p past + m past ≤ count_where q past + k past
runs_within def p q m k none step [] legal = omega (arith, none)
runs_within def p q m k none step (e ∷ past) legal =
    summed _ _ _ _ _ _ _ _ _ _ (where_more p e past) (where_more q e past) (runs_within def p q m k none step past legal.1) (step e past legal.1 legal.0)
  where
    summed : (p' q' a b x y m k m' k' : ℕ) → p' ≡ a + x → q' ≡ b + y → a + m ≤ b + k → x + m' + k ≤ m + k' + y → p' + m' ≤ q' + k'
    summed p' q' a b x y m k m' k' h i j l = omega (arith, h, i, j, l)

-- ---- the end that is due

facts_of : (def : LineDef) (past : List Entry) → EndFacts def.window def.limit (now past) (round_wakes def past)
    (round_handles def past) (counts_of def past) (noted_end def past (counts_of def past)) (judgement def past)
facts_of def past = end_facts def.window def.limit (now past) (round_wakes def past) (round_handles def past) (counts_of def past)

-- ---- the ends judged handled

abbrev HandledMore : LineDef → Entry → List Entry → Type 0
HandledMore def e past = StaysWithin (ends_handled def) (λ e past. answers_handled e) (serving_marks def) (λ past. 0) e past

-- an entry that leaves the flow, the round and the threads as they were
quiet_marks : (f f' r : Bool) (t : ℕ) → f' ≡ f → 0 + (one_if (f' && r) + t) + 0 ≤ (one_if (f && r) + t) + 0 + 0
quiet_marks f f' r t same = rw same (omega arith)

idle_marks : (f f' r : Bool) (t n : ℕ) → f' ≡ f → 0 + (one_if (f' && r) + t) + 0 ≤ (one_if (f && r) + t) + 0 + n
idle_marks f f' r t n same = rw same (omega arith)

return_marks : (f f' r a : Bool) (t : ℕ) → f' ≡ f → 0 + (one_if (f' && (a || r)) + t) + 0 ≤ (one_if (f && r) + t) + 0 + one_if a
return_marks f f' r a t same = rw same (by_tests f a)
  where
    by_tests : (f a : Bool) → 0 + (one_if (f && (a || r)) + t) + 0 ≤ (one_if (f && r) + t) + 0 + one_if a
    by_tests true true = omega arith
    by_tests true false = omega arith
    by_tests false a = omega arith

-- an end closes the flow, or begins a round
end_marks : (def : LineDef) (c : CpuNo) (again unmask : Bool) (note : Note) (past : List Entry)
    → one_if (has_flow def (by.Cpu c (cpus.End again unmask note) ∷ past) && round_handles def (by.Cpu c (cpus.End again unmask note) ∷ past)) ≡ 0
end_marks def c false unmask note past = refl
end_marks def c true unmask note past = by_flow (is_eoi_flow def.flow)
  where
    none : (a : Bool) → one_if (a && false) ≡ 0
    none true = refl
    none false = refl

    by_flow : (b : Bool) → one_if (is_some (cpu_of_handle (cond (false || (false || (b && true)))
        (Some (by.Cpu c (cpus.End true unmask note))) (last_of (λ e. is_handle e || closes def e) past)))
        && list_any returns_handled (cond (false || (true && not b)) [] (by.Cpu c (cpus.End true unmask note) ∷ since (begins_round def) past))) ≡ 0
    by_flow true = refl
    by_flow false = none (has_flow def past)

handled_more : (def : LineDef) (e : Entry) (past : List Entry) → IsDue def e past → HandledMore def e past
handled_more def (by.Cpu c (cpus.End again unmask note)) past due =
    let e = by.Cpu c (cpus.End again unmask note) in
    let f = facts_of def past in
    let m = f.marks in
    let after = end_marks def c again unmask note past in
    let was : one_if (has_flow def past && round_handles def past)
    ≡ one_if (round_handles def past) = some _ _ (has_a_flow c (flow def past)
    (end_due def c again unmask note past due).of_flow) in
    omega (arith, m, after, was)
  where
    some : (a b : Bool) → a ≡ true → one_if (a && b) ≡ one_if b
    some a b h = grind arith
handled_more def (by.Thread x (threads.Return handled served)) past due
    = by_answer handled (flow_stays def (by.Thread x (threads.Return handled served)) past refl refl refl)
  where
    by_answer : (b : Bool) → has_flow def (by.Thread x (threads.Return handled served) ∷ past) ≡ has_flow def past
        → 0 + (one_if (has_flow def (by.Thread x (threads.Return handled served) ∷ past) && round_handles def past) + one_if
        (not ((cond b (record (counts_of def past) { threads_handled = (counts_of def past).threads_handled + 1 })
        (counts_of def past)).threads_handled == (cond b
        (record (counts_of def past) { threads_handled = (counts_of def past).threads_handled + 1 })
        (counts_of def past)).last))) + 0
        ≤ serving_marks def past + 0 + one_if b
    by_answer true same =
        let m = mark_most (not ((counts_of def past).threads_handled + 1 == (counts_of def past).last)) in
        let s : one_if (has_flow def (by.Thread x (threads.Return handled served) ∷ past) && round_handles def past)
        ≡ one_if (has_flow def past && round_handles def past)
        = ap (λ (f : Bool). one_if (f && round_handles def past)) same in
        omega (arith, m, s)
    by_answer false same = idle_marks _ _ _ _ _ same
handled_more def (by.Cpu c (cpus.Return answer x served)) past due =
    return_marks (has_flow def past) (has_flow def (by.Cpu c (cpus.Return answer x served) ∷ past)) (round_handles def past)
    (is_handled answer) _ (flow_stays def (by.Cpu c (cpus.Return answer x served)) past refl refl refl)
handled_more def (by.Cpu c (cpus.Take way takes.Handle)) past due = omega arith
handled_more def (by.Cpu c (cpus.Take way takes.Busy)) past due
    = quiet_marks _ _ _ _ (flow_stays def (by.Cpu c (cpus.Take way takes.Busy)) past refl refl refl)
handled_more def (by.Cpu c (cpus.Take way takes.Off)) past due
    = quiet_marks _ _ _ _ (flow_stays def (by.Cpu c (cpus.Take way takes.Off)) past refl refl refl)
handled_more def (by.Driver s (drivers.Request flags links.Linked opened x)) past due
    = quiet_marks _ _ _ _ (flow_stays def (by.Driver s (drivers.Request flags links.Linked opened x)) past refl refl refl)
handled_more def (by.Driver s (drivers.Request flags (links.Refused error) opened x)) past due
    = quiet_marks _ _ _ _ (flow_stays def (by.Driver s (drivers.Request flags (links.Refused error) opened x)) past refl refl refl)
handled_more def e past due = quiet_marks _ _ _ _ (flow_stays def e past refl refl refl)

pub handled_past : (def : LineDef) (past : List Entry) → IsLegalPast def past
    → handled_ends def past + serving_marks def past ≤ count_of answers_handled past
handled_past def past legal =
    let r = runs_within def (ends_handled def) (λ e past. answers_handled e) (serving_marks def) (λ past. 0) refl
    (λ e past legal due. handled_more def e past due) past legal in
    let w = where_of answers_handled past in
    omega (arith, r, w)

-- ---- the deferred ends

abbrev DeferredMore : LineDef → Entry → List Entry → Type 0
DeferredMore def e past = StaysWithin (ends_deferred def) (ends_clearing def) (λ past. 0) (λ past. one_if (counts_of def past).deferred) e past

deferred_more : (def : LineDef) (e : Entry) (past : List Entry) → DeferredMore def e past
deferred_more def (by.Cpu c (cpus.End again unmask note)) past = let d = (facts_of def past).deferred in omega (arith, d)
deferred_more def (by.Thread x (threads.Return handled served)) past = by_answer handled
  where
    by_answer : (b : Bool) → 0 + 0 + one_if (counts_of def past).deferred ≤ 0 + one_if
        (cond b (record (counts_of def past) { threads_handled = (counts_of def past).threads_handled + 1 })
        (counts_of def past)).deferred + 0
    by_answer true = omega arith
    by_answer false = omega arith
deferred_more def (by.Driver s (drivers.Request flags links.Linked opened x)) past = omega arith
deferred_more def (by.Driver s (drivers.Request flags (links.Refused error) opened x)) past = omega arith
deferred_more def e past = omega arith

pub deferred_past : (def : LineDef) (past : List Entry) → IsLegalPast def past
    → deferred_ends def past ≤ clearing_ends def past + one_if (counts_of def past).deferred
deferred_past def past legal =
    let r = runs_within def (ends_deferred def) (ends_clearing def) (λ past. 0)
    (λ past. one_if (counts_of def past).deferred) refl (λ e past legal due. deferred_more def e past) past legal in
    omega (arith, r)

-- an end that gives the mark up is judged handled
clears_handled : (e : Bool) (c j : Bool) → one_if c ≤ one_if j → one_if (e && c) ≤ one_if (e && j)
clears_handled true c j h = h
clears_handled false c j h = omega arith

pub clearing_past : (def : LineDef) (past : List Entry) → clearing_ends def past ≤ handled_ends def past
clearing_past def [] = omega arith
clearing_past def (e ∷ past) =
    let a = where_more (ends_clearing def) e past in
    let b = where_more (ends_handled def) e past in
    let r = clearing_past def past in
    let m = clears_handled (is_end e) (round_wakes def past && round_handles def past) (is_handled_judgement (judgement def past)) (facts_of def past).clears in
    omega (arith, a, b, r, m)

-- ---- the ends judged nothing

-- the count of the window is below it
small_more : (def : LineDef) (e : Entry) (past : List Entry) → 0 < def.window
    → (counts_of def past).irq_count < def.window → (counts_of def (e ∷ past)).irq_count < def.window
small_more def (by.Cpu c (cpus.End again unmask note)) past some small = (facts_of def past).small small
small_more def (by.Thread x (threads.Return handled served)) past some small = by_answer handled
  where
    by_answer : (b : Bool) → (cond b (record (counts_of def past)
        { threads_handled = (counts_of def past).threads_handled + 1 }) (counts_of def past)).irq_count < def.window
    by_answer true = small
    by_answer false = small
small_more def (by.Driver s (drivers.Request flags links.Linked opened x)) past some small = some
small_more def (by.Driver s (drivers.Request flags (links.Refused error) opened x)) past some small = small
small_more def e past some small = small

small_past : (def : LineDef) (past : List Entry) → 0 < def.window → (counts_of def past).irq_count < def.window
small_past def [] some = some
small_past def (e ∷ past) some = small_more def e past some (small_past def past some)

-- ---- a line that was killed has an empty window

abbrev IsEmpty : Counts → Type 0
IsEmpty c = (c.irq_count ≡ 0) × (c.irqs_unhandled ≡ 0)

kill_note : (c : CpuNo) (again unmask : Bool) (note : Note) → is_kill (by.Cpu c (cpus.End again unmask note)) ≡ is_killed note
kill_note c again unmask notes.Killed = refl
kill_note c again unmask notes.Quiet = refl
kill_note c again unmask notes.Counted = refl

-- the line isn't shut while a flow is in progress
in_flow_open : (def : LineDef) (past : List Entry) → IsValid def → IsLegalPast def past
    → has_flow def past ≡ true → stands is_kill is_start past ≡ false
in_flow_open def past valid legal f = false_from_ne_true (stands is_kill is_start past)
    (λ shut. both_ways (has_flow def past) f (shut_past def past valid legal shut).no_flow)

behind_other : (k s x : Bool) → k ≡ false → (k || (not s && x)) ≡ true → x ≡ true
behind_other k s x h i = grind arith

empty_more : (def : LineDef) (e : Entry) (past : List Entry) → IsValid def → IsLegalPast def (e ∷ past)
    → stands is_kill is_start (e ∷ past) ≡ true → (stands is_kill is_start past ≡ true → IsEmpty (counts_of def past)) → IsEmpty (counts_of def (e ∷ past))
empty_more def (by.Cpu c (cpus.End again unmask note)) past valid legal h was =
    let u = end_due def c again unmask note past legal.0 in
    let open_now = in_flow_open def past valid legal.1 (has_a_flow c (flow def past) u.of_flow) in
    (facts_of def past).empties (sym (kill_note c again unmask note ∙ ap is_killed u.note_is) ∙ kills _ _ h open_now)
  where
    kills : (k x : Bool) → (k || (true && x)) ≡ true → x ≡ false → k ≡ true
    kills k x h i = grind arith
empty_more def (by.Thread x (threads.Return handled served)) past valid legal h was = by_answer handled (was h)
  where
    by_answer : (b : Bool) → IsEmpty (counts_of def past)
        → IsEmpty (cond b (record (counts_of def past) { threads_handled = (counts_of def past).threads_handled + 1 }) (counts_of def past))
    by_answer true empty = empty
    by_answer false empty = empty
empty_more def (by.Driver s (drivers.Request flags links.Linked opened x)) past valid legal h was = (refl, refl)
empty_more def (by.Driver s (drivers.Request flags (links.Refused error) opened x)) past valid legal h was =
    was (behind_other false (is_start (by.Driver s (drivers.Request flags (links.Refused error) opened x))) (stands is_kill is_start past) refl h)
empty_more def e past valid legal h was = was (behind_other false (is_start e) (stands is_kill is_start past) refl h)

empty_past : (def : LineDef) (past : List Entry) → IsValid def → IsLegalPast def past
    → stands is_kill is_start past ≡ true → IsEmpty (counts_of def past)
empty_past def [] valid legal h = cc
empty_past def (e ∷ past) valid legal h = empty_more def e past valid legal h (λ shut. empty_past def past valid legal.1 shut)

-- ---- what the window allows, and a start of a line that was killed

abbrev room_of : LineDef → Bool → ℕ → Counts → ℕ
room_of def shut at c = cond shut (cond (is_late at c) def.window 0) (allowance def.window at c)

abbrev room : LineDef → List Entry → ℕ
room def past = room_of def (stands is_kill is_start past) (now past) (counts_of def past)

abbrev RoomMore : LineDef → Entry → List Entry → Type 0
RoomMore def e past = one_if (ends_nothing def e past) + room def (e ∷ past)
    ≤ room def past + (cond (ends_handled def e past) def.window 0 + cond (renews e past) def.window 0)

end_more : (def : LineDef) (c : CpuNo) (again unmask : Bool) (note : Note) (past : List Entry) → IsValid def
    → IsLegalPast def past → IsDue def (by.Cpu c (cpus.End again unmask note)) past
    → RoomMore def (by.Cpu c (cpus.End again unmask note)) past
end_more def c again unmask note past valid legal due =
    let u = end_due def c again unmask note past due in
    let e = by.Cpu c (cpus.End again unmask note) in
    let f = facts_of def past in
    let small = small_past def past (let w = valid.some_window in omega (arith, w)) in
    let a = f.allows valid.limit small in
    let standing = in_flow_open def past valid legal (has_a_flow c (flow def past) u.of_flow) in
    let was : room def past ≡ allowance def.window (now past) (counts_of def past)
    = ap (λ (b : Bool). room_of def b (now past) (counts_of def past)) standing in
    let kills : is_kill e ≡ is_killed (noted_end def past (counts_of def past)).note = kill_note c again unmask note ∙ ap is_killed u.note_is in
    let is : room def (e ∷ past) ≡ room_after def.window (now past) (noted_end def past (counts_of def past)) =
    ap (λ (b : Bool). room_of def b (now past) (noted_end def past (counts_of def past)).counts)
    (plain (is_kill e) (stands is_kill is_start past) standing ∙ kills) in
    omega (arith, a, was, is)
  where
    plain : (k s : Bool) → s ≡ false → (k || (true && s)) ≡ k
    plain k s h = grind arith

-- a moment
moment_most : (w k u : ℕ) (s l l' : Bool) → k < w
    → cond s (cond l' w 0) (cond (l' || nat_lt u k) (2 * w - k) (w - k)) ≤ cond s (cond l w 0) (cond (l || nat_lt u k) (2 * w - k) (w - k)) + w
moment_most w k u true true l' small = most l'
  where
    most : (b : Bool) → cond b w 0 ≤ w + w
    most true = omega arith
    most false = omega arith
moment_most w k u true false l' small = most l'
  where
    most : (b : Bool) → cond b w 0 ≤ 0 + w
    most true = omega arith
    most false = omega arith
moment_most w k u false l l' small = by_tests (l || nat_lt u k) (l' || nat_lt u k)
  where
    by_tests : (a b : Bool) → cond b (2 * w - k) (w - k) ≤ cond a (2 * w - k) (w - k) + w
    by_tests true true = omega arith
    by_tests true false = omega (arith, small)
    by_tests false true = omega (arith, small)
    by_tests false false = omega arith

-- a request that is linked: s: it was shut, g: it starts the line
linked_most : (w k u : ℕ) (s g l : Bool) → k < w → (s ≡ true → (k ≡ 0) × (u ≡ 0))
    → cond (false || (not g && s)) (cond l w 0) (cond (l || nat_lt 0 0) (2 * w - 0) (w - 0)) ≤ cond s (cond l w 0)
    (cond (l || nat_lt u k) (2 * w - k) (w - k)) + w
linked_most w k u true true true small empty = omega arith
linked_most w k u true true false small empty = omega arith
linked_most w k u true false true small empty = omega arith
linked_most w k u true false false small empty = omega arith
linked_most w k u false true true small empty = omega (arith, small)
linked_most w k u false false true small empty = omega (arith, small)
linked_most w k u false true false small empty = omega arith
linked_most w k u false false false small empty = omega arith

-- any other entry: r: it renews
other_most : (w k u : ℕ) (s g l r : Bool) → (s ≡ true → (k ≡ 0) × (u ≡ 0)) → (g && s) ≡ r
    → cond (false || (not g && s)) (cond l w 0) (cond (l || nat_lt u k) (2 * w - k) (w - k)) ≤ cond s (cond l w 0)
    (cond (l || nat_lt u k) (2 * w - k) (w - k)) + cond r w 0
other_most w k u true true l true empty is =
    let e = empty refl in
    let none : nat_lt u k ≡ false = le-ltb u k (let z = e.0 in omega (arith, z)) in
    by_late l none
  where
    by_late : (l : Bool) → nat_lt u k ≡ false → cond (l || nat_lt u k) (2 * w - k) (w - k) ≤ cond l w 0 + w
    by_late true h = omega arith
    by_late false h = rw h (omega arith)
other_most w k u true true l false empty is = cc
other_most w k u true false l r empty is = omega arith
other_most w k u false true l r empty is = omega arith
other_most w k u false false l r empty is = omega arith

-- an entry that is neither an end, nor a moment, nor a linked request leaves the window as it was
abbrev SameWindow : Counts → Counts → Type 0
SameWindow c d = (d.irq_count ≡ c.irq_count) × (d.irqs_unhandled ≡ c.irqs_unhandled) × (d.last_unhandled ≡ c.last_unhandled)

same_room : (def : LineDef) (s : Bool) (at : ℕ) (c d : Counts) → SameWindow c d → room_of def s at d ≡ room_of def s at c
same_room def s at c d same = rw (same.0, same.1, same.2) refl

quiet_more : (def : LineDef) (e : Entry) (past : List Entry) → IsValid def → IsLegalPast def past
    → is_end e ≡ false → is_kill e ≡ false → is_moment e ≡ false → is_linked_request e ≡ false → now (e ∷ past) ≡ now past
    → SameWindow (counts_of def past) (counts_of def (e ∷ past)) → RoomMore def e past
quiet_more def e past valid legal no_end no_kill no_moment no_link same_now same =
    let c = counts_of def past in
    let none : one_if (ends_nothing def e past) ≡ 0 = ap one_if (ap (λ (b : Bool). b && is_nothing_judgement (judgement def past)) no_end) in
    let most = other_most def.window c.irq_count c.irqs_unhandled (stands is_kill is_start past) (is_start e) (is_late (now past) c) (renews e past)
    (empty_past def past valid legal) (sym (ap (λ (b : Bool). b || (is_linked_request e || (is_start e && stands is_kill is_start past))) no_moment
    ∙ ap (λ (b : Bool). b || (is_start e && stands is_kill is_start past)) no_link)) in
    let is : room def (e ∷ past) ≡ room_of def (false || (not (is_start e) && stands is_kill is_start past)) (now past) c =
    ap (λ (b : Bool). room_of def (b || (not (is_start e) && stands is_kill is_start past)) (now (e ∷ past)) (counts_of def (e ∷ past))) no_kill
    ∙ ap (λ (at : ℕ). room_of def (false || (not (is_start e) && stands is_kill is_start past)) at (counts_of def (e ∷ past))) same_now
    ∙ same_room def (false || (not (is_start e) && stands is_kill is_start past)) (now past) c (counts_of def (e ∷ past)) same in
    omega (arith, none, most, is)

room_more : (def : LineDef) (e : Entry) (past : List Entry) → IsValid def → IsLegalPast def past
    → IsDue def e past → RoomMore def e past
room_more def (by.Cpu c (cpus.End again unmask note)) past valid legal due = end_more def c again unmask note past valid legal due
room_more def (by.Driver s (drivers.Moment at)) past valid legal due =
    let c = counts_of def past in
    let small = small_past def past (let w = valid.some_window in omega (arith, w)) in
    let m = moment_most def.window c.irq_count c.irqs_unhandled (stands is_kill is_start past) (is_late (now past) c)
    (is_late (now (by.Driver s (drivers.Moment at) ∷ past)) c) small in
    omega (arith, m)
room_more def (by.Driver s (drivers.Request flags links.Linked opened x)) past valid legal due =
    let c = counts_of def past in
    let small = small_past def past (let w = valid.some_window in omega (arith, w)) in
    let m = linked_most def.window c.irq_count c.irqs_unhandled (stands is_kill is_start past)
    (is_start (by.Driver s (drivers.Request flags links.Linked opened x)))
    (is_late (now past) c) small (empty_past def past valid legal) in
    omega (arith, m)
room_more def (by.Driver s (drivers.Request flags (links.Refused error) opened x)) past valid legal due =
    quiet_more def (by.Driver s (drivers.Request flags (links.Refused error) opened x)) past valid legal refl refl refl refl refl (refl, refl, refl)
room_more def (by.Thread x (threads.Return handled served)) past valid legal due =
    quiet_more def (by.Thread x (threads.Return handled served)) past valid legal refl refl refl refl refl (by_answer handled)
  where
    by_answer : (b : Bool) → SameWindow (counts_of def past)
        (cond b (record (counts_of def past) { threads_handled = (counts_of def past).threads_handled + 1 }) (counts_of def past))
    by_answer true = (refl, refl, refl)
    by_answer false = (refl, refl, refl)
room_more def e past valid legal due = quiet_more def e past valid legal refl refl refl refl refl (refl, refl, refl)

-- the ends judged nothing, plus those that the open window allows, are at most a window for each end
-- that was judged handled and for each renewal, and two more
room_past : (def : LineDef) (past : List Entry) → IsValid def → IsLegalPast def past
    → nothing_ends def past + room def past ≤ def.window * (handled_ends def past + renewals past + 2)
room_past def [] valid legal =
    let m = allowed_most def.window 0 (counts_of def []) in
    let o = mul_comm def.window 2 in
    omega (arith, m, o)
room_past def (e ∷ past) valid legal =
    summed _ _ _ _ _ _ _ _ (where_more (ends_nothing def) e past) (room_past def past valid legal.1)
    (room_more def e past valid legal.1 legal.0)
    (windows def.window (handled_ends def past) (renewals past) (ends_handled def e past)
    (renews e past) _ _ (where_more (ends_handled def) e past) (where_more renews e past))
  where
    times : (w : ℕ) (b : Bool) → w * one_if b ≡ cond b w 0
    times w true = mul-one w
    times w false = omega arith

    windows : (w h r : ℕ) (b c : Bool) (h' r' : ℕ) → h' ≡ h + one_if b → r' ≡ r + one_if c → w * (h' + r' + 2) ≡ w * (h + r + 2) + (cond b w 0 + cond c w 0)
    windows w h r b c h' r' i j =
        let a = mul-add w (h + r + 2) (one_if b + one_if c) in
        let d = mul-add w (one_if b) (one_if c) in
        let x = times w b in
        let y = times w c in
        let sum : h' + r' + 2 ≡ h + r + 2 + (one_if b + one_if c) = omega (arith, i, j) in
        let all : w * (h' + r' + 2) ≡ w * (h + r + 2 + (one_if b + one_if c)) = ap (λ (n : ℕ). w * n) sum in
        omega (arith, all, a, d, x, y)

    summed : (n' n x a a' l l' u : ℕ) → n' ≡ n + x → n + a ≤ l → x + a' ≤ a + u → l' ≡ l + u → n' + a' ≤ l'
    summed n' n x a a' l l' u h i j k = omega (arith, h, i, j, k)

allowed_room : (def : LineDef) (past : List Entry) → allowed def past ≤ room def past
allowed_room def past = by_test (stands is_kill is_start past)
  where
    by_test : (b : Bool) → cond b 0 (allowance def.window (now past) (counts_of def past)) ≤ room_of def b (now past) (counts_of def past)
    by_test true = omega arith
    by_test false = omega arith

pub renewed_past : (def : LineDef) (past : List Entry) → IsValid def → IsLegalPast def past
    → nothing_ends def past + allowed def past ≤ def.window * (handled_ends def past + renewals past + 2)
renewed_past def past valid legal =
    let r = room_past def past valid legal in
    let a = allowed_room def past in
    omega (arith, r, a)

-- each renewal is one of the entries from which a storm may begin anew
renewal_more : (e : Entry) (past : List Entry) → one_if (renews e past) ≤ one_if (is_renewal e)
renewal_more e past = by_tests (is_moment e) (is_linked_request e) (is_start e) (stands is_kill is_start past)
  where
    by_tests : (m l g s : Bool) → one_if (m || (l || (g && s))) ≤ one_if (g || (l || m))
    by_tests true l true s = omega arith
    by_tests true true false s = omega arith
    by_tests true false false s = omega arith
    by_tests false true true s = omega arith
    by_tests false true false s = omega arith
    by_tests false false true true = omega arith
    by_tests false false true false = omega arith
    by_tests false false false s = omega arith

renewals_below : (past : List Entry) → renewals past ≤ count_of is_renewal past
renewals_below [] = omega arith
renewals_below (e ∷ past) =
    let r = renewals_below past in
    let m = renewal_more e past in
    let a = where_more renews e past in
    let b = count_more is_renewal e past in
    omega (arith, r, m, a, b)

-- the ends judged nothing, plus the ends that the open window allows, are at most two windows for
-- each break and one more
pub nothing_past : (def : LineDef) (past : List Entry) → IsValid def → IsLegalPast def past
    → nothing_ends def past + allowed def past ≤ 2 * def.window * (breaks def past + 1)
nothing_past def past valid legal =
    let n = renewed_past def past valid legal in
    let b = renewals_below past in
    let few : handled_ends def past + renewals past + 2 ≤ 2 * (breaks def past + 1) = omega (arith, b) in
    let m = mul-le-mul_left def.window few in
    let t = mul_comm def.window (2 * (breaks def past + 1)) in
    let u = mul_assoc 2 (breaks def past + 1) def.window in
    let v = mul_assoc 2 def.window (breaks def past + 1) in
    let w = mul_comm (breaks def past + 1) def.window in
    omega (arith, n, m, t, u, v, w)
