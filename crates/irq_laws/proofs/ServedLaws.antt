-- The mask in force has a processor of the machine, and what waits on an enabled line without a
-- flow is handled next.
use Rattle.std.proofs.Common.{◌≡◌, ◌⊎◌, inl, inr, Bool, true, false, not, ◌||◌, ◌&&◌, cond, Option, Some, None, is_some}
use Rattle.std.proofs.Common.{List, [], ◌∷◌, reverse, refl, sym, ap, ◌∙◌, arith}
use Rattle.std.proofs.lemmas.Bool.{and_parts, or_cases, or_from, false_from_ne_true}
use Rattle.irq_base.specs.declared.numbers.CpuNo.{CpuNo}
use Rattle.irq_base.specs.declared.numbers.DevNo.{DevNo}
use Rattle.irq_base.specs.declared.lines.LineDef.{LineDef}
use Rattle.irq_base.specs.declared.entries.Entry.{Entry}
use Rattle.irq_base.specs.declared.entries.Entry.TheVariants as by
use Rattle.irq_base.specs.declared.entries.CpuEntry.TheVariants as cpus
use Rattle.irq_base.specs.declared.entries.DriverEntry.TheVariants as drivers
use Rattle.irq_base.specs.declared.entries.AffinityAnswer.{AffinityAnswer}
use Rattle.irq_base.specs.declared.entries.AffinityAnswer.TheVariants as moves
use Rattle.irq_base.specs.declared.entries.Errno.TheVariants as errors
use Rattle.irq_base.specs.declared.entries.TakeAnswer.{TakeAnswer}
use Rattle.irq_base.specs.declared.entries.TakeAnswer.TheVariants as takes
use Rattle.irq_base.specs.declared.entries.Way.{Way}
use Rattle.irq_base.specs.declared.entries.Way.TheVariants as ways
use Rattle.irq_model.specs.Places.{some_place, last_place}
use Rattle.irq_model.specs.Lines.{is_edge_line, is_level_line, serves}
use Rattle.irq_model.specs.Links.{depth, is_disabled, is_none_linked, is_linked}
use Rattle.irq_model.specs.Asks.{is_high}
use Rattle.irq_model.specs.Masks.{is_masked}
use Rattle.irq_model.specs.Rounds.{flow, has_flow, has_begun, is_cpu}
use Rattle.irq_model.specs.Waiting.{is_soft}
use Rattle.irq_model.specs.Edges.{is_sent, is_stored}
use Rattle.irq_model.specs.Signal.{signals, puts_in_force, mask_of, lowest_in, target}
use Rattle.irq_model.specs.Threads.{is_some_unfinished}
use Rattle.irq_model.specs.Owed.{is_owed}
use Rattle.irq_model.specs.Next.{take_answer, next_of_cpu}
use Rattle.irq_model.specs.Laws.{IsHandledNext, IsServedWhenIdle}
use Rattle.irq_model.specs.Legal.{IsDue, IsLegal, IsLegalPast}
use Rattle.irq_model.specs.Valid.{IsValid}
use Rattle.irq_model.proofs.EdgeSteps.{none_stored}
use Rattle.irq_model.proofs.Same.{same_self_cpu}
use Rattle.irq_laws.specs.Kept.{Kept}
use Rattle.irq_laws.proofs.Lists.{both_ways}
use Rattle.irq_laws.proofs.Owing.{owes}
use Rattle.irq_laws.proofs.Masking.{not_disabled}
use Rattle.irq_laws.proofs.KeptAlways.{kept}
use Rattle.irq_laws.proofs.CoverLaws.{by_place, covered}
use Rattle.irq_laws.proofs.ReasonLaws.{edge_reason}
use Rattle.irq_laws.proofs.ImpliesDriver.{affinity_due}

-- ---- the mask in force

-- the newest entry changes the mask
abbrev is_change : List Entry → Bool
is_change (by.Driver driver (drivers.Affinity moves.Now mask) ∷ past) = true
is_change (by.Driver driver (drivers.Affinity moves.Later mask) ∷ past) = true
is_change _ = false

puts_change : (a u : List Entry) → puts_in_force a u ≡ true → is_change u ≡ true
puts_change a (by.Driver driver (drivers.Affinity moves.Now mask) ∷ past) h = refl
puts_change a (by.Driver driver (drivers.Affinity moves.Later mask) ∷ past) h = refl
puts_change a u h = cc

not_refused : (b l : Bool) (answer : AffinityAnswer) → answer
    ≡ cond b (cond l moves.Later moves.Now) (moves.Refused errors.Inval) → (answer ≡ moves.Refused errors.Inval → ⊥)
    → b ≡ true
not_refused true l answer is differs = refl
not_refused false l answer is differs = absurd (differs is)

changed_mask : (def : LineDef) (e : Entry) (past : List Entry) → IsDue def e past → is_change (e ∷ past) ≡ true
    → is_some (lowest_in def.cpus (mask_of def.mask (e ∷ past))) ≡ true
changed_mask def (by.Driver s (drivers.Affinity moves.Now mask)) past due h
    = not_refused (is_some (lowest_in def.cpus mask)) def.later moves.Now
    (affinity_due def s mask moves.Now past due).answer_is (λ is. cc)
changed_mask def (by.Driver s (drivers.Affinity moves.Later mask)) past due h
    = not_refused (is_some (lowest_in def.cpus mask)) def.later moves.Later
    (affinity_due def s mask moves.Later past due).answer_is (λ is. cc)
changed_mask def e past due h = cc

last_mask : (def : LineDef) → IsValid def → (P : List Entry → List Entry → Bool)
    → ((a u : List Entry) → P a u ≡ true → is_change u ≡ true) → (past : List Entry) → IsLegalPast def past
    → is_some (lowest_in def.cpus (mask_of def.mask (last_place P past))) ≡ true
last_mask def valid P changes [] legal = valid.mask
last_mask def valid P changes (e ∷ past) legal = by_test (P [] (e ∷ past)) refl
    (last_mask def valid (λ a u. P (e ∷ a) u) (λ a u. changes (e ∷ a) u) past legal.1)
  where
    by_test : (b : Bool) → P [] (e ∷ past) ≡ b → is_some (lowest_in def.cpus (mask_of def.mask (last_place (λ a u. P (e ∷ a) u) past))) ≡ true
        → is_some (lowest_in def.cpus (mask_of def.mask (cond (P [] (e ∷ past)) (e ∷ past) (last_place (λ a u. P (e ∷ a) u) past)))) ≡ true
    by_test true is deeper =
        ap (λ (b : Bool). is_some (lowest_in def.cpus (mask_of def.mask
        (cond b (e ∷ past) (last_place (λ a u. P (e ∷ a) u) past))))) is
        ∙ changed_mask def e past legal.0 (changes [] (e ∷ past) is)
    by_test false is deeper = ap (λ (b : Bool). is_some
        (lowest_in def.cpus (mask_of def.mask (cond b (e ∷ past) (last_place (λ a u. P (e ∷ a) u) past))))) is ∙ deeper

-- some processor takes the line's interrupts
pub has_target : (def : LineDef) (past : List Entry) → IsValid def → IsLegalPast def past → is_some (target def past) ≡ true
has_target def past valid legal = last_mask def valid puts_in_force puts_change past legal

-- ---- what is handled next

no_flow : (o : Option CpuNo) → is_some o ≡ false → o ≡ None
no_flow None h = refl
no_flow (Some c) h = cc

some_cpu : (o : Option CpuNo) → is_some o ≡ true → (c : CpuNo) × (o ≡ Some c)
some_cpu None h = cc
some_cpu (Some c) h = (c, refl)

idle_answer : (def : LineDef) (past : List Entry) → has_flow def past ≡ false
    → (is_disabled past || is_none_linked past) ≡ false → take_answer def past ≡ takes.Handle
idle_answer def past no_flow on = by_values (has_flow def past) (is_disabled past || is_none_linked past) no_flow on
  where
    by_values : (f o : Bool) → f ≡ false → o ≡ false → cond f takes.Busy (cond o takes.Off takes.Handle) ≡ takes.Handle
    by_values false false a b = refl
    by_values true o a b = cc
    by_values false true a b = cc

by_take : (f t s o : Bool) (x : Option Entry) (l r : Entry) → f ≡ false → t ≡ true → s ≡ true
    → cond f x (cond (not t) None (cond s (Some l) (cond o (Some r) None))) ≡ Some l
by_take false true true o x l r a b c = refl
by_take true t s o x l r a b c = cc
by_take false false s o x l r a b c = cc
by_take false true false o x l r a b c = cc

by_resend : (f t s o : Bool) (x : Option Entry) (l r : Entry) → f ≡ false → t ≡ true → s ≡ false → o ≡ true
    → cond f x (cond (not t) None (cond s (Some l) (cond o (Some r) None))) ≡ Some r
by_resend false true false true x l r a b c d = refl
by_resend true t s o x l r a b c d = cc
by_resend false false s o x l r a b c d = cc
by_resend false true true o x l r a b c d = cc
by_resend false true false false x l r a b c d = cc

handled : (def : LineDef) (past : List Entry) (c : CpuNo) → target def past ≡ Some c → has_flow def past ≡ false
    → (is_disabled past || is_none_linked past) ≡ false → (signals def past || is_soft past) ≡ true
    → (way : Way) × (next_of_cpu def c past ≡ Some (by.Cpu c (cpus.Take way takes.Handle)))
handled def past c of_target idle on waits = by_signal (signals def past) refl
  where
    outside : is_cpu c (flow def past) ≡ false
    outside = ap (is_cpu c) (no_flow (flow def past) idle)

    aimed : is_cpu c (target def past) ≡ true
    aimed = ap (is_cpu c) of_target ∙ same_self_cpu c

    answer : take_answer def past ≡ takes.Handle
    answer = idle_answer def past idle on

    soft_when : (a b : Bool) → (a || b) ≡ true → a ≡ false → b ≡ true
    soft_when a b h i = grind arith

    by_signal : (b : Bool) → signals def past ≡ b → (way : Way) × (next_of_cpu def c past ≡ Some (by.Cpu c (cpus.Take way takes.Handle)))
    by_signal true is = (
      ways.Line,
      by_take (is_cpu c (flow def past)) (is_cpu c (target def past)) (signals def past) (is_soft past) _
          (by.Cpu c (cpus.Take ways.Line (take_answer def past))) _ outside aimed is
          ∙ ap (λ (a : TakeAnswer). Some (by.Cpu c (cpus.Take ways.Line a))) answer,
    )
    by_signal false is = (
      ways.Resend,
      by_resend (is_cpu c (flow def past)) (is_cpu c (target def past)) (signals def past)
          (is_soft past) _ _ (by.Cpu c (cpus.Take ways.Resend (take_answer def past))) outside aimed is
          (soft_when (signals def past) (is_soft past) waits is)
          ∙ ap (λ (a : TakeAnswer). Some (by.Cpu c (cpus.Take ways.Resend a))) answer,
    )

handled_next : (def : LineDef) (h : List Entry) → IsValid def → IsLegal def h → depth (reverse h) ≡ 0
    → has_flow def (reverse h) ≡ false → (signals def (reverse h) || is_soft (reverse h)) ≡ true → IsHandledNext def h
handled_next def h valid legal zero idle waits =
    let k = kept def (reverse h) valid legal in
    let t = some_cpu (target def (reverse h)) (has_target def (reverse h) valid legal) in
    let on = or_from (is_disabled (reverse h)) (is_none_linked (reverse h)) (not_disabled (reverse h) zero) (k.depth.enabled zero).1 in
    let n = handled def (reverse h) t.0 t.1 idle on waits in
    (t.0, n.0, t.1, n.1)

-- ---- an owed edge, and a high level

either : (a b : Bool) → a ≡ true → (a || b) ≡ true
either a b h = grind arith

or_other : (a b : Bool) → b ≡ true → (a || b) ≡ true
or_other a b h = grind arith

edge_signals : (def : LineDef) (past : List Entry) → is_edge_line def ≡ true → is_sent def past ≡ true → signals def past ≡ true
edge_signals def past edge h = by_line (is_edge_line def) edge
  where
    by_line : (b : Bool) → b ≡ true → cond b (is_sent def past) (is_high def past && (not (is_masked def past) && not (serves def && has_flow def past))) ≡ true
    by_line true i = h
    by_line false i = cc

level_signals : (def : LineDef) (past : List Entry) → is_edge_line def ≡ false → is_high def past ≡ true
    → is_masked def past ≡ false → has_flow def past ≡ false → signals def past ≡ true
level_signals def past level high opened idle = by_line (is_edge_line def) (is_high def past) (is_masked def past)
    (serves def) (has_flow def past) level high opened idle
  where
    by_line : (b g m s f : Bool) → b ≡ false → g ≡ true → m ≡ false → f ≡ false → cond b (is_sent def past) (g && (not m && not (s && f))) ≡ true
    by_line b g m s f x y z w = grind arith

owed_waits : (def : LineDef) (past : List Entry) → IsValid def → IsLegalPast def past → depth past ≡ 0
    → has_flow def past ≡ false → (d : DevNo) → is_owed def d past ≡ true → (signals def past || is_soft past) ≡ true
owed_waits def past valid legal zero idle d owed =
    by_place def past d (covered def past valid legal d owed) marks
    (λ p. both_ways (has_flow def past) (k.edges.pending edge p zero) idle)
    (λ s. or_other (signals def past) (is_soft past) s)
    (λ a. both_ways (has_flow def past) (and_parts (has_flow def past) (is_linked past d && not (has_begun def past d)) a).0 idle)
  where
    k : Kept def past
    k = kept def past valid legal

    edge : is_edge_line def ≡ true
    edge = (and_parts (is_edge_line def) (some_place (owes d) past) owed).0

    opened : is_masked def past ≡ false
    opened = false_from_ne_true (is_masked def past) (λ m. both_ways (has_flow def past) (edge_reason def def.flow past valid k edge refl m zero) idle)

    by_mark : (is_sent def past ≡ true) ⊎ (is_stored def past ≡ true) → (signals def past || is_soft past) ≡ true
    by_mark (inl s) = either (signals def past) (is_soft past) (edge_signals def past edge s)
    by_mark (inr w) = both_ways (is_stored def past) w (none_stored def past opened)

    marks : (is_sent def past || is_stored def past) ≡ true → (signals def past || is_soft past) ≡ true
    marks m = by_mark (or_cases (is_sent def past) (is_stored def past) m)

high_waits : (def : LineDef) (past : List Entry) → Kept def past → depth past ≡ 0 → has_flow def past ≡ false
    → is_high def past ≡ true → is_some_unfinished def past ≡ false → (signals def past || is_soft past) ≡ true
high_waits def past k zero idle high none =
    let level = (and_parts (is_level_line def) _ high).0 in
    let opened = false_from_ne_true (is_masked def past)
    (λ m. both_ways (has_flow def past || is_some_unfinished def past) (k.levels.level level m zero)
    (or_from _ _ idle none)) in
    either (signals def past) (is_soft past) (level_signals def past (not_edge (is_edge_line def) level) high opened idle)
  where
    not_edge : (b : Bool) → not b ≡ true → b ≡ false
    not_edge true h = sym h
    not_edge false h = refl

pub served_when_idle : (def : LineDef) (h : List Entry) → IsValid def → IsLegal def h → IsServedWhenIdle def h
served_when_idle def h valid legal =
    record {
      owed = λ zero idle d owed. handled_next def h valid legal zero idle (owed_waits def (reverse h) valid legal zero idle d owed);
      high = λ zero idle high none. handled_next def h valid legal zero idle
          (high_waits def (reverse h) (kept def (reverse h) valid legal) zero idle high none);
    }
