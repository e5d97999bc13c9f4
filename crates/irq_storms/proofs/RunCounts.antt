-- The runs of handlers, and the ends, by the rounds.
use Rattle.std.proofs.Common.{◌≡◌, ℕ, suc, ◌+◌, ◌*◌, ◌≤◌, Bool, true, false, not, ◌||◌, ◌&&◌, cond, Some, is_some, List}
use Rattle.std.proofs.Common.{[], ◌∷◌, length, refl, sym, ap, ◌∙◌, subst, arith}
use Rattle.std.proofs.Math.Nat.{mul-suc}
use Rattle.std.specs.List.{list_any}
use Rattle.std.proofs.lemmas.Bool.{and_parts}
use Rattle.irq_base.specs.declared.numbers.CpuNo.{CpuNo}
use Rattle.irq_base.specs.declared.numbers.DevNo.{DevNo}
use Rattle.irq_base.specs.declared.devices.DeviceDef.{DeviceDef}
use Rattle.irq_base.specs.declared.lines.LineDef.{LineDef}
use Rattle.irq_base.specs.declared.entries.Entry.{Entry}
use Rattle.irq_base.specs.declared.entries.Entry.TheVariants as by
use Rattle.irq_base.specs.declared.entries.CpuEntry.TheVariants as cpus
use Rattle.irq_base.specs.declared.entries.Note.{Note}
use Rattle.irq_base.specs.declared.entries.TakeAnswer.TheVariants as takes
use Rattle.irq_model.specs.Places.{since, count_of, last_of}
use Rattle.irq_model.specs.Kinds.{same_dev, is_begin, is_handle, is_leave, is_again}
use Rattle.irq_model.specs.Lines.{is_device, is_eoi_flow}
use Rattle.irq_model.specs.Rounds.{closes, begins_round, cpu_of_handle, flow, has_flow, has_begun, at_work}
use Rattle.irq_model.specs.Legal.{IsDue, IsLegalPast}
use Rattle.irq_model.specs.Valid.{IsValid}
use Rattle.irq_model.proofs.RoundSteps.{flow_quiet}
use Rattle.irq_model.proofs.Same.{same_self, dev_from_same}
use Rattle.irq_laws.specs.Kept.{Kept}
use Rattle.irq_laws.proofs.KeptAlways.{kept}
use Rattle.irq_laws.proofs.FreesKept.{begun_is_linked}
use Rattle.irq_laws.proofs.Requested.{was_linked}
use Rattle.irq_laws.proofs.RunsKept.{handle_idle}
use Rattle.irq_laws.proofs.ImpliesFlow.{take_due, begin_due, return_due, end_due, has_a_flow}
use Rattle.irq_storms.specs.Judged.{one_if}
use Rattle.irq_storms.specs.Tests.{is_any_begin, is_any_return, is_end}
use Rattle.irq_storms.proofs.Counting.{count_more, count_imply}
use Rattle.irq_storms.proofs.Running.{StaysBelow, runs_below}

-- ---- the returns are at most the begins

returns_more : (def : LineDef) (e : Entry) (past : List Entry) → IsDue def e past
    → StaysBelow is_any_return is_any_begin (λ past. one_if (is_some (at_work past))) e past
returns_more def (by.Cpu c (cpus.Begin x)) past due = omega arith
returns_more def (by.Cpu c (cpus.Return answer x served)) past due =
    let w : one_if (is_some (at_work past)) ≡ 1 = ap (λ o. one_if (is_some o)) (return_due def c x answer served past due).is_at_work in
    omega (arith, w)
returns_more def e past due = omega arith

pub returns_past : (def : LineDef) (past : List Entry) → IsLegalPast def past → count_of is_any_return past ≤ count_of is_any_begin past
returns_past def past legal =
    let r = runs_below def is_any_return is_any_begin (λ past. one_if (is_some (at_work past))) refl
    (λ e past legal due. returns_more def e past due) past legal in
    omega (arith, r)

-- ---- the rounds are the ends, plus one while a flow is in progress

flow_kept : (def : LineDef) (e : Entry) (past : List Entry) → is_handle e ≡ false → is_leave e ≡ false
    → is_again e ≡ false → one_if (has_flow def (e ∷ past)) ≡ one_if (has_flow def past)
flow_kept def e past a b c = ap (λ o. one_if (is_some o)) (flow_quiet def e past a b c)

round_of_end : (def : LineDef) (c : CpuNo) (again unmask : Bool) (note : Note) (past : List Entry) → one_if (has_flow def past) ≡ 1
    → one_if (begins_round def (by.Cpu c (cpus.End again unmask note))) + one_if (has_flow def past)
    ≡ 1 + one_if (has_flow def (by.Cpu c (cpus.End again unmask note) ∷ past))
round_of_end def c false unmask note past f = omega (arith, f)
round_of_end def c true unmask note past f = by_flow (is_eoi_flow def.flow)
  where
    by_flow : (b : Bool) → one_if (false || (true && not b)) + one_if (has_flow def past)
        ≡ 1 + one_if (is_some (cpu_of_handle (cond (false || (false || (b && true)))
        (Some (by.Cpu c (cpus.End true unmask note))) (last_of (λ e. is_handle e || closes def e) past))))
    by_flow true = omega (arith, f)
    by_flow false = omega arith

rounds_more : (def : LineDef) (e : Entry) (past : List Entry) → IsDue def e past
    → one_if (begins_round def e) + one_if (has_flow def past) ≡ one_if (is_end e) + one_if (has_flow def (e ∷ past))
rounds_more def (by.Cpu c (cpus.Take way takes.Handle)) past due =
    let f : one_if (has_flow def past) ≡ 0 = ap one_if (handle_idle def past (take_due def c way takes.Handle past due).answer_is).0 in
    omega (arith, f)
rounds_more def (by.Cpu c (cpus.End again unmask note)) past due
    = round_of_end def c again unmask note past (ap one_if
    (has_a_flow c (flow def past) (end_due def c again unmask note past due).of_flow))
rounds_more def e past due = let f = flow_kept def e past refl refl refl in omega (arith, f)

pub rounds_past : (def : LineDef) (past : List Entry) → IsLegalPast def past
    → count_of (begins_round def) past ≡ count_of is_end past + one_if (has_flow def past)
rounds_past def [] legal = refl
rounds_past def (e ∷ past) legal =
    summed _ _ _ _ _ _ _ _ (count_more (begins_round def) e past) (count_more is_end e past) (rounds_past def past legal.1) (rounds_more def e past legal.0)
  where
    summed : (r' n' r n x y f g : ℕ) → r' ≡ r + x → n' ≡ n + y → r ≡ n + f → x + f ≡ y + g → r' ≡ n' + g
    summed r' n' r n x y f g h i j k = omega (arith, h, i, j, k)

-- an end that leaves closes the flow
pub flow_closed : (def : LineDef) (c : CpuNo) (unmask : Bool) (note : Note) (past : List Entry)
    → has_flow def (by.Cpu c (cpus.End false unmask note) ∷ past) ≡ false
flow_closed def c unmask note past = refl

-- an entry that is neither a take that is handled nor an end leaves it
pub flow_stays : (def : LineDef) (e : Entry) (past : List Entry) → is_handle e ≡ false → is_leave e ≡ false
    → is_again e ≡ false → has_flow def (e ∷ past) ≡ has_flow def past
flow_stays def e past a b c = ap is_some (flow_quiet def e past a b c)

-- ---- the begins are at most the devices times the rounds

-- one device fewer
count_drop : (p q : DevNo → Bool) (d : DevNo) (xs : List DeviceDef) → ((x : DevNo) → q x ≡ true → p x ≡ true)
    → p d ≡ true → q d ≡ false → list_any (is_device d) xs ≡ true
    → count_of (λ x. q x.dev) xs + 1 ≤ count_of (λ x. p x.dev) xs
count_drop p q d [] le holds fails there = cc
count_drop p q d (x ∷ xs) le holds fails there = by_test (is_device d x) refl there (λ t. count_drop p q d xs le holds fails t)
  where
    here : (a b : Bool) → a ≡ true → b ≡ false → (m n : ℕ) → n ≤ m → cond b (n + 1) n + 1 ≤ cond a (m + 1) m
    here true false h i m n j = omega (arith, j)
    here false b h i m n j = cc
    here true true h i m n j = cc

    later : (a b : Bool) → (b ≡ true → a ≡ true) → (m n : ℕ) → n + 1 ≤ m → cond b (n + 1) n + 1 ≤ cond a (m + 1) m
    later true true i m n j = omega (arith, j)
    later true false i m n j = omega (arith, j)
    later false false i m n j = j
    later false true i m n j = let k = i refl in cc

    by_test : (b : Bool) → is_device d x ≡ b → (b || list_any (is_device d) xs) ≡ true
        → (list_any (is_device d) xs ≡ true → count_of (λ x. q x.dev) xs + 1 ≤ count_of (λ x. p x.dev) xs)
        → count_of (λ x. q x.dev) (x ∷ xs) + 1 ≤ count_of (λ x. p x.dev) (x ∷ xs)
    by_test true is any deeper =
        let same = dev_from_same d x.dev is in
        here (p x.dev) (q x.dev) (subst (λ y. p y ≡ true) same holds) (subst (λ y. q y ≡ false) same fails) _ _
        (count_imply (λ x. q x.dev) (λ x. p x.dev) xs (λ x. le x.dev))
    by_test false is any deeper = later (p x.dev) (q x.dev) (le x.dev) _ _ (deeper any)

count_all : (p : DeviceDef → Bool) (xs : List DeviceDef) → count_of p xs ≤ length xs
count_all p [] = omega arith
count_all p (x ∷ xs) = by_test (p x) (count_all p xs)
  where
    by_test : (b : Bool) → count_of p xs ≤ length xs → cond b (count_of p xs + 1) (count_of p xs) ≤ length (x ∷ xs)
    by_test true h = omega (arith, h)
    by_test false h = omega (arith, h)

-- d is still to be called in the round of the flow
abbrev pub is_left : LineDef → List Entry → DevNo → Bool
is_left def past d = has_flow def past && not (has_begun def past d)

abbrev left : LineDef → List Entry → ℕ
left def past = count_of (λ x. is_left def past x.dev) def.devices

-- a flow after an entry that isn't a take which is handled was there before
pub flow_before : (def : LineDef) (e : Entry) (past : List Entry) → is_handle e ≡ false → has_flow def (e ∷ past) ≡ true → has_flow def past ≡ true
flow_before def (by.Cpu c (cpus.End again unmask note)) past other h = by_test (closes def (by.Cpu c (cpus.End again unmask note))) h
  where
    by_test : (b : Bool) → is_some (cpu_of_handle (cond (false || b) (Some (by.Cpu c (cpus.End again unmask note)))
        (last_of (λ e. is_handle e || closes def e) past))) ≡ true → has_flow def past ≡ true
    by_test true h = cc
    by_test false h = h
flow_before def e past other h = sym (ap is_some (flow_quiet def e past other refl refl)) ∙ h

pub left_before : (def : LineDef) (e : Entry) (past : List Entry) (d : DevNo) → is_handle e ≡ false
    → (has_begun def (e ∷ past) d ≡ false → has_begun def past d ≡ false) → is_left def (e ∷ past) d ≡ true
    → is_left def past d ≡ true
left_before def e past d other begun h =
    let parts = and_parts (has_flow def (e ∷ past)) (not (has_begun def (e ∷ past) d)) h in
    both (has_flow def past) (has_begun def past d) (flow_before def e past other parts.0) (begun (from_not _ parts.1))
  where
    from_not : (b : Bool) → not b ≡ true → b ≡ false
    from_not false h = refl
    from_not true h = cc

    both : (a b : Bool) → a ≡ true → b ≡ false → (a && not b) ≡ true
    both a b h i = grind arith

-- within a round
abbrev LeftKept : LineDef → Entry → List Entry → Type 0
LeftKept def e past = one_if (is_any_begin e) + left def (e ∷ past) ≤ left def past

later_begun : (s b : Bool) → (s || b) ≡ false → b ≡ false
later_begun s b h = grind arith

left_at_begin : (def : LineDef) (c : CpuNo) (x : DevNo) (past : List Entry) → Kept def past
    → IsDue def (by.Cpu c (cpus.Begin x)) past → LeftKept def (by.Cpu c (cpus.Begin x)) past
left_at_begin def c x past k due =
    let u = begin_due def c x past due in
    let l = begun_is_linked def past x u.first in
    let e = by.Cpu c (cpus.Begin x) in
    let drop = count_drop (is_left def past) (is_left def (e ∷ past)) x def.devices
    (λ d. left_before def e past d refl (later_begun (same_dev d x) (has_begun def past d)))
    (was (has_flow def past) (has_begun def past x) (has_a_flow c (flow def past) u.of_flow) l.1)
    (now (has_flow def (e ∷ past)) (same_dev x x) (has_begun def past x) (same x))
    (k.rest.named x (was_linked past x l.0)) in
    omega (arith, drop)
  where
    was : (a b : Bool) → a ≡ true → b ≡ false → (a && not b) ≡ true
    was a b h i = grind arith

    now : (a s b : Bool) → s ≡ true → (a && not (s || b)) ≡ false
    now a s b h = grind arith

    same : (d : DevNo) → same_dev d d ≡ true
    same d = same_self d

left_quiet : (def : LineDef) (e : Entry) (past : List Entry) → is_any_begin e ≡ false → is_handle e ≡ false
    → ((d : DevNo) → has_begun def (e ∷ past) d ≡ false → has_begun def past d ≡ false) → LeftKept def e past
left_quiet def e past no_begin no_handle begun =
    let less = count_imply (λ x. is_left def (e ∷ past) x.dev) (λ x. is_left def past x.dev) def.devices
    (λ x. left_before def e past x.dev no_handle (begun x.dev)) in
    let none : one_if (is_any_begin e) ≡ 0 = ap one_if no_begin in
    omega (arith, less, none)

left_more : (def : LineDef) (e : Entry) (past : List Entry) → Kept def past → IsDue def e past → begins_round def e ≡ false → LeftKept def e past
left_more def (by.Cpu c (cpus.Begin x)) past k due same = left_at_begin def c x past k due
left_more def (by.Cpu c (cpus.Take way takes.Handle)) past k due same = cc
left_more def (by.Cpu c (cpus.End again unmask note)) past k due same
    = left_quiet def (by.Cpu c (cpus.End again unmask note)) past refl refl
    (λ d. begun (begins_round def (by.Cpu c (cpus.End again unmask note))) d same)
  where
    begun : (b : Bool) (d : DevNo) → b ≡ false → list_any (is_begin d)
        (cond b [] (by.Cpu c (cpus.End again unmask note) ∷ since (begins_round def) past)) ≡ false
        → has_begun def past d ≡ false
    begun true d h i = cc
    begun false d h i = i
left_more def e past k due same = left_quiet def e past refl refl (λ d h. h)

begins_more : (n b r l b' r' l' x : ℕ) → b + l ≤ n * r → b' ≡ b + x → r' ≡ r → x + l' ≤ l → b' + l' ≤ n * r'
begins_more n b r l b' r' l' x h i j k = rw j (omega (arith, h, i, k))

begins_anew : (n b r l b' r' l' : ℕ) → b + l ≤ n * r → b' ≡ b → r' ≡ suc r → l' ≤ n → b' + l' ≤ n * r'
begins_anew n b r l b' r' l' h i j k = rw (j, mul-suc n r) (omega (arith, h, i, k))

no_begin_anew : (def : LineDef) (e : Entry) → begins_round def e ≡ true → is_any_begin e ≡ false
no_begin_anew def (by.Cpu c (cpus.Begin x)) h = cc
no_begin_anew def e h = refl

pub begins_past : (def : LineDef) (past : List Entry) → IsValid def → IsLegalPast def past
    → count_of is_any_begin past + left def past ≤ length def.devices * count_of (begins_round def) past
begins_past def [] valid legal = let none = no_left def.devices in omega (arith, none)
  where
    no_left : (xs : List DeviceDef) → count_of (λ (x : DeviceDef). false) xs ≡ 0
    no_left [] = refl
    no_left (x ∷ xs) = no_left xs
begins_past def (e ∷ past) valid legal = by_round (begins_round def e) refl (begins_past def past valid legal.1)
  where
    by_round : (b : Bool) → begins_round def e ≡ b → count_of is_any_begin past + left def past ≤ length def.devices * count_of (begins_round def) past
        → count_of is_any_begin (e ∷ past) + left def (e ∷ past) ≤ length def.devices * count_of (begins_round def) (e ∷ past)
    by_round true is before =
        let b : count_of is_any_begin (e ∷ past) ≡ count_of is_any_begin past = count_more is_any_begin e past
        ∙ (let n : one_if (is_any_begin e) ≡ 0 = ap one_if (no_begin_anew def e is) in omega (arith, n)) in
        let r : count_of (begins_round def) (e ∷ past)
        ≡ suc (count_of (begins_round def) past) = count_more (begins_round def) e past
        ∙ (let n : one_if (begins_round def e) ≡ 1 = ap one_if is in omega (arith, n)) in
        begins_anew _ _ _ _ _ _ _ before b r (count_all (λ x. is_left def (e ∷ past) x.dev) def.devices)
    by_round false is before =
        let r : count_of (begins_round def) (e ∷ past)
        ≡ count_of (begins_round def) past = count_more (begins_round def) e past
        ∙ (let n : one_if (begins_round def e) ≡ 0 = ap one_if is in omega (arith, n)) in
        begins_more _ _ _ _ _ _ _ _ before (count_more is_any_begin e past) r (left_more def e past (kept def past valid legal.1) legal.0 is)
