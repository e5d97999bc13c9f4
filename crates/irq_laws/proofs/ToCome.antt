-- How many calls of a kind are to come in a script: those that have made no entry yet.
use Rattle.std.proofs.Common.{◌≡◌, ℕ, ◌+◌, ◌≤◌, ◌==◌, Bool, true, false, ◌&&◌, cond, Some, None, List, [], ◌∷◌, ◌++◌}
use Rattle.std.proofs.Common.{length, drop, nat_lt, refl, sym, ap, ap₂, ◌∙◌, subst, arith, length-append, drop_of_length-le, eqb-true}
use Rattle.std.proofs.lemmas.List.{drop-append-le}
use Rattle.std.proofs.lemmas.Bool.{ltb-true, ltb-false, lt-ltb, le-ltb, false_from_ne_true}
use Rattle.irq_base.specs.declared.numbers.DriverNo.{DriverNo}
use Rattle.irq_base.specs.declared.calls.Call.{Call}
use Rattle.irq_base.specs.declared.calls.Call.TheVariants as calls
use Rattle.irq_base.specs.declared.lines.LineDef.{LineDef}
use Rattle.irq_base.specs.declared.entries.Actor.{Actor}
use Rattle.irq_base.specs.declared.entries.Actor.TheVariants as actors
use Rattle.irq_base.specs.declared.entries.Entry.{Entry}
use Rattle.irq_base.specs.declared.entries.CallEntry.{CallEntry}
use Rattle.irq_base.specs.declared.entries.CallEntry.TheVariants as called
use Rattle.irq_base.specs.Who.{actor_of}
use Rattle.irq_model.specs.Places.{count_of}
use Rattle.irq_model.specs.Kinds.{made_by, is_by, is_call, is_disable, disables}
use Rattle.irq_model.specs.Due.{entries_of_call, due_of}
use Rattle.irq_model.specs.Next.{next_step, next_past}
use Rattle.irq_model.specs.RunLaws.{is_disabling, is_enabling}
use Rattle.irq_model.specs.Legal.{IsDue}
use Rattle.irq_model.proofs.Same.{actor_from_same}
use Rattle.irq_laws.specs.Actors.{calls_of, entries_of, due_of_actor}
use Rattle.irq_laws.proofs.Progress.{makes_one, same_count, same_call, due_at, standing}
use Rattle.irq_laws.proofs.ImpliesFlow.{made_step}
use Rattle.irq_laws.proofs.ImpliesCall.{Row, step_row, unlink, free_clear, freed as freed_row, disable, disable_clear, disable_synced, nosync, enable}
use Rattle.irq_laws.proofs.ImpliesCall.{sync_clear, synced, hard, hard_disable, hard_disable_clear, wake, quiet, arm, serve}
use Rattle.irq_laws.proofs.ImpliesDriver.{acts_for, driver_row, DriverRow, ask, request, affinity, moment, step}
use Rattle.irq_laws.proofs.TakeLaws.{one_if}

abbrev pub to_come : (Call → Bool) → List Call → List Entry → ℕ
to_come q [] es = 0
to_come q (c ∷ cs) es = cond (nat_lt (length es) (entries_of_call c es)) (one_if (q c && (length es == 0)) + count_of q cs)
    (to_come q cs (drop (entries_of_call c es) es))

count_one : (b : Bool) (n : ℕ) → cond b (n + 1) n ≡ one_if b + n
count_one true n = omega arith
count_one false n = omega arith

-- before the first entry all are
pub none_begun : (q : Call → Bool) (cs : List Call) → to_come q cs [] ≡ count_of q cs
none_begun q [] = refl
none_begun q (c ∷ cs) =
    let some : nat_lt 0 (entries_of_call c []) ≡ true = lt-ltb 0 (entries_of_call c []) (makes_one c []) in
    ap (λ (b : Bool). cond b (one_if (q c && true) + count_of q cs) (to_come q cs (drop (entries_of_call c []) []))) some
    ∙ ap (λ (b : Bool). one_if b + count_of q cs) (same (q c)) ∙ sym (count_one (q c) (count_of q cs))
  where
    same : (b : Bool) → (b && true) ≡ b
    same true = refl
    same false = refl

never_first : (n : ℕ) → 1 ≤ n → (n == 0) ≡ false
never_first n h = false_from_ne_true (n == 0) (λ z. let k = eqb-true n 0 z in omega (arith, k, h))

off : (b c : Bool) → c ≡ false → one_if (b && c) ≡ 0
off true false h = refl
off false c h = refl
off true true h = cc

-- one more entry of the due call
due_more : (q : Call → Bool) (x : Call) (cs : List Call) (es : List Entry) (e : Entry) → nat_lt (length es) (entries_of_call x es) ≡ true
    → to_come q (x ∷ cs) (es ++ e ∷ []) ≡ count_of q cs
due_more q x cs es e some = by_test (nat_lt (length (es ++ e ∷ [])) (entries_of_call x (es ++ e ∷ []))) refl
  where
    enough : (xs : List Entry) → nat_lt (length xs) (entries_of_call x xs) ≡ true → length (xs ++ e ∷ []) ≤ entries_of_call x (xs ++ e ∷ [])
    enough [] lt = makes_one x (e ∷ [])
    enough (y ∷ ys) lt =
        let same : entries_of_call x ((y ∷ ys) ++ e ∷ []) ≡ entries_of_call x (y ∷ ys) = same_count x y (ys ++ e ∷ []) ys in
        let below = ltb-true (length (y ∷ ys)) (entries_of_call x (y ∷ ys)) lt in
        let l = length-append (y ∷ ys) (e ∷ []) in
        omega (arith, same, below, l)

    by_test : (b : Bool) → nat_lt (length (es ++ e ∷ [])) (entries_of_call x (es ++ e ∷ [])) ≡ b → to_come q (x ∷ cs) (es ++ e ∷ []) ≡ count_of q cs
    by_test true is =
        let l = length-append es (e ∷ []) in
        let none = off (q x) (length (es ++ e ∷ []) == 0) (never_first (length (es ++ e ∷ [])) (omega (arith, l))) in
        ap (λ (b : Bool). cond b (one_if (q x && (length (es ++ e ∷ []) == 0)) + count_of q cs)
        (to_come q cs (drop (entries_of_call x (es ++ e ∷ [])) (es ++ e ∷ [])))) is
        ∙ omega (arith, none)
    by_test false is =
        ap (λ (b : Bool). cond b (one_if (q x && (length (es ++ e ∷ []) == 0)) + count_of q cs)
        (to_come q cs (drop (entries_of_call x (es ++ e ∷ [])) (es ++ e ∷ [])))) is
        ∙ ap (to_come q cs) (drop_of_length-le (es ++ e ∷ []) (enough es some)) ∙ none_begun q cs

past_it : (q : Call → Bool) (x : Call) (cs : List Call) (y e : Entry) (ys : List Entry) → nat_lt (length (y ∷ ys)) (entries_of_call x (y ∷ ys)) ≡ false
    → to_come q (x ∷ cs) ((y ∷ ys) ++ e ∷ []) ≡ to_come q cs (drop (entries_of_call x (y ∷ ys)) (y ∷ ys) ++ e ∷ [])
past_it q x cs y e ys full =
    let k = entries_of_call x (y ∷ ys) in
    let le : k ≤ length (y ∷ ys) = ltb-false (length (y ∷ ys)) k full in
    let same : entries_of_call x ((y ∷ ys) ++ e ∷ []) ≡ k = same_count x y (ys ++ e ∷ []) ys in
    let long : nat_lt (length ((y ∷ ys) ++ e ∷ [])) k ≡ false
    = le-ltb (length ((y ∷ ys) ++ e ∷ [])) k (let l = length-append (y ∷ ys) (e ∷ []) in omega (arith, l, le)) in
    let first : ℕ = one_if (q x && (length ((y ∷ ys) ++ e ∷ []) == 0)) + count_of q cs in
    ap (λ (m : ℕ). cond (nat_lt (length ((y ∷ ys) ++ e ∷ [])) m) first (to_come q cs (drop m ((y ∷ ys) ++ e ∷ [])))) same
    ∙ ap (λ (b : Bool). cond b first (to_come q cs (drop k ((y ∷ ys) ++ e ∷ [])))) long
    ∙ ap (to_come q cs) (drop-append-le k (y ∷ ys) (e ∷ []) le)

past_any : (q : Call → Bool) (x : Call) (cs : List Call) (es : List Entry) (e : Entry) → nat_lt (length es) (entries_of_call x es) ≡ false
    → to_come q (x ∷ cs) (es ++ e ∷ []) ≡ to_come q cs (drop (entries_of_call x es) es ++ e ∷ [])
past_any q x cs [] e full = absurd (let le = ltb-false 0 (entries_of_call x []) full in let one = makes_one x [] in omega (arith, le, one))
past_any q x cs (y ∷ ys) e full = past_it q x cs y e ys full

pub come_more : (q : Call → Bool) (cs : List Call) (es : List Entry) (e : Entry) (c : Call) (n : ℕ) → due_of cs es ≡ Some (c, n)
    → to_come q cs es ≡ to_come q cs (es ++ e ∷ []) + one_if (q c && (n == 0))
come_more q [] es e c n h = cc
come_more q (x ∷ cs) es e c n h = by_test (nat_lt (length es) (entries_of_call x es)) refl (λ g. come_more q cs (drop (entries_of_call x es) es) e c n g)
  where
    by_test : (b : Bool) → nat_lt (length es) (entries_of_call x es) ≡ b
        → (due_of cs (drop (entries_of_call x es) es) ≡ Some (c, n) → to_come q cs (drop (entries_of_call x es) es)
        ≡ to_come q cs (drop (entries_of_call x es) es ++ e ∷ []) + one_if (q c && (n == 0)))
        → to_come q (x ∷ cs) es ≡ to_come q (x ∷ cs) (es ++ e ∷ []) + one_if (q c && (n == 0))
    by_test true is deeper =
        let s = same_call x c (length es) n (ap (λ (b : Bool). cond b (due_at x (length es)) (due_of cs (drop (entries_of_call x es) es))) (sym is) ∙ h) in
        let before : to_come q (x ∷ cs) es ≡ one_if (q x && (length es == 0)) + count_of q cs =
        ap (λ (b : Bool). cond b (one_if (q x && (length es == 0)) + count_of q cs) (to_come q cs (drop (entries_of_call x es) es))) is in
        let mark : one_if (q x && (length es == 0)) ≡ one_if (q c && (n == 0)) = ap₂ (λ (y : Call) (k : ℕ). one_if (q y && (k == 0))) s.0 s.1 in
        let after = due_more q x cs es e is in
        omega (arith, before, mark, after)
    by_test false is deeper =
        let before : to_come q (x ∷ cs) es ≡ to_come q cs (drop (entries_of_call x es) es) =
        ap (λ (b : Bool). cond b (one_if (q x && (length es == 0)) + count_of q cs) (to_come q cs (drop (entries_of_call x es) es))) is in
        let after = past_any q x cs es e is in
        let d = deeper (ap (λ (b : Bool). cond b (due_at x (length es)) (due_of cs (drop (entries_of_call x es) es))) (sym is) ∙ h) in
        omega (arith, before, after, d)

-- no more than the script has
pub come_below : (q : Call → Bool) (cs : List Call) (es : List Entry) → to_come q cs es ≤ count_of q cs
come_below q [] es = omega arith
come_below q (c ∷ cs) es = by_test (nat_lt (length es) (entries_of_call c es)) (q c) (length es == 0) (come_below q cs (drop (entries_of_call c es) es))
  where
    by_test : (b p z : Bool) → to_come q cs (drop (entries_of_call c es) es) ≤ count_of q cs
        → cond b (one_if (p && z) + count_of q cs) (to_come q cs (drop (entries_of_call c es) es)) ≤ cond p (count_of q cs + 1) (count_of q cs)
    by_test true true true h = omega arith
    by_test true true false h = omega arith
    by_test true false z h = omega arith
    by_test false true z h = omega (arith, h)
    by_test false false z h = h

-- none once the script is complete
pub come_done : (q : Call → Bool) (cs : List Call) (es : List Entry) → due_of cs es ≡ None → to_come q cs es ≡ 0
come_done q [] es h = refl
come_done q (c ∷ cs) es h = by_test (nat_lt (length es) (entries_of_call c es)) refl (come_done q cs (drop (entries_of_call c es) es))
  where
    by_test : (b : Bool) → nat_lt (length es) (entries_of_call c es) ≡ b
        → (due_of cs (drop (entries_of_call c es) es) ≡ None → to_come q cs (drop (entries_of_call c es) es) ≡ 0) → to_come q (c ∷ cs) es ≡ 0
    by_test true is deeper = let n = ap (λ (b : Bool). cond b (due_at c (length es)) (due_of cs (drop (entries_of_call c es) es))) (sym is) ∙ h in cc
    by_test false is deeper =
        ap (λ (b : Bool). cond b (one_if (q c && (length es == 0)) + count_of q cs) (to_come q cs (drop (entries_of_call c es) es))) is
        ∙ deeper (ap (λ (b : Bool). cond b (due_at c (length es)) (due_of cs (drop (entries_of_call c es) es))) (sym is) ∙ h)

-- if in each end of a script there are no more calls of one kind than of another
pub come_fewer : (p q : Call → Bool) (cs : List Call) (es : List Entry) → ((done rest : List Call) → cs ≡ done ++ rest → count_of p rest ≤ count_of q rest)
    → to_come p cs es ≤ to_come q cs es
come_fewer p q [] es fewer = omega arith
come_fewer p q (c ∷ cs) es fewer =
    by_test (nat_lt (length es) (entries_of_call c es)) (length es == 0)
    (come_fewer p q cs (drop (entries_of_call c es) es) (λ done rest is. fewer (c ∷ done) rest (ap (λ (xs : List Call). c ∷ xs) is)))
  where
    first : (b z : Bool) (n : ℕ) → z ≡ true → one_if (b && z) + n ≡ cond b (n + 1) n
    first true true n h = omega arith
    first false z n h = omega arith
    first true false n h = cc

    behind : (b z : Bool) (n : ℕ) → z ≡ false → one_if (b && z) + n ≡ n
    behind b z n h = let o = off b z h in omega (arith, o)

    by_test : (b z : Bool) → to_come p cs (drop (entries_of_call c es) es) ≤ to_come q cs (drop (entries_of_call c es) es)
        → cond b (one_if (p c && z) + count_of p cs) (to_come p cs (drop (entries_of_call c es) es))
        ≤ cond b (one_if (q c && z) + count_of q cs) (to_come q cs (drop (entries_of_call c es) es))
    by_test true true h =
        let all = fewer [] (c ∷ cs) refl in
        let x = first (p c) true (count_of p cs) refl in
        let y = first (q c) true (count_of q cs) refl in
        omega (arith, all, x, y)
    by_test true false h =
        let rest = fewer (c ∷ []) cs refl in
        let x = behind (p c) false (count_of p cs) refl in
        let y = behind (q c) false (count_of q cs) refl in
        omega (arith, rest, x, y)
    by_test false z h = h

-- ---- which entries begin a call that disables, or that enables

abbrev pub enables : CallEntry → Bool
enables (called.Enable answer) = true
enables _ = false

abbrev pub is_enable : Entry → Bool
is_enable e = is_call enables e

abbrev Marks : Call → ℕ → CallEntry → Type 0
Marks c n call = (disables call ≡ (is_disabling c && (n == 0))) × (enables call ≡ (is_enabling c && (n == 0)))

at_call : (x c : Call) (m n : ℕ) (z call : CallEntry) → due_at x m ≡ due_at c n → z ≡ call → Marks x m z → Marks c n call
at_call x c m n z call is same marks =
    let s = same_call x c m n is in
    subst (λ (y : CallEntry). Marks c n y) same (subst (λ (k : ℕ). Marks c k z) s.1 (subst (λ (y : Call). Marks y m z) s.0 marks))

-- a call of one entry has made none while it is due
one_only : (cs : List Call) (es : List Entry) (c : Call) (n : ℕ) → due_of cs es ≡ Some (c, n)
    → ((own : List Entry) → entries_of_call c own ≡ 1) → (n == 0) ≡ true
one_only cs es c n h one =
    let s = standing cs es c n h in
    let counts : n ≡ length s.own = s.counts in
    let below = ltb-true (length s.own) (entries_of_call c s.own) s.incomplete in
    let single = one s.own in
    is_zero n (omega (arith, counts, below, single))
  where
    is_zero : (n : ℕ) → n ≡ 0 → (n == 0) ≡ true
    is_zero n z = subst (λ (k : ℕ). (k == 0) ≡ true) (sym z) refl

row_marks : (def : LineDef) (cs : List Call) (es : List Entry) (c : Call) (n : ℕ) (past : List Entry) (call : CallEntry) → due_of cs es ≡ Some (c, n)
    → Row def (Some (c, n)) past call → Marks c n call
row_marks def cs es c n past call due (unlink d is free same) = at_call _ c 0 n _ call (sym is) same (refl, refl)
row_marks def cs es c n past call due (free_clear d is no_flow same) = at_call _ c 1 n _ call (sym is) same (refl, refl)
row_marks def cs es c n past call due (freed_row d m is some more rest same) = at_call _ c m n _ call (sym is) same (refl, refl)
row_marks def cs es c n past call due (disable is same) = at_call _ c 0 n _ call (sym is) same (refl, refl)
row_marks def cs es c n past call due (disable_clear is no_flow same) = at_call _ c 1 n _ call (sym is) same (refl, refl)
row_marks def cs es c n past call due (disable_synced m is some more rest same) = at_call _ c m n _ call (sym is) same (sym some, refl)
row_marks def cs es c n past call due (nosync m is same)
    = at_call _ c m n _ call (sym is) same (sym (one_only cs es calls.DisableNosync m (due ∙ is) (λ own. refl)), refl)
row_marks def cs es c n past call due (enable m is same)
    = at_call _ c m n _ call (sym is) same (refl, sym (one_only cs es calls.Enable m (due ∙ is) (λ own. refl)))
row_marks def cs es c n past call due (sync_clear is no_flow same) = at_call _ c 0 n _ call (sym is) same (refl, refl)
row_marks def cs es c n past call due (synced m is some rest same) = at_call _ c m n _ call (sym is) same (refl, refl)
row_marks def cs es c n past call due (hard m is no_flow same) = at_call _ c m n _ call (sym is) same (refl, refl)
row_marks def cs es c n past call due (hard_disable is same) = at_call _ c 0 n _ call (sym is) same (refl, refl)
row_marks def cs es c n past call due (hard_disable_clear m is some no_flow same) = at_call _ c m n _ call (sym is) same (sym some, refl)
row_marks def cs es c n past call due (wake d m is same) = at_call _ c m n _ call (sym is) same (refl, refl)
row_marks def cs es c n past call due (quiet d m is same) = at_call _ c m n _ call (sym is) same (refl, refl)
row_marks def cs es c n past call due (arm d m is same) = at_call _ c m n _ call (sym is) same (refl, refl)
row_marks def cs es c n past call due (serve d m is same) = at_call _ c m n _ call (sym is) same (refl, refl)

abbrev MarksOf : Call × ℕ → Entry → Type 0
MarksOf due e = (is_disable e ≡ (is_disabling due.0 && (due.1 == 0))) × (is_enable e ≡ (is_enabling due.0 && (due.1 == 0)))

made_marks : (a : Actor) (due : Call × ℕ) (call : CallEntry) → Marks due.0 due.1 call → MarksOf due (made_by a call)
made_marks (actors.Cpu c) due call m = m
made_marks (actors.Thread d) due call m = m
made_marks (actors.Driver r) due call m = m

step_marks : (def : LineDef) (a : Actor) (past : List Entry) (e : Entry) (due : Call × ℕ) → due_of_actor def a past ≡ Some due
    → (call : CallEntry) × (next_step def past due ≡ Some call) × (made_by a call ≡ e) → MarksOf due e
step_marks def a past e due is m =
    subst (λ (x : Entry). MarksOf due x) m.2 (made_marks a due m.0
    (row_marks def (calls_of def a past) (entries_of def a past) due.0 due.1 past m.0 is (step_row def (Some due) due.0 due.1 past m.0 refl m.1)))

driver_marks : (def : LineDef) (r : DriverNo) (past : List Entry) (e : Entry) (due : Call × ℕ) → due_of_actor def (actors.Driver r) past ≡ Some due
    → DriverRow def r past e → MarksOf due e
driver_marks def r past e due is (ask d n at same) = let s = same_call (calls.Ask d) due.0 n due.1 (sym at ∙ is) in
    subst (λ (x : Entry). MarksOf due x) same (subst (λ (c : Call). (false ≡ (is_disabling c && (due.1 == 0)))
    × (false ≡ (is_enabling c && (due.1 == 0)))) s.0 (refl, refl))
driver_marks def r past e due is (request d flags n at free same) = let s = same_call (calls.Request d flags) due.0 n due.1 (sym at ∙ is) in
    subst (λ (x : Entry). MarksOf due x) same (subst (λ (c : Call). (false ≡ (is_disabling c && (due.1 == 0)))
    × (false ≡ (is_enabling c && (due.1 == 0)))) s.0 (refl, refl))
driver_marks def r past e due is (affinity mask n at same) = let s = same_call (calls.Affinity mask) due.0 n due.1 (sym at ∙ is) in
    subst (λ (x : Entry). MarksOf due x) same (subst (λ (c : Call). (false ≡ (is_disabling c && (due.1 == 0)))
    × (false ≡ (is_enabling c && (due.1 == 0)))) s.0 (refl, refl))
driver_marks def r past e due is (moment t n at same) = let s = same_call (calls.Moment t) due.0 n due.1 (sym at ∙ is) in
    subst (λ (x : Entry). MarksOf due x) same (subst (λ (c : Call). (false ≡ (is_disabling c && (due.1 == 0)))
    × (false ≡ (is_enabling c && (due.1 == 0)))) s.0 (refl, refl))
driver_marks def r past e due is (step x call at h same) =
    step_marks def (actors.Driver r) past e due is
    (call, subst (λ (y : Call × ℕ). next_step def past y ≡ Some call) (the_due x due (sym at ∙ is)) h, same)
  where
    the_due : (x y : Call × ℕ) → Some x ≡ Some y → x ≡ y
    the_due x y h = cc

pub entry_marks : (def : LineDef) (a : Actor) (e : Entry) (past : List Entry) (due : Call × ℕ) → IsDue def e past → is_by a e ≡ true
    → due_of_actor def a past ≡ Some due → MarksOf due e
entry_marks def (actors.Driver r) e past d due mine is =
    let whose = actor_from_same (actors.Driver r) (actor_of e) mine in
    driver_marks def r past e d is (driver_row def r past e (ap (next_past def past) whose ∙ due))
entry_marks def (actors.Thread x) e past d due mine is =
    let whose = actor_from_same (actors.Thread x) (actor_of e) mine in
    step_marks def (actors.Thread x) past e d is
    (made_step (actors.Thread x) (next_step def past d) e (acts_for def (actors.Thread x) d past e is (ap (next_past def past) whose ∙ due)))
entry_marks def (actors.Cpu x) e past d due mine is =
    let whose = actor_from_same (actors.Cpu x) (actor_of e) mine in
    step_marks def (actors.Cpu x) past e d is
    (made_step (actors.Cpu x) (next_step def past d) e (acts_for def (actors.Cpu x) d past e is (ap (next_past def past) whose ∙ due)))

-- ---- an actor's calls that are to come

abbrev pub disables_of : LineDef → Actor → List Entry → ℕ
disables_of def a past = to_come is_disabling (calls_of def a past) (entries_of def a past)

abbrev pub enables_of : LineDef → Actor → List Entry → ℕ
enables_of def a past = to_come is_enabling (calls_of def a past) (entries_of def a past)

-- an entry of its own
pub own_come : (def : LineDef) (a : Actor) (e : Entry) (past : List Entry) → IsDue def e past → is_by a e ≡ true → (due : Call × ℕ)
    → due_of_actor def a past ≡ Some due → calls_of def a (e ∷ past) ≡ calls_of def a past
    → entries_of def a (e ∷ past) ≡ entries_of def a past ++ e ∷ []
    → (disables_of def a past ≡ disables_of def a (e ∷ past) + one_if (is_disable e))
    × (enables_of def a past ≡ enables_of def a (e ∷ past) + one_if (is_enable e))
own_come def a e past due mine d is cs es =
    let m = entry_marks def a e past d due mine is in
    let x = come_more is_disabling (calls_of def a past) (entries_of def a past) e d.0 d.1 is in
    let y = come_more is_enabling (calls_of def a past) (entries_of def a past) e d.0 d.1 is in
    let p : disables_of def a (e ∷ past) ≡ to_come is_disabling (calls_of def a past) (entries_of def a past ++ e ∷ []) =
    ap₂ (λ (u : List Call) (v : List Entry). to_come is_disabling u v) cs es in
    let r : enables_of def a (e ∷ past) ≡ to_come is_enabling (calls_of def a past) (entries_of def a past ++ e ∷ []) =
    ap₂ (λ (u : List Call) (v : List Entry). to_come is_enabling u v) cs es in
    let a1 = ap one_if m.0 in
    let b1 = ap one_if m.1 in
    (omega (arith, x, p, a1), omega (arith, y, r, b1))
