-- An actor's entries are the entries of its calls, in the order of its script, each once: a driver's,
-- a handler's in its run, a thread's in each of its runs.
use Rattle.std.proofs.Common.{◌≡◌, ℕ, suc, ◌<◌, ◌≤◌, ◌==◌, inl, inr, Bool, true, false, not, ◌&&◌, cond, Option, Some, None, List, [], ◌∷◌, ◌++◌}
use Rattle.std.proofs.Common.{reverse, length, drop, nat_lt, is_some, refl, sym, ap, ap₂, ◌∙◌, subst, arith, length-append}
use Rattle.std.proofs.Common.{drop_of_length-le, append_assoc, append-nil}
use Rattle.std.proofs.lemmas.List.{drop_at}
use Rattle.std.proofs.lemmas.Bool.{ltb-true, ltb-false, eqb-false}
use Rattle.irq_base.specs.declared.numbers.CpuNo.{CpuNo}
use Rattle.irq_base.specs.declared.numbers.DevNo.{DevNo}
use Rattle.irq_base.specs.declared.numbers.DriverNo.{DriverNo}
use Rattle.irq_base.specs.declared.calls.Call.{Call}
use Rattle.irq_base.specs.declared.calls.Call.TheVariants as calls
use Rattle.irq_base.specs.declared.devices.Part.TheVariants as parts
use Rattle.irq_base.specs.declared.lines.LineDef.{LineDef}
use Rattle.irq_base.specs.declared.entries.Actor.{Actor}
use Rattle.irq_base.specs.declared.entries.Actor.TheVariants as actors
use Rattle.irq_base.specs.declared.entries.Entry.{Entry}
use Rattle.irq_base.specs.declared.entries.Entry.TheVariants as by
use Rattle.irq_base.specs.declared.entries.CpuEntry.TheVariants as cpus
use Rattle.irq_base.specs.declared.entries.ThreadEntry.TheVariants as threads
use Rattle.irq_base.specs.declared.entries.DriverEntry.TheVariants as drivers
use Rattle.irq_base.specs.declared.entries.CallEntry.{CallEntry}
use Rattle.irq_base.specs.declared.entries.CallEntry.TheVariants as called
use Rattle.irq_base.specs.declared.calls.Flags.{Flags}
use Rattle.irq_base.specs.declared.entries.Opened.{Opened}
use Rattle.irq_base.specs.declared.entries.Opened.TheVariants as opens
use Rattle.irq_base.specs.declared.entries.EnableAnswer.TheVariants as enables
use Rattle.irq_base.specs.declared.entries.AffinityAnswer.{AffinityAnswer}
use Rattle.irq_base.specs.declared.entries.AffinityAnswer.TheVariants as moves
use Rattle.irq_base.specs.declared.entries.LinkAnswer.{LinkAnswer}
use Rattle.irq_base.specs.declared.entries.LinkAnswer.TheVariants as links
use Rattle.irq_base.specs.declared.entries.UnlinkAnswer.{UnlinkAnswer}
use Rattle.irq_base.specs.declared.entries.UnlinkAnswer.TheVariants as unlinks
use Rattle.irq_base.specs.Who.{actor_of}
use Rattle.irq_model.specs.Places.{EachEntry}
use Rattle.irq_model.specs.Kinds.{made_by, is_by, is_cpu_call, is_thread_call, is_return, is_thread_return}
use Rattle.irq_model.specs.Rounds.{flow, is_cpu, at_work}
use Rattle.irq_model.specs.Threads.{is_running}
use Rattle.irq_model.specs.Due.{finds_nothing, begins_not_there, entries_of_call, due_of}
use Rattle.irq_model.specs.Next.{next_step, next_past}
use Rattle.irq_model.specs.Runs.{entries_of_run}
use Rattle.irq_model.specs.RunLaws.{calls_of_run, is_in_run, FollowsRunScripts}
use Rattle.irq_model.specs.Scripts.{MakesSteps, MakesAll, MakesAllOf, MakesSome, AreMadeBy, step_in, steps_in, FollowsScripts}
use Rattle.irq_model.specs.Legal.{IsDue, IsLegal, IsLegalPast}
use Rattle.irq_model.proofs.Same.{dev_from_same, same_self_cpu, actor_from_same}
use Rattle.irq_laws.specs.Actors.{by_someone, calls_of, calls_at_work, entries_of, entries_at_work, due_of_actor}
use Rattle.irq_laws.specs.Kept.{KeepsRuns}
use Rattle.irq_laws.proofs.RunsKept.{runs_more, no_runs}
use Rattle.irq_laws.proofs.ActorSteps.{Turn, goes as goes_turn, stays, begins, ends, turn}
use Rattle.irq_laws.proofs.Progress.{makes_one, same_count, same_call, due_at}
use Rattle.irq_laws.proofs.ImpliesFlow.{made_step, handler_call_due, return_due}
use Rattle.irq_laws.proofs.ImpliesThread.{thread_call_due, thread_return_due, has_returned}
use Rattle.irq_laws.proofs.ImpliesCall.{Row, step_row, unlink, free_clear, freed as freed_row, disable, disable_clear, disable_synced, nosync, enable}
use Rattle.irq_laws.proofs.ImpliesCall.{sync_clear, synced, hard, hard_disable, hard_disable_clear, wake, quiet, arm, serve}
use Rattle.irq_laws.proofs.ImpliesDriver.{driver_row, DriverRow, ask, request, affinity, moment, step, acts_for, handler_due}

-- ---- steps of calls among entries

-- a call that drivers, handlers and threads make alike
abbrev pub is_shared : Call → Bool
is_shared (calls.Ask d) = false
is_shared (calls.Request d flags) = false
is_shared (calls.Affinity mask) = false
is_shared (calls.Moment at) = false
is_shared c = true

pub shared_all : (c : Call) → is_shared c ≡ true → (es : List Entry) → MakesAll c es → MakesSteps c (steps_in es) × (length (steps_in es) ≡ length es)
shared_all (calls.Ask d) other es h = cc
shared_all (calls.Request d flags) other es h = cc
shared_all (calls.Affinity mask) other es h = cc
shared_all (calls.Moment at) other es h = cc
shared_all c is es h = h

all_shared : (c : Call) → is_shared c ≡ true → (es : List Entry) → MakesSteps c (steps_in es) → length (steps_in es) ≡ length es → MakesAll c es
all_shared (calls.Ask d) other es h l = cc
all_shared (calls.Request d flags) other es h l = cc
all_shared (calls.Affinity mask) other es h l = cc
all_shared (calls.Moment at) other es h l = cc
all_shared c is es h l = (h, l)

steps_append : (xs ys : List Entry) → steps_in (xs ++ ys) ≡ steps_in xs ++ steps_in ys
steps_append [] ys = refl
steps_append (x ∷ xs) ys = ap (λ (cs : List CallEntry). step_in x ++ cs) (steps_append xs ys) ∙ sym (append_assoc (step_in x) (steps_in xs) (steps_in ys))

one_step : (e : Entry) → length (step_in e) ≤ 1
one_step (by.CpuCall c call) = omega arith
one_step (by.ThreadCall x call) = omega arith
one_step (by.DriverCall s call) = omega arith
one_step e = omega arith

pub few_steps : (xs : List Entry) → length (steps_in xs) ≤ length xs
few_steps [] = omega arith
few_steps (x ∷ xs) = let l = length-append (step_in x) (steps_in xs) in let o = one_step x in let f = few_steps xs in omega (arith, l, o, f)

both_steps : (xs ys : List Entry) → length (steps_in (xs ++ ys)) ≡ length (xs ++ ys) → (length (steps_in xs) ≡ length xs) × (length (steps_in ys) ≡ length ys)
both_steps xs ys h =
    let a = ap (λ (cs : List CallEntry). length cs) (steps_append xs ys) in
    let l = length-append (steps_in xs) (steps_in ys) in
    let m = length-append xs ys in
    let f = few_steps xs in
    let g = few_steps ys in
    (omega (arith, h, a, l, m, f, g), omega (arith, h, a, l, m, f, g))

-- entries that make these steps
abbrev made : List CallEntry → List Entry
made [] = []
made (c ∷ cs) = by_someone c ∷ made cs

made_steps : (cs : List CallEntry) → steps_in (made cs) ≡ cs
made_steps [] = refl
made_steps (c ∷ cs) = ap (λ (x : List CallEntry). c ∷ x) (made_steps cs)

made_length : (cs : List CallEntry) → length (made cs) ≡ length cs
made_length [] = refl
made_length (c ∷ cs) = ap (λ (n : ℕ). suc n) (made_length cs)

step_made : (a : Actor) (call : CallEntry) → step_in (made_by a call) ≡ call ∷ []
step_made (actors.Cpu c) call = refl
step_made (actors.Thread d) call = refl
step_made (actors.Driver r) call = refl

-- ---- how many entries a call makes, by its steps

abbrev nothing_first : List CallEntry → Bool
nothing_first [] = false
nothing_first (c ∷ cs) = finds_nothing c

abbrev steps_of_call : Call → List CallEntry → ℕ
steps_of_call (calls.Free d) cs = cond (nothing_first cs) 1 3
steps_of_call c cs = entries_of_call c []

same_first : (es : List Entry) → length (steps_in es) ≡ length es → begins_not_there es ≡ nothing_first (steps_in es)
same_first [] h = refl
same_first (by.CpuCall c call ∷ es) h = refl
same_first (by.ThreadCall x call ∷ es) h = refl
same_first (by.DriverCall s call ∷ es) h = refl
same_first (by.Cpu c e ∷ es) h = absurd (let f = few_steps es in omega (arith, f, h))
same_first (by.Thread x e ∷ es) h = absurd (let f = few_steps es in omega (arith, f, h))
same_first (by.Driver s e ∷ es) h = absurd (let f = few_steps es in omega (arith, f, h))

counts_alike : (c : Call) (es : List Entry) → length (steps_in es) ≡ length es → entries_of_call c es ≡ steps_of_call c (steps_in es)
counts_alike (calls.Free d) es h = ap (λ (b : Bool). cond b 1 3) (same_first es h)
counts_alike (calls.Ask d) es h = refl
counts_alike c es h = refl

all_steps : (c : Call) (cs : List CallEntry) → MakesSteps c cs → steps_of_call c cs ≡ length cs
all_steps (calls.Free d) (called.Unlink unlinks.NotThere dev ∷ []) h = refl
all_steps (calls.Free d) (called.Unlink (unlinks.Unlinked last) dev ∷ called.HardClear ∷ called.Freed freed ∷ []) h = refl
all_steps calls.Disable (called.Disable ∷ called.HardClear ∷ called.Synced ∷ []) h = refl
all_steps calls.DisableNosync (called.Disable ∷ []) h = refl
all_steps calls.Enable (called.Enable answer ∷ []) h = refl
all_steps calls.Sync (called.HardClear ∷ called.Synced ∷ []) h = refl
all_steps calls.SyncHard (called.HardClear ∷ []) h = refl
all_steps calls.DisableHard (called.Disable ∷ called.HardClear ∷ []) h = refl
all_steps (calls.Wake d) (called.Wake woken dev ∷ []) h = refl
all_steps (calls.Quiet d) (called.Quiet dev ∷ []) h = refl
all_steps (calls.Arm d) (called.Arm edge dev ∷ []) h = refl
all_steps (calls.Serve d) (called.Serve dev served ∷ []) h = refl
all_steps c cs h = absurd h

shared_count : (c : Call) → is_shared c ≡ true → (es : List Entry) → MakesAll c es → entries_of_call c es ≡ length es
shared_count c is es h = let m = shared_all c is es h in counts_alike c es m.1 ∙ all_steps c (steps_in es) m.0 ∙ m.1

pub all_count : (c : Call) (es : List Entry) → MakesAll c es → entries_of_call c es ≡ length es
all_count (calls.Ask d) (by.Driver r (drivers.Ask edge dev) ∷ []) h = refl
all_count (calls.Request d flags) (by.Driver r (drivers.Request given answer opened dev) ∷ []) h = refl
all_count (calls.Affinity mask) (by.Driver r (drivers.Affinity answer given) ∷ []) h = refl
all_count (calls.Moment at) (by.Driver r (drivers.Moment given) ∷ []) h = refl
all_count (calls.Free d) es h = shared_count (calls.Free d) refl es h
all_count calls.Disable es h = shared_count calls.Disable refl es h
all_count calls.DisableNosync es h = shared_count calls.DisableNosync refl es h
all_count calls.Enable es h = shared_count calls.Enable refl es h
all_count calls.Sync es h = shared_count calls.Sync refl es h
all_count calls.SyncHard es h = shared_count calls.SyncHard refl es h
all_count calls.DisableHard es h = shared_count calls.DisableHard refl es h
all_count (calls.Wake d) es h = shared_count (calls.Wake d) refl es h
all_count (calls.Quiet d) es h = shared_count (calls.Quiet d) refl es h
all_count (calls.Arm d) es h = shared_count (calls.Arm d) refl es h
all_count (calls.Serve d) es h = shared_count (calls.Serve d) refl es h
all_count c es h = absurd h.0

first_driver : DriverNo
first_driver = record { 0 = 0 }

-- of no entries each call makes the rest
nothing_made : (c : Call) → MakesSome c []
nothing_made (calls.Ask d) = (by.Driver first_driver (drivers.Ask true d) ∷ [], refl)
nothing_made (calls.Request d flags) = (by.Driver first_driver (drivers.Request flags links.Linked opens.No d) ∷ [], (refl, refl))
nothing_made (calls.Affinity mask) = (by.Driver first_driver (drivers.Affinity moves.Now mask) ∷ [], refl)
nothing_made (calls.Moment at) = (by.Driver first_driver (drivers.Moment at) ∷ [], refl)
nothing_made (calls.Free d) = (made (called.Unlink unlinks.NotThere d ∷ []), (refl, refl))
nothing_made calls.Disable = (made (called.Disable ∷ called.HardClear ∷ called.Synced ∷ []), (tt, refl))
nothing_made calls.DisableNosync = (made (called.Disable ∷ []), (tt, refl))
nothing_made calls.Enable = (made (called.Enable enables.Unbalanced ∷ []), (tt, refl))
nothing_made calls.Sync = (made (called.HardClear ∷ called.Synced ∷ []), (tt, refl))
nothing_made calls.SyncHard = (made (called.HardClear ∷ []), (tt, refl))
nothing_made calls.DisableHard = (made (called.Disable ∷ called.HardClear ∷ []), (tt, refl))
nothing_made (calls.Wake d) = (made (called.Wake true d ∷ []), (refl, refl))
nothing_made (calls.Quiet d) = (made (called.Quiet d ∷ []), (refl, refl))
nothing_made (calls.Arm d) = (made (called.Arm true d ∷ []), (refl, refl))
nothing_made (calls.Serve d) = (made (called.Serve d 0 ∷ []), (refl, refl))

none_made : (cs : List Call) → AreMadeBy cs []
none_made [] = refl
none_made (c ∷ cs) = inl (nothing_made c)

-- ---- one more entry of a script

-- if n entries of the call c are there and it isn't complete, e is the next
abbrev pub GoesOn : Call → ℕ → Entry → Type 0
GoesOn c n e = (own : List Entry) → MakesSome c own → length own ≡ n → nat_lt (length own) (entries_of_call c own) ≡ true → MakesSome c (own ++ e ∷ [])

not_empty : {P : Type 0} (x : Call) → MakesAll x [] → P
not_empty {P} x all = absurd (let one = makes_one x [] in let count = all_count x [] all in omega (arith, one, count))

-- a complete call in front is as long as its entries
front_count : (x : Call) (own rest : List Entry) → MakesAll x own → entries_of_call x (own ++ rest) ≡ length own
front_count x [] rest all = not_empty x all
front_count x (y ∷ ys) rest all = same_count x y (ys ++ rest) ys ∙ all_count x (y ∷ ys) all

no_more : (x : Call) (es more : List Entry) → entries_of_call x es ≤ length es → MakesAll x (es ++ more) → more ≡ []
no_more x [] more full all = absurd (let one = makes_one x [] in omega (arith, one, full))
no_more x (y ∷ ys) [] full all = refl
no_more x (y ∷ ys) (z ∷ zs) full all =
    absurd
    (let count : entries_of_call x ((y ∷ ys) ++ z ∷ zs) ≡ length ((y ∷ ys) ++ z ∷ zs) = all_count x ((y ∷ ys) ++ z ∷ zs) all in
    let same : entries_of_call x ((y ∷ ys) ++ z ∷ zs) ≡ entries_of_call x (y ∷ ys) = same_count x y (ys ++ z ∷ zs) ys in
    let l = length-append (y ∷ ys) (z ∷ zs) in
    omega (arith, count, same, l, full))

module _ (x : Call) (cs : List Call) (e : Entry) where
  -- within the call
  within : (es : List Entry) (n : ℕ) → GoesOn x n e → length es ≡ n → nat_lt (length es) (entries_of_call x es) ≡ true
      → AreMadeBy (x ∷ cs) es → AreMadeBy (x ∷ cs) (es ++ e ∷ [])
  within es n goes count some (inl made) = inl (goes es made count some)
  within es n goes count some (inr made) =
      absurd
      (let front : entries_of_call x (made.0 ++ made.1) ≡ length made.0 = front_count x made.0 made.1 made.3 in
      let below : length es < entries_of_call x es = ltb-true (length es) (entries_of_call x es) some in
      let same : entries_of_call x es ≡ entries_of_call x (made.0 ++ made.1) = ap (λ (xs : List Entry). entries_of_call x xs) made.2 in
      let long : length es ≡ length (made.0 ++ made.1) = ap (λ (xs : List Entry). length xs) made.2 in
      let l = length-append made.0 made.1 in
      omega (arith, front, below, same, long, l))

  -- past the call
  beyond : (es : List Entry) → nat_lt (length es) (entries_of_call x es) ≡ false → AreMadeBy (x ∷ cs) es
      → ((rest : List Entry) → drop (entries_of_call x es) es ≡ rest → AreMadeBy cs rest
      → AreMadeBy cs (rest ++ e ∷ [])) → AreMadeBy (x ∷ cs) (es ++ e ∷ [])
  beyond es full (inl made) deeper =
      let le : entries_of_call x es ≤ length es = ltb-false (length es) (entries_of_call x es) full in
      let none = no_more x es made.0 le made.1 in
      let all : MakesAll x es = subst (λ (xs : List Entry). MakesAll x xs) (append-nil es) (subst (λ (xs : List Entry). MakesAll x (es ++ xs)) none made.1) in
      let count = all_count x es all in
      inr (es, e ∷ [], refl, all, deeper [] (drop_of_length-le es (omega (arith, count))) (none_made cs))
  beyond es full (inr made) deeper =
      let front : entries_of_call x es ≡ length made.0 = ap (λ (xs : List Entry). entries_of_call x xs) made.2 ∙ front_count x made.0 made.1 made.3 in
      let left : drop (entries_of_call x es) es ≡ made.1
      = ap (λ (xs : List Entry). drop (entries_of_call x es) xs) made.2
      ∙ drop_at made.0 made.1 (entries_of_call x es) (sym front) in
      inr (made.0, made.1 ++ e ∷ [], ap (λ (xs : List Entry). xs ++ e ∷ []) made.2 ∙ append_assoc made.0 made.1 (e ∷ []), made.3, deeper made.1 left made.4)

extends : (cs : List Call) (es : List Entry) (e : Entry) (c : Call) (n : ℕ) → AreMadeBy cs es
    → due_of cs es ≡ Some (c, n) → GoesOn c n e → AreMadeBy cs (es ++ e ∷ [])
extends [] es e c n made due goes = cc
extends (x ∷ cs) es e c n made due goes = by_test (nat_lt (length es) (entries_of_call x es)) refl (λ rest made due. extends cs rest e c n made due goes)
  where
    by_test : (b : Bool) → nat_lt (length es) (entries_of_call x es) ≡ b
        → ((rest : List Entry) → AreMadeBy cs rest → due_of cs rest ≡ Some (c, n) → AreMadeBy cs (rest ++ e ∷ []))
        → AreMadeBy (x ∷ cs) (es ++ e ∷ [])
    by_test true is deeper =
        let same = same_call x c (length es) n (ap (λ (b : Bool). cond b (due_at x (length es)) (due_of cs (drop (entries_of_call x es) es))) (sym is) ∙ due) in
        within x cs e es n (subst (λ (y : Call). GoesOn y n e) (sym same.0) goes) same.1 is made
    by_test false is deeper =
        let later = ap (λ (b : Bool). cond b (due_at x (length es)) (due_of cs (drop (entries_of_call x es) es))) (sym is) ∙ due in
        beyond x cs e es is made (λ rest left made. deeper rest made (ap (λ (xs : List Entry). due_of cs xs) (sym left) ∙ later))

-- ---- the next step of a call

-- if n steps of the call are there and it isn't complete, this is the next
abbrev StepsSome : Call → List CallEntry → Type 0
StepsSome c cs = (more : List CallEntry) × MakesSteps c (cs ++ more)

abbrev StepGoes : Call → ℕ → CallEntry → Type 0
StepGoes c n call = (cs : List CallEntry) → StepsSome c cs → length cs ≡ n → nat_lt (length cs) (steps_of_call c cs) ≡ true
    → StepsSome c (cs ++ call ∷ [])

goes_step : (c : Call) → is_shared c ≡ true → (n : ℕ) (a : Actor) (call : CallEntry) → StepGoes c n call → GoesOn c n (made_by a call)
goes_step c shared n a call go own some l lt =
    let m = shared_all c shared (own ++ some.0) some.1 in
    let p = both_steps own some.0 m.1 in
    let here : MakesSteps c (steps_in own ++ steps_in some.0) = subst (λ (cs : List CallEntry). MakesSteps c cs) (steps_append own some.0) m.0 in
    let incomplete : nat_lt (length (steps_in own)) (steps_of_call c (steps_in own)) ≡ true =
    ap₂ (λ (x y : ℕ). nat_lt x y) p.0 (sym (counts_alike c own p.0)) ∙ lt in
    let g = go (steps_in own) (steps_in some.0, here) (p.0 ∙ l) incomplete in
    let is : steps_in ((own ++ made_by a call ∷ []) ++ made g.0) ≡ (steps_in own ++ call ∷ []) ++ g.0 =
    steps_append (own ++ made_by a call ∷ []) (made g.0)
    ∙ ap₂ (λ (x y : List CallEntry). x ++ y) (steps_append own (made_by a call ∷ [])
    ∙ ap (λ (x : List CallEntry). steps_in own ++ (x ++ [])) (step_made a call)) (made_steps g.0) in
    let long : length (steps_in ((own ++ made_by a call ∷ []) ++ made g.0)) ≡ length ((own ++ made_by a call ∷ []) ++ made g.0) =
    lengths own (made_by a call) call g.0 (steps_in own) (ap (λ (x : List CallEntry). length x) is) p.0 in
    (made g.0, all_shared c shared ((own ++ made_by a call ∷ []) ++ made g.0) (subst (λ (x : List CallEntry). MakesSteps c x) (sym is) g.1) long)
  where
    lengths : (own : List Entry) (e : Entry) (call : CallEntry) (more : List CallEntry) (cs : List CallEntry)
        → length (steps_in ((own ++ e ∷ []) ++ made more)) ≡ length ((cs ++ call ∷ []) ++ more) → length cs ≡ length own
        → length (steps_in ((own ++ e ∷ []) ++ made more)) ≡ length ((own ++ e ∷ []) ++ made more)
    lengths own e call more cs h l =
        let x = length-append (cs ++ call ∷ []) more in
        let y = length-append cs (call ∷ []) in
        let z = length-append (own ++ e ∷ []) (made more) in
        let w = length-append own (e ∷ []) in
        let v = made_length more in
        omega (arith, h, l, x, y, z, w, v)

first_only : {P : Type 0} (c : CallEntry) (cs : List CallEntry) → nat_lt (length (c ∷ cs)) 1 ≡ true → P
first_only c cs lt = absurd (let below = ltb-true (length (c ∷ cs)) 1 lt in omega (arith, below))

none_yet : {P : Type 0} (c : CallEntry) (cs : List CallEntry) → length (c ∷ cs) ≡ 0 → P
none_yet c cs l = absurd (omega (arith, l))

goes_unlink : (x : DevNo) (answer : UnlinkAnswer) → StepGoes (calls.Free x) 0 (called.Unlink answer x)
goes_unlink x unlinks.NotThere [] some l lt = ([], refl)
goes_unlink x (unlinks.Unlinked last) [] some l lt = (called.HardClear ∷ called.Freed x ∷ [], (refl, refl))
goes_unlink x answer (y ∷ ys) some l lt = none_yet y ys l

goes_free_clear : (x : DevNo) → StepGoes (calls.Free x) 1 called.HardClear
goes_free_clear x [] some l lt = absurd (omega (arith, l))
goes_free_clear x (called.Unlink unlinks.NotThere d ∷ []) some l lt = absurd (let below = ltb-true 1 1 lt in omega (arith, below))
goes_free_clear x (called.Unlink (unlinks.Unlinked last) d ∷ []) (called.HardClear ∷ called.Freed freed ∷ [], all) l lt = (called.Freed freed ∷ [], all)
goes_free_clear x (y ∷ z ∷ ys) some l lt = absurd (omega (arith, l))
goes_free_clear x (y ∷ []) (more, all) l lt = absurd all

goes_freed : (x : DevNo) (n : ℕ) → (n == 0) ≡ false → (n == 1) ≡ false → StepGoes (calls.Free x) n (called.Freed x)
goes_freed x n first second [] some l lt = absurd (eqb-false n 0 first (sym l))
goes_freed x n first second (called.Unlink (unlinks.Unlinked last) d ∷ called.HardClear ∷ []) (called.Freed freed ∷ [], all) l lt = ([], (all.0, refl))
goes_freed x n first second (y ∷ []) some l lt = absurd (eqb-false n 1 second (sym l))
goes_freed x n first second (y ∷ z ∷ w ∷ ys) some l lt = absurd
    (let below = ltb-true (length (y ∷ z ∷ w ∷ ys)) (cond (finds_nothing y) 1 3) lt in
    let most = at_most (finds_nothing y) in omega (arith, below, most))
  where
    at_most : (b : Bool) → cond b 1 3 ≤ 3
    at_most true = omega arith
    at_most false = omega arith
goes_freed x n first second (y ∷ z ∷ []) (rest, all) l lt = absurd all

goes_disable : StepGoes calls.Disable 0 called.Disable
goes_disable [] some l lt = (called.HardClear ∷ called.Synced ∷ [], tt)
goes_disable (y ∷ ys) some l lt = none_yet y ys l

goes_disable_clear : StepGoes calls.Disable 1 called.HardClear
goes_disable_clear [] some l lt = absurd (omega (arith, l))
goes_disable_clear (called.Disable ∷ []) (called.HardClear ∷ called.Synced ∷ [], all) l lt = (called.Synced ∷ [], tt)
goes_disable_clear (y ∷ z ∷ ys) some l lt = absurd (omega (arith, l))
goes_disable_clear (y ∷ []) (more, all) l lt = absurd all

goes_disable_synced : (n : ℕ) → (n == 0) ≡ false → (n == 1) ≡ false → StepGoes calls.Disable n called.Synced
goes_disable_synced n first second [] some l lt = absurd (eqb-false n 0 first (sym l))
goes_disable_synced n first second (called.Disable ∷ called.HardClear ∷ []) (called.Synced ∷ [], all) l lt = ([], tt)
goes_disable_synced n first second (y ∷ []) some l lt = absurd (eqb-false n 1 second (sym l))
goes_disable_synced n first second (y ∷ z ∷ w ∷ ys) some l lt = absurd (let below = ltb-true (length (y ∷ z ∷ w ∷ ys)) 3 lt in omega (arith, below))
goes_disable_synced n first second (y ∷ z ∷ []) (rest, all) l lt = absurd all

goes_sync_clear : StepGoes calls.Sync 0 called.HardClear
goes_sync_clear [] some l lt = (called.Synced ∷ [], tt)
goes_sync_clear (y ∷ ys) some l lt = none_yet y ys l

goes_synced : (n : ℕ) → (n == 0) ≡ false → StepGoes calls.Sync n called.Synced
goes_synced n first [] some l lt = absurd (eqb-false n 0 first (sym l))
goes_synced n first (called.HardClear ∷ []) (called.Synced ∷ [], all) l lt = ([], tt)
goes_synced n first (y ∷ z ∷ ys) some l lt = absurd (let below = ltb-true (length (y ∷ z ∷ ys)) 2 lt in omega (arith, below))
goes_synced n first (y ∷ []) (more, all) l lt = absurd all

goes_hard_disable : StepGoes calls.DisableHard 0 called.Disable
goes_hard_disable [] some l lt = (called.HardClear ∷ [], tt)
goes_hard_disable (y ∷ ys) some l lt = none_yet y ys l

goes_hard_clear : (n : ℕ) → (n == 0) ≡ false → StepGoes calls.DisableHard n called.HardClear
goes_hard_clear n first [] some l lt = absurd (eqb-false n 0 first (sym l))
goes_hard_clear n first (called.Disable ∷ []) (called.HardClear ∷ [], all) l lt = ([], tt)
goes_hard_clear n first (y ∷ z ∷ ys) some l lt = absurd (let below = ltb-true (length (y ∷ z ∷ ys)) 2 lt in omega (arith, below))
goes_hard_clear n first (y ∷ []) (more, all) l lt = absurd all

-- a call of one step
alone : (c : Call) (n : ℕ) (call : CallEntry) → ((cs : List CallEntry) → steps_of_call c cs ≡ 1) → MakesSteps c (call ∷ []) → StepGoes c n call
alone c n call one makes [] some l lt = ([], makes)
alone c n call one makes (y ∷ ys) some l lt = first_only y ys (ap (λ (m : ℕ). nat_lt (length (y ∷ ys)) m) (sym (one (y ∷ ys))) ∙ lt)

-- by the row of the due call
at_call : (x c : Call) (m n : ℕ) (z call : CallEntry) → due_at x m ≡ due_at c n → z ≡ call → StepGoes x m z → StepGoes c n call
at_call x c m n z call is same go =
    let s = same_call x c m n is in
    subst (λ (y : CallEntry). StepGoes c n y) same (subst (λ (k : ℕ). StepGoes c k z) s.1 (subst (λ (y : Call). StepGoes y m z) s.0 go))

row_goes : (def : LineDef) (c : Call) (n : ℕ) (past : List Entry) (call : CallEntry) → Row def (Some (c, n)) past call → StepGoes c n call
row_goes def c n past call (unlink d is free same) = at_call _ c 0 n _ call (sym is) same (goes_unlink d _)
row_goes def c n past call (free_clear d is no_flow same) = at_call _ c 1 n _ call (sym is) same (goes_free_clear d)
row_goes def c n past call (freed_row d m is some more rest same) = at_call _ c m n _ call (sym is) same (goes_freed d m some more)
row_goes def c n past call (disable is same) = at_call _ c 0 n _ call (sym is) same goes_disable
row_goes def c n past call (disable_clear is no_flow same) = at_call _ c 1 n _ call (sym is) same goes_disable_clear
row_goes def c n past call (disable_synced m is some more rest same) = at_call _ c m n _ call (sym is) same (goes_disable_synced m some more)
row_goes def c n past call (nosync m is same) = at_call _ c m n _ call (sym is) same (alone calls.DisableNosync m called.Disable (λ cs. refl) tt)
row_goes def c n past call (enable m is same) = at_call _ c m n _ call (sym is) same (alone calls.Enable m (called.Enable _) (λ cs. refl) tt)
row_goes def c n past call (sync_clear is no_flow same) = at_call _ c 0 n _ call (sym is) same goes_sync_clear
row_goes def c n past call (synced m is some rest same) = at_call _ c m n _ call (sym is) same (goes_synced m some)
row_goes def c n past call (hard m is no_flow same) = at_call _ c m n _ call (sym is) same (alone calls.SyncHard m called.HardClear (λ cs. refl) tt)
row_goes def c n past call (hard_disable is same) = at_call _ c 0 n _ call (sym is) same goes_hard_disable
row_goes def c n past call (hard_disable_clear m is some no_flow same) = at_call _ c m n _ call (sym is) same (goes_hard_clear m some)
row_goes def c n past call (wake d m is same) = at_call _ c m n _ call (sym is) same (alone (calls.Wake d) m (called.Wake _ d) (λ cs. refl) refl)
row_goes def c n past call (quiet d m is same) = at_call _ c m n _ call (sym is) same (alone (calls.Quiet d) m (called.Quiet d) (λ cs. refl) refl)
row_goes def c n past call (arm d m is same) = at_call _ c m n _ call (sym is) same (alone (calls.Arm d) m (called.Arm _ d) (λ cs. refl) refl)
row_goes def c n past call (serve d m is same) = at_call _ c m n _ call (sym is) same (alone (calls.Serve d) m (called.Serve d _) (λ cs. refl) refl)

-- ---- what drivers alone add

last_of_one : {P : Type 0} (y : Entry) (ys : List Entry) → nat_lt (length (y ∷ ys)) 1 ≡ true → P
last_of_one y ys lt = absurd (let below = ltb-true (length (y ∷ ys)) 1 lt in omega (arith, below))

goes_ask : (makes : Bool) (s : DriverNo) (x : DevNo) (n : ℕ) → GoesOn (calls.Ask x) n (by.Driver s (drivers.Ask makes x))
goes_ask makes s x n [] some l lt = ([], refl)
goes_ask makes s x n (y ∷ ys) some l lt = last_of_one y ys lt

goes_request : (s : DriverNo) (x : DevNo) (flags : Flags) (answer : LinkAnswer) (opened : Opened) (n : ℕ)
    → GoesOn (calls.Request x flags) n (by.Driver s (drivers.Request flags answer opened x))
goes_request s x flags answer opened n [] some l lt = ([], (refl, refl))
goes_request s x flags answer opened n (y ∷ ys) some l lt = last_of_one y ys lt

goes_affinity : (s : DriverNo) (mask : ℕ) (answer : AffinityAnswer) (n : ℕ) → GoesOn (calls.Affinity mask) n (by.Driver s (drivers.Affinity answer mask))
goes_affinity s mask answer n [] some l lt = ([], refl)
goes_affinity s mask answer n (y ∷ ys) some l lt = last_of_one y ys lt

goes_moment : (s : DriverNo) (at n : ℕ) → GoesOn (calls.Moment at) n (by.Driver s (drivers.Moment at))
goes_moment s at n [] some l lt = ([], refl)
goes_moment s at n (y ∷ ys) some l lt = last_of_one y ys lt

-- ---- each entry

shared_due : (def : LineDef) (c : Call) (n : ℕ) (past : List Entry) (call : CallEntry) → next_step def past (c, n) ≡ Some call → is_shared c ≡ true
shared_due def (calls.Ask d) n past call h = cc
shared_due def (calls.Request d flags) n past call h = cc
shared_due def (calls.Affinity mask) n past call h = cc
shared_due def (calls.Moment at) n past call h = cc
shared_due def c n past call h = refl

-- an actor's entry is the next of its due call
abbrev GoesNext : LineDef → Actor → Entry → List Entry → Type 0
GoesNext def a e past = (c : Call) × (n : ℕ) × (due_of_actor def a past ≡ Some (c, n)) × GoesOn c n e

step_goes : (def : LineDef) (a : Actor) (past : List Entry) (e : Entry) (due : Call × ℕ) → due_of_actor def a past ≡ Some due
    → (call : CallEntry) × (next_step def past due ≡ Some call) × (made_by a call ≡ e) → GoesNext def a e past
step_goes def a past e due is m =
    let row = step_row def (Some due) due.0 due.1 past m.0 refl m.1 in (
      due.0,
      due.1,
      is,
      subst (λ (x : Entry). GoesOn due.0 due.1 x) m.2
          (goes_step due.0 (shared_due def due.0 due.1 past m.0 m.1) due.1 a m.0 (row_goes def due.0 due.1 past m.0 row)),
    )

driver_goes : (def : LineDef) (s : DriverNo) (past : List Entry) (e : Entry) → DriverRow def s past e → GoesNext def (actors.Driver s) e past
driver_goes def s past e (ask d n is same) = (calls.Ask d, n, is, subst (λ (x : Entry). GoesOn (calls.Ask d) n x) same (goes_ask _ s d n))
driver_goes def s past e (request d flags n is free same) =
    (calls.Request d flags, n, is, subst (λ (x : Entry). GoesOn (calls.Request d flags) n x) same (goes_request s d flags _ _ n))
driver_goes def s past e (affinity mask n is same) = (
  calls.Affinity mask,
  n,
  is,
  subst
      (λ (x : Entry). GoesOn (calls.Affinity mask) n x) same (goes_affinity s mask _ n),
)
driver_goes def s past e (moment at n is same) = (calls.Moment at, n, is, subst (λ (x : Entry). GoesOn (calls.Moment at) n x) same (goes_moment s at n))
driver_goes def s past e (step due call is h same) = step_goes def (actors.Driver s) past e due is (call, h, same)

-- an entry that its maker's turn takes up
next_goes : (def : LineDef) (a : Actor) (e : Entry) (past : List Entry) → IsDue def e past → is_by a e ≡ true → (due : Call × ℕ)
    → due_of_actor def a past ≡ Some due → GoesNext def a e past
next_goes def (actors.Driver r) e past due mine d is =
    let whose = actor_from_same (actors.Driver r) (actor_of e) mine in
    driver_goes def r past e (driver_row def r past e (ap (next_past def past) whose ∙ due))
next_goes def (actors.Thread x) e past due mine d is =
    let whose = actor_from_same (actors.Thread x) (actor_of e) mine in
    step_goes def (actors.Thread x) past e d is
    (made_step (actors.Thread x) (next_step def past d) e (acts_for def (actors.Thread x) d past e is (ap (next_past def past) whose ∙ due)))
next_goes def (actors.Cpu x) e past due mine d is =
    let whose = actor_from_same (actors.Cpu x) (actor_of e) mine in
    step_goes def (actors.Cpu x) past e d is
    (made_step (actors.Cpu x) (next_step def past d) e (acts_for def (actors.Cpu x) d past e is (ap (next_past def past) whose ∙ due)))

-- each actor's entries are those of its calls, up to some point within one of them
abbrev pub FollowsActor : LineDef → List Entry → Actor → Type 0
FollowsActor def past a = AreMadeBy (calls_of def a past) (entries_of def a past)

follows_more : (def : LineDef) (a : Actor) (e : Entry) (past : List Entry) → IsDue def e past → Turn def a e past → FollowsActor def past a
    → FollowsActor def (e ∷ past) a
follows_more def a e past due (goes_turn mine d is cs es) f =
    let n = next_goes def a e past due mine d is in
    subst (λ (x : List Call). AreMadeBy x (entries_of def a (e ∷ past))) (sym cs)
    (subst (λ (x : List Entry). AreMadeBy (calls_of def a past) x) (sym es)
    (extends (calls_of def a past) (entries_of def a past) e n.0 n.1 f n.2 n.3))
follows_more def a e past due (stays other cs es) f =
    subst (λ (x : List Call). AreMadeBy x (entries_of def a (e ∷ past))) (sym cs) (subst (λ (x : List Entry). AreMadeBy (calls_of def a past) x) (sym es) f)
follows_more def a e past due (begins none es) f = subst (λ (x : List Entry). AreMadeBy (calls_of def a (e ∷ past)) x)
    (sym es) (none_made (calls_of def a (e ∷ past)))
follows_more def a e past due (ends none cs es) f = subst (λ (x : List Call). AreMadeBy x (entries_of def a (e ∷ past))) (sym cs) es

follows_none : (def : LineDef) (a : Actor) → FollowsActor def [] a
follows_none def (actors.Driver r) = none_made (calls_of def (actors.Driver r) [])
follows_none def (actors.Thread d) = refl
follows_none def (actors.Cpu c) = refl

pub runs_past : (def : LineDef) (past : List Entry) → IsLegalPast def past → KeepsRuns def past
runs_past def [] legal = no_runs def
runs_past def (e ∷ past) legal = runs_more def e past legal.0 (runs_past def past legal.1)

pub follows_past : (def : LineDef) (past : List Entry) → IsLegalPast def past → (a : Actor) → FollowsActor def past a
follows_past def [] legal a = follows_none def a
follows_past def (e ∷ past) legal a =
    follows_more def a e past legal.0 (turn def a e past legal.0 (runs_past def past legal.1)) (follows_past def past legal.1 a)

pub follows_scripts : (def : LineDef) (h : List Entry) → IsLegal def h → FollowsScripts def h
follows_scripts def h legal r = follows_past def (reverse h) legal (actors.Driver r)

-- ---- a run that has no call left has made them all

all_made : (cs : List Call) (es : List Entry) → AreMadeBy cs es → due_of cs es ≡ None → MakesAllOf cs es
all_made [] es f none = f
all_made (c ∷ cs) es f none = by_test (nat_lt (length es) (entries_of_call c es)) refl f (λ rest f none. all_made cs rest f none)
  where
    by_test : (b : Bool) → nat_lt (length es) (entries_of_call c es) ≡ b → AreMadeBy (c ∷ cs) es
        → ((rest : List Entry) → AreMadeBy cs rest → due_of cs rest ≡ None → MakesAllOf cs rest) → MakesAllOf (c ∷ cs) es
    by_test true is f deeper =
        let n = ap (λ (b : Bool). cond b (due_at c (length es)) (due_of cs (drop (entries_of_call c es) es))) (sym is) ∙ none in cc
    by_test false is (inl some) deeper =
        let le : entries_of_call c es ≤ length es = ltb-false (length es) (entries_of_call c es) is in
        let nothing = no_more c es some.0 le some.1 in
        let all : MakesAll c es = subst (λ (xs : List Entry). MakesAll c xs) (append-nil es)
        (subst (λ (xs : List Entry). MakesAll c (es ++ xs)) nothing some.1) in
        let count = all_count c es all in
        let left = ap (λ (b : Bool). cond b (due_at c (length es)) (due_of cs (drop (entries_of_call c es) es))) (sym is) ∙ none in
        let empty : drop (entries_of_call c es) es ≡ [] = drop_of_length-le es (omega (arith, count)) in
        (es, [], sym (append-nil es), all, deeper [] (none_made cs) (ap (λ (xs : List Entry). due_of cs xs) (sym empty) ∙ left))
    by_test false is (inr some) deeper =
        let front : entries_of_call c es ≡ length some.0 = ap (λ (xs : List Entry). entries_of_call c xs) some.2 ∙ front_count c some.0 some.1 some.3 in
        let left : drop (entries_of_call c es) es ≡ some.1
        = ap (λ (xs : List Entry). drop (entries_of_call c es) xs) some.2
        ∙ drop_at some.0 some.1 (entries_of_call c es) (sym front) in
        let rest = ap (λ (b : Bool). cond b (due_at c (length es)) (due_of cs (drop (entries_of_call c es) es))) (sym is) ∙ none in
        (some.0, some.1, some.2, some.3, deeper some.1 some.4 (ap (λ (xs : List Entry). due_of cs xs) (sym left) ∙ rest))

-- ---- the runs of handlers and threads

some_flow : (o : Option CpuNo) → is_some o ≡ true → (c : CpuNo) × (o ≡ Some c)
some_flow None h = cc
some_flow (Some c) h = (c, refl)

handler_follows : (def : LineDef) (past : List Entry) → IsLegalPast def past → (d : DevNo) → at_work past ≡ Some d
    → AreMadeBy (calls_of_run def parts.Primary d past) (entries_of_run parts.Primary d past)
handler_follows def past legal d w =
    let f = some_flow (flow def past) ((runs_past def past legal).working d w).1 in
    let here : is_cpu f.0 (flow def past) ≡ true = ap (is_cpu f.0) f.1 ∙ same_self_cpu f.0 in
    let calls_are : calls_of def (actors.Cpu f.0) past ≡ calls_of_run def parts.Primary d past =
    ap₂ (λ (b : Bool) (o : Option DevNo). cond b (calls_at_work def o past) []) here w in
    let entries_are : entries_of def (actors.Cpu f.0) past ≡ entries_of_run parts.Primary d past =
    ap₂ (λ (b : Bool) (o : Option DevNo). cond b (entries_at_work o past) []) here w in
    subst (λ (x : List Call). AreMadeBy x (entries_of_run parts.Primary d past)) calls_are
    (subst (λ (x : List Entry). AreMadeBy (calls_of def (actors.Cpu f.0) past) x) entries_are (follows_past def past legal (actors.Cpu f.0)))

thread_follows : (def : LineDef) (past : List Entry) → IsLegalPast def past → (d : DevNo) → is_in_run past d ≡ true
    → AreMadeBy (calls_of_run def parts.Thread d past) (entries_of_run parts.Thread d past)
thread_follows def past legal d h =
    subst (λ (x : List Call). AreMadeBy x (entries_of_run parts.Thread d past)) (ap (λ (b : Bool). cond b (calls_of_run def parts.Thread d past) []) h)
    (subst (λ (x : List Entry). AreMadeBy (calls_of def (actors.Thread d) past) x)
    (ap (λ (b : Bool). cond b (entries_of_run parts.Thread d past) []) h) (follows_past def past legal (actors.Thread d)))

within_handler : (def : LineDef) (e : Entry) (past : List Entry) → IsDue def e past → is_cpu_call e ≡ true → is_some (at_work past) ≡ true
within_handler def (by.CpuCall c call) past due h = ap is_some (handler_call_due def c call past due).is_at_work
within_handler def e past due h = cc

in_its_run : (r t : Bool) → r ≡ true → t ≡ false → (r && not t) ≡ true
in_its_run true false a b = refl
in_its_run false t a b = cc
in_its_run true true a b = cc

within_thread : (def : LineDef) (e : Entry) (past : List Entry) → IsDue def e past → (d : DevNo) → is_thread_call d e ≡ true → is_in_run past d ≡ true
within_thread def (by.ThreadCall x call) past due d h =
    let u = thread_call_due def x call past due in
    subst (λ (y : DevNo). is_in_run past y ≡ true) (sym (dev_from_same d x h)) (in_its_run (is_running past x) (has_returned past x) u.running u.not_returned)
within_thread def e past due d h = cc

handler_made : (def : LineDef) (e : Entry) (past : List Entry) → IsDue def e past → IsLegalPast def past → (d : DevNo) → is_return d e ≡ true
    → MakesAllOf (calls_of_run def parts.Primary d past) (entries_of_run parts.Primary d past)
handler_made def (by.Cpu c (cpus.Return answer x served)) past due legal d h =
    let u = return_due def c x answer served past due in
    let same = sym (dev_from_same d x h) in
    subst (λ (y : DevNo). MakesAllOf (calls_of_run def parts.Primary y past) (entries_of_run parts.Primary y past)) same
    (all_made (calls_of_run def parts.Primary x past) (entries_of_run parts.Primary x past) (handler_follows def past legal x u.is_at_work)
    (sym (handler_due def x past) ∙ u.no_call))
handler_made def e past due legal d h = cc

thread_made : (def : LineDef) (e : Entry) (past : List Entry) → IsDue def e past → IsLegalPast def past → (d : DevNo) → is_thread_return d e ≡ true
    → MakesAllOf (calls_of_run def parts.Thread d past) (entries_of_run parts.Thread d past)
thread_made def (by.Thread x (threads.Return handled served)) past due legal d h =
    let u = thread_return_due def x handled served past due in
    let same = sym (dev_from_same d x h) in
    subst (λ (y : DevNo). MakesAllOf (calls_of_run def parts.Thread y past) (entries_of_run parts.Thread y past)) same
    (all_made (calls_of_run def parts.Thread x past) (entries_of_run parts.Thread x past)
    (thread_follows def past legal x (in_its_run (is_running past x) (has_returned past x) u.running u.not_returned)) u.no_call)
thread_made def e past due legal d h = cc

-- a law of an entry and of the legal past before it
each_legal : (def : LineDef) (P : Entry → List Entry → Type 0)
    → ((e : Entry) (past : List Entry) → IsDue def e past → IsLegalPast def past → P e past) → (past : List Entry)
    → IsLegalPast def past → EachEntry P past
each_legal def P law [] legal = tt
each_legal def P law (e ∷ past) legal = (law e past legal.0 legal.1, each_legal def P law past legal.1)

pub follows_run_scripts : (def : LineDef) (h : List Entry) → IsLegal def h → FollowsRunScripts def h
follows_run_scripts def h legal =
    record {
      within_handlers = each_legal def (λ e past. is_cpu_call e ≡ true → is_some (at_work past) ≡ true)
          (λ e past due before. within_handler def e past due) (reverse h) legal;
      within_threads = each_legal def (λ e past. (d : DevNo) → is_thread_call d e ≡ true → is_in_run past d ≡ true)
          (λ e past due before. within_thread def e past due) (reverse h) legal;
      handlers_so_far = handler_follows def (reverse h) legal;
      threads_so_far = thread_follows def (reverse h) legal;
      handlers = each_legal def (λ e past. (d : DevNo) → is_return d e ≡ true
          → MakesAllOf (calls_of_run def parts.Primary d past) (entries_of_run parts.Primary d past))
          (handler_made def) (reverse h) legal;
      threads = each_legal def (λ e past. (d : DevNo) → is_thread_return d e ≡ true
          → MakesAllOf (calls_of_run def parts.Thread d past) (entries_of_run parts.Thread d past))
          (thread_made def) (reverse h) legal;
    }
