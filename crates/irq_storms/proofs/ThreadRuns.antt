-- What the runs of threads cost is paid by the wakes.
use Rattle.std.proofs.Common.{◌≡◌, ℕ, ◌+◌, ◌-◌, ◌*◌, ◌≤◌, Bool, true, false, not, ◌||◌, ◌&&◌, cond, List, [], ◌∷◌, filter, refl, sym, ap, ◌∙◌, subst, arith}
use Rattle.std.proofs.Math.Nat.{mul-suc}
use Rattle.irq_base.specs.declared.numbers.DevNo.{DevNo}
use Rattle.irq_base.specs.declared.calls.Call.{Call}
use Rattle.irq_base.specs.declared.devices.Part.TheVariants as parts
use Rattle.irq_base.specs.declared.lines.LineDef.{LineDef}
use Rattle.irq_base.specs.declared.entries.Actor.TheVariants as actors
use Rattle.irq_base.specs.declared.entries.Entry.{Entry}
use Rattle.irq_base.specs.declared.entries.Entry.TheVariants as by
use Rattle.irq_model.specs.Places.{since, count_of}
use Rattle.irq_model.specs.Kinds.{is_thread_begin, is_thread_return, is_done, is_thread_call}
use Rattle.irq_model.specs.Lines.{run_script}
use Rattle.irq_model.specs.Threads.{is_running}
use Rattle.irq_model.specs.Runs.{entries_of_run}
use Rattle.irq_model.specs.RunLaws.{is_in_run}
use Rattle.irq_model.specs.Scripts.{AreMadeBy, MakesAll}
use Rattle.irq_model.specs.Legal.{IsLegalPast}
use Rattle.irq_laws.specs.Actors.{calls_of}
use Rattle.irq_laws.proofs.ScriptLaws.{follows_past}
use Rattle.irq_laws.proofs.ImpliesThread.{has_returned, thread_call_due}
use Rattle.irq_model.proofs.Same.{dev_from_same}
use Rattle.irq_storms.specs.Tests.{total}
use Rattle.irq_storms.proofs.Counting.{total_ext}
use Rattle.irq_storms.proofs.Weights.{total_back, total_kept, made_total}
use Rattle.irq_storms.proofs.ThreadCounts.{returned_since}
use Rattle.irq_storms.proofs.Paying.{sum_over, StaysPaid, is_paid}

-- w times a count
pub times_count : (p : Entry → Bool) (w : ℕ) (past : List Entry) → sum_over (λ e past. cond (p e) w 0) past ≡ w * count_of p past
times_count p w [] = omega arith
times_count p w (e ∷ past) = by_test (p e) (times_count p w past)
  where
    by_test : (b : Bool) → sum_over (λ e past. cond (p e) w 0) past ≡ w * count_of p past
        → cond b w 0 + sum_over (λ e past. cond (p e) w 0) past ≡ w * cond b (count_of p past + 1) (count_of p past)
    by_test true h = let m = mul-suc w (count_of p past) in omega (arith, h, m)
    by_test false h = omega (arith, h)

-- a thread that is in a run was in it before each entry that isn't its beginning
pub in_run_before : (d : DevNo) (e : Entry) (past : List Entry) → is_thread_begin d e ≡ false → is_in_run (e ∷ past) d ≡ true → is_in_run past d ≡ true
in_run_before d e past other h =
    by_tests (is_thread_begin d e) (is_done d e) (is_running past d) (is_thread_return d e) (has_returned past d) other
    (sym (ap (λ (u : Bool). is_running (e ∷ past) d && not u) (returned_since d e past)) ∙ h)
  where
    by_tests : (b o r t u : Bool) → b ≡ false → ((b || (not o && r)) && not (cond b false (t || u))) ≡ true → (r && not u) ≡ true
    by_tests b o r t u i h = grind arith

-- d's thread: what an entry of its calls weighs, and what its call weighs at most
module _ (d : DevNo) (f : Entry → ℕ) (w : Call → ℕ) (most : (c : Call) (es : List Entry) → MakesAll c es → total f es ≤ w c)
    (thread_alone : (e : Entry) → is_thread_call d e ≡ false → f e ≡ 0) where
  abbrev pub made : List Entry → ℕ
  made past = total f (since (is_thread_begin d) past)

  alone : (e : Entry) → cond (is_thread_call d e) (f e) 0 ≡ f e
  alone e = by_test (is_thread_call d e) refl
    where
      by_test : (b : Bool) → is_thread_call d e ≡ b → cond b (f e) 0 ≡ f e
      by_test true is = refl
      by_test false is = sym (thread_alone e is)

  -- no more than its script
  pub made_most : (def : LineDef) (past : List Entry) → IsLegalPast def past → is_in_run past d ≡ true
      → made past ≤ total w (run_script def d parts.Thread)
  made_most def past legal run =
      let follows : AreMadeBy (run_script def d parts.Thread) (entries_of_run parts.Thread d past) =
      subst (λ (x : List Call). AreMadeBy x (entries_of_run parts.Thread d past)) (ap (λ (b : Bool). cond b (run_script def d parts.Thread) []) run)
      (subst (λ (x : List Entry). AreMadeBy (calls_of def (actors.Thread d) past) x)
      (ap (λ (b : Bool). cond b (entries_of_run parts.Thread d past) []) run) (follows_past def past legal (actors.Thread d))) in
      let total_made = made_total f w most (run_script def d parts.Thread) (entries_of_run parts.Thread d past) follows in
      let back : total f (entries_of_run parts.Thread d past) ≡ total f (filter (is_thread_call d) (since (is_thread_begin d) past)) =
      total_back f (filter (is_thread_call d) (since (is_thread_begin d) past)) in
      let kept = total_kept f (is_thread_call d) (since (is_thread_begin d) past) in
      let all = total_ext (λ e. cond (is_thread_call d e) (f e) 0) f (since (is_thread_begin d) past) alone in
      omega (arith, total_made, back, kept, all)

  made_more : (e : Entry) (past : List Entry) → is_thread_begin d e ≡ false → made (e ∷ past) ≡ f e + made past
  made_more e past other = ap (λ (b : Bool). total f (cond b [] (e ∷ since (is_thread_begin d) past))) other

  -- each run is paid as it begins
  module _ (def : LineDef) where
    abbrev all : ℕ
    all = total w (run_script def d parts.Thread)

    abbrev rest : List Entry → ℕ
    rest past = cond (is_in_run past d) (all - made past) 0

    abbrev Paid : Entry → List Entry → Type 0
    Paid e past = StaysPaid (λ e past. f e) (λ e past. cond (is_thread_begin d e) all 0) rest e past

    at_begin : (e : Entry) (past : List Entry) → is_thread_begin d e ≡ true → f e ≡ 0 → Paid e past
    at_begin e past is none = by_tests (is_thread_begin d e) (is_in_run (e ∷ past) d) is
      where
        by_tests : (b r : Bool) → b ≡ true → f e + cond r (all - made (e ∷ past)) 0 ≤ rest past + cond b all 0
        by_tests true true h = omega (arith, none)
        by_tests true false h = omega (arith, none)
        by_tests false r h = cc

    at_other : (e : Entry) (past : List Entry) → is_thread_begin d e ≡ false → f e ≡ 0 → Paid e past
    at_other e past other none = by_tests (is_in_run (e ∷ past) d) (is_in_run past d) (in_run_before d e past other) (made_more e past other)
      where
        by_tests : (r s : Bool) → (r ≡ true → s ≡ true) → made (e ∷ past) ≡ f e + made past
            → f e + cond r (all - made (e ∷ past)) 0 ≤ cond s (all - made past) 0 + cond (is_thread_begin d e) all 0
        by_tests true true i m = omega (arith, none, m)
        by_tests true false i m = let n = i refl in cc
        by_tests false s i m = omega (arith, none)

    at_call : (e : Entry) (past : List Entry) → is_thread_begin d e ≡ false → is_in_run past d ≡ true → is_in_run (e ∷ past) d ≡ true
        → made (e ∷ past) ≤ all → Paid e past
    at_call e past other was is most =
        let m = made_more e past other in
        let before : rest past ≡ all - made past = ap (λ (b : Bool). cond b (all - made past) 0) was in
        let after : rest (e ∷ past) ≡ all - made (e ∷ past) = ap (λ (b : Bool). cond b (all - made (e ∷ past)) 0) is in
        omega (arith, m, before, after, most)

    run_of : (r u : Bool) → r ≡ true → u ≡ false → (r && not u) ≡ true
    run_of r u h i = grind arith

    begins_no_call : (e : Entry) → is_thread_begin d e ≡ true → is_thread_call d e ≡ false
    begins_no_call (by.ThreadCall x call) h = cc
    begins_no_call e h = refl

    thread_more : (e : Entry) (past : List Entry) → IsLegalPast def (e ∷ past) → Paid e past
    thread_more e past legal = by_tests (is_thread_call d e) (is_thread_begin d e) refl refl
      where
        call_in_run : (x : Entry) → IsLegalPast def (x ∷ past) → is_thread_call d x ≡ true → is_in_run past d ≡ true
        call_in_run (by.ThreadCall y call) l h =
            let u = thread_call_due def y call past l.0 in
            subst (λ (z : DevNo). is_in_run past z ≡ true) (sym (dev_from_same d y h))
            (run_of (is_running past y) (has_returned past y) u.running u.not_returned)
        call_in_run x l h = cc

        still_in_run : (x : Entry) → is_thread_call d x ≡ true → is_in_run past d ≡ true → is_in_run (x ∷ past) d ≡ true
        still_in_run (by.ThreadCall y call) h r = r
        still_in_run x h r = cc

        by_tests : (t b : Bool) → is_thread_call d e ≡ t → is_thread_begin d e ≡ b → Paid e past
        by_tests t true it ib = at_begin e past ib (thread_alone e (begins_no_call e ib))
        by_tests false false it ib = at_other e past ib (thread_alone e it)
        by_tests true false it ib =
            let was = call_in_run e legal it in
            let is = still_in_run e it was in
            at_call e past ib was is (made_most def (e ∷ past) legal is)

    pub thread_paid : (past : List Entry) → IsLegalPast def past
        → sum_over (λ e past. f e) past ≤ total w (run_script def d parts.Thread) * count_of (is_thread_begin d) past
    thread_paid past legal =
        let p = is_paid def (λ e past. f e) (λ e past. cond (is_thread_begin d e) all 0) rest refl thread_more past legal in
        let t = times_count (is_thread_begin d) all past in
        omega (arith, p, t)
