-- What drivers' calls wait for is what the state says.
use Rattle.std.proofs.Common.{◌≡◌, ℕ, ◌+◌, Bool, true, false, not, ◌||◌, ◌&&◌, ltb, is_some, Option, Some, None, List, [], ◌∷◌, refl, sym, ap, ◌∙◌, arith}
use Rattle.std.proofs.lemmas.Bool.Decides.{nat_tests}
use Rattle.std.specs.List.{list_any}
use Rattle.irq_base.specs.declared.devices.DeviceDef.{DeviceDef}
use Rattle.irq_base.specs.declared.entries.Actor.{Actor}
use Rattle.irq_base.specs.declared.entries.Entry.{Entry}
use Rattle.irq_base.specs.declared.lines.LineDef.{LineDef}
use Rattle.irq_base.specs.declared.numbers.DevNo.{DevNo}
use Rattle.irq_laws.proofs.BlockLaws.{freed_is}
use Rattle.irq_laws.proofs.KeptAlways.{kept}
use Rattle.irq_laws.proofs.RestKept.{none_freed}
use Rattle.irq_laws.specs.Kept.{freeing}
use Rattle.irq_model.specs.Due.{holds_mutex}
use Rattle.irq_model.specs.Legal.{IsLegalPast}
use Rattle.irq_model.specs.Reason.{is_being_freed}
use Rattle.irq_model.specs.Rounds.{has_flow}
use Rattle.irq_model.specs.Threads.{is_woken, is_running}
use Rattle.irq_model.specs.Valid.{IsValid}
use Rattle.device_table.specs.Rows.{table_by}
use Rattle.device_table.specs.Sums.{one_if}
use Rattle.act_thread.specs.Steps.{is_in_run}
use Rattle.act_thread.specs.Threads.{active_in}
use Rattle.irq_laws.specs.Blocks.{is_freed_at_work}
use Rattle.irq_line.specs.Queries.{blocks_at}
use Rattle.line_marks.proofs.CallsDue.{idle_is}
use Rattle.line_marks.proofs.FreeingFollows.{mutex_is}
use Rattle.line_marks.proofs.Known.{in_run}
use Rattle.line_marks.specs.State.{state_of}
use Rattle.line_marks.specs.Threads.{thread_of, threads_of, stage_by, has_returned, has_finished}
use Rattle.line_core.specs.Blocking.{freed_in, blocks_by}

at_work_is : (past : List Entry) (xs : List DeviceDef)
    → list_any (λ (x : DeviceDef). is_woken past x.dev || is_running past x.dev) xs
    ≡ ltb 0 (active_in (table_by (thread_of past) xs))
at_work_is past [] = refl
at_work_is past (x ∷ xs) = by_tests (is_woken past x.dev) (is_running past x.dev)
    (in_run (is_running past x.dev) (has_returned past x.dev) (has_finished past x.dev)) (at_work_is past xs)
  where
    n : ℕ
    n = active_in (table_by (thread_of past) xs)

    g : Bool
    g = is_in_run (stage_by (is_running past x.dev) (has_returned past x.dev) (has_finished past x.dev))

    rest : Bool
    rest = list_any (λ (y : DeviceDef). is_woken past y.dev || is_running past y.dev) xs

    above : (w : ℕ) → ltb 0 (1 + w) ≡ true
    above w = grind (arith, nat_tests)

    by_tests : (w r : Bool) → g ≡ r → rest ≡ ltb 0 n → ((w || r) || rest) ≡ ltb 0 (one_if w + one_if g + n)
    by_tests true r h i = grind (arith, nat_tests)
    by_tests false true h i = rw h (grind (arith, nat_tests))
    by_tests false false h i = rw h (i ∙ ap (ltb 0) (let e : n ≡ 0 + 0 + n = omega arith in e))

none_any : {A : Type 0} (p : A → Bool) (xs : List A) → ((x : A) → p x ≡ false) → list_any p xs ≡ false
none_any p [] h = refl
none_any p (x ∷ xs) h = ap (λ b. b || list_any p xs) (h x) ∙ none_any p xs h

not_both : (a b : Bool) → (a || b) ≡ not (not a && not b)
not_both true b = refl
not_both false true = refl
not_both false false = refl

module _ (def : LineDef) (past : List Entry) (valid : IsValid def) (legal : IsLegalPast def past) where
  abbrev at_work : DevNo → Bool
  at_work d = is_woken past d || is_running past d

  abbrev freed_at_work : DevNo → Bool
  freed_at_work d = is_being_freed past d && at_work d

  freed_told : (o : Option (Actor × DevNo)) → freeing past ≡ o → is_freed_at_work def past ≡ freed_in (threads_of def past) o
  freed_told None none =
      let free : holds_mutex past ≡ false = mutex_is def past valid legal ∙ ap is_some none in
      none_any (λ (x : DeviceDef). freed_at_work x.dev) def.devices
      (λ x. ap (λ b. b && at_work x.dev) (none_freed def past (kept def past valid legal) free x.dev))
  freed_told (Some f) under =
      sym (freed_is def past valid legal f.0 f.1 under) ∙ (not_both (is_woken past f.1) (is_running past f.1) ∙ ap not (sym (idle_is def past valid legal f.1)))

  pub blocks_are : blocks_at def past ≡ blocks_by (state_of def past)
  blocks_are =
      ap (λ b. record { flow = has_flow def past; threads = b; mutex = holds_mutex past; freed = is_freed_at_work def past }) (at_work_is past def.devices)
      ∙ (ap (λ b. record {
        flow = has_flow def past;
        threads = ltb 0 (active_in (threads_of def past));
        mutex = b;
        freed
            = is_freed_at_work def past;
      }) (mutex_is def past valid legal)
      ∙ ap (λ b. record {
        flow = has_flow def past;
        threads = ltb 0 (active_in (threads_of def past));
        mutex
            = is_some (freeing past);
        freed = b;
      }) (freed_told (freeing past) refl))
