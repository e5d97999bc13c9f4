-- A run whose next call may not wait may make its step.
use Rattle.std.proofs.Common.{◌≡◌, ℕ, zero, suc, Bool, true, false, ◌||◌, ◌&&◌, cond, is_some, option_map, Option, Some, None, List, [], ◌∷◌}
use Rattle.std.proofs.Common.{take, drop, slice_get, refl, sym, ap, subst, ◌∙◌}
use Rattle.std.proofs.lemmas.Bool.{and_parts}
use Rattle.std.proofs.lemmas.List.Elements.{recursion_from_All}
use Rattle.std.proofs.lemmas.Option.{same_Some}
use Rattle.std.specs.List.{list_any, AllByRecursion}
use Rattle.irq_base.specs.declared.calls.Call.{Call}
use Rattle.irq_base.specs.declared.calls.Call.TheVariants as calls
use Rattle.irq_base.specs.declared.devices.Kind.{Kind}
use Rattle.irq_base.specs.declared.devices.Part.{Part}
use Rattle.irq_base.specs.declared.devices.Part.TheVariants as parts
use Rattle.irq_base.specs.declared.entries.CallEntry.{CallEntry}
use Rattle.irq_base.specs.declared.entries.Entry.{Entry}
use Rattle.irq_base.specs.declared.lines.LineDef.{LineDef}
use Rattle.irq_base.specs.declared.numbers.DevNo.{DevNo}
use Rattle.irq_base.specs.declared.waiting.WaitFor.TheVariants as waits
use Rattle.irq_laws.specs.Blocks.{block_of}
use Rattle.irq_model.specs.Kinds.{same_dev}
use Rattle.irq_model.specs.Lines.{has_device, kind_of, run_script, same_part, script_in}
use Rattle.irq_model.specs.ValidRuns.{HasValidRuns, may_stand, may_wait}
use Rattle.irq_model.proofs.Same.{dev_from_same}
use Rattle.irq_model.specs.Laid.{with_count}
use Rattle.run_scripts.specs.Groups.{span_of}
use Rattle.run_scripts.specs.Places.{place_at}
use Rattle.line_marks.specs.Calls.{step_by}
use Rattle.line_marks.specs.Places.{call_at}
use Rattle.line_marks.specs.Runs.{due_in_run_at, makes_calls_at}
use Rattle.line_marks.specs.State.{StateSeen}
use Rattle.line_state.specs.Seen.{LineStateSeen, IsScripted}

-- ---- what stands in a script

part_from_same : (a b : Part) → same_part a b ≡ true → a ≡ b
part_from_same parts.Primary parts.Primary h = refl
part_from_same parts.Thread parts.Thread h = refl
part_from_same parts.Primary parts.Thread h = cc
part_from_same parts.Thread parts.Primary h = cc

module _ (def : LineDef) (d : DevNo) (part : Part) where
  abbrev MayStand : Call → Type 0
  MayStand c = may_stand (kind_of def d) part d c ≡ true

  own_stands : (x : DevNo × Part × Call) (c : Call) → (same_dev d x.0 && same_part part x.1) ≡ true → x.2 ≡ c
      → may_stand (kind_of def x.0) x.1 x.0 x.2 ≡ true → MayStand c
  own_stands x c is same h =
      let p = and_parts (same_dev d x.0) (same_part part x.1) is in
      let dev : x.0 ≡ d = sym (dev_from_same d x.0 p.0) in
      let its : x.1 ≡ part = sym (part_from_same part x.1 p.1) in
      subst MayStand same (subst (λ (y : Part). may_stand (kind_of def d) y d x.2 ≡ true) its
      (subst (λ (y : DevNo). may_stand (kind_of def y) x.1 y x.2 ≡ true) dev h))

  stands_in : (runs : List (DevNo × Part × Call)) (i : ℕ) (c : Call)
      → AllByRecursion (λ x. may_stand (kind_of def x.0) x.1 x.0 x.2 ≡ true) runs → slice_get (script_in runs d part) i ≡ Some c → MayStand c
  stands_in [] i c h found = cc
  stands_in (x ∷ xs) i c h found = by_test (same_dev d x.0 && same_part part x.1) refl i found (λ j f. stands_in xs j c h.1 f)
    where
      by_test : (b : Bool) → (same_dev d x.0 && same_part part x.1) ≡ b → (j : ℕ)
          → slice_get (cond b (x.2 ∷ script_in xs d part) (script_in xs d part)) j ≡ Some c
          → ((k : ℕ) → slice_get (script_in xs d part) k ≡ Some c → MayStand c) → MayStand c
      by_test true is zero f rest = own_stands x c is (same_Some x.2 c f) h.0
      by_test true is (suc j) f rest = rest j f
      by_test false is j f rest = rest j f

  stands_at : HasValidRuns def → (i : ℕ) (c : Call) → slice_get (run_script def d part) i ≡ Some c → MayStand c
  stands_at runs i c found = stands_in def.runs i c
      (recursion_from_All (λ x. may_stand (kind_of def x.0) x.1 x.0 x.2 ≡ true) def.runs runs.stand) found

-- ---- what is none of the calls is none of a part of them

none_first : (a b : Bool) → (a || b) ≡ false → a ≡ false
none_first true b h = h
none_first false b h = refl

none_rest : (a b : Bool) → (a || b) ≡ false → b ≡ false
none_rest true b h = cc
none_rest false b h = h

none_dropped : (n : ℕ) (xs : List Call) → list_any may_wait xs ≡ false → list_any may_wait (drop n xs) ≡ false
none_dropped zero xs h = h
none_dropped (suc n) [] h = h
none_dropped (suc n) (x ∷ xs) h = none_dropped n xs (none_rest (may_wait x) (list_any may_wait xs) h)

none_taken : (n : ℕ) (xs : List Call) → list_any may_wait xs ≡ false → list_any may_wait (take n xs) ≡ false
none_taken zero xs h = refl
none_taken (suc n) [] h = h
none_taken (suc n) (x ∷ xs) h =
    ap (λ b. b || list_any may_wait (take n xs)) (none_first (may_wait x) (list_any may_wait xs) h)
    ∙ none_taken n xs (none_rest (may_wait x) (list_any may_wait xs) h)

none_at : (xs : List Call) (i : ℕ) (c : Call) → list_any may_wait xs ≡ false → slice_get xs i ≡ Some c → may_wait c ≡ false
none_at [] i c h found = cc
none_at (x ∷ xs) zero c h found = ap may_wait (sym (same_Some x c found)) ∙ none_first (may_wait x) (list_any may_wait xs) h
none_at (x ∷ xs) (suc i) c h found = none_at xs i c (none_rest (may_wait x) (list_any may_wait xs) h) found

-- ---- such a call has a step

-- the call has a step, and waits for nothing
pub record Goes (def : LineDef) (s : StateSeen) (c : Call) (n : ℕ) : Type 0 where
  pub step : is_some (step_by def s (c, n)) ≡ true
  pub unblocked : block_of c n ≡ waits.Nothing

goes : (def : LineDef) (s : StateSeen) (kind : Kind) (part : Part) (d : DevNo) (c : Call) (n : ℕ) → may_stand kind part d c ≡ true
    → may_wait c ≡ false → Goes def s c n
goes def s kind part d calls.DisableNosync n stands unwaiting = record { step = refl; unblocked = refl }
goes def s kind part d calls.Enable n stands unwaiting = record { step = refl; unblocked = refl }
goes def s kind part d (calls.Quiet x) n stands unwaiting = record { step = refl; unblocked = refl }
goes def s kind part d (calls.Serve x) n stands unwaiting = record { step = refl; unblocked = refl }
goes def s kind part d (calls.Wake x) n stands unwaiting = record { step = refl; unblocked = refl }
goes def s kind part d (calls.Arm x) n stands unwaiting = record { step = refl; unblocked = refl }
goes def s kind part d calls.Disable n stands unwaiting = cc
goes def s kind part d calls.Sync n stands unwaiting = cc
goes def s kind part d (calls.Free x) n stands unwaiting = cc
goes def s kind parts.Primary d calls.SyncHard n stands unwaiting = cc
goes def s kind parts.Thread d calls.SyncHard n stands unwaiting = cc
goes def s kind parts.Primary d calls.DisableHard n stands unwaiting = cc
goes def s kind parts.Thread d calls.DisableHard n stands unwaiting = cc
goes def s kind parts.Primary d (calls.Ask x) n stands unwaiting = cc
goes def s kind parts.Thread d (calls.Ask x) n stands unwaiting = cc
goes def s kind parts.Primary d (calls.Request x flags) n stands unwaiting = cc
goes def s kind parts.Thread d (calls.Request x flags) n stands unwaiting = cc
goes def s kind parts.Primary d (calls.Affinity mask) n stands unwaiting = cc
goes def s kind parts.Thread d (calls.Affinity mask) n stands unwaiting = cc
goes def s kind parts.Primary d (calls.Moment at) n stands unwaiting = cc
goes def s kind parts.Thread d (calls.Moment at) n stands unwaiting = cc

pub some_step : (f : CallEntry → Entry) (o : Option CallEntry) → is_some o ≡ true → is_some (option_map f o) ≡ true
some_step f None h = h
some_step f (Some call) h = refl

module _ (def : LineDef) (l : LineStateSeen) (runs : HasValidRuns def) (scripted : IsScripted def l)
    (unwaiting : list_any may_wait l.fixed.calls.items ≡ false) where
  call_goes : (d : DevNo) (part : Part) → has_device def d ≡ true → (o : Option Call) → call_at def l.state.places part d ≡ o
      → (n : ℕ) (due : Call × ℕ) → with_count o n ≡ Some due → Goes def l.state due.0 due.1
  call_goes d part there None is n due h = cc
  call_goes d part there (Some c) is n due h =
      let span = span_of l.fixed.calls.spans d part in
      let place = (place_at l.state.places d part).place in
      let found : slice_get (take span.len (drop span.from l.fixed.calls.items)) place ≡ Some c =
      ap (λ (cs : List Call). slice_get cs place) (scripted.runs.calls d part there) ∙ is in
      let unwaiting_call : may_wait c ≡ false = none_at (take span.len (drop span.from l.fixed.calls.items)) place c
      (none_taken span.len (drop span.from l.fixed.calls.items) (none_dropped span.from l.fixed.calls.items unwaiting)) found in
      subst (λ (x : Call × ℕ). Goes def l.state x.0 x.1) (same_Some (c, n) due h)
      (goes def l.state (kind_of def d) part d c n (stands_at def d part runs place c is) unwaiting_call)

  pub run_goes : (d : DevNo) (part : Part) → has_device def d ≡ true → (due : Call × ℕ) → due_in_run_at def l.state part d ≡ Some due
      → Goes def l.state due.0 due.1
  run_goes d part there due is = by_test (makes_calls_at def l.state part d) is
    where
      by_test : (b : Bool) → cond b (with_count (call_at def l.state.places part d) (place_at l.state.places d part).within) None ≡ Some due
          → Goes def l.state due.0 due.1
      by_test true h = call_goes d part there (call_at def l.state.places part d) refl (place_at l.state.places d part).within due h
      by_test false h = cc
