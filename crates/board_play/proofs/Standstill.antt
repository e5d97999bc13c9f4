-- No standstill: if nobody can move, whoever isn't done is hung or held up, and so is each driver whose script isn't
-- at its end.
use Rattle.std.proofs.Common.{◌≡◌, ◌⊎◌, inl, inr, ℕ, zero, suc, ◌+◌, ◌≤◌, Bool, true, false, ◌&&◌, cond, is_some}
use Rattle.std.proofs.Common.{IsSome, Option, Some, None, List, [], ◌∷◌, reverse, take, slice_get, refl, sym, ap, ◌∙◌}
use Rattle.std.proofs.Common.{subst, arith}
use Rattle.std.specs.List.{All}
use Rattle.std.specs.Option.{IfSome}
use Rattle.std.proofs.lemmas.Bool.{false_from_ne_true}
use Rattle.std.proofs.lemmas.List.{reverse-reverse}
use Rattle.std.proofs.lemmas.List.Elements.{All-head, All-tail}
use Rattle.irq_base.specs.declared.calls.Call.{Call}
use Rattle.irq_base.specs.declared.calls.Call.TheVariants as calls
use Rattle.irq_base.specs.declared.devices.DeviceDef.{DeviceDef}
use Rattle.irq_base.specs.declared.entries.Actor.{Actor}
use Rattle.irq_base.specs.declared.entries.Actor.TheVariants as actors
use Rattle.irq_base.specs.declared.entries.Entry.{Entry}
use Rattle.irq_base.specs.declared.numbers.CpuNo.{CpuNo}
use Rattle.irq_base.specs.declared.numbers.DevNo.{DevNo}
use Rattle.irq_base.specs.declared.numbers.DriverNo.{DriverNo}
use Rattle.irq_base.specs.declared.numbers.LineNo.{LineNo}
use Rattle.irq_model.specs.Due.{due_call}
use Rattle.irq_model.specs.Kinds.{same_line, same_driver, is_take}
use Rattle.irq_model.specs.Lines.{has_device}
use Rattle.irq_model.specs.Next.{next_of_thread, next_of_driver, next_past}
use Rattle.irq_model.specs.Rounds.{flow, is_cpu}
use Rattle.irq_model.specs.Signal.{target}
use Rattle.irq_model.specs.ValidRuns.{HasValidRuns, NeverWaits}
use Rattle.irq_model.specs.Waits.{IsAtRest, IsHungPast, IsCaughtPast, NobodyEndsWaits, is_unfinished_actor, mutex_holder}
use Rattle.irq_model.proofs.Same.{same_self_cpu, same_self_line}
use Rattle.irq_laws.specs.Actors.{due_of_actor}
use Rattle.irq_laws.proofs.Chosen.{the_same}
use Rattle.irq_laws.proofs.ImpliesDriver.{handler_works}
use Rattle.irq_laws.proofs.Standstill.{no_standstill}
use Rattle.play_laws.proofs.Moves.{flow_goes_on, nobody_caught}
use Rattle.play_laws.proofs.NobodyHangs.{holder_wants_not, nobody_hangs}
use Rattle.play_laws.proofs.Rest.{caught_rests}
use Rattle.board_def.specs.Rules.{IsBoard}
use Rattle.board_def.specs.Seen.{BoardSeen}
use Rattle.board_play.specs.Current.{calls_on, current_line}
use Rattle.board_play.specs.Hanging.{NobodyHangs, IsCaughtElsewhere, MayBeDue, IsUntouched}
use Rattle.board_play.specs.Kept.{AreKept}
use Rattle.board_play.specs.Lines.{BoardLine, defs_of, find_line}
use Rattle.board_play.specs.Order.{device_line, flow_line, due_line, or_line, line_for, move_on, due_on, due_move}
use Rattle.board_play.proofs.Counting.{all_complete, not_all_complete}
use Rattle.board_play.proofs.Flows.{has_the_flow, line_due, no_line_due, flow_line_is, in_flow_or_take}
use Rattle.board_play.proofs.KeptAlways.{apart_kept}
use Rattle.board_play.proofs.Listed.{def_at}
use Rattle.board_play.proofs.Members.{find_there}
use Rattle.board_play.proofs.Moves.{Stands, line_stands}
use Rattle.board_play.proofs.Moving.{begun_is_current}
use Rattle.board_play.proofs.OfBoard.{AreValid, valid_defs, valid_runs_defs, device_found, calls_fit}
use Rattle.board_play.proofs.Parts.{the_line}
use Rattle.board_play.proofs.Script.{is_on, in_all, done, current, no_current}

none_due : (line : LineNo) (o : Option Entry) → move_on line o ≡ None → o ≡ None
none_due line None h = refl
none_due line (Some e) h = cc

-- an actor that can't move has nothing due on its line
rests_on : (board : BoardSeen) (lines : List BoardLine) (a : Actor) (x : BoardLine) → line_for board lines a ≡ Some x
    → due_move board lines a ≡ None → next_past x.def x.past a ≡ None
rests_on board lines a x its rest = none_due x.def.line (next_past x.def x.past a) (ap (λ (o : Option BoardLine). due_on o a) (sym its) ∙ rest)

not_some : (o : Option Entry) → is_some o ≡ true → o ≡ None → ⊥
not_some None some none = cc
not_some (Some e) some none = cc

pub nobody_caught_elsewhere : (lines : List BoardLine) → NobodyHangs lines → (line : LineNo) (a : Actor) → IsCaughtElsewhere lines line a → ⊥
nobody_caught_elsewhere lines unhung line a c = nobody_caught c.of.def c.of.past (λ b. unhung c.place c.of b c.at) a c.caught

-- ---- once no thread and no processor of the board can move

pub valid_runs_at : (board : BoardSeen) → IsBoard board → (lines : List BoardLine) → AreKept board lines → (i : ℕ) (x : BoardLine)
    → slice_get lines i ≡ Some x → HasValidRuns x.def
valid_runs_at board is lines k i x at = valid_runs_defs board is i x.def (def_at board lines k i x at)

module _ (board : BoardSeen) (is : IsBoard board) (lines : List BoardLine) (k : AreKept board lines) where
  -- no thread has an entry due on any line
  pub threads_rest : ((d : DevNo) → due_move board lines (actors.Thread d) ≡ None) → (i : ℕ) (x : BoardLine)
      → slice_get lines i ≡ Some x → (d : DevNo) → next_past x.def x.past (actors.Thread d) ≡ None
  threads_rest rest i x at d = by_device (has_device x.def d) refl
    where
      here : has_device x.def d ≡ true → next_past x.def x.past (actors.Thread d) ≡ None
      here named =
          let f = device_found board is i x.def (def_at board lines k i x at) d named in
          rests_on board lines (actors.Thread d) x
          (ap (λ (o : Option DeviceDef). device_line lines o) f.found
          ∙ (ap (λ (l : LineNo). find_line lines l) f.on_line ∙ find_there lines (apart_kept board is lines k) i x at))
          (rest d)

      by_device : (b : Bool) → has_device x.def d ≡ b → next_past x.def x.past (actors.Thread d) ≡ None
      by_device true named = here named
      by_device false other = ap (λ (b : Bool). cond b (next_of_thread x.def d x.past) None) other

  -- a processor that can't move, and has a flow, hangs in it
  hung_in_flow : ((c : CpuNo) → due_move board lines (actors.Cpu c) ≡ None) → (c : CpuNo) (y : BoardLine) → flow_line lines c ≡ Some y
      → IsHungPast y.def y.past (actors.Cpu c)
  hung_in_flow rest c y its = by_case (goes_on (line_stands board lines (actors.Cpu c) y on))
    where
      on : line_for board lines (actors.Cpu c) ≡ Some y
      on = ap (λ (o : Option BoardLine). or_line o (due_line lines c)) its

      goes_on : Stands lines y → IsSome (next_past y.def y.past (actors.Cpu c)) ⊎ IsHungPast y.def y.past (actors.Cpu c)
      goes_on s = flow_goes_on y.def y.past (valid_runs_at board is lines k s.place y s.at) (k.legal s.place y s.at) c (has_the_flow lines c y its)

      by_case : IsSome (next_past y.def y.past (actors.Cpu c)) ⊎ IsHungPast y.def y.past (actors.Cpu c) → IsHungPast y.def y.past (actors.Cpu c)
      by_case (inl some) = absurd (not_some (next_past y.def y.past (actors.Cpu c)) some (rests_on board lines (actors.Cpu c) y on (rest c)))
      by_case (inr hung) = hung

  -- what is due of a processor is a take, and it spins on another line
  pub spins_elsewhere : ((c : CpuNo) → due_move board lines (actors.Cpu c) ≡ None) → (i : ℕ) (x : BoardLine) (c : CpuNo) (e : Entry)
      → slice_get lines i ≡ Some x → next_past x.def x.past (actors.Cpu c) ≡ Some e
      → IsCaughtElsewhere lines x.def.line (actors.Cpu c) × (is_take e ≡ true)
  spins_elsewhere rest i x c e at due = by_flow (flow_line lines c) refl
    where
      not_both : {P : Type 0} → next_past x.def x.past (actors.Cpu c) ≡ None → P
      not_both none = let n : ◌≡◌ {A = Option Entry} None (Some e) = sym none ∙ due in cc

      by_due : (o : Option BoardLine) → flow_line lines c ≡ None → due_line lines c ≡ o
          → IsCaughtElsewhere lines x.def.line (actors.Cpu c) × (is_take e ≡ true)
      by_due None no_flow none = not_both (no_line_due lines c none i x at)
      by_due (Some y) no_flow its =
          let on : line_for board lines (actors.Cpu c) ≡ Some y = ap (λ (o : Option BoardLine). or_line o (due_line lines c)) no_flow ∙ its in
          absurd (not_some (next_past y.def y.past (actors.Cpu c)) (line_due lines c y its) (rests_on board lines (actors.Cpu c) y on (rest c)))

      other : (y : BoardLine) → IsCaughtPast y.def y.past (actors.Cpu c) → y ≡ x → ⊥
      other y caught same = not_both (caught_rests x.def x.past (actors.Cpu c)
          (subst (λ (z : BoardLine). IsCaughtPast z.def z.past (actors.Cpu c)) same caught))

      takes : (y : BoardLine) → flow_line lines c ≡ Some y → IsCaughtPast y.def y.past (actors.Cpu c)
          → (is_cpu c (flow x.def x.past) ≡ true) ⊎ ((target x.def x.past ≡ Some c) × (is_take e ≡ true)) → is_take e ≡ true
      takes y its caught (inl in_flow) = absurd (other y caught (the_same y x (sym its ∙ flow_line_is lines k.one_flow c i x at in_flow)))
      takes y its caught (inr take) = take.1

      spins : (y : BoardLine) → flow_line lines c ≡ Some y → IsCaughtPast y.def y.past (actors.Cpu c) → Stands lines y
          → IsCaughtElsewhere lines x.def.line (actors.Cpu c)
      spins y its caught s = record {
        place = s.place;
        of = y;
        at = s.at;
        other = λ same. other y caught (the_line lines (apart_kept board is lines k) s.place i y x s.at at same);
        caught = caught;
      }

      by_flow : (o : Option BoardLine) → flow_line lines c ≡ o → IsCaughtElsewhere lines x.def.line (actors.Cpu c) × (is_take e ≡ true)
      by_flow None none = by_due (due_line lines c) none refl
      by_flow (Some y) its =
          let caught : IsCaughtPast y.def y.past (actors.Cpu c) = inl (hung_in_flow rest c y its) in
          let on : line_for board lines (actors.Cpu c) ≡ Some y = ap (λ (o : Option BoardLine). or_line o (due_line lines c)) its in
          (spins y its caught (line_stands board lines (actors.Cpu c) y on), takes y its caught (in_flow_or_take x.def x.past c e due))

  -- where nobody hangs no processor has an entry due either
  pub cpus_rest : NobodyHangs lines → ((c : CpuNo) → due_move board lines (actors.Cpu c) ≡ None) → (i : ℕ) (x : BoardLine)
      → slice_get lines i ≡ Some x → (c : CpuNo) → next_past x.def x.past (actors.Cpu c) ≡ None
  cpus_rest unhung rest i x at c = by_next (next_past x.def x.past (actors.Cpu c)) refl
    where
      by_next : (o : Option Entry) → next_past x.def x.past (actors.Cpu c) ≡ o → next_past x.def x.past (actors.Cpu c) ≡ None
      by_next None none = none
      by_next (Some e) due = absurd (nobody_caught_elsewhere lines unhung x.def.line (actors.Cpu c) (spins_elsewhere rest i x c e at due).0)

-- ---- once nobody can

module _ (board : BoardSeen) (is : IsBoard board) (valid : AreValid board) (lines : List BoardLine)
    (k : AreKept board lines) (rest : (a : Actor) → due_move board lines a ≡ None) where
  threads_still : (i : ℕ) (x : BoardLine) → slice_get lines i ≡ Some x → (d : DevNo) → next_past x.def x.past (actors.Thread d) ≡ None
  threads_still = threads_rest board is lines k (λ d. rest (actors.Thread d))

  its_flow_rests : (i : ℕ) (x : BoardLine) → slice_get lines i ≡ Some x → (c : CpuNo) → is_cpu c (flow x.def x.past) ≡ true
      → next_past x.def x.past (actors.Cpu c) ≡ None
  its_flow_rests i x at c its =
      rests_on board lines (actors.Cpu c) x
      (ap (λ (o : Option BoardLine). or_line o (due_line lines c)) (flow_line_is lines k.one_flow c i x at its)) (rest (actors.Cpu c))

  driver_rests : (r : DriverNo) (x : BoardLine) → current_line board.calls lines r ≡ Some x → next_past x.def x.past (actors.Driver r) ≡ None
  driver_rests r x its = rests_on board lines (actors.Driver r) x its (rest (actors.Driver r))

  -- who frees a device on the line has no step there
  holder_rests : (i : ℕ) (x : BoardLine) → slice_get lines i ≡ Some x → (a : Actor) → mutex_holder x.past ≡ Some a → next_past x.def x.past a ≡ None
  holder_rests i x at a held = by_actor a (holder_wants_not x.def x.past a (valid i x.def (def_at board lines k i x at)) (k.legal i x at) held)
    where
      by_actor : (a : Actor) → (d : DevNo) × (n : ℕ) × (due_of_actor x.def a x.past ≡ Some (calls.Free d, suc n)) → next_past x.def x.past a ≡ None
      by_actor (actors.Thread d) w = threads_still i x at d
      by_actor (actors.Cpu c) w = its_flow_rests i x at c (handler_works x.def c (calls.Free w.0, suc w.1) x.past w.2).of_flow
      by_actor (actors.Driver r) w =
          let o = k.in_order r in
          driver_rests r x (begun_is_current lines board.calls (apart_kept board is lines k) r o.0 o.1 i x (calls.Free w.0) w.1 at w.2)

  ends : (i : ℕ) (x : BoardLine) → slice_get lines i ≡ Some x → NobodyEndsWaits x.def x.past
  ends i x at = record {
    threads = threads_still i x at;
    flow_cpu = λ c is. its_flow_rests i x at c (ap (is_cpu c) is ∙ same_self_cpu c);
    holder = holder_rests i x at;
  }

  -- whoever isn't done on a line, and has no entry due there, is hung or held up
  pub unfinished_wait : (i : ℕ) (x : BoardLine) (a : Actor) → slice_get lines i ≡ Some x → is_unfinished_actor x.def x.past a ≡ true
      → next_past x.def x.past a ≡ None → IsCaughtPast x.def x.past a
  unfinished_wait i x a at unfinished none =
      no_standstill x.def x.past (valid i x.def (def_at board lines k i x at)) (valid_runs_at board is lines k i x at) (k.legal i x at)
      (ends i x at) a unfinished none

  -- the current call of a driver isn't complete
  current_due : (r : DriverNo) (x : BoardLine) (i : ℕ) → slice_get lines i ≡ Some x
      → current_line board.calls lines r ≡ Some x → due_call x.def r x.past ≡ None → ⊥
  current_due r x i at its none =
      let c = current lines r [] board.calls x its in
      let on : is_on x.def.line r c.call ≡ true =
      ap (λ (l : LineNo). same_line l x.def.line && same_driver r c.call.driver) c.line
      ∙ (ap (λ (b : Bool). b && same_driver r c.call.driver) (same_self_line x.def.line) ∙ c.mine) in
      let below = in_all x.def.line r board.calls c.place c.call c.at on in
      let waits : done x r ≤ calls_on x.def.line r [] + calls_on x.def.line r (take c.place board.calls) = c.waits in
      let all = all_complete x.def r x.past none in
      let fits = calls_fit board i x.def (def_at board lines k i x at) r in
      omega (arith, below, waits, all, fits)

  -- a driver whose script isn't at its end is hung or held up
  pub scripts_wait : (r : DriverNo) (x : BoardLine) → current_line board.calls lines r ≡ Some x → IsCaughtPast x.def x.past (actors.Driver r)
  scripts_wait r x its = by_due (due_call x.def r x.past) refl
    where
      s : Stands lines x
      s = line_stands board lines (actors.Driver r) x its

      by_due : (o : Option (Call × ℕ)) → due_call x.def r x.past ≡ o → IsCaughtPast x.def x.past (actors.Driver r)
      by_due None due = absurd (current_due r x s.place s.at its due)
      by_due (Some z) due = unfinished_wait s.place x (actors.Driver r) s.at (ap is_some due) (driver_rests r x its)

  -- a driver whose script is at its end has no call due
  calls_end : (i : ℕ) (x : BoardLine) → slice_get lines i ≡ Some x → (r : DriverNo) → current_line board.calls lines r ≡ None
      → due_call x.def r x.past ≡ None
  calls_end i x at r end = by_due (due_call x.def r x.past) refl
    where
      by_due : (o : Option (Call × ℕ)) → due_call x.def r x.past ≡ o → due_call x.def r x.past ≡ None
      by_due None due = due
      by_due (Some z) due =
          absurd
          (let all = no_current lines r [] board.calls end x (find_there lines (apart_kept board is lines k) i x at) (omega arith) in
          let fits = calls_fit board i x.def (def_at board lines k i x at) r in
          let less = not_all_complete x.def r x.past z due in
          omega (arith, all, fits, less))

  -- what a driver would still do: it waits on another line
  driver_waits : (i : ℕ) (x : BoardLine) (r : DriverNo) (e : Entry) → slice_get lines i ≡ Some x → next_past x.def x.past (actors.Driver r) ≡ Some e
      → IsCaughtElsewhere lines x.def.line (actors.Driver r)
  driver_waits i x r e at due = by_line (current_line board.calls lines r) refl
    where
      not_both : {P : Type 0} → next_past x.def x.past (actors.Driver r) ≡ None → P
      not_both none = let n : ◌≡◌ {A = Option Entry} None (Some e) = sym none ∙ due in cc

      elsewhere : (y : BoardLine) → current_line board.calls lines r ≡ Some y → Stands lines y → IsCaughtElsewhere lines x.def.line (actors.Driver r)
      elsewhere y its s = record {
        place = s.place;
        of = y;
        at = s.at;
        other = λ same. not_both (subst (λ (z : BoardLine). next_past z.def z.past (actors.Driver r) ≡ None)
            (the_line lines (apart_kept board is lines k) s.place i y x s.at at same) (driver_rests r y its));
        caught = scripts_wait r y its;
      }

      by_line : (o : Option BoardLine) → current_line board.calls lines r ≡ o → IsCaughtElsewhere lines x.def.line (actors.Driver r)
      by_line None none = not_both (ap (λ (o : Option (Call × ℕ)). next_of_driver x.def r x.past o) (calls_end i x at r none))
      by_line (Some y) its = elsewhere y its (line_stands board lines (actors.Driver r) y its)

  -- what is still due on a line
  pub still_due : (i : ℕ) (x : BoardLine) (a : Actor) (e : Entry) → slice_get lines i ≡ Some x → next_past x.def x.past a ≡ Some e → MayBeDue lines x a e
  still_due i x (actors.Thread d) e at due = let n : ◌≡◌ {A = Option Entry} None (Some e) = sym (threads_still i x at d) ∙ due in cc
  still_due i x (actors.Cpu c) e at due = spins_elsewhere board is lines k (λ c. rest (actors.Cpu c)) i x c e at due
  still_due i x (actors.Driver r) e at due = driver_waits i x r e at due

  -- a line that nobody who hangs has to do with
  untouched_still : (i : ℕ) (x : BoardLine) → slice_get lines i ≡ Some x → IsUntouched lines x → (a : Actor) → next_past x.def x.past a ≡ None
  untouched_still i x at u a = by_next a (next_past x.def x.past a) refl
    where
      not_due : (a : Actor) (e : Entry) → next_past x.def x.past a ≡ Some e → MayBeDue lines x a e → ⊥
      not_due (actors.Thread d) e due may = may
      not_due (actors.Cpu c) e due may = by_row (in_flow_or_take x.def x.past c e due)
        where
          by_row : (is_cpu c (flow x.def x.past) ≡ true) ⊎ ((target x.def x.past ≡ Some c) × (is_take e ≡ true)) → ⊥
          by_row (inl its) = let n : ◌≡◌ {A = Option Entry} None (Some e) = sym (its_flow_rests i x at c its) ∙ due in cc
          by_row (inr take) = subst (λ (o : Option CpuNo). IfSome o (λ c. IsCaughtElsewhere lines x.def.line (actors.Cpu c) → ⊥)) take.0 u.takes may.0
      not_due (actors.Driver r) e due may = by_due (due_call x.def r x.past) refl due
        where
          by_due : (o : Option (Call × ℕ)) → due_call x.def r x.past ≡ o → next_of_driver x.def r x.past o ≡ Some e → ⊥
          by_due None none due = cc
          by_due (Some z) some due = u.calls r (ap is_some some) may

      by_next : (a : Actor) (o : Option Entry) → next_past x.def x.past a ≡ o → next_past x.def x.past a ≡ None
      by_next a None none = none
      by_next a (Some e) due = absurd (not_due a e due (still_due i x a e at due))

  pub untouched_rest : (i : ℕ) (x : BoardLine) → slice_get lines i ≡ Some x → IsUntouched lines x → IsAtRest x.def (reverse x.past)
  untouched_rest i x at u =
      subst (λ (p : List Entry). ((a : Actor) → next_past x.def p a ≡ None) → ((a : Actor) → is_unfinished_actor x.def p a ≡ false)
      → IsAtRest x.def (reverse x.past)) (reverse-reverse x.past) (λ still done. record { still = still; done = done })
      (untouched_still i x at u)
      (λ a. false_from_ne_true (is_unfinished_actor x.def x.past a) (λ is. u.here a (unfinished_wait i x a at is (untouched_still i x at u a))))

-- ---- where nobody hangs

-- nobody has to do with one who hangs
pub all_untouched : (lines : List BoardLine) → NobodyHangs lines → (i : ℕ) (x : BoardLine) → slice_get lines i ≡ Some x → IsUntouched lines x
all_untouched lines unhung i x at = record {
  here = nobody_caught x.def x.past (λ a. unhung i x a at);
  takes = by_target (target x.def x.past);
  calls = λ r some. nobody_caught_elsewhere lines unhung x.def.line (actors.Driver r);
}
  where
    by_target : (o : Option CpuNo) → IfSome o (λ c. IsCaughtElsewhere lines x.def.line (actors.Cpu c) → ⊥)
    by_target None = tt
    by_target (Some c) = nobody_caught_elsewhere lines unhung x.def.line (actors.Cpu c)

-- where no run of the board waits
all_at : {A : Type 0} (P : A → Type 0) (xs : List A) → All P xs → (i : ℕ) (x : A) → slice_get xs i ≡ Some x → P x
all_at P [] all i x at = cc
all_at P (y ∷ ys) all zero x at = subst P (the_same y x at) (All-head P y ys all)
all_at P (y ∷ ys) all (suc i) x at = all_at P ys (All-tail P y ys all) i x at

pub unwaiting_boards_settle : (board : BoardSeen) (lines : List BoardLine) → IsBoard board → AreKept board lines → All NeverWaits (defs_of board)
    → NobodyHangs lines
unwaiting_boards_settle board lines is k waits i x a at =
    let there = def_at board lines k i x at in
    nobody_hangs x.def x.past (valid_defs board is i x.def there) (valid_runs_at board is lines k i x at)
    (all_at NeverWaits (defs_of board) waits i x.def there) (k.legal i x at) a
