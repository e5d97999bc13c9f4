-- A state that was read again: what is due of it, and what may be made of it.
use Rattle.std.proofs.Common.{◌≡◌, ℕ, ◌-◌, ◌^◌, ◌<◌, ◌≤◌, Bool, true, false, ◌==◌, not, Option, Some, None, option_map, List}
use Rattle.std.proofs.Common.{◌∷◌, length, sym, ap, subst, ◌∙◌, arith}
use Rattle.irq_base.specs.declared.calls.Flags.{Flags}
use Rattle.irq_base.specs.declared.entries.Actor.{Actor}
use Rattle.irq_base.specs.declared.entries.Entry.{Entry}
use Rattle.irq_base.specs.declared.entries.Entry.TheVariants as by
use Rattle.irq_base.specs.declared.entries.CpuEntry.TheVariants as cpus
use Rattle.irq_base.specs.declared.entries.ThreadEntry.TheVariants as threads
use Rattle.irq_base.specs.declared.entries.LinkAnswer.{LinkAnswer}
use Rattle.irq_base.specs.declared.entries.LinkAnswer.TheVariants as links
use Rattle.irq_base.specs.declared.lines.LineDef.{LineDef}
use Rattle.irq_base.specs.declared.numbers.DevNo.{DevNo}
use Rattle.irq_base.specs.declared.numbers.DriverNo.{DriverNo}
use Rattle.irq_model.specs.Legal.{IsDue}
use Rattle.irq_model.specs.Next.{next_past}
use Rattle.irq_laws.specs.LogLimit.{with_log}
use Rattle.device_table.proofs.Lowest.{own_by}
use Rattle.device_table.specs.Rows.{at, HasOwnKeys}
use Rattle.device_table.specs.Sums.{one_if}
use Rattle.act_list.specs.Actions.{has, answer_by}
use Rattle.ask_counts.specs.Rows.{HasRoom}
use Rattle.ask_counts.specs.declared.rows.AskRow.{AskRow}
use Rattle.run_scripts.specs.declared.rows.RunRow.{RunRow}
use Rattle.line_scripts.specs.Rows.{RowSeen}
use Rattle.line_marks.proofs.Bounds.{has_space}
use Rattle.line_marks.proofs.CellFollows.{is_of, is_open}
use Rattle.line_marks.proofs.DueIs.{due_is}
use Rattle.line_marks.proofs.ExpectedOf.{expected}
use Rattle.line_marks.proofs.StateFollows.{state_follows}
use Rattle.line_marks.specs.Bounded.{HasSpace}
use Rattle.line_marks.specs.DriversDue.{request_to}
use Rattle.line_marks.specs.Expected.{IsExpected, IsOpen}
use Rattle.line_marks.specs.Facts.{kind_at}
use Rattle.line_marks.specs.Next.{due_by}
use Rattle.line_marks.specs.State.{StateSeen, IsOf, state_of, state_after}
use Rattle.line_state.specs.Entries.{entry_by, driver_entry, CanCall, CanMake, CanMakeOfCpu, CanMakeOfThread, CanMakeOfDriver}
use Rattle.line_state.specs.Seen.{LineStateSeen, IsAimOf, taker_of}
use Rattle.line_state.specs.declared.due.CallStep.{CallStep}
use Rattle.line_state.specs.declared.due.CallStep.TheVariants as call_steps
use Rattle.line_state.specs.declared.due.CpuStep.{CpuStep}
use Rattle.line_state.specs.declared.due.CpuStep.TheVariants as cpu_steps
use Rattle.line_state.specs.declared.due.DriverStep.{DriverStep}
use Rattle.line_state.specs.declared.due.DriverStep.TheVariants as driver_steps
use Rattle.line_state.specs.declared.due.DueStep.{DueStep}
use Rattle.line_state.specs.declared.due.DueStep.TheVariants as steps
use Rattle.line_state.specs.declared.due.ThreadStep.{ThreadStep}
use Rattle.line_state.specs.declared.due.ThreadStep.TheVariants as thread_steps
use Rattle.line_futures.proofs.Actions.{flags_same, has_same}
use Rattle.line_futures.proofs.CanonDue.{due_same}
use Rattle.line_futures.proofs.CanonSteps.{canon_after}
use Rattle.line_futures.proofs.MadeIs.{may_follow}
use Rattle.line_futures.specs.Canon.{canon, canon_row, kept_if, without_bits, serves_at, is_working, is_thread_working}
use Rattle.line_futures.specs.Made.{IsMade, MayFollow}
use Rattle.line_futures.proofs.AsksAfter.{asks_at}
use Rattle.line_words.proofs.Past.{longer, shaped}
use Rattle.line_words.specs.Again.{unbitted}
use Rattle.line_space.proofs.ReadAt.{ReadAt}

-- ---- thread bits decide nothing

unbitted_canon : (t : StateSeen) → canon (unbitted t) ≡ canon t
unbitted_canon t =
    ap (λ (l : List (DevNo × Flags)). record (canon t) { list = record (canon t).list { actions = without_bits l } }) (flags_same t.list.actions)

-- what an entry that follows asks for is so of the canonical state, and of one with thread bits
made_canon : (e : Entry) (s : StateSeen) → IsMade e s → IsMade e (canon s)
made_canon (by.Cpu cpu (cpus.Begin dev)) s h = h
made_canon (by.Cpu cpu (cpus.Return answer dev served)) s h = h
made_canon (by.Cpu cpu (cpus.End again unmask note)) s h = h
made_canon (by.Thread dev (threads.Return handled served)) s h = h
made_canon _ s h = tt

made_bits : (e : Entry) (t : StateSeen) → IsMade e (unbitted t) → IsMade e t
made_bits (by.Cpu cpu (cpus.Begin dev)) t h = h
made_bits (by.Cpu cpu (cpus.Return answer dev served)) t h = h
made_bits (by.Cpu cpu (cpus.End again unmask note)) t h = h
made_bits (by.Thread dev (threads.Return handled served)) t h = h
made_bits _ t h = tt

one_few : (b : Bool) → one_if b < 2 ^ 32 - 1
one_few true = omega arith
one_few false = omega arith

kept_few : (b : Bool) (n : ℕ) → n < 2 ^ 32 - 1 → kept_if b n < 2 ^ 32 - 1
kept_few true n h = h
kept_few false n h = omega arith

requested : (def : LineDef) (t s : StateSeen) (r : DriverNo) (d : DevNo) (flags : Flags) (a : LinkAnswer)
    → IsExpected def (request_to def r d flags t a) s → has d s.list.actions ≡ false
requested def t s r d flags links.Linked h = h.0
requested def t s r d flags (links.Refused error) h = h.0

room_canon : (v h t : Bool) (o : Option AskRow) → HasRoom o → HasRoom (option_map (canon_row v h t) o)
room_canon v h t None room = tt
room_canon v h t (Some r) room = (room.0, kept_few v r.fresh room.1)

module _ (def : LineDef) (g : List Entry) (t : StateSeen) (again : unbitted t ≡ canon (state_of def g)) where
  pub canon_again : canon t ≡ canon (canon (state_of def g))
  canon_again = sym (unbitted_canon t) ∙ ap canon again

  -- a fact of the canonical state that thread bits don't touch
  told : (P : StateSeen → Type 0) → P (canon (state_of def g)) → P (unbitted t)
  told P h = subst P (sym again) h

  pub flow_same : t.desc.flow ≡ (state_of def g).desc.flow
  flow_same = ap (λ (x : StateSeen). x.desc.flow) again

  pub taker_same : taker_of t ≡ taker_of (state_of def g)
  taker_same = ap taker_of again

module _ {def : LineDef} {g : List Entry} {l : LineStateSeen} {scripts : List (DriverNo × RowSeen)} (read : ReadAt def g l scripts) where
  -- ---- what is due

  pub due_again : (a : Actor) → due_by def l.state scripts a ≡ next_past def g a
  due_again a =
      sym (due_same def l.state scripts a)
      ∙ (ap (λ (x : StateSeen). due_by def x scripts a) (canon_again def g l.state read.again)
      ∙ (due_same def (canon (state_of def g)) scripts a
      ∙ (due_same def (state_of def g) scripts a
      ∙ sym (due_is def g scripts read.are.calls read.places a read.valid read.legal))))

  -- ---- what the functions of the state ask for

  pub is_of_again : IsOf def l.state
  is_of_again =
      let o = is_of def g read.valid read.legal in
      record {
        trigger = ap (λ (x : StateSeen). x.cell.trigger) read.again ∙ o.trigger;
        retriggers = ap (λ (x : StateSeen). x.cell.retriggers) read.again ∙ o.retriggers;
      }

  pub aim_again : IsAimOf def l.state.aim
  aim_again = record { cpus = ap (λ (x : StateSeen). x.aim.cpus) read.again; later = ap (λ (x : StateSeen). x.aim.later) read.again }

  short : length g ≤ 100000000
  short = let few = read.few in omega (arith, few)

  space : HasSpace (state_of def g)
  space = has_space (with_log def 100000000) g (longer def read.valid) short

  room_again : (d : DevNo) → HasRoom (at l.state.asks d)
  room_again d =
      let P : Option AskRow → Type 0 = λ o. HasRoom o in
      subst P (sym (ap (λ (x : StateSeen). at x.asks d) read.again
      ∙ asks_at (serves_at (state_of def g)) (is_working (state_of def g).round.working)
      (is_thread_working (state_of def g).threads) (state_of def g).asks d))
      (room_canon (serves_at (state_of def g) d) (is_working (state_of def g).round.working d) (is_thread_working (state_of def g).threads d)
      (at (state_of def g).asks d) (space.asks d))

  depth_again : l.state.desc.depth < 2 ^ 32 - 1
  depth_again = let P : ℕ → Type 0 = λ n. n < 2 ^ 32 - 1 in subst P (sym (ap (λ (x : StateSeen). x.desc.depth) read.again)) space.depth

  rounds_again : l.state.list.rounds < 2 ^ 32 - 2
  rounds_again = let P : ℕ → Type 0 = λ n. n < 2 ^ 32 - 2 in subst P (sym (ap (λ (x : StateSeen). x.list.rounds) read.again)) (omega arith)

  handled_again : l.state.counts.counts.threads_handled < 2 ^ 32 - 1
  handled_again =
      let P : ℕ → Type 0 = λ n. n < 2 ^ 32 - 1 in
      subst P (sym (ap (λ (x : StateSeen). x.counts.counts.threads_handled) read.again))
      (one_few (not ((state_of def g).counts.counts.threads_handled == (state_of def g).counts.counts.last)))

  open_again : IsOpen def l.state
  open_again edge eoi zero =
      ap (λ (x : StateSeen). x.cell.masked) read.again
      ∙ is_open def g read.valid read.legal edge eoi (sym (ap (λ (x : StateSeen). x.desc.depth) read.again) ∙ zero)

  absent_again : (d : DevNo) → has d (state_of def g).list.actions ≡ false → has d l.state.list.actions ≡ false
  absent_again d h =
      sym (has_same d l.state.list.actions) ∙ (ap (λ (x : StateSeen). has d x.list.actions) read.again ∙ (has_same d (state_of def g).list.actions ∙ h))

  calls_again : (step : CallStep) → CanCall step l.state
  calls_again call_steps.Disable = depth_again
  calls_again _ = tt

  of_cpu_again : (step : CpuStep) → CanMakeOfCpu def step l.state
  of_cpu_again (cpu_steps.Take way) = rounds_again
  of_cpu_again (cpu_steps.Call dev step) = calls_again step
  of_cpu_again cpu_steps.End = (rounds_again, depth_again, open_again)
  of_cpu_again _ = tt

  of_thread_again : (step : ThreadStep) → CanMakeOfThread step l.state
  of_thread_again (thread_steps.Call step) = calls_again step
  of_thread_again thread_steps.Return = handled_again
  of_thread_again _ = tt

  of_driver_again : (r : DriverNo) (step : DriverStep) → IsExpected def (driver_entry def l.state r step) (state_of def g) → CanMakeOfDriver step l.state
  of_driver_again r (driver_steps.Ask dev) x = room_again dev
  of_driver_again r (driver_steps.Request dev flags) x =
      absent_again dev (requested def l.state (state_of def g) r dev flags (answer_by (kind_at l.state.facts dev) flags l.state.list.actions) x)
  of_driver_again r (driver_steps.Call step) x = calls_again step
  of_driver_again r _ x = tt

  can_again : (step : DueStep) → IsExpected def (entry_by def l.state step) (state_of def g) → CanMake def step l.state
  can_again (steps.Cpu cpu step) x = of_cpu_again step
  can_again (steps.Thread dev step) x = of_thread_again step
  can_again (steps.Driver driver step) x = of_driver_again driver step x

  pub can_due : (step : DueStep) → IsDue def (entry_by def l.state step) g → CanMake def step l.state
  can_due step due = can_again step (expected (with_log def 100000000) g (longer def read.valid) read.legal short (entry_by def l.state step) due)

  -- ---- what an entry makes of it

  module _ (e : Entry) (due : IsDue def e g) where
    follows : MayFollow e (state_of def g)
    follows = may_follow def g read.valid read.legal e due

    canon_follows : MayFollow e (canon (state_of def g))
    canon_follows = record {
      made = made_canon e (state_of def g) follows.made;
      served = omega arith;
      own = let P : List (DevNo × AskRow) → Type 0 = λ a. HasOwnKeys a in
          subst P (sym (shaped def g read.valid read.legal).asks) (own_by _ def.devices read.valid.distinct);
      own_runs = let P : List (DevNo × RunRow) → Type 0 = λ a. HasOwnKeys a in
          subst P (sym (shaped def g read.valid read.legal).runs) (own_by _ def.devices read.valid.distinct);
    }

    again_follows : MayFollow e l.state
    again_follows =
        let f = told def g l.state read.again (λ (x : StateSeen). MayFollow e x) canon_follows in
        record { made = made_bits e l.state f.made; served = f.served; own = f.own; own_runs = f.own_runs }

    pub after_again : canon (state_after def e l.state) ≡ canon (state_of def (e ∷ g))
    after_again =
        sym (canon_after def l.state e again_follows)
        ∙ (ap (λ (x : StateSeen). canon (state_after def e x)) (canon_again def g l.state read.again)
        ∙ (canon_after def (canon (state_of def g)) e canon_follows
        ∙ (canon_after def (state_of def g) e follows
        ∙ ap canon (sym (state_follows def e g read.valid (due, read.legal))))))
