-- What is due of a driver by the table of steps is due by the state.
use Rattle.std.proofs.Common.{◌≡◌, ℕ, true, not, cond, is_some, Option, Some, None}
use Rattle.std.proofs.Common.{List, refl, sym, ap, ◌∙◌, option_map}
use Rattle.irq_base.specs.declared.calls.Call.{Call}
use Rattle.irq_base.specs.declared.calls.Call.TheVariants as calls
use Rattle.irq_base.specs.declared.calls.Flags.{Flags}
use Rattle.irq_base.specs.declared.entries.Actor.TheVariants as actors
use Rattle.irq_base.specs.declared.entries.EnableAnswer.{EnableAnswer}
use Rattle.irq_base.specs.declared.entries.Entry.{Entry}
use Rattle.irq_base.specs.declared.entries.Entry.TheVariants as by
use Rattle.irq_base.specs.declared.entries.DriverEntry.TheVariants as drivers
use Rattle.irq_base.specs.declared.entries.CallEntry.{CallEntry}
use Rattle.irq_base.specs.declared.entries.LinkAnswer.{LinkAnswer}
use Rattle.irq_base.specs.declared.entries.LinkAnswer.TheVariants as links
use Rattle.irq_base.specs.declared.entries.Opened.{Opened}
use Rattle.irq_base.specs.declared.entries.Opened.TheVariants as opens
use Rattle.irq_base.specs.declared.entries.Resend.{Resend}
use Rattle.irq_base.specs.declared.lines.LineDef.{LineDef}
use Rattle.irq_base.specs.declared.numbers.DevNo.{DevNo}
use Rattle.irq_base.specs.declared.numbers.DriverNo.{DriverNo}
use Rattle.irq_laws.specs.Kept.{freeing}
use Rattle.irq_model.specs.Due.{due_call}
use Rattle.irq_model.specs.Kinds.{opened_by_enable}
use Rattle.irq_model.specs.Legal.{IsLegalPast}
use Rattle.irq_model.specs.Links.{linked, is_none_linked, linking_flags, has_spurious_mark}
use Rattle.irq_model.specs.Next.{next_past, next_of_driver, next_step, next_of_request, request_with, link_answer}
use Rattle.irq_model.specs.Next.{opened_by_request, enable_answer}
use Rattle.irq_model.specs.Valid.{IsValid}
use Rattle.act_list.specs.Actions.{is_bare, answer_by}
use Rattle.ask_counts.specs.Facts.{all_facts}
use Rattle.desc_state.specs.Desc.{resend_by, enable_by}
use Rattle.line_marks.proofs.FreeingFollows.{mutex_is}
use Rattle.line_marks.proofs.ActionsFollow.{actions_are, bare_is}
use Rattle.line_marks.proofs.CallsDue.{asked_named, resend_is, enable_is, ask_edge_is, step_is}
use Rattle.line_marks.proofs.FactsFixed.{kind_is}
use Rattle.line_marks.proofs.Listed.{mismatch_of, many_of}
use Rattle.line_marks.specs.Actions.{actions_of}
use Rattle.line_marks.specs.Calls.{step_by}
use Rattle.line_marks.specs.DriversDue.{opened_by, request_to, asks_own, driver_due}
use Rattle.line_marks.specs.Facts.{kind_at}
use Rattle.line_marks.specs.State.{state_of}

module _ (def : LineDef) (past : List Entry) (valid : IsValid def) (legal : IsLegalPast def past) where
  -- ---- a request

  pub answer_is : (d : DevNo) (flags : Flags) → link_answer def d flags past ≡ answer_by (kind_at (all_facts def) d) flags (actions_of past)
  answer_is d flags =
      rw (
        kind_is def d,
        mismatch_of (linking_flags past) flags (actions_of past) (linked past)
            (actions_are def past valid legal),
        many_of (linking_flags past) (actions_of past) (linked past)
            (actions_are def past valid legal),
      ) refl

  pub opened_is : (flags : Flags) → opened_by_request def flags past ≡ opened_by def flags (state_of def past)
  opened_is flags =
      let s = state_of def past in
      ap (λ (x : Resend). cond (is_none_linked past) (cond flags.noauto opens.No (opens.Started x))
      (cond (has_spurious_mark past) (opened_by_enable (enable_answer def past)) opens.No)) (sym (resend_is def past valid legal))
      ∙ (ap (λ (x : EnableAnswer). cond (is_none_linked past)
      (cond flags.noauto opens.No (opens.Started (resend_by def.trigger s.desc s.cell)))
      (cond (has_spurious_mark past) (opened_by_enable x) opens.No)) (sym (enable_is def past valid legal))
      ∙ ap (λ b. cond b (cond flags.noauto opens.No (opens.Started (resend_by def.trigger s.desc s.cell)))
      (cond (has_spurious_mark past) (opened_by_enable
      (enable_by (not (is_bare s.list.actions)) def.trigger s.desc s.cell)) opens.No))
      (sym (bare_is def past valid legal)))

  request_to_is : (r : DriverNo) (d : DevNo) (flags : Flags) (a : LinkAnswer)
      → request_with def r d flags past a ≡ request_to def r d flags (state_of def past) a
  request_to_is r d flags links.Linked = ap (λ (o : Opened). by.Driver r (drivers.Request flags links.Linked o d)) (opened_is flags)
  request_to_is r d flags (links.Refused error) = refl

  request_is : (r : DriverNo) (d : DevNo) (flags : Flags)
      → next_of_request def r d flags past ≡ cond (is_some (freeing past)) None
      (Some (request_to def r d flags (state_of def past)
      (answer_by (kind_at (all_facts def) d) flags (actions_of past))))
  request_is r d flags =
      ap (λ b. cond b None (Some (request_with def r d flags past (link_answer def d flags past)))) (mutex_is def past valid legal)
      ∙ (ap (λ (e : Entry). cond (is_some (freeing past)) None (Some e)) (request_to_is r d flags (link_answer def d flags past))
      ∙ ap (λ (a : LinkAnswer). cond (is_some (freeing past)) None (Some (request_to def r d flags (state_of def past) a))) (answer_is d flags))

  -- ---- every call

  made_by_driver : (r : DriverNo) (due : Call × ℕ) → option_map (by.DriverCall r) (next_step def past due)
      ≡ option_map (by.DriverCall r) (step_by def (state_of def past) due)
  made_by_driver r due = ap (λ (o : Option CallEntry). option_map (by.DriverCall r) o) (step_is def past valid legal due)

  call_due_is : (r : DriverNo) (o : Option (Call × ℕ)) → asks_own def o ≡ true → next_of_driver def r past o ≡ driver_due def (state_of def past) r o
  call_due_is r None own = refl
  call_due_is r (Some (calls.Ask d, n)) own = ap (λ b. Some (by.Driver r (drivers.Ask b d))) (ask_edge_is def past valid legal d own)
  call_due_is r (Some (calls.Request d flags, n)) own = request_is r d flags
  call_due_is r (Some (calls.Affinity mask, n)) own = refl
  call_due_is r (Some (calls.Moment m, n)) own = refl
  call_due_is r (Some (calls.Free d, n)) own = made_by_driver r (calls.Free d, n)
  call_due_is r (Some (calls.Disable, n)) own = made_by_driver r (calls.Disable, n)
  call_due_is r (Some (calls.DisableNosync, n)) own = made_by_driver r (calls.DisableNosync, n)
  call_due_is r (Some (calls.Enable, n)) own = made_by_driver r (calls.Enable, n)
  call_due_is r (Some (calls.Sync, n)) own = made_by_driver r (calls.Sync, n)
  call_due_is r (Some (calls.SyncHard, n)) own = made_by_driver r (calls.SyncHard, n)
  call_due_is r (Some (calls.DisableHard, n)) own = made_by_driver r (calls.DisableHard, n)
  call_due_is r (Some (calls.Wake d, n)) own = made_by_driver r (calls.Wake d, n)
  call_due_is r (Some (calls.Quiet d, n)) own = made_by_driver r (calls.Quiet d, n)
  call_due_is r (Some (calls.Arm d, n)) own = made_by_driver r (calls.Arm d, n)
  call_due_is r (Some (calls.Serve d, n)) own = made_by_driver r (calls.Serve d, n)

  -- the due call asks a device of the line, if it asks
  own_ask : (r : DriverNo) (o : Option (Call × ℕ)) → due_call def r past ≡ o → asks_own def o ≡ true
  own_ask r (Some (calls.Ask d, n)) is = asked_named def r d n past valid is
  own_ask r o is = refl

pub driver_due_is : (def : LineDef) (past : List Entry) (r : DriverNo) (o : Option (Call × ℕ)) → IsValid def
    → IsLegalPast def past → asks_own def o ≡ true → next_of_driver def r past o ≡ driver_due def (state_of def past) r o
driver_due_is def past r o valid legal own = call_due_is def past valid legal r o own

pub driver_is : (def : LineDef) (past : List Entry) (r : DriverNo) → IsValid def → IsLegalPast def past
    → next_past def past (actors.Driver r) ≡ driver_due def (state_of def past) r (due_call def r past)
driver_is def past r valid legal = driver_due_is def past r (due_call def r past) valid legal (own_ask def past valid legal r (due_call def r past) refl)
