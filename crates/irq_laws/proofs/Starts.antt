-- What the starts resend, and what else only a line with edges has.
use Rattle.std.proofs.Common.{◌≡◌, ◌⊎◌, inl, inr, Bool, true, false, ◌||◌, ◌&&◌, cond, ◌==◌, List, [], ◌∷◌, refl, sym, ap, ◌∙◌}
use Rattle.irq_base.specs.declared.lines.LineDef.{LineDef}
use Rattle.irq_base.specs.declared.calls.Flags.{Flags}
use Rattle.irq_base.specs.declared.entries.Actor.{Actor}
use Rattle.irq_base.specs.declared.entries.Actor.TheVariants as actors
use Rattle.irq_base.specs.declared.entries.Entry.{Entry}
use Rattle.irq_base.specs.declared.entries.Entry.TheVariants as by
use Rattle.irq_base.specs.declared.entries.DriverEntry.TheVariants as drivers
use Rattle.irq_base.specs.declared.entries.CallEntry.{CallEntry}
use Rattle.irq_base.specs.declared.entries.CallEntry.TheVariants as called
use Rattle.irq_base.specs.declared.entries.Resend.{Resend}
use Rattle.irq_base.specs.declared.entries.Resend.TheVariants as resends
use Rattle.irq_base.specs.declared.entries.EnableAnswer.TheVariants as enables
use Rattle.irq_base.specs.declared.entries.Opened.{Opened}
use Rattle.irq_base.specs.declared.entries.Opened.TheVariants as opens
use Rattle.irq_base.specs.declared.entries.LinkAnswer.{LinkAnswer}
use Rattle.irq_base.specs.declared.entries.LinkAnswer.TheVariants as links
use Rattle.irq_model.specs.Kinds.{opened_of, opened_by_enable, opened_by_call, made_by, is_soft_start, is_soft_opened, is_resend_take}
use Rattle.irq_model.specs.Lines.{is_edge_line}
use Rattle.irq_model.specs.Links.{is_none_linked, has_spurious_mark, depth}
use Rattle.irq_model.specs.Waiting.{is_pending, is_soft}
use Rattle.irq_model.specs.Next.{resend_of, enable_answer}
use Rattle.irq_model.specs.Legal.{IsDue, IsLegalPast}
use Rattle.irq_laws.proofs.Lists.{stands_cases}
use Rattle.irq_laws.proofs.ImpliesDriver.{enable_due, request_due, opened_with}

-- ---- a start resends what the line says

by_enable : (n o : Bool) (is r : Resend) → opened_by_enable (cond n enables.Unbalanced (cond o (enables.Started is) enables.Lowered)) ≡ opens.Started r → r ≡ is
by_enable true o is r h = cc
by_enable false true is r h = cc
by_enable false false is r h = cc

by_request : (n f m : Bool) (is r : Resend) (o : Opened) → (o ≡ opens.Started r → r ≡ is)
    → cond n (cond f opens.No (opens.Started is)) (cond m o opens.No) ≡ opens.Started r → r ≡ is
by_request true true m is r o k h = cc
by_request true false m is r o k h = cc
by_request false f true is r o k h = k h
by_request false f false is r o k h = cc

enable_resends : (def : LineDef) (past : List Entry) (r : Resend) → opened_by_enable (enable_answer def past) ≡ opens.Started r → r ≡ resend_of def past
enable_resends def past r h = by_enable (is_none_linked past || (depth past == 0)) (depth past == 1) (resend_of def past) r h

request_resends : (def : LineDef) (flags : Flags) (past : List Entry) (a : LinkAnswer) (r : Resend)
    → opened_with def flags past a ≡ opens.Started r → r ≡ resend_of def past
request_resends def flags past links.Linked r h =
    by_request (is_none_linked past) flags.noauto (has_spurious_mark past) (resend_of def past) r
    (opened_by_enable (enable_answer def past)) (enable_resends def past r) h
request_resends def flags past (links.Refused error) r h = cc

call_resends : (def : LineDef) (a : Actor) (call : CallEntry) (past : List Entry) (r : Resend) → IsDue def (made_by a call) past
    → opened_by_call call ≡ opens.Started r → r ≡ resend_of def past
call_resends def a (called.Enable answer) past r due h = enable_resends def past r (ap opened_by_enable (sym (enable_due def a answer past due)) ∙ h)
call_resends def a call past r due h = cc

pub resends_what_is_pending : (def : LineDef) (e : Entry) (past : List Entry) (r : Resend) → IsDue def e past
    → opened_of e ≡ opens.Started r → r ≡ resend_of def past
resends_what_is_pending def (by.CpuCall c call) past r due h = call_resends def (actors.Cpu c) call past r due h
resends_what_is_pending def (by.ThreadCall x call) past r due h = call_resends def (actors.Thread x) call past r due h
resends_what_is_pending def (by.DriverCall s call) past r due h = call_resends def (actors.Driver s) call past r due h
resends_what_is_pending def (by.Driver s (drivers.Request flags answer opened x)) past r due h =
    let u = request_due def s x flags answer opened past due in request_resends def flags past _ r (sym u.opened_is ∙ h)
resends_what_is_pending def e past r due h = cc

-- ---- which resend that is

chip_by : (E p g : Bool) → resends.Chip ≡ cond (E && p) (cond g resends.Chip resends.Soft) resends.No → (E ≡ true) × (g ≡ true)
chip_by true true true h = (refl, refl)
chip_by true true false h = cc
chip_by true false g h = cc
chip_by false p g h = cc

soft_by : (E p g : Bool) → resends.Soft ≡ cond (E && p) (cond g resends.Chip resends.Soft) resends.No → E ≡ true
soft_by true p g h = refl
soft_by false p g h = cc

pub chip_resend : (def : LineDef) (e : Entry) (past : List Entry) → IsDue def e past
    → opened_of e ≡ opens.Started resends.Chip → (is_edge_line def ≡ true) × (def.retriggers ≡ true)
chip_resend def e past due h = chip_by (is_edge_line def) (is_pending def past) def.retriggers (resends_what_is_pending def e past resends.Chip due h)

-- ---- a software resend is on an edge line

soft_opened : (o : Opened) → is_soft_opened o ≡ true → o ≡ opens.Started resends.Soft
soft_opened (opens.Started resends.Soft) h = refl
soft_opened (opens.Started resends.Chip) h = cc
soft_opened (opens.Started resends.No) h = cc
soft_opened opens.No h = cc
soft_opened opens.Unbalanced h = cc
soft_opened opens.Lowered h = cc

pub soft_has_edges : (def : LineDef) (past : List Entry) → IsLegalPast def past → is_soft past ≡ true → is_edge_line def ≡ true
soft_has_edges def [] legal h = cc
soft_has_edges def (e ∷ past) legal h = by_case (stands_cases (is_soft_start e) (is_resend_take e) (is_soft past) h) (soft_has_edges def past legal.1)
  where
    by_case : (is_soft_start e ≡ true) ⊎ ((is_resend_take e ≡ false) × (is_soft past ≡ true))
        → (is_soft past ≡ true → is_edge_line def ≡ true) → is_edge_line def ≡ true
    by_case (inl starts) deeper =
        soft_by (is_edge_line def) (is_pending def past) def.retriggers
        (resends_what_is_pending def e past resends.Soft legal.0 (soft_opened (opened_of e) starts))
    by_case (inr was) deeper = deeper was.1
