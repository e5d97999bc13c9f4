-- What a request makes of the state is what its parts make of it.
use Rattle.std.proofs.Common.{◌≡◌, ◌⊎◌, inl, inr, ℕ, ◌-◌, ◌≤◌, ◌==◌, Bool, true, false, not, ◌||◌, cond, refl, sym, subst, arith}
use Rattle.std.proofs.lemmas.Bool.{eqb-true, eqb-false, false≢true}
use Rattle.irq_base.specs.declared.calls.Flags.{Flags}
use Rattle.irq_base.specs.declared.entries.Entry.{Entry}
use Rattle.irq_base.specs.declared.entries.Entry.TheVariants as by
use Rattle.irq_base.specs.declared.entries.DriverEntry.TheVariants as drivers
use Rattle.irq_base.specs.declared.entries.EnableAnswer.TheVariants as enables
use Rattle.irq_base.specs.declared.entries.Errno.{Errno}
use Rattle.irq_base.specs.declared.entries.LinkAnswer.TheVariants as links
use Rattle.irq_base.specs.declared.entries.Opened.{Opened}
use Rattle.irq_base.specs.declared.entries.Opened.TheVariants as opens
use Rattle.irq_base.specs.declared.entries.Resend.TheVariants as resends
use Rattle.irq_base.specs.declared.lines.FlowKind.{FlowKind}
use Rattle.irq_base.specs.declared.lines.FlowKind.TheVariants as flows
use Rattle.irq_base.specs.declared.lines.LineDef.{LineDef}
use Rattle.irq_base.specs.declared.numbers.DevNo.{DevNo}
use Rattle.irq_base.specs.declared.numbers.DriverNo.{DriverNo}
use Rattle.irq_model.specs.Kinds.{is_started_opened, opened_by_enable}
use Rattle.act_list.specs.Actions.{is_bare}
use Rattle.desc_state.specs.Desc.{resend_by, enable_by}
use Rattle.line_marks.specs.Acts.{linked_at, activated_if, opened_to}
use Rattle.line_marks.specs.Desc.{take_masks_with}
use Rattle.line_marks.specs.DriversDue.{opened_by}
use Rattle.line_marks.specs.State.{StateSeen, state_after}

-- ---- what the depth is when a request opens the line

-- what a linked request may make of a line with this depth, the first one or not
pub record Fits (def : LineDef) (first : Bool) (opened : Opened) (s : StateSeen) : Type 0 where
  pub one : first ≡ false → is_started_opened opened ≡ true → s.desc.depth ≡ 1
  pub which : first ≡ true → (opened ≡ opens.No) ⊎ (is_started_opened opened ≡ true)
  pub resends : is_started_opened opened ≡ true → opened ≡ opens.Started (resend_by def.trigger s.desc s.cell)
  pub lowers : opened ≡ opens.Lowered → 1 ≤ s.desc.depth

not_zero : (n : ℕ) → n == 0 ≡ false → 1 ≤ n
not_zero n h = let e : n ≡ 0 → ⊥ = eqb-false n 0 h in omega (arith, e)

module _ (def : LineDef) (flags : Flags) (s : StateSeen) where
  abbrev start : Opened
  start = opens.Started (resend_by def.trigger s.desc s.cell)

  fits_no : (b : Bool) → Fits def b opens.No s
  fits_no b = record { one = λ h i. absurd (false≢true i); which = λ h. inl refl; resends = λ h. absurd (false≢true h); lowers = λ h. cc }

  fits_start : Fits def true (opens.Started (resend_by def.trigger s.desc s.cell)) s
  fits_start = record { one = λ h i. absurd (false≢true (sym h)); which = λ h. inr refl; resends = λ h. refl; lowers = λ h. cc }

  at_depth : (a b : Bool) → s.desc.depth == 0 ≡ a → s.desc.depth == 1 ≡ b
      → Fits def false (opened_by_enable (cond (a || false) enables.Unbalanced
      (cond b (enables.Started (resend_by def.trigger s.desc s.cell)) enables.Lowered))) s
  at_depth true b zero one = record {
    one = λ h i. absurd (false≢true i);
    which = λ h. absurd (false≢true h);
    resends
        = λ h. absurd (false≢true h);
    lowers = λ h. cc;
  }
  at_depth false true zero one = record {
    one = λ h i. eqb-true s.desc.depth 1 one;
    which
        = λ h. absurd (false≢true h);
    resends = λ h. refl;
    lowers = λ h. not_zero s.desc.depth zero;
  }
  at_depth false false zero one = record {
    one = λ h i. absurd (false≢true i);
    which
        = λ h. absurd (false≢true h);
    resends = λ h. absurd (false≢true h);
    lowers = λ h. not_zero s.desc.depth zero;
  }

  by_mark : (m : Bool) → Fits def false (cond m (opened_by_enable (enable_by true def.trigger s.desc s.cell)) opens.No) s
  by_mark true = at_depth (s.desc.depth == 0) (s.desc.depth == 1) refl refl
  by_mark false = fits_no false

  by_noauto : (n : Bool) → Fits def true (cond n opens.No (opens.Started (resend_by def.trigger s.desc s.cell))) s
  by_noauto true = fits_no true
  by_noauto false = fits_start

  by_bare : (b : Bool) → Fits def b (cond b (cond flags.noauto opens.No
      (opens.Started (resend_by def.trigger s.desc s.cell)))
      (cond s.desc.spurious (opened_by_enable (enable_by (not b) def.trigger s.desc s.cell)) opens.No)) s
  by_bare true = by_noauto flags.noauto
  by_bare false = by_mark s.desc.spurious

  pub fits : Fits def (is_bare s.list.actions) (opened_by def flags s) s
  fits = by_bare (is_bare s.list.actions)

-- ---- a linked request

less_one : (n : ℕ) → n ≡ 1 → n - 1 ≡ 0
less_one n h = omega (arith, h)

module _ (def : LineDef) (r : DriverNo) (d : DevNo) (flags : Flags) where
  abbrev entry : Opened → Entry
  entry opened = by.Driver r (drivers.Request flags links.Linked opened d)

  masks_not : (f : FlowKind) (o : Bool) (opened : Opened) → take_masks_with def f o (by.Driver r (drivers.Request flags links.Linked opened d)) ≡ false
  masks_not flows.Level o opened = refl
  masks_not flows.Edge o opened = refl
  masks_not flows.Eoi o opened = refl

  abbrev IsOpened : Opened → Bool → StateSeen → Type 0
  IsOpened opened first s = state_after def (by.Driver r (drivers.Request flags links.Linked opened d)) s
      ≡ opened_to first opened (activated_if first (linked_at d flags s))

  by_first : (opened : Opened) (first : Bool) (s : StateSeen) → is_bare s.list.actions ≡ first → Fits def first opened s → IsOpened opened first s
  by_first opens.No true s is fit = rw (masks_not def.flow s.desc.oneshot opens.No, is) refl
  by_first opens.No false s is fit = rw (masks_not def.flow s.desc.oneshot opens.No, is) refl
  by_first opens.Unbalanced true s is fit = other (fit.which refl)
    where
      other : (opens.Unbalanced ≡ opens.No) ⊎ (false ≡ true) → IsOpened opens.Unbalanced true s
      other (inl h) = cc
      other (inr h) = cc
  by_first opens.Unbalanced false s is fit = rw (masks_not def.flow s.desc.oneshot opens.Unbalanced, is) refl
  by_first opens.Lowered true s is fit = other (fit.which refl)
    where
      other : (opens.Lowered ≡ opens.No) ⊎ (false ≡ true) → IsOpened opens.Lowered true s
      other (inl h) = cc
      other (inr h) = cc
  by_first opens.Lowered false s is fit = rw (masks_not def.flow s.desc.oneshot opens.Lowered, is) refl
  by_first (opens.Started resends.No) true s is fit = rw (masks_not def.flow s.desc.oneshot (opens.Started resends.No), is) refl
  by_first (opens.Started resends.Chip) true s is fit = rw (masks_not def.flow s.desc.oneshot (opens.Started resends.Chip), is) refl
  by_first (opens.Started resends.Soft) true s is fit = rw (masks_not def.flow s.desc.oneshot (opens.Started resends.Soft), is) refl
  by_first (opens.Started resends.No) false s is fit = rw
      (masks_not def.flow s.desc.oneshot (opens.Started resends.No), is, less_one s.desc.depth (fit.one refl refl)) refl
  by_first (opens.Started resends.Chip) false s is fit
      = rw (
        masks_not def.flow s.desc.oneshot (opens.Started resends.Chip),
        is,
        less_one s.desc.depth
            (fit.one refl refl),
      ) refl
  by_first (opens.Started resends.Soft) false s is fit
      = rw (
        masks_not def.flow s.desc.oneshot (opens.Started resends.Soft),
        is,
        less_one s.desc.depth
            (fit.one refl refl),
      ) refl

  pub request_is : (opened : Opened) (s : StateSeen) → opened ≡ opened_by def flags s
      → state_after def (by.Driver r (drivers.Request flags links.Linked opened d)) s
      ≡ opened_to (is_bare s.list.actions) opened (activated_if (is_bare s.list.actions) (linked_at d flags s))
  request_is opened s is =
      by_first opened (is_bare s.list.actions) s refl (subst (λ (o : Opened). Fits def (is_bare s.list.actions) o s) (sym is) (fits def flags s))

  -- a refused one makes nothing
  pub refused_is : (error : Errno) (s : StateSeen) → state_after def (by.Driver r (drivers.Request flags (links.Refused error) opens.No d)) s ≡ s
  refused_is error s = by_flow def.flow refl
    where
      by_flow : (f : FlowKind) → def.flow ≡ f → state_after def (by.Driver r (drivers.Request flags (links.Refused error) opens.No d)) s ≡ s
      by_flow flows.Level is = rw is refl
      by_flow flows.Edge is = rw is refl
      by_flow flows.Eoi is = rw is refl
