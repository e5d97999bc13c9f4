-- Whose a step is: devices of the line.
use Rattle.std.proofs.Common.{◌≡◌, Bool, true, false, cond, Option, Some, None, List, [], ◌∷◌, is_some, refl, ap, ◌∙◌}
use Rattle.irq_base.specs.declared.lines.LineDef.{LineDef}
use Rattle.irq_base.specs.declared.numbers.DevNo.{DevNo}
use Rattle.irq_model.specs.Kinds.{same_dev}
use Rattle.irq_model.specs.Lines.{has_device}
use Rattle.irq_model.proofs.Same.{same_self}
use Rattle.device_table.specs.Rows.{at}
use Rattle.act_list.specs.Actions.{has}
use Rattle.act_list.specs.Lists.{begun_at, first_left}
use Rattle.act_list.specs.declared.actions.Action.{Action}
use Rattle.act_thread.specs.declared.rows.ThreadRow.{ThreadRow}
use Rattle.line_state.specs.Seen.{LineStateSeen, IsScripted}

same_item : (d e : DevNo) → Some e ≡ Some d → e ≡ d
same_item d e h = cc

-- a device that is left of the round is linked
pub left_is_linked : (b : List (DevNo × Bool)) (t : List (DevNo × Action)) (d : DevNo) → first_left b t ≡ Some d → has d t ≡ true
left_is_linked b [] d h = cc
left_is_linked b (e ∷ es) d h = by_begun (begun_at b e.0) h (left_is_linked b es d)
  where
    either : (t : Bool) → has d es ≡ true → cond t true (has d es) ≡ true
    either true is = refl
    either false is = is

    by_begun : (t : Bool) → cond t (first_left b es) (Some e.0) ≡ Some d → (first_left b es ≡ Some d → has d es ≡ true)
        → cond (same_dev d e.0) true (has d es) ≡ true
    by_begun true is rest = either (same_dev d e.0) (rest is)
    by_begun false is rest = ap (λ t. cond t true (has d es)) (ap (λ (x : DevNo). same_dev d x) (same_item d e.0 is) ∙ same_self d)

-- a thread is one of a device of the line
pub thread_there : (def : LineDef) (l : LineStateSeen) (d : DevNo) → IsScripted def l → is_some (at l.state.threads d) ≡ true → has_device def d ≡ true
thread_there def l d scripted h = by_row (at l.state.threads d) refl h
  where
    by_row : (o : Option ThreadRow) → at l.state.threads d ≡ o → is_some o ≡ true → has_device def d ≡ true
    by_row None is h = cc
    by_row (Some r) is h = scripted.threads d r is
