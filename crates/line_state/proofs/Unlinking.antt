-- An unlink that doesn't find its device changes nothing.
use Rattle.std.proofs.Common.{◌≡◌, Bool, true, false, cond, List, [], ◌∷◌, refl, ap}
use Rattle.std.specs.Map.{remove_entry}
use Rattle.irq_base.specs.declared.entries.UnlinkAnswer.TheVariants as unlinks
use Rattle.irq_base.specs.declared.numbers.DevNo.{DevNo}
use Rattle.irq_model.specs.Kinds.{same_dev}
use Rattle.act_list.specs.Actions.{has, is_only_action}
use Rattle.act_list.specs.Lists.{ListSeen, unlink_by, after_unlink}
use Rattle.act_list.specs.declared.actions.Action.{Action}

removes_none : (d : DevNo) (t : List (DevNo × Action)) → has d t ≡ false → remove_entry (same_dev d) t ≡ t
removes_none d [] h = refl
removes_none d (e ∷ es) h = by_test (same_dev d e.0) h (removes_none d es)
  where
    by_test : (b : Bool) → cond b true (has d es) ≡ false → (has d es ≡ false → remove_entry (same_dev d) es ≡ es)
        → cond b es (e ∷ remove_entry (same_dev d) es) ≡ e ∷ es
    by_test true is rest = cc
    by_test false is rest = ap (λ t. e ∷ t) (rest is)

absent : (d : DevNo) (t : List (DevNo × Action)) → unlink_by d t ≡ unlinks.NotThere → has d t ≡ false
absent d t h = by_test (has d t) h
  where
    by_test : (b : Bool) → cond b (unlinks.Unlinked (is_only_action d t)) unlinks.NotThere ≡ unlinks.NotThere → b ≡ false
    by_test true is = cc
    by_test false is = refl

pub left_alone : (d : DevNo) (l : ListSeen) → unlink_by d l.actions ≡ unlinks.NotThere → after_unlink d l ≡ l
left_alone d l h = ap (λ t. record l { actions = t }) (removes_none d l.actions (absent d l.actions h))
