-- The list of actions, and whose handlers were called in the round, follow the history.
use Rattle.std.proofs.Common.{◌≡◌, Bool, true, false, ◌||◌, cond, List, [], ◌∷◌, refl, ap, ◌∙◌}
use Rattle.irq_base.specs.declared.devices.DeviceDef.{DeviceDef}
use Rattle.irq_base.specs.declared.entries.Entry.{Entry}
use Rattle.irq_base.specs.declared.entries.Entry.TheVariants as by
use Rattle.irq_base.specs.declared.entries.CpuEntry.TheVariants as cpus
use Rattle.irq_base.specs.declared.entries.DriverEntry.TheVariants as drivers
use Rattle.irq_base.specs.declared.entries.CallEntry.TheVariants as called
use Rattle.irq_base.specs.declared.entries.LinkAnswer.TheVariants as links
use Rattle.irq_base.specs.declared.entries.UnlinkAnswer.TheVariants as unlinks
use Rattle.irq_base.specs.declared.lines.LineDef.{LineDef}
use Rattle.irq_base.specs.declared.numbers.DevNo.{DevNo}
use Rattle.irq_model.specs.Kinds.{is_begin}
use Rattle.irq_model.specs.Rounds.{begins_round, has_begun}
use Rattle.irq_model.specs.Valid.{IsValid}
use Rattle.irq_model.proofs.Same.{same_self, same_both}
use Rattle.device_table.specs.Rows.{table_by}
use Rattle.device_table.proofs.Tables.{same_table, change_any}
use Rattle.act_list.specs.Lists.{ListSeen, cleared, after_begin_round}
use Rattle.line_marks.proofs.RoundsFollow.{in_round}
use Rattle.line_marks.specs.Actions.{actions_of, list_of, list_after}

begun_more : (def : LineDef) (e : Entry) (past : List Entry) (d : DevNo)
    → has_begun def (e ∷ past) d ≡ cond (begins_round def e) false (is_begin d e || has_begun def past d)
begun_more def e past d = in_round def (is_begin d) e past

cleared_is : (f : DevNo → Bool) (xs : List DeviceDef) → table_by (λ d. false) xs ≡ cleared (table_by f xs)
cleared_is f [] = refl
cleared_is f (x ∷ xs) = ap (λ (t : List (DevNo × Bool)). (x.dev, false) ∷ t) (cleared_is f xs)

same_list : (a b : ListSeen) → a.actions ≡ b.actions → a.begun ≡ b.begun → a.rounds ≡ b.rounds → a ≡ b
same_list a b h i j = (let e : ◌≡◌ {A = ListSeen} (record { actions = a.actions; begun = a.begun; rounds = a.rounds }) b = rw (h, i, j) refl in e)

-- an entry that begins a round or none, and calls no handler
quiet : (def : LineDef) (e : Entry) (past : List Entry) → actions_of (e ∷ past) ≡ actions_of past
    → ((d : DevNo) → is_begin d e ≡ false) → list_of def (e ∷ past)
    ≡ cond (begins_round def e) (after_begin_round (list_of def past)) (list_of def past)
quiet def e past same h = by_test (begins_round def e) refl (λ d. begun_more def e past d)
  where
    l : ListSeen
    l = list_of def past

    by_test : (b : Bool) → begins_round def e ≡ b → ((d : DevNo)
        → has_begun def (e ∷ past) d ≡ cond b false (is_begin d e || has_begun def past d))
        → list_of def (e ∷ past) ≡ cond b (after_begin_round l) l
    by_test true is n =
        same_list (list_of def (e ∷ past)) (after_begin_round l) same
        (same_table (λ d. false) (has_begun def (e ∷ past)) def.devices n ∙ cleared_is (has_begun def past) def.devices) (rw is refl)
    by_test false is n =
        same_list (list_of def (e ∷ past)) l same
        (same_table (has_begun def past) (has_begun def (e ∷ past)) def.devices (λ d. n d ∙ ap (λ b. b || has_begun def past d) (h d))) (rw is refl)

pub list_more : (def : LineDef) (e : Entry) (past : List Entry) → IsValid def → list_of def (e ∷ past) ≡ list_after def e (list_of def past)
list_more def (by.Cpu c (cpus.Begin x)) past valid =
    same_list (list_of def (by.Cpu c (cpus.Begin x) ∷ past)) (list_after def (by.Cpu c (cpus.Begin x)) (list_of def past)) refl
    (change_any (has_begun def past) (has_begun def (by.Cpu c (cpus.Begin x) ∷ past)) (λ b. true) def.devices x valid.distinct
    (rw (same_self x) refl) (λ d apart. rw (same_both d x ∙ apart) refl)) refl
list_more def (by.Driver r (drivers.Request flags links.Linked opened x)) past valid = refl
list_more def (by.Driver r (drivers.Request flags (links.Refused error) opened x)) past valid = refl
list_more def (by.Cpu c (cpus.Take way answer)) past valid = quiet def (by.Cpu c (cpus.Take way answer)) past refl (λ x. refl)
list_more def (by.Cpu c (cpus.End again unmask note)) past valid = quiet def (by.Cpu c (cpus.End again unmask note)) past refl (λ x. refl)
list_more def (by.CpuCall c (called.Unlink (unlinks.Unlinked last) x)) past valid = refl
list_more def (by.CpuCall c (called.Unlink unlinks.NotThere x)) past valid = refl
list_more def (by.ThreadCall d (called.Unlink (unlinks.Unlinked last) x)) past valid = refl
list_more def (by.ThreadCall d (called.Unlink unlinks.NotThere x)) past valid = refl
list_more def (by.DriverCall r (called.Unlink (unlinks.Unlinked last) x)) past valid = refl
list_more def (by.DriverCall r (called.Unlink unlinks.NotThere x)) past valid = refl
list_more def _ past valid = refl
