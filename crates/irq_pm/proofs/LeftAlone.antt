-- A driver whose calls on the line are one disable and one enable disturbs nothing between the two.
use Rattle.std.proofs.Common.{◌≡◌, ℕ, ◌==◌, Bool, true, false, not, ◌||◌, ◌&&◌, cond, Option, Some, List, [], ◌∷◌, ◌++◌}
use Rattle.std.proofs.Common.{reverse, refl, ap, ap₂, ◌∙◌, subst, arith}
use Rattle.std.proofs.lemmas.Bool.{or_parts, or_from, and_right}
use Rattle.std.specs.List.{list_any}
use Rattle.irq_base.specs.declared.numbers.DriverNo.{DriverNo}
use Rattle.irq_base.specs.declared.calls.Call.{Call}
use Rattle.irq_base.specs.declared.calls.Call.TheVariants as calls
use Rattle.irq_base.specs.declared.lines.LineDef.{LineDef}
use Rattle.irq_base.specs.declared.entries.Entry.{Entry}
use Rattle.irq_base.specs.declared.entries.Entry.TheVariants as by
use Rattle.irq_base.specs.declared.entries.DriverEntry.TheVariants as drivers
use Rattle.irq_base.specs.declared.entries.CallEntry.TheVariants as called
use Rattle.irq_model.specs.Places.{stands, since}
use Rattle.irq_model.specs.Kinds.{same_driver, is_by_driver}
use Rattle.irq_model.specs.Rounds.{has_flow}
use Rattle.irq_model.specs.Threads.{active_count}
use Rattle.irq_model.specs.Due.{calls_by, entries_by, due_of, due_call}
use Rattle.irq_model.specs.Next.{enable_answer, next_of_driver}
use Rattle.irq_model.specs.Legal.{IsDue, IsLegal, IsLegalPast}
use Rattle.irq_model.proofs.Same.{same_self_driver}
use Rattle.irq_model.proofs.DueSteps.{entries_more, entries_same}
use Rattle.irq_laws.proofs.Chosen.{the_same}
use Rattle.irq_laws.proofs.Lists.{both_ways}
use Rattle.irq_pm.specs.Sleeping.{has_calm_runs, is_disable_by, is_enable_by, disturbs, is_other_call}
use Rattle.irq_pm.specs.Sleeping.{since_disable, is_suspended, is_left_alone, others_only_ask}
use Rattle.irq_pm.proofs.CalmLines.{handler_moves_not, thread_moves_not}
use Rattle.irq_pm.proofs.Waits.{own_due, not_own, made_unless, made_when}

abbrev pub disturbs_by : DriverNo → Entry → Bool
disturbs_by r e = is_by_driver r e && disturbs e

abbrev pub IsOwnLeft : DriverNo → List Entry → Type 0
IsOwnLeft r past = list_any (disturbs_by r) (since_disable r past) ≡ false

-- how many entries of its two calls are there
pub data Position (r : DriverNo) (past : List Entry) : Type 0 where
  at_none : entries_by r past ≡ [] → is_suspended r past ≡ false → Position r past
  at_disable : (a : Entry) → entries_by r past ≡ a ∷ [] → IsOwnLeft r past → Position r past
  at_clear : (a b : Entry) → entries_by r past ≡ a ∷ b ∷ [] → IsOwnLeft r past → Position r past
  at_synced : (a b c : Entry) → entries_by r past ≡ a ∷ b ∷ c ∷ [] → IsOwnLeft r past → Position r past
  at_enable : (a b c d : Entry) → entries_by r past ≡ a ∷ b ∷ c ∷ d ∷ [] → is_suspended r past ≡ false → Position r past

abbrev pub script : List Call
script = calls.Disable ∷ calls.Enable ∷ []

-- ---- an entry of another

not_enable : (r : DriverNo) (e : Entry) → is_by_driver r e ≡ false → is_enable_by r e ≡ false
not_enable r (by.DriverCall s (called.Enable answer)) other = other
not_enable r e other = refl

stays_awake : (d e s : Bool) → d ≡ false → e ≡ false → s ≡ false → (d || (not e && s)) ≡ false
stays_awake d e s a b c = grind arith

awake_past : (r : DriverNo) (e : Entry) (past : List Entry) → is_by_driver r e ≡ false → is_suspended r past ≡ false → is_suspended r (e ∷ past) ≡ false
awake_past r e past other awake = stays_awake (is_disable_by r e) (is_enable_by r e) (is_suspended r past) (not_own r e other) (not_enable r e other) awake

left_past : (r : DriverNo) (e : Entry) (past : List Entry) → is_by_driver r e ≡ false → IsOwnLeft r past → IsOwnLeft r (e ∷ past)
left_past r e past other left =
    ap (λ (b : Bool). list_any (disturbs_by r) (cond b [] (e ∷ since_disable r past))) (not_own r e other)
    ∙ or_from (disturbs_by r e) (list_any (disturbs_by r) (since_disable r past)) (ap (λ (b : Bool). b && disturbs e) other) left

past_other : (r : DriverNo) (e : Entry) (past : List Entry) → is_by_driver r e ≡ false → Position r past → Position r (e ∷ past)
past_other r e past other (at_none is awake) = at_none (entries_same r e past other ∙ is) (awake_past r e past other awake)
past_other r e past other (at_disable a is left) = at_disable a (entries_same r e past other ∙ is) (left_past r e past other left)
past_other r e past other (at_clear a b is left) = at_clear a b (entries_same r e past other ∙ is) (left_past r e past other left)
past_other r e past other (at_synced a b c is left) = at_synced a b c (entries_same r e past other ∙ is) (left_past r e past other left)
past_other r e past other (at_enable a b c d is awake) = at_enable a b c d (entries_same r e past other ∙ is) (awake_past r e past other awake)

-- ---- an entry of its own

-- the entry is the next of the call that is due after those
own_next : (def : LineDef) (r : DriverNo) (e : Entry) (past es : List Entry) → calls_by r def.calls ≡ script
    → entries_by r past ≡ es → next_of_driver def r past (due_call def r past) ≡ Some e
    → next_of_driver def r past (due_of script es) ≡ Some e
own_next def r e past es of_script is due = subst (λ (o : Option (Call × ℕ)). next_of_driver def r past o ≡ Some e)
    (ap₂ (λ (cs : List Call) (xs : List Entry). due_of cs xs) of_script is) due

one_more : (r : DriverNo) (e : Entry) (past es : List Entry) → is_by_driver r e ≡ true → entries_by r past ≡ es → entries_by r (e ∷ past) ≡ es ++ e ∷ []
one_more r e past es mine is = entries_more r e past mine ∙ ap (λ (xs : List Entry). xs ++ e ∷ []) is

-- right after its disable nothing stands
left_at : (r : DriverNo) (past : List Entry) → IsOwnLeft r (by.DriverCall r called.Disable ∷ past)
left_at r past = ap (λ (b : Bool). list_any (disturbs_by r) (cond b [] (by.DriverCall r called.Disable ∷ since_disable r past))) (same_self_driver r)

-- its waits disturb nothing
left_quiet : (r : DriverNo) (e : Entry) (past : List Entry) → is_disable_by r e ≡ false → disturbs e ≡ false → IsOwnLeft r past → IsOwnLeft r (e ∷ past)
left_quiet r e past no_disable none left =
    ap (λ (b : Bool). list_any (disturbs_by r) (cond b [] (e ∷ since_disable r past))) no_disable
    ∙ or_from (disturbs_by r e) (list_any (disturbs_by r) (since_disable r past)) (and_right (is_by_driver r e) (disturbs e) none) left

awake_at : (def : LineDef) (r : DriverNo) (past : List Entry) → is_suspended r (by.DriverCall r (called.Enable (enable_answer def past)) ∷ past) ≡ false
awake_at def r past = ap (λ (b : Bool). false || (not b && is_suspended r past)) (same_self_driver r)

past_own : (def : LineDef) (r : DriverNo) (e : Entry) (past : List Entry) → calls_by r def.calls ≡ script
    → is_by_driver r e ≡ true → next_of_driver def r past (due_call def r past) ≡ Some e → Position r past
    → Position r (e ∷ past)
past_own def r e past of_script mine due (at_none is awake) =
    let same : by.DriverCall r called.Disable ≡ e = the_same (by.DriverCall r called.Disable) e (own_next def r e past [] of_script is due) in
    at_disable e (one_more r e past [] mine is) (subst (λ (x : Entry). IsOwnLeft r (x ∷ past)) same (left_at r past))
past_own def r e past of_script mine due (at_disable a is left) =
    let same = made_unless r (has_flow def past) called.HardClear e (own_next def r e past (a ∷ []) of_script is due) in
    at_clear a e (one_more r e past (a ∷ []) mine is) (subst (λ (x : Entry). IsOwnLeft r (x ∷ past)) same
    (left_quiet r (by.DriverCall r called.HardClear) past refl refl left))
past_own def r e past of_script mine due (at_clear a b is left) =
    let same = made_when r (active_count def past == 0) called.Synced e (own_next def r e past (a ∷ b ∷ []) of_script is due) in
    at_synced a b e (one_more r e past (a ∷ b ∷ []) mine is)
    (subst (λ (x : Entry). IsOwnLeft r (x ∷ past)) same (left_quiet r (by.DriverCall r called.Synced) past refl refl left))
past_own def r e past of_script mine due (at_synced a b c is left) =
    let same : by.DriverCall r (called.Enable (enable_answer def past))
    ≡ e = the_same (by.DriverCall r (called.Enable (enable_answer def past))) e
    (own_next def r e past (a ∷ b ∷ c ∷ []) of_script is due) in
    at_enable a b c e (one_more r e past (a ∷ b ∷ c ∷ []) mine is) (subst (λ (x : Entry). is_suspended r (x ∷ past) ≡ false) same (awake_at def r past))
past_own def r e past of_script mine due (at_enable a b c d is awake) = let n = own_next def r e past (a ∷ b ∷ c ∷ d ∷ []) of_script is due in cc

pub position : (def : LineDef) (r : DriverNo) (past : List Entry) → calls_by r def.calls ≡ script → IsLegalPast def past → Position r past
position def r [] of_script legal = at_none refl refl
position def r (e ∷ past) of_script legal = by_driver (is_by_driver r e) refl (position def r past of_script legal.1)
  where
    by_driver : (b : Bool) → is_by_driver r e ≡ b → Position r past → Position r (e ∷ past)
    by_driver true mine was = past_own def r e past of_script mine (own_due def r e past legal.0 mine) was
    by_driver false other was = past_other r e past other was

-- ---- together

neither : (b m : Bool) → (b && m) ≡ false → (not b && true) ≡ false → m ≡ false
neither true m own other = own
neither false m own other = cc

calm : (d e u : Bool) → (d ≡ false) × (e ≡ false) × (u ≡ false) → (d || (e || (false || (u || false)))) ≡ false
calm d e u h = let a = h.0 in let b = h.1 in let c = h.2 in grind arith

undisturbed : (def : LineDef) (r : DriverNo) (e : Entry) (past : List Entry) → IsDue def e past → has_calm_runs def ≡ true → disturbs_by r e ≡ false
    → is_other_call r e ≡ false → disturbs e ≡ false
undisturbed def r (by.CpuCall c call) past due runs own other = calm _ _ _ (handler_moves_not def c call past runs due)
undisturbed def r (by.ThreadCall x call) past due runs own other = calm _ _ _ (thread_moves_not def x call past runs due)
undisturbed def r (by.DriverCall s call) past due runs own other = neither (same_driver r s) (disturbs (by.DriverCall s call)) own other
undisturbed def r (by.Driver s (drivers.Request flags answer opened x)) past due runs own other
    = neither (same_driver r s) (disturbs (by.Driver s (drivers.Request flags answer opened x))) own other
undisturbed def r e past due runs own other = refl

none_disturbs : (def : LineDef) (r : DriverNo) (p : Entry → Bool) (past : List Entry) → IsLegalPast def past → has_calm_runs def ≡ true
    → list_any (disturbs_by r) (since p past) ≡ false → list_any (is_other_call r) (since p past) ≡ false
    → list_any disturbs (since p past) ≡ false
none_disturbs def r p [] legal runs own other = refl
none_disturbs def r p (e ∷ past) legal runs own other = by_test (p e) own other (none_disturbs def r p past legal.1 runs)
  where
    by_test : (b : Bool) → list_any (disturbs_by r) (cond b [] (e ∷ since p past)) ≡ false
        → list_any (is_other_call r) (cond b [] (e ∷ since p past)) ≡ false
        → (list_any (disturbs_by r) (since p past) ≡ false → list_any (is_other_call r) (since p past) ≡ false
        → list_any disturbs (since p past) ≡ false)
        → list_any disturbs (cond b [] (e ∷ since p past)) ≡ false
    by_test true own other deeper = refl
    by_test false own other deeper =
        let o = or_parts (disturbs_by r e) (list_any (disturbs_by r) (since p past)) own in
        let n = or_parts (is_other_call r e) (list_any (is_other_call r) (since p past)) other in
        or_from (disturbs e) (list_any disturbs (since p past)) (undisturbed def r e past legal.0 runs o.0 n.0) (deeper o.1 n.1)

own_left : (r : DriverNo) (past : List Entry) → is_suspended r past ≡ true → Position r past → IsOwnLeft r past
own_left r past stands (at_none is awake) = both_ways (is_suspended r past) stands awake
own_left r past stands (at_disable a is left) = left
own_left r past stands (at_clear a b is left) = left
own_left r past stands (at_synced a b c is left) = left
own_left r past stands (at_enable a b c d is awake) = both_ways (is_suspended r past) stands awake

not_false : (b : Bool) → not b ≡ true → b ≡ false
not_false true h = cc
not_false false h = refl

pub left_alone : (def : LineDef) (r : DriverNo) (h : List Entry) → IsLegal def h → has_calm_runs def ≡ true
    → calls_by r def.calls ≡ calls.Disable ∷ calls.Enable ∷ [] → is_suspended r (reverse h) ≡ true
    → others_only_ask r (reverse h) ≡ true → is_left_alone r (reverse h) ≡ true
left_alone def r h legal runs of_script stands others =
    let own = own_left r (reverse h) stands (position def r (reverse h) of_script legal) in
    ap not (none_disturbs def r (is_disable_by r) (reverse h) legal runs own (not_false (list_any (is_other_call r) (since_disable r (reverse h))) others))
