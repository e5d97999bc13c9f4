-- Before its synced a driver has made its hard clear, in the same call.
use Rattle.std.proofs.Common.{◌≡◌, ℕ, ◌<◌, ◌==◌, ◌⊎◌, inl, inr, Bool, true, false, cond, Option, Some, None, List}
use Rattle.std.proofs.Common.{[], ◌∷◌, length, refl, sym, ap, ◌∙◌, subst, arith, option_map}
use Rattle.std.proofs.lemmas.Bool.{ltb-true, eqb-false, or_left, or_right}
use Rattle.std.specs.List.{list_any}
use Rattle.irq_base.specs.declared.numbers.DriverNo.{DriverNo}
use Rattle.irq_base.specs.declared.calls.Call.{Call}
use Rattle.irq_base.specs.declared.calls.Call.TheVariants as calls
use Rattle.irq_base.specs.declared.lines.LineDef.{LineDef}
use Rattle.irq_base.specs.declared.entries.Actor.{Actor}
use Rattle.irq_base.specs.declared.entries.Actor.TheVariants as actors
use Rattle.irq_base.specs.declared.entries.Entry.{Entry}
use Rattle.irq_base.specs.declared.entries.Entry.TheVariants as by
use Rattle.irq_base.specs.declared.entries.CallEntry.{CallEntry}
use Rattle.irq_base.specs.declared.entries.CallEntry.TheVariants as called
use Rattle.irq_base.specs.Who.{actor_of}
use Rattle.irq_model.specs.Places.{since}
use Rattle.irq_model.specs.Kinds.{same_driver, same_actor, is_driver, is_by_driver, is_by, made_by}
use Rattle.irq_model.specs.Rounds.{has_flow}
use Rattle.irq_model.specs.Due.{calls_by, entries_by, due_call}
use Rattle.irq_model.specs.Next.{hard_clear_of, next_of_driver, next_past}
use Rattle.irq_model.specs.Legal.{IsDue, IsLegalPast}
use Rattle.irq_model.proofs.Same.{same_self_driver, driver_from_same, actor_from_same}
use Rattle.irq_laws.proofs.Chosen.{the_same}
use Rattle.irq_laws.proofs.ActorSteps.{Turn, turn}
use Rattle.irq_laws.proofs.Progress.{standing, fresh, Within, earlier, by_this, within}
use Rattle.irq_laws.proofs.ImpliesCall.{synced_call}
use Rattle.irq_laws.proofs.ImpliesDriver.{call_row}
use Rattle.irq_laws.proofs.ScriptLaws.{runs_past}
use Rattle.irq_pm.specs.Sleeping.{is_disable_by, since_disable}

abbrev pub is_hard_clear_by : DriverNo → Entry → Bool
is_hard_clear_by r (by.DriverCall driver called.HardClear) = same_driver r driver
is_hard_clear_by r _ = false

-- ---- a driver's own entry is the next of its due call

of_same : (def : LineDef) (r s : DriverNo) (e : Entry) (past : List Entry)
    → next_of_driver def s past (due_call def s past) ≡ Some e → same_driver r s ≡ true
    → next_of_driver def r past (due_call def r past) ≡ Some e
of_same def r s e past due same = subst (λ (t : DriverNo). next_of_driver def t past (due_call def t past) ≡ Some e) (sym (driver_from_same r s same)) due

pub own_due : (def : LineDef) (r : DriverNo) (e : Entry) (past : List Entry) → IsDue def e past
    → is_by_driver r e ≡ true → next_of_driver def r past (due_call def r past) ≡ Some e
own_due def r (by.Driver s x) past due mine = of_same def r s (by.Driver s x) past due mine
own_due def r (by.DriverCall s call) past due mine = of_same def r s (by.DriverCall s call) past due mine
own_due def r e past due mine = cc

-- another's entry is no disable of r
pub not_own : (r : DriverNo) (e : Entry) → is_by_driver r e ≡ false → is_disable_by r e ≡ false
not_own r (by.DriverCall s called.Disable) other = other
not_own r e other = refl

-- ---- within a call that waits, past its hard clear

-- the step of a call, in whichever branch it is made
pub made_unless : (r : DriverNo) (b : Bool) (call : CallEntry) (e : Entry) → option_map (made_by (actors.Driver r)) (cond b None (Some call)) ≡ Some e
    → by.DriverCall r call ≡ e
made_unless r true call e h = cc
made_unless r false call e h = the_same _ _ h

pub made_when : (r : DriverNo) (b : Bool) (call : CallEntry) (e : Entry) → option_map (made_by (actors.Driver r)) (cond b (Some call) None) ≡ Some e
    → by.DriverCall r call ≡ e
made_when r true call e h = the_same _ _ h
made_when r false call e h = cc

-- past its first entries, the last of which was the hard clear
data Waits (def : LineDef) (r : DriverNo) (past : List Entry) : Type 0 where
  in_disable : due_call def r past ≡ Some (calls.Disable, 2) → Waits def r past
  in_sync : due_call def r past ≡ Some (calls.Sync, 1) → Waits def r past

own_clear : (def : LineDef) (r : DriverNo) (past : List Entry) (e : Entry) (c : Call) (n : ℕ) → IsDue def e past → is_by (actors.Driver r) e ≡ true
    → due_call def r past ≡ Some (c, n) → next_of_driver def r past (Some (c, n)) ≡ option_map (made_by (actors.Driver r)) (hard_clear_of def past)
    → e ≡ by.DriverCall r called.HardClear
own_clear def r past e c n due mine is step =
    let whose = actor_from_same (actors.Driver r) (actor_of e) mine in
    let at : next_of_driver def r past (due_call def r past) ≡ Some e = ap (next_past def past) whose ∙ due in
    sym (made_unless r (has_flow def past) called.HardClear e (sym step ∙ ap (λ (o : Option (Call × ℕ)). next_of_driver def r past o) (sym is) ∙ at))

abbrev IsClearedAfter : DriverNo → List Entry → Entry → Type 0
IsClearedAfter r past e = list_any (is_hard_clear_by r) (since_disable r (e ∷ past)) ≡ true

same_maker : (r : DriverNo) (x : Actor) → same_actor (actors.Driver r) x ≡ is_driver r x
same_maker r (actors.Driver s) = refl
same_maker r (actors.Thread d) = refl
same_maker r (actors.Cpu c) = refl

-- so it stands after the last disable of r
cleared_since : (def : LineDef) (r : DriverNo) (past : List Entry) → IsLegalPast def past → Waits def r past
    → list_any (is_hard_clear_by r) (since_disable r past) ≡ true
cleared_since def r [] legal (in_disable is) = absurd (let zero = fresh (calls_by r def.calls) calls.Disable 2 is in omega (arith, zero))
cleared_since def r [] legal (in_sync is) = absurd (let zero = fresh (calls_by r def.calls) calls.Sync 1 is in omega (arith, zero))
cleared_since def r (e ∷ past) legal w = by_wait w (cleared_since def r past legal.1)
  where
    t : Turn def (actors.Driver r) e past
    t = turn def (actors.Driver r) e past legal.0 (runs_past def past legal.1)

    later : is_by (actors.Driver r) e ≡ false → Waits def r past
        → (Waits def r past → list_any (is_hard_clear_by r) (since_disable r past) ≡ true) → IsClearedAfter r past e
    later other before deeper =
        ap (λ (b : Bool). list_any (is_hard_clear_by r) (cond b [] (e ∷ since (is_disable_by r) past))) (not_own r e (sym (same_maker r (actor_of e)) ∙ other))
        ∙ or_right (is_hard_clear_by r e) (list_any (is_hard_clear_by r) (since_disable r past)) (deeper before)

    here : e ≡ by.DriverCall r called.HardClear → IsClearedAfter r past e
    here is = subst (λ (x : Entry). IsClearedAfter r past x) (sym is)
        (or_left (same_driver r r) (list_any (is_hard_clear_by r) (since_disable r past)) (same_self_driver r))

    by_disable : Within def (actors.Driver r) e past calls.Disable 1
        → (Waits def r past → list_any (is_hard_clear_by r) (since_disable r past) ≡ true) → IsClearedAfter r past e
    by_disable (earlier other before) deeper = later other (in_disable before) deeper
    by_disable (by_this mine before more) deeper = here (own_clear def r past e calls.Disable 1 legal.0 mine before refl)

    by_sync : Within def (actors.Driver r) e past calls.Sync 0
        → (Waits def r past → list_any (is_hard_clear_by r) (since_disable r past) ≡ true) → IsClearedAfter r past e
    by_sync (earlier other before) deeper = later other (in_sync before) deeper
    by_sync (by_this mine before more) deeper = here (own_clear def r past e calls.Sync 0 legal.0 mine before refl)

    by_wait : Waits def r (e ∷ past) → (Waits def r past → list_any (is_hard_clear_by r) (since_disable r past) ≡ true) → IsClearedAfter r past e
    by_wait (in_disable is) deeper = by_disable (within def (actors.Driver r) e past calls.Disable 1 t is) deeper
    by_wait (in_sync is) deeper = by_sync (within def (actors.Driver r) e past calls.Sync 0 t is) deeper

-- ---- a synced

third : (n : ℕ) → (n == 0) ≡ false → (n == 1) ≡ false → n < 3 → n ≡ 2
third n a b h = let x = eqb-false n 0 a in let y = eqb-false n 1 b in grind arith

second : (n : ℕ) → (n == 0) ≡ false → n < 2 → n ≡ 1
second n a h = let x = eqb-false n 0 a in grind arith

below_three : (def : LineDef) (r : DriverNo) (past : List Entry) (n : ℕ) → due_call def r past ≡ Some (calls.Disable, n) → n < 3
below_three def r past n is =
    let s = standing (calls_by r def.calls) (entries_by r past) calls.Disable n is in
    let counts : n ≡ length s.own = s.counts in
    let below : length s.own < 3 = ltb-true (length s.own) 3 s.incomplete in
    omega (arith, counts, below)

below_two : (def : LineDef) (r : DriverNo) (past : List Entry) (n : ℕ) → due_call def r past ≡ Some (calls.Sync, n) → n < 2
below_two def r past n is =
    let s = standing (calls_by r def.calls) (entries_by r past) calls.Sync n is in
    let counts : n ≡ length s.own = s.counts in
    let below : length s.own < 2 = ltb-true (length s.own) 2 s.incomplete in
    omega (arith, counts, below)

synced_waits : (def : LineDef) (r : DriverNo) (past : List Entry) → IsDue def (by.DriverCall r called.Synced) past → Waits def r past
synced_waits def r past due = by_call (synced_call def (due_call def r past) past (call_row def (actors.Driver r) called.Synced past due))
  where
    by_call : ((n : ℕ) × (due_call def r past ≡ Some (calls.Disable, n)) × ((n == 0) ≡ false) × ((n == 1) ≡ false))
        ⊎ ((n : ℕ) × (due_call def r past ≡ Some (calls.Sync, n)) × ((n == 0) ≡ false)) → Waits def r past
    by_call (inl (n, is, a, b)) = in_disable (subst (λ (m : ℕ). due_call def r past ≡ Some (calls.Disable, m)) (third n a b (below_three def r past n is)) is)
    by_call (inr (n, is, a)) = in_sync (subst (λ (m : ℕ). due_call def r past ≡ Some (calls.Sync, m)) (second n a (below_two def r past n is)) is)

-- at r's synced its hard clear stands after its last disable
pub cleared_before : (def : LineDef) (r : DriverNo) (past : List Entry) → IsLegalPast def past
    → IsDue def (by.DriverCall r called.Synced) past → list_any (is_hard_clear_by r) (since_disable r past) ≡ true
cleared_before def r past legal due = cleared_since def r past legal (synced_waits def r past due)
