-- Between the system's disable and its enable the other drivers only ask, move by move.
use Rattle.std.proofs.Common.{◌≡◌, Bool, true, false, not, ◌||◌, ◌&&◌, cond, List, [], ◌∷◌, refl, ap, ◌∙◌, arith}
use Rattle.std.specs.List.{list_any}
use Rattle.irq_base.specs.Who.{actor_of}
use Rattle.irq_base.specs.declared.entries.Actor.{Actor}
use Rattle.irq_base.specs.declared.entries.Entry.{Entry}
use Rattle.irq_model.specs.Kinds.{is_any_ask, is_by_driver, is_driver}
use Rattle.irq_laws.proofs.Lists.{both_ways}
use Rattle.board_driver.specs.Longer.{last_driver}
use Rattle.irq_pm.proofs.Waits.{not_own}
use Rattle.irq_pm.specs.Sleeping.{is_disable_by, is_enable_by, is_other_driver, is_other_call, since_disable, is_suspended, others_only_ask}

-- while the line is suspended the other drivers have only asked
abbrev pub IsAlone : List Entry → Type 0
IsAlone past = is_suspended last_driver past ≡ true → others_only_ask last_driver past ≡ true

-- ---- whose entry

-- no driver but the system's made it
pub not_other : (e : Entry) (a : Actor) → actor_of e ≡ a → is_other_driver last_driver a ≡ false → is_other_call last_driver e ≡ false
not_other e a its none = ap (λ (b : Bool). b && not (is_any_ask e)) (ap (λ (a : Actor). is_other_driver last_driver a) its ∙ none)

-- an ask is no other call
pub ask_is_none : (e : Entry) → is_any_ask e ≡ true → is_other_call last_driver e ≡ false
ask_is_none e ask = by_test (is_other_driver last_driver (actor_of e)) (is_any_ask e) ask
  where
    by_test : (o a : Bool) → a ≡ true → (o && not a) ≡ false
    by_test true a is = ap not is
    by_test false a is = refl

-- not the system's
pub not_by : (e : Entry) (a : Actor) → actor_of e ≡ a → is_driver last_driver a ≡ false → is_by_driver last_driver e ≡ false
not_by e a its none = ap (λ (a : Actor). is_driver last_driver a) its ∙ none

-- ---- one more entry

asleep_parts : (d e s : Bool) → (d || (not e && s)) ≡ true → d ≡ false → s ≡ true
asleep_parts d e s h none = grind arith

stays_awake : (d e s : Bool) → d ≡ false → s ≡ false → (d || (not e && s)) ≡ false
stays_awake d e s none was = grind arith

none_more : (d o x : Bool) → o ≡ false → not x ≡ true → not (o || x) ≡ true
none_more d o x none was = grind arith

pub alone_more : (e : Entry) (past : List Entry) → is_other_call last_driver e ≡ false → IsAlone past → IsAlone (e ∷ past)
alone_more e past none alone stands = by_test (is_disable_by last_driver e) refl
  where
    by_test : (d : Bool) → is_disable_by last_driver e ≡ d
        → not (list_any (is_other_call last_driver) (cond (is_disable_by last_driver e) []
        (e ∷ since_disable last_driver past))) ≡ true
    by_test true is = ap (λ (b : Bool). not (list_any (is_other_call last_driver) (cond b [] (e ∷ since_disable last_driver past)))) is
    by_test false is =
        let was : is_suspended last_driver past ≡ true
        = asleep_parts (is_disable_by last_driver e) (is_enable_by last_driver e) (is_suspended last_driver past)
        stands is in
        ap (λ (b : Bool). not (list_any (is_other_call last_driver) (cond b [] (e ∷ since_disable last_driver past)))) is
        ∙ none_more false (is_other_call last_driver e) (list_any (is_other_call last_driver) (since_disable last_driver past)) none (alone was)

-- a line that isn't suspended stays so, unless the system's driver makes the entry
pub awake_more : (e : Entry) (past : List Entry) → is_by_driver last_driver e ≡ false
    → is_suspended last_driver past ≡ false → is_suspended last_driver (e ∷ past) ≡ false
awake_more e past other awake = stays_awake (is_disable_by last_driver e) (is_enable_by last_driver e)
    (is_suspended last_driver past) (not_own last_driver e other) awake

pub awake_is_alone : (past : List Entry) → is_suspended last_driver past ≡ false → IsAlone past
awake_is_alone past awake stands = both_ways (is_suspended last_driver past) stands awake
