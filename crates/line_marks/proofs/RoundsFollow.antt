-- The round follows the history.
use Rattle.std.proofs.Common.{◌≡◌, Bool, true, false, ◌||◌, cond, Some, List, [], ◌∷◌, refl}
use Rattle.std.specs.List.{list_any}
use Rattle.irq_base.specs.declared.entries.Entry.{Entry}
use Rattle.irq_base.specs.declared.entries.Entry.TheVariants as by
use Rattle.irq_base.specs.declared.entries.DriverEntry.TheVariants as drivers
use Rattle.irq_base.specs.declared.lines.LineDef.{LineDef}
use Rattle.irq_model.specs.Kinds.{is_begin_or_return, returns_wake, returns_handled}
use Rattle.irq_model.specs.Places.{last_of}
use Rattle.irq_model.specs.Rounds.{begins_round, round, at_work, dev_of_begin}
use Rattle.irq_model.specs.Spurious.{now}
use Rattle.line_marks.specs.Rounds.{RoundSeen, round_of, round_after, now_after}

chosen : {A B : Type 0} (f : A → B) (b : Bool) (x y : A) → f (cond b x y) ≡ cond b (f x) (f y)
chosen f true x y = refl
chosen f false x y = refl

working_more : (e : Entry) (past : List Entry) → at_work (e ∷ past) ≡ cond (is_begin_or_return e) (dev_of_begin (Some e)) (at_work past)
working_more e past = chosen dev_of_begin (is_begin_or_return e) (Some e) (last_of is_begin_or_return past)

pub in_round : (def : LineDef) (p : Entry → Bool) (e : Entry) (past : List Entry)
    → list_any p (round def (e ∷ past)) ≡ cond (begins_round def e) false (p e || list_any p (round def past))
in_round def p e past = by_test (begins_round def e)
  where
    by_test : (b : Bool) → list_any p (cond b [] (e ∷ round def past)) ≡ cond b false (p e || list_any p (round def past))
    by_test true = refl
    by_test false = refl

now_more : (e : Entry) (past : List Entry) → now (e ∷ past) ≡ now_after e (now past)
now_more (by.Driver r (drivers.Moment at)) past = refl
now_more _ past = refl

same_round : (a b : RoundSeen) → a.working ≡ b.working → a.wakes ≡ b.wakes → a.handles ≡ b.handles → a.moment ≡ b.moment → a ≡ b
same_round a b h i j k = (let e : ◌≡◌ {A = RoundSeen} (record
    { working = a.working; wakes = a.wakes; handles = a.handles; moment = a.moment }) b = rw (h, i, j, k) refl in e)

pub round_more : (def : LineDef) (e : Entry) (past : List Entry) → round_of def (e ∷ past) ≡ round_after def e (round_of def past)
round_more def e past =
    same_round (round_of def (e ∷ past)) (round_after def e (round_of def past))
    (working_more e past) (in_round def returns_wake e past) (in_round def returns_handled e past) (now_more e past)
