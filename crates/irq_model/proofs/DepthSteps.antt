-- What one more entry makes of the depth.
use Rattle.std.proofs.Common.{◌≡◌, ℕ, ◌+◌, Bool, true, false, cond, List, [], ◌∷◌, refl, ◌∙◌, arith}
use Rattle.irq_base.specs.declared.entries.Entry.{Entry}
use Rattle.irq_model.specs.Places.{since_place, upto_place, count_of}
use Rattle.irq_model.specs.Kinds.{is_start}
use Rattle.irq_model.specs.Links.{is_reset, base, is_deepening, is_lowering}

-- the two sides of the depth: what it was raised to, and how often it was lowered
abbrev pub raised : List Entry → ℕ
raised past = base (upto_place is_reset past) + count_of is_deepening (since_place is_reset past)

abbrev pub lowered : List Entry → ℕ
lowered past = count_of is_lowering (since_place is_reset past)

at_reset : (b : Bool) (e : Entry) (past : List Entry) → b ≡ true
    → ((base (cond b (e ∷ past) (upto_place is_reset past)) + count_of is_deepening
    (cond b [] (e ∷ since_place is_reset past))) ≡ cond (is_start e) 0 1)
    × (count_of is_lowering (cond b [] (e ∷ since_place is_reset past)) ≡ 0)
at_reset true e past h = (omega arith, refl)
at_reset false e past h = cc

at_place : (b : Bool) (e : Entry) (past : List Entry) → b ≡ false
    → ((base (cond b (e ∷ past) (upto_place is_reset past)) + count_of is_deepening
    (cond b [] (e ∷ since_place is_reset past))) ≡ base (upto_place is_reset past) + cond (is_deepening e)
    (count_of is_deepening (since_place is_reset past) + 1) (count_of is_deepening (since_place is_reset past)))
    × (count_of is_lowering (cond b [] (e ∷ since_place is_reset past)) ≡ cond (is_lowering e) (lowered past + 1) (lowered past))
at_place true e past h = cc
at_place false e past h = (refl, refl)

-- a first request, or a last unlink
pub raised_reset : (e : Entry) (past : List Entry) → is_reset (e ∷ past) ≡ true → (raised (e ∷ past) ≡ cond (is_start e) 0 1) × (lowered (e ∷ past) ≡ 0)
raised_reset e past h = at_reset (is_reset (e ∷ past)) e past h

more_by : (b : Bool) (x n : ℕ) → x + cond b (n + 1) n ≡ cond b ((x + n) + 1) (x + n)
more_by true x n = omega arith
more_by false x n = refl

-- any other entry
pub raised_more : (e : Entry) (past : List Entry) → is_reset (e ∷ past) ≡ false
    → (raised (e ∷ past) ≡ cond (is_deepening e) (raised past + 1) (raised past))
    × (lowered (e ∷ past) ≡ cond (is_lowering e) (lowered past + 1) (lowered past))
raised_more e past h =
    let n = at_place (is_reset (e ∷ past)) e past h in
    (n.0 ∙ more_by (is_deepening e) (base (upto_place is_reset past)) (count_of is_deepening (since_place is_reset past)), n.1)
