-- The affinity of a line follows its history.
use Rattle.std.proofs.Common.{◌≡◌, ℕ, Bool, true, false, cond, unwrap_or, List, [], ◌∷◌, refl, sym, ap, ◌∙◌}
use Rattle.std.specs.List.{list_any}
use Rattle.irq_base.specs.declared.entries.AffinityAnswer.TheVariants as moves
use Rattle.irq_base.specs.declared.entries.Entry.{Entry}
use Rattle.irq_base.specs.declared.entries.Entry.TheVariants as by
use Rattle.irq_base.specs.declared.entries.CpuEntry.TheVariants as cpus
use Rattle.irq_base.specs.declared.entries.DriverEntry.TheVariants as drivers
use Rattle.irq_base.specs.declared.lines.LineDef.{LineDef}
use Rattle.irq_model.specs.Kinds.{is_take}
use Rattle.irq_model.specs.Places.{last_place}
use Rattle.irq_model.specs.Signal.{mask_of, puts_in_force}
use Rattle.affinity.specs.Seen.{AimSeen}
use Rattle.line_marks.specs.Aim.{waiting_of, aim_of, aim_after}

last_ext : (P Q : List Entry → List Entry → Bool) (past : List Entry) → ((a u : List Entry) → P a u ≡ Q a u) → last_place P past ≡ last_place Q past
last_ext P Q [] h = refl
last_ext P Q (e ∷ past) h = rw (h [] (e ∷ past)) (ap (λ (t : List Entry). cond (Q [] (e ∷ past)) (e ∷ past) t)
    (last_ext (λ a u. P (e ∷ a) u) (λ a u. Q (e ∷ a) u) past (λ a u. h (e ∷ a) u)))

-- while no take comes, what is in force stays
same_place : (e : Entry) (a u : List Entry) → is_take e ≡ false → puts_in_force (e ∷ a) u ≡ puts_in_force a u
same_place e a [] h = refl
same_place e a (by.Driver r (drivers.Affinity moves.Now mask) ∷ u) h = refl
same_place e a (by.Driver r (drivers.Affinity moves.Later mask) ∷ u) h = rw h refl
same_place e a (by.Driver r (drivers.Affinity (moves.Refused error) mask) ∷ u) h = refl
same_place e a (_ ∷ u) h = refl

no_take : (mask : ℕ) (e : Entry) (past : List Entry) → is_take e ≡ false
    → mask_of mask (last_place (λ a u. puts_in_force (e ∷ a) u) past) ≡ mask_of mask (last_place puts_in_force past)
no_take mask e past h = ap (mask_of mask) (last_ext (λ a u. puts_in_force (e ∷ a) u) puts_in_force past (λ a u. same_place e a u h))

abbrev pub in_force : ℕ → List Entry → ℕ
in_force mask past = mask_of mask (last_place puts_in_force past)

-- after a take, the mask that waited is in force
taken : (mask : ℕ) (pre : List Entry → List Entry) (past : List Entry) → ((a : List Entry) → list_any is_take (pre a) ≡ true)
    → mask_of mask (last_place (λ a u. puts_in_force (pre a) u) past) ≡ unwrap_or (waiting_of past) (in_force mask past)
taken mask pre [] h = refl
taken mask pre (by.Driver r (drivers.Affinity moves.Now m) ∷ past) h = refl
taken mask pre (by.Driver r (drivers.Affinity moves.Later m) ∷ past) h = rw (h []) refl
taken mask pre (by.Cpu c (cpus.Take way answer) ∷ past) h =
    let e = by.Cpu c (cpus.Take way answer) in
    taken mask (λ a. pre (e ∷ a)) past (λ a. h (e ∷ a)) ∙ sym (taken mask (λ a. e ∷ a) past (λ a. refl))
taken mask pre (e ∷ past) h =
    taken mask (λ a. pre (e ∷ a)) past (λ a. h (e ∷ a))
    ∙ ap (unwrap_or (waiting_of past)) (sym (no_take mask e past refl))

same_aim : (a b : AimSeen) → a.cpus ≡ b.cpus → a.later ≡ b.later → a.mask ≡ b.mask → a.waiting ≡ b.waiting → a ≡ b
same_aim a b c l h i = (let e : ◌≡◌ {A = AimSeen} (record { cpus = a.cpus; later = a.later; mask = a.mask; waiting = a.waiting }) b = rw (c, l, h, i) refl in e)

still : (def : LineDef) (e : Entry) (past : List Entry) → is_take e ≡ false → puts_in_force [] (e ∷ past) ≡ false
    → waiting_of (e ∷ past) ≡ waiting_of past → aim_of def (e ∷ past) ≡ aim_of def past
still def e past h i w = same_aim (aim_of def (e ∷ past)) (aim_of def past) refl refl (rw i (no_take def.mask e past h)) w

pub aim_more : (def : LineDef) (e : Entry) (past : List Entry) → aim_of def (e ∷ past) ≡ aim_after e (aim_of def past)
aim_more def (by.Driver r (drivers.Affinity moves.Now m)) past = refl
aim_more def (by.Driver r (drivers.Affinity moves.Later m)) past =
    same_aim (aim_of def (by.Driver r (drivers.Affinity moves.Later m) ∷ past))
    (aim_after (by.Driver r (drivers.Affinity moves.Later m)) (aim_of def past)) refl refl
    (no_take def.mask (by.Driver r (drivers.Affinity moves.Later m)) past refl) refl
aim_more def (by.Driver r (drivers.Affinity (moves.Refused error) m)) past
    = still def (by.Driver r (drivers.Affinity (moves.Refused error) m)) past refl refl refl
aim_more def (by.Cpu c (cpus.Take way answer)) past =
    same_aim (aim_of def (by.Cpu c (cpus.Take way answer) ∷ past)) (aim_after (by.Cpu c (cpus.Take way answer)) (aim_of def past))
    refl refl (taken def.mask (λ a. by.Cpu c (cpus.Take way answer) ∷ a) past (λ a. refl)) refl
aim_more def e past = still def e past refl refl refl
