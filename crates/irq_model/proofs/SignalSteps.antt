-- The mask in force, and the processor that takes a line's interrupts.
use Rattle.std.proofs.Common.{◌≡◌, ℕ, ◌%◌, ◌||◌, Bool, true, false, Some, List, [], ◌∷◌, refl, ap, arith}
use Rattle.std.specs.List.{list_any}
use Rattle.std.proofs.lemmas.Nat.Bits.{bit_at_lowest}
use Rattle.irq_base.specs.declared.entries.Entry.{Entry}
use Rattle.irq_base.specs.declared.entries.Entry.TheVariants as by
use Rattle.irq_base.specs.declared.entries.DriverEntry.TheVariants as drivers
use Rattle.irq_base.specs.declared.lines.LineDef.{LineDef}
use Rattle.irq_model.specs.Places.{last_place}
use Rattle.irq_model.specs.Signal.{puts_in_force, mask_of, mask_in_force, lowest_in}

abbrev pub is_affinity : Entry → Bool
is_affinity (by.Driver driver (drivers.Affinity answer mask)) = true
is_affinity _ = false

no_change : (e : Entry) (after past : List Entry) → is_affinity e ≡ false → puts_in_force after (e ∷ past) ≡ false
no_change (by.Driver driver (drivers.Affinity answer mask)) after past h = cc
no_change _ after past h = refl

rest_none : (b c : Bool) → (b || c) ≡ false → c ≡ false
rest_none b c h = grind arith

head_none : (b c : Bool) → (b || c) ≡ false → b ≡ false
head_none b c h = grind arith

none_in_force : (pre : List Entry → List Entry) (past : List Entry) → list_any is_affinity past ≡ false → last_place (λ a u. puts_in_force (pre a) u) past ≡ []
none_in_force pre [] h = refl
none_in_force pre (e ∷ past) h =
    let here : puts_in_force (pre []) (e ∷ past) ≡ false = no_change e (pre []) past (head_none (is_affinity e) (list_any is_affinity past) h) in
    rw here (none_in_force (λ a. pre (e ∷ a)) past (rest_none (is_affinity e) (list_any is_affinity past) h))

-- if no affinity was changed, the line's own mask is in force
pub own_mask : (def : LineDef) (past : List Entry) → list_any is_affinity past ≡ false → mask_in_force def past ≡ def.mask
own_mask def past h = ap (mask_of def.mask) (none_in_force (λ a. a) past h)

-- of one processor, it is the lowest of a mask that has it
pub lowest_of_one : (mask : ℕ) → mask % 2 ≡ 1 → lowest_in 1 mask ≡ Some (record { 0 = 0 })
lowest_of_one mask h = rw (bit_at_lowest mask, h) refl
