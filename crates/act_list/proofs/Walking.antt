-- The walk over the actions: all before a place have begun.
use Rattle.std.proofs.Common.{◌≡◌, ℕ, zero, suc, ◌+◌, ◌≤◌, ◌<◌, Bool, true, false, cond, bit_or, Option, Some, None}
use Rattle.std.proofs.Common.{IfSome, option_map, unwrap_or, slice_get, List, [], ◌∷◌, ◌++◌, take, drop, length, refl}
use Rattle.std.proofs.Common.{sym, ap, subst, ◌∙◌, add-one, arith}
use Rattle.std.proofs.lemmas.List.{take-append-le}
use Rattle.irq_base.specs.declared.numbers.DevNo.{DevNo}
use Rattle.irq_model.specs.Kinds.{same_dev}
use Rattle.irq_model.proofs.Same.{dev_from_same}
use Rattle.device_table.specs.Rows.{at, put, change, changed}
use Rattle.device_table.proofs.Lowest.{at_put_same, at_put_other}
use Rattle.act_list.specs.Actions.{bits_from, bit_in, first_of}
use Rattle.act_list.specs.Lists.{begun_at, first_left}
use Rattle.act_list.specs.Stamps.{AreBegun}
use Rattle.act_list.specs.declared.actions.Action.{Action}

abbrev Actions : Type 0
Actions = List (DevNo × Action)

-- ---- thread bits

-- one more bit
pub bits_next : (t : Actions) (i used : ℕ) → i < length t → bits_from (bit_or used (bit_in (slice_get t i))) (drop (i + 1) t) ≡ bits_from used (drop i t)
bits_next [] i used h = absurd (omega (arith, h))
bits_next (e ∷ es) zero used h = refl
bits_next (e ∷ es) (suc i) used h =
    ap (λ n. bits_from (bit_or used (bit_in (slice_get es i))) (drop n (e ∷ es))) (add-one (suc i))
    ∙ (ap (λ n. bits_from (bit_or used (bit_in (slice_get es i))) (drop n es)) (sym (add-one i))
    ∙ bits_next es i used (omega (arith, h)))

pub bits_all : (t : Actions) (i used : ℕ) → length t ≤ i → bits_from used (drop i t) ≡ used
bits_all [] zero used h = refl
bits_all [] (suc i) used h = refl
bits_all (e ∷ es) zero used h = absurd (omega (arith, h))
bits_all (e ∷ es) (suc i) used h = bits_all es i used (omega (arith, h))

-- ---- places

-- one more has begun
pub begun_next : (b : List (DevNo × Bool)) (t : Actions) (i : ℕ) (d : DevNo)
    → Some d ≡ option_map first_of (slice_get t i) → begun_at b d ≡ true → AreBegun b (take i t)
    → AreBegun b (take (i + 1) t)
begun_next b [] i d found is h = cc
begun_next b (e ∷ es) zero d found is h = let same : d ≡ e.0 = cc in (ap (begun_at b) (sym same) ∙ is, tt)
begun_next b (e ∷ es) (suc i) d found is h =
    subst (λ n. AreBegun b (take n (e ∷ es))) (sym (add-one (suc i))) (h.0, subst (λ n. AreBegun b (take n es)) (add-one i) (begun_next b es i d found is h.1))

pub place_within : (t : Actions) (i : ℕ) (d : DevNo) → Some d ≡ option_map first_of (slice_get t i) → i + 1 ≤ length t
place_within [] i d found = cc
place_within (e ∷ es) zero d found = omega arith
place_within (e ∷ es) (suc i) d found = omega (arith, place_within es i d found)

pub left_is : (b : List (DevNo × Bool)) (o : Option (DevNo × Action)) (d : DevNo) → Some d ≡ option_map first_of o
    → begun_at b d ≡ false → IfSome o (λ e. begun_at b e.0 ≡ false)
left_is b None d found is = cc
left_is b (Some e) d found is = let same : d ≡ e.0 = cc in ap (begun_at b) (sym same) ∙ is

pub left_none : (b : List (DevNo × Bool)) (o : Option (DevNo × Action)) → None ≡ option_map first_of o → IfSome o (λ e. begun_at b e.0 ≡ false)
left_none b None h = tt
left_none b (Some e) h = cc

-- if all before place i have begun, the action at i is the first that is left
pub left_at : (b : List (DevNo × Bool)) (t : Actions) (i : ℕ) → i ≤ length t → AreBegun b (take i t)
    → IfSome (slice_get t i) (λ e. begun_at b e.0 ≡ false) → option_map first_of (slice_get t i) ≡ first_left b t
left_at b [] i small h left = refl
left_at b (e ∷ es) zero small h left = sym (ap (λ c. cond c (first_left b es) (Some e.0)) left)
left_at b (e ∷ es) (suc i) small h left = left_at b es i (omega (arith, small)) h.1 left ∙ sym (ap (λ c. cond c (first_left b es) (Some e.0)) h.0)

-- ---- one more begins

still : (b : List (DevNo × Bool)) (d x : DevNo) (o : Option Bool) → at b d ≡ o → begun_at b x ≡ true → begun_at (changed (λ c. true) b d o) x ≡ true
still b d x None found h = h
still b d x (Some v) found h = by_test (same_dev d x) refl
  where
    by_test : (y : Bool) → same_dev d x ≡ y → begun_at (put b d true) x ≡ true
    by_test true is = ap (λ (z : DevNo). begun_at (put b d true) z) (sym (dev_from_same d x is))
        ∙ ap (λ (z : Option Bool). unwrap_or z false) (at_put_same b d true v found)
    by_test false is = ap (λ (z : Option Bool). unwrap_or z false) (at_put_other b d x true is) ∙ h

pub begun_keeps : (b : List (DevNo × Bool)) (d : DevNo) (t : Actions) → AreBegun b t → AreBegun (change (λ c. true) b d) t
begun_keeps b d [] h = tt
begun_keeps b d (e ∷ es) h = (still b d e.0 (at b d) refl h.0, begun_keeps b d es h.1)

-- an action more at the end
pub begun_append : (b : List (DevNo × Bool)) (t more : Actions) (i : ℕ) → i ≤ length t → AreBegun b (take i t) → AreBegun b (take i (t ++ more))
begun_append b t more i small h = subst (AreBegun b) (sym (take-append-le i t more small)) h
