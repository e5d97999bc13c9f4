-- Stamps tell who was called in the round.
use Rattle.std.proofs.Common.{◌≡◌, ℕ, ◌+◌, ◌≤◌, ◌==◌, Bool, true, false, cond, eq-eqb, Option, Some, None, option_map}
use Rattle.std.proofs.Common.{unwrap_or, List, [], ◌∷◌, refl, sym, ap, ◌∙◌, arith}
use Rattle.std.proofs.lemmas.Bool.Decides.{nat_tests}
use Rattle.irq_base.specs.declared.devices.DeviceDef.{DeviceDef}
use Rattle.irq_base.specs.declared.numbers.DevNo.{DevNo}
use Rattle.irq_model.specs.Kinds.{same_dev}
use Rattle.device_table.specs.Rows.{at, put, change, changed, all_with, filled}
use Rattle.act_list.specs.Lists.{cleared, begun_at}
use Rattle.act_list.specs.Stamps.{stamped, AreStamps}

apart : (a n : ℕ) → a ≤ n → (a == n + 1) ≡ false
apart a n h = grind (arith, nat_tests)

-- in a new round none is
pub next_round : (n : ℕ) (t : List (DevNo × ℕ)) → AreStamps n t → stamped (n + 1) t ≡ cleared (stamped n t)
next_round n [] h = refl
next_round n (e ∷ es) h = ap (λ (b : Bool). (e.0, b) ∷ stamped (n + 1) es) (apart e.1 n h.0)
    ∙ ap (λ (t : List (DevNo × Bool)). (e.0, false) ∷ t) (next_round n es h.1)

pub still_stamps : (n : ℕ) (t : List (DevNo × ℕ)) → AreStamps n t → AreStamps (n + 1) t
still_stamps n [] h = tt
still_stamps n (e ∷ es) h = (omega (arith, h.0), still_stamps n es h.1)

at_stamped : (n : ℕ) (t : List (DevNo × ℕ)) (d : DevNo) → at (stamped n t) d ≡ option_map (λ s. s == n) (at t d)
at_stamped n [] d = refl
at_stamped n (e ∷ es) d = by_test (same_dev d e.0) (at_stamped n es d)
  where
    by_test : (b : Bool) → at (stamped n es) d ≡ option_map (λ s. s == n) (at es d)
        → cond b (Some (e.1 == n)) (at (stamped n es) d) ≡ option_map (λ s. s == n) (cond b (Some e.1) (at es d))
    by_test true rest = refl
    by_test false rest = rest

put_apart : (d : DevNo) (x : DevNo × Bool) (t : List (DevNo × Bool)) (v : Bool) → same_dev d x.0 ≡ false → put (x ∷ t) d v ≡ x ∷ put t d v
put_apart d x t v h = ap (λ b. cond b ((x.0, v) ∷ t) (x ∷ put t d v)) h

found_apart : (d : DevNo) (x : DevNo × Bool) (t : List (DevNo × Bool)) (o : Option Bool) → same_dev d x.0 ≡ false
    → changed (λ b. true) (x ∷ t) d o ≡ x ∷ changed (λ b. true) t d o
found_apart d x t None h = refl
found_apart d x t (Some v) h = put_apart d x t true h

changed_more : (d : DevNo) (x : DevNo × Bool) (t : List (DevNo × Bool)) → same_dev d x.0 ≡ false → change (λ b. true) (x ∷ t) d ≡ x ∷ change (λ b. true) t d
changed_more d x t h = ap (λ b. changed (λ c. true) (x ∷ t) d (cond b (Some x.1) (at t d))) h ∙ found_apart d x t (at t d) h

changed_here : (d : DevNo) (x : DevNo × Bool) (t : List (DevNo × Bool)) → same_dev d x.0 ≡ true → change (λ b. true) (x ∷ t) d ≡ (x.0, true) ∷ t
changed_here d x t h = ap (λ b. changed (λ c. true) (x ∷ t) d (cond b (Some x.1) (at t d))) h ∙ ap (λ b. cond b ((x.0, true) ∷ t) (x ∷ put t d true)) h

pub stamp_is : (n : ℕ) (t : List (DevNo × ℕ)) (d : DevNo) → stamped n (put t d n) ≡ change (λ b. true) (stamped n t) d
stamp_is n [] d = refl
stamp_is n (e ∷ es) d = by_test (same_dev d e.0) refl (stamp_is n es d)
  where
    by_test : (b : Bool) → same_dev d e.0 ≡ b → stamped n (put es d n) ≡ change (λ x. true) (stamped n es) d
        → stamped n (cond b ((e.0, n) ∷ es) (e ∷ put es d n)) ≡ change (λ x. true) ((e.0, e.1 == n) ∷ stamped n es) d
    by_test true is rest = ap (λ (b : Bool). (e.0, b) ∷ stamped n es) (eq-eqb n n refl) ∙ sym (changed_here d (e.0, e.1 == n) (stamped n es) is)
    by_test false is rest = ap (λ (t : List (DevNo × Bool)). (e.0, e.1 == n) ∷ t) rest ∙ sym (changed_more d (e.0, e.1 == n) (stamped n es) is)

pub put_stamps : (n : ℕ) (t : List (DevNo × ℕ)) (d : DevNo) → AreStamps n t → AreStamps n (put t d n)
put_stamps n [] d h = tt
put_stamps n (e ∷ es) d h = by_test (same_dev d e.0) (put_stamps n es d h.1)
  where
    by_test : (b : Bool) → AreStamps n (put es d n) → AreStamps n (cond b ((e.0, n) ∷ es) (e ∷ put es d n))
    by_test true rest = (omega arith, h.1)
    by_test false rest = (h.0, rest)

-- whether a device was called, by its stamp
pub begun_is : (n : ℕ) (t : List (DevNo × ℕ)) (d : DevNo) (o : Option ℕ) → o ≡ at t d → unwrap_or (option_map (λ s. s == n) o) false ≡ begun_at (stamped n t) d
begun_is n t d o h = ap (λ (x : Option ℕ). unwrap_or (option_map (λ s. s == n) x) false) h
    ∙ sym (ap (λ (x : Option Bool). unwrap_or x false) (at_stamped n t d))

-- at first nobody was
pub none_stamped : (xs : List DeviceDef) → stamped 1 (all_with 0 xs) ≡ all_with false xs
none_stamped [] = refl
none_stamped (x ∷ xs) = ap (λ (t : List (DevNo × Bool)). (x.dev, false) ∷ t) (none_stamped xs)

pub first_stamps : (xs : List DeviceDef) → AreStamps 1 (all_with 0 xs)
first_stamps [] = tt
first_stamps (x ∷ xs) = (omega arith, first_stamps xs)

-- and nobody was once all stamps are gone
pub none_filled : (n : ℕ) (t : List (DevNo × ℕ)) → stamped 1 (filled 0 t) ≡ cleared (stamped n t)
none_filled n [] = refl
none_filled n (e ∷ es) = ap (λ (t : List (DevNo × Bool)). (e.0, false) ∷ t) (none_filled n es)

pub filled_stamps : (t : List (DevNo × ℕ)) → AreStamps 1 (filled 0 t)
filled_stamps [] = tt
filled_stamps (e ∷ es) = (omega arith, filled_stamps es)
