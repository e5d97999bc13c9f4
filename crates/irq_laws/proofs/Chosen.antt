-- Which branch gave an entry.
use Rattle.std.proofs.Common.{◌≡◌, ◌⊎◌, inl, inr, Bool, true, false, cond, Option, Some, None, refl}

module _ {A : Type 0} where
  pub chosen : (b : Bool) (x y : Option A) (e : A) → cond b x y ≡ Some e → ((b ≡ true) × (x ≡ Some e)) ⊎ ((b ≡ false) × (y ≡ Some e))
  chosen true x y e h = inl (refl, h)
  chosen false x y e h = inr (refl, h)

  -- when one branch gives nothing
  pub from_else : (b : Bool) (x : A) (e : A) → cond b None (Some x) ≡ Some e → (b ≡ false) × (x ≡ e)
  from_else true x e h = cc
  from_else false x e h = (refl, (let same : x ≡ e = cc in same))

  pub from_then : (b : Bool) (x : A) (e : A) → cond b (Some x) None ≡ Some e → (b ≡ true) × (x ≡ e)
  from_then true x e h = (refl, (let same : x ≡ e = cc in same))
  from_then false x e h = cc

  pub the_same : (x e : A) → Some x ≡ Some e → x ≡ e
  the_same x e h = cc
