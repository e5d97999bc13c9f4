-- The facts of a line's devices, row by row, and whether a script serves its own device.
use Rattle.std.proofs.Common.{◌≡◌, ℕ, zero, suc, ◌+◌, ◌≤◌, ◌||◌, ◌&&◌, Bool, true, false, cond, List, [], ◌∷◌, Some, Option, refl, sym, ap, ◌∙◌, add-one}
use Rattle.std.proofs.Common.{length, drop, arith}
use Rattle.std.specs.Prelude.{slice_get}
use Rattle.std.specs.List.{list_any}
use Rattle.irq_base.specs.declared.calls.Call.{Call}
use Rattle.irq_base.specs.declared.devices.DeviceDef.{DeviceDef}
use Rattle.irq_base.specs.declared.devices.Part.{Part}
use Rattle.irq_base.specs.declared.lines.LineDef.{LineDef}
use Rattle.irq_base.specs.declared.numbers.DevNo.{DevNo}
use Rattle.irq_model.specs.Asks.{serves_itself, serving}
use Rattle.irq_model.specs.Kinds.{same_dev}
use Rattle.irq_model.specs.Lines.{is_device, kind_in, kind_of, same_part, script_in}
use Rattle.irq_model.specs.Valid.{HasDistinctDevices}
use Rattle.irq_model.proofs.Same.{same_self, same_both}
use Rattle.ask_counts.specs.Facts.{facts_of}

both_none : (a b : Bool) → (a || b) ≡ false → (a ≡ false) × (b ≡ false)
both_none a b h = grind arith

-- another device than d
apart : (xs : List DeviceDef) (i : ℕ) (x : DeviceDef) (d : DevNo) → list_any (is_device d) xs ≡ false → slice_get xs i ≡ Some x → same_dev d x.dev ≡ false
apart [] i x d none h = cc
apart (y ∷ ys) zero x d none h =
    let e : y ≡ x = cc in
    ap (λ (z : DeviceDef). same_dev d z.dev) (sym e) ∙ (both_none (same_dev d y.dev) (list_any (is_device d) ys) none).0
apart (y ∷ ys) (suc i) x d none h = apart ys i x d (both_none (same_dev d y.dev) (list_any (is_device d) ys) none).1 h

-- the kind of a device is the one that stands with it
kind_there : (xs : List DeviceDef) (i : ℕ) (x : DeviceDef) → HasDistinctDevices xs → slice_get xs i ≡ Some x → kind_in xs x.dev ≡ x.kind
kind_there [] i x own h = cc
kind_there (y ∷ ys) zero x own h =
    let e : y ≡ x = cc in
    ap (λ (z : DeviceDef). kind_in (z ∷ ys) x.dev) e ∙ rw (same_self x.dev) refl
kind_there (y ∷ ys) (suc i) x own h = rw (same_both x.dev y.dev ∙ apart ys i x y.dev own.0 h) (kind_there ys i x own.1 h)

-- and so its options
none_has : (p : DeviceDef → Bool) (xs : List DeviceDef) (d : DevNo) → list_any (is_device d) xs ≡ false → list_any (λ y. is_device d y && p y) xs ≡ false
none_has p [] d h = refl
none_has p (y ∷ ys) d h =
    let none = both_none (same_dev d y.dev) (list_any (is_device d) ys) h in
    ap (λ b. (b && p y) || list_any (λ z. is_device d z && p z) ys) none.0 ∙ none_has p ys d none.1

option_there : (p : DeviceDef → Bool) (xs : List DeviceDef) (i : ℕ) (x : DeviceDef) → HasDistinctDevices xs → slice_get xs i ≡ Some x
    → list_any (λ y. is_device x.dev y && p y) xs ≡ p x
option_there p [] i x own h = cc
option_there p (y ∷ ys) zero x own h = first y own.0 (let e : y ≡ x = cc in e)
  where
    or_none : (b : Bool) → (b || false) ≡ b
    or_none true = refl
    or_none false = refl

    first : (z : DeviceDef) → list_any (is_device z.dev) ys ≡ false → z ≡ x
        → ((same_dev x.dev z.dev && p z) || list_any (λ w. is_device x.dev w && p w) ys) ≡ p x
    first z none e = rw e (rw (same_self x.dev) (ap (λ b. p x || b) (none_has p ys x.dev (rw e at none)) ∙ or_none (p x)))
option_there p (y ∷ ys) (suc i) x own h =
    ap (λ b. (b && p y) || list_any (λ z. is_device x.dev z && p z) ys) (same_both x.dev y.dev ∙ apart ys i x y.dev own.0 h)
    ∙ option_there p ys i x own.1 h

-- the facts of a device of the line, by what stands with it and by which part serves
pub facts_there : (def : LineDef) (i : ℕ) (x : DeviceDef) (part : Option Part) → HasDistinctDevices def.devices
    → slice_get def.devices i ≡ Some x → part ≡ serving def x.dev
    → record { kind = x.kind; serving = part; held = x.held; forgets = x.forgets } ≡ facts_of def x.dev
facts_there def i x part own at is =
    let k : x.kind ≡ kind_of def x.dev = sym (kind_there def.devices i x own at) in
    let h = sym (option_there (λ y. y.held) def.devices i x own at) in
    let f = sym (option_there (λ y. y.forgets) def.devices i x own at) in
    cc

-- the kind of a device by what stands with it
pub kind_is : (def : LineDef) (i : ℕ) (x : DeviceDef) → HasDistinctDevices def.devices → slice_get def.devices i ≡ Some x → kind_of def x.dev ≡ x.kind
kind_is def i x own at = kind_there def.devices i x own at

-- ---- whether a script serves its own device

module _ (d : DevNo) (part : Part) where
  abbrev pub any_from : List (DevNo × Part × Call) → ℕ → Bool
  any_from cs i = list_any (serves_itself d) (script_in (drop i cs) d part)

  abbrev pub serves_here : DevNo × Part × Call → Bool
  serves_here c = (same_dev d c.0 && same_part part c.1) && serves_itself d c.2

  any_first : (c : DevNo × Part × Call) (cs : List (DevNo × Part × Call))
      → list_any (serves_itself d) (script_in (c ∷ cs) d part) ≡ (serves_here c || list_any (serves_itself d) (script_in cs d part))
  any_first c cs = by_test (same_dev d c.0 && same_part part c.1)
    where
      by_test : (b : Bool) → list_any (serves_itself d) (cond b (c.2 ∷ script_in cs d part) (script_in cs d part))
          ≡ ((b && serves_itself d c.2) || list_any (serves_itself d) (script_in cs d part))
      by_test true = refl
      by_test false = refl

  pub any_next : (cs : List (DevNo × Part × Call)) (i : ℕ) (c : DevNo × Part × Call) → slice_get cs i ≡ Some c
      → any_from cs i ≡ (serves_here c || any_from cs (i + 1))
  any_next [] i c h = cc
  any_next (x ∷ cs) zero c h =
      let e : x ≡ c = cc in
      any_first x cs ∙ ap (λ y. serves_here y || list_any (serves_itself d) (script_in cs d part)) e
  any_next (x ∷ cs) (suc i) c h =
      any_next cs i c h
      ∙ ap (λ n. serves_here c || list_any (serves_itself d) (script_in (drop n (x ∷ cs)) d part)) (ap suc (add-one i) ∙ sym (add-one (suc i)))

  pub any_end : (cs : List (DevNo × Part × Call)) (i : ℕ) → length cs ≤ i → any_from cs i ≡ false
  any_end [] zero h = refl
  any_end [] (suc i) h = refl
  any_end (x ∷ cs) zero h = absurd (omega arith)
  any_end (x ∷ cs) (suc i) h = any_end cs i (omega arith)
