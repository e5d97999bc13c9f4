-- Linked actions go together.
use Rattle.std.proofs.Common.{◌≡◌, Bool, true, false, not, ◌||◌, cond, is_some, Some, slice_get, List, [], ◌∷◌, ◌++◌, refl, sym, ap, ◌∙◌, arith}
use Rattle.std.specs.Map.{lookup, remove_entry}
use Rattle.indexmap.specs.IndexMap.{insert_entry}
use Rattle.irq_base.specs.declared.calls.Flags.{Flags}
use Rattle.irq_base.specs.declared.numbers.DevNo.{DevNo}
use Rattle.irq_model.specs.Kinds.{same_dev}
use Rattle.irq_model.specs.Next.{flags_differ, same_flag}
use Rattle.act_list.specs.Actions.{has, is_mismatch, GoWith, AreAlike}
use Rattle.act_list.specs.declared.actions.Action.{Action}

abbrev Actions : Type 0
Actions = List (DevNo × Action)

or_same : (a b : Bool) → b ≡ a → (a || b) ≡ a
or_same true b h = refl
or_same false b h = h

-- flags that go with all go with the first
differ_alike : (new f g : Flags) → g.shared ≡ f.shared → g.oneshot ≡ f.oneshot → flags_differ new g ≡ flags_differ new f
differ_alike new f g a b = rw (a, b) refl

none_or : (new f : Flags) (es : Actions) → GoWith f es → (flags_differ new f || is_mismatch new es) ≡ flags_differ new f
none_or new f [] h = (let e : (flags_differ new f || false) ≡ flags_differ new f = grind arith in e)
none_or new f (e ∷ es) h = or_again (flags_differ new f) (flags_differ new e.1.flags) (is_mismatch new es)
    (differ_alike new f e.1.flags h.0 h.1) (none_or new f es h.2)
  where
    or_again : (a b c : Bool) → b ≡ a → (a || c) ≡ a → (a || (b || c)) ≡ a
    or_again a b c h i = grind arith

pub by_first : (new : Flags) (e : DevNo × Action) (es : Actions) → AreAlike (e ∷ es) → is_mismatch new (e ∷ es) ≡ flags_differ new e.1.flags
by_first new e es h = none_or new e.1.flags es h

-- one more action that goes with the first
pub agree : (s n o p : Bool) → (not s || (not n || not (same_flag o p))) ≡ false → (s ≡ n) × (o ≡ p)
agree s n o p h = (grind arith, grind arith)

one_more : (f : Flags) (x : DevNo × Action) (es : Actions) → x.1.flags.shared ≡ f.shared → x.1.flags.oneshot ≡ f.oneshot → GoWith f es → GoWith f (es ++ x ∷ [])
one_more f x [] a b h = (a, b, tt)
one_more f x (e ∷ es) a b h = (h.0, h.1, one_more f x es a b h.2)

pub alike_more : (d : DevNo) (a : Action) (t : Actions) → AreAlike t → is_mismatch a.flags t ≡ false → AreAlike (t ++ (d, a) ∷ [])
alike_more d a [] h goes = tt
alike_more d a (e ∷ es) h goes =
    let first : flags_differ a.flags e.1.flags ≡ false = sym (by_first a.flags e es h) ∙ goes in
    let same = agree a.flags.shared e.1.flags.shared a.flags.oneshot e.1.flags.oneshot first in
    one_more e.1.flags (d, a) es same.0 same.1 h

-- one action less
go_with : (f g : Flags) (es : Actions) → g.shared ≡ f.shared → g.oneshot ≡ f.oneshot → GoWith f es → GoWith g es
go_with f g [] a b h = tt
go_with f g (e ∷ es) a b h = (h.0 ∙ sym a, h.1 ∙ sym b, go_with f g es a b h.2)

one_less : (f : Flags) (test : DevNo → Bool) (es : Actions) → GoWith f es → GoWith f (remove_entry test es)
one_less f test [] h = tt
one_less f test (e ∷ es) h = by_test (test e.0) (one_less f test es h.2)
  where
    by_test : (b : Bool) → GoWith f (remove_entry test es) → GoWith f (cond b es (e ∷ remove_entry test es))
    by_test true rest = h.2
    by_test false rest = (h.0, h.1, rest)

pub alike_less : (test : DevNo → Bool) (t : Actions) → AreAlike t → AreAlike (remove_entry test t)
alike_less test [] h = tt
alike_less test (e ∷ es) h = by_test (test e.0)
  where
    next : (xs : Actions) → GoWith e.1.flags xs → AreAlike xs
    next [] g = tt
    next (x ∷ xs) g = go_with e.1.flags x.1.flags xs g.0 g.1 g.2

    by_test : (b : Bool) → AreAlike (cond b es (e ∷ remove_entry test es))
    by_test true = next es h
    by_test false = one_less e.1.flags test es h

-- a device that isn't there goes last
pub adds_last : (d : DevNo) (a : Action) (es : Actions) → has d es ≡ false → insert_entry same_dev es d a ≡ es ++ (d, a) ∷ []
adds_last d a [] h = refl
adds_last d a (e ∷ es) h = by_test (same_dev d e.0) h (adds_last d a es)
  where
    by_test : (b : Bool) → cond b true (has d es) ≡ false
        → (has d es ≡ false → insert_entry same_dev es d a ≡ es ++ (d, a) ∷ [])
        → cond b ((e.0, a) ∷ es) (e ∷ insert_entry same_dev es d a) ≡ e ∷ (es ++ (d, a) ∷ [])
    by_test true i rest = cc
    by_test false i rest = ap (λ (t : Actions). e ∷ t) (rest i)

-- the first entry
pub first_is : (new : Flags) (t : Actions) (d : DevNo) (a : Action) → Some (d, a) ≡ slice_get t 0 → AreAlike t → is_mismatch new t ≡ flags_differ new a.flags
first_is new [] d a h alike = cc
first_is new (e ∷ es) d a h alike = let same : e ≡ (d, a) = cc in by_first new e es alike ∙ ap (λ (x : DevNo × Action). flags_differ new x.1.flags) same

-- there or not
pub has_found : (d : DevNo) (t : Actions) → is_some (lookup (same_dev d) t) ≡ has d t
has_found d [] = refl
has_found d (e ∷ es) = by_test (same_dev d e.0) (has_found d es)
  where
    by_test : (b : Bool) → is_some (lookup (same_dev d) es) ≡ has d es → is_some (cond b (Some e.1) (lookup (same_dev d) es)) ≡ cond b true (has d es)
    by_test true rest = refl
    by_test false rest = rest
