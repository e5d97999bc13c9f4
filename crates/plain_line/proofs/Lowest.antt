-- The lowest thread that has an entry due, device by device.
use Rattle.std.proofs.Common.{◌≡◌, ℕ, ◌≤◌, Bool, true, false, cond, nat_le, List, [], ◌∷◌, Option, Some, None, is_some, refl}
use Rattle.std.proofs.Common.{sym, ap, subst, ◌∙◌, arith, leb-true, leb-false, ◌⊎◌, inl, inr}
use Rattle.std.specs.Prelude.{IsTrue}
use Rattle.std.specs.List.{list_any}
use Rattle.std.proofs.lemmas.Bool.{false≢true, or_cases}
use Rattle.irq_base.specs.declared.numbers.DevNo.{DevNo}
use Rattle.irq_base.specs.declared.devices.DeviceDef.{DeviceDef}
use Rattle.irq_base.specs.declared.entries.Entry.{Entry}
use Rattle.irq_base.specs.declared.lines.LineDef.{LineDef}
use Rattle.irq_model.specs.Lines.{is_device, has_device}
use Rattle.irq_model.specs.Next.{next_of_thread}
use Rattle.irq_model.proofs.Same.{dev_from_same}
use Rattle.plain_line.specs.Looked.{IsLowestAt, IsThreadDueAt, is_thread_due, lower_of}

-- the lowest of so_far and of the devices that count
abbrev pub lowest_of : (DevNo → Bool) → Option DevNo → List DeviceDef → Option DevNo
lowest_of p so_far [] = so_far
lowest_of p so_far (x ∷ xs) = lowest_of p (lower_of so_far x.dev (p x.dev)) xs

-- the lowest that was found isn't above d
abbrev Below : Option DevNo → DevNo → Type 0
Below None d = ⊥
Below (Some l) d = l.0 ≤ d.0

-- it counts
abbrev Counts : (DevNo → Bool) → Option DevNo → Type 0
Counts p None = Unit {0}
Counts p (Some l) = p l ≡ true

lower_is_below : (so_far : Option DevNo) (dev : DevNo) → Below (lower_of so_far dev true) dev
lower_is_below None dev = at dev.0
  where
    at : (n : ℕ) → n ≤ n
    at n = omega arith
lower_is_below (Some l) dev = by_order (nat_le l.0 dev.0) refl
  where
    by_order : (b : Bool) → nat_le l.0 dev.0 ≡ b → Below (cond b (Some l) (Some dev)) dev
    by_order true is = leb-true l.0 dev.0 is
    by_order false is = omega arith

lower_keeps : (l dev : DevNo) (b : Bool) → Below (lower_of (Some l) dev b) l
lower_keeps l dev false = omega arith
lower_keeps l dev true = by_order (nat_le l.0 dev.0) refl
  where
    by_order : (b : Bool) → nat_le l.0 dev.0 ≡ b → Below (cond b (Some l) (Some dev)) l
    by_order true is = omega arith
    by_order false is = (let above = leb-false l.0 dev.0 is in omega (arith, above))

lower_counts : (p : DevNo → Bool) (so_far : Option DevNo) (dev : DevNo) (b : Bool) → p dev ≡ b → Counts p so_far → Counts p (lower_of so_far dev b)
lower_counts p so_far dev false is c = c
lower_counts p None dev true is c = is
lower_counts p (Some l) dev true is c = by_order (nat_le l.0 dev.0)
  where
    by_order : (b : Bool) → Counts p (cond b (Some l) (Some dev))
    by_order true = c
    by_order false = is

-- what is below something lower is below
below_lower : (r low : Option DevNo) (d : DevNo) → ((l : DevNo) → low ≡ Some l → Below r l) → Below low d → Below r d
below_lower r None d h below = absurd below
below_lower None (Some l) d h below = absurd (h l refl)
below_lower (Some x) (Some l) d h below = (let under = h l refl in omega (arith, under, below))

record IsLowestOf (p : DevNo → Bool) (so_far : Option DevNo) (xs : List DeviceDef) : Type 0 where
  counts : Counts p (lowest_of p so_far xs)
  kept : (l : DevNo) → so_far ≡ Some l → Below (lowest_of p so_far xs) l
  below : (d : DevNo) → list_any (is_device d) xs ≡ true → p d ≡ true → Below (lowest_of p so_far xs) d

more_is : (p : DevNo → Bool) (x : DeviceDef) (xs : List DeviceDef) (so_far low : Option DevNo)
    → low ≡ lower_of so_far x.dev (p x.dev) → IsLowestOf p low xs → IsLowestOf p so_far (x ∷ xs)
more_is p x xs so_far low is rest =
    let R = lowest_of p low xs in
    let same : R ≡ lowest_of p so_far (x ∷ xs) = ap (λ o. lowest_of p o xs) is in
    record {
      counts = subst (λ (o : Option DevNo). Counts p o) same rest.counts;
      kept = λ l there. subst (λ (o : Option DevNo). Below o l) same
          (below_lower R low l rest.kept (subst (λ (o : Option DevNo). Below o l) (sym is)
          (subst (λ (o : Option DevNo). Below (lower_of o x.dev (p x.dev)) l) (sym there)
          (lower_keeps l x.dev (p x.dev)))));
      below = λ d h q. subst (λ (o : Option DevNo). Below o d) same (by_place d q (or_cases (is_device d x) (list_any (is_device d) xs) h));
    }
  where
    by_place : (d : DevNo) → p d ≡ true → (is_device d x ≡ true) ⊎ (list_any (is_device d) xs ≡ true) → Below (lowest_of p low xs) d
    by_place d q (inl h) =
        let here : d ≡ x.dev = dev_from_same d x.dev h in
        let low_is : low ≡ lower_of so_far x.dev true = is ∙ ap (lower_of so_far x.dev) (ap p (sym here) ∙ q) in
        below_lower (lowest_of p low xs) low d rest.kept
        (subst (λ (o : Option DevNo). Below o d) (sym low_is)
        (subst (λ (y : DevNo). Below (lower_of so_far x.dev true) y) (sym here) (lower_is_below so_far x.dev)))
    by_place d q (inr h) = rest.below d h q

lowest_is : (p : DevNo → Bool) (xs : List DeviceDef) (so_far : Option DevNo) → Counts p so_far → IsLowestOf p so_far xs
lowest_is p [] so_far c = record {
  counts = c;
  kept = λ l is. subst (λ (o : Option DevNo). Below o l) (sym is) (self l.0);
  below = λ d h q. absurd (false≢true h);
}
  where
    self : (n : ℕ) → n ≤ n
    self n = omega arith
lowest_is p (x ∷ xs) so_far c =
    more_is p x xs so_far (lower_of so_far x.dev (p x.dev)) refl
    (lowest_is p xs (lower_of so_far x.dev (p x.dev)) (lower_counts p so_far x.dev (p x.dev) refl c))

-- an entry of a thread is due only if the device is one of the line's
due_device : (def : LineDef) (past : List Entry) (d : DevNo) → IsThreadDueAt def past d → list_any (is_device d) def.devices ≡ true
due_device def past d = by_test (has_device def d)
  where
    by_test : (b : Bool) → IsTrue (is_some (cond b (next_of_thread def d past) None)) → b ≡ true
    by_test true h = refl
    by_test false h = absurd (false≢true h)

pub lowest_found : (def : LineDef) (past : List Entry) (o : Option DevNo)
    → o ≡ lowest_of (is_thread_due def past) None def.devices → IsLowestAt def past o
lowest_found def past o is = subst (λ (x : Option DevNo). IsLowestAt def past x) (sym is)
    (found (lowest_of (is_thread_due def past) None def.devices) all.counts all.below)
  where
    all : IsLowestOf (is_thread_due def past) None def.devices
    all = lowest_is (is_thread_due def past) def.devices None tt

    found : (r : Option DevNo) → Counts (is_thread_due def past) r
        → ((d : DevNo) → list_any (is_device d) def.devices ≡ true → is_thread_due def past d ≡ true → Below r d)
        → IsLowestAt def past r
    found None c below = λ d h. below d (due_device def past d h) h
    found (Some l) c below = (c, λ d h. below d (due_device def past d h) h)
