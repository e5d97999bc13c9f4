-- What the tests ask for makes a valid definition.
use Rattle.std.proofs.Common.{◌≡◌, ℕ, zero, suc, ◌<◌, Bool, true, false, not, ◌&&◌, ◌||◌, Some, List, [], ◌∷◌}
use Rattle.std.proofs.Common.{length, All, refl, sym, ap, subst, ◌∙◌, eqb-true, arith}
use Rattle.std.specs.List.{slice_get, list_all, list_any}
use Rattle.std.proofs.lemmas.Bool.{ltb-true, not-true}
use Rattle.std.proofs.lemmas.List.Elements.{All-nil, All-cons}
use Rattle.irq_base.specs.declared.calls.Call.{Call}
use Rattle.irq_base.specs.declared.calls.Call.TheVariants as calls
use Rattle.irq_base.specs.declared.devices.DeviceDef.{DeviceDef}
use Rattle.irq_base.specs.declared.lines.LineDef.{LineDef}
use Rattle.irq_base.specs.declared.numbers.LineNo.{LineNo}
use Rattle.irq_base.specs.declared.numbers.DevNo.{DevNo}
use Rattle.irq_base.specs.declared.numbers.DriverNo.{DriverNo}
use Rattle.irq_model.specs.Kinds.{same_dev, same_driver, same_line}
use Rattle.irq_model.specs.Lines.{is_edge_line, is_level_line, is_edge_flow, is_level_flow, is_eoi_flow, is_device}
use Rattle.irq_model.specs.Valid.{IsValid, HasDistinctDevices, HasOneOwner, IsFreedBetween, requests_dev, frees_dev, names_one_of}
use Rattle.irq_model.proofs.Same.{dev_from_same, driver_from_same}
use Rattle.line_valid.specs.Deciding.{has_distinct, links_dev, shares, agrees, has_one_owner, is_freed_first}
use Rattle.line_valid.specs.Deciding.{is_freed_after, is_freed_between, fits_numbers, fits_flow, fits_lists, fits}

pub both : (a b : Bool) → (a && b) ≡ true → (a ≡ true) × (b ≡ true)
both true b h = (refl, h)
both false b h = (cc, cc)

implied : (a b : Bool) → (not a || b) ≡ true → a ≡ true → b ≡ true
implied true b h is = h
implied false b h is = cc

pub each : {A : Type 0} (p : A → Bool) (P : A → Type 0) → ((x : A) → p x ≡ true → P x) → (xs : List A) → list_all p xs ≡ true → All P xs
each p P f [] h = All-nil P
each p P f (x ∷ xs) h = let b = both (p x) (list_all p xs) h in All-cons P x xs (f x b.0) (each p P f xs b.1)

at_place : {A : Type 0} (p : A → Bool) (xs : List A) (i : ℕ) (x : A) → list_all p xs ≡ true → slice_get xs i ≡ Some x → p x ≡ true
at_place p [] i x h is = cc
at_place p (y ∷ xs) zero x h is = let same : y ≡ x = cc in ap p (sym same) ∙ (both (p y) (list_all p xs) h).0
at_place p (y ∷ xs) (suc i) x h is = at_place p xs i x (both (p y) (list_all p xs) h).1 is

distinct : (xs : List DeviceDef) → has_distinct xs ≡ true → HasDistinctDevices xs
distinct [] h = tt
distinct (x ∷ xs) h =
    let b = both (not (list_any (is_device x.dev) xs)) (has_distinct xs) h in (not-true _ b.0, distinct xs b.1)

-- ---- one owner

shares_dev : (d : DevNo) (a b : Call) → links_dev d a ≡ true → links_dev d b ≡ true → shares a b ≡ true
shares_dev d (calls.Request dev flags) b h k = subst (λ (x : DevNo). links_dev x b ≡ true) (dev_from_same d dev (either_same (same_dev d dev) h)) k
  where
    either_same : (t : Bool) → (t || false) ≡ true → t ≡ true
    either_same true h = refl
    either_same false h = h
shares_dev d (calls.Free dev) b h k = subst (λ (x : DevNo). links_dev x b ≡ true) (dev_from_same d dev h) k
shares_dev d _ b h k = cc

one_owner : (d : DevNo) (cs : List (DriverNo × Call)) → has_one_owner cs ≡ true → HasOneOwner cs d
one_owner d cs h i j a b at also is it =
    let all = at_place (λ x. list_all (agrees x) cs) cs i a h at in
    driver_from_same a.0 b.0 (implied (shares a.1 b.1) (same_driver a.0 b.0) (at_place (agrees a) cs j b all also) (shares_dev d a.1 b.1 is it))

-- ---- freed between

abbrev IsFreedBefore : DevNo → List (DriverNo × Call) → ℕ → Type 0
IsFreedBefore d cs j = (k : ℕ) × (c : DriverNo × Call) × (k < j) × (slice_get cs k ≡ Some c) × (frees_dev d c.1 ≡ true)

not_both : {P : Type 0} (d : DevNo) (c : Call) → requests_dev d c ≡ true → frees_dev d c ≡ true → P
not_both d (calls.Request dev flags) h k = cc
not_both d (calls.Free dev) h k = cc
not_both d _ h k = cc

not_requested : {P : Type 0} (b t : Bool) → (not b && t) ≡ true → b ≡ true → P
not_requested true t h k = cc
not_requested false t h k = cc

rest_of : (b t : Bool) → (not b && t) ≡ true → t ≡ true
rest_of true t h = cc
rest_of false t h = h

free_before : (d : DevNo) (cs : List (DriverNo × Call)) (j : ℕ) (b : DriverNo × Call) → is_freed_first d cs ≡ true
    → slice_get cs j ≡ Some b → requests_dev d b.1 ≡ true → IsFreedBefore d cs j
free_before d [] j b h at is = cc
free_before d (c ∷ cs) j b h at is = by_free (frees_dev d c.1) refl j at (free_before d cs)
  where
    by_free : (f : Bool) → frees_dev d c.1 ≡ f → (i : ℕ) → slice_get (c ∷ cs) i ≡ Some b
        → ((k : ℕ) (x : DriverNo × Call) → is_freed_first d cs ≡ true → slice_get cs k ≡ Some x
        → requests_dev d x.1 ≡ true → IsFreedBefore d cs k) → IsFreedBefore d (c ∷ cs) i
    by_free true free zero here deeper = let same : c ≡ b = cc in not_both d c.1 (ap (λ (x : DriverNo × Call). requests_dev d x.1) same ∙ is) free
    by_free true free (suc i) there deeper = (zero, c, omega arith, refl, free)
    by_free false free zero here deeper =
        let same : c ≡ b = cc in
        not_requested (requests_dev d c.1) (is_freed_first d cs)
        (subst (λ (f : Bool). (f || (not (requests_dev d c.1) && is_freed_first d cs)) ≡ true) free h)
        (ap (λ (x : DriverNo × Call). requests_dev d x.1) same ∙ is)
    by_free false free (suc i) there deeper =
        let later = deeper i b (rest_of (requests_dev d c.1) (is_freed_first d cs)
        (subst (λ (f : Bool). (f || (not (requests_dev d c.1) && is_freed_first d cs)) ≡ true) free h)) there is in
        (suc later.0, later.1, omega (arith, later.2), later.3, later.4)

after_request : (d : DevNo) (c : Call) (cs : List (DriverNo × Call)) → is_freed_after c cs ≡ true → requests_dev d c ≡ true → is_freed_first d cs ≡ true
after_request d (calls.Request dev flags) cs h is = subst (λ (x : DevNo). is_freed_first x cs ≡ true) (sym (dev_from_same d dev is)) h
after_request d _ cs h is = cc

freed_between : (d : DevNo) (cs : List (DriverNo × Call)) → is_freed_between cs ≡ true → IsFreedBetween cs d
freed_between d [] h i j a b lt at also is it = cc
freed_between d (c ∷ cs) h i zero a b lt at also is it = absurd (omega arith)
freed_between d (c ∷ cs) h zero (suc j) a b lt at also is it =
    let same : c ≡ a = cc in
    let first = after_request d c.1 cs (both (is_freed_after c.1 cs) (is_freed_between cs) h).0 (ap (λ (x : DriverNo × Call). requests_dev d x.1) same ∙ is) in
    let f = free_before d cs j b first also it in
    (suc f.0, f.1, omega arith, omega (arith, f.2), f.3, f.4)
freed_between d (c ∷ cs) h (suc i) (suc j) a b lt at also is it =
    let f = freed_between d cs (both (is_freed_after c.1 cs) (is_freed_between cs) h).1 i j a b (omega arith) at also is it in
    (suc f.0, f.1, omega (arith, f.2), omega (arith, f.3), f.4, f.5)

one_line : (a b : LineNo) → same_line a b ≡ true → a ≡ b
one_line a b h = let named : ℕ → LineNo = λ n. record { 0 = n } in ap named (eqb-true a.0 b.0 h)

pub fits_is_valid : (def : LineDef) → fits def ≡ true → IsValid def
fits_is_valid def h =
    let edge = is_edge_line def in
    let eoi = is_eoi_flow def.flow in
    let all = both (fits_numbers def) (fits_flow def && fits_lists def) h in
    let rest = both (fits_flow def) (fits_lists def) all.1 in
    let a = both _ _ all.0 in
    let b = both _ _ a.1 in
    let c = both _ _ b.1 in
    let d = both _ _ c.1 in
    let e = both _ _ d.1 in
    let f = both _ _ e.1 in
    let g = both _ _ f.1 in
    let i = both _ _ g.1 in
    let j = both _ _ i.1 in
    let u = both _ _ rest.0 in
    let v = both _ _ u.1 in
    let w = both _ _ v.1 in
    let x = both _ _ w.1 in
    let p = both _ _ rest.1 in
    let q = both _ _ p.1 in
    let r = both _ _ q.1 in
    let s = both _ _ r.1 in
    record {
      some_cpu = omega (arith, ltb-true 0 def.cpus a.0);
      few_cpus = omega (arith, ltb-true def.cpus 33 b.0);
      some_window = omega (arith, ltb-true 0 def.window c.0);
      small_window = omega (arith, ltb-true def.window 1000001 d.0);
      limit = ltb-true def.limit def.window e.0;
      some_log = omega (arith, ltb-true 0 def.log f.0);
      small_log = omega (arith, ltb-true def.log 100000001 g.0);
      few_devices = omega (arith, ltb-true (length def.devices) 257 i.0);
      few_calls = omega (arith, ltb-true (length def.calls) 16385 j.0);
      mask = j.1;
      edge_flow = implied (is_edge_flow def.flow) edge u.0;
      level_flow = implied (is_level_flow def.flow) (is_level_line def) v.0;
      unlazy = λ k n. implied def.unlazy def.keeps (implied edge (not def.unlazy || def.keeps) w.0 k) n;
      eoi_keeps = λ k n. implied eoi def.keeps (implied edge (not eoi || def.keeps) x.0 k) n;
      eoi_retriggers = λ k n. implied eoi def.retriggers (implied edge (not eoi || def.retriggers) x.1 k) n;
      devices = each (λ y. same_line y.line def.line) (λ y. y.line ≡ def.line) (λ y. one_line y.line def.line) def.devices p.0;
      distinct = distinct def.devices q.0;
      calls = each (λ y. names_one_of def.devices y.1) (λ y. names_one_of def.devices y.1 ≡ true) (λ y n. n) def.calls r.0;
      owners = λ k. one_owner k def.calls s.0;
      freed = λ k. freed_between k def.calls s.1;
    }
