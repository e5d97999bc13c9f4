-- A told device gets a thread: what stays of the devices, and of the map that keeps them.
use Rattle.std.proofs.Common.{◌≡◌, ℕ, zero, suc, ◌<◌, Bool, true, false, cond, Some, None}
use Rattle.std.proofs.Common.{List, [], ◌∷◌, take, refl, sym, ap, subst, ◌∙◌, arith}
use Rattle.std.specs.List.{slice_get}
use Rattle.std.proofs.lemmas.Bool.Decides.{nat_tests}
use Rattle.indexmap.specs.IndexMap.{insert_entry}
use Rattle.irq_base.specs.declared.devices.DeviceDef.{DeviceDef}
use Rattle.irq_base.specs.declared.numbers.DevNo.{DevNo}
use Rattle.irq_model.specs.Kinds.{same_dev}
use Rattle.board_def.specs.Rules.{find_device}
use Rattle.board_def.specs.Runs.{threaded, with_thread}
use Rattle.board_def.specs.Tables.{values_of, IsKeyedBy}
use Rattle.board_def.proofs.Rising.{Rises, rises_on, head_of, differ}

abbrev pub given : DevNo → DeviceDef → DeviceDef
given dev x = cond (same_dev dev x.dev) (threaded x) x

-- ---- the map

pub same_device : (d e : DevNo) → same_dev d e ≡ true → d ≡ e
same_device d e h = let of : ℕ → DevNo = λ n. record { 0 = n } in let n : d.0 ≡ e.0 = grind (arith, nat_tests) in ap of n

none_above : (dev : DevNo) (xs : List DeviceDef) → ((i : ℕ) (x : DeviceDef) → slice_get xs i ≡ Some x → dev.0 < x.dev.0) → with_thread dev xs ≡ xs
none_above dev [] above = refl
none_above dev (x ∷ xs) above =
    ap (λ b. cond b (threaded x) x ∷ with_thread dev xs) (differ dev.0 x.dev.0 (above zero x refl))
    ∙ ap (λ ys. x ∷ ys) (none_above dev xs (λ i y at. above (suc i) y at))

-- the first entry of the number is changed, and no other
pub thread_put : (dev : DevNo) (es : List (DevNo × DeviceDef)) (x : DeviceDef) → IsKeyedBy (λ (x : DeviceDef). x.dev) es
    → Rises (λ (x : DeviceDef). x.dev.0) (values_of es) → find_device (values_of es) dev ≡ Some x
    → values_of (insert_entry same_dev es dev (threaded x)) ≡ with_thread dev (values_of es)
thread_put dev [] x keyed rises found = absurd cc
thread_put dev (e ∷ es) x keyed rises found =
    ap (λ k. values_of (cond (same_dev dev k) ((e.0, threaded x) ∷ es) (e ∷ insert_entry same_dev es dev (threaded x)))) keyed.0
    ∙ by (same_dev dev e.1.dev) refl found (thread_put dev es x keyed.1 (rises_on (λ (x : DeviceDef). x.dev.0) e.1 (values_of es) rises))
  where
    above : same_dev dev e.1.dev ≡ true → (i : ℕ) (y : DeviceDef) → slice_get (values_of es) i ≡ Some y → dev.0 < y.dev.0
    above is i y at =
        let own : e.1.dev.0 < y.dev.0 = head_of (λ (z : DeviceDef). z.dev.0 < y.dev.0) e.1 (take i (values_of es)) (rises (suc i) y at) in
        subst (λ (d : DevNo). d.0 < y.dev.0) (sym (same_device dev e.1.dev is)) own

    by : (b : Bool) → same_dev dev e.1.dev ≡ b → cond b (Some e.1) (find_device (values_of es) dev) ≡ Some x
        → (find_device (values_of es) dev ≡ Some x → values_of (insert_entry same_dev es dev (threaded x)) ≡ with_thread dev (values_of es))
        → values_of (cond b ((e.0, threaded x) ∷ es) (e ∷ insert_entry same_dev es dev (threaded x)))
        ≡ cond b (threaded e.1) e.1 ∷ with_thread dev (values_of es)
    by true is found rest =
        let same : e.1 ≡ x = cc in
        ap (λ y. threaded y ∷ values_of es) (sym same) ∙ ap (λ ys. threaded e.1 ∷ ys) (sym (none_above dev (values_of es) (above is)))
    by false is found rest = ap (λ ys. e.1 ∷ ys) (rest found)

pub keyed_put : (dev : DevNo) (es : List (DevNo × DeviceDef)) (x : DeviceDef) → x.dev ≡ dev → IsKeyedBy (λ (x : DeviceDef). x.dev) es
    → IsKeyedBy (λ (x : DeviceDef). x.dev) (insert_entry same_dev es dev x)
keyed_put dev [] x own keyed = (sym own, tt)
keyed_put dev (e ∷ es) x own keyed = by (same_dev dev e.0) refl (keyed_put dev es x own keyed.1)
  where
    by : (b : Bool) → same_dev dev e.0 ≡ b → IsKeyedBy (λ (x : DeviceDef). x.dev) (insert_entry same_dev es dev x)
        → IsKeyedBy (λ (x : DeviceDef). x.dev) (cond b ((e.0, x) ∷ es) (e ∷ insert_entry same_dev es dev x))
    by true is rest = (sym (own ∙ same_device dev e.0 is), keyed.1)
    by false is rest = (keyed.0, rest)

-- the device that is found has the number
pub found_is : (dev : DevNo) (xs : List DeviceDef) (x : DeviceDef) → find_device xs dev ≡ Some x → x.dev ≡ dev
found_is dev [] x found = absurd cc
found_is dev (y ∷ ys) x found = by (same_dev dev y.dev) refl found (found_is dev ys x)
  where
    by : (b : Bool) → same_dev dev y.dev ≡ b → cond b (Some y) (find_device ys dev) ≡ Some x
        → (find_device ys dev ≡ Some x → x.dev ≡ dev) → x.dev ≡ dev
    by true is found rest = let same : y ≡ x = cc in ap (λ (z : DeviceDef). z.dev) (sym same) ∙ sym (same_device dev y.dev is)
    by false is found rest = rest found

-- where none is found nothing changes
pub none_put : (dev : DevNo) (xs : List DeviceDef) → find_device xs dev ≡ None → with_thread dev xs ≡ xs
none_put dev [] none = refl
none_put dev (x ∷ xs) none = by (same_dev dev x.dev) none (none_put dev xs)
  where
    by : (b : Bool) → cond b (Some x) (find_device xs dev) ≡ None → (find_device xs dev ≡ None → with_thread dev xs ≡ xs)
        → cond b (threaded x) x ∷ with_thread dev xs ≡ x ∷ xs
    by true none rest = absurd cc
    by false none rest = ap (λ ys. x ∷ ys) (rest none)
