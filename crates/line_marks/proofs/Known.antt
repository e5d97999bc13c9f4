-- What is read off the marks of a line is what its past says.
use Rattle.std.proofs.Common.{◌≡◌, ◌+◌, Bool, true, false, ◌||◌, cond, ltb, List, [], ◌∷◌, filter, refl, sym, ap, ◌∙◌, arith}
use Rattle.std.proofs.lemmas.Bool.Decides.{nat_tests}
use Rattle.std.specs.List.{list_any}
use Rattle.irq_base.specs.declared.devices.DeviceDef.{DeviceDef}
use Rattle.irq_base.specs.declared.entries.Entry.{Entry}
use Rattle.irq_base.specs.declared.lines.LineDef.{LineDef}
use Rattle.irq_base.specs.declared.numbers.DevNo.{DevNo}
use Rattle.irq_laws.proofs.Requested.{of_linked}
use Rattle.irq_laws.proofs.RestKept.{running_there, woken_there, there_named}
use Rattle.irq_laws.specs.Kept.{Kept}
use Rattle.irq_model.specs.Kinds.{same_dev}
use Rattle.irq_model.specs.Legal.{IsLegalPast}
use Rattle.irq_model.specs.Lines.{is_device}
use Rattle.irq_model.specs.Links.{linked, is_linked, requested, linking_flags}
use Rattle.irq_model.specs.Reason.{is_being_freed}
use Rattle.irq_model.specs.Threads.{is_woken, is_running, is_unfinished}
use Rattle.irq_model.specs.Valid.{IsValid}
use Rattle.irq_model.proofs.Same.{same_self, dev_from_same}
use Rattle.device_table.specs.Rows.{table_by}
use Rattle.device_table.specs.Sums.{one_if}
use Rattle.act_list.specs.Actions.{has}
use Rattle.act_thread.specs.Steps.{is_in_run}
use Rattle.act_thread.specs.Threads.{held_in}
use Rattle.line_marks.proofs.ActionsFollow.{actions_are}
use Rattle.line_marks.proofs.Listed.{has_of}
use Rattle.line_marks.specs.Actions.{actions_of}
use Rattle.line_marks.specs.Threads.{thread_of, stage_by}

-- ---- the actions

-- what a filter passes
pub passes : (p : DevNo → Bool) (d : DevNo) (xs : List DevNo) → list_any (same_dev d) (filter p xs) ≡ true → p d ≡ true
passes p d [] h = cc
passes p d (x ∷ xs) h = by_test (p x) refl h (passes p d xs)
  where
    by_head : (b : Bool) → same_dev d x ≡ b → p x ≡ true → (b || list_any (same_dev d) (filter p xs)) ≡ true
        → (list_any (same_dev d) (filter p xs) ≡ true → p d ≡ true) → p d ≡ true
    by_head true is on i rest = ap p (dev_from_same d x is) ∙ on
    by_head false is on i rest = rest i

    by_test : (b : Bool) → p x ≡ b → list_any (same_dev d) (cond b (x ∷ filter p xs) (filter p xs)) ≡ true
        → (list_any (same_dev d) (filter p xs) ≡ true → p d ≡ true) → p d ≡ true
    by_test true is i rest = by_head (same_dev d x) refl is i rest
    by_test false is i rest = rest i

pub linked_named : (def : LineDef) (past : List Entry) (d : DevNo) → Kept def past
    → list_any (same_dev d) (linked past) ≡ true → list_any (is_device d) def.devices ≡ true
linked_named def past d k i = there_named def past k d (ap (λ b. b || is_being_freed past d) (passes (is_linked past) d (requested past) i))

pub same_test : (a b : Bool) → (a ≡ true → b ≡ true) → (b ≡ true → a ≡ true) → a ≡ b
same_test true true f g = refl
same_test false false f g = refl
same_test true false f g = let x = f refl in cc
same_test false true f g = let x = g refl in cc

pub linked_known : (def : LineDef) (past : List Entry) (d : DevNo) → IsValid def → IsLegalPast def past → is_linked past d ≡ has d (actions_of past)
linked_known def past d valid legal =
    same_test (is_linked past d) (list_any (same_dev d) (linked past))
    (λ on. of_linked (same_dev d) past d on (same_self d)) (λ on. passes (is_linked past) d (requested past) on)
    ∙ sym (has_of (linking_flags past) d (actions_of past) (linked past) (actions_are def past valid legal))

-- ---- the threads

is_off : (b : Bool) → (b ≡ true → ⊥) → b ≡ false
is_off true h = absurd (h refl)
is_off false h = refl

contrary : {P : Type 0} (b : Bool) → b ≡ true → b ≡ false → P
contrary b h i = cc

-- a device that the line lacks has no thread at work
pub no_thread : (def : LineDef) (past : List Entry) (d : DevNo) → Kept def past
    → list_any (is_device d) def.devices ≡ false → (is_running past d ≡ false) × (is_woken past d ≡ false)
no_thread def past d k gone = (
  is_off (is_running past d) (λ on. contrary (list_any (is_device d) def.devices) (there_named def past k d (running_there def past k d on)) gone),
  is_off (is_woken past d) (λ on. contrary (list_any (is_device d) def.devices) (there_named def past k d (woken_there def past k d on)) gone),
)

pub in_run : (r t f : Bool) → is_in_run (stage_by r t f) ≡ r
in_run false t f = refl
in_run true false f = refl
in_run true true false = refl
in_run true true true = refl

pub held_known : (past : List Entry) (xs : List DeviceDef)
    → list_any (λ (x : DeviceDef). is_unfinished past x.dev) xs ≡ ltb 0 (held_in (table_by (thread_of past) xs))
held_known past [] = refl
held_known past (x ∷ xs) = by_test (is_unfinished past x.dev) (held_known past xs)
  where
    by_test : (b : Bool) → list_any (λ (y : DeviceDef). is_unfinished past y.dev) xs ≡ ltb 0 (held_in (table_by (thread_of past) xs))
        → (b || list_any (λ (y : DeviceDef). is_unfinished past y.dev) xs) ≡ ltb 0 (one_if b + held_in (table_by (thread_of past) xs))
    by_test true rest = grind (arith, nat_tests)
    by_test false rest = rest ∙ ap (ltb 0) (let e : held_in (table_by (thread_of past) xs) ≡ 0 + held_in (table_by (thread_of past) xs) = omega arith in e)
