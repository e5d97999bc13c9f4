-- The first line that passes a test.
use Rattle.std.proofs.Common.{◌≡◌, ℕ, zero, suc, ◌<◌, ◌≤◌, Bool, true, false, not, cond, is_some, IsTrue, Option, Some}
use Rattle.std.proofs.Common.{None, List, [], ◌∷◌, length, drop, slice_get, refl, sym, ap, ◌∙◌, subst, arith}
use Rattle.std.proofs.lemmas.Option.{slice_get_within}
use Rattle.board_ready.specs.First.{first_of}
use Rattle.board_ready.proofs.Lowest.{first_some, first_none}
use Rattle.irq_base.specs.declared.entries.Actor.TheVariants as actors
use Rattle.irq_base.specs.declared.entries.Entry.{Entry}
use Rattle.irq_base.specs.declared.lines.LineDef.{LineDef}
use Rattle.irq_base.specs.declared.numbers.CpuNo.{CpuNo}
use Rattle.irq_line.specs.Queries.{is_some_take}
use Rattle.irq_model.specs.Kinds.{is_take}
use Rattle.irq_model.specs.Next.{next_in_flow, next_take, next_past}
use Rattle.irq_model.specs.Rounds.{flow, is_cpu, at_work}
use Rattle.irq_model.specs.Signal.{signals, target}
use Rattle.irq_model.specs.Waiting.{is_soft}
use Rattle.irq_laws.proofs.Chosen.{the_same}
use Rattle.board_play.specs.Lines.{BoardLine}
use Rattle.board_play.specs.Order.{flow_line, due_line}
use Rattle.board_core.specs.Places.{IsPlace}

abbrev pub first_that : (BoardLine → Bool) → List BoardLine → Option BoardLine
first_that p [] = None
first_that p (x ∷ xs) = cond (p x) (Some x) (first_that p xs)

abbrev pub in_flow_of : CpuNo → BoardLine → Bool
in_flow_of c x = is_cpu c (flow x.def x.past)

abbrev pub due_of_cpu : CpuNo → BoardLine → Bool
due_of_cpu c x = is_some (next_past x.def x.past (actors.Cpu c))

pub flow_is : (lines : List BoardLine) (c : CpuNo) → first_that (in_flow_of c) lines ≡ flow_line lines c
flow_is [] c = refl
flow_is (x ∷ xs) c = ap (λ (o : Option BoardLine). cond (is_cpu c (flow x.def x.past)) (Some x) o) (flow_is xs c)

pub due_is : (lines : List BoardLine) (c : CpuNo) → first_that (due_of_cpu c) lines ≡ due_line lines c
due_is [] c = refl
due_is (x ∷ xs) c = ap (λ (o : Option BoardLine). cond (is_some (next_past x.def x.past (actors.Cpu c))) (Some x) o) (due_is xs c)

module _ {A : Type 0} where
  pub there : (xs : List A) (k : ℕ) → k < length xs → (x : A) × (slice_get xs k ≡ Some x)
  there [] k h = absurd (omega (arith, h))
  there (x ∷ xs) zero h = (x, refl)
  there (x ∷ xs) (suc k) h = there xs k (omega (arith, h))

  pub dropped : (xs : List A) (i : ℕ) (x : A) → slice_get xs i ≡ Some x → drop i xs ≡ x ∷ drop (suc i) xs
  dropped [] i x at = cc
  dropped (y ∷ ys) zero x at = ap (λ (z : A). z ∷ ys) (the_same y x at)
  dropped (y ∷ ys) (suc i) x at = dropped ys i x at

  pub all_dropped : (xs : List A) (i : ℕ) → length xs ≤ i → drop i xs ≡ []
  all_dropped [] zero end = refl
  all_dropped [] (suc i) end = refl
  all_dropped (y ∷ ys) zero end = absurd (omega (arith, end))
  all_dropped (y ∷ ys) (suc i) end = all_dropped ys i (omega (arith, end))

-- a processor without a flow on the line may only take there
take_or_none : (a s o : Bool) (x y : Entry) → is_take x ≡ true → is_take y ≡ true
    → is_some (cond (not a) None (cond s (Some x) (cond o (Some y) None)))
    ≡ is_some_take (cond (not a) None (cond s (Some x) (cond o (Some y) None)))
take_or_none false s o x y tx ty = refl
take_or_none true true o x y tx ty = sym tx
take_or_none true false true x y tx ty = sym ty
take_or_none true false false x y tx ty = refl

pub due_is_take : (def : LineDef) (past : List Entry) (c : CpuNo) → is_cpu c (flow def past) ≡ false
    → is_some (next_past def past (actors.Cpu c)) ≡ is_some_take (next_past def past (actors.Cpu c))
due_is_take def past c none =
    ap (λ (b : Bool). is_some (cond b (next_in_flow def c past (at_work past)) (next_take def c past))) none
    ∙ (take_or_none (is_cpu c (target def past)) (signals def past) (is_soft past) _ _ refl refl
    ∙ ap (λ (b : Bool). is_some_take (cond b (next_in_flow def c past (at_work past))
    (next_take def c past))) (sym none))

pub same_truth : (a b : Bool) → (IsTrue a → IsTrue b) → (IsTrue b → IsTrue a) → a ≡ b
same_truth true true f g = refl
same_truth false false f g = refl
same_truth true false f g = let h = f refl in cc
same_truth false true f g = let h = g refl in cc

pub no_flow_at : (lines : List BoardLine) (c : CpuNo) → flow_line lines c ≡ None → (i : ℕ) (x : BoardLine)
    → slice_get lines i ≡ Some x → is_cpu c (flow x.def x.past) ≡ false
no_flow_at [] c none i x at = cc
no_flow_at (y ∷ ys) c none i x at = by_test (is_cpu c (flow y.def y.past)) refl none i at (λ none i at. no_flow_at ys c none i x at)
  where
    by_test : (b : Bool) → is_cpu c (flow y.def y.past) ≡ b → cond b (Some y) (flow_line ys c) ≡ None → (i : ℕ) → slice_get (y ∷ ys) i ≡ Some x
        → (flow_line ys c ≡ None → (i : ℕ) → slice_get ys i ≡ Some x → is_cpu c (flow x.def x.past) ≡ false) → is_cpu c (flow x.def x.past) ≡ false
    by_test true test none i at deeper = cc
    by_test false test none zero at deeper = subst (λ (z : BoardLine). is_cpu c (flow z.def z.past) ≡ false) (the_same y x at) test
    by_test false test none (suc i) at deeper = deeper none i at

-- the first that passes, by places
first_at : (p : BoardLine → Bool) (lines : List BoardLine) (k : ℕ) (x : BoardLine) → slice_get lines k ≡ Some x
    → p x ≡ true → ((i : ℕ) (y : BoardLine) → i < k → slice_get lines i ≡ Some y → p y ≡ false)
    → first_that p lines ≡ Some x
first_at p [] k x at here before = cc
first_at p (y ∷ ys) zero x at here before =
    let same : y ≡ x = the_same y x at in ap (λ (z : BoardLine). cond (p z) (Some z) (first_that p ys)) same
    ∙ ap (λ (b : Bool). cond b (Some x) (first_that p ys)) here
first_at p (y ∷ ys) (suc k) x at here before =
    ap (λ (b : Bool). cond b (Some y) (first_that p ys)) (before 0 y (omega arith) refl)
    ∙ first_at p ys k x at here (λ i z less at_z. before (suc i) z (omega (arith, less)) at_z)

pub none_at : (p : BoardLine → Bool) (lines : List BoardLine) → ((i : ℕ) (y : BoardLine) → slice_get lines i ≡ Some y → p y ≡ false) → first_that p lines ≡ None
none_at p [] none = refl
none_at p (y ∷ ys) none = ap (λ (b : Bool). cond b (Some y) (first_that p ys)) (none 0 y refl) ∙ none_at p ys (λ i z at. none (suc i) z at)

-- found by a test of the places
pub first_place : (p : BoardLine → Bool) (lines : List BoardLine) (q : ℕ → Bool)
    → ((k : ℕ) (x : BoardLine) → slice_get lines k ≡ Some x → q k ≡ p x) → (o : Option ℕ)
    → first_of q (length lines) ≡ o → IsPlace lines o (first_that p lines)
first_place p lines q same None is = none_at p lines (λ i y at. sym (same i y at) ∙ first_none q (length lines) i is (slice_get_within lines i y at))
first_place p lines q same (Some k) is =
    let f = first_some q (length lines) k is in
    let x = there lines k f.0 in
    let found : first_that p lines ≡ Some x.0 = first_at p lines k x.0 x.1 (sym (same k x.0 x.1) ∙ f.1) (λ i y less at. sym (same i y at) ∙ f.2 i less) in
    (ap (λ (o : Option BoardLine). is_some o) found, x.1 ∙ sym found)
