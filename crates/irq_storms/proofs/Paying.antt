-- A bound that every entry keeps, in weights: what the entries cost, with what is still owed to
-- them, is at most what the entries pay.
use Rattle.std.proofs.Common.{◌≡◌, ℕ, ◌+◌, ◌≤◌, List, [], ◌∷◌, refl, arith}
use Rattle.irq_base.specs.declared.lines.LineDef.{LineDef}
use Rattle.irq_base.specs.declared.entries.Entry.{Entry}
use Rattle.irq_model.specs.Legal.{IsLegalPast}
use Rattle.irq_storms.specs.Tests.{total}

-- the sum of what each entry weighs after the entries before it
abbrev pub sum_over : (Entry → List Entry → ℕ) → List Entry → ℕ
sum_over f [] = 0
sum_over f (e ∷ past) = f e past + sum_over f past

-- one more entry keeps it
abbrev pub StaysPaid : (Entry → List Entry → ℕ) → (Entry → List Entry → ℕ) → (List Entry → ℕ) → Entry → List Entry → Type 0
StaysPaid f g m e past = f e past + m (e ∷ past) ≤ m past + g e past

pub is_paid : (def : LineDef) (f g : Entry → List Entry → ℕ) (m : List Entry → ℕ) → m [] ≡ 0
    → ((e : Entry) (past : List Entry) → IsLegalPast def (e ∷ past) → StaysPaid f g m e past)
    → (past : List Entry) → IsLegalPast def past → sum_over f past + m past ≤ sum_over g past
is_paid def f g m none step [] legal = omega (arith, none)
is_paid def f g m none step (e ∷ past) legal = summed _ _ _ _ _ _ (is_paid def f g m none step past legal.1) (step e past legal)
  where
    summed : (a b x y k n : ℕ) → a + k ≤ b → x + n ≤ k + y → (x + a) + n ≤ y + b
    summed a b x y k n h i = omega (arith, h, i)

-- what looks at the entry alone
pub sum_alone : (f : Entry → ℕ) (past : List Entry) → sum_over (λ e past. f e) past ≡ total f past
sum_alone f [] = refl
sum_alone f (e ∷ past) = let r = sum_alone f past in omega (arith, r)

pub sum_below : (def : LineDef) (f g : Entry → List Entry → ℕ)
    → ((e : Entry) (past : List Entry) → IsLegalPast def (e ∷ past) → f e past ≤ g e past)
    → (past : List Entry) → IsLegalPast def past → sum_over f past ≤ sum_over g past
sum_below def f g step [] legal = omega arith
sum_below def f g step (e ∷ past) legal = let r = sum_below def f g step past legal.1 in let s = step e past legal in omega (arith, r, s)

pub sum_two : (f g : Entry → List Entry → ℕ) (past : List Entry) → sum_over (λ e past. f e past + g e past) past ≡ sum_over f past + sum_over g past
sum_two f g [] = refl
sum_two f g (e ∷ past) = let r = sum_two f g past in omega (arith, r)
