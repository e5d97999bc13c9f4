-- A bound that every entry keeps: the number of entries of one kind, plus what is still owed to
-- them, is at most the number of entries of another kind.
use Rattle.std.proofs.Common.{◌≡◌, ℕ, ◌+◌, ◌≤◌, Bool, List, [], ◌∷◌, arith}
use Rattle.irq_base.specs.declared.lines.LineDef.{LineDef}
use Rattle.irq_base.specs.declared.entries.Entry.{Entry}
use Rattle.irq_model.specs.Places.{count_of}
use Rattle.irq_model.specs.Legal.{IsDue, IsLegalPast}
use Rattle.irq_storms.specs.Judged.{one_if}
use Rattle.irq_storms.proofs.Counting.{count_more}

-- one more entry keeps it
abbrev pub StaysBelow : (Entry → Bool) → (Entry → Bool) → (List Entry → ℕ) → Entry → List Entry → Type 0
StaysBelow p q m e past = one_if (p e) + m (e ∷ past) ≤ m past + one_if (q e)

pub runs_below : (def : LineDef) (p q : Entry → Bool) (m : List Entry → ℕ) → m [] ≡ 0
    → ((e : Entry) (past : List Entry) → IsLegalPast def past → IsDue def e past → StaysBelow p q m e past)
    → (past : List Entry) → IsLegalPast def past → count_of p past + m past ≤ count_of q past
runs_below def p q m none step [] legal = omega (arith, none)
runs_below def p q m none step (e ∷ past) legal =
    summed _ _ _ _ _ _ _ _ (count_more p e past) (count_more q e past) (runs_below def p q m none step past legal.1) (step e past legal.1 legal.0)
  where
    summed : (p' q' a b x y k n : ℕ) → p' ≡ a + x → q' ≡ b + y → a + k ≤ b → x + n ≤ k + y → p' + n ≤ q'
    summed p' q' a b x y k n h i j l = omega (arith, h, i, j, l)
