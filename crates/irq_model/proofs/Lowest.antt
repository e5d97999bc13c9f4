-- The lowest processor of a mask, by one step.
use Rattle.std.proofs.Common.{◌≡◌, ℕ, suc, ◌+◌, ◌-◌, ◌<◌, false, ap, ◌∙◌, arith}
use Rattle.std.proofs.lemmas.Bool.{cond-false, cond-true}
use Rattle.std.proofs.Common.{true, Some}
use Rattle.irq_model.specs.Lines.{is_in_mask}
use Rattle.irq_model.specs.Signal.{lowest_from}

pub lowest_past : (mask c n : ℕ) → c < n → is_in_mask mask c ≡ false → lowest_from mask c (n - c) ≡ lowest_from mask (c + 1) (n - (c + 1))
lowest_past mask c n h e =
    let more : n - c ≡ suc (n - (c + 1)) = omega arith in ap (lowest_from mask c) more ∙ cond-false _ _ _ e

pub lowest_here : (mask c n : ℕ) → c < n → is_in_mask mask c ≡ true → lowest_from mask c (n - c) ≡ Some (record { 0 = c })
lowest_here mask c n h e =
    let more : n - c ≡ suc (n - (c + 1)) = omega arith in ap (lowest_from mask c) more ∙ cond-true _ _ _ e
