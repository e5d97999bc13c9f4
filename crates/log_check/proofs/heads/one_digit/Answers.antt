use Rattle.std.proofs.Common.{Some, ℕ, ◌∷◌, List, ap, ◌∙◌}
use Rattle.log_check.proofs.Numbers.{of_one_digit}
use Rattle.log_check.proofs.heads.one_digit.Goals as goal

pub returns : goal.returns
returns c n after small is =
    let here = c.in_ok-digit.ensures.cases.0
    ∙ ap (λ (xs : List ℕ). c.in_ok-digit.digit.now ∷ xs)
    (c.in_ok-space.ensures.cases.0 ∙ ap (λ s. s ∷ c.in_ok-space.after.now) c.if-space-ne32.false) in
    let digit = c.if-not-is_ascii_digit.ensures.cases in
    let read = of_one_digit c.args.bytes.now c.in_ok-digit.digit.now c.in_ok-space.after.now here digit.0 digit.1 n after small is in
    ap (λ v. Some (v, c.in_ok-space.after.now)) c.from.ensures ∙ read
