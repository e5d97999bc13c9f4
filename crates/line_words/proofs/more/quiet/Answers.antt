use Rattle.std.proofs.Common.{◌≡◌, ℕ, Bool, Some, None, List, [], ◌∷◌, ap, sym, ◌∙◌}
use Rattle.irq_base.specs.declared.numbers.DevNo.{DevNo}
use Rattle.device_table.specs.Rows.{at}
use Rattle.device_table.specs.Sums.{one_if}
use Rattle.ask_counts.specs.declared.rows.AskRow.{AskRow}
use Rattle.line_words.proofs.Looking.{quiet_there, quiet_lacks}
use Rattle.line_words.proofs.more.quiet.Goals as goal

pub returns-in-Some : goal.returns-in-Some
returns-in-Some c =
    let s = c.args.state.now.state in
    let d = c.args.dev in
    let there : at s.asks d ≡ Some c.in-Some.row = sym (ap (λ (t : List (DevNo × AskRow)). at t d) c.asks.ensures) ∙ (sym c.get.ensures ∙ c.in-Some.is) in
    ap (λ (n : ℕ). n ∷ []) c.flag.ensures ∙ ap (λ (b : Bool). one_if b ∷ []) (quiet_there s d c.in-Some.row there)

pub returns-in-None : goal.returns-in-None
returns-in-None c =
    let s = c.args.state.now.state in
    let d = c.args.dev in
    let none : at s.asks d ≡ None = sym (ap (λ (t : List (DevNo × AskRow)). at t d) c.asks.ensures) ∙ (sym c.get.ensures ∙ c.in-None.is) in
    ap (λ (b : Bool). one_if b ∷ []) (sym (quiet_lacks s d none))
