use Rattle.std.proofs.Common.{◌≡◌, Some, None, List, ap, sym, ◌∙◌}
use Rattle.irq_base.specs.declared.numbers.DevNo.{DevNo}
use Rattle.device_table.specs.Rows.{at}
use Rattle.ask_counts.specs.Facts.{facts_at}
use Rattle.ask_counts.specs.declared.facts.DeviceFacts.{DeviceFacts}
use Rattle.ask_counts.specs.declared.rows.AskRow.{AskRow}
use Rattle.line_words.proofs.Looking.{row_there, row_lacks}
use Rattle.line_words.proofs.telling.ask_row.Goals as goal

pub returns-in-Some : goal.returns-in-Some
returns-in-Some c =
    let s = c.args.state.now.state in
    let d = c.args.dev in
    let there : at s.asks d ≡ Some c.in-Some.row = sym (ap (λ (t : List (DevNo × AskRow)). at t d) c.asks.ensures) ∙ (sym c.get.ensures ∙ c.in-Some.is) in
    row_there s d c.in-Some.row c.canon_row.result c.is_serving-serving.result c.is_working-handler.result
    c.is_thread_working-thread.result c.get-facts.result.serving
    there c.canon_row.ensures c.is_serving-serving.ensures c.is_working-handler.ensures c.is_thread_working-thread.ensures
    (ap (λ (f : DeviceFacts). f.serving) (c.get-facts.ensures ∙ ap (λ (t : List (DevNo × DeviceFacts)). facts_at t d) c.facts.ensures))

pub returns-in-None : goal.returns-in-None
returns-in-None c =
    let s = c.args.state.now.state in
    let d = c.args.dev in
    let none : at s.asks d ≡ None = sym (ap (λ (t : List (DevNo × AskRow)). at t d) c.asks.ensures) ∙ (sym c.get.ensures ∙ c.in-None.is) in
    row_lacks s d none
