-- A run that serves nothing leaves the state as it is.
use Rattle.std.proofs.Common.{◌≡◌, Bool, true, false, ◌&&◌, cond, ltb, Option, Some, None, List, refl, sym, ap, ◌∙◌}
use Rattle.irq_base.specs.Cell.{after_high}
use Rattle.irq_base.specs.declared.lines.LineDef.{LineDef}
use Rattle.irq_base.specs.declared.numbers.DevNo.{DevNo}
use Rattle.irq_model.specs.Lines.{is_level_line}
use Rattle.device_table.specs.Rows.{at, change, changed}
use Rattle.ask_counts.specs.Rows.{served}
use Rattle.ask_counts.specs.declared.rows.AskRow.{AskRow}
use Rattle.ask_counts.proofs.Serving.{served_stands}
use Rattle.line_marks.specs.Acts.{lowered}
use Rattle.line_marks.specs.State.{StateSeen, high_in}

none : (b : Bool) → (b && false) ≡ false
none true = refl
none false = refl

asks_stand : (t : List (DevNo × AskRow)) (d : DevNo) (b : Bool) → b ≡ false → change (served b) t d ≡ t
asks_stand t d b h = by_row (at t d) refl
  where
    by_row : (o : Option AskRow) → at t d ≡ o → change (served b) t d ≡ t
    by_row None is = ap (changed (served b) t d) is
    by_row (Some r) is = sym (served_stands t d r b h (sym is))

pub serves_nothing : (def : LineDef) (s : StateSeen) (d : DevNo) (b : Bool) → s ≡ lowered def 0 (record s { asks = change (served (b && ltb 0 0)) s.asks d })
serves_nothing def s d b =
    let still : change (served (b && ltb 0 0)) s.asks d ≡ s.asks = asks_stand s.asks d (b && ltb 0 0) (none b) in
    sym (ap (λ t. lowered def 0 (record s { asks = t })) still
    ∙ ap (λ k. record s { cell = cond k (after_high (high_in s.asks) s.cell) s.cell }) (none (is_level_line def)))
