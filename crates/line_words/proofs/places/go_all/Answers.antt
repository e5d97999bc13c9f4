use Rattle.std.proofs.Common.{◌≡◌, ◌+◌, ◌*◌, ℕ, List, drop, get_or, ap, sym, ◌∙◌, arith}
use Rattle.std.proofs.lemmas.List.{drop-drop, at_drop_more}
use Rattle.irq_base.specs.declared.numbers.DriverNo.{DriverNo}
use Rattle.line_scripts.specs.Rows.{RowSeen, gone_to}
use Rattle.line_words.specs.Reading.{go_all, word_at}
use Rattle.line_words.proofs.places.go_all.Goals as goal

pub loop-driver-preserved : goal.loop-driver-preserved
loop-driver-preserved c =
    let i = c.loop-driver.driver-index in
    let ws = c.args.words.now in
    let rs : List DriverNo = c.args.drivers.now in
    let left : List ℕ = c.loop-driver.left.now in
    let none : DriverNo = record { 0 = 0 } in
    let s : List (DriverNo × RowSeen) = c.loop-driver.scripts in
    let went : c.go_to.new.self ≡ gone_to (get_or rs i none) (word_at left 0) (word_at left 1) s =
    c.go_to.ensures ∙ (ap (λ n. gone_to (get_or rs i none) n c.word-in-loop-driver.result s) c.word.ensures
    ∙ ap (λ n. gone_to (get_or rs i none) (word_at left 0) n s) c.word-in-loop-driver.ensures) in
    record {
      scripts = ap (λ (m : List ℕ). go_all (drop (i + 1) rs) m c.go_to.new.self) c.behind-left.ensures
          ∙ (ap (λ (x : List (DriverNo × RowSeen)). go_all (drop (i + 1) rs) (drop 2 left) x) went
          ∙ (sym (at_drop_more (λ (xs : List DriverNo). go_all xs left s) rs i none c.loop-driver-test.true)
          ∙ c.loop-driver.invariant.scripts));
      left = c.behind-left.ensures ∙ (ap (λ (m : List ℕ). drop 2 m) c.loop-driver.invariant.left ∙ (drop-drop 2 (2 * i) ws
          ∙ ap (λ (n : ℕ). drop n ws) (omega arith)));
    }
