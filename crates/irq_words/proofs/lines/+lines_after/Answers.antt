use Rattle.std.proofs.Common.{ℕ, List, [], ◌∷◌, ◌++◌, Some, None, ap, subst, map, Bor}
use Rattle.irq_base.specs.declared.numbers.LineNo.{LineNo}
use Rattle.log_read.specs.Takes.{Reads}
use Rattle.irq_words.specs.Lines.{IsAfter, RiseAfter, line_word}
use Rattle.irq_words.specs.Reading.{ReadsAfter}
use Rattle.irq_words.proofs.LineWords.{not_line, with_line}
use Rattle.irq_words.proofs.lines.+lines_after.Goals as goal

pub returns-in_default-line_after : goal.returns-in_default-line_after
returns-in_default-line_after t c =
    let first : Reads (IsAfter c.args.last) line_word c.in-Some.first.now.now None =
    subst (λ (w : List ℕ). Reads (IsAfter c.args.last) line_word w None) c.as_bytes.ensures.value c.in_default-line_after.ensures in
    rw (ap (map (λ (w : Bor (List ℕ)). w.now)) c.in-Some.ensures.cases.0) (not_line c.args.last c.in-Some.first.now.now _ first)

pub returns : goal.returns
returns t c =
    let line = c.in-Some-line_after.line in
    let texts = map (λ (w : Bor (List ℕ)). w.now) c.in-Some.rest.now in
    let first : Reads (IsAfter c.args.last) line_word c.in-Some.first.now.now (Some line) =
    subst (λ (w : List ℕ). Reads (IsAfter c.args.last) line_word w (Some line)) c.as_bytes.ensures.value c.in-Some-line_after.ensures in
    let others : ReadsAfter (RiseAfter line.0) line_word (c.args.before ++ line ∷ []) texts c.lines_after.result =
    subst (λ (ls : List LineNo). ReadsAfter (RiseAfter line.0) line_word ls texts c.lines_after.result) c.push.ensures c.lines_after.ensures in
    rw (ap (map (λ (w : Bor (List ℕ)). w.now)) c.in-Some.ensures.cases.0)
    (with_line c.args.last c.in-Some.first.now.now texts line first c.args.before c.lines_after.result others)
