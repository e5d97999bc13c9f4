use Rattle.std.proofs.Common.{Bool, ℕ, List, Err, ap, arith, length, subst}
use Rattle.std.proofs.lemmas.Result.{err_from_is_err_and}
use Rattle.std.specs.Global.{Global}
use Rattle.std.specs.declared.vec.Vec.{Vec}
use Rattle.irq_io.specs.Faults.{Counts}
use Rattle.irq_check.specs.Checked.{Checks, IsChecked}
use Rattle.irq_check.proofs.WholeInput.{content, said, unjudged, unjudged_fault, unread, unread_fault}
use Rattle.irq_check.proofs.inputs.check_input.Goals as goal

pub returns-clause-content : goal.returns-clause-content
returns-clause-content g c =
    let answer = c.in_ok-answer.answer in
    content c.args.why (g.S.Source.left c.args.src.now) (g.S.Source.left c.read_up_to.new.source) c.in_ok-bytes.bytes.items answer c.in_ok-bytes.ensures.content
    (subst (λ (xs : List ℕ). IsChecked c.args.why xs answer) c.as_slice.ensures.value c.in_ok-answer.ensures.exact)

pub returns-clause-said : goal.returns-clause-said
returns-clause-said g c =
    let answer = c.in_ok-answer.answer in
    said c.args.why (g.S.Source.left c.args.src.now) (g.S.Source.left c.read_up_to.new.source) c.in_ok-bytes.bytes.items answer c.in_ok-bytes.ensures.content
    (subst (λ (xs : List ℕ). IsChecked c.args.why xs answer) c.as_slice.ensures.value c.in_ok-answer.ensures.exact)

pub returns-in_err-bytes-clause-content : goal.returns-in_err-bytes-clause-content
returns-in_err-bytes-clause-content g c =
    let p = err_from_is_err_and c.from_residual.result c.from_residual.ensures.1 in
    rw (p.1, p.2) (unread c.args.why (g.S.Source.left c.args.src.now) (g.S.Source.left c.read_up_to.new.source) c.in_err-bytes.field-0.0)

pub returns-in_err-bytes-clause-cause : goal.returns-in_err-bytes-clause-cause
returns-in_err-bytes-clause-cause g c =
    let p = err_from_is_err_and c.from_residual.result c.from_residual.ensures.1 in
    rw (p.1, p.2) (subst (λ (fault : Bool). Counts (g.S.Source.faults c.args.src.now) (g.S.Source.faults c.read_up_to.new.source) fault)
    (unread_fault (Vec ℕ Global) c.in_err-bytes.field-0.0) c.in_err-bytes.ensures.cause)

pub returns-in_err-answer-clause-content : goal.returns-in_err-answer-clause-content
returns-in_err-answer-clause-content g c =
    let p = err_from_is_err_and c.from_residual-in_err-answer.result c.from_residual-in_err-answer.ensures.1 in
    rw (p.1, p.2) (unjudged c.args.why (g.S.Source.left c.args.src.now) (g.S.Source.left c.read_up_to.new.source) c.in_ok-bytes.bytes.items
    c.in_err-answer.field-0.0 c.in_ok-bytes.ensures.content
    (omega (arith, c.as_slice.ensures.len, ap length c.as_slice.ensures.value, c.in_ok-bytes.ensures.bound))
    (subst (λ (text : List ℕ). Checks c.args.why text (Err c.in_err-answer.field-0.0)) c.as_slice.ensures.value c.in_err-answer.ensures.exact))

pub returns-in_err-answer-clause-cause : goal.returns-in_err-answer-clause-cause
returns-in_err-answer-clause-cause g c =
    let p = err_from_is_err_and c.from_residual-in_err-answer.result c.from_residual-in_err-answer.ensures.1 in
    rw (p.1, p.2) (rw (unjudged_fault c.in_err-answer.field-0.0) c.in_ok-bytes.ensures.cause)
