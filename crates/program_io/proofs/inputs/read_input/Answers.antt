use Rattle.std.proofs.Common.{Bool, ℕ, List, Err, ◌∙◌, ap, arith, length, subst, sym}
use Rattle.std.proofs.lemmas.Result.{err_from_is_err_and}
use Rattle.std.specs.Global.{Global}
use Rattle.std.specs.declared.vec.Vec.{Vec}
use Rattle.irq_io.specs.Faults.{Counts}
use Rattle.board_text.specs.Given.{Gives}
use Rattle.board_stated.specs.TextOf.{board_of_text}
use Rattle.program_io.proofs.Stated.{content, stated, unread, unread_fault, unstated, unstated_fault}
use Rattle.program_io.proofs.inputs.read_input.Goals as goal

pub returns-clause-content : goal.returns-clause-content
returns-clause-content g c =
    content (g.S.Source.left c.args.src.now) (g.S.Source.left c.read_up_to.new.source) c.in_ok-bytes.bytes.items c.in_ok-board.board
    c.in_ok-bytes.ensures.content (ap board_of_text (sym c.as_slice.ensures.value) ∙ c.in_ok-board.ensures.exact)

pub returns-clause-stated : goal.returns-clause-stated
returns-clause-stated g c =
    stated (g.S.Source.left c.args.src.now) (g.S.Source.left c.read_up_to.new.source) c.in_ok-bytes.bytes.items c.in_ok-board.board
    c.in_ok-bytes.ensures.content (ap board_of_text (sym c.as_slice.ensures.value) ∙ c.in_ok-board.ensures.exact)

pub returns-in_err-bytes-clause-content : goal.returns-in_err-bytes-clause-content
returns-in_err-bytes-clause-content g c =
    let p = err_from_is_err_and c.from_residual.result c.from_residual.ensures.1 in
    rw (p.1, p.2) (unread (g.S.Source.left c.args.src.now) (g.S.Source.left c.read_up_to.new.source) c.in_err-bytes.field-0.0)

pub returns-in_err-bytes-clause-cause : goal.returns-in_err-bytes-clause-cause
returns-in_err-bytes-clause-cause g c =
    let p = err_from_is_err_and c.from_residual.result c.from_residual.ensures.1 in
    rw (p.1, p.2) (subst (λ (fault : Bool). Counts (g.S.Source.faults c.args.src.now) (g.S.Source.faults c.read_up_to.new.source) fault)
    (unread_fault (Vec ℕ Global) c.in_err-bytes.field-0.0) c.in_err-bytes.ensures.cause)

pub returns-in_err-board-clause-content : goal.returns-in_err-board-clause-content
returns-in_err-board-clause-content g c =
    let p = err_from_is_err_and c.from_residual-in_err-board.result c.from_residual-in_err-board.ensures.1 in
    rw (p.1, p.2) (unstated (g.S.Source.left c.args.src.now) (g.S.Source.left c.read_up_to.new.source) c.in_ok-bytes.bytes.items
    c.in_err-board.field-0.0 c.in_ok-bytes.ensures.content
    (omega (arith, c.as_slice.ensures.len, ap length c.as_slice.ensures.value, c.in_ok-bytes.ensures.bound))
    (subst (λ (text : List ℕ). Gives (board_of_text text) (Err c.in_err-board.field-0.0)) c.as_slice.ensures.value c.in_err-board.ensures.exact))

pub returns-in_err-board-clause-cause : goal.returns-in_err-board-clause-cause
returns-in_err-board-clause-cause g c =
    let p = err_from_is_err_and c.from_residual-in_err-board.result c.from_residual-in_err-board.ensures.1 in
    rw (p.1, p.2) (rw (unstated_fault c.in_err-board.field-0.0) c.in_ok-bytes.ensures.cause)
