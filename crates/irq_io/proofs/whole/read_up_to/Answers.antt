use Rattle.std.proofs.Common.{OnErr, Result, Ok, Err, ◌++◌, take, ℕ, arith}
use Rattle.std.proofs.lemmas.List.{length-append, length-take}
use Rattle.irq_io.proofs.Pieces.{ReadSoFar-more, TakesAtMost-so_far}
use Rattle.irq_io.proofs.whole.read_up_to.Goals as goal

OnErr-always : {T E : Type 0} (P : Type 0) (r : Result T E) → P → OnErr r P
OnErr-always P (Ok x) h = tt
OnErr-always P (Err e) h = h

pub returns-in_err-extend_from_slice-in-Got-clause-refused : goal.returns-in_err-extend_from_slice-in-Got-clause-refused
returns-in_err-extend_from_slice-in-Got-clause-refused g c =
    let count = c.in-Got.count in
    let all = c.loop-buf.all.items in
    OnErr-always _ c.from_residual.result
    (TakesAtMost-so_far c.args.most _ _ (all ++ take count c.read.new.buf)
    (ReadSoFar-more _ _ _ all _ count c.loop-buf.invariant.content c.in-Got.ensures.content)
    (omega (
      arith,
      length-append all (take count c.read.new.buf),
      length-take count c.read.new.buf,
      c.in-Got.ensures.bound.1,
      c.min-room.ensures,
      c.loop-buf.all.ok.0,
      length-take {A = ℕ},
    )))
