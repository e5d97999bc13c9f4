use Rattle.program_io.proofs.Telling.{told}
use Rattle.program_io.proofs.error_rows.tell_row.Goals as goal

pub returns-in-Ok : goal.returns-in-Ok
returns-in-Ok g c =
    let content = g.E.Sink.written in
    told c.args.row.now (content c.args.err.now) (content c.write_all.new.sink) (content c.flush.new.self) (g.E.Sink.kept c.flush.new.self)
    (g.E.Sink.faults c.args.err.now) (g.E.Sink.faults c.write_all.new.sink) (g.E.Sink.faults c.flush.new.self)
    c.in-Ok.ensures.content c.in-Ok.ensures.cause c.flush.ensures.content c.flush.result c.flush.ensures.emptied c.flush.ensures.cause
