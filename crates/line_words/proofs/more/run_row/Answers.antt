use Rattle.std.proofs.Common.{ap, ◌∙◌}
use Rattle.run_scripts.specs.Places.{row_at}
use Rattle.run_scripts.specs.Runs.{RunsSeen}
use Rattle.line_words.proofs.Looking.{run_there}
use Rattle.line_words.proofs.more.run_row.Goals as goal

pub returns : goal.returns
returns c =
    run_there c.args.state.now.state c.args.dev c.row-row.result c.canon_run.result c.is_working-handler.result c.is_thread_working-thread.result
    (c.row-row.ensures ∙ ap (λ (r : RunsSeen). row_at r.places.rows c.args.dev) c.runs.ensures)
    c.canon_run.ensures c.is_working-handler.ensures c.is_thread_working-thread.ensures
