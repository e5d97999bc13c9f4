use Rattle.std.proofs.Common.{ℕ, List, ◌++◌, ap, ◌∙◌}
use Rattle.line_futures.specs.Canon.{canon}
use Rattle.line_words.proofs.Whole.{if_ok, more_written}
use Rattle.line_words.proofs.more.write_all.Goals as goal

pub returns : goal.returns
returns c =
    if_ok c.write_runs.result
    (more_written c.args.def.now (canon c.args.state.now.state) c.args.words.now.items c.extend_from_slice.new.self.items c.write_quiets.new.words.items
    c.write_runs.new.words.items
    (c.in_ok-extend_from_slice.ensures.items ∙ ap (λ (k : List ℕ). c.args.words.now.items ++ k) c.work_words.ensures)
    c.in_ok-write_quiets.ensures)
    c.write_runs.ensures
