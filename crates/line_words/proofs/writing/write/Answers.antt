use Rattle.std.proofs.Common.{◌++◌, ℕ, List, ap, ◌∙◌}
use Rattle.line_words.proofs.Whole.{if_ok, all_written}
use Rattle.line_words.proofs.writing.write.Goals as goal

pub returns : goal.returns
returns c =
    let w1 : List ℕ = c.extend_from_slice.new.self.items in
    let w2 : List ℕ = c.extend_from_slice-2.new.self.items in
    if_ok c.write_linked.result
    (all_written c.args.def.now c.args.more c.args.state.now.state c.args.scripts.now c.args.drivers.now c.args.words.now.items w1 w2
    c.extend_from_slice-3.new.self.items c.write_begun.new.words.items c.write_threads.new.words.items c.write_asks.new.words.items
    c.write_more.new.words.items c.write_places.new.words.items c.write_linked.new.words.items
    (c.in_ok-extend_from_slice.ensures.items ∙ ap (λ (k : List ℕ). c.args.words.now.items ++ k) c.desc_words.ensures)
    (c.in_ok-extend_from_slice-2.ensures.items ∙ ap (λ (k : List ℕ). w1 ++ k) c.round_words.ensures)
    (c.in_ok-extend_from_slice-3.ensures.items ∙ ap (λ (k : List ℕ). w2 ++ k) c.freeing_words.ensures)
    c.in_ok-write_begun.ensures c.in_ok-write_threads.ensures c.in_ok-write_asks.ensures c.in_ok-write_more.ensures c.in_ok-write_places.ensures)
    c.write_linked.ensures
