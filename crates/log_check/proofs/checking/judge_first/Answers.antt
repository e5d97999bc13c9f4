use Rattle.std.proofs.Common.{ℕ, Bor, Option, Some, List, sym, ap, ◌∙◌, arith}
use Rattle.std.specs.Option.{option_map}
use Rattle.std.proofs.lemmas.Option.{slice_get_within}
use Rattle.log_check.specs.JudgeSeen.{JudgeSeen}
use Rattle.log_check.proofs.Lines.{judged_if, passes, there, unknown_line}
use Rattle.log_check.proofs.checking.judge_first.Goals as goal

pub returns-then-begins_with_hash : goal.returns-then-begins_with_hash
returns-then-begins_with_hash g c = passes c.args.text.now c.args.board.now c.args.judges.now.items _ c.pass_over.ensures

pub returns-in_default-place_of : goal.returns-in_default-place_of
returns-in_default-place_of g c =
    unknown_line c.args.text.now c.args.board.now c.in-Some.line c.in-Some.actor (sym c.begins_with_hash.ensures ∙ c.if-begins_with_hash.false)
    c.in-Some.ensures c.in_default-place_of.ensures

pub index_mut-requires : goal.index_mut-requires
index_mut-requires g c =
    let at = c.in-Some-place_of.ensures in
    let within = slice_get_within c.args.board.now.lines c.in-Some-place_of.place at.0 at.1 in omega (arith, within, c.requires.many)

pub take-requires-clause-room : goal.take-requires-clause-room
take-requires-clause-room g c =
    let at = c.in-Some-place_of.ensures in
    let judge = c.index_mut.result.now in
    let within = slice_get_within c.args.board.now.lines c.in-Some-place_of.place at.0 at.1 in
    c.requires.room c.in-Some-place_of.place judge
    (there c.args.judges.now.items c.in-Some-place_of.place judge (omega (arith, within, c.requires.many))
    ∙ ap (λ (j : JudgeSeen). Some j) (sym c.index_mut.ensures.value))

pub returns : goal.returns
returns g c =
    judged_if c.args.board.now c.is_board.ensures.board c.args.text.now (sym c.begins_with_hash.ensures ∙ c.if-begins_with_hash.false) c.in-Some.line
    c.in-Some-place_of.place c.in-Some-place_of.ensures c.args.judges.now.items c.index_mut.result.now c.take.new.self
    (λ (o : Option (Bor (List ℕ))). option_map (λ (t : Bor (List ℕ)). t.now) o) c.requires.many c.index_mut.ensures.value c.take.result c.take.ensures
