use Rattle.std.proofs.Common.{[], ◌∷◌, ◌++◌, inr, sym, ◌∙◌, arith}
use Rattle.std.proofs.lemmas.Option.{slice_get_within}
use Rattle.log_read.proofs.Telling.{undeclared, unallowed, present}
use Rattle.log_read.proofs.reading.add_row.Goals as goal

pub returns-in_default-place_of : goal.returns-in_default-place_of
returns-in_default-place_of c =
    undeclared c.args.board.now (c.args.row.now ++ 10 ∷ []) c.in-Some.line c.in-Some.entry c.in-Some.ensures c.in_default-place_of.ensures
    (sym c.begins_with_hash.ensures ∙ c.if-begins_with_hash.false)

pub returns-then-not-may_have : goal.returns-then-not-may_have
returns-then-not-may_have c =
    unallowed c.args.board.now (c.args.row.now ++ 10 ∷ []) c.in-Some.line c.in-Some.entry c.in-Some.ensures
    (sym c.may_have.ensures ∙ c.if-not-may_have.true) (sym c.begins_with_hash.ensures ∙ c.if-begins_with_hash.false)

pub add-requires : goal.add-requires
add-requires c =
    let at = c.in-Some-place_of.ensures in
    let within = slice_get_within c.args.board.now.lines c.in-Some-place_of.place at.0 at.1 in omega (arith, within, c.requires)

pub returns : goal.returns
returns c =
    let lines = c.args.board.now.lines in
    let at = c.in-Some-place_of.ensures in
    inr (
      (c.in-Some.line, c.in-Some.entry),
      c.in-Some-place_of.place,
      record {
        formed = c.in-Some.ensures;
        allowed = sym c.may_have.ensures ∙ c.if-not-may_have.false;
        declared = present lines c.in-Some.line c.in-Some-place_of.place at;
      },
      sym c.begins_with_hash.ensures ∙ c.if-begins_with_hash.false,
      at,
      c.in_ok-add.ensures,
    )
