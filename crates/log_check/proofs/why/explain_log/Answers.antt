use Rattle.std.proofs.Common.{List, ap, length, arith}
use Rattle.std.specs.List.{slice_get}
use Rattle.std.specs.Option.{option_map}
use Rattle.irq_base.specs.declared.lines.LineDef.{LineDef}
use Rattle.log_check.proofs.NewJudges.{makes_for, row_of}
use Rattle.log_check.proofs.OneUndue.{made_new, of_place, unknown, within}
use Rattle.log_check.proofs.why.explain_log.Goals as goal

pub returns-in_default-clause-explains : goal.returns-in_default-clause-explains
returns-in_default-clause-explains g c = λ i x said at is all.
    absurd (unknown c.args.board.now c.args.number i x c.in_default.ensures at is)

pub index_mut-requires : goal.index_mut-requires
index_mut-requires g c =
    let inside = within c.args.board.now c.is_board.ensures.board c.args.number c.in-Some.place c.in-Some.ensures c.in_ok-defs.defs.items
    c.in_ok-defs.ensures.defs in
    omega (arith, inside, c.in_ok-defs.defs.ok)

pub make_line-requires : goal.make_line-requires
make_line-requires g c =
    let b = c.args.board.now in
    let defs = c.in_ok-defs.defs.items in
    makes_for b defs c.in-Some.place c.index_mut.result.now
    (within b c.is_board.ensures.board c.args.number c.in-Some.place c.in-Some.ensures defs c.in_ok-defs.ensures.defs)
    (ap length c.in_ok-defs.ensures.defs) (ap (λ (ds : List LineDef). slice_get ds c.in-Some.place) c.in_ok-defs.ensures.defs)
    c.index_mut.ensures.value (g.M.MakesLine.makes c.args.maker.now) c.get.result c.args.layout.now c.requires.makes c.requires.layout c.get.ensures

pub find_undue-requires-clause-new : goal.find_undue-requires-clause-new
find_undue-requires-clause-new g c =
    made_new c.index_mut.result.now c.get.result (option_map g.L.IrqLine.seen c.in_ok-fresh.fresh) c.in_ok-fresh.ensures

pub returns-clause-explains : goal.returns-clause-explains
returns-clause-explains g c = λ i x said at is all.
    let b = c.args.board.now in
    let defs = c.in_ok-defs.defs.items in
    let row = row_of b defs c.in-Some.place c.index_mut.result.now
    (within b c.is_board.ensures.board c.args.number c.in-Some.place c.in-Some.ensures defs c.in_ok-defs.ensures.defs)
    (ap length c.in_ok-defs.ensures.defs) (ap (λ (ds : List LineDef). slice_get ds c.in-Some.place) c.in_ok-defs.ensures.defs)
    c.index_mut.ensures.value in
    c.find_undue.ensures.explains _ b said
    (of_place b c.is_board.ensures.board c.args.number c.in-Some.place c.in-Some.ensures c.index_mut.result.now row c.args.layout.now c.get.result
    (option_map g.L.IrqLine.seen c.in_ok-fresh.fresh) c.requires.layout c.get.ensures c.in_ok-fresh.ensures i x at is) all
